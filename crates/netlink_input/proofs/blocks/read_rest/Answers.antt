use Rattle.std.proofs.Common.{rules, ◌≡◌, ◌≤◌, ◌<◌, ◌+◌, ◌-◌, ◌∙◌, refl, ap, sym, arith, ℕ, List, ◌++◌, Option, Some, None, length, length-append, append_assoc}
use Rattle.std.proofs.KnownBytes.{Consumes-trans}
use Rattle.std.proofs.lemmas.Bool.{eq-eqb, ne_eqb}
use Rattle.std.proofs.lemmas.Result.{err_from_is_err_and}
use Rattle.std.specs.Prelude.{Bool, if◌then◌else◌, nat_eq}
use Rattle.netlink_input.specs.Block.{kept_size}
use Rattle.netlink_input.specs.BlockLaws.{ends_cut, ends_full, fails_gap, fails_last}
use Rattle.netlink_input.specs.declared.pcap.PcapFault.{PcapFault}
use Rattle.netlink_input.specs.declared.pcap.PcapFault.TheVariants.{BlockEnds}
use Rattle.netlink_input.proofs.blocks.read_rest.Goals as goal

pub returns-in_err-skipped-clause-fault : goal.returns-in_err-skipped-clause-fault
returns-in_err-skipped-clause-fault g c =
    let k : ℕ = c.kept_size-kept.result in
    let (body, is, took, most, end) = c.in_ok-read_up_to.ensures.reads in
    let start : length c.read_up_to.new.bytes.items ≡ k = search rules in
    let room : k + 4 ≤ c.args.block.size = search rules in
    let p = err_from_is_err_and c.from_residual-in_err-skipped.result c.from_residual-in_err-skipped.ensures.1 in
    rw (p.1, p.2) (fails_gap c.args.block.size k (g.R.Read.remaining c.args.reader.now)
    (g.R.Read.remaining c.read_up_to.new.reader) (g.R.Read.remaining c.skip.new.reader) c.args.head.now.items body
    c.read_up_to.new.bytes.items _ is took start room c.in_err-skipped.ensures.fault)

pub returns-then-skipped-gap-clause-ends : goal.returns-then-skipped-gap-clause-ends
returns-then-skipped-gap-clause-ends g c =
    let k : ℕ = c.kept_size-kept.result in
    let (body, is, took, most, end) = c.in_ok-read_up_to.ensures.reads in
    let (gap, skipped, size) = c.in_ok-skipped.ensures.taken in
    let start : length c.read_up_to.new.bytes.items ≡ k = search rules in
    let room : k + 4 ≤ c.args.block.size = search rules in
    let long : length (c.args.head.now.items ++ (body ++ gap)) ≡ k + c.in_ok-skipped.skipped =
    ap length (sym (append_assoc c.args.head.now.items body gap)) ∙ ap (λ (l : List ℕ). length (l ++ gap)) (sym is)
    ∙ omega (arith, length-append c.read_up_to.new.bytes.items gap, start, size) in
    ends_cut c.args.block (g.R.Read.remaining c.args.reader.now) (g.R.Read.remaining c.skip.new.reader) c.args.head.now.items
    (body ++ gap) _ (k + c.in_ok-skipped.skipped)
    (Consumes-trans _ (g.R.Read.remaining c.read_up_to.new.reader) _ body gap took skipped) long
    (omega (arith, c.if-skipped-gap.true, room)) (c.in_ok-skipped.ensures.end (omega (arith, c.if-skipped-gap.true)))

pub returns-in_err-read_up_to-2-clause-fault : goal.returns-in_err-read_up_to-2-clause-fault
returns-in_err-read_up_to-2-clause-fault g c =
    let k : ℕ = c.kept_size-kept.result in
    let (body, is, took, most, end) = c.in_ok-read_up_to.ensures.reads in
    let (gap, skipped, size) = c.in_ok-skipped.ensures.taken in
    let start : length c.read_up_to.new.bytes.items ≡ k = search rules in
    let room : k + 4 ≤ c.args.block.size = search rules in
    let p = err_from_is_err_and c.from_residual-in_err-read_up_to-2.result c.from_residual-in_err-read_up_to-2.ensures.1 in
    rw (p.1, p.2) (fails_last c.args.block.size k (g.R.Read.remaining c.args.reader.now)
    (g.R.Read.remaining c.read_up_to.new.reader) (g.R.Read.remaining c.skip.new.reader)
    (g.R.Read.remaining c.read_up_to-2.new.reader) c.args.head.now.items body gap c.read_up_to.new.bytes.items _ is took skipped
    start (omega (arith, size, c.in_ok-skipped.ensures.most)) room c.in_err-read_up_to-2.ensures.fault)

pub returns-then-len-kept-2-clause-ends : goal.returns-then-len-kept-2-clause-ends
returns-then-len-kept-2-clause-ends g c =
    let k : ℕ = c.kept_size-kept.result in
    let (body, is, took, most, end) = c.in_ok-read_up_to.ensures.reads in
    let (gap, skipped, size) = c.in_ok-skipped.ensures.taken in
    let (last, all, after, few, later) = c.in_ok-read_up_to-2.ensures.reads in
    let one : List ℕ = c.read_up_to.new.bytes.items in
    let two : List ℕ = c.read_up_to-2.new.bytes.items in
    let start : length one ≡ k = search rules in
    let room : k + 4 ≤ c.args.block.size = search rules in
    let there : c.len-then-len-kept-2.result ≡ length two = search rules in
    let short : length two < k + 4 = search rules in
    let whole : c.args.head.now.items ++ (body ++ (gap ++ last)) ≡ (one ++ gap) ++ last =
    sym (append_assoc c.args.head.now.items body (gap ++ last)) ∙ ap (λ (l : List ℕ). l ++ (gap ++ last)) (sym is)
    ∙ sym (append_assoc one gap last) in
    let full : length gap ≡ c.args.block.size - (k + 4) =
    omega (arith, size, c.in_ok-skipped.ensures.most, c.if-skipped-gap.false) in
    let long : length (c.args.head.now.items ++ (body ++ (gap ++ last))) ≡ c.len-then-len-kept-2.result + (c.args.block.size - (k + 4)) =
    omega (
      arith,
      ap length whole,
      length-append (one ++ gap) last,
      length-append one gap,
      ap length all,
      length-append one last,
      there,
      full,
    ) in
    ends_cut c.args.block (g.R.Read.remaining c.args.reader.now) (g.R.Read.remaining c.read_up_to-2.new.reader)
    c.args.head.now.items (body ++ (gap ++ last)) _ (c.len-then-len-kept-2.result + (c.args.block.size - (k + 4)))
    (Consumes-trans _ (g.R.Read.remaining c.read_up_to.new.reader) _ body (gap ++ last) took
    (Consumes-trans _ (g.R.Read.remaining c.skip.new.reader) _ gap last skipped after)) long
    (omega (arith, short, there, room)) (later short)

pub returns-then-end-block-clause-ends : goal.returns-then-end-block-clause-ends
returns-then-end-block-clause-ends g c =
    let k : ℕ = c.kept_size-kept.result in
    let (body, is, took, most, end) = c.in_ok-read_up_to.ensures.reads in
    let (gap, skipped, size) = c.in_ok-skipped.ensures.taken in
    let (last, all, after, few, later) = c.in_ok-read_up_to-2.ensures.reads in
    let one : List ℕ = c.read_up_to.new.bytes.items in
    let two : List ℕ = c.read_up_to-2.new.bytes.items in
    let start : length one ≡ k = search rules in
    let room : k + 4 ≤ c.args.block.size = search rules in
    let long : length two ≡ k + 4 = search rules in
    let full : length gap ≡ c.args.block.size - (k + 4) =
    omega (arith, size, c.in_ok-skipped.ensures.most, c.if-skipped-gap.false) in
    let other : Some (BlockEnds c.args.block.size c.u32_in-end.result)
    ≡ (if nat_eq c.u32_in-end.result c.args.block.size then None else Some (BlockEnds c.args.block.size c.u32_in-end.result)) =
    sym (ap (λ (b : Bool). if b then None else Some (BlockEnds c.args.block.size c.u32_in-end.result))
    (ne_eqb c.u32_in-end.result c.args.block.size c.if-end-block.true)) in
    ends_full c.args.block (g.R.Read.remaining c.args.reader.now) (g.R.Read.remaining c.read_up_to.new.reader)
    (g.R.Read.remaining c.skip.new.reader) (g.R.Read.remaining c.read_up_to-2.new.reader) c.args.head.now.items body gap last one two
    c.truncate.new.self.items k c.u32_in-end.result _ is all took skipped after start long full room (search rules) (search rules)
    c.truncate.ensures.items other

pub returns-clause-ends : goal.returns-clause-ends
returns-clause-ends g c =
    let k : ℕ = c.kept_size-kept.result in
    let (body, is, took, most, end) = c.in_ok-read_up_to.ensures.reads in
    let (gap, skipped, size) = c.in_ok-skipped.ensures.taken in
    let (last, all, after, few, later) = c.in_ok-read_up_to-2.ensures.reads in
    let one : List ℕ = c.read_up_to.new.bytes.items in
    let two : List ℕ = c.read_up_to-2.new.bytes.items in
    let start : length one ≡ k = search rules in
    let room : k + 4 ≤ c.args.block.size = search rules in
    let long : length two ≡ k + 4 = search rules in
    let full : length gap ≡ c.args.block.size - (k + 4) =
    omega (arith, size, c.in_ok-skipped.ensures.most, c.if-skipped-gap.false) in
    let same : ◌≡◌ {A = Option PcapFault} None
    (if nat_eq c.u32_in-end.result c.args.block.size then None else Some (BlockEnds c.args.block.size c.u32_in-end.result)) =
    sym (ap (λ (b : Bool). if b then None else Some (BlockEnds c.args.block.size c.u32_in-end.result))
    (eq-eqb c.u32_in-end.result c.args.block.size c.if-end-block.false)) in
    ends_full c.args.block (g.R.Read.remaining c.args.reader.now) (g.R.Read.remaining c.read_up_to.new.reader)
    (g.R.Read.remaining c.skip.new.reader) (g.R.Read.remaining c.read_up_to-2.new.reader) c.args.head.now.items body gap last one two
    c.truncate.new.self.items k c.u32_in-end.result _ is all took skipped after start long full room (search rules) (search rules)
    c.truncate.ensures.items same
