use Rattle.std.proofs.Common.{rules, ◌≡◌, ◌≤◌, ◌+◌, ◌∙◌, refl, sym, arith, ℕ, List, ◌++◌, Ok, Err, length}
use Rattle.std.proofs.lemmas.Result.{err_from_is_err_and}
use Rattle.std.specs.Io.KnownBytes.{prepend_known}
use Rattle.netlink_input.specs.Block.{block_of, head_size, kept_size}
use Rattle.netlink_input.specs.BlockLaws.{ended_long, extent_kept, fails_block, gives_block, head_least, stops_block, stops_head}
use Rattle.netlink_input.proofs.blocks.read_block.Goals as goal

pub returns-in_err-read_rest-in-Ok-clause-fault : goal.returns-in_err-read_rest-in-Ok-clause-fault
returns-in_err-read_rest-in-Ok-clause-fault g c =
    let old = prepend_known c.args.block.now.items (g.R.Read.remaining c.args.reader.now) in
    let middle = g.R.Read.remaining c.read_head.new.reader in
    let head : List ℕ = c.read_head.new.block.items in
    let (took, most, end) = c.in_ok-read_head.ensures.head in
    let enough : head_size c.args.section.order head ≤ length head = search rules in
    let whole : length head ≡ head_size c.args.section.order head = omega (arith, most, enough) in
    let long : 8 ≤ length head = omega (arith, enough, head_least c.args.section.order head) in
    let is : block_of c.args.section head ≡ Ok c.in-Ok.next = rw c.deref-2.ensures.value at (sym c.block_of.ensures.is ∙ c.in-Ok.is) in
    let p = err_from_is_err_and c.from_residual-in_err-read_rest-in-Ok.result c.from_residual-in_err-read_rest-in-Ok.ensures.1 in
    rw (p.1, p.2) (fails_block c.args.section old middle (g.R.Read.remaining c.read_rest.new.reader) head c.in-Ok.next _ took long whole is
    c.in_err-read_rest-in-Ok.ensures.fault)

pub returns-in-None-clause-next : goal.returns-in-None-clause-next
returns-in-None-clause-next g c =
    let old = prepend_known c.args.block.now.items (g.R.Read.remaining c.args.reader.now) in
    let middle = g.R.Read.remaining c.read_head.new.reader in
    let head : List ℕ = c.read_head.new.block.items in
    let (took, most, end) = c.in_ok-read_head.ensures.head in
    let enough : head_size c.args.section.order head ≤ length head = search rules in
    let whole : length head ≡ head_size c.args.section.order head = omega (arith, most, enough) in
    let long : 8 ≤ length head = omega (arith, enough, head_least c.args.section.order head) in
    let is : block_of c.args.section head ≡ Ok c.in-Ok.next = rw c.deref-2.ensures.value at (sym c.block_of.ensures.is ∙ c.in-Ok.is) in
    let fits : kept_size c.in-Ok.next head + 4 ≤ c.in-Ok.next.size = rw c.deref-2.ensures.value at c.in-Ok.ensures.room in
    let (more, after, less, later, stops, keeps) = rw c.in-None.is at c.in_ok-read_rest-in-Ok.ensures.ends in
    gives_block c.args.section old middle (g.R.Read.remaining c.read_rest.new.reader) head more c.read_rest.new.head.items c.in-Ok.next
    took after long whole is (omega (arith, fits)) less stops (keeps refl)

pub returns-in-None-clause-extent : goal.returns-in-None-clause-extent
returns-in-None-clause-extent g c =
    let old = prepend_known c.args.block.now.items (g.R.Read.remaining c.args.reader.now) in
    let middle = g.R.Read.remaining c.read_head.new.reader in
    let head : List ℕ = c.read_head.new.block.items in
    let (took, most, end) = c.in_ok-read_head.ensures.head in
    let enough : head_size c.args.section.order head ≤ length head = search rules in
    let whole : length head ≡ head_size c.args.section.order head = omega (arith, most, enough) in
    let long : 8 ≤ length head = omega (arith, enough, head_least c.args.section.order head) in
    let is : block_of c.args.section head ≡ Ok c.in-Ok.next = rw c.deref-2.ensures.value at (sym c.block_of.ensures.is ∙ c.in-Ok.is) in
    let fits : kept_size c.in-Ok.next head + 4 ≤ c.in-Ok.next.size = rw c.deref-2.ensures.value at c.in-Ok.ensures.room in
    let (more, after, less, later, stops, keeps) = rw c.in-None.is at c.in_ok-read_rest-in-Ok.ensures.ends in
    let enough : c.in-Ok.next.size ≤ length (head ++ more) = ended_long c.in-Ok.next (head ++ more) stops in
    extent_kept c.in-Ok.next.packet (length head) (head ++ more) c.read_rest.new.head.items (keeps refl)
    (omega (arith, fits, enough)) c.in-Ok.ensures.short

pub returns-in-Some-clause-next : goal.returns-in-Some-clause-next
returns-in-Some-clause-next g c =
    let old = prepend_known c.args.block.now.items (g.R.Read.remaining c.args.reader.now) in
    let middle = g.R.Read.remaining c.read_head.new.reader in
    let head : List ℕ = c.read_head.new.block.items in
    let (took, most, end) = c.in_ok-read_head.ensures.head in
    let enough : head_size c.args.section.order head ≤ length head = search rules in
    let whole : length head ≡ head_size c.args.section.order head = omega (arith, most, enough) in
    let long : 8 ≤ length head = omega (arith, enough, head_least c.args.section.order head) in
    let is : block_of c.args.section head ≡ Ok c.in-Ok.next = rw c.deref-2.ensures.value at (sym c.block_of.ensures.is ∙ c.in-Ok.is) in
    let (more, after, less, later, stops, keeps) = rw c.in-Some.is at c.in_ok-read_rest-in-Ok.ensures.ends in
    stops_block c.args.section old middle (g.R.Read.remaining c.read_rest.new.reader) head more c.in-Ok.next c.in-Some.why took after
    long whole is later stops

pub returns-in-Err-clause-next : goal.returns-in-Err-clause-next
returns-in-Err-clause-next g c =
    let old = prepend_known c.args.block.now.items (g.R.Read.remaining c.args.reader.now) in
    let middle = g.R.Read.remaining c.read_head.new.reader in
    let head : List ℕ = c.read_head.new.block.items in
    let (took, most, end) = c.in_ok-read_head.ensures.head in
    let enough : head_size c.args.section.order head ≤ length head = search rules in
    let whole : length head ≡ head_size c.args.section.order head = omega (arith, most, enough) in
    let long : 8 ≤ length head = omega (arith, enough, head_least c.args.section.order head) in
    let is : block_of c.args.section head ≡ Err c.in-Err.why = rw c.deref-2.ensures.value at (sym c.block_of.ensures.is ∙ c.in-Err.is) in
    stops_head c.args.section old middle head c.in-Err.why took long whole is

pub returns-then-size-least-clause-next : goal.returns-then-size-least-clause-next
returns-then-size-least-clause-next g c = search rules
