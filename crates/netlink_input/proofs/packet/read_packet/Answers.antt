use Rattle.std.proofs.Common.{rules, ◌≡◌, ◌≤◌, ◌+◌, ◌∙◌, refl, ap, arith, ℕ, List, ◌++◌, length, length-append}
use Rattle.std.proofs.lemmas.Result.{err_from_is_err_and}
use Rattle.std.specs.Io.KnownBytes.{Consumes}
use Rattle.netlink_input.specs.Packet.{captured_of}
use Rattle.netlink_input.specs.PacketLaws.{fails_packet, gives_packet, keeps_cut}
use Rattle.netlink_input.proofs.packet.read_packet.Goals as goal

pub returns-in_err-read_up_to-2-clause-fault : goal.returns-in_err-read_up_to-2-clause-fault
returns-in_err-read_up_to-2-clause-fault g c =
    let head : List ℕ = c.read_up_to.new.bytes.items in
    let (front, is, took, few, end) = c.in_ok-read_up_to.ensures.reads in
    let same : head ≡ front = is ∙ ap (λ (l : List ℕ). l ++ front) c.clear.ensures.items in
    let all : Consumes (g.R.Read.remaining c.args.reader.now) (g.R.Read.remaining c.read_up_to.new.reader) head = rw same took in
    let size : length head ≡ 16 = search rules in
    let said : c.u32_in-captured.result ≡ captured_of c.args.order head = search rules in
    let p = err_from_is_err_and c.from_residual-in_err-read_up_to-2.result c.from_residual-in_err-read_up_to-2.ensures.1 in
    rw (p.1, p.2) (fails_packet c.args.order (g.R.Read.remaining c.args.reader.now) (g.R.Read.remaining c.read_up_to.new.reader)
    (g.R.Read.remaining c.read_up_to-2.new.reader) head c.u32_in-captured.result (16 + c.u32_in-captured.result) _ all size said
    refl c.in_err-read_up_to-2.ensures.fault)

pub returns-then-size-captured-clause-torn : goal.returns-then-size-captured-clause-torn
returns-then-size-captured-clause-torn g c =
    let head : List ℕ = c.read_up_to.new.bytes.items in
    let (front, is, took, few, end) = c.in_ok-read_up_to.ensures.reads in
    let same : head ≡ front = is ∙ ap (λ (l : List ℕ). l ++ front) c.clear.ensures.items in
    let all : Consumes (g.R.Read.remaining c.args.reader.now) (g.R.Read.remaining c.read_up_to.new.reader) head = rw same took in
    let (body, whole, more, most, later) = c.in_ok-read_up_to-2.ensures.reads in
    keeps_cut (g.R.Read.remaining c.args.reader.now) (g.R.Read.remaining c.read_up_to.new.reader)
    (g.R.Read.remaining c.read_up_to-2.new.reader) head body c.read_up_to-2.new.bytes.items all more whole (later (search rules))

pub returns-clause-next : goal.returns-clause-next
returns-clause-next g c =
    let head : List ℕ = c.read_up_to.new.bytes.items in
    let (front, is, took, few, end) = c.in_ok-read_up_to.ensures.reads in
    let same : head ≡ front = is ∙ ap (λ (l : List ℕ). l ++ front) c.clear.ensures.items in
    let all : Consumes (g.R.Read.remaining c.args.reader.now) (g.R.Read.remaining c.read_up_to.new.reader) head = rw same took in
    let size : length head ≡ 16 = search rules in
    let said : c.u32_in-captured.result ≡ captured_of c.args.order head = search rules in
    let (body, whole, more, most, later) = c.in_ok-read_up_to-2.ensures.reads in
    let captured : ℕ = c.u32_in-captured.result in
    let both : length c.read_up_to-2.new.bytes.items ≡ length head + length body = ap length whole ∙ length-append head body in
    let enough : 16 + captured ≤ length c.read_up_to-2.new.bytes.items = search rules in
    let long : length body ≡ captured = omega (arith, both, size, most, enough) in
    gives_packet c.args.order (g.R.Read.remaining c.args.reader.now) (g.R.Read.remaining c.read_up_to.new.reader)
    (g.R.Read.remaining c.read_up_to-2.new.reader) head body c.read_up_to-2.new.bytes.items captured all more size said long
    (omega (arith, c.if-captured-gt-LONGEST.false)) whole
