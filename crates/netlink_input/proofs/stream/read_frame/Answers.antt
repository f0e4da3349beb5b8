use Rattle.std.proofs.Common.{rules, ◌≡◌, ℕ, List, length}
use Rattle.std.proofs.lemmas.Result.{err_from_is_err_and}
use Rattle.std.specs.Io.KnownBytes.{prepend_known}
use Rattle.netlink_packet_core.specs.Header.{field}
use Rattle.netlink_input.specs.ReadingLaws.{fails_frame, reads_more}
use Rattle.netlink_input.proofs.stream.read_frame.Goals as goal

pub returns-in_err-read_up_to-2-clause-fault : goal.returns-in_err-read_up_to-2-clause-fault
returns-in_err-read_up_to-2-clause-fault g c =
    let head : List ℕ = c.read_up_to.new.bytes.items in
    let took =
    reads_more (g.R.Read.remaining c.args.reader.now) (g.R.Read.remaining c.read_up_to.new.reader) c.args.frame.now.items head 16
    c.in_ok-read_up_to.ensures.reads in
    let size : length head ≡ 16 = search rules in
    let said : c.u32_at-length.result ≡ field 0 4 head = search rules in
    let p = err_from_is_err_and c.from_residual-in_err-read_up_to-2.result c.from_residual-in_err-read_up_to-2.ensures.1 in
    rw (p.1, p.2) (fails_frame (prepend_known c.args.frame.now.items (g.R.Read.remaining c.args.reader.now))
    (g.R.Read.remaining c.read_up_to.new.reader) (g.R.Read.remaining c.read_up_to-2.new.reader) head c.u32_at-length.result _ took
    size said c.in_err-read_up_to-2.ensures.fault)
