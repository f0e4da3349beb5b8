use Rattle.std.proofs.Common.{rules, ◌≡◌, ℕ, List, length}
use Rattle.std.proofs.lemmas.Result.{err_from_is_err_and}
use Rattle.std.specs.Io.KnownBytes.{prepend_known}
use Rattle.netlink_input.specs.Block.{head_size}
use Rattle.netlink_input.specs.BlockLaws.{fails_after, starts_head}
use Rattle.netlink_input.specs.ReadingLaws.{reads_more}
use Rattle.netlink_input.proofs.blocks.read_head.Goals as goal

pub returns-in_err-read_up_to-2-clause-fault : goal.returns-in_err-read_up_to-2-clause-fault
returns-in_err-read_up_to-2-clause-fault g c =
    let head : List ℕ = c.read_up_to.new.bytes.items in
    let took =
    reads_more (g.R.Read.remaining c.args.reader.now) (g.R.Read.remaining c.read_up_to.new.reader) c.args.block.now.items head 8
    c.in_ok-read_up_to.ensures.reads in
    let long : length head ≡ 8 = search rules in
    let size : c.head_size-size.result ≡ head_size c.args.order head = search rules in
    let p = err_from_is_err_and c.from_residual-in_err-read_up_to-2.result c.from_residual-in_err-read_up_to-2.ensures.1 in
    rw (p.1, p.2) (fails_after c.args.order (prepend_known c.args.block.now.items (g.R.Read.remaining c.args.reader.now))
    (g.R.Read.remaining c.read_up_to.new.reader) (g.R.Read.remaining c.read_up_to-2.new.reader) head c.head_size-size.result _ took
    long size c.in_err-read_up_to-2.ensures.fault)

pub returns-clause-head : goal.returns-clause-head
returns-clause-head g c =
    let head : List ℕ = c.read_up_to.new.bytes.items in
    let took =
    reads_more (g.R.Read.remaining c.args.reader.now) (g.R.Read.remaining c.read_up_to.new.reader) c.args.block.now.items head 8
    c.in_ok-read_up_to.ensures.reads in
    let long : length head ≡ 8 = search rules in
    let size : c.head_size-size.result ≡ head_size c.args.order head = search rules in
    starts_head c.args.order (prepend_known c.args.block.now.items (g.R.Read.remaining c.args.reader.now))
    (g.R.Read.remaining c.read_up_to.new.reader) (g.R.Read.remaining c.read_up_to-2.new.reader) head
    c.read_up_to-2.new.bytes.items c.head_size-size.result took long size c.in_ok-read_up_to-2.ensures.reads
