use Rattle.std.proofs.Common.{rules, ◌≡◌, ◌∙◌, ap, List, ℕ, ◌++◌}
use Rattle.std.proofs.lemmas.Result.{err_from_is_err_and}
use Rattle.std.specs.Io.KnownBytes.{Consumes}
use Rattle.std.specs.Prelude.{true}
use Rattle.netlink_input.specs.Pcap.{is_pcap}
use Rattle.netlink_input.proofs.Starts.{fails_start}
use Rattle.netlink_input.proofs.start.read_start.Goals as goal

pub returns-in_err-read_up_to-2-clause-fault : goal.returns-in_err-read_up_to-2-clause-fault
returns-in_err-read_up_to-2-clause-fault g c =
    let head : List ℕ = c.read_up_to.new.bytes.items in
    let (front, is, took, few, end) = c.in_ok-read_up_to.ensures.reads in
    let same : head ≡ front = is ∙ ap (λ (l : List ℕ). l ++ front) c.requires.empty in
    let all : Consumes (g.R.Read.remaining c.args.reader.now) (g.R.Read.remaining c.read_up_to.new.reader) head = rw same took in
    let magic : is_pcap head ≡ true = search rules in
    let p = err_from_is_err_and c.from_residual-in_err-read_up_to-2.result c.from_residual-in_err-read_up_to-2.ensures.1 in
    rw (p.1, p.2) (fails_start (g.R.Read.remaining c.args.reader.now) (g.R.Read.remaining c.read_up_to.new.reader)
    (g.R.Read.remaining c.read_up_to-then-is_pcap.new.reader) head _ all magic c.in_err-read_up_to-2.ensures.fault)
