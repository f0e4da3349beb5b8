use Rattle.std.proofs.Common.{rules, ◌≡◌, ◌≤◌, ◌<◌, ◌++◌, ℕ, List, arith, length, length-append, take}
use Rattle.std.proofs.KnownBytes.{Consumes-trans}
use Rattle.std.proofs.lemmas.List.{length-take-le}
use Rattle.std.specs.Io.KnownBytes.{Consumes}
use Rattle.netlink_input.proofs.blocks.skip.Goals as goal
use Rattle.netlink_input.proofs.blocks.skip.Goals.{then-left-lt-CHUNK, else-left-lt-CHUNK}

pub returns-in_err-n-clause-fault : goal.returns-in_err-n-clause-fault
returns-in_err-n-clause-fault g c =
    let (bytes, took, size) = c.loop-left.invariant in
    let (front, short, lost) = c.in_err-n.ensures.lost in
    let part : c.if-left-lt-CHUNK.part ≤ c.loop-left.left =
    elim c.if-left-lt-CHUNK.branch [
      | then-left-lt-CHUNK w ↦ omega (arith, w.part-is)
      | else-left-lt-CHUNK w ↦ omega (arith, w.part-is, w.if-left-lt-CHUNK.false)
    ] in
    let room : length c.fill.new.buffer ≡ c.if-left-lt-CHUNK.part = search rules in
    let fewer : (more : List ℕ) × Consumes (g.R.Read.remaining c.args.reader.now) (g.R.Read.remaining c.fill.new.reader) more × (length more < c.args.size) = (
      bytes ++ front,
      Consumes-trans _ (g.R.Read.remaining c.loop-left.reader) _ bytes front took lost,
      omega (arith, size, short, part, room, length-append bytes front),
    ) in
    search rules

pub returns-then-n-part-clause-taken : goal.returns-then-n-part-clause-taken
returns-then-n-part-clause-taken g c =
    let (bytes, took, size) = c.loop-left.invariant in
    let part : c.if-left-lt-CHUNK.part ≤ c.loop-left.left =
    elim c.if-left-lt-CHUNK.branch [
      | then-left-lt-CHUNK w ↦ omega (arith, w.part-is)
      | else-left-lt-CHUNK w ↦ omega (arith, w.part-is, w.if-left-lt-CHUNK.false)
    ] in
    let few = c.in_ok-n.ensures.inside in
    let room : length c.fill.new.buffer ≡ c.if-left-lt-CHUNK.part = search rules in
    let read : List ℕ = take c.in_ok-n.n c.fill.new.buffer in
    let long : length read ≡ c.in_ok-n.n = length-take-le c.in_ok-n.n c.fill.new.buffer few in (
      bytes ++ read,
      Consumes-trans _ (g.R.Read.remaining c.loop-left.reader) _ bytes read took c.in_ok-n.ensures.taken,
      omega (arith, size, few, part, room, long, length-append bytes read),
    )

pub loop-left-preserved : goal.loop-left-preserved
loop-left-preserved g c =
    let (bytes, took, size) = c.loop-left.invariant in
    let part : c.if-left-lt-CHUNK.part ≤ c.loop-left.left =
    elim c.if-left-lt-CHUNK.branch [
      | then-left-lt-CHUNK w ↦ omega (arith, w.part-is)
      | else-left-lt-CHUNK w ↦ omega (arith, w.part-is, w.if-left-lt-CHUNK.false)
    ] in
    let few = c.in_ok-n.ensures.inside in
    let room : length c.fill.new.buffer ≡ c.if-left-lt-CHUNK.part = search rules in
    let read : List ℕ = take c.in_ok-n.n c.fill.new.buffer in
    let long : length read ≡ c.in_ok-n.n = length-take-le c.in_ok-n.n c.fill.new.buffer few in (
      bytes ++ read,
      Consumes-trans _ (g.R.Read.remaining c.loop-left.reader) _ bytes read took c.in_ok-n.ensures.taken,
      omega (arith, size, few, part, room, long, length-append bytes read),
    )
