use Rattle.std.proofs.Common.{rules, ◌≡◌, ◌-◌, ◌∙◌, ℕ, arith, length, subst, sym, take}
use Rattle.std.proofs.KnownBytes.{Consumes-kept}
use Rattle.std.proofs.lemmas.List.{length-take-le}
use Rattle.std.specs.Io.KnownBytes.{Consumes}
use borrow.Rule.Slice.PartMut.{put_mid}
use Rattle.netlink_program.proofs.Parts.{read_more, read_none}
use Rattle.netlink_program.proofs.filling.fill.Goals as goal
use Rattle.netlink_program.proofs.filling.fill.Goals.{in-Ok+else-filled-buffer, in-Err+else-ne}

pub returns-then-ne-clause-lost : goal.returns-then-ne-clause-lost
returns-then-ne-clause-lost g c =
    let short = c.loop.invariant.1 in
    let same : length (put_mid c.loop.filled (length c.loop.buffer - c.loop.filled) c.loop.buffer c.read.new.buf)
    ≡ length c.loop.buffer = search rules in
    let size : length (take c.loop.filled c.loop.buffer) ≡ c.loop.filled =
    length-take-le c.loop.filled c.loop.buffer (omega (arith, short)) in (
      take c.loop.filled c.loop.buffer,
      omega (arith, same, size, short),
      Consumes-kept _ _ _ _ c.loop.invariant.0 c.in-Err.ensures.bytes,
    )

pub loop-preserved : goal.loop-preserved
loop-preserved g c =
    let short = c.loop.invariant.1 in
    let room : ℕ = length c.loop.buffer - c.loop.filled in
    let same : length (put_mid c.loop.filled (length c.loop.buffer - c.loop.filled) c.loop.buffer c.read.new.buf)
    ≡ length c.loop.buffer = search rules in
    elim c.match-read.branch [
      | in-Ok+else-filled-buffer w ↦ (
        subst (λ (m : ℕ). Consumes (g.R.Read.remaining c.args.reader.now) (g.R.Read.remaining c.read.new.self) (take m (put_mid c.loop.filled room c.loop.buffer c.read.new.buf))) (sym w.filled-is)
            (read_more _ _ _ c.loop.buffer c.read.new.buf c.loop.filled w.in-Ok.n room (omega (arith, short))
            w.in-Ok.ensures.bound.0 c.loop.invariant.0 w.in-Ok.ensures.bytes.0),
        search rules,
        same ∙ c.loop.invariant.2,
      )
      | in-Err+else-ne w ↦ (
        subst (λ (m : ℕ). Consumes (g.R.Read.remaining c.args.reader.now) (g.R.Read.remaining c.read.new.self) (take m (put_mid c.loop.filled room c.loop.buffer c.read.new.buf))) (sym w.filled-is)
            (read_none _ _ _ c.loop.buffer c.read.new.buf c.loop.filled room (omega (arith, short)) c.loop.invariant.0
            w.in-Err.ensures.bytes),
        omega (arith, same, short, w.filled-is),
        same ∙ c.loop.invariant.2,
      )
    ]
