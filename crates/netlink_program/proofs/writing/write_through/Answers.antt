use Rattle.std.proofs.Common.{rules, ℕ, List, subst, sym, take}
use Rattle.std.proofs.KnownBytes.{Appends-kept}
use Rattle.std.proofs.lemmas.List.{take_rest}
use Rattle.std.specs.Io.KnownBytes.{Appends}
use Rattle.netlink_program.proofs.Parts.{written_more}
use Rattle.netlink_program.proofs.writing.write_through.Goals as goal
use Rattle.netlink_program.proofs.writing.write_through.Goals.{in-Ok-write, in-Err-write+else-ne}

pub loop-preserved : goal.loop-preserved
loop-preserved g c =
    let bytes : List ℕ = c.args.bytes.now in
    let fits = c.loop.invariant.1 in
    elim c.match-write.branch [
      | in-Ok-write w ↦ (
        subst (λ (m : ℕ). Appends (g.W.Write.contents c.args.writer.now) (g.W.Write.contents c.write.new.self) (take m bytes))
            (sym w.written-is)
            (written_more _ _ _ bytes c.loop.written w.in-Ok-write.n fits c.loop.invariant.0
            (subst (λ (l : List ℕ). Appends (g.W.Write.contents c.loop.writer) (g.W.Write.contents c.write.new.self)
            (take w.in-Ok-write.n l)) (take_rest bytes c.loop.written) w.in-Ok-write.ensures.bytes)),
        search rules,
      )
      | in-Err-write+else-ne w ↦ (
        subst (λ (m : ℕ). Appends (g.W.Write.contents c.args.writer.now) (g.W.Write.contents c.write.new.self) (take m bytes))
            (sym w.written-is) (Appends-kept _ _ _ _ c.loop.invariant.0 w.in-Err-write.ensures.bytes),
        search rules,
      )
    ]

pub returns-in-Ok-eq0-clause-whole : goal.returns-in-Ok-eq0-clause-whole
returns-in-Ok-eq0-clause-whole g c = search rules
