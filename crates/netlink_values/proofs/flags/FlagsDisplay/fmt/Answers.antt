use Rattle.std.proofs.Common.{◌++◌, ◌∙◌, ℕ, List, ap, append_assoc, rules, sym}
use Rattle.std.proofs.Output.{has_written_append, has_written_of_eq}
use Rattle.netlink_values.proofs.Named.{next_flag, no_flag}
use Rattle.netlink_values.proofs.flags.FlagsDisplay.fmt.Goals as goal

pub loop-row-preserved : goal.loop-row-preserved
loop-row-preserved g c = λ plain.
    let so_far = c.loop-row.invariant plain in
    let more = c.write.ensures.writes so_far.1.plain (search rules) in
    let next = next_flag c.args.self.now.names.now c.loop-row.row-index c.loop-row.rest _ (search rules) in (
      _,
      has_written_append _ _ _ _ _ _ so_far.1 more,
      rw (c.left-rest.ensures) (append_assoc so_far.0 _ _ ∙ ap (λ (text : List ℕ). so_far.0 ++ text) (sym next) ∙ so_far.2),
    )

pub returns-clause-writes : goal.returns-clause-writes
returns-clause-writes g c = λ plain ok.
    let so_far = c.loop-row.invariant plain in
    let more = c.write-2.ensures.writes so_far.1.plain ok in
    let end = no_flag c.args.self.now.names.now c.loop-row.row-index c.loop-row.rest (search rules) in
    has_written_of_eq _ _ _ _ _
    (ap (λ (text : List ℕ). so_far.0 ++ text) (sym end) ∙ so_far.2)
    (has_written_append _ _ _ _ _ _ so_far.1 more)
