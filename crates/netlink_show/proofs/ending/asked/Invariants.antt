use Rattle.std.proofs.Common.{◌≡◌, Some, option_map}
use Rattle.std.specs.Vec.Iter.{into_iter_items}
use Rattle.netlink_show.specs.Ending.{options_of, with_options}
use Rattle.netlink_show.proofs.ending.asked.Given as goal

-- the words that are left add to the options what all words ask for
abbrev pub invariant-loop-word : goal.invariant-loop-word
invariant-loop-word l =
    (goal.iterator-loop-word).can_next l.word-iterator × (goal.iterator-loop-word).is_finite l.word-iterator
    × (options_of (option_map into_iter_items l.fn.args) ≡ with_options (Some l.options) (into_iter_items l.word-iterator))
