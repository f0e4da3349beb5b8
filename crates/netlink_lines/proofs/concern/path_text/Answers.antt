use Rattle.std.proofs.Common.{subst}
use Rattle.std.specs.Iterator.{Yields}
use Rattle.netlink_replies.specs.PathSteps.{path_steps}
use Rattle.netlink_replies.specs.declared.path.Path.{Path}
use Rattle.netlink_lines.proofs.concern.path_text.Goals as goal

pub returns : goal.returns
returns c =
    let yields =
    subst (λ (p : Path). Yields path_steps p c.loop-kind.yielded c.loop-kind.kind-iterator) c.into_iter-kind-iterator.ensures.into_iter_gives
    c.loop-kind.yielded_by in
    record {
      text = (
        c.loop-kind.yielded,
        c.requires.path c.loop-kind.yielded c.next.new.self (c.loop-kind.kind-iterator, yields, c.in-None.ensures.steps),
        c.loop-kind.invariant.text,
      );
    }
