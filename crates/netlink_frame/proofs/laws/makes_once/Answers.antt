use Rattle.netlink_frame.specs.declared.command.Command.TheVariants.{Normalize, Show, Nlas, Canon, Frames}
use Rattle.netlink_frame.proofs.Once.{IsUnique, normalizes_once, shows_once, nlas_once, canon_once, frames_once}
use Rattle.netlink_frame.proofs.laws.makes_once.Goals as goal

pub returns : goal.returns
returns c =
    let unique : IsUnique =
    record {
      same = c.frame_unique.ensures.same;
      fits = c.frame_unique.ensures.fits;
      written = c.frame_unique.ensures.written;
      refusal = c.refusal_unique.ensures.unique;
      frame = c.refusal_unique.ensures.frame;
    } in
    record {
      once = elim [
        | Normalize ↦ normalizes_once unique
        | Show ↦ shows_once unique
        | Nlas ↦ nlas_once c.walk_unique.ensures.unique
        | Canon ↦ canon_once
            c.walk_unique.ensures.unique
        | Frames ↦ frames_once c.frames_unique.ensures.unique
      ];
    }
