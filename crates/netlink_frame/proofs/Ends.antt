-- No walk ends with `OutOfMemory`.
use Rattle.std.proofs.Common.{ℕ, List, [], ◌∷◌, Option, None, Some, IfSome, subst}
use Rattle.std.specs.Prelude.{◌≢◌, false}
use Rattle.netlink_packet_core.specs.Attribute.{Attribute}
use Rattle.netlink_packet_core.specs.DecodeError.{DecodeError}
use Rattle.netlink_packet_core.specs.DecodeError.TheVariants.{OutOfMemory}
use Rattle.netlink_packet_core.specs.Refusal.{IsFrameFault}
use Rattle.netlink_packet_core.specs.Walk.{IsFault, Walk}
use Rattle.netlink_tree.specs.FrameWalk.{FrameWalk}

-- the walk over attributes does not
pub attributes_end : (bytes : List ℕ) (all : List Attribute) (fault : Option DecodeError) → Walk bytes all fault
    → IfSome fault (λ e. e ≢ OutOfMemory)
attributes_end bytes [] None walk = tt
attributes_end bytes [] (Some e) (some, is) = λ same. subst (λ (x : DecodeError). IsFault bytes x) same is
attributes_end bytes (a ∷ more) fault (rest, starts, walk) = attributes_end rest more fault walk

-- the walk over frames does not
pub frames_end : (bytes : List ℕ) (all : List (List ℕ)) (fault : Option DecodeError) → FrameWalk bytes all fault
    → IfSome fault (λ e. e ≢ OutOfMemory)
frames_end bytes [] None walk = tt
frames_end bytes [] (Some e) (some, is) = λ same. subst (λ (x : DecodeError). IsFrameFault false bytes x) same is
frames_end bytes (frame ∷ more) fault (rest, starts, walk) = frames_end rest more fault walk

-- no walk of the program does
pub ruleset walks_end = (attributes_end, frames_end)
