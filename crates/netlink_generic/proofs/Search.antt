-- The search for a family by its name.
use Rattle.std.proofs.Common.{◌≡◌, ℕ, List, [], ◌∷◌, ◌++◌, ap, ◌∙◌, Option, Some, None}
use Rattle.netlink_packet_core.specs.DecodeError.{DecodeError}
use Rattle.netlink_packet_core.specs.FrameProgress.{PassesFrames, passes_frames_next}
use Rattle.netlink_packet_core.specs.FrameWalk.{FrameWalk, StartsFrame}
use Rattle.netlink_packet_core.specs.FrameWalkLaws.{frames_once}
use Rattle.netlink_family.specs.Shapes.{or_first}
use Rattle.netlink_generic.specs.Replies.{family_of, first_named}

by_first : (name : List ℕ) (first : Option (List ℕ)) (done more : List (List ℕ))
    → (first_named name done ≡ None → first_named name (done ++ more) ≡ first_named name more)
    → or_first first (first_named name done) ≡ None
    → or_first first (first_named name (done ++ more)) ≡ first_named name more
by_first name None done more later none = later none
by_first name (Some first) done more later none = absurd (cc)

-- the search continues after frames that do not describe the family
pub named_after : (name : List ℕ) (done more : List (List ℕ)) → first_named name done ≡ None
    → first_named name (done ++ more) ≡ first_named name more
named_after name [] more none = cc
named_after name (frame ∷ done) more none =
    by_first name (family_of name frame) done more (named_after name done more) none

-- one more such frame
pub none_push : (name : List ℕ) (done : List (List ℕ)) (frame : List ℕ)
    → first_named name done ≡ None → family_of name frame ≡ None
    → first_named name (done ++ (frame ∷ [])) ≡ None
none_push name done frame none other =
    named_after name done (frame ∷ []) none ∙ ap (λ (x : Option (List ℕ)). or_first x None) other

-- the next frame describes the family
pub named_here : (name bytes : List ℕ) (done : List (List ℕ)) (middle frame rest found : List ℕ)
    → PassesFrames bytes done middle → StartsFrame middle frame rest
    → first_named name done ≡ None → family_of name frame ≡ Some found
    → (all : List (List ℕ)) (fault : Option DecodeError) → FrameWalk bytes all fault
    → first_named name all ≡ Some found
named_here name bytes done middle frame rest found passes starts none here all fault walk =
    let next = passes_frames_next bytes done middle frame rest all fault passes starts walk in
    ap (first_named name) next.1 ∙ named_after name done (frame ∷ next.0) none
    ∙ ap (λ (x : Option (List ℕ)). or_first x (first_named name next.0)) here

-- no frame is left
pub none_named : (name bytes : List ℕ) (done : List (List ℕ)) (end : Option DecodeError)
    → FrameWalk bytes done end → first_named name done ≡ None
    → (all : List (List ℕ)) (fault : Option DecodeError) → FrameWalk bytes all fault
    → first_named name all ≡ None
none_named name bytes done end passed none all fault walk =
    ap (first_named name) (frames_once bytes all done fault end walk passed).0 ∙ none
