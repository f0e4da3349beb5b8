-- Frames in several datagrams.
use Rattle.std.specs.Prelude.{ℕ, ◌≡◌, List, [], ◌∷◌, ◌++◌, None}
use Rattle.netlink_packet_core.specs.FrameWalk.{FrameWalk}
use Rattle.netlink_replies.specs.Meaning.{Item}
use Rattle.netlink_replies.specs.Reads.{ReadsAs}
use Rattle.netlink_replies.specs.declared.replies.Replies.{Replies}

-- the frames of all groups, in order
abbrev pub joined : List (List (List ℕ)) → List (List ℕ)
joined [] = []
joined (group ∷ more) = group ++ joined more

-- the datagrams are not damaged, and hold these groups of frames, one each
abbrev pub HoldGroups : List (List ℕ) → List (List (List ℕ)) → Type 0
HoldGroups [] [] = Unit {0}
HoldGroups (datagram ∷ datagrams) (group ∷ groups) =
    FrameWalk datagram group None × HoldGroups datagrams groups
HoldGroups _ _ = ⊥

-- reading the datagrams, one after another, gives these items and leaves this state
abbrev pub ReadsAllAs : Replies → List (List ℕ) → List Item → Replies → Type 0
ReadsAllAs s [] items last = (items ≡ []) × (last ≡ s)
ReadsAllAs s (datagram ∷ datagrams) items last =
    (first : List Item) × (middle : Replies) × (later : List Item)
    × ReadsAs s datagram first middle × (items ≡ first ++ later)
    × ReadsAllAs middle datagrams later last
