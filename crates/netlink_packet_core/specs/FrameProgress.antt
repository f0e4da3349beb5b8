-- What a loop over the frames of a datagram has passed.
use Rattle.std.proofs.Common.{◌≡◌, ◌≢◌, ℕ, List, [], ◌∷◌, ◌++◌, Option, Some, None}
use Rattle.std.specs.Prelude.{false}
use Rattle.netlink_bytes.specs.Walks.{Passed, passed_ends, passed_faults, passed_next, passed_none, passed_push, passed_rest}
use Rattle.netlink_bytes.specs.declared.error.DecodeError.{DecodeError}
use Rattle.netlink_packet_core.specs.FrameWalk.{FrameWalk, StartsFrame}
use Rattle.netlink_packet_core.specs.FrameWalkLaws.{frame_steps_laws}
use Rattle.netlink_packet_core.specs.Refusal.{IsFrameFault}

-- walking the bytes yields these frames, and the rest is still to be walked
abbrev pub PassesFrames : List ℕ → List (List ℕ) → List ℕ → Type 0
PassesFrames = Passed StartsFrame

-- at the start none has been passed
pub passes_frames_none : (bytes rest : List ℕ) → rest ≡ bytes → PassesFrames bytes [] rest
passes_frames_none = passed_none StartsFrame

-- each turn passes one more
pub passes_frames_push : (bytes : List ℕ) (done : List (List ℕ)) (middle frame rest : List ℕ)
    → PassesFrames bytes done middle → StartsFrame middle frame rest
    → PassesFrames bytes (done ++ (frame ∷ [])) rest
passes_frames_push = passed_push StartsFrame

-- a loop that reached the end has the whole walk, and so does one that reached an error
pub passes_frames_end : (bytes : List ℕ) (done : List (List ℕ)) (rest : List ℕ)
    → PassesFrames bytes done rest → rest ≡ [] → FrameWalk bytes done None
passes_frames_end = passed_ends StartsFrame (IsFrameFault false)

pub passes_frames_fault : (bytes : List ℕ) (done : List (List ℕ)) (rest : List ℕ)
    (fault : DecodeError)
    → PassesFrames bytes done rest → rest ≢ [] → IsFrameFault false rest fault
    → FrameWalk bytes done (Some fault)
passes_frames_fault = passed_faults StartsFrame (IsFrameFault false)

-- and these frames come first in any walk of the bytes
pub passes_frames_rest : (bytes : List ℕ) (done : List (List ℕ)) (rest : List ℕ)
    (all : List (List ℕ)) (fault : Option DecodeError)
    → PassesFrames bytes done rest → FrameWalk bytes all fault
    → (more : List (List ℕ)) × (all ≡ done ++ more) × FrameWalk rest more fault
passes_frames_rest = passed_rest frame_steps_laws

-- a frame that the rest starts with comes next in the walk of the bytes
pub passes_frames_next : (bytes : List ℕ) (done : List (List ℕ)) (middle frame rest : List ℕ)
    (all : List (List ℕ)) (fault : Option DecodeError)
    → PassesFrames bytes done middle → StartsFrame middle frame rest → FrameWalk bytes all fault
    → (more : List (List ℕ)) × (all ≡ done ++ (frame ∷ more))
passes_frames_next = passed_next frame_steps_laws
