-- Reading the bytes of a datagram, one frame after another.
use Rattle.std.proofs.Common.{◌≡◌, ◌≢◌, ℕ, ◌+◌, ◌≤◌, List, [], ◌∷◌, ◌++◌, length, drop, refl, ap, sym, subst, ◌∙◌, Option, Some, None, Result, Ok, Err}
use Rattle.std.specs.List.{cons_option}
use Rattle.std.specs.Prelude.{IfSome, OnOk, false, max, min}
use Rattle.std.proofs.lemmas.List.{drop-drop, drop_min}
use Rattle.netlink_packet_core.specs.Attribute.{padding}
use Rattle.netlink_packet_core.specs.DecodeError.{DecodeError}
use Rattle.netlink_packet_core.specs.FrameStartLaws.{no_frame_starts, starts_frame-fault, starts_frame-rest}
use Rattle.netlink_packet_core.specs.FrameWalk.{FrameWalk, StartsFrame}
use Rattle.netlink_packet_core.specs.FrameWalkLaws.{frames_once, starts_frame_once}
use Rattle.netlink_packet_core.specs.Refusal.{IsFrameFault}
use Rattle.netlink_replies.specs.Answers.{after, after_all, answers_in, item_of, items_of}
use Rattle.netlink_replies.specs.Meaning.{Item}
use Rattle.netlink_replies.specs.Reads.{Gives, ReadsAs, StepsFrame}
use Rattle.netlink_replies.specs.declared.replies.Replies.{Replies}

-- a walk of bytes that start with a frame is the frame and then a walk of the rest
abbrev After : List ℕ → List ℕ → List (List ℕ) → Option DecodeError → Type 0
After frame rest frames error =
    (more : List (List ℕ)) × (frames ≡ frame ∷ more) × FrameWalk rest more error

frames_after : (bytes frame rest : List ℕ) (frames : List (List ℕ)) (error : Option DecodeError)
    → StartsFrame bytes frame rest → FrameWalk bytes frames error → After frame rest frames error
frames_after bytes frame rest [] None starts walk =
    absurd (no_frame_starts bytes frame rest walk starts)
frames_after bytes frame rest [] (Some error) starts walk =
    absurd (starts_frame-fault bytes frame rest error starts walk.1)
frames_after bytes frame rest (first ∷ more) error starts (next, begins, walk) =
    let same = starts_frame_once bytes first frame next rest begins starts in (
      more,
      ap (λ (f : List ℕ). f ∷ more) same.0,
      subst (λ (b : List ℕ). FrameWalk b more error) same.1 walk,
    )

item_first : (item : Option Item) (items later : List Item)
    → cons_option item items ++ later ≡ cons_option item (items ++ later)
item_first None items later = refl
item_first (Some item) items later = refl

-- the items of a walk are that of its first frame and then those of the others
items_first : (s : Replies) (frame : List ℕ) (more : List (List ℕ)) (error : Option DecodeError)
    → items_of s (frame ∷ more) error
    ≡ cons_option (item_of s frame) (items_of (after s frame) more error)
items_first s frame more None = refl
items_first s frame more (Some error) =
    item_first (item_of s frame) (answers_in (after s frame) more) (Err error ∷ [])

abbrev Left : Option Item → Replies → List ℕ → List Item → Replies → Type 0
Left item t rest items last =
    (left : List Item) × (items ≡ cons_option item left) × ReadsAs t rest left last

reads_frame : (s : Replies) (bytes frame rest : List ℕ) (items : List Item) (last : Replies)
    → StartsFrame bytes frame rest → ReadsAs s bytes items last
    → Left (item_of s frame) (after s frame) rest items last
reads_frame s bytes frame rest items last starts reads =
    let split = frames_after bytes frame rest reads.frames reads.error starts reads.walk in
    let more : List (List ℕ) = split.0 in (
      items_of (after s frame) more reads.error,
      reads.items_are ∙ ap (λ (f : List (List ℕ)). items_of s f reads.error) split.1
          ∙ items_first s frame more reads.error,
      record {
        frames = more;
        error = reads.error;
        walk = split.2;
        items_are = refl;
        last_is = reads.last_is ∙ ap (after_all s) split.1;
      },
    )

step_of : (s : Replies) (bytes : List ℕ) (item : Option Item) (t : Replies) (rest : List ℕ)
    → ((items : List Item) (last : Replies) → ReadsAs s bytes items last → Left item t rest items last)
    → StepsFrame s bytes item t rest
step_of s bytes None t rest left =
    λ items last reads.
    let then = left items last reads in
    subst (λ (x : List Item). ReadsAs t rest x last) (sym then.1) then.2
step_of s bytes (Some item) t rest left = λ items last reads. left items last reads

-- reading one frame
pub frame_steps : (s : Replies) (bytes frame next : List ℕ) (item : Option Item) (t : Replies)
    (rest : List ℕ) → StartsFrame bytes frame next → item ≡ item_of s frame → t ≡ after s frame
    → rest ≡ next → StepsFrame s bytes item t rest
frame_steps s bytes frame next item t rest starts is state same =
    step_of s bytes item t rest
    (λ items last reads.
    let then = reads_frame s bytes frame next items last starts reads in (
      then.0,
      then.1 ∙ ap (λ (i : Option Item). cons_option i then.0) (sym is),
      subst (λ (b : List ℕ). ReadsAs t b then.0 last) (sym same)
          (subst (λ (u : Replies). ReadsAs u next then.0 last) (sym state) then.2),
    ))

nothing_left : (s : Replies) (rest : List ℕ) (last : Replies) → rest ≡ [] → last ≡ s → ReadsAs s rest [] last
nothing_left s rest last none same =
    record { frames = []; error = None; walk = none; items_are = refl; last_is = same }

-- reading an error
pub fault_steps : (s : Replies) (bytes : List ℕ) (error : DecodeError) (rest : List ℕ)
    → bytes ≢ [] → IsFrameFault false bytes error → rest ≡ []
    → StepsFrame s bytes (Some (Err error)) s rest
fault_steps s bytes error rest some is none =
    λ items last reads.
    let same = frames_once bytes reads.frames [] reads.error (Some error) reads.walk (some, is) in (
      [],
      reads.items_are ∙ ap (λ (f : List (List ℕ)). items_of s f reads.error) same.0
          ∙ ap (items_of s []) same.1,
      nothing_left s rest last none (reads.last_is ∙ ap (after_all s) same.0),
    )

-- reading nothing
none_gives : (s : Replies) (bytes : List ℕ) → bytes ≡ [] → Gives s bytes None s bytes
none_gives s bytes none = (
  none,
  λ items last reads.
      let same = frames_once bytes reads.frames [] reads.error None reads.walk none in (
        reads.items_are ∙ ap (λ (f : List (List ℕ)). items_of s f reads.error) same.0
            ∙ ap (items_of s []) same.1,
        sym (reads.last_is ∙ ap (after_all s) same.0),
      ),
)

-- what a loop over noops has left to read
pub record SkipsNoops (s : Replies) (bytes : List ℕ) (t : Replies) (rest : List ℕ) : Type 0 where
  pub left : (items : List Item) (last : Replies) → ReadsAs s bytes items last → ReadsAs t rest items last

pub skip_item : (s : Replies) (bytes : List ℕ) (t : Replies) (middle : List ℕ) (item : Item) (u : Replies) (rest : List ℕ)
    → SkipsNoops s bytes t middle → StepsFrame t middle (Some item) u rest
    → Gives s bytes (Some item) u rest
skip_item s bytes t middle item u rest skips step =
    λ items last reads. step items last (skips.left items last reads)

pub skip_end : (s : Replies) (bytes : List ℕ) (t : Replies) (middle : List ℕ)
    → SkipsNoops s bytes t middle → middle ≡ [] → Gives s bytes None t middle
skip_end s bytes t middle skips none =
    (none, λ items last reads. (none_gives t middle none).1 items last (skips.left items last reads))

-- the rest of a datagram after a frame at an offset
pub rest_after : (datagram frame next : List ℕ) (at end : ℕ) → StartsFrame (drop at datagram) frame next
    → end ≡ min (at + (length frame + padding (length frame))) (length datagram)
    → drop end datagram ≡ next
rest_after datagram frame next at end starts is =
    let size : ℕ = length frame + padding (length frame) in
    ap (λ (n : ℕ). drop n datagram) is
    ∙ drop_min (at + size) datagram
    ∙ sym (drop-drop size at datagram)
    ∙ sym (starts_frame-rest (drop at datagram) frame next starts)

-- a fact that holds anyway holds if an item is a reply
pub if_reply : {A E : Type 0} (item : Option (Result A E)) (P : Type 0) → P
    → IfSome item (λ i. OnOk i P)
if_reply None P p = tt
if_reply (Some (Ok a)) P p = p
if_reply (Some (Err e)) P p = tt

-- how far a loop over noops has come
pub record Progress (s : Replies) (datagram : List ℕ) (start : ℕ) (t : Replies) (at : ℕ) : Type 0 where
  pub skips : SkipsNoops s (drop start datagram) t (drop at datagram)
  pub least : start ≤ at
  pub most : at ≤ max start (length datagram)
