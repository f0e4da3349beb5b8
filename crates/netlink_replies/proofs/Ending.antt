-- Where an answer ends, and what comes before and after the end.
use Rattle.std.proofs.Common.{◌≡◌, ℕ, Bool, true, false, List, [], ◌∷◌, ◌++◌, refl, ap, sym, ◌∙◌, inl, inr, Option, Some, None, Ok}
use Rattle.std.specs.Prelude.{not, ◌&&◌, ◌||◌, if◌then◌else◌, nat_eq, nat_lt, length}
use Rattle.std.specs.List.{cons_option, filter, filter_map, list_any}
use Rattle.std.proofs.lemmas.Bool.{and_right, cases_Bool}
use Rattle.netlink_packet_core.specs.Header.{field, header_of, payload_of}
use Rattle.netlink_replies.specs.Answers.{after, after_all, answers_in, belongs, concerns, ends, item_of}
use Rattle.netlink_replies.specs.Endings.{answer_of, has_interruption, is_end, is_own, open_item}
use Rattle.netlink_replies.specs.Meaning.{Item, done_item, error_item, meaning, other}
use Rattle.netlink_replies.specs.declared.replies.Replies.{Replies}
use Rattle.netlink_replies.specs.declared.reply.Reply.TheVariants.{Other}
use Rattle.netlink_replies.specs.declared.request.Request.{Request}
use Rattle.netlink_replies.proofs.Grouping.{answers-append, after_all-append}

-- ---- one frame

-- the state of an answer after a frame of it
abbrev moved : Replies → List ℕ → Replies
moved s frame = record {
  request = s.request;
  ended = ends s.request (header_of frame).flags (meaning frame);
  interrupted = s.interrupted || has_interruption frame;
}

concerns_open : (s : Replies) (frame : List ℕ) → s.ended ≡ false
    → concerns s frame ≡ belongs s.request frame
concerns_open s frame open' = ap (λ (b : Bool). not b && belongs s.request frame) open'

concerns_ended : (s : Replies) (frame : List ℕ) → s.ended ≡ true → concerns s frame ≡ false
concerns_ended s frame ended = ap (λ (b : Bool). not b && belongs s.request frame) ended

passed_by : (s : Replies) (frame : List ℕ) → concerns s frame ≡ false
    → (item_of s frame ≡ other frame) × (after s frame ≡ s)
passed_by s frame foreign = (
  ap (λ (b : Bool). if b then meaning frame else other frame) foreign,
  ap (λ (b : Bool). if b then moved s frame else s) foreign,
)

taken : (s : Replies) (frame : List ℕ) → concerns s frame ≡ true
    → (item_of s frame ≡ meaning frame) × (after s frame ≡ moved s frame)
taken s frame mine = (
  ap (λ (b : Bool). if b then meaning frame else other frame) mine,
  ap (λ (b : Bool). if b then moved s frame else s) mine,
)

same_request : (b : Bool) (s : Replies) (frame : List ℕ)
    → (if b then moved s frame else s).request ≡ s.request
same_request true s frame = refl
same_request false s frame = refl

pub request_after : (s : Replies) (frame : List ℕ) → (after s frame).request ≡ s.request
request_after s frame = same_request (concerns s frame) s frame

ended_by : (b : Bool) (s : Replies) (frame : List ℕ) → s.ended ≡ false
    → (if b then moved s frame else s).ended
    ≡ (b && ends s.request (header_of frame).flags (meaning frame))
ended_by true s frame open' = refl
ended_by false s frame open' = open'

-- an open answer ends at a frame if and only if the frame is an end
pub end_after : (s : Replies) (frame : List ℕ) → s.ended ≡ false
    → (after s frame).ended ≡ is_end s.request frame
end_after s frame open' =
    ended_by (concerns s frame) s frame open'
    ∙ ap (λ (b : Bool). b && ends s.request (header_of frame).flags (meaning frame))
    (concerns_open s frame open')

item_open : (s : Replies) (frame : List ℕ) → s.ended ≡ false
    → item_of s frame ≡ open_item s.request frame
item_open s frame open' =
    ap (λ (b : Bool). if b then meaning frame else other frame) (concerns_open s frame open')

-- ---- after the end

pub ended_items : (s : Replies) (frames : List (List ℕ)) → s.ended ≡ true
    → (answers_in s frames ≡ filter_map other frames) × (after_all s frames ≡ s)
ended_items s [] ended = (refl, refl)
ended_items s (frame ∷ more) ended =
    let by = passed_by s frame (concerns_ended s frame ended) in
    let later = ended_items s more ended in (
      ap (λ (i : Option Item). cons_option i (answers_in (after s frame) more)) by.0
          ∙ ap (λ (t : Replies). cons_option (other frame) (answers_in t more)) by.1
          ∙ ap (cons_option (other frame)) later.0,
      ap (λ (t : Replies). after_all t more) by.1 ∙ later.1,
    )

-- ---- before the end

any_parts : (x y : Bool) → (x || y) ≡ false → (x ≡ false) × (y ≡ false)
any_parts true y none = absurd (cc)
any_parts false y none = (refl, none)

pub open_items : (s : Replies) (frames : List (List ℕ)) → s.ended ≡ false
    → list_any (is_end s.request) frames ≡ false
    → (answers_in s frames ≡ filter_map (open_item s.request) frames)
    × ((after_all s frames).ended ≡ false) × ((after_all s frames).request ≡ s.request)
open_items s [] open' none = (refl, open', refl)
open_items s (frame ∷ more) open' none =
    let parts = any_parts (is_end s.request frame) (list_any (is_end s.request) more) none in
    let same = request_after s frame in
    let later =
    open_items (after s frame) more (end_after s frame open' ∙ parts.0)
    (ap (λ (r : Request). list_any (is_end r) more) same ∙ parts.1) in (
      ap (λ (i : Option Item). cons_option i (answers_in (after s frame) more)) (item_open s frame open')
          ∙ ap (cons_option (open_item s.request frame))
          (later.0 ∙ ap (λ (r : Request). filter_map (open_item r) more) same),
      later.1,
      later.2 ∙ same,
    )

-- ---- at the end

pub end_items : (s : Replies) (before : List (List ℕ)) (frame : List ℕ) (later : List (List ℕ))
    → s.ended ≡ false → list_any (is_end s.request) before ≡ false → is_end s.request frame ≡ true
    → (answers_in s (before ++ (frame ∷ later))
    ≡ filter_map (open_item s.request) before
    ++ cons_option (open_item s.request frame) (filter_map other later))
    × ((after_all s (before ++ (frame ∷ later))).ended ≡ true)
end_items s before frame later open' none is =
    let first = open_items s before open' none in
    let middle : Replies = after_all s before in
    let ended : (after middle frame).ended ≡ true =
    end_after middle frame first.1 ∙ ap (λ (r : Request). is_end r frame) first.2 ∙ is in
    let rest = ended_items (after middle frame) later ended in (
      answers-append s before (frame ∷ later)
          ∙ ap (λ (x : List Item). x ++ answers_in middle (frame ∷ later)) first.0
          ∙ ap (λ (x : List Item). filter_map (open_item s.request) before ++ x)
          (ap (λ (i : Option Item). cons_option i (answers_in (after middle frame) later))
          (item_open middle frame first.1 ∙ ap (λ (r : Request). open_item r frame) first.2)
          ∙ ap (cons_option (open_item s.request frame)) rest.0),
      ap (λ (t : Replies). t.ended) (after_all-append s before (frame ∷ later) ∙ rest.1) ∙ ended,
    )

-- an open answer ends in these frames if and only if one of them is an end
pub ends_at : (s : Replies) (frames : List (List ℕ)) → s.ended ≡ false
    → (after_all s frames).ended ≡ list_any (is_end s.request) frames
ends_at s [] open' = open'
ends_at s (frame ∷ more) open' =
    elim (cases_Bool (is_end s.request frame)) [
      | inl mine ↦
          let ended = end_after s frame open' ∙ mine in
          ap (λ (t : Replies). t.ended) (ended_items (after s frame) more ended).1
          ∙ ended ∙ sym (ap (λ (b : Bool). b || list_any (is_end s.request) more) mine)
      | inr foreign ↦
          ends_at (after s frame) more (end_after s frame open' ∙ foreign)
          ∙ ap (λ (r : Request). list_any (is_end r) more) (request_after s frame)
          ∙ sym (ap (λ (b : Bool). b || list_any (is_end s.request) more) foreign)
    ]

-- ---- interruption

or_later : (x y z : Bool) → ((x || y) || z) ≡ (x || (y || z))
or_later true y z = refl
or_later false y z = refl

or_none : (x : Bool) → (x || false) ≡ x
or_none true = refl
or_none false = refl

pub interrupted_by : (s : Replies) (frames : List (List ℕ)) → s.ended ≡ false
    → (after_all s frames).interrupted
    ≡ (s.interrupted || list_any has_interruption (answer_of s.request frames))
interrupted_by s [] open' = sym (or_none s.interrupted)
interrupted_by s (frame ∷ more) open' =
    let same = concerns_open s frame open' in
    elim (cases_Bool (belongs s.request frame)) [
      | inr foreign ↦
          ap (λ (t : Replies). (after_all t more).interrupted) (passed_by s frame (same ∙ foreign)).1
          ∙ interrupted_by s more open'
          ∙ sym (ap (λ (b : Bool). s.interrupted || list_any has_interruption
          (if b then frame ∷ (if ends s.request (header_of frame).flags (meaning frame) then []
          else answer_of s.request more) else answer_of s.request more)) foreign)
      | inl mine ↦
          let now = (taken s frame (same ∙ mine)).1 in
          let flag : Bool = has_interruption frame in
          let there =
          sym (ap (λ (b : Bool). s.interrupted || list_any has_interruption
          (if b then frame ∷ (if ends s.request (header_of frame).flags (meaning frame) then []
          else answer_of s.request more) else answer_of s.request more)) mine) in
          elim (cases_Bool (ends s.request (header_of frame).flags (meaning frame))) [
            | inl last ↦
                ap (λ (t : Replies). (after_all t more).interrupted) now
                ∙ ap (λ (t : Replies). t.interrupted) (ended_items (moved s frame) more last).1
                ∙ sym (ap (λ (x : Bool). s.interrupted || x) (or_none flag))
                ∙ sym (ap (λ (b : Bool). s.interrupted || list_any has_interruption
                (frame ∷ (if b then [] else answer_of s.request more))) last)
                ∙ there
            | inr open'' ↦
                ap (λ (t : Replies). (after_all t more).interrupted) now
                ∙ interrupted_by (moved s frame) more open''
                ∙ or_later s.interrupted flag (list_any has_interruption (answer_of s.request more))
                ∙ sym (ap (λ (b : Bool). s.interrupted || list_any has_interruption
                (frame ∷ (if b then [] else answer_of s.request more))) open'')
                ∙ there
          ]
    ]

-- ---- isolation

-- the item, if there is one, is not a frame with other numbers
abbrev IsOwn : Request → Option Item → Type 0
IsOwn r None = Unit {0}
IsOwn r (Some item) = is_own r item ≡ true

if_own : (r : Request) (b : Bool) (x y : Option Item) → IsOwn r x → IsOwn r y
    → IsOwn r (if b then x else y)
if_own r true x y own also = own
if_own r false x y own also = also

if_own_item : (r : Request) (b : Bool) (x y : Item) → is_own r x ≡ true → is_own r y ≡ true
    → is_own r (if b then x else y) ≡ true
if_own_item r true x y own also = own
if_own_item r false x y own also = also

error_own : (r : Request) (flags : ℕ) (payload : List ℕ) → is_own r (error_item flags payload) ≡ true
error_own r flags payload =
    if_own_item r (nat_lt (length payload) 4) _ _ refl
    (if_own_item r (nat_eq (field 0 4 payload) 0) _ _ refl refl)

done_own : (r : Request) (flags : ℕ) (payload : List ℕ) → is_own r (done_item flags payload) ≡ true
done_own r flags payload =
    if_own_item r (nat_eq (length payload) 0) _ _ refl
    (if_own_item r (nat_lt (length payload) 4) _ _ refl refl)

meaning_own : (r : Request) (frame : List ℕ) → IsOwn r (meaning frame)
meaning_own r frame =
    let t : ℕ = (header_of frame).message_type in
    if_own r (nat_eq t 1) _ _ tt
    (if_own r (nat_eq t 2) _ _ (error_own r (header_of frame).flags (payload_of frame))
    (if_own r (nat_eq t 3) _ _ (done_own r (header_of frame).flags (payload_of frame))
    (if_own r (nat_eq t 4) _ _ refl refl)))

item_own : (s : Replies) (frame : List ℕ) (r : Request) → belongs r frame ≡ true
    → IsOwn r (item_of s frame)
item_own s frame r mine =
    if_own r (concerns s frame) _ _ (meaning_own r frame)
    (if_own r (nat_eq (header_of frame).message_type 1) _ _ tt mine)

kept : (r : Request) (item : Option Item) (items : List Item) → IsOwn r item
    → filter (is_own r) (cons_option item items) ≡ cons_option item (filter (is_own r) items)
kept r None items own = refl
kept r (Some item) items own =
    ap (λ (b : Bool). if b then item ∷ filter (is_own r) items else filter (is_own r) items) own

dropped : (b : Bool) (r : Request) (frame : List ℕ) (items : List Item) → belongs r frame ≡ false
    → filter (is_own r) (cons_option (if b then None else Some (Ok (Other frame))) items)
    ≡ filter (is_own r) items
dropped true r frame items foreign = refl
dropped false r frame items foreign =
    ap (λ (b : Bool). if b then Ok (Other frame) ∷ filter (is_own r) items else filter (is_own r) items) foreign

pub isolated : (s : Replies) (frames : List (List ℕ)) (r : Request) → s.request ≡ r
    → (answers_in s (filter (belongs r) frames) ≡ filter (is_own r) (answers_in s frames))
    × (after_all s (filter (belongs r) frames) ≡ after_all s frames)
isolated s [] r same = (refl, refl)
isolated s (frame ∷ more) r same =
    let kept_frames : List (List ℕ) = filter (belongs r) more in
    elim (cases_Bool (belongs r frame)) [
      | inl mine ↦
          let later = isolated (after s frame) more r (request_after s frame ∙ same) in
          let first =
          ap (λ (b : Bool). if b then frame ∷ kept_frames else kept_frames) mine in (
            ap (answers_in s) first
                ∙ ap (cons_option (item_of s frame)) later.0
                ∙ sym (kept r (item_of s frame) (answers_in (after s frame) more) (item_own s frame r mine)),
            ap (after_all s) first ∙ later.1,
          )
      | inr foreign ↦
          let later = isolated s more r same in
          let by =
          passed_by s frame
          (and_right (not s.ended) (belongs s.request frame)
          (ap (λ (q : Request). belongs q frame) same ∙ foreign)) in
          let first =
          ap (λ (b : Bool). if b then frame ∷ kept_frames else kept_frames) foreign in (
            ap (answers_in s) first ∙ later.0
                ∙ sym (dropped (nat_eq (header_of frame).message_type 1) r frame (answers_in s more) foreign)
                ∙ sym (ap (λ (i : Option Item). filter (is_own r) (cons_option i (answers_in (after s frame) more))) by.0
                ∙ ap (λ (t : Replies). filter (is_own r) (cons_option (other frame) (answers_in t more))) by.1),
            ap (after_all s) first ∙ later.1 ∙ sym (ap (λ (t : Replies). after_all t more) by.1),
          )
    ]
