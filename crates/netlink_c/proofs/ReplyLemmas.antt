-- Where the request and the attributes of a reply are in its frame, and in the datagram.
use Rattle.std.proofs.Common.{◌≡◌, ℕ, ℤ, ◌+◌, ◌-◌, ◌<◌, ◌≤◌, Bool, true, false, List, [], ◌++◌, length, take, drop, refl, ap, sym, subst, ◌∙◌, inl, inr, arith, length-drop, length-take, Option, Some, None, Ok, Err}
use Rattle.std.proofs.lemmas.Bool.{cases_lt, le-ltb, lt-ltb}
use Rattle.std.proofs.lemmas.List.{drop-append-le, drop-drop, drop_min, take-append-le, take_all}
use Rattle.std.specs.Prelude.{if◌then◌else◌, min, nat_eq, nat_lt}
use Rattle.netlink_packet_core.specs.Attribute.{padding}
use Rattle.netlink_packet_core.specs.FrameWalk.{StartsFrame}
use Rattle.netlink_packet_core.specs.FrameStartLaws.{starts_frame-field, starts_frame-length, starts_frame-rest}
use Rattle.netlink_packet_core.specs.FrameWalkLaws.{starts_frame_once}
use Rattle.netlink_packet_core.specs.Header.{field, header_of, payload_of}
use Rattle.netlink_replies.specs.Answers.{after, concerns, item_of}
use Rattle.netlink_replies.specs.Bodies.{request_size}
use Rattle.netlink_replies.specs.FramePlaces.{MeansFrame}
use Rattle.netlink_replies.specs.Headers.{has_flag}
use Rattle.netlink_replies.specs.Meaning.{Item, done_item, error_item, meaning}
use Rattle.netlink_replies.specs.Reads.{Gives}
use Rattle.netlink_replies.specs.declared.replies.Replies.{Replies}
use Rattle.netlink_replies.specs.declared.reply.Reply.{Reply}
use Rattle.netlink_c.specs.Parts.{part_from, part_of}
use Rattle.netlink_c.specs.ReplyItems.{GivesReply, ShowsReply, attributes_in, code_of, request_in, request_start, what_of}
use Rattle.netlink_c.specs.declared.reply_item.ReplyItem.{ReplyItem}
use Rattle.netlink_c.proofs.WalkLemmas.{frame_at}

-- these bytes are at an offset of the frame
pub record IsPartAt (frame : List ℕ) (at : ℕ) (x : List ℕ) : Type 0 where
  pub same : take (length x) (drop at frame) ≡ x
  pub inside : at + length x ≤ length frame

-- the request and the attributes are where they are said to be
abbrev FitsReply : List ℕ → Reply (List ℕ) → Type 0
FitsReply frame r =
    IsPartAt frame (request_start r) (request_in r)
    × IsPartAt frame (length frame - length (attributes_in r)) (attributes_in r)

abbrev FitsResult : List ℕ → Item → Type 0
FitsResult frame (Ok r) = FitsReply frame r
FitsResult frame (Err e) = Unit {0}

abbrev FitsItem : List ℕ → Option Item → Type 0
FitsItem frame None = Unit {0}
FitsItem frame (Some item) = FitsResult frame item

if_item : (frame : List ℕ) (b : Bool) (x y : Option Item) → FitsItem frame x → FitsItem frame y
    → FitsItem frame (if b then x else y)
if_item frame true x y p q = p
if_item frame false x y p q = q

if_result : (frame : List ℕ) (b : Bool) (x y : Item) → FitsResult frame x → FitsResult frame y
    → FitsResult frame (if b then x else y)
if_result frame true x y p q = p
if_result frame false x y p q = q

if_less : (frame : List ℕ) (m n : ℕ) (x y : Item) → FitsResult frame x → (n ≤ m → FitsResult frame y)
    → FitsResult frame (if nat_lt m n then x else y)
if_less frame m n x y p q = elim (cases_lt m n) [
  | inl less ↦ subst (λ (b : Bool). FitsResult frame (if b then x else y)) (sym (lt-ltb m n less)) p
  | inr more ↦ subst (λ (b : Bool). FitsResult frame (if b then x else y)) (sym (le-ltb m n more)) (q more)
]

none_at : (frame : List ℕ) (at : ℕ) → at ≤ length frame → IsPartAt frame at []
none_at frame at inside = record { same = refl; inside = omega arith }

-- a reply without a request and without attributes
plain_fits : (frame : List ℕ) → IsPartAt frame 0 [] × IsPartAt frame (length frame - 0) []
plain_fits frame = (none_at frame 0 (omega arith), none_at frame (length frame - 0) (omega arith))

-- the last bytes of a frame
tail_at : (frame : List ℕ) (n : ℕ) (x : List ℕ) → x ≡ drop n frame → IsPartAt frame (length frame - length x) x
tail_at frame n x is =
    let size : length x ≡ length frame - n = ap length is ∙ length-drop n frame in
    let at : length frame - length x ≡ min n (length frame) = omega arith in
    let same : drop (length frame - length x) frame ≡ x = ap (λ (k : ℕ). drop k frame) at ∙ drop_min n frame ∙ sym is in
    record { same = ap (take (length x)) same ∙ take_all (length x) x (omega arith); inside = omega arith }

pub attributes_at : (frame : List ℕ) (b : Bool) (n at : ℕ) (body : List ℕ) → body ≡ drop at frame
    → IsPartAt frame (length frame - length (if b then drop n body else [])) (if b then drop n body else [])
attributes_at frame true n at body is = tail_at frame (at + n) (drop n body) (ap (drop n) is ∙ drop-drop n at frame)
attributes_at frame false n at body is = none_at frame (length frame - 0) (omega arith)

pub take_min : (n : ℕ) (xs : List ℕ) → take (min n (length xs)) xs ≡ take n xs
take_min n xs = elim (cases_lt n (length xs)) [
  | inl less ↦ (let e : min n (length xs) ≡ n = omega arith in ap (λ (k : ℕ). take k xs) e)
  | inr more ↦ (let e : min n (length xs) ≡ length xs = omega arith in ap (λ (k : ℕ). take k xs) e ∙ take_all (length xs) xs (omega arith) ∙ sym (take_all n xs more))
]

-- the request follows the code
request_at : (frame : List ℕ) (n : ℕ) (body : List ℕ) → 20 ≤ length frame → body ≡ drop 20 frame
    → IsPartAt frame 20 (take n body)
request_at frame n body least is =
    let left = length-drop 20 frame in
    let whole : length body ≡ length (drop 20 frame) = ap length is in
    let size : length (take n body) ≡ min n (length body) = length-take n body in
    let cut : take (min n (length body)) (drop 20 frame) ≡ take n body =
    ap (take (min n (length body))) (sym is) ∙ take_min n body in
    record { same = ap (λ (k : ℕ). take k (drop 20 frame)) size ∙ cut; inside = omega arith }

error_fits : (frame : List ℕ) (flags : ℕ) (payload : List ℕ) → 16 ≤ length frame → payload ≡ drop 16 frame
    → FitsResult frame (error_item flags payload)
error_fits frame flags payload least is =
    let size : length payload ≡ length frame - 16 = ap length is ∙ length-drop 16 frame in
    let body : drop 4 payload ≡ drop 20 frame = ap (drop 4) is ∙ drop-drop 4 16 frame in
    let request : ℕ = request_size flags (drop 4 payload) in
    let tail = attributes_at frame (has_flag flags 512) (request + padding request) 20 (drop 4 payload) body in
    if_less frame (length payload) 4 _ _ tt
    (λ more. if_result frame (nat_eq (field 0 4 payload) 0) _ _ (none_at frame 0 (omega arith), tail)
    (request_at frame request (drop 4 payload) (omega arith) body, tail))

done_fits : (frame : List ℕ) (flags : ℕ) (payload : List ℕ) → 16 ≤ length frame → payload ≡ drop 16 frame
    → FitsResult frame (done_item flags payload)
done_fits frame flags payload least is =
    let body : drop 4 payload ≡ drop 20 frame = ap (drop 4) is ∙ drop-drop 4 16 frame in
    let tail = attributes_at frame (has_flag flags 512) 0 20 (drop 4 payload) body in
    if_result frame (nat_eq (length payload) 0) _ _ (plain_fits frame)
    (if_result frame (nat_lt (length payload) 4) _ _ tt (none_at frame 0 (omega arith), tail))

meaning_fits : (frame : List ℕ) → field 0 4 frame ≡ length frame → 16 ≤ length frame → FitsItem frame (meaning frame)
meaning_fits frame size least =
    let t : ℕ = (header_of frame).message_type in
    let flags : ℕ = (header_of frame).flags in
    let payload : payload_of frame ≡ drop 16 frame =
    ap (λ (n : ℕ). take (n - 16) (drop 16 frame)) size
    ∙ take_all (length frame - 16) (drop 16 frame) (omega (arith, length-drop 16 frame)) in
    if_item frame (nat_eq t 1) _ _ tt
    (if_item frame (nat_eq t 2) _ _ (error_fits frame flags (payload_of frame) least payload)
    (if_item frame (nat_eq t 3) _ _ (done_fits frame flags (payload_of frame) least payload)
    (if_item frame (nat_eq t 4) _ _ (plain_fits frame) (plain_fits frame))))

item_fits : (frame : List ℕ) (s : Replies) → field 0 4 frame ≡ length frame → 16 ≤ length frame → FitsItem frame (item_of s frame)
item_fits frame s size least =
    if_item frame (concerns s frame) _ _ (meaning_fits frame size least)
    (if_item frame (nat_eq (header_of frame).message_type 1) _ _ tt (plain_fits frame))

-- ---- in the datagram

part_in : (bytes frame rest : List ℕ) (start at : ℕ) (x : List ℕ) → StartsFrame (drop start bytes) frame rest
    → IsPartAt frame at x → part_from (start + at) (length x) bytes ≡ x
part_in bytes frame rest start at x starts is =
    let inside = is.inside in
    let sizes : (start + at + length x) - (start + at) ≡ length x = omega arith in
    let here : drop (start + at) bytes ≡ drop at frame ++ (starts.gap ++ rest) = sym (drop-drop at start bytes)
    ∙ ap (drop at) starts.whole ∙ drop-append-le at frame (starts.gap ++ rest) (omega arith) in
    let left = length-drop at frame in
    ap (λ (n : ℕ). take n (drop (start + at) bytes)) sizes ∙ ap (take (length x)) here
    ∙ take-append-le (length x) (drop at frame) (starts.gap ++ rest) (omega arith) ∙ is.same

fits_reply : (bytes : List ℕ) (start : ℕ) (r : Reply (List ℕ)) (t : Replies) (next : ℕ)
    → (means : MeansFrame bytes start (Some (Ok r)) t next) → FitsReply means.frame r
fits_reply bytes start r t next means =
    subst (FitsItem means.frame) (sym means.means) (item_fits means.frame means.before means.starts.size means.starts.least)

pub attributes_within : (bytes : List ℕ) (start size attributes : ℕ) (r : Reply (List ℕ)) (t : Replies) (next : ℕ)
    → MeansFrame bytes start (Some (Ok r)) t next → size ≡ field 0 4 (drop start bytes)
    → attributes ≡ length (attributes_in r) → attributes ≤ start + size
attributes_within bytes start size attributes r t next means sizes counted =
    let whole = starts_frame-field (drop start bytes) means.frame (drop next bytes) means.starts in
    let inside = (fits_reply bytes start r t next means).1.inside in
    omega arith

pub shows_reply : (bytes : List ℕ) (start size what : ℕ) (code : ℤ) (before request attributes : ℕ) (r : Reply (List ℕ)) (t : Replies)
    (next : ℕ) → MeansFrame bytes start (Some (Ok r)) t next → size ≡ field 0 4 (drop start bytes)
    → what ≡ what_of r → code ≡ code_of r → before ≡ request_start r → request ≡ length (request_in r)
    → attributes ≡ length (attributes_in r)
    → ShowsReply bytes (record {
      what = what;
      code = code;
      frame = record { offset = start; size = size };
      request = record { offset = start + before; size = request };
      attributes = record { offset = start + size - attributes; size = attributes };
    }) r
shows_reply bytes start size what code before request attributes r t next means sizes is coded begins requested counted =
    let whole = starts_frame-field (drop start bytes) means.frame (drop next bytes) means.starts in
    let fits = fits_reply bytes start r t next means in
    let first = fits.0.inside in
    let last = fits.1.inside in
    let end : start + size - attributes ≡ start + (length means.frame - length (attributes_in r)) = omega arith in
    record {
      what = is;
      code = coded;
      request = ap (λ (k : ℕ). part_from (start + k) request bytes) begins
          ∙ ap (λ (n : ℕ). part_from (start + request_start r) n bytes) requested
          ∙ part_in bytes means.frame (drop next bytes) start (request_start r) (request_in r) means.starts fits.0;
      request_at = ap (λ (k : ℕ). start + k) begins;
      request_inside = omega arith;
      attributes = ap (λ (k : ℕ). part_from k attributes bytes) end
          ∙ ap (λ (n : ℕ). part_from (start + (length means.frame - length (attributes_in r))) n bytes) counted
          ∙ part_in bytes means.frame (drop next bytes) start (length means.frame - length (attributes_in r)) (attributes_in r) means.starts fits.1;
      attributes_end = omega arith;
    }

-- what a call returns
pub gives_reply : (s : Replies) (bytes : List ℕ) (at : ℕ) (item : ReplyItem) (t : Replies) (next start : ℕ) (r : Reply (List ℕ))
    → Gives s (drop at bytes) (Some (Ok r)) t (drop next bytes) → MeansFrame bytes start (Some (Ok r)) t next
    → at ≤ start → start < length bytes → next ≤ length bytes → item.frame.offset ≡ start
    → item.frame.size ≡ field 0 4 (drop start bytes) → ShowsReply bytes item r → GivesReply s bytes at item t next
gives_reply s bytes at item t next start r gives means later inside end begins sizes shows =
    let frame : List ℕ = means.frame in
    let rest : List ℕ = drop next bytes in
    let here : StartsFrame (drop item.frame.offset bytes) frame rest =
    subst (λ (k : ℕ). StartsFrame (drop k bytes) frame rest) (sym begins) means.starts in
    let said : item.frame.size ≡ length frame = sizes ∙ starts_frame-field (drop start bytes) frame rest means.starts in
    let least = means.starts.least in
    let long = starts_frame-length (drop start bytes) frame rest means.starts in
    let left = length-drop start bytes in
    let behind = length-drop next bytes in
    let forward : item.frame.offset < next = omega arith in
    let place = frame_at bytes item.frame.offset next frame rest item.frame.size (omega arith) here said
    (starts_frame-rest (drop item.frame.offset bytes) frame rest here
    ∙ ap (λ (n : ℕ). drop (n + padding n) (drop item.frame.offset bytes)) (sym said)) (forward, end) in
    let same = starts_frame_once (drop item.frame.offset bytes) frame (part_of item.frame bytes) rest rest here place.starts in
    record {
      reply = r;
      gives = gives;
      shows = shows;
      later = omega arith;
      starts = place;
      before = means.before;
      means = sym (means.means ∙ ap (item_of means.before) same.0);
      state = means.state ∙ ap (λ (f : List ℕ). after means.before f) same.0;
    }
