-- A frame whose attributes are overwritten.
use Rattle.std.proofs.Common.{◌≡◌, ◌+◌, ◌-◌, ◌++◌, List, ℕ, length, length-drop, take, drop, ap, sym, ◌∙◌, subst, arith}
use Rattle.std.proofs.lemmas.List.{drop_at, drop-drop, length-take-le, take-append-drop, take_at}
use Rattle.netlink_packet_core.specs.Header.{HoldsFrame, field, payload_of}
use Rattle.netlink_packet_core.specs.Storage.{put_at}
use Rattle.netlink_mtu.specs.Mtu.{IsMtuSet, IsMtuSetIn, block_of}

-- the block is what follows the 16 bytes at the start of the payload
pub block_is : (frame front block : List ℕ) → payload_of frame ≡ front ++ block → length front ≡ 16 → block_of frame ≡ block
block_is frame front block payload size = ap (λ (x : List ℕ). drop 16 x) payload ∙ drop_at front block 16 size

-- with the MTU set in its block, it is set in the frame
pub set_in_frame : (frame front block after new : List ℕ) (mtu : ℕ) → new ≡ put_at frame 16 (front ++ after)
    → payload_of frame ≡ front ++ block → length front ≡ 16 → IsMtuSetIn block mtu after → IsMtuSet frame mtu new
set_in_frame frame front block after new mtu whole payload size set =
    let taken : take 16 (payload_of frame) ≡ front = ap (λ (x : List ℕ). take 16 x) payload ∙ take_at front block 16 size in
    record {
      block = after;
      set = subst (λ (b : List ℕ). IsMtuSetIn b mtu after) (sym (block_is frame front block payload size)) set;
      whole = whole ∙ ap (λ (x : List ℕ). put_at frame 16 (x ++ after)) (sym taken);
    }

-- a frame with its own payload written over it is unchanged
payload_kept : (frame : List ℕ) → HoldsFrame frame → put_at frame 16 (payload_of frame) ≡ frame
payload_kept frame holds =
    let n = field 0 4 frame - 16 in
    let left = length-drop 16 frame in
    let size : length (payload_of frame) ≡ n =
    length-take-le n (drop 16 frame) (omega (arith, left, holds.header, holds.least, holds.most)) in
    let rest : drop (16 + length (payload_of frame)) frame ≡ drop n (drop 16 frame) = ap (λ (k : ℕ). drop (16 + k) frame) size
    ∙ sym (drop-drop n 16 frame) in
    ap (λ (x : List ℕ). take 16 frame ++ (payload_of frame ++ x)) rest
    ∙ ap (λ (x : List ℕ). take 16 frame ++ x) (take-append-drop n (drop 16 frame))
    ∙ take-append-drop 16 frame

-- a frame whose block is unchanged is unchanged
pub frame_kept : (frame front block after new : List ℕ) → HoldsFrame frame → new ≡ put_at frame 16 (front ++ after)
    → payload_of frame ≡ front ++ block → after ≡ block → new ≡ frame
frame_kept frame front block after new holds whole payload same =
    whole ∙ ap (λ (x : List ℕ). put_at frame 16 (front ++ x)) same ∙ ap (λ (x : List ℕ). put_at frame 16 x) (sym payload)
    ∙ payload_kept frame holds
