-- A payload in canonical form, with room for a header before it, is the frame of a message.
use Rattle.std.proofs.Common.{◌≡◌, ◌+◌, ◌≤◌, ℕ, List, ◌++◌, Vec, ap, refl, ◌∙◌, arith, drop, length, length-append, drop_at, replicate}

-- a vector with other, fewer elements
abbrev pub with_fewer : {X H : Type 0} (v : Vec X H) (xs : List X) → length xs ≤ length v.items → Vec X H
with_fewer v xs fewer = record {
  ptr = v.ptr;
  len = length xs;
  cap = v.cap;
  alloc = v.alloc;
  items = xs;
  ok = (refl, omega (arith, fewer, v.ok.0, v.ok.1));
  small = v.small;
}

-- what follows the room for a header
pub after_room : (frame out : List ℕ) → frame ≡ replicate 16 0 ++ out → drop 16 frame ≡ out
after_room frame out is = ap (drop 16) is ∙ drop_at (replicate 16 0) out 16 refl

pub room_size : (frame out : List ℕ) → frame ≡ replicate 16 0 ++ out → length frame ≡ 16 + length out
room_size frame out is = ap length is ∙ length-append (replicate 16 0) out
