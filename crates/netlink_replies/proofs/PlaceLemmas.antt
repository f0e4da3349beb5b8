-- Where the value of an attribute is in its block.
use Rattle.std.proofs.Common.{◌≡◌, ℕ, ◌+◌, ◌-◌, ◌≤◌, List, length, take, drop, ap, sym, ◌∙◌, arith, length-drop}
use Rattle.std.proofs.lemmas.List.{drop-drop, drop_min}
use Rattle.std.specs.Prelude.{min, slice_range}
use Rattle.netlink_packet_core.specs.Attribute.{Attribute, padded_size}
use Rattle.netlink_packet_core.specs.StartLaws.{starts-rest}
use Rattle.netlink_packet_core.specs.Walk.{Starts}
use Rattle.netlink_replies.specs.AckValues.{bytes_at}

-- these are the last bytes
pub record IsRest (bytes rest : List ℕ) : Type 0 where
  pub shorter : length rest ≤ length bytes
  pub same : drop (length bytes - length rest) bytes ≡ rest

pub rest_all : (bytes rest : List ℕ) → rest ≡ bytes → IsRest bytes rest
rest_all bytes rest is =
    let sizes : length rest ≡ length bytes = ap length is in
    let none : length bytes - length rest ≡ 0 = omega arith in
    record { shorter = omega arith; same = ap (λ (n : ℕ). drop n bytes) none ∙ sym is }

pub rest_on : (bytes middle : List ℕ) (a : Attribute) (rest : List ℕ) → IsRest bytes middle → Starts middle a rest
    → IsRest bytes rest
rest_on bytes middle a rest before starts =
    let n : ℕ = padded_size a in
    let is : rest ≡ drop n middle = starts-rest middle a rest starts in
    let size : length rest ≡ length middle - n = ap length is ∙ length-drop n middle in
    let shorter = before.shorter in
    let at : length bytes - length rest ≡ (length bytes - length middle) + min n (length middle) = omega arith in
    record {
      shorter = omega arith;
      same = ap (λ (k : ℕ). drop k bytes) at
          ∙ sym (drop-drop (min n (length middle)) (length bytes - length middle) bytes)
          ∙ ap (drop (min n (length middle))) before.same
          ∙ drop_min n middle
          ∙ sym is;
    }

-- bytes of the rest, by where they are in the whole
pub rest_part : (bytes rest : List ℕ) (start size : ℕ) → IsRest bytes rest → start ≡ length bytes - length rest
    → bytes_at bytes (start + 4, start + size) ≡ slice_range rest 4 size
rest_part bytes rest start size is at =
    let sizes : (start + size) - (start + 4) ≡ size - 4 = omega arith in
    let here : drop (start + 4) bytes ≡ drop 4 rest = sym (drop-drop 4 start bytes)
    ∙ ap (λ (k : ℕ). drop 4 (drop k bytes)) at ∙ ap (drop 4) is.same in
    ap (λ (n : ℕ). take n (drop (start + 4) bytes)) sizes ∙ ap (take (size - 4)) here
