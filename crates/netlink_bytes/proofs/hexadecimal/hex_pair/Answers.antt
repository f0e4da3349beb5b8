use Rattle.std.proofs.Common.{◌≡◌, ℕ, ◌+◌, ◌-◌, ◌*◌, ◌/◌, ◌%◌, ◌<◌, List, [], ◌∷◌, true, map, take, drop, get_or, nat_lt, IsAscii, refl, sym, ap, ◌∙◌, arith}
use Rattle.std.proofs.lemmas.Bool.{ltb-true}
use Rattle.std.proofs.lemmas.List.FromFn.{get_or-map-range_with_len}
use Rattle.std.proofs.lemmas.Str.Ascii.{IsAscii-cons, IsAscii-nil}
use Rattle.std.proofs.lemmas.Grind.{common_steps}
use Rattle.std.specs.List.{list_all, range_with_len}
use Rattle.netlink_bytes.specs.Text.{hex_digit}
use Rattle.netlink_bytes.specs.declared.hexadecimal.TheConstants.{PAIRS}
use Rattle.netlink_bytes.proofs.hexadecimal.hex_pair.Goals as goal

abbrev piece : ℕ → List ℕ
piece byte = take 2 (drop (byte * 2) PAIRS.now)

abbrev digits : ℕ → List ℕ
digits byte = hex_digit (byte / 16) ∷ (hex_digit (byte % 16) ∷ [])

table_is : map piece (range_with_len 0 256) ≡ map digits (range_with_len 0 256)
table_is = refl

piece_is : (byte : ℕ) → byte < 256 → piece byte ≡ digits byte
piece_is byte less = sym (get_or-map-range_with_len piece 0 256 byte byte [] less (omega arith))
    ∙ ap (λ t. get_or t byte []) table_is ∙ get_or-map-range_with_len digits 0 256 byte byte [] less (omega arith)

ascii_from : (bs : List ℕ) → list_all (λ b. nat_lt b 128) bs ≡ true → IsAscii bs
ascii_from [] e = IsAscii-nil
ascii_from (b ∷ bs) e = IsAscii-cons b bs (ltb-true b 128 (grind (arith, common_steps))) (ascii_from bs (grind (arith, common_steps)))

pairs_ascii : IsAscii PAIRS.now
pairs_ascii = ascii_from PAIRS.now refl

pub range-requires-clause-start_boundary : goal.range-requires-clause-start_boundary
range-requires-clause-start_boundary c = λ _. (omega arith, λ a b. absurd (omega (arith, pairs_ascii (c.from-start.result * 2))))

pub range-requires-clause-end_boundary : goal.range-requires-clause-end_boundary
range-requires-clause-end_boundary c = (omega arith, λ a b. absurd (omega (arith, pairs_ascii (c.from-start.result * 2 + 2))))

pub returns : goal.returns
returns c =
    let start = c.from-start.result * 2 in
    let two : start + 2 - start ≡ 2 = omega arith in
    let read : c.range.result.now ≡ take (start + 2 - start) (drop start PAIRS.now) = c.range.ensures.value in
    record {
      digits = read ∙ ap (λ (n : ℕ). take n (drop start PAIRS.now)) two ∙ ap (λ (b : ℕ). take 2 (drop (b * 2) PAIRS.now)) c.from-start.ensures
          ∙ piece_is c.args.byte (omega arith);
    }
