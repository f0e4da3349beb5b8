-- Members and items that a loop writes one after another.
use Rattle.std.proofs.Common.{◌≡◌, ◌∙◌, ◌==◌, refl, ℕ, Bool, true, false, List, [], ◌∷◌, if◌then◌else◌}
use Rattle.std.specs.Int.Bits.{bit_and}
use Rattle.std.specs.List.{fold}
use denote.Ref.{Bor}
use Rattle.netlink_json.specs.Fields.{Written, with_field, with_fields, with_items}
use Rattle.netlink_json.specs.Json.{Json, text}
use Rattle.netlink_names.specs.declared.device.Known.{Known}
use Rattle.netlink_objects.specs.Forms.{bit_names, names_in}
use Rattle.netlink_objects.specs.Rows.{row_field, row_fields, rows_in}
use Rattle.netlink_objects.specs.declared.form.Form.{Form}
use Rattle.netlink_objects.specs.declared.row.Place.{Place}

-- ---- rows

abbrev pub row_step : List Known → List ℕ → List ℕ → Written → Bor (List ℕ) × Place × Form → Written
row_step known header block so_far row = with_field so_far (row_field known header block (row.0.now, row.1, row.2))

pub rows_all : (known : List Known) (header block : List ℕ) (so_far : Written) (rows : List (Bor (List ℕ) × Place × Form))
    → fold (row_step known header block) so_far rows ≡ with_fields so_far (row_fields known header block (rows_in rows))
rows_all known header block so_far [] = refl
rows_all known header block so_far (row ∷ rows) = rows_all known header block (row_step known header block so_far row) rows

-- ---- names of bits

abbrev pub bit_step : ℕ → Written → ℕ × Bor (List ℕ) → Written
bit_step number so_far name = with_items so_far (bit_names number ((name.0, name.1.now) ∷ []))

one_bit : (is_clear : Bool) (so_far : Written) (name : List ℕ) (rest : List Json)
    → with_items (with_items so_far (if is_clear then [] else text name ∷ [])) rest
    ≡ with_items so_far (if is_clear then rest else text name ∷ rest)
one_bit true so_far name rest = refl
one_bit false so_far name rest = refl

pub bits_all : (number : ℕ) (so_far : Written) (names : List (ℕ × Bor (List ℕ)))
    → fold (bit_step number) so_far names ≡ with_items so_far (bit_names number (names_in names))
bits_all number so_far [] = refl
bits_all number so_far (name ∷ names) =
    bits_all number (bit_step number so_far name) names
    ∙ one_bit (bit_and number name.0 == 0) so_far name.1.now (bit_names number (names_in names))
