-- The names of families.
use Rattle.std.proofs.Common.{◌≡◌, ℕ, zero, suc, List, [], ◌∷◌, ◌++◌, arith, length, true, refl, ap, ◌∙◌}
use Rattle.std.proofs.lemmas.Bool.{and_parts, eqb-true}
use Rattle.netlink_family.specs.Shapes.{nul_only_last}
use Rattle.netlink_family.specs.Strings.{until_nul}
use Rattle.netlink_generic.specs.Names.{is_family_name}

by_size : (name : List ℕ) → length (until_nul name) ≡ length name
    → nul_only_last (name ++ (0 ∷ [])) ≡ true
by_size [] same = refl
by_size (zero ∷ more) same = absurd (omega (arith, same))
by_size (suc b ∷ more) same = by_size more (omega (arith, same))

-- a name followed by a NUL has no other NUL
pub nul_is_last : (name text : List ℕ) → text ≡ name ++ (0 ∷ []) → is_family_name name ≡ true
    → nul_only_last text ≡ true
nul_is_last name text is named =
    ap nul_only_last is ∙ by_size name (eqb-true _ _ (and_parts _ _ named).1)
