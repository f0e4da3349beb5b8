use Rattle.std.proofs.Common.{◌≡◌, ◌≢◌, ◌==◌, ℕ, Bool, true, false, List, [], ◌∷◌, ap, refl, if◌then◌else◌, lit<, None}
use Rattle.std.proofs.lemmas.Bool.{eqb-true}
use Rattle.std.proofs.lemmas.Str.Pattern.{strip_prefix_char}
use Rattle.netlink_json.specs.Json.{after_comma}
use Rattle.netlink_json.proofs.object.after_comma.Goals as goal

-- bytes that do not begin with a comma
kept : (b : ℕ) (bytes : List ℕ) (x : Bool) → (b == 44) ≡ x → ((rest : List ℕ) → b ∷ bytes ≢ 44 ∷ rest)
    → b ∷ bytes ≡ (if x then bytes else b ∷ bytes)
kept b bytes true is other = absurd (other bytes (ap (λ (c : ℕ). c ∷ bytes) (eqb-true b 44 is)))
kept b bytes false is other = refl

no_comma : (text : List ℕ) → ((rest : List ℕ) → text ≢ 44 ∷ rest) → text ≡ after_comma text
no_comma [] other = refl
no_comma (b ∷ bytes) other = kept b bytes (b == 44) refl other

pub returns-in-None : goal.returns-in-None
returns-in-None c = no_comma c.args.text.now (strip_prefix_char 44 c.args.text.now None c.in-None.ensures.cases (lit< tt))
