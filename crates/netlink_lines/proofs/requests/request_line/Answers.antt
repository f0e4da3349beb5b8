use Rattle.std.proofs.Common.{rules, ◌≡◌, ◌∙◌, ◌++◌, ap, codes, drop, sym, subst, ℕ, List, None}
use Rattle.std.proofs.lemmas.Str.Pattern.{starts_text}
use Rattle.std.specs.List.{starts_with}
use Rattle.std.specs.Prelude.{Bool, true, false, nat_eq, if◌then◌else◌}
use Rattle.std.specs.Str.{IsCharBoundary}
use Rattle.std.specs.Str.Pattern.{FindsTextPrefix, StripsPrefix}
use Rattle.netlink_lines.specs.Requests.{lower_line, request_line}
use Rattle.netlink_lines.proofs.requests.request_line.Goals as goal

-- a line by whether it begins with `Deleted`
abbrev line_by : List ℕ → Bool → List ℕ
line_by line begins = if begins then codes "request delete" ++ drop 7 line else lower_line line

with_delete : (line rest : List ℕ) → StripsPrefix (FindsTextPrefix (codes "Deleted")) line rest
    → request_line line ≡ codes "request delete" ++ rest
with_delete line rest (n, (size, whole, cut), is, long) =
    let begins : true ≡ starts_with nat_eq line (codes "Deleted") =
    starts_text true (codes "Deleted") line (n, (size, whole, cut), subst (IsCharBoundary line) (sym size) cut) in
    let same : drop 7 line ≡ rest = ap (λ (k : ℕ). drop k line) (sym size) ∙ sym is in
    ap (line_by line) (sym begins) ∙ ap (λ (l : List ℕ). codes "request delete" ++ l) same

without_delete : (line : List ℕ) → FindsTextPrefix (codes "Deleted") line None → request_line line ≡ lower_line line
without_delete line none = ap (line_by line) (sym (starts_text false (codes "Deleted") line none))

pub returns-in-Some : goal.returns-in-Some
returns-in-Some c = rw (with_delete c.args.line.now c.in-Some.rest.now c.in-Some.ensures.cases) (search rules)

pub returns-in-None : goal.returns-in-None
returns-in-None c = rw (without_delete c.args.line.now c.in-None.ensures.cases) (search rules)
