use Rattle.std.proofs.Common.{rules, ◌≡◌, ◌∙◌, ◌++◌, IfOk, codes, decimal, length, sym, string_bytes, string_len, false, true}
use Rattle.std.proofs.lemmas.Bool.{eq-eqb, eqb-true}
use Rattle.netlink_lines.proofs.Words.{bare_place, no_place, path_place}
use Rattle.netlink_lines.proofs.concern.place_words.Goals as goal

pub returns-in_default : goal.returns-in_default
returns-in_default c all fault walk =
    no_place _ _ _ (λ n is. c.in_default.not-Some n (c.offset.ensures all fault walk ∙ is)) c.new.ensures.bytes

pub returns-then-is_empty : goal.returns-then-is_empty
returns-then-is_empty c all fault walk =
    let says : IfOk c.format.result (λ s. string_bytes s ≡ codes "; byte " ++ decimal c.in-Some.offset) = search rules in
    let size : string_len c.in_ok-kinds.kinds ≡ length (string_bytes c.in_ok-kinds.kinds) = search rules in
    let none : length (string_bytes c.in_ok-kinds.kinds) ≡ 0 =
    sym size ∙ eqb-true (string_len c.in_ok-kinds.kinds) 0 (sym c.is_empty.ensures ∙ c.if-is_empty.true) in
    bare_place c.in-Some.offset _ c.args.request.now _ _ (string_bytes c.in_ok-kinds.kinds) c.format.result
    (sym c.in-Some.is ∙ c.offset.ensures all fault walk) (c.path_of.ensures.block all fault walk)
    (c.path_of.ensures.offset all fault walk) c.in_ok-kinds.ensures.text none says

pub returns : goal.returns
returns c all fault walk =
    let says : IfOk c.format-2.result (λ s. string_bytes s ≡ codes "; byte " ++ (decimal c.in-Some.offset ++ (codes ", attribute " ++ string_bytes c.in_ok-kinds.kinds))) = search rules in
    let size : string_len c.in_ok-kinds.kinds ≡ length (string_bytes c.in_ok-kinds.kinds) = search rules in
    let some : length (string_bytes c.in_ok-kinds.kinds) ≡ 0 → ⊥ =
    λ none.
    let same : false ≡ true = sym c.if-is_empty.false ∙ c.is_empty.ensures ∙ eq-eqb (string_len c.in_ok-kinds.kinds) 0 (size ∙ none) in
    absurd cc in
    path_place c.in-Some.offset _ c.args.request.now _ _ (string_bytes c.in_ok-kinds.kinds) c.format-2.result
    (sym c.in-Some.is ∙ c.offset.ensures all fault walk) (c.path_of.ensures.block all fault walk)
    (c.path_of.ensures.offset all fault walk) c.in_ok-kinds.ensures.text some says
