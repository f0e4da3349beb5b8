use Rattle.std.proofs.Common.{rules}
use Rattle.std.proofs.Common.{◌≡◌, ◌↔◌, Some, ℕ, List, [], ◌∷◌, length, refl, sym, ap, subst, ◌∙◌, arith, String, Global}
use Rattle.std.specs.Prelude.{Option, option_map, string_bytes}
use Rattle.std.specs.Vec.Iter.{into_iter_items}
use Rattle.netlink_frame.specs.Ending.{Asks, command_of}
use Rattle.netlink_frame.specs.declared.command.Command.{Command}
use Rattle.netlink_frame.proofs.ending.asked.Goals as goal

-- the command that was found is the one that `text` names
abbrev NamesIt : Option Command → List ℕ → Type 0
NamesIt found text = found ≡ command_of text

nothing_left : (rest : List (String Global)) → length rest ≡ 0 → rest ≡ []
nothing_left [] none = refl
nothing_left (x ∷ rest) none = absurd (omega arith)

-- the second of two arguments is the word
second_word : (name word : String Global) (command : Command) → Asks (Some (name ∷ (word ∷ []))) command
    → command_of (string_bytes word) ≡ Some command
second_word name word command (first, second, same, names) = let is : word ≡ second = cc in ap (λ (w : String Global). command_of (string_bytes w)) is ∙ names

-- a name and a word, with nothing after them, name the command of that word
two_ask : (given : Option (List (String Global))) (items after rest : List (String Global)) (name word : String Global)
    (found : Option Command)
    → given ≡ Some items → items ≡ name ∷ after → after ≡ word ∷ rest → length rest ≡ 0 → NamesIt found (string_bytes word)
    → (command : Command) → (found ≡ Some command) ↔ Asks given command
two_ask given items after rest name word found had first second none names command =
    let alone : given ≡ Some (name ∷ (word ∷ [])) =
    had ∙ ap Some (first
    ∙ ap (λ (l : List (String Global)). name ∷ l) (second ∙ ap (λ (l : List (String Global)). word ∷ l) (nothing_left rest none))) in
    subst (λ (o : Option (List (String Global))). (found ≡ Some command) ↔ Asks o command) (sym alone) (
      λ is. (name, word, refl, sym names ∙ is),
      λ asks. names ∙ second_word name word command asks,
    )

pub returns-in-None : goal.returns-in-None
returns-in-None c = record {
  asks =
      two_ask _ _ _ _ _ _ c.from_text.result (ap (option_map into_iter_items) c.in_ok-args.was) c.in_ok-_name.ensures.cases.0
      c.in_ok-word.ensures.cases.0
      (sym c.next-2.new.self.rest.ok.0 ∙ c.in-None.ensures.cases.0)
      (c.from_text.ensures.names ∙ ap command_of c.as_str.ensures.value);
}

pub returns : goal.returns
returns c = search rules
