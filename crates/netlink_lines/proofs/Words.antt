-- What the kernel says in an error or done message is one text.
use Rattle.std.proofs.Common.{◌≡◌, ◌∙◌, ap, arith, refl, sym, subst, ℕ, List, [], ◌∷◌, ◌++◌, length, append-nil, codes, decimal, string_bytes, String, Global, Option, Some, None, Result, Ok, Err, IfOk}
use Rattle.std.specs.Prelude.{option_and_then}
use Rattle.netlink_packet_core.specs.Attribute.{Attribute}
use Rattle.netlink_packet_core.specs.DecodeError.{DecodeError}
use Rattle.netlink_packet_core.specs.ReadingLaws.{attributes_in-walk}
use Rattle.netlink_packet_core.specs.Views.{masked}
use Rattle.netlink_packet_core.specs.Walk.{Walk}
use Rattle.netlink_packet_core.specs.WalkLaws.{walk_once}
use Rattle.netlink_replies.specs.Meaning.{Item}
use Rattle.netlink_replies.specs.Paths.{IsPath, attribute_at, bytes_inside, containing, offset_inside}
use Rattle.netlink_replies.specs.declared.reply.Reply.TheVariants.{Message}
use Rattle.netlink_lines.specs.Ack.{IsSaid, IsWords, ack_attributes, ack_request, number_of, text_of, text_words}
use Rattle.netlink_lines.specs.Concern.{IsPlace, attribute_words, missing_words, path_text, place_of, place_words}

-- ---- an offset has one path

found_once : (bytes : List ℕ) (offset : ℕ) (a b : Attribute × ℕ) → attribute_at bytes offset ≡ Some a
    → attribute_at bytes offset ≡ Some b → a ≡ b
found_once bytes offset a b first second = let same : ◌≡◌ {A = Option (Attribute × ℕ)} (Some a) (Some b) = sym first ∙ second in cc

path_once : (bytes : List ℕ) (offset : ℕ) (a b : List ℕ) → IsPath bytes offset a → IsPath bytes offset b → a ≡ b
path_once bytes offset [] [] first second = refl
path_once bytes offset [] (k ∷ more) first (found, is, kind, rest) =
    let same : ◌≡◌ {A = Option (Attribute × ℕ)} None (Some found) = sym first ∙ is in absurd cc
path_once bytes offset (k ∷ more) [] (found, is, kind, rest) second =
    let same : ◌≡◌ {A = Option (Attribute × ℕ)} None (Some found) = sym second ∙ is in absurd cc
path_once bytes offset (k ∷ more) (l ∷ rest) (found, is, kind, inside) (other, also, that, within) =
    let same : found ≡ other = found_once bytes offset found other is also in
    let here : IsPath (bytes_inside other) (offset_inside other) more =
    subst (λ (f : Attribute × ℕ). IsPath (bytes_inside f) (offset_inside f) more) same inside in
    ap (λ (n : ℕ). n ∷ more) (kind ∙ ap (λ (f : Attribute × ℕ). masked f.0.kind) same ∙ sym that)
    ∙ ap (λ (m : List ℕ). l ∷ m) (path_once (bytes_inside other) (offset_inside other) more rest here within)

place_once : (offset : Option ℕ) (request a b : List ℕ) → IsPlace offset request a → IsPlace offset request b → a ≡ b
place_once offset request a b (kinds, path, is) (others, other, that) =
    is ∙ ap (λ (k : List ℕ). place_words offset (path_text k))
    (path_once (place_of offset request).0 (place_of offset request).1 kinds others path other) ∙ sym that

-- ---- the words of a place

-- no attribute is in no bytes
nothing_there : attribute_at [] 0 ≡ None
nothing_there = ap (option_and_then (containing 0)) (attributes_in-walk [] [] refl)

-- an offset that is not there has none
pub no_place : (offset : Option ℕ) (request text : List ℕ) → ((n : ℕ) → offset ≡ Some n → ⊥) → text ≡ [] → IsPlace offset request text
no_place None request text not none = ([], nothing_there, none)
no_place (Some n) request text not none = absurd (not n refl)

-- an offset with a path, by the text of the path
has_place : (n : ℕ) (offset : Option ℕ) (request block : List ℕ) (at : ℕ) (kinds text words : List ℕ) → Some n ≡ offset
    → block ≡ (place_of offset request).0 → at ≡ (place_of offset request).1 → IsPath block at kinds → text ≡ path_text kinds
    → words ≡ codes "; byte " ++ (decimal n ++ attribute_words text) → IsPlace offset request words
has_place n offset request block at kinds text words is first second path said words_are = (
  kinds,
  subst (λ (b : List ℕ). IsPath b (place_of offset request).1 kinds) first (subst (λ (m : ℕ). IsPath block m kinds) second path),
  words_are ∙ ap (λ (p : List ℕ). place_words (Some n) p) said ∙ ap (λ (o : Option ℕ). place_words o (path_text kinds)) is,
)

-- what holds of a value, and what follows from it
on_value : {T E : Type 0} {P Q : T → Type 0} (r : Result T E) → IfOk r P → ((x : T) → P x → Q x) → IfOk r Q
on_value (Ok x) is then = then x is
on_value (Err e) is then = tt

bare_words : (n : ℕ) (text : List ℕ) → length text ≡ 0
    → codes "; byte " ++ decimal n ≡ codes "; byte " ++ (decimal n ++ attribute_words text)
bare_words n [] none = ap (λ (l : List ℕ). codes "; byte " ++ l) (sym (append-nil (decimal n)))
bare_words n (c ∷ text) none = absurd (omega arith)

path_words : (n : ℕ) (text : List ℕ) → (length text ≡ 0 → ⊥)
    → codes "; byte " ++ (decimal n ++ (codes ", attribute " ++ text)) ≡ codes "; byte " ++ (decimal n ++ attribute_words text)
path_words n [] some = absurd (some refl)
path_words n (c ∷ text) some = refl

-- a text that prints an offset with a path says where it is
pub bare_place : {E : Type 0} (n : ℕ) (offset : Option ℕ) (request block : List ℕ) (at : ℕ) (text : List ℕ) (r : Result (String Global) E) → Some n ≡ offset
    → block ≡ (place_of offset request).0 → at ≡ (place_of offset request).1
    → ((kinds : List ℕ) × IsPath block at kinds × (text ≡ path_text kinds)) → length text ≡ 0
    → IfOk r (λ words. string_bytes words ≡ codes "; byte " ++ decimal n) → IfOk r (λ words. IsPlace offset request (string_bytes words))
bare_place n offset request block at text r is first second (kinds, path, said) none says =
    on_value r says (λ words are.
    has_place n offset request block at kinds text (string_bytes words) is first second path said (are ∙ bare_words n text none))

pub path_place : {E : Type 0} (n : ℕ) (offset : Option ℕ) (request block : List ℕ) (at : ℕ) (text : List ℕ) (r : Result (String Global) E) → Some n ≡ offset
    → block ≡ (place_of offset request).0 → at ≡ (place_of offset request).1
    → ((kinds : List ℕ) × IsPath block at kinds × (text ≡ path_text kinds)) → (length text ≡ 0 → ⊥)
    → IfOk r (λ words. string_bytes words ≡ codes "; byte " ++ (decimal n ++ (codes ", attribute " ++ text)))
    → IfOk r (λ words. IsPlace offset request (string_bytes words))
path_place n offset request block at text r is first second (kinds, path, said) some says =
    on_value r says (λ words are.
    has_place n offset request block at kinds text (string_bytes words) is first second path said (are ∙ path_words n text some))

-- ---- all words

-- a text of the three says what the attributes say
pub says_so : {E : Type 0} (attributes request : List ℕ) (all : List Attribute) (fault : Option DecodeError)
    (text place missing : List ℕ) (r : Result (String Global) E) → Walk attributes all fault → text ≡ text_words (text_of all)
    → IsPlace (number_of 2 all) request place → missing ≡ missing_words (number_of 5 all) (number_of 6 all)
    → IfOk r (λ s. string_bytes s ≡ text ++ (place ++ missing)) → IfOk r (λ s. IsSaid attributes request (string_bytes s))
says_so attributes request all fault text place missing r walk first has last says =
    on_value r says (λ s is. (
      all,
      fault,
      walk,
      place,
      has,
      is ∙ ap (λ (t : List ℕ). t ++ (place ++ missing)) first ∙ ap (λ (m : List ℕ). text_words (text_of all) ++ (place ++ m)) last,
    ))

-- ---- a message says one thing

-- what these attributes say, with the words of the place
abbrev said_by : List Attribute → List ℕ → List ℕ
said_by all place = text_words (text_of all) ++ (place ++ missing_words (number_of 5 all) (number_of 6 all))

said_once : (attributes request a b : List ℕ) → IsSaid attributes request a → IsSaid attributes request b → a ≡ b
said_once attributes request a b (all, fault, walk, place, has, is) (more, other, also, spot, holds, that) =
    let same : all ≡ more = (walk_once attributes all more fault other walk also).0 in
    let here : IsPlace (number_of 2 more) request place = subst (λ (l : List Attribute). IsPlace (number_of 2 l) request place) same has in
    is ∙ ap (λ (l : List Attribute). said_by l place) same
    ∙ ap (said_by more) (place_once (number_of 2 more) request place spot here holds) ∙ sym that

pub words_once : (item : Option Item) (a b : List ℕ) → IsWords item a → IsWords item b → a ≡ b
words_once item a b first second = said_once (ack_attributes item) (ack_request item) a b first second

-- a message that is no control message says nothing
pub no_words : (frame : List ℕ) → IsWords (Some (Ok (Message frame))) []
no_words frame = ([], None, refl, [], ([], nothing_there, refl), refl)
