-- A queue of names, step by step.
use Rattle.std.proofs.Common.{◌≡◌, ℕ, ◌+◌, ◌++◌, ◌∷◌, [], List, Option, Some, None, Greater, Equal, Less, refl, sym, ◌∙◌, ap, arith, drop, inl, inr, length, length-append, slice_get, is_eq, nat_cmp, nat_lt, ◌<◌, ◌≤◌, ◌⊎◌}
use Rattle.std.proofs.lemmas.Bool.{cases_eq, cond_both, cond-false, cond-true, eqb-true, eqb-false, eq-eqb, false≢true, le-ltb, ne_eqb, not_from_false, not_from_true}
use Rattle.std.proofs.lemmas.List.{length-map}
use Rattle.std.proofs.lemmas.Map.Entries.{length-values_of}
use Rattle.std.proofs.lemmas.Option.{none-some, same_Some}
use Rattle.std.specs.Prelude.{◌==◌, ◌||◌, Bool, true, false, cond, if◌then◌else◌, option_map}
use Rattle.std.specs.BTreeMap.{BTreeMap, Updates, insert_entry, is_at}
use Rattle.std.specs.Map.{remove_entry, values_of}
use Rattle.netlink_names.specs.Device.{name_of}
use Rattle.netlink_names.specs.Known.{has_name, is_other, longest_name, most_links, with_name, with_room, without}
use Rattle.netlink_names.specs.NameQueue.{IsPlaced, IsQueue, entry_at, link_at, link_with, names_by, number_at, number_of}
use Rattle.netlink_names.specs.declared.device.Known.{Known}
use Rattle.netlink_names.specs.declared.name_queue.Place.{Place}

-- ---- tests of numbers

is_eq_nat_cmp : (a b : ℕ) → is_eq (nat_cmp a b) ≡ (a == b)
is_eq_nat_cmp a b = grind (arith, eqb-true, eqb-false, eq-eqb, ne_eqb)

at_same : (a b : ℕ) → a ≡ b → is_at (nat_cmp a) b ≡ true
at_same a b same = is_eq_nat_cmp a b ∙ eq-eqb a b same

at_other : (a b : ℕ) → (a ≡ b → ⊥) → is_at (nat_cmp a) b ≡ false
at_other a b other = is_eq_nat_cmp a b ∙ ne_eqb a b other

same_at : (a b : ℕ) → is_at (nat_cmp a) b ≡ true → a ≡ b
same_at a b hit = eqb-true a b (sym (is_eq_nat_cmp a b) ∙ hit)

other_at : (a b : ℕ) → is_at (nat_cmp a) b ≡ false → a ≡ b → ⊥
other_at a b miss = eqb-false a b (sym (is_eq_nat_cmp a b) ∙ miss)

greater : (a b : ℕ) → b < a → nat_cmp a b ≡ Greater
greater a b less =
    cond-false (nat_lt a b) Less (cond (a == b) Equal Greater) (le-ltb a b (omega arith))
    ∙ cond-false (a == b) Equal Greater (ne_eqb a b (λ same. omega arith))

-- ---- names without one

without_first : (q : ℕ) (link : Known) (known : List Known) → q ≡ link.index → without q (link ∷ known) ≡ without q known
without_first q link known same =
    cond-false (is_other q link) (link ∷ without q known) (without q known)
    (not_from_true (link.index == q) (eq-eqb link.index q (sym same)))

without_kept : (q : ℕ) (link : Known) (known : List Known) → (q ≡ link.index → ⊥) → without q (link ∷ known) ≡ link ∷ without q known
without_kept q link known other =
    cond-true (is_other q link) (link ∷ without q known) (without q known)
    (not_from_false (link.index == q) (ne_eqb link.index q (λ same. other (sym same))))

without_less : (known : List Known) (index : ℕ) → length (without index known) ≤ length known
without_less [] index = omega arith
without_less (first ∷ known) index =
    cond_both (is_other index first) (first ∷ without index known) (without index known)
    (λ (l : List Known). length l ≤ length (first ∷ known))
    (λ e. omega (arith, without_less known index)) (λ e. omega (arith, without_less known index))

-- either nothing is removed, or the list becomes shorter
pub without_or_less : (known : List Known) (index : ℕ)
    → (without index known ≡ known) ⊎ (length (without index known) < length known)
without_or_less [] index = inl refl
without_or_less (first ∷ known) index =
    cond_both (is_other index first) (first ∷ without index known) (without index known)
    (λ (l : List Known). (l ≡ first ∷ known) ⊎ (length l < length (first ∷ known)))
    (λ e. elim (without_or_less known index) [
      | inl same ↦ inl (ap (λ (l : List Known). first ∷ l) same)
      | inr less ↦ inr (omega (arith, less))
    ])
    (λ e. inr (omega (arith, without_less known index)))

-- one of too many is removed after a name is added, as is one of enough before
pub room_after : (known : List Known) (link : Known)
    → (if nat_lt most_links (length (known ++ link ∷ [])) then drop 1 (known ++ link ∷ []) else known ++ link ∷ []) ≡ with_room known ++ link ∷ []
unfolding with_room
room_after [] link = refl
room_after (first ∷ known) link = grind (arith, length-append)

-- a name that the link does not have, and that is short enough, is entered
pub with_name_new : (index : ℕ) (name : List ℕ) (known : List Known) → (nat_lt longest_name (length name) || has_name (name_of known index) name) ≡ false
    → with_name index name known ≡ with_room (without index known) ++ record { index = index; name = name } ∷ []
unfolding with_name
with_name_new index name known new =
    (elim (nat_lt longest_name (length name)) as (λ b. (b || has_name (name_of known index) name) ≡ false
    → cond b known (cond (has_name (name_of known index) name) known (with_room (without index known) ++ record { index = index; name = name } ∷ []))
    ≡ with_room (without index known) ++ record { index = index; name = name } ∷ []) [
      | true ↦ λ no. absurd (false≢true (sym no))
      | false ↦ λ no. cond-false (has_name (name_of known index) name) known (with_room (without index known) ++ record { index = index; name = name } ∷ []) no
    ]) new

-- ---- places

-- all keys but one have the same
abbrev SameBut : {X : Type 0} → List (ℕ × X) → List (ℕ × X) → ℕ → Type 0
SameBut old new key = (other : ℕ) → (key ≡ other → ⊥) → entry_at new other ≡ entry_at old other

same_but : {X : Type 0} (old new : BTreeMap ℕ X) (key : ℕ) (w : Option X) → Updates nat_cmp old new key w → SameBut old.entries new.entries key
same_but old new key w updates = λ other apart. updates.2 other (at_other key other apart)

-- a link has no number from this one on
abbrev IsBefore : List (ℕ × Place) → ℕ → ℕ → Type 0
IsBefore places q first = (n : ℕ) → first ≤ n → number_at places q ≡ Some n → ⊥

before_none : (places : List (ℕ × Place)) (q first : ℕ) → number_at places q ≡ None → IsBefore places q first
before_none places q first none = λ n le is. none-some n (sym none ∙ is)

before_own : (places : List (ℕ × Place)) (q n first : ℕ) → number_at places q ≡ Some n → n < first → IsBefore places q first
before_own places q n first is less = λ m le also. let same : n ≡ m = same_Some n m (sym is ∙ also) in omega arith

before_next : (places : List (ℕ × Place)) (q first next : ℕ) → first ≤ next → IsBefore places q first → IsBefore places q next
before_next places q first next le before = λ n above is. before n (omega arith) is

-- such a link is another one than that at a number
other_link : (places : List (ℕ × Place)) (e : ℕ × ℕ) (q first : ℕ) → IsBefore places q first → first ≤ e.0 → number_at places e.1 ≡ Some e.0 → q ≡ e.1 → ⊥
other_link places e q first before le is = λ same. before e.0 le (ap (number_at places) same ∙ is)

le_next : (places : List (ℕ × Place)) (order : List (ℕ × ℕ)) (first next : ℕ) → IsPlaced places order first next → first ≤ next
le_next places [] first next placed = placed
le_next places (e ∷ order) first next placed = omega (arith, placed.0, le_next places order (e.0 + 1) next placed.2)

lower : (places : List (ℕ × Place)) (order : List (ℕ × ℕ)) (least first next : ℕ) → least ≤ first → IsPlaced places order first next → IsPlaced places order least next
lower places [] least first next le placed = omega (arith, le, placed)
lower places (e ∷ order) least first next le placed = (omega (arith, le, placed.0), placed.1, placed.2)

same_link : (places new : List (ℕ × Place)) (index : ℕ) → entry_at new index ≡ entry_at places index → link_at new index ≡ link_at places index
same_link places new index same = ap (link_with index) same

-- a change of another link's place
same_names : (places new : List (ℕ × Place)) (q : ℕ) → SameBut places new q → (order : List (ℕ × ℕ)) (first next : ℕ) → IsBefore places q first
    → IsPlaced places order first next → names_by new order ≡ names_by places order
same_names places new q same [] first next before placed = refl
same_names places new q same (e ∷ order) first next before placed =
    let other : q ≡ e.1 → ⊥ = other_link places e q first before placed.0 placed.1 in
    let later : IsBefore places q (e.0 + 1) = before_next places q first (e.0 + 1) (omega (arith, placed.0)) before in
    ap (λ (link : Known). link ∷ names_by new order) (same_link places new e.1 (same e.1 other))
    ∙ ap (λ (known : List Known). link_at places e.1 ∷ known) (same_names places new q same order (e.0 + 1) next later placed.2)

same_placed : (places new : List (ℕ × Place)) (q : ℕ) → SameBut places new q → (order : List (ℕ × ℕ)) (first next : ℕ) → IsBefore places q first
    → IsPlaced places order first next → IsPlaced new order first next
same_placed places new q same [] first next before placed = placed
same_placed places new q same (e ∷ order) first next before placed =
    let other : q ≡ e.1 → ⊥ = other_link places e q first before placed.0 placed.1 in
    let later : IsBefore places q (e.0 + 1) = before_next places q first (e.0 + 1) (omega (arith, placed.0)) before in
    (placed.0, ap number_of (same e.1 other) ∙ placed.1, same_placed places new q same order (e.0 + 1) next later placed.2)

without_before : (places : List (ℕ × Place)) (q : ℕ) (order : List (ℕ × ℕ)) (first next : ℕ) → IsBefore places q first
    → IsPlaced places order first next → without q (names_by places order) ≡ names_by places order
without_before places q [] first next before placed = refl
without_before places q (e ∷ order) first next before placed =
    let other : q ≡ e.1 → ⊥ = other_link places e q first before placed.0 placed.1 in
    let later : IsBefore places q (e.0 + 1) = before_next places q first (e.0 + 1) (omega (arith, placed.0)) before in
    without_kept q (link_at places e.1) (names_by places order) other
    ∙ ap (λ (known : List Known). link_at places e.1 ∷ known) (without_before places q order (e.0 + 1) next later placed.2)

-- ---- a name is found

later_found : (b : Bool) (i q : ℕ) (rest : Option ℕ) → cond b (Some i) rest ≡ Some q → (i ≡ q → ⊥) → rest ≡ Some q
later_found true i q rest found other = absurd (other (same_Some i q found))
later_found false i q rest found other = found

name_of_found : (places : List (ℕ × Place)) (order : List (ℕ × ℕ)) (q n : ℕ) → entry_at order n ≡ Some q
    → name_of (names_by places order) q ≡ Some (link_at places q).name
unfolding name_of
name_of_found places [] q n found = absurd (none-some q found)
name_of_found places (e ∷ order) q n found =
    cond_both (e.1 == q) (Some (link_at places e.1).name) (name_of (names_by places order) q)
    (λ (o : Option (List ℕ)). o ≡ Some (link_at places q).name)
    (λ same. ap (λ (i : ℕ). Some (link_at places i).name) (eqb-true e.1 q same))
    (λ other. name_of_found places order q n (later_found (is_at (nat_cmp n) e.0) e.1 q (entry_at order n) found (eqb-false e.1 q other)))

name_of_none : (places : List (ℕ × Place)) (order : List (ℕ × ℕ)) (first next q : ℕ) → IsPlaced places order first next → number_at places q ≡ None
    → name_of (names_by places order) q ≡ None
unfolding name_of
name_of_none places [] first next q placed none = refl
name_of_none places (e ∷ order) first next q placed none =
    cond_both (e.1 == q) (Some (link_at places e.1).name) (name_of (names_by places order) q)
    (λ (o : Option (List ℕ)). o ≡ None)
    (λ same. absurd (none-some e.0 (sym none ∙ ap (number_at places) (sym (eqb-true e.1 q same)) ∙ placed.1)))
    (λ other. name_of_none places order (e.0 + 1) next q placed.2 none)

name_of_place : (places : List (ℕ × Place)) (order : List (ℕ × ℕ)) (next q : ℕ) (place : Option Place) → IsQueue places order next → entry_at places q ≡ place
    → name_of (names_by places order) q ≡ option_map (λ (p : Place). p.name) place
name_of_place places order next q None is none = name_of_none places order 0 next q is.placed (ap number_of none)
name_of_place places order next q (Some place) is some =
    name_of_found places order q place.number (is.found q place.number (ap number_of some))
    ∙ ap (λ (o : Option Place). Some (link_with q o).name) some

-- the name of a link is that in its place
pub name_of_queue : (places : List (ℕ × Place)) (order : List (ℕ × ℕ)) (next q : ℕ) → IsQueue places order next
    → name_of (names_by places order) q ≡ option_map (λ (p : Place). p.name) (entry_at places q)
name_of_queue places order next q is = name_of_place places order next q (entry_at places q) is refl

-- ---- a new queue

pub empty_queue : (places : List (ℕ × Place)) (order : List (ℕ × ℕ)) → places ≡ [] → order ≡ [] → IsQueue places order 0
empty_queue places order no_places no_order = record {
  placed = rw no_order (omega arith);
  found = λ index number some. absurd (none-some number (rw no_places at some));
}

pub length_names : (places : List (ℕ × Place)) (order : List (ℕ × ℕ)) → length (names_by places order) ≡ length order
length_names places order = length-map (values_of order) (link_at places) ∙ length-values_of order

-- ---- a name is removed

-- a number is of a link whose place is another one, if a place was removed
moved : (places new : List (ℕ × Place)) (q index number : ℕ) → SameBut places new q → entry_at new q ≡ None → number_at new index ≡ Some number
    → (q ≡ index → ⊥) × (number_at places index ≡ Some number)
moved places new q index number same none is = elim (cases_eq q index) [
  | inl it ↦ absurd (none-some number (sym (ap number_of none) ∙ ap (number_at new) it ∙ is))
  | inr other ↦ (other, sym (ap number_of (same index other)) ∙ is)
]

-- a link that has no place is removed
pub queue_apart : (places new : BTreeMap ℕ Place) (order : List (ℕ × ℕ)) (q next : ℕ) → IsQueue places.entries order next
    → number_at places.entries q ≡ None → Updates nat_cmp places new q None → IsQueue new.entries order next
queue_apart places new order q next is none gone = record {
  placed = same_placed places.entries new.entries q (same_but places new q None gone) order 0 next (before_none places.entries q 0 none) is.placed;
  found = λ index number some.
      is.found index number (moved places.entries new.entries q index number (same_but places new q None gone) gone.1 some).1;
}

pub names_apart : (places new : BTreeMap ℕ Place) (order : List (ℕ × ℕ)) (q next : ℕ) → IsQueue places.entries order next
    → number_at places.entries q ≡ None → Updates nat_cmp places new q None → names_by new.entries order ≡ without q (names_by places.entries order)
names_apart places new order q next is none gone =
    same_names places.entries new.entries q (same_but places new q None gone) order 0 next (before_none places.entries q 0 none) is.placed
    ∙ sym (without_before places.entries q order 0 next (before_none places.entries q 0 none) is.placed)

-- no other link has the number
abbrev IsOnly : List (ℕ × Place) → ℕ → ℕ → Type 0
IsOnly places q n = (r : ℕ) → number_at places r ≡ Some n → q ≡ r

only : (places : List (ℕ × Place)) (order : List (ℕ × ℕ)) (next q n : ℕ) → IsQueue places order next → number_at places q ≡ Some n → IsOnly places q n
only places order next q n is own = λ r also. same_Some q r (sym (is.found q n own) ∙ is.found r n also)

names_left : (places new : List (ℕ × Place)) (q n : ℕ) → SameBut places new q → number_at places q ≡ Some n → IsOnly places q n
    → (order : List (ℕ × ℕ)) (first next : ℕ) → IsPlaced places order first next
    → names_by new (remove_entry (is_at (nat_cmp n)) order) ≡ without q (names_by places order)
names_left places new q n same own one [] first next placed = refl
names_left places new q n same own one (e ∷ order) first next placed =
    cond_both (is_at (nat_cmp n) e.0) order (e ∷ remove_entry (is_at (nat_cmp n)) order)
    (λ (left : List (ℕ × ℕ)). names_by new left ≡ without q (names_by places (e ∷ order)))
    (λ hit.
    let here : n ≡ e.0 = same_at n e.0 hit in
    let before : IsBefore places q (e.0 + 1) = before_own places q n (e.0 + 1) own (omega arith) in
    same_names places new q same order (e.0 + 1) next before placed.2
    ∙ sym (without_before places q order (e.0 + 1) next before placed.2)
    ∙ sym (without_first q (link_at places e.1) (names_by places order) (one e.1 (placed.1 ∙ ap (λ (m : ℕ). Some m) (sym here)))))
    (λ miss.
    let other : q ≡ e.1 → ⊥ = λ it. other_at n e.0 miss (same_Some n e.0 (sym own ∙ ap (number_at places) it ∙ placed.1)) in
    ap (λ (link : Known). link ∷ names_by new (remove_entry (is_at (nat_cmp n)) order)) (same_link places new e.1 (same e.1 other))
    ∙ ap (λ (known : List Known). link_at places e.1 ∷ known) (names_left places new q n same own one order (e.0 + 1) next placed.2)
    ∙ sym (without_kept q (link_at places e.1) (names_by places order) other))

placed_left : (places new : List (ℕ × Place)) (q n : ℕ) → SameBut places new q → number_at places q ≡ Some n
    → (order : List (ℕ × ℕ)) (first next : ℕ) → IsPlaced places order first next
    → IsPlaced new (remove_entry (is_at (nat_cmp n)) order) first next
placed_left places new q n same own [] first next placed = placed
placed_left places new q n same own (e ∷ order) first next placed =
    cond_both (is_at (nat_cmp n) e.0) order (e ∷ remove_entry (is_at (nat_cmp n)) order)
    (λ (left : List (ℕ × ℕ)). IsPlaced new left first next)
    (λ hit.
    let here : n ≡ e.0 = same_at n e.0 hit in
    let before : IsBefore places q (e.0 + 1) = before_own places q n (e.0 + 1) own (omega arith) in
    lower new order first (e.0 + 1) next (omega (arith, placed.0)) (same_placed places new q same order (e.0 + 1) next before placed.2))
    (λ miss.
    let other : q ≡ e.1 → ⊥ = λ it. other_at n e.0 miss (same_Some n e.0 (sym own ∙ ap (number_at places) it ∙ placed.1)) in
    (placed.0, ap number_of (same e.1 other) ∙ placed.1, placed_left places new q n same own order (e.0 + 1) next placed.2))

-- a link and its number are removed
pub queue_left : (places new : BTreeMap ℕ Place) (order left : BTreeMap ℕ ℕ) (q n next : ℕ) → IsQueue places.entries order.entries next
    → number_at places.entries q ≡ Some n → Updates nat_cmp places new q None
    → Updates nat_cmp order left n None → left.entries ≡ remove_entry (is_at (nat_cmp n)) order.entries → IsQueue new.entries left.entries next
queue_left places new order left q n next is own gone freed entries = record {
  placed = rw entries (placed_left places.entries new.entries q n (same_but places new q None gone) own order.entries 0 next is.placed);
  found = λ index number some.
      let was : (q ≡ index → ⊥) × (number_at places.entries index ≡ Some number) =
      moved places.entries new.entries q index number (same_but places new q None gone) gone.1 some in
      let apart : n ≡ number → ⊥ = λ same. was.0 (only places.entries order.entries next q n is own index (was.1 ∙ ap (λ (m : ℕ). Some m) (sym same))) in
      same_but order left n None freed number apart ∙ is.found index number was.1;
}

pub names_without : (places new : BTreeMap ℕ Place) (order : List (ℕ × ℕ)) (q n next : ℕ) → IsQueue places.entries order next
    → number_at places.entries q ≡ Some n → Updates nat_cmp places new q None
    → names_by new.entries (remove_entry (is_at (nat_cmp n)) order) ≡ without q (names_by places.entries order)
names_without places new order q n next is own gone =
    names_left places.entries new.entries q n (same_but places new q None gone) own (only places.entries order next q n is own) order 0 next is.placed

-- the oldest link is removed
pub without_oldest : (places : List (ℕ × Place)) (order : List (ℕ × ℕ)) (next n q : ℕ) → IsQueue places order next → slice_get order 0 ≡ Some (n, q)
    → without q (names_by places order) ≡ drop 1 (names_by places order)
without_oldest places [] next n q is first = absurd (none-some {A = ℕ × ℕ} (n, q) first)
without_oldest places (e ∷ order) next n q is first =
    let same : e ≡ (n, q) = same_Some e (n, q) first in
    let own : number_at places q ≡ Some e.0 = ap (λ (p : ℕ × ℕ). number_at places p.1) (sym same) ∙ is.placed.1 in
    let before : IsBefore places q (e.0 + 1) = before_own places q e.0 (e.0 + 1) own (omega arith) in
    without_first q (link_at places e.1) (names_by places order) (sym (ap (λ (p : ℕ × ℕ). p.1) same))
    ∙ without_before places q order (e.0 + 1) next before is.placed.2

pub no_oldest : (places : List (ℕ × Place)) (order : List (ℕ × ℕ)) → (0 < length order → false ≡ true) → names_by places order ≡ drop 1 (names_by places order)
no_oldest places [] none = refl
no_oldest places (e ∷ order) none = absurd (false≢true (none (omega arith)))

-- ---- a number is added

inserted_last : (places : List (ℕ × Place)) (order : List (ℕ × ℕ)) (first next q : ℕ) → IsPlaced places order first next
    → insert_entry nat_cmp order next q ≡ order ++ (next, q) ∷ []
inserted_last places [] first next q placed = refl
inserted_last places (e ∷ order) first next q placed =
    let less : e.0 < next = omega (arith, le_next places order (e.0 + 1) next placed.2) in
    rw (greater next e.0 less) (ap (λ (l : List (ℕ × ℕ)). e ∷ l) (inserted_last places order (e.0 + 1) next q placed.2))

removed_last : (places : List (ℕ × Place)) (order : List (ℕ × ℕ)) (first next q : ℕ) → IsPlaced places order first next
    → remove_entry (is_at (nat_cmp next)) (order ++ (next, q) ∷ []) ≡ order
removed_last places [] first next q placed = cond-true {A = List (ℕ × ℕ)} (is_at (nat_cmp next) next) [] ((next, q) ∷ []) (at_same next next refl)
removed_last places (e ∷ order) first next q placed =
    let less : e.0 < next = omega (arith, le_next places order (e.0 + 1) next placed.2) in
    cond-false (is_at (nat_cmp next) e.0) (order ++ (next, q) ∷ []) (e ∷ remove_entry (is_at (nat_cmp next)) (order ++ (next, q) ∷ []))
    (at_other next e.0 (λ same. omega arith))
    ∙ ap (λ (l : List (ℕ × ℕ)). e ∷ l) (removed_last places order (e.0 + 1) next q placed.2)

-- a number that was added and removed again leaves the order as it was
pub taken_back : (places : List (ℕ × Place)) (order more left : List (ℕ × ℕ)) (next q : ℕ) → IsQueue places order next
    → more ≡ insert_entry nat_cmp order next q → left ≡ remove_entry (is_at (nat_cmp next)) more → left ≡ order
taken_back places order more left next q is added removed =
    removed ∙ ap (λ (l : List (ℕ × ℕ)). remove_entry (is_at (nat_cmp next)) l) (added ∙ inserted_last places order 0 next q is.placed)
    ∙ removed_last places order 0 next q is.placed

unused : (places : List (ℕ × Place)) (order : List (ℕ × ℕ)) (first next : ℕ) → IsPlaced places order first next → entry_at order next ≡ None
unused places [] first next placed = refl
unused places (e ∷ order) first next placed =
    let less : e.0 < next = omega (arith, le_next places order (e.0 + 1) next placed.2) in
    cond-false (is_at (nat_cmp next) e.0) (Some e.1) (entry_at order next) (at_other next e.0 (λ same. omega arith))
    ∙ unused places order (e.0 + 1) next placed.2

-- the next number is added
placed_push : (places : List (ℕ × Place)) (order : List (ℕ × ℕ)) (first next q : ℕ) → IsPlaced places order first next → number_at places q ≡ Some next
    → IsPlaced places (order ++ (next, q) ∷ []) first (next + 1)
placed_push places [] first next q placed own = (placed, own, omega arith)
placed_push places (e ∷ order) first next q placed own = (placed.0, placed.1, placed_push places order (e.0 + 1) next q placed.2 own)

names_push : (places : List (ℕ × Place)) (order : List (ℕ × ℕ)) (e : ℕ × ℕ) → names_by places (order ++ e ∷ []) ≡ names_by places order ++ link_at places e.1 ∷ []
names_push places [] e = refl
names_push places (first ∷ order) e = ap (λ (known : List Known). link_at places first.1 ∷ known) (names_push places order e)

-- ---- a name is added to a link that has none

pub queue_more : (places new : BTreeMap ℕ Place) (order more : BTreeMap ℕ ℕ) (q next : ℕ) (place : Place) → IsQueue places.entries order.entries next
    → number_at places.entries q ≡ None → place.number ≡ next → Updates nat_cmp places new q (Some place)
    → Updates nat_cmp order more next (Some q) → more.entries ≡ insert_entry nat_cmp order.entries next q → IsQueue new.entries more.entries (next + 1)
queue_more places new order more q next place is none number put added entries =
    let own : number_at new.entries q ≡ Some next = ap number_of put.1 ∙ ap (λ (m : ℕ). Some m) number in
    let same : SameBut places.entries new.entries q = same_but places new q (Some place) put in
    let placed : IsPlaced new.entries order.entries 0 next = same_placed places.entries new.entries q same order.entries 0 next (before_none places.entries q 0 none) is.placed in
    record {
      placed = rw (entries, inserted_last places.entries order.entries 0 next q is.placed) (placed_push new.entries order.entries 0 next q placed own);
      found = λ index m some. elim (cases_eq q index) [
        | inl it ↦
            let here : next ≡ m = same_Some next m (sym own ∙ ap (number_at new.entries) it ∙ some) in
            ap (entry_at more.entries) (sym here) ∙ added.1 ∙ ap (λ (i : ℕ). Some i) it
        | inr other ↦
            let was : number_at places.entries index ≡ Some m = sym (ap number_of (same index other)) ∙ some in
            let apart : next ≡ m → ⊥ = λ here.
            none-some index (sym (unused places.entries order.entries 0 next is.placed) ∙ ap (entry_at order.entries) here ∙ is.found index m was) in
            same_but order more next (Some q) added m apart ∙ is.found index m was
      ];
    }

pub names_more : (places new : BTreeMap ℕ Place) (order : List (ℕ × ℕ)) (q next : ℕ) (place : Place) → IsQueue places.entries order next
    → number_at places.entries q ≡ None → Updates nat_cmp places new q (Some place)
    → names_by new.entries (insert_entry nat_cmp order next q) ≡ without q (names_by places.entries order) ++ record { index = q; name = place.name } ∷ []
names_more places new order q next place is none put =
    let before : IsBefore places.entries q 0 = before_none places.entries q 0 none in
    ap (names_by new.entries) (inserted_last places.entries order 0 next q is.placed)
    ∙ names_push new.entries order (next, q)
    ∙ ap (λ (known : List Known). known ++ link_at new.entries q ∷ [])
    (same_names places.entries new.entries q (same_but places new q (Some place) put) order 0 next before is.placed
    ∙ sym (without_before places.entries q order 0 next before is.placed))
    ∙ ap (λ (o : Option Place). without q (names_by places.entries order) ++ link_with q o ∷ []) put.1

-- ---- a name is added to a link that has one

remove_before : (p : ℕ → Bool) (order : List (ℕ × ℕ)) (e : ℕ × ℕ) → p e.0 ≡ false → remove_entry p (order ++ e ∷ []) ≡ remove_entry p order ++ e ∷ []
remove_before p [] e miss = cond-false {A = List (ℕ × ℕ)} (p e.0) [] (e ∷ []) miss
remove_before p (x ∷ order) e miss =
    elim (p x.0) as (λ b. cond b (order ++ e ∷ []) (x ∷ remove_entry p (order ++ e ∷ [])) ≡ cond b order (x ∷ remove_entry p order) ++ e ∷ []) [
      | true ↦ refl
      | false ↦ ap (λ (l : List (ℕ × ℕ)). x ∷ l) (remove_before p order e miss)
    ]

-- a number of a link is another one than the next
used : (places : List (ℕ × Place)) (order : List (ℕ × ℕ)) (q n next : ℕ) → IsQueue places order next → number_at places q ≡ Some n → n ≡ next → ⊥
used places order q n next is own = λ same.
    none-some q (sym (unused places order 0 next is.placed) ∙ ap (entry_at order) (sym same) ∙ is.found q n own)

moved_last : (places : List (ℕ × Place)) (order : List (ℕ × ℕ)) (q n next : ℕ) → IsQueue places order next → number_at places q ≡ Some n
    → remove_entry (is_at (nat_cmp n)) (insert_entry nat_cmp order next q) ≡ remove_entry (is_at (nat_cmp n)) order ++ (next, q) ∷ []
moved_last places order q n next is own =
    ap (remove_entry (is_at (nat_cmp n))) (inserted_last places order 0 next q is.placed)
    ∙ remove_before (is_at (nat_cmp n)) order (next, q) (at_other n next (used places order q n next is own))

pub queue_again : (places new : BTreeMap ℕ Place) (order more left : BTreeMap ℕ ℕ) (q n next : ℕ) (place : Place)
    → IsQueue places.entries order.entries next → number_at places.entries q ≡ Some n → place.number ≡ next → Updates nat_cmp places new q (Some place)
    → Updates nat_cmp order more next (Some q) → more.entries ≡ insert_entry nat_cmp order.entries next q
    → Updates nat_cmp more left n None → left.entries ≡ remove_entry (is_at (nat_cmp n)) more.entries → IsQueue new.entries left.entries (next + 1)
queue_again places new order more left q n next place is own number put added entries freed less =
    let now : number_at new.entries q ≡ Some next = ap number_of put.1 ∙ ap (λ (m : ℕ). Some m) number in
    let same : SameBut places.entries new.entries q = same_but places new q (Some place) put in
    let all : left.entries ≡ remove_entry (is_at (nat_cmp n)) order.entries ++ (next, q) ∷ [] =
    less ∙ ap (remove_entry (is_at (nat_cmp n))) entries ∙ moved_last places.entries order.entries q n next is own in
    let apart : n ≡ next → ⊥ = used places.entries order.entries q n next is own in
    record {
      placed = rw all (placed_push new.entries (remove_entry (is_at (nat_cmp n)) order.entries) 0 next q
          (placed_left places.entries new.entries q n same own order.entries 0 next is.placed) now);
      found = λ index m some. elim (cases_eq q index) [
        | inl it ↦
            let here : next ≡ m = same_Some next m (sym now ∙ ap (number_at new.entries) it ∙ some) in
            ap (entry_at left.entries) (sym here) ∙ same_but more left n None freed next apart ∙ added.1 ∙ ap (λ (i : ℕ). Some i) it
        | inr other ↦
            let was : number_at places.entries index ≡ Some m = sym (ap number_of (same index other)) ∙ some in
            let older : next ≡ m → ⊥ = λ here.
            none-some index (sym (unused places.entries order.entries 0 next is.placed) ∙ ap (entry_at order.entries) here ∙ is.found index m was) in
            let kept : n ≡ m → ⊥ = λ here.
            other (only places.entries order.entries next q n is own index (was ∙ ap (λ (k : ℕ). Some k) (sym here))) in
            same_but more left n None freed m kept ∙ same_but order more next (Some q) added m older ∙ is.found index m was
      ];
    }

pub names_again : (places new : BTreeMap ℕ Place) (order : List (ℕ × ℕ)) (q n next : ℕ) (place : Place) → IsQueue places.entries order next
    → number_at places.entries q ≡ Some n → Updates nat_cmp places new q (Some place)
    → names_by new.entries (remove_entry (is_at (nat_cmp n)) (insert_entry nat_cmp order next q))
    ≡ without q (names_by places.entries order) ++ record { index = q; name = place.name } ∷ []
names_again places new order q n next place is own put =
    ap (names_by new.entries) (moved_last places.entries order q n next is own)
    ∙ names_push new.entries (remove_entry (is_at (nat_cmp n)) order) (next, q)
    ∙ ap (λ (known : List Known). known ++ link_at new.entries q ∷ [])
    (names_left places.entries new.entries q n (same_but places new q (Some place) put) own (only places.entries order next q n is own) order 0 next is.placed)
    ∙ ap (λ (o : Option Place). without q (names_by places.entries order) ++ link_with q o ∷ []) put.1
