-- The names of links in two maps: the order has the index of the link at a number, and the places have the number and the name of the link with an index.
use Rattle.std.specs.Prelude.{ℕ, ◌≡◌, ◌+◌, ◌≤◌, List, [], ◌∷◌, map, Option, Some, option_map, unwrap_or}
use Rattle.std.specs.BTreeMap.{is_at}
use Rattle.std.specs.Map.{lookup, values_of}
use Rattle.std.specs.Ordering.{nat_cmp}
use Rattle.netlink_names.specs.declared.device.Known.{Known}
use Rattle.netlink_names.specs.declared.name_queue.Place.{Place}

-- what the entries of a map have at a number
abbrev pub entry_at : {X : Type 0} → List (ℕ × X) → ℕ → Option X
entry_at entries key = lookup (is_at (nat_cmp key)) entries

-- the number of a link, if it has a place
abbrev pub number_of : Option Place → Option ℕ
number_of place = option_map (λ (p : Place). p.number) place

abbrev pub number_at : List (ℕ × Place) → ℕ → Option ℕ
number_at places index = number_of (entry_at places index)

-- a link with the name in its place
abbrev pub link_with : ℕ → Option Place → Known
link_with index place = record { index = index; name = unwrap_or (option_map (λ (p : Place). p.name) place) [] }

abbrev pub link_at : List (ℕ × Place) → ℕ → Known
link_at places index = link_with index (entry_at places index)

-- the links in an order, with their names
abbrev pub names_by : List (ℕ × Place) → List (ℕ × ℕ) → List Known
names_by places order = map (link_at places) (values_of order)

-- numbers ascend from `first` on and stay below `next`, and each is that of its link
abbrev pub IsPlaced : List (ℕ × Place) → List (ℕ × ℕ) → ℕ → ℕ → Type 0
IsPlaced places [] first next = first ≤ next
IsPlaced places (e ∷ order) first next =
    (first ≤ e.0) × (number_at places e.1 ≡ Some e.0) × IsPlaced places order (e.0 + 1) next

-- the order and the places have the same links at the same numbers, which are below `next`
pub record IsQueue (places : List (ℕ × Place)) (order : List (ℕ × ℕ)) (next : ℕ) : Type 0 where
  pub placed : IsPlaced places order 0 next
  pub found : (index number : ℕ) → number_at places index ≡ Some number → entry_at order number ≡ Some index
