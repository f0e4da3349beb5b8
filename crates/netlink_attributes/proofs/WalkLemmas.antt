-- Calls of `next` yield the walk.
use Rattle.std.proofs.Common.{◌≡◌, ℕ, List, [], refl, ap, arith, Option, Some, None, Ok, Err, Bor}
use Rattle.netlink_bytes.specs.Numbers.{IsBytes}
use Rattle.netlink_bytes.specs.WalkItems.{ItemLaws, gives_all}
use Rattle.netlink_attributes.specs.StartLaws.{starts-length, nothing_starts}
use Rattle.netlink_attributes.specs.Steps.{unread, steps, item_bound, GivesWalk}
use Rattle.netlink_attributes.specs.Views.{attribute_of}
use Rattle.netlink_attributes.specs.Walk.{Starts, IsFault, Item, Gives, ShowsAttribute}
use Rattle.netlink_attributes.specs.WalkLaws.{attribute_steps, has_walk}
use Rattle.netlink_attributes.specs.declared.iterator.NlasIterator.{NlasIterator}

-- a walk has at most one item for each 4 bytes, counting a part of 4 as a whole
item_laws : ItemLaws Starts IsFault ShowsAttribute unread steps item_bound
item_laws =
    record {
      shows = λ s view t gives. (attribute_of (unread s), gives.2, ap attribute_of gives.0);
      fails = λ s e t gives. gives;
      ends = λ s t gives. gives.0;
      step = λ bytes a rest starts. let size = starts-length bytes a rest starts in omega arith;
      fault = λ bytes some. omega arith;
    }

pub gives_walk : (s : NlasIterator (Bor (List ℕ))) → IsBytes (unread s) → GivesWalk s
gives_walk s each =
    gives_all Starts IsFault ShowsAttribute unread steps item_bound attribute_steps item_laws s (has_walk (unread s) each)

-- if nothing is unread, `next` returns `None`, and nothing is unread after it
pub nothing_given : (item : Option Item) (rest : List ℕ) → Gives [] item rest → (item ≡ None) × (rest ≡ [])
nothing_given None rest (none, end) = (refl, end)
nothing_given (Some (Ok view)) rest (shows, holds, starts) = absurd (nothing_starts _ _ _ refl starts)
nothing_given (Some (Err fault)) rest (some, is, end) = absurd (some refl)
