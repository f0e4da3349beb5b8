-- What calls of `next` do.
use Rattle.std.specs.Prelude.{ℕ, ◌+◌, ◌/◌, List, Option, length}
use denote.Ref.{Bor}
use Rattle.netlink_bytes.specs.WalkItems.{GivesAll}
use Rattle.netlink_attributes.specs.Walk.{Starts, IsFault, Item, Gives, ShowsAttribute}
use Rattle.netlink_attributes.specs.declared.iterator.NlasIterator.{NlasIterator}

-- the bytes that are still to be walked
abbrev pub unread : NlasIterator (Bor (List ℕ)) → List ℕ
unread walk = walk.rest.now

-- one call of `next`
abbrev pub steps : NlasIterator (Bor (List ℕ)) → Option Item → NlasIterator (Bor (List ℕ)) → Type 0
steps before item after = Gives (unread before) item (unread after)

-- the maximum number of items for a list of bytes
abbrev pub item_bound : List ℕ → ℕ
item_bound bytes = (length bytes + 3) / 4

-- The unread bytes have a walk, and calls of `next` until it returns `None` yield exactly that
-- walk: there are attributes and an error, or none, for which `Walk` holds, and any items that are
-- all that the calls yield are these (`AreItems`), at most `item_bound` of them.
abbrev pub GivesWalk : NlasIterator (Bor (List ℕ)) → Type 0
GivesWalk = GivesAll Starts IsFault ShowsAttribute unread steps item_bound
