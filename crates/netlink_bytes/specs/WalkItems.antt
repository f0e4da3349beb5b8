-- What an iterator over a walk yields, for any kind of step and any kind of item. An item is a view
-- of what the bytes start with, or the error that ends the walk.
use Rattle.std.proofs.Common.{◌≡◌, ◌≢◌, ℕ, ◌<◌, ◌≤◌, List, [], ◌∷◌, length, refl, ap, subst, ◌∙◌, arith, Option, Some, None, Result, Ok, Err}
use Rattle.std.specs.Iterator.{Drains}
use Rattle.netlink_bytes.specs.Walks.{StepLaws, WalksAs, walks_once}

-- the items are views of these values, in order, and then the error, if there is one
abbrev pub ItemsShow : {V X E : Type 0} → (V → X → Type 0) → List (Result V E) → List X → Option E
    → Type 0
ItemsShow Shows [] [] None = Unit {0}
ItemsShow Shows (Err found ∷ items) [] (Some fault) = (found ≡ fault) × (items ≡ [])
ItemsShow Shows (Ok view ∷ items) (x ∷ more) fault =
    Shows view x × ItemsShow Shows items more fault
ItemsShow Shows _ _ _ = ⊥

-- A call of `next` takes a step over the unread bytes. It returns a view of what they start with;
-- or it returns their error and leaves nothing unread; or it returns `None` if nothing is unread. A
-- step lowers the bound on the number of items, and the bound of nonempty bytes allows for an
-- error.
pub record ItemLaws {S V X E : Type 0} (Starts : List ℕ → X → List ℕ → Type 0)
    (IsFault : List ℕ → E → Type 0) (Shows : V → X → Type 0) (unread : S → List ℕ)
    (steps : S → Option (Result V E) → S → Type 0) (bound : List ℕ → ℕ) : Type 0 where
  pub shows : (s : S) (view : V) (t : S) → steps s (Some (Ok view)) t
      → (x : X) × Starts (unread s) x (unread t) × Shows view x
  pub fails : (s : S) (e : E) (t : S) → steps s (Some (Err e)) t
      → (unread s ≢ []) × IsFault (unread s) e × (unread t ≡ [])
  pub ends : (s t : S) → steps s None t → unread s ≡ []
  pub step : (bytes : List ℕ) (x : X) (rest : List ℕ) → Starts bytes x rest
      → bound rest < bound bytes
  pub fault : (bytes : List ℕ) → 0 < length bytes → 0 < bound bytes

some_bytes : (bytes : List ℕ) → bytes ≢ [] → 0 < length bytes
some_bytes [] some = absurd (some refl)
some_bytes (x ∷ bytes) some = omega arith

module _ {S V X E : Type 0} (Starts : List ℕ → X → List ℕ → Type 0)
    (IsFault : List ℕ → E → Type 0) (Shows : V → X → Type 0) (unread : S → List ℕ)
    (steps : S → Option (Result V E) → S → Type 0) (bound : List ℕ → ℕ) where
  abbrev Laws : Type 0
  Laws = ItemLaws Starts IsFault Shows unread steps bound

  -- calls of `next` until it returns `None` walk the bytes
  items_walk : StepLaws Starts IsFault → Laws → (s : S) (items : List (Result V E))
      → Drains steps s items
      → (all : List X) × (fault : Option E) × WalksAs Starts IsFault (unread s) all fault
      × ItemsShow Shows items all fault
  items_walk walk laws s [] (u, (t, same, last)) =
      ([], None, ap unread same ∙ laws.ends t u last, tt)
  items_walk walk laws s (Ok view ∷ items) (u, (t, (j, gives, more), last)) =
      let first = laws.shows s view j gives in
      let later = items_walk walk laws j items (u, (t, more, last)) in
      (first.0 ∷ later.0, later.1, (_, first.1, later.2), (first.2, later.3))
  items_walk walk laws s (Err fault ∷ []) (u, (t, (j, gives, more), last)) =
      let failed = laws.fails s fault j gives in
      ([], Some fault, (failed.0, failed.1), (refl, refl))
  items_walk walk laws s (Err fault ∷ (Ok view ∷ items))
      (u, (t, (j, gives, (k, again, more)), last)) =
      let first = laws.shows j view k again in
      absurd (walk.nothing _ first.0 _ (laws.fails s fault j gives).2 first.1)
  items_walk walk laws s (Err fault ∷ (Err other ∷ items))
      (u, (t, (j, gives, (k, again, more)), last)) =
      absurd ((laws.fails j other k again).0 (laws.fails s fault j gives).2)

  -- and their number is within the bound
  items_counted : Laws → (bytes : List ℕ) (items : List (Result V E)) (all : List X)
      (fault : Option E)
      → WalksAs Starts IsFault bytes all fault → ItemsShow Shows items all fault
      → length items ≤ bound bytes
  items_counted laws bytes [] all fault walk show = omega arith
  items_counted laws bytes (Err found ∷ items) [] (Some fault) walk show =
      let alone : length items ≡ 0 = ap length show.1 in
      let some = laws.fault bytes (some_bytes bytes walk.0) in
      omega arith
  items_counted laws bytes (Ok view ∷ items) (x ∷ more) fault (rest, starts, walk) show =
      let later = items_counted laws rest items more fault walk show.1 in
      let less = laws.step bytes x rest starts in
      omega arith
  items_counted laws bytes _ _ _ walk show = absurd show

  -- The unread bytes have a walk, and calls of `next` until it returns `None` yield exactly its
  -- items, and no more than the bound.
  abbrev pub GivesAll : S → Type 0
  GivesAll s =
      (all : List X) × (fault : Option E) × WalksAs Starts IsFault (unread s) all fault
      × ((items : List (Result V E)) → Drains steps s items
      → ItemsShow Shows items all fault × (length items ≤ bound (unread s)))

  -- it does if the bytes have a walk
  pub gives_all : StepLaws Starts IsFault → Laws → (s : S)
      → ((all : List X) × (fault : Option E) × WalksAs Starts IsFault (unread s) all fault)
      → GivesAll s
  gives_all walk laws s (all, fault, whole) = (
    all,
    fault,
    whole,
    λ items drains.
        let given = items_walk walk laws s items drains in
        let same = walks_once walk (unread s) given.0 all given.1 fault given.2 whole in
        let faults = subst (ItemsShow Shows items given.0) same.1 given.3 in
        let show = subst (λ (found : List X). ItemsShow Shows items found fault) same.0 faults in
        (show, items_counted laws (unread s) items all fault whole show),
  )
