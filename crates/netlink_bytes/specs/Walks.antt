-- A walk over bytes, for any kind of step, and how far a loop over it has come. A step is two
-- relations: the bytes start with a value, and a rest follows it; and the error if they start with
-- none.
use Rattle.std.proofs.Common.{◌≡◌, ◌≢◌, ◌⊎◌, ℕ, zero, suc, ◌<◌, ◌≤◌, List, [], ◌∷◌, ◌++◌, length, refl, ap, sym, subst, ◌∙◌, inl, inr, arith, append_assoc, Option, Some, None}

-- walking the bytes yields these values, one after another, and then the end or one error
abbrev pub WalksAs : {X E : Type 0} → (List ℕ → X → List ℕ → Type 0) → (List ℕ → E → Type 0)
    → List ℕ → List X → Option E → Type 0
WalksAs Starts IsFault bytes [] None = bytes ≡ []
WalksAs Starts IsFault bytes [] (Some fault) = (bytes ≢ []) × IsFault bytes fault
WalksAs Starts IsFault bytes (x ∷ more) fault =
    (rest : List ℕ) × Starts bytes x rest × WalksAs Starts IsFault rest more fault

-- walking the bytes yields these values, one after another, and the rest is still to be walked
abbrev pub Passed : {X : Type 0} → (List ℕ → X → List ℕ → Type 0) → List ℕ → List X → List ℕ
    → Type 0
Passed Starts bytes [] rest = bytes ≡ rest
Passed Starts bytes (x ∷ more) rest =
    (middle : List ℕ) × Starts bytes x middle × Passed Starts middle more rest

-- bytes start with at most one value or have at most one error, never both; empty bytes start with
-- none
pub record StepLaws {X E : Type 0} (Starts : List ℕ → X → List ℕ → Type 0)
    (IsFault : List ℕ → E → Type 0) : Type 0 where
  pub once : (bytes : List ℕ) (x y : X) (rest other : List ℕ) → Starts bytes x rest
      → Starts bytes y other → (x ≡ y) × (rest ≡ other)
  pub nothing : (bytes : List ℕ) (x : X) (rest : List ℕ) → bytes ≡ [] → Starts bytes x rest → ⊥
  pub fault : (bytes : List ℕ) (x : X) (rest : List ℕ) (e : E) → Starts bytes x rest
      → IsFault bytes e → ⊥
  pub fault_once : (bytes : List ℕ) (e f : E) → IsFault bytes e → IsFault bytes f → e ≡ f

-- the next step over bytes: an error, or a value and a rest that is shorter and as good
abbrev pub NextStep : {X E : Type 0} → (List ℕ → X → List ℕ → Type 0) → (List ℕ → E → Type 0)
    → (List ℕ → Type 0) → List ℕ → Type 0
NextStep {X} {E} Starts IsFault Good bytes =
    ((e : E) × IsFault bytes e)
    ⊎ ((x : X) × (rest : List ℕ) × Starts bytes x rest × Good rest × (length rest < length bytes))

-- ---- the walk is unique

pub walks_once : {X E : Type 0} {Starts : List ℕ → X → List ℕ → Type 0}
    {IsFault : List ℕ → E → Type 0}
    → StepLaws Starts IsFault
    → (bytes : List ℕ) (a b : List X) (f g : Option E)
    → WalksAs Starts IsFault bytes a f → WalksAs Starts IsFault bytes b g → (a ≡ b) × (f ≡ g)
walks_once laws bytes [] [] None None p q = (refl, refl)
walks_once laws bytes [] [] None (Some g) p q = absurd (q.0 p)
walks_once laws bytes [] [] (Some f) None p q = absurd (p.0 q)
walks_once laws bytes [] [] (Some f) (Some g) p q =
    (refl, ap Some (laws.fault_once bytes f g p.1 q.1))
walks_once laws bytes [] (y ∷ b) None g p q = absurd (laws.nothing _ _ _ p q.1)
walks_once laws bytes [] (y ∷ b) (Some f) g p q = absurd (laws.fault _ _ _ f q.1 p.1)
walks_once laws bytes (x ∷ a) [] f None p q = absurd (laws.nothing _ _ _ q p.1)
walks_once laws bytes (x ∷ a) [] f (Some g) p q = absurd (laws.fault _ _ _ g p.1 q.1)
walks_once {X} {E} {Starts} {IsFault} laws bytes (x ∷ a) (y ∷ b) f g (rest, starts, p)
    (other, begins, q) =
    let same = laws.once bytes x y rest other starts begins in
    let later =
    walks_once laws other a b f g
    (subst (λ (r : List ℕ). WalksAs Starts IsFault r a f) same.1 p) q in
    let first = same.0 in
    let rests = later.0 in
    (cc, later.1)

-- ---- all bytes have a walk

fueled : {X E : Type 0} (Starts : List ℕ → X → List ℕ → Type 0) (IsFault : List ℕ → E → Type 0)
    (Good : List ℕ → Type 0)
    → ((bytes : List ℕ) → Good bytes → bytes ≢ [] → NextStep Starts IsFault Good bytes)
    → (fuel : ℕ) (bytes : List ℕ) → length bytes ≤ fuel → Good bytes
    → (all : List X) × (fault : Option E) × WalksAs Starts IsFault bytes all fault
fueled Starts IsFault Good next fuel [] enough good = ([], None, refl)
fueled Starts IsFault Good next zero (b ∷ bytes) enough good = absurd (omega arith)
fueled {X} {E} Starts IsFault Good next (suc fuel) (b ∷ bytes) enough good =
    let some : (b ∷ bytes) ≢ [] = λ none. omega (arith, ap length none) in
    elim (next (b ∷ bytes) good some) [
      | inl fault ↦ ([], Some fault.0, (some, fault.1))
      | inr step ↦
          let less = step.4 in
          let later = fueled Starts IsFault Good next fuel step.1 (omega arith) step.3 in
          (step.0 ∷ later.0, later.1, (step.1, step.2, later.2))
    ]

pub has_one : {X E : Type 0} (Starts : List ℕ → X → List ℕ → Type 0) (IsFault : List ℕ → E → Type 0)
    (Good : List ℕ → Type 0)
    → ((bytes : List ℕ) → Good bytes → bytes ≢ [] → NextStep Starts IsFault Good bytes)
    → (bytes : List ℕ) → Good bytes
    → (all : List X) × (fault : Option E) × WalksAs Starts IsFault bytes all fault
has_one Starts IsFault Good next bytes good =
    fueled Starts IsFault Good next (length bytes) bytes (omega arith) good

-- ---- how far a loop has come

-- at the start nothing has been passed
pub passed_none : {X : Type 0} (Starts : List ℕ → X → List ℕ → Type 0) (bytes rest : List ℕ)
    → rest ≡ bytes
    → Passed Starts bytes [] rest
passed_none Starts bytes rest same = sym same

-- each turn passes one more value
pub passed_push : {X : Type 0} (Starts : List ℕ → X → List ℕ → Type 0) (bytes : List ℕ)
    (done : List X)
    (middle : List ℕ) (x : X) (rest : List ℕ)
    → Passed Starts bytes done middle → Starts middle x rest
    → Passed Starts bytes (done ++ (x ∷ [])) rest
passed_push Starts bytes [] middle x rest same starts =
    (rest, subst (λ (b : List ℕ). Starts b x rest) (sym same) starts, refl)
passed_push Starts bytes (first ∷ done) middle x rest (next, begins, passed) starts =
    (next, begins, passed_push Starts next done middle x rest passed starts)

-- the walk of the bytes is what was passed and then the walk of the rest
pub passed_walks : {X E : Type 0} (Starts : List ℕ → X → List ℕ → Type 0)
    (IsFault : List ℕ → E → Type 0)
    (bytes : List ℕ) (done : List X) (rest : List ℕ) (more : List X) (fault : Option E)
    → Passed Starts bytes done rest → WalksAs Starts IsFault rest more fault
    → WalksAs Starts IsFault bytes (done ++ more) fault
passed_walks Starts IsFault bytes [] rest more fault same walk =
    subst (λ (b : List ℕ). WalksAs Starts IsFault b more fault) (sym same) walk
passed_walks Starts IsFault bytes (first ∷ done) rest more fault (next, begins, passed) walk =
    (next, begins, passed_walks Starts IsFault next done rest more fault passed walk)

-- a loop that reached the end has the whole walk
pub passed_ends : {X E : Type 0} (Starts : List ℕ → X → List ℕ → Type 0)
    (IsFault : List ℕ → E → Type 0)
    (bytes : List ℕ) (done : List X) (rest : List ℕ)
    → Passed Starts bytes done rest → rest ≡ [] → WalksAs Starts IsFault bytes done None
passed_ends Starts IsFault bytes [] rest same none = same ∙ none
passed_ends Starts IsFault bytes (first ∷ done) rest (next, begins, passed) none =
    (next, begins, passed_ends Starts IsFault next done rest passed none)

-- so does a loop that reached an error
pub passed_faults : {X E : Type 0} (Starts : List ℕ → X → List ℕ → Type 0)
    (IsFault : List ℕ → E → Type 0)
    (bytes : List ℕ) (done : List X) (rest : List ℕ) (fault : E)
    → Passed Starts bytes done rest → rest ≢ [] → IsFault rest fault
    → WalksAs Starts IsFault bytes done (Some fault)
passed_faults Starts IsFault bytes [] rest fault same some is =
    (λ none. some (sym same ∙ none), subst (λ (b : List ℕ). IsFault b fault) (sym same) is)
passed_faults Starts IsFault bytes (first ∷ done) rest fault (next, begins, passed) some is =
    (next, begins, passed_faults Starts IsFault next done rest fault passed some is)

-- what was passed comes first in any walk of the bytes, and walking the rest yields what follows it
pub passed_rest : {X E : Type 0} {Starts : List ℕ → X → List ℕ → Type 0}
    {IsFault : List ℕ → E → Type 0}
    → StepLaws Starts IsFault
    → (bytes : List ℕ) (done : List X) (rest : List ℕ) (all : List X) (fault : Option E)
    → Passed Starts bytes done rest → WalksAs Starts IsFault bytes all fault
    → (more : List X) × (all ≡ done ++ more) × WalksAs Starts IsFault rest more fault
passed_rest {X} {E} {Starts} {IsFault} laws bytes [] rest all fault same walk =
    (all, refl, subst (λ (b : List ℕ). WalksAs Starts IsFault b all fault) same walk)
passed_rest laws bytes (x ∷ done) rest [] None p walk = absurd (laws.nothing _ _ _ walk p.1)
passed_rest laws bytes (x ∷ done) rest [] (Some fault) p walk =
    absurd (laws.fault _ _ _ fault p.1 walk.1)
passed_rest {X} {E} {Starts} {IsFault} laws bytes (x ∷ done) rest (y ∷ all) fault p walk =
    let same = laws.once bytes y x walk.0 p.0 walk.1 p.1 in
    let later =
    passed_rest laws p.0 done rest all fault p.2
    (subst (λ (r : List ℕ). WalksAs Starts IsFault r all fault) same.1 walk.2) in
    let first = same.0 in
    let rests = later.1 in
    (later.0, cc, later.2)

-- and what the rest starts with comes next
pub passed_next : {X E : Type 0} {Starts : List ℕ → X → List ℕ → Type 0}
    {IsFault : List ℕ → E → Type 0}
    → StepLaws Starts IsFault
    → (bytes : List ℕ) (done : List X) (middle : List ℕ) (x : X) (rest : List ℕ) (all : List X)
    (fault : Option E)
    → Passed Starts bytes done middle → Starts middle x rest
    → WalksAs Starts IsFault bytes all fault
    → (more : List X) × (all ≡ done ++ (x ∷ more))
passed_next {X} {E} {Starts} {IsFault} laws bytes done middle x rest all fault passed starts walk =
    let whole =
    passed_rest laws bytes (done ++ (x ∷ [])) rest all fault
    (passed_push Starts bytes done middle x rest passed starts) walk in
    (whole.0, whole.1 ∙ append_assoc done (x ∷ []) whole.0)

-- what each step preserves holds for the rest
pub passed_keeps : {X : Type 0} (Starts : List ℕ → X → List ℕ → Type 0) (Good : List ℕ → Type 0)
    → ((bytes : List ℕ) (x : X) (rest : List ℕ) → Starts bytes x rest → Good bytes → Good rest)
    → (bytes : List ℕ) (done : List X) (rest : List ℕ) → Passed Starts bytes done rest → Good bytes
    → Good rest
passed_keeps Starts Good keeps bytes [] rest same good = subst Good same good
passed_keeps Starts Good keeps bytes (x ∷ done) rest (next, begins, passed) good =
    passed_keeps Starts Good keeps next done rest passed (keeps bytes x next begins good)

-- ---- concatenation

-- if each step over `bytes` leaves a whole rest, walking `bytes ++ after` yields the values of
-- `bytes` and then the walk of `after`
pub walks_join : {X E : Type 0} (Starts : List ℕ → X → List ℕ → Type 0)
    (IsFault : List ℕ → E → Type 0)
    (Whole : List ℕ → Type 0)
    → ((bytes : List ℕ) (x : X) (rest after : List ℕ) → Whole bytes → Starts bytes x rest
    → Starts (bytes ++ after) x (rest ++ after) × Whole rest)
    → (bytes : List ℕ) (all : List X) (after : List ℕ) (more : List X) (fault : Option E)
    → Whole bytes → WalksAs Starts IsFault bytes all None → WalksAs Starts IsFault after more fault
    → WalksAs Starts IsFault (bytes ++ after) (all ++ more) fault
walks_join Starts IsFault Whole joins bytes [] after more fault whole none walk =
    subst (λ (front : List ℕ). WalksAs Starts IsFault (front ++ after) more fault) (sym none) walk
walks_join Starts IsFault Whole joins bytes (x ∷ all) after more fault whole (rest, starts, first)
    walk =
    let joined = joins bytes x rest after whole starts in (
      rest ++ after,
      joined.0,
      walks_join Starts IsFault Whole joins rest all after more fault
          joined.1 first walk,
    )
