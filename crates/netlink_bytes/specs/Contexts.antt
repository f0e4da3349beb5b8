-- Lines added before an error text.
use Rattle.std.specs.Prelude.{◌≡◌, ◌≢◌, ℕ, List, ◌++◌, codes, Result, Ok, Err, IsErrAnd}
use Rattle.netlink_bytes.specs.Causes.{HoldsText, cause_text}
use Rattle.netlink_bytes.specs.declared.error.DecodeError.{DecodeError}
use Rattle.netlink_bytes.specs.declared.error.DecodeError.TheVariants.{OutOfMemory}

-- a line can be added to every error except `OutOfMemory`
abbrev pub TakesLine : DecodeError → Type 0
TakesLine e = e ≢ OutOfMemory

-- the text prefixed with a line
abbrev pub text_with : List ℕ → List ℕ → List ℕ
text_with line text = line ++ (codes " caused by " ++ text)

-- a line, an old error and a new one: the new one is `Message` with the old text prefixed with the
-- line, or `OutOfMemory`; an old `OutOfMemory` stays unchanged
abbrev pub HasLine : List ℕ → DecodeError → DecodeError → Type 0
HasLine line old new =
    (old ≡ OutOfMemory → new ≡ old)
    × (TakesLine old → HoldsText (text_with line (cause_text old)) new)

-- the same for results; no line is added to an `Ok`, which stays unchanged
abbrev pub ResultTakesLine : {U : Type 0} → Result U DecodeError → Type 0
ResultTakesLine (Ok value) = ⊥
ResultTakesLine (Err e) = TakesLine e

abbrev pub ResultHasLine : {U : Type 0} → List ℕ → Result U DecodeError → Result U DecodeError
    → Type 0
ResultHasLine line (Ok value) new = new ≡ Ok value
ResultHasLine line (Err old) new = IsErrAnd new (HasLine line old)

-- of two lines the later one comes first, unless one of the three errors is `OutOfMemory`
abbrev pub LinesChain : Type 0
LinesChain =
    (first later : List ℕ) (old between new : DecodeError)
    → HasLine first old between → HasLine later between new
    → TakesLine old → TakesLine between → TakesLine new
    → cause_text new ≡ text_with later (text_with first (cause_text old))
