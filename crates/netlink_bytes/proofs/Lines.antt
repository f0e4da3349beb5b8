-- Lines added before an error text.
use Rattle.std.specs.Prelude.{◌≡◌, List, ℕ, refl}
use Rattle.std.proofs.Common.{ap, ◌∙◌}
use Rattle.netlink_bytes.specs.Causes.{HoldsText, cause_text}
use Rattle.netlink_bytes.specs.Contexts.{LinesChain, TakesLine, text_with}
use Rattle.netlink_bytes.specs.declared.error.DecodeError.{DecodeError}
use Rattle.netlink_bytes.specs.declared.error.DecodeError.TheVariants.{Message, OutOfMemory}

-- an error that holds a text is printed as that text, unless it is `OutOfMemory`
pub cause_text-HoldsText : (text : List ℕ) (e : DecodeError) → HoldsText text e → TakesLine e → cause_text e ≡ text
cause_text-HoldsText text (Message held) is known = is
cause_text-HoldsText text OutOfMemory is known = absurd (known refl)
cause_text-HoldsText text _ is known = absurd is

-- of two lines the later one comes first
pub lines_chain : LinesChain
lines_chain first later old between new one two known between_known new_known =
    cause_text-HoldsText _ new (two.1 between_known) new_known
    ∙ ap (text_with later) (cause_text-HoldsText _ between (one.1 known) between_known)
