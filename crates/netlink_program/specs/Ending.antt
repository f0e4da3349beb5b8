-- How a program ends, with which status and which text.
use Rattle.std.specs.Prelude.{ℕ, List, [], Option, Some, Result, Ok, Err}
use Rattle.std.specs.Fmt.{with_newline}
use Rattle.netlink_program.specs.declared.ending.Ending.{Ending}
use Rattle.netlink_program.specs.declared.ending.Ending.TheVariants.{Done, Failed, Usage}

-- the arguments do not ask for a run
abbrev pub IsUsage : {F U : Type 0} → Ending F U → Type 0
IsUsage (Usage usage) = Unit {0}
IsUsage _ = ⊥

-- how a program ends after a run
abbrev pub ending_of : {A F U : Type 0} → Result A F → Ending F U
ending_of (Ok done) = Done
ending_of (Err fault) = Failed fault

-- the status of the process
abbrev pub status_of : {F U : Type 0} → Ending F U → ℕ
status_of Done = 0
status_of (Failed fault) = 1
status_of (Usage usage) = 2

-- what goes to standard error, if the texts of the error and of the usage are known
abbrev pub ending_text : {F U : Type 0} → (F → Option (List ℕ)) → (U → Option (List ℕ)) → Ending F U
    → Option (List ℕ)
ending_text fault_text usage_text Done = Some []
ending_text fault_text usage_text (Failed fault) = with_newline (fault_text fault)
ending_text fault_text usage_text (Usage usage) = with_newline (usage_text usage)
