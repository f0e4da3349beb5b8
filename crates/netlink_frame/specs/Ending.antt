-- What the arguments ask for, and how the program ends.
use Rattle.std.specs.Prelude.{◌≡◌, ◌≢◌, ℕ, List, [], ◌∷◌, Option, None, Some, String, bytes_eq, codes, if◌then◌else◌, string_bytes}
use Rattle.std.specs.declared.alloc.Global.{Global}
use Rattle.netlink_packet_core.specs.DecodeError.TheVariants.{OutOfMemory}
use Rattle.netlink_program.specs.declared.ending.Ending.{Ending}
use Rattle.netlink_program.specs.declared.ending.Ending.TheVariants as end
use Rattle.netlink_frame.specs.Run.{Wrote}
use Rattle.netlink_frame.specs.declared.command.Command.{Command}
use Rattle.netlink_frame.specs.declared.command.Command.TheVariants.{Normalize, Show, Nlas, Canon, Frames}
use Rattle.netlink_frame.specs.declared.ending.Usage.{Usage}
use Rattle.netlink_frame.specs.declared.run.Fault.{Fault}
use Rattle.netlink_frame.specs.declared.run.Fault.TheVariants.{Decode}

-- the command that a word names
abbrev pub command_of : List ℕ → Option Command
command_of word =
    if bytes_eq word (codes "normalize") then Some Normalize
    else (if bytes_eq word (codes "show") then Some Show
    else (if bytes_eq word (codes "nlas") then Some Nlas
    else (if bytes_eq word (codes "canon") then Some Canon
    else (if bytes_eq word (codes "frames") then Some Frames else None))))

-- the arguments are the program's name and the word of the command; arguments that could not be
-- read name none
abbrev pub Asks : Option (List (String Global)) → Command → Type 0
Asks None command = ⊥
Asks (Some arguments) command =
    (name : String Global) × (word : String Global) × (arguments ≡ name ∷ (word ∷ []))
    × (command_of (string_bytes word) ≡ Some command)

-- the text of the usage
abbrev pub usage_text : List ℕ
usage_text = codes "usage: netlink_frame normalize|show|nlas|canon|frames"

-- how a command over the whole input ended; states nothing about `OutOfMemory`, or about a failed
-- read or write
abbrev pub Ends : Command → List ℕ → Option (List ℕ) → Option (List ℕ) → Ending Fault Usage
    → Type 0
Ends command input old new end.Done = Wrote command input old new None
Ends command input old new (end.Failed (Decode e)) =
    e ≢ OutOfMemory → Wrote command input old new (Some e)
Ends command input old new (end.Failed fault) = Unit {0}
Ends command input old new (end.Usage said) = ⊥
