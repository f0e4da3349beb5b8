-- What a command writes for an input, the error that it ends with, and what a run did.
use Rattle.std.specs.Prelude.{◌≡◌, ◌≢◌, ℕ, Bool, true, false, ⊤, List, [], Option, None, Some, Result, Ok, Err, codes}
use Rattle.std.specs.Io.KnownBytes.{Appends}
use Rattle.netlink_packet_core.specs.Attribute.{Attribute}
use Rattle.netlink_packet_core.specs.Block.{canonical_block}
use Rattle.netlink_packet_core.specs.DecodeError.{DecodeError}
use Rattle.netlink_packet_core.specs.DecodeError.TheVariants.{OutOfMemory}
use Rattle.netlink_packet_core.specs.Causes.{SameCause, cause_text}
use Rattle.netlink_packet_core.specs.Canonical.{Fits, IsNormalizeFault, canonical_frame}
use Rattle.netlink_packet_core.specs.Frame.{Frame}
use Rattle.netlink_packet_core.specs.Refusal.{IsRefusal, SameRefusal}
use Rattle.netlink_packet_core.specs.Walk.{Walk}
use Rattle.netlink_packet_core.specs.declared.message.NetlinkMessage.{NetlinkMessage}
use Rattle.netlink_program.specs.declared.reading.ReadFault.{ReadFault}
use Rattle.netlink_program.specs.declared.reading.ReadFault.TheVariants as read
use Rattle.netlink_tree.specs.FrameWalk.{FrameWalk}
use Rattle.netlink_frame.specs.Lines.{message_lines, nla_lines, frame_lines}
use Rattle.netlink_frame.specs.PingPong.{ping_pong_decoding, ping_pong_encoding, wants_memory}
use Rattle.netlink_frame.specs.declared.ping_pong.PingPongMessage.{PingPongMessage}
use Rattle.netlink_frame.specs.declared.command.Command.{Command}
use Rattle.netlink_frame.specs.declared.command.Command.TheVariants.{Normalize, Show, Nlas, Canon, Frames}
use Rattle.netlink_frame.specs.declared.run.Fault.{Fault}
use Rattle.netlink_frame.specs.declared.run.Fault.TheVariants.{Read, Write, Decode}

-- the bytes that a command writes for an input, and the error that it ends with
unfoldable pub Makes : Command → List ℕ → List ℕ → Option DecodeError → Type 0
Makes Normalize input output None =
    (m : NetlinkMessage PingPongMessage) × Frame ping_pong_decoding input m
    × Fits ping_pong_encoding m × (output ≡ canonical_frame ping_pong_encoding m)
Makes Normalize input output (Some e) =
    (output ≡ []) × (e ≢ OutOfMemory)
    × IsNormalizeFault ping_pong_encoding ping_pong_decoding wants_memory input e
Makes Show input output None =
    (m : NetlinkMessage PingPongMessage) × Frame ping_pong_decoding input m
    × (output ≡ message_lines m)
Makes Show input output (Some e) =
    (output ≡ []) × (e ≢ OutOfMemory) × IsRefusal ping_pong_decoding wants_memory input e
Makes Nlas input output fault =
    (all : List Attribute) × Walk input all fault × (output ≡ nla_lines all)
Makes Canon input output None =
    (all : List Attribute) × Walk input all None × (output ≡ canonical_block all)
Makes Canon input output (Some e) =
    (output ≡ []) × (e ≢ OutOfMemory) × ((all : List Attribute) × Walk input all (Some e))
Makes Frames input output fault =
    (all : List (List ℕ)) × FrameWalk input all fault × (output ≡ frame_lines all)

-- neither is an error, or both are the same, apart from the words that follow the fixed beginning
-- of a `Message`
abbrev pub SameFault : Option DecodeError → Option DecodeError → Type 0
SameFault None None = Unit {0}
SameFault (Some e) (Some f) = SameRefusal e f
SameFault _ _ = ⊥

-- the command has this error, and the writer took its output and nothing else
abbrev pub Wrote : Command → List ℕ → Option (List ℕ) → Option (List ℕ) → Option DecodeError
    → Type 0
Wrote command input old new fault =
    (output : List ℕ) × Makes command input output fault × Appends old new output

-- how a run ends, by whether its output was written and by the error of its command
abbrev pub outcome : Bool → Option DecodeError → Result ⊤ Fault
outcome false fault = Err Write
outcome true None = Ok tt
outcome true (Some e) = Err (Decode e)

-- what a run over the whole input did; states nothing about runs that end with `OutOfMemory`, or
-- with a failed read or write
abbrev pub RunsAs : {A : Type 0} → Command → List ℕ → Option (List ℕ) → Option (List ℕ)
    → Result A Fault → Type 0
RunsAs command input old new (Ok done) = Wrote command input old new None
RunsAs command input old new (Err (Decode e)) =
    e ≢ OutOfMemory → Wrote command input old new (Some e)
RunsAs command input old new (Err fault) = Unit {0}

-- two errors of runs that nothing distinguishes
abbrev pub IsSameFault : Fault → Fault → Type 0
IsSameFault Read Read = Unit {0}
IsSameFault Write Write = Unit {0}
IsSameFault (Decode a) (Decode b) = SameCause a b
IsSameFault _ _ = ⊥

-- the error of a run whose input could not be read
abbrev pub read_fault : ReadFault → Fault
read_fault read.Read = Read
read_fault read.OutOfMemory = Decode OutOfMemory

-- an error that occurs before anything is written
abbrev pub IsEarly : Fault → Type 0
IsEarly Read = Unit {0}
IsEarly Write = ⊥
IsEarly (Decode e) = e ≡ OutOfMemory

-- the text of an error
abbrev pub fault_text : Fault → List ℕ
fault_text Read = codes "read failed"
fault_text Write = codes "write failed"
fault_text (Decode cause) = cause_text cause
