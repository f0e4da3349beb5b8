-- Bytes that are messages or packets, one after another, and what a run tells of them.
use Rattle.std.specs.Prelude.{ℕ, ◌≡◌, Bool, false, ◌||◌, List, [], ◌++◌, Option, Some}
use Rattle.std.specs.List.{fold}
use Rattle.netlink_packet_core.specs.Walks.{WalksAs}
use Rattle.netlink_lines.specs.Messages.{Lines, Memory}
use Rattle.netlink_input.specs.declared.stream.Stop.{Stop}

-- how messages or packets follow one another, and what is shown of each
pub record Format (A : Type 0) : Type 1 where
  -- bytes, which end at this offset of the input, start with this one, and the rest follows it
  pub starts : ℕ → List ℕ → A → List ℕ → Type 0
  -- they start with none that can be read, and end there so
  pub stops : ℕ → List ℕ → Stop → Type 0
  -- of bytes that end at this offset and stop here, these are shown after the whole ones
  pub parts : ℕ → List ℕ → Stop → List A → Type 0
  -- of bytes that end the input, these first ones hold a whole one
  pub holds : List ℕ → List ℕ → Type 0
  -- its lines, after those that left this memory
  pub lines : Memory → A → Lines
  -- what it leaves
  pub leaves : Memory → A → Memory

-- bytes, which end at this offset of the input, are these, up to their end or a stop
abbrev pub ShowsAll : {A : Type 0} → Format A → ℕ → List ℕ → List A → Option Stop → Type 0
ShowsAll f end = WalksAs (f.starts end) (f.stops end)

-- bytes, which end at this offset of the input, are these up to a stop, with what is shown of the bytes there
abbrev pub StopsAs : {A : Type 0} → Format A → ℕ → List ℕ → List A → Stop → Type 0
StopsAs {A} f end bytes all stop =
    (done last : List A) × (all ≡ done ++ last) × ShowsAll f end bytes done (Some stop)
    × f.parts end bytes stop last

-- what the messages or packets so far leave, their lines, one after another, and whether one was
-- malformed
pub record Told : Type 0 where
  pub memory : Memory
  pub text : List ℕ
  pub malformed : Bool

abbrev pub told_nothing : Memory → Told
told_nothing memory = record { memory = memory; text = []; malformed = false }

-- one more
abbrev pub tell : {A : Type 0} → Format A → Told → A → Told
tell f told one = record {
  memory = f.leaves told.memory one;
  text = told.text ++ (f.lines told.memory one).0;
  malformed = told.malformed || (f.lines told.memory one).1;
}

-- all of them, after those that left this memory
abbrev pub told_from : {A : Type 0} → Format A → Memory → List A → Told
told_from f memory all = fold (tell f) (told_nothing memory) all
