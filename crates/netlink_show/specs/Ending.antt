-- What the arguments ask for, and how the program ends.
use Rattle.std.specs.Prelude.{ℕ, ⊤, ◌&&◌, not, true, List, [], ◌∷◌, Option, None, Some, Ok, Err, String, bytes_eq, codes, if◌then◌else◌, string_bytes}
use Rattle.std.specs.declared.alloc.Global.{Global}
use Rattle.netlink_program.specs.declared.ending.Ending.{Ending}
use Rattle.netlink_program.specs.declared.ending.Ending.TheVariants as end
use Rattle.netlink_lines.specs.Messages.{Check}
use Rattle.netlink_lines.specs.Options.{plain}
use Rattle.netlink_lines.specs.Run.{RunsWith}
use Rattle.netlink_lines.specs.declared.options.Options.{Options}
use Rattle.netlink_show.specs.declared.ending.Usage.{Usage}
use Rattle.netlink_input.specs.declared.fault.Fault.{Fault}

-- options and what a word adds to them; objects go with times alone
abbrev pub with_option : Options → List ℕ → Option Options
with_option options word =
    if bytes_eq word (codes "--label") && (not options.labels && not options.json)
    then Some (record { labels = true; times = options.times; bytes = options.bytes; json = options.json })
    else if bytes_eq word (codes "--time") && not options.times
    then Some (record { labels = options.labels; times = true; bytes = options.bytes; json = options.json })
    else if bytes_eq word (codes "--bytes") && (not options.bytes && not options.json)
    then Some (record { labels = options.labels; times = options.times; bytes = true; json = options.json })
    else if bytes_eq word (codes "--json") && (not options.json && (not options.labels && not options.bytes))
    then Some (record { labels = options.labels; times = options.times; bytes = options.bytes; json = true })
    else None

-- options and what words add to them
abbrev pub with_options : Option Options → List (String Global) → Option Options
with_options None words = None
with_options (Some options) [] = Some options
with_options (Some options) (word ∷ more) = with_options (with_option options (string_bytes word)) more

-- what the arguments ask for, of which the first is the program's name; arguments that could not be read ask for
-- nothing
abbrev pub options_of : Option (List (String Global)) → Option Options
options_of None = None
options_of (Some []) = None
options_of (Some (name ∷ words)) = with_options (Some plain) words

-- printed otherwise
abbrev pub usage_text : List ℕ
usage_text = codes "usage: netlink_show [--time] [--json | [--label] [--bytes]] < FILE"

-- what a run did that ended so
abbrev pub Ends : Check → Options → List ℕ → Option (List ℕ) → Option (List ℕ) → Option (List ℕ)
    → Ending Fault Usage → Type 0
Ends check options input left old new end.Done = RunsWith {R = ⊤} check options input left old new (Ok tt)
Ends check options input left old new (end.Failed fault) = RunsWith {R = ⊤} check options input left old new (Err fault)
Ends check options input left old new (end.Usage usage) = ⊥
