-- The list of sources of a multicast group, and the time left of each.
use Rattle.std.specs.Prelude.{ℕ, ◌/◌, ◌%◌, List, [], ◌∷◌, ◌++◌, Option, Some, None, codes, decimal}
use Rattle.std.specs.List.{fold}
use Rattle.netlink_bridge_lines.specs.Words.{number_in, value_in}
use Rattle.netlink_packet_core.specs.Attribute.{Attribute}
use Rattle.netlink_route.specs.declared.multicast_groups.TheConstants.{MDBA_MDB_SRCATTR_ADDRESS, MDBA_MDB_SRCATTR_TIMER}
use Rattle.netlink_shapes.specs.Listing.{listed}
use Rattle.netlink_words.specs.Parts.{keyed}
use Rattle.netlink_words.specs.Text.{ip_words, separated}

-- a time in hundredths of a second, in seconds
abbrev pub time_text : ℕ → List ℕ
time_text n = decimal (n / 100) ++ (codes "." ++ (decimal (n % 100 / 10) ++ decimal (n % 10)))

-- the text of an address, and a time; empty without the address
unfoldable pub timed_text : List ℕ → ℕ → List ℕ
timed_text [] time = []
timed_text (b ∷ ip) time = (b ∷ ip) ++ (codes "/" ++ time_text time)

-- a source; empty without its time
unfoldable pub source_text : List ℕ → Option ℕ → List ℕ
source_text address None = []
source_text address (Some time) = timed_text (ip_words address) time

-- the source in an entry of the list
abbrev pub source_of : List ℕ → List ℕ
source_of entry =
    source_text (value_in entry MDBA_MDB_SRCATTR_ADDRESS) (number_in entry MDBA_MDB_SRCATTR_TIMER)

-- a text, followed by a source; an empty source changes nothing
unfoldable pub with_source : List ℕ → List ℕ → List ℕ
with_source text [] = text
with_source text (b ∷ source) = separated (codes ",") text (b ∷ source)

-- a text, followed by the source in an entry
abbrev pub with_entry : List ℕ → Attribute → List ℕ
with_entry text entry = with_source text (source_of entry.value)

-- the sources in a list, up to an error of the walk
unfoldable pub sources_text : List ℕ → List ℕ
sources_text list = fold with_entry [] (listed list)

-- the list, unless it has no source
abbrev pub sources_part : List ℕ → List ℕ
sources_part list = keyed (codes "source_list") (sources_text list)
