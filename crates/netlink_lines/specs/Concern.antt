-- The attribute of a request that the kernel complains of.
use Rattle.std.specs.Prelude.{ℕ, ◌≡◌, ◌==◌, ◌/◌, nat_lt, List, [], ◌++◌, length, Option, Some, None, codes, decimal, if◌then◌else◌}
use Rattle.std.specs.List.{fold}
use Rattle.netlink_packet_core.specs.Fields.{number_at}
use Rattle.netlink_replies.specs.Paths.{IsPath, place_in}
use Rattle.netlink_words.specs.Text.{separated}

-- the size of the fixed header in a group of four message types (linux/rtnetlink.h)
abbrev pub header_in : ℕ → Option ℕ
header_in group =
    if group == 4 then Some 16
    else if group == 5 then Some 8
    else if group == 6 then Some 12
    else if group == 7 then Some 12
    else if group == 8 then Some 12
    else if group == 16 then Some 4
    else if group == 22 then Some 4
    else None

-- that of a request, if its type is one of route netlink
abbrev pub header_size : List ℕ → Option ℕ
header_size request = if nat_lt (length request) 16 then None else header_in (number_at 4 2 request / 4)

-- an offset in a request as an offset in its attributes; in none if the size of the header is not known
abbrev pub place_at : ℕ → List ℕ → Option ℕ → List ℕ × ℕ
place_at offset request None = ([], 0)
place_at offset request (Some size) = place_in (Some offset) request size

abbrev pub place_of : Option ℕ → List ℕ → List ℕ × ℕ
place_of None request = ([], 0)
place_of (Some offset) request = place_at offset request (header_size request)

-- the kinds of a path
abbrev pub with_kind : List ℕ → ℕ → List ℕ
with_kind text kind = separated (codes "/") text (decimal kind)

abbrev pub path_text : List ℕ → List ℕ
path_text kinds = fold with_kind [] kinds

-- the attribute at an offset, by the text of its path
abbrev pub attribute_words : List ℕ → List ℕ
attribute_words [] = []
attribute_words path = codes ", attribute " ++ path

abbrev pub place_words : Option ℕ → List ℕ → List ℕ
place_words None path = []
place_words (Some offset) path = codes "; byte " ++ (decimal offset ++ attribute_words path)

-- these words say where the attribute at an offset of the request is
abbrev pub IsPlace : Option ℕ → List ℕ → List ℕ → Type 0
IsPlace offset request words =
    (kinds : List ℕ) × IsPath (place_of offset request).0 (place_of offset request).1 kinds
    × (words ≡ place_words offset (path_text kinds))

-- a request lacks an attribute of this kind, in the nest at an offset if there is one
abbrev pub missing_words : Option ℕ → Option ℕ → List ℕ
missing_words None nest = []
missing_words (Some kind) None = codes "; attribute " ++ (decimal kind ++ codes " is missing")
missing_words (Some kind) (Some nest) =
    codes "; attribute " ++ (decimal kind ++ (codes " is missing in the nest at byte " ++ decimal nest))
