-- The line of the id of a network namespace, by its message type and its payload.
use Rattle.std.specs.Prelude.{ℕ, ℤ, ◌==◌, List, [], ◌∷◌, ◌++◌, Option, Some, None, codes, int_lt, pos, if◌then◌else◌}
use Rattle.std.specs.Fmt.{signed_decimal}
use Rattle.std.specs.Option.{option_map}
use Rattle.netlink_family.specs.Finding.{first_at}
use Rattle.netlink_packet_core.specs.Numbers.{number_le, signed}
use Rattle.netlink_route.specs.declared.namespaces.TheConstants.{NETNSA_CURRENT_NSID, NETNSA_FD, NETNSA_NSID, NETNSA_PID, NETNSA_TARGET_NSID}
use Rattle.netlink_words.specs.Parts.{number_part, when, with_parts}

-- the first id of a kind
abbrev pub namespace_id : List ℕ → ℕ → Option ℤ
namespace_id payload kind = option_map (λ value. signed 4 (number_le value)) (first_at 4 payload kind)

-- a key and an id; one below 0 is none
unfoldable pub id_part : List ℕ → Option ℤ → List ℕ
id_part key None = []
id_part key (Some id) =
    key ++ (if int_lt id (pos 0) then codes " unassigned" else codes " " ++ signed_decimal id)

-- the first number of a kind
abbrev pub namespace_number : List ℕ → ℕ → Option ℕ
namespace_number payload kind = option_map number_le (first_at 4 payload kind)

-- the id, what else identifies a namespace in a request, and the id in the namespace of the socket
unfoldable pub id_parts : List ℕ → List (List ℕ)
id_parts payload =
    id_part (codes "nsid") (namespace_id payload NETNSA_NSID)
    ∷ number_part (codes "pid") (namespace_number payload NETNSA_PID)
    ∷ number_part (codes "fd") (namespace_number payload NETNSA_FD)
    ∷ id_part (codes "target-nsid") (namespace_id payload NETNSA_TARGET_NSID)
    ∷ id_part (codes "current-nsid") (namespace_id payload NETNSA_CURRENT_NSID) ∷ []

-- the words, or the key alone if there are none
unfoldable pub ids_or_key : List ℕ → List ℕ
ids_or_key [] = codes "nsid"
ids_or_key (b ∷ words) = b ∷ words

-- the line of a message
unfoldable pub namespace_line : ℕ → List ℕ → List ℕ
namespace_line t payload =
    with_parts [] (when (t == 89) (codes "Deleted")
    ∷ when (t == 90) (codes "Get")
    ∷ ids_or_key (with_parts [] (id_parts payload)) ∷ []) ++ codes "\n"
