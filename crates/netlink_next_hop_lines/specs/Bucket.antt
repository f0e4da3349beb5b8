-- What a bucket of a group has.
use Rattle.std.specs.Prelude.{ℕ, List, [], ◌∷◌, take, Option, Some, None, codes}
use Rattle.std.specs.Option.{option_map}
use Rattle.netlink_family.specs.Finding.{first_at, found_in}
use Rattle.netlink_next_hop_lines.specs.Time.{time_part}
use Rattle.netlink_packet_core.specs.Fields.{number_at}
use Rattle.netlink_packet_core.specs.Numbers.{number_le}
use Rattle.netlink_route.specs.declared.next_hop_objects.TheConstants.{NHA_RES_BUCKET, NHA_RES_BUCKET_IDLE_TIME, NHA_RES_BUCKET_INDEX, NHA_RES_BUCKET_NH_ID}
use Rattle.netlink_route_lines.specs.RouteFlags.{hop_flags_text}
use Rattle.netlink_words.specs.Parts.{number_part, with_part, with_parts}

-- the index, how long the bucket was not used, and the id of its next hop
unfoldable pub bucket_parts : List ℕ → List (List ℕ)
bucket_parts block =
    number_part (codes "index") (option_map number_le (found_in block NHA_RES_BUCKET_INDEX))
    ∷ time_part (codes "idle_time") (option_map number_le (found_in block NHA_RES_BUCKET_IDLE_TIME))
    ∷ number_part (codes "nhid") (option_map number_le (found_in block NHA_RES_BUCKET_NH_ID)) ∷ []

unfoldable pub bucket_in : Option (List ℕ) → List (List ℕ)
bucket_in None = []
bucket_in (Some block) = bucket_parts block

-- a text, followed by what a bucket has, and by the flags
unfoldable pub bucket_text : List ℕ → List ℕ → List ℕ
bucket_text payload text =
    with_part (with_parts text (bucket_in (first_at 8 payload NHA_RES_BUCKET)))
    (hop_flags_text (number_at 4 4 (take 8 payload)))
