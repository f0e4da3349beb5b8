-- The metrics of a route.
use Rattle.std.specs.Prelude.{ℕ, ◌≡◌, ◌==◌, ◌&&◌, ◌/◌, ◌%◌, ◌^◌, Bool, false, List, [], ◌∷◌, ◌++◌, nat_lt, not, Option, Some, None, codes, decimal, if◌then◌else◌}
use Rattle.std.specs.Fmt.{digits}
use Rattle.std.specs.List.{fold}
use Rattle.std.specs.Option.{option_map}
use Rattle.netlink_family.specs.Finding.{found_in}
use Rattle.netlink_family.specs.Shapes.{Row, rows_in}
use Rattle.netlink_family.specs.Strings.{until_nul}
use Rattle.netlink_family.specs.declared.block_view.BlockView.{BlockView}
use Rattle.netlink_packet_core.specs.Numbers.{number_le}
use Rattle.netlink_route.specs.declared.routes.TheConstants.{METRICS, RTAX_CC_ALGO, RTAX_LOCK}
use Rattle.netlink_words.specs.Parts.{with_part}
use Rattle.netlink_words.specs.Text.{sentence_text}

-- RTAX_* of linux/rtnetlink.h
unfoldable pub metric_name : ℕ → List ℕ
metric_name kind =
    if kind == 2 then codes "mtu"
    else if kind == 3 then codes "window"
    else if kind == 4 then codes "rtt"
    else if kind == 5 then codes "rttvar"
    else if kind == 6 then codes "ssthresh"
    else if kind == 7 then codes "cwnd"
    else if kind == 8 then codes "advmss"
    else if kind == 9 then codes "reordering"
    else if kind == 10 then codes "hoplimit"
    else if kind == 11 then codes "initcwnd"
    else if kind == 12 then codes "features"
    else if kind == 13 then codes "rto_min"
    else if kind == 14 then codes "initrwnd"
    else if kind == 15 then codes "quickack"
    else if kind == 17 then codes "fastopen_no_cookie"
    else []

abbrev pub ecn_word : Bool → List ℕ
ecn_word set = if set then codes " ecn" else []

abbrev pub feature_text : ℕ → List ℕ
feature_text features =
    if nat_lt features 2 then ecn_word (features % 2 == 1)
    else ecn_word (features % 2 == 1) ++ (codes " 0x" ++ digits 16 false features)

-- the decimals of a time, without zeros at their end
abbrev pub decimals : ℕ → ℕ → ℕ → List ℕ
decimals tenths hundredths thousandths =
    if not (thousandths == 0)
    then codes "." ++ (decimal tenths ++ (decimal hundredths ++ decimal thousandths))
    else if not (hundredths == 0) then codes "." ++ (decimal tenths ++ decimal hundredths)
    else if not (tenths == 0) then codes "." ++ decimal tenths
    else []

-- a time in milliseconds, in seconds if it is 1000 or greater
abbrev pub time_text : ℕ → List ℕ
time_text n =
    if nat_lt n 1000 then codes " " ++ (decimal n ++ codes "ms")
    else codes " " ++ (decimal (n / 1000)
    ++ (decimals (n / 100 % 10) (n / 10 % 10) (n % 10) ++ codes "s"))

-- a round-trip time is in eighths of a millisecond, and its variation in quarters
abbrev pub metric_value : ℕ → ℕ → List ℕ
metric_value kind value =
    if kind == 12 then feature_text value
    else if kind == 4 then time_text (value / 8)
    else if kind == 5 then time_text (value / 4)
    else if kind == 13 then time_text value
    else codes " " ++ decimal value

abbrev pub lock_word : Bool → List ℕ
lock_word locked = if locked then codes " lock" else []

-- a metric and its value; a hop limit of all ones is none
abbrev pub metric_part : Bool → ℕ → ℕ → List ℕ
metric_part locked kind value =
    if kind == 10 && value == 4294967295 then []
    else metric_name kind ++ (lock_word locked ++ metric_value kind value)

abbrev pub metric_or_lock : Bool → ℕ → Option ℕ → List ℕ
metric_or_lock locked kind None = if locked then metric_part locked kind 0 else []
metric_or_lock locked kind (Some value) = metric_part locked kind value

-- the congestion control
abbrev pub control_part : Bool → Option (List ℕ) → List ℕ
control_part locked None = if locked then codes "congctl lock" else []
control_part locked (Some name) =
    codes "congctl" ++ (lock_word locked ++ (codes " " ++ sentence_text name))

-- the bit of a kind is set
abbrev pub is_locked : Option ℕ → ℕ → Bool
is_locked None kind = false
is_locked (Some bits) kind = nat_lt kind 32 && (bits / 2 ^ kind) % 2 == 1

abbrev pub has_lock : List ℕ → ℕ → Bool
has_lock nest kind = is_locked (option_map number_le (found_in nest RTAX_LOCK)) kind

-- a metric of a nest
unfoldable pub metric_of : List ℕ → ℕ → List ℕ
metric_of nest kind =
    if kind == RTAX_CC_ALGO
    then control_part (has_lock nest kind) (option_map until_nul (found_in nest RTAX_CC_ALGO))
    else metric_or_lock (has_lock nest kind) kind (option_map number_le (found_in nest kind))

-- a text, followed by a metric of a nest
abbrev pub with_metric : List ℕ → List ℕ → ℕ → List ℕ
with_metric nest text kind = with_part text (metric_of nest kind)

abbrev pub metric_kinds : List ℕ
metric_kinds = 2 ∷ 3 ∷ 4 ∷ 5 ∷ 6 ∷ 7 ∷ 8 ∷ 9 ∷ 10 ∷ 11 ∷ 12 ∷ 13 ∷ 14 ∷ 15 ∷ 16 ∷ 17 ∷ []

-- the metrics of a nest
unfoldable pub nest_text : List ℕ → List ℕ
nest_text nest = fold (with_metric nest) [] metric_kinds

-- the same for a nest that may be missing
unfoldable pub metrics_text : Option (List ℕ) → List ℕ
metrics_text None = []
metrics_text (Some nest) = nest_text nest

-- a view of the metrics of a route, by the rows of the table of routes
abbrev pub IsMetrics : List Row → BlockView → Type 0
IsMetrics rows view = (rows_in view.rows.list.now ≡ rows) × (view.policy ≡ METRICS)
