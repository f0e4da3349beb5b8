-- The options of a queueing discipline, by its kind, in the order of `tc qdisc show`.
use Rattle.std.specs.Prelude.{ℕ, List, [], ◌∷◌, bytes_eq, is_some, length, nat_lt, Option, Some, None, codes, if◌then◌else◌}
use Rattle.netlink_packet_core.specs.Fields.{number_at}
use Rattle.netlink_route.specs.declared.traffic_control.TheConstants.{TCA_FQ_CODEL_CE_THRESHOLD, TCA_FQ_CODEL_DROP_BATCH_SIZE, TCA_FQ_CODEL_ECN, TCA_FQ_CODEL_FLOWS, TCA_FQ_CODEL_INTERVAL, TCA_FQ_CODEL_LIMIT, TCA_FQ_CODEL_MEMORY_LIMIT, TCA_FQ_CODEL_QUANTUM, TCA_FQ_CODEL_TARGET, TCA_HTB_DIRECT_QLEN, TCA_HTB_INIT, TCA_HTB_OFFLOAD}
use Rattle.netlink_traffic_lines.specs.Values.{counted, is_set, number_in, unit_part, value_in}
use Rattle.netlink_words.specs.Parts.{hex_part, keyed, number_part, or_zero, when, with_parts}

-- of `fq_codel`: how many packets, flows and bytes of a flow
unfoldable pub codel_sizes : List ℕ → List (List ℕ)
codel_sizes options =
    unit_part (codes "limit") (codes "p") (number_in options TCA_FQ_CODEL_LIMIT)
    ∷ number_part (codes "flows") (number_in options TCA_FQ_CODEL_FLOWS)
    ∷ number_part (codes "quantum") (number_in options TCA_FQ_CODEL_QUANTUM) ∷ []

-- its times in microseconds
unfoldable pub codel_times : List ℕ → List (List ℕ)
codel_times options =
    unit_part (codes "target") (codes "us") (number_in options TCA_FQ_CODEL_TARGET)
    ∷ unit_part (codes "ce_threshold") (codes "us") (number_in options TCA_FQ_CODEL_CE_THRESHOLD)
    ∷ unit_part (codes "interval") (codes "us") (number_in options TCA_FQ_CODEL_INTERVAL) ∷ []

-- its memory in bytes, whether it marks packets, and how many it drops at once
unfoldable pub codel_rest : List ℕ → List (List ℕ)
codel_rest options =
    unit_part (codes "memory_limit") (codes "b") (number_in options TCA_FQ_CODEL_MEMORY_LIMIT)
    ∷ when (is_set (number_in options TCA_FQ_CODEL_ECN)) (codes "ecn")
    ∷ counted (codes "drop_batch") (or_zero (number_in options TCA_FQ_CODEL_DROP_BATCH_SIZE)) ∷ []

-- a text, followed by the options of `fq_codel`
unfoldable pub codel_text : List ℕ → List ℕ → List ℕ
codel_text options text =
    with_parts (with_parts (with_parts text (codel_sizes options)) (codel_times options)) (codel_rest options)

-- of `htb`: what `struct tc_htb_glob` has
unfoldable pub global_parts : Option (List ℕ) → List (List ℕ)
global_parts None = []
global_parts (Some init) =
    if nat_lt (length init) 20 then []
    else number_part (codes "r2q") (Some (number_at 4 4 init))
    ∷ keyed (codes "default") (hex_part (number_at 8 4 init))
    ∷ number_part (codes "direct_packets_stat") (Some (number_at 16 4 init)) ∷ []

unfoldable pub direct_parts : List ℕ → List (List ℕ)
direct_parts options =
    number_part (codes "direct_qlen") (number_in options TCA_HTB_DIRECT_QLEN)
    ∷ when (is_some (value_in options TCA_HTB_OFFLOAD)) (codes "offload") ∷ []

-- a text, followed by the options of `htb`
unfoldable pub htb_text : List ℕ → List ℕ → List ℕ
htb_text options text =
    with_parts (with_parts text (global_parts (value_in options TCA_HTB_INIT))) (direct_parts options)

-- a text, followed by the options of a kind; nothing of other kinds
unfoldable pub known_options : List ℕ → List ℕ → List ℕ → List ℕ
known_options kind options text =
    if bytes_eq kind (codes "fq_codel") then codel_text options text
    else if bytes_eq kind (codes "htb") then htb_text options text
    else text

unfoldable pub options_text : List ℕ → Option (List ℕ) → List ℕ → List ℕ
options_text kind None text = text
options_text kind (Some options) text = known_options kind options text
