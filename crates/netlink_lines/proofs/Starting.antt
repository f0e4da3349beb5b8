-- How a run starts, by the first bytes of its input, and how it goes on.
use Rattle.std.proofs.Common.{◌≡◌, ◌≤◌, ◌<◌, ◌+◌, ◌-◌, ◌++◌, ◌∙◌, refl, ap, arith, sym, subst, ℕ, List, [], Option, Some, None, IfSome, Result, Err, drop, take, length, append-nil, length-append, length-drop, length-take, inl, inr}
use Rattle.std.proofs.KnownBytes.{Appends-nil}
use Rattle.std.proofs.lemmas.Bool.{cases_lt}
use Rattle.std.proofs.lemmas.List.{drop_at}
use Rattle.std.specs.Io.KnownBytes.{prepend_known}
use Rattle.std.specs.Prelude.{Bool, true, false, ◌==◌, ⊤, if◌then◌else◌, ◌⊎◌}
use Rattle.netlink_input.specs.BlockLaws.{block_head, head_least}
use Rattle.netlink_lines.specs.Blocks.{blocks_of}
use Rattle.netlink_lines.specs.Messages.{Check, Memory, no_memory}
use Rattle.netlink_lines.specs.Packet.{packets_of}
use Rattle.netlink_input.specs.Pcap.{is_nano, is_pcap, layout_of, number_in}
use Rattle.netlink_input.specs.Reading.{Starts, TriesStart, start_size}
use Rattle.netlink_lines.specs.Run.{RunsAll, RunsIn, RunsOver, RunsWith}
use Rattle.netlink_lines.specs.Stream.{messages_of}
use Rattle.netlink_lines.specs.declared.options.Options.{Options}
use Rattle.netlink_input.specs.declared.pcap.Layout.{Layout}
use Rattle.netlink_input.specs.declared.pcap.Layout.TheVariants.{Blocks, Messages, Packets, Unread}
use Rattle.netlink_input.specs.declared.pcap.Order.{Order}
use Rattle.netlink_input.specs.declared.fault.Fault.{Fault}
use Rattle.netlink_input.specs.declared.fault.Fault.TheVariants as fault
use Rattle.netlink_input.specs.declared.stream.Stop.{Stop}
use Rattle.netlink_input.specs.LayoutLaws.{blocks_magic, layout_in, messages_magic, number_in_first, packets_size, pcap_in}

-- ---- what they tell

start_least : (b : Bool) → 4 ≤ (if b then 24 else 4)
start_least true = omega arith
start_least false = omega arith

start_most : (b : Bool) → (if b then 24 else 4) ≤ 24
start_most true = omega arith
start_most false = omega arith

start_of : (first : List ℕ) (b : Bool) → is_pcap first ≡ b → start_size first ≡ (if b then 24 else 4)
start_of first b is = ap (λ (c : Bool). if c then 24 else 4) is

layout_whole : (first more : List ℕ) → start_size first ≤ length first → layout_of (first ++ more) ≡ layout_of first
layout_whole first more enough =
    layout_in first more (omega (arith, enough, start_least (is_pcap first))) (λ magic. omega (arith, enough, start_of first true magic))

layout_first : (first more : List ℕ) → (length first < start_size first → more ≡ []) → layout_of (first ++ more) ≡ layout_of first
layout_first first more all =
    elim (cases_lt (length first) (start_size first)) [
      | inl short ↦ ap (λ (l : List ℕ). layout_of (first ++ l)) (all short) ∙ ap layout_of (append-nil first)
      | inr enough ↦ layout_whole first more enough
    ]

-- ---- how the run goes on

pub runs_messages : (check : Check) (options : Options) (old middle left start end : Option (List ℕ)) (first : List ℕ) (memory after : Memory)
    (result : Result ⊤ Fault) → Starts old middle first → layout_of first ≡ Messages → memory ≡ no_memory options
    → IfSome (prepend_known first middle) (λ bytes. RunsOver (messages_of check) memory (0 + length bytes) bytes left start end after result)
    → IfSome old (λ input. RunsWith check options input left start end result)
runs_messages check options None middle left start end first memory after result starts is none runs = tt
runs_messages check options (Some xs) None left start end first memory after result (took, few, all) is none runs = absurd took
runs_messages check options (Some xs) (Some ys) left start end first memory after result (took, few, all) is none runs =
    let same : layout_of xs ≡ Messages = ap layout_of took ∙ layout_first first ys all ∙ is in
    let whole : RunsOver (messages_of check) (no_memory options) (length xs) xs left start end after result =
    subst (λ (m : Memory). RunsOver (messages_of check) m (length xs) xs left start end after result) none
    (subst (λ (n : ℕ). RunsOver (messages_of check) memory n xs left start end after result) (omega arith)
    (subst (λ (l : List ℕ). RunsOver (messages_of check) memory (0 + length l) l left start end after result) (sym took) runs)) in
    subst (λ (layout : Layout). RunsIn check options layout xs left start end result) (sym same) (after, whole)

pub runs_packets : (check : Check) (options : Options) (order : Order) (nano : Bool) (old middle left start end : Option (List ℕ)) (first : List ℕ) (memory after : Memory)
    (result : Result ⊤ Fault) → Starts old middle first → layout_of first ≡ Packets order → nano ≡ is_nano order first → memory ≡ no_memory options
    → IfSome middle (λ bytes. RunsOver (packets_of check order nano) memory (24 + length bytes) bytes left start end after result)
    → IfSome old (λ input. RunsWith check options input left start end result)
runs_packets check options order nano None middle left start end first memory after result starts is unit none runs = tt
runs_packets check options order nano (Some xs) None left start end first memory after result (took, few, all) is unit none runs = absurd took
runs_packets check options order nano (Some xs) (Some ys) left start end first memory after result (took, few, all) is unit none runs =
    let same : layout_of xs ≡ Packets order = ap layout_of took ∙ layout_first first ys all ∙ is in
    let size : length first ≡ 24 = omega (arith, packets_size first order is, few, start_most (is_pcap first)) in
    let long : length xs ≡ 24 + length ys = omega (arith, ap length took, length-append first ys, size) in
    let rest : drop 24 xs ≡ ys = ap (drop 24) took ∙ drop_at first ys 24 size in
    let nanos : nano ≡ is_nano order xs =
    unit ∙ sym (ap (λ (n : ℕ). n == 2712812621) (ap (number_in order 0 4) took ∙ number_in_first order 0 4 first ys (omega (arith, size)))) in
    let whole : RunsOver (packets_of check order nano) (no_memory options) (length xs) (drop 24 xs) left start end after result =
    subst (λ (m : Memory). RunsOver (packets_of check order nano) m (length xs) (drop 24 xs) left start end after result) none
    (subst (λ (n : ℕ). RunsOver (packets_of check order nano) memory n (drop 24 xs) left start end after result) (sym long)
    (subst (λ (l : List ℕ). RunsOver (packets_of check order nano) memory (24 + length ys) l left start end after result) (sym rest) runs)) in
    subst (λ (layout : Layout). RunsIn check options layout xs left start end result) (sym same)
    (subst (λ (b : Bool). RunsAll (packets_of check order b) options (length xs) (drop 24 xs) left start end result) nanos (after, whole))

pub runs_blocks : (check : Check) (options : Options) (old middle left start end : Option (List ℕ)) (first : List ℕ) (memory after : Memory)
    (result : Result ⊤ Fault) → Starts old middle first → layout_of first ≡ Blocks → memory ≡ no_memory options
    → IfSome (prepend_known first middle) (λ bytes. RunsOver (blocks_of check bytes) memory (length bytes) bytes left start end after result)
    → IfSome old (λ input. RunsWith check options input left start end result)
runs_blocks check options None middle left start end first memory after result starts is none runs = tt
runs_blocks check options (Some xs) None left start end first memory after result (took, few, all) is none runs = absurd took
runs_blocks check options (Some xs) (Some ys) left start end first memory after result (took, few, all) is none runs =
    let same : layout_of xs ≡ Blocks = ap layout_of took ∙ layout_first first ys all ∙ is in
    let whole : RunsOver (blocks_of check xs) (no_memory options) (length xs) xs left start end after result =
    subst (λ (m : Memory). RunsOver (blocks_of check xs) m (length xs) xs left start end after result) none
    (subst (λ (l : List ℕ). RunsOver (blocks_of check l) memory (length l) l left start end after result) (sym took) runs) in
    subst (λ (layout : Layout). RunsIn check options layout xs left start end result) (sym same) (after, whole)

-- no more than 4 bytes were read
pub few_first : (old middle : Option (List ℕ)) (first : List ℕ) → Starts old middle first → layout_of first ≡ Blocks → length first < 8
few_first old middle first (took, few, all) is =
    elim (cases_lt (length first) 4) [
      | inl short ↦ omega (arith, short)
      | inr long ↦ omega (arith, few, start_of first false (blocks_magic first is long))
    ]

pub runs_unread : (check : Check) (options : Options) (why : Stop) (old middle left start : Option (List ℕ)) (first : List ℕ) → Starts old middle first
    → layout_of first ≡ Unread why → IfSome old (λ input. RunsWith {R = ⊤} check options input left start start (Err (fault.Stopped why)))
runs_unread check options why None middle left start first starts is = tt
runs_unread check options why (Some xs) None left start first (took, few, all) is = absurd took
runs_unread check options why (Some xs) (Some ys) left start first (took, few, all) is =
    let same : layout_of xs ≡ Unread why = ap layout_of took ∙ layout_first first ys all ∙ is in
    subst (λ (layout : Layout). RunsIn {R = ⊤} check options layout xs left start start (Err (fault.Stopped why))) (sym same) (refl, Appends-nil start)

-- ---- how it ends before the first bytes were there: nothing was shown

no_memory_in : (check : Check) (options : Options) (layout : Layout) (input : List ℕ) (left start : Option (List ℕ))
    → RunsIn {R = ⊤} check options layout input left start start (Err fault.OutOfMemory)
no_memory_in check options Messages input left start = (no_memory options, ([], inl (input, refl), Appends-nil start, tt))
no_memory_in check options (Packets order) input left start = (no_memory options, ([], inl (drop 24 input, refl), Appends-nil start, tt))
no_memory_in check options Blocks input left start = (no_memory options, ([], inl (input, refl), Appends-nil start, tt))
no_memory_in check options (Unread why) input left start = (tt, Appends-nil start)

pub starts_without_memory : (check : Check) (options : Options) (old left start : Option (List ℕ))
    → IfSome old (λ input. RunsWith {R = ⊤} check options input left start start (Err fault.OutOfMemory))
starts_without_memory check options None left start = tt
starts_without_memory check options (Some xs) left start = no_memory_in check options (layout_of xs) xs left start

-- fewer than 4 bytes of messages were given
few_given : (xs ys front : List ℕ) → xs ≡ front ++ ys → length front < start_size front → layout_of xs ≡ Messages
    → length front < 4
few_given xs ys front is short messages =
    elim (cases_lt (length front) 4) [
      | inl few ↦ few
      | inr long ↦ (
          let whole : 4 ≤ length xs = omega (arith, long, ap length is, length-append front ys) in
          let magic : is_pcap front ≡ false = sym (pcap_in front ys long) ∙ ap is_pcap (sym is) ∙ messages_magic xs messages whole in
          omega (arith, short, start_of front false magic)
          )
    ]

-- nor of blocks
few_of_blocks : (xs ys front : List ℕ) → xs ≡ front ++ ys → length front < start_size front → layout_of xs ≡ Blocks
    → length front < 4
few_of_blocks xs ys front is short blocks =
    elim (cases_lt (length front) 4) [
      | inl few ↦ few
      | inr long ↦ (
          let whole : 4 ≤ length xs = omega (arith, long, ap length is, length-append front ys) in
          let magic : is_pcap front ≡ false = sym (pcap_in front ys long) ∙ ap is_pcap (sym is) ∙ blocks_magic xs blocks whole in
          omega (arith, short, start_of front false magic)
          )
    ]

no_input_in : (check : Check) (options : Options) (layout : Layout) (xs ys front : List ℕ) (start : Option (List ℕ)) → xs ≡ front ++ ys
    → length front < start_size front → layout_of xs ≡ layout
    → RunsIn {R = ⊤} check options layout xs (Some ys) start start (Err fault.Read)
no_input_in check options Messages xs ys front start is short same =
    let few = few_given xs ys front is short same in
    let long = length-append front ys in
    let size = length-take (length xs - length ys) xs in
    (no_memory options, ([], (xs, refl, λ holds. omega (arith, few, ap length is, long, size, holds.header)), Appends-nil start, refl))
no_input_in check options (Packets order) xs ys front start is short same =
    let rest : List ℕ = drop 24 xs in
    let left = length-drop 24 xs in
    let long = length-append front ys in
    let size = length-take (length rest - length ys) rest in
    let most = start_most (is_pcap front) in
    (no_memory options, ([], (rest, refl, λ holds. omega (arith, short, most, ap length is, long, left, size, holds.0)), Appends-nil start, refl))
no_input_in check options Blocks xs ys front start is short same =
    let few = few_of_blocks xs ys front is short same in
    let long = length-append front ys in
    let size = length-take (length xs - length ys) xs in (
      no_memory options,
      (
        [],
        (
          xs,
          refl,
          λ holds. (
              let some = block_head holds.0 (take (length xs - length ys) xs) holds.2.0 holds.2.1 in
              omega (arith, few, ap length is, long, size, some, head_least holds.0.order (take (length xs - length ys) xs))
              ),
        ),
        Appends-nil start,
        refl,
      ),
    )
no_input_in check options (Unread why) xs ys front start is short same = (tt, Appends-nil start)

starts_without_input : (check : Check) (options : Options) (old left start : Option (List ℕ)) → TriesStart old left
    → IfSome old (λ input. RunsWith {R = ⊤} check options input left start start (Err fault.Read))
starts_without_input check options None left start tries = tt
starts_without_input check options (Some xs) None start (front, took, short) = absurd took
starts_without_input check options (Some xs) (Some ys) start (front, took, short) =
    no_input_in check options (layout_of xs) xs ys front start took short refl

pub no_start : (check : Check) (options : Options) (old left start : Option (List ℕ)) (why : Fault)
    → (why ≡ fault.OutOfMemory) ⊎ ((why ≡ fault.Read) × TriesStart old left)
    → IfSome old (λ input. RunsWith {R = ⊤} check options input left start start (Err why))
no_start check options old left start why (inl is) =
    subst (λ (e : Fault). IfSome old (λ input. RunsWith {R = ⊤} check options input left start start (Err e))) (sym is)
    (starts_without_memory check options old left start)
no_start check options old left start why (inr tries) =
    subst (λ (e : Fault). IfSome old (λ input. RunsWith {R = ⊤} check options input left start start (Err e))) (sym tries.0)
    (starts_without_input check options old left start tries.1)
