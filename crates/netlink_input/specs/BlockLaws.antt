-- One step over the blocks of a pcapng file, where its bytes are known.
use Rattle.std.proofs.Common.{◌≡◌, ◌≢◌, ◌<◌, ◌≤◌, ◌+◌, ◌-◌, ◌∙◌, refl, ℕ, List, [], ◌++◌, Option, Some, None, IfSome, Result, Ok, Err, take, length, ap, sym, subst, arith, inl, inr, append-nil, append_assoc, length-append}
use Rattle.std.proofs.KnownBytes.{Consumes-trans}
use Rattle.std.proofs.lemmas.Bool.{cases_lt, le-ltb, lt-ltb, ltb-false}
use Rattle.std.proofs.lemmas.List.{drop_at, length-take-le, take-append-le, take_all, take_at}
use Rattle.std.specs.Io.KnownBytes.{Consumes, IsAtEnd}
use Rattle.std.specs.Prelude.{Bool, true, false, ◌==◌, ◌||◌, ◌⊎◌, if◌then◌else◌, nat_lt, slice_range}
use Rattle.netlink_packet_core.specs.Numbers.{number_be, number_le}
use Rattle.netlink_input.specs.Block.{block_of, fixed_of, head_size, kept_by, kept_size, options_end}
use Rattle.netlink_input.specs.Blocks.{EndsBlock, GivesBlock, StartsHead, TriesBlock, TriesHead, block_in, ended, kept_of, unless_ended, whole_block}
use Rattle.netlink_input.specs.LayoutLaws.{number_in_first}
use Rattle.netlink_input.specs.Packet.{IsExtent}
use Rattle.netlink_input.specs.Pcap.{number_in}
use Rattle.netlink_input.specs.Reading.{ReadsUpTo, TriesUpTo}
use Rattle.netlink_input.specs.Stream.{longest}
use Rattle.netlink_input.specs.declared.block.Block.{Block}
use Rattle.netlink_input.specs.declared.block.Section.{Section}
use Rattle.netlink_input.specs.declared.blocks.NextBlock.TheVariants as next
use Rattle.netlink_input.specs.declared.fault.Fault.{Fault}
use Rattle.netlink_input.specs.declared.fault.Fault.TheVariants.{OutOfMemory, Read}
use Rattle.netlink_input.specs.declared.packet.Extent.{Extent}
use Rattle.netlink_input.specs.declared.pcap.Order.{Order}
use Rattle.netlink_input.specs.declared.pcap.Order.TheVariants.{Little, Big}
use Rattle.netlink_input.specs.declared.pcap.PcapFault.{PcapFault}
use Rattle.netlink_input.specs.declared.pcap.PcapFault.TheVariants.{BlockCut, BlockEnds, BlockShort}

-- ---- how many bytes a block starts with

least_options : (b : Bool) (size : ℕ) → (b ≡ false → 20 ≤ size) → 8 ≤ (if b then 16 else size - 4)
least_options true size long = omega arith
least_options false size long = omega (arith, long refl)

first_false : (a b : Bool) → (a || b) ≡ false → a ≡ false
first_false false b is = refl
first_false true b is = absurd cc

options_least : (size : ℕ) → 8 ≤ options_end size
options_least size =
    least_options (nat_lt size 20 || nat_lt longest size) size
    (λ not. ltb-false size 20 (first_false (nat_lt size 20) (nat_lt longest size) not))

least_of : (a b c d : Bool) (size : ℕ)
    → 8 ≤ (if a then 24 else if b then options_end size else if c then 28 else if d then 12 else 8)
least_of true b c d size = omega arith
least_of false true c d size = options_least size
least_of false false true d size = omega arith
least_of false false false true size = omega arith
least_of false false false false size = omega arith

least_by : (b : Bool) (kind size : ℕ) → 8 ≤ (if b then 8 else fixed_of kind size)
least_by true kind size = omega arith
least_by false kind size = least_of (kind == 168627466) (kind == 1) (kind == 6) (kind == 3) size

pub head_least : (order : Order) (head : List ℕ) → 8 ≤ head_size order head
head_least order head = least_by (nat_lt (length head) 8) (number_in order 0 4 head) (number_in order 4 4 head)

size_by_kind : (order : Order) (head : List ℕ) → 8 ≤ length head
    → head_size order head ≡ fixed_of (number_in order 0 4 head) (number_in order 4 4 head)
size_by_kind order head long =
    ap (λ (b : Bool). if b then 8 else fixed_of (number_in order 0 4 head) (number_in order 4 4 head)) (le-ltb (length head) 8 long)

-- no byte after the first 8 is looked at
pub head_size_first : (order : Order) (head more : List ℕ) → 8 ≤ length head
    → head_size order (head ++ more) ≡ head_size order head
head_size_first order head more long =
    size_by_kind order (head ++ more) (omega (arith, long, length-append head more))
    ∙ ap (λ (n : ℕ). fixed_of n (number_in order 4 4 (head ++ more))) (number_in_first order 0 4 head more (omega (arith, long)))
    ∙ ap (fixed_of (number_in order 0 4 head)) (number_in_first order 4 4 head more (omega (arith, long)))
    ∙ sym (size_by_kind order head long)

-- ---- a block and what follows it

-- a block whose first bytes are there
pub block_by_head : (section : Section) (bytes : List ℕ) → head_size section.order bytes ≤ length bytes
    → block_in section bytes ≡ whole_block bytes (block_of section (take (head_size section.order bytes) bytes))
block_by_head section bytes enough =
    ap (λ (b : Bool). if b then Err (BlockShort (length bytes) (head_size section.order bytes))
    else whole_block bytes (block_of section (take (head_size section.order bytes) bytes)))
    (le-ltb (length bytes) (head_size section.order bytes) enough)

-- these are its first bytes
pub block_in_head : (section : Section) (head more : List ℕ) → 8 ≤ length head → length head ≡ head_size section.order head
    → block_in section (head ++ more) ≡ whole_block (head ++ more) (block_of section head)
block_in_head section head more long whole =
    let size : head_size section.order (head ++ more) ≡ length head = head_size_first section.order head more long ∙ sym whole in
    block_by_head section (head ++ more) (omega (arith, size, length-append head more))
    ∙ ap (λ (l : List ℕ). whole_block (head ++ more) (block_of section l))
    (take_at head more (head_size section.order (head ++ more)) (sym size))

-- a whole block has the bytes that its length says
not_short : (a b : Bool) (x y : PcapFault) → None ≡ (if a then Some x else if b then None else Some y) → a ≡ false
not_short true b x y none = absurd cc
not_short false b x y none = refl

pub ended_long : (block : Block) (bytes : List ℕ) → None ≡ ended block bytes → block.size ≤ length bytes
ended_long block bytes none =
    ltb-false (length bytes) block.size (not_short (nat_lt (length bytes) block.size)
    (number_in block.section.order (block.size - 4) 4 bytes == block.size) _ _ none)

abbrev pub end_by : Block → Bool → ℕ → ℕ → Option PcapFault
end_by block short size end =
    if short then Some (BlockCut block.size size) else if end == block.size then None else Some (BlockEnds block.size end)

ended_by_end : (block : Block) (bytes : List ℕ) → block.size ≤ length bytes
    → ended block bytes ≡ end_by block false 0 (number_in block.section.order (block.size - 4) 4 bytes)
ended_by_end block bytes enough =
    ap (λ (b : Bool). end_by block b (length bytes) (number_in block.section.order (block.size - 4) 4 bytes))
    (le-ltb (length bytes) block.size enough)

pub ended_first : (block : Block) (bytes more : List ℕ) → 4 ≤ length bytes → block.size ≤ length bytes
    → ended block (bytes ++ more) ≡ ended block bytes
ended_first block bytes more some enough =
    ended_by_end block (bytes ++ more) (omega (arith, enough, length-append bytes more))
    ∙ ap (end_by block false 0)
    (number_in_first block.section.order (block.size - 4) 4 bytes more (omega (arith, some, enough)))
    ∙ sym (ended_by_end block bytes enough)

ended_none : (end : Option PcapFault) (block other : Block) → unless_ended end block ≡ Ok other → None ≡ end
ended_none None block other is = refl
ended_none (Some why) block other is = absurd cc

whole_more : (bytes more : List ℕ) (found : Result Block PcapFault) (block : Block) → 4 ≤ length bytes
    → whole_block bytes found ≡ Ok block → whole_block (bytes ++ more) found ≡ Ok block
whole_more bytes more (Err why) block long is = absurd cc
whole_more bytes more (Ok one) block long is =
    let none : None ≡ ended one bytes = ended_none (ended one bytes) one block is in
    ap (λ (o : Option PcapFault). unless_ended o one) (ended_first one bytes more long (ended_long one bytes none)) ∙ is

not_cut : (b : Bool) (why : PcapFault) (found : Result Block PcapFault) (block : Block)
    → (if b then Err why else found) ≡ Ok block → b ≡ false
not_cut true why found block is = absurd cc
not_cut false why found block is = refl

-- bytes with a whole block have what it starts with
pub block_head : (section : Section) (bytes : List ℕ) (block : Block) → block_in section bytes ≡ Ok block
    → head_size section.order bytes ≤ length bytes
block_head section bytes block is =
    ltb-false (length bytes) (head_size section.order bytes)
    (not_cut (nat_lt (length bytes) (head_size section.order bytes)) _ _ block is)

-- no byte after a whole block is looked at
pub block_more : (section : Section) (bytes more : List ℕ) (block : Block) → block_in section bytes ≡ Ok block
    → block_in section (bytes ++ more) ≡ Ok block
block_more section bytes more block is =
    let enough : head_size section.order bytes ≤ length bytes = block_head section bytes block is in
    let least : 8 ≤ head_size section.order bytes = head_least section.order bytes in
    let same : head_size section.order (bytes ++ more) ≡ head_size section.order bytes =
    head_size_first section.order bytes more (omega (arith, enough, least)) in
    let long = length-append bytes more in
    block_by_head section (bytes ++ more) (omega (arith, enough, same, long))
    ∙ ap (λ (n : ℕ). whole_block (bytes ++ more) (block_of section (take n (bytes ++ more)))) same
    ∙ ap (λ (l : List ℕ). whole_block (bytes ++ more) (block_of section l))
    (take-append-le (head_size section.order bytes) bytes more enough)
    ∙ whole_more bytes more (block_of section (take (head_size section.order bytes) bytes)) block
    (omega (arith, enough, least)) (sym (block_by_head section bytes enough) ∙ is)

-- nor for what is kept of it
pub kept_more : (section : Section) (bytes more : List ℕ) (block : Block) → block_in section bytes ≡ Ok block
    → kept_by block.packet (head_size section.order bytes) ≤ length bytes
    → kept_of section block (bytes ++ more) ≡ kept_of section block bytes
kept_more section bytes more block is fits =
    let enough : head_size section.order bytes ≤ length bytes = block_head section bytes block is in
    let least : 8 ≤ head_size section.order bytes = head_least section.order bytes in
    ap (λ (n : ℕ). take (kept_by block.packet n) (bytes ++ more))
    (head_size_first section.order bytes more (omega (arith, enough, least)))
    ∙ take-append-le (kept_by block.packet (head_size section.order bytes)) bytes more fits

-- ---- what was read

pub gives_block : (section : Section) (old middle new : Option (List ℕ)) (head more kept : List ℕ) (block : Block)
    → Consumes old middle head → Consumes middle new more → 8 ≤ length head → length head ≡ head_size section.order head
    → block_of section head ≡ Ok block → kept_size block head ≤ block.size → length (head ++ more) ≤ block.size → None ≡ ended block (head ++ more)
    → kept ≡ take (kept_size block head) (head ++ more) → GivesBlock section old new kept (next.Block block)
gives_block section old middle new head more kept block took after long whole is fits most none same =
    let size : head_size section.order (head ++ more) ≡ length head = head_size_first section.order head more long ∙ sym whole in
    let enough : block.size ≤ length (head ++ more) = ended_long block (head ++ more) none in (
      head ++ more,
      Consumes-trans old middle new head more took after,
      omega (arith, most, enough),
      omega (arith, most, long, length-append head more),
      block_in_head section head more long whole ∙ ap (whole_block (head ++ more)) is
          ∙ ap (λ (o : Option PcapFault). unless_ended o block) (sym none),
      omega (arith, ap (kept_by block.packet) size, fits, enough),
      same ∙ ap (λ (n : ℕ). take (kept_by block.packet n) (head ++ more)) (sym size),
    )

-- what is kept of a block with a packet
pub extent_kept : (packet : Option Extent) (size : ℕ) (whole kept : List ℕ) → kept ≡ take (kept_by packet size) whole
    → kept_by packet size ≤ length whole → IfSome packet (λ e. e.from ≤ 28) → IfSome packet (λ e. IsExtent e kept)
extent_kept None size whole kept same fits short = tt
extent_kept (Some packet) size whole kept same fits short =
    (short, ap length same ∙ length-take-le (packet.from + packet.captured) whole fits)

-- no bytes are no block
some_head : (bytes rest : List ℕ) → 8 ≤ length bytes → (bytes ++ rest) ≢ []
some_head bytes rest long none =
    let size = ap length none in
    omega (arith, long, size, length-append bytes rest)

abbrev pub StopsBlock : Section → PcapFault → List ℕ → Type 0
StopsBlock section why rest = (rest ≢ []) × (block_in section rest ≡ Err why)

-- the first bytes are those of no block
pub stops_head : (section : Section) (old middle : Option (List ℕ)) (head : List ℕ) (why : PcapFault)
    → Consumes old middle head → 8 ≤ length head → length head ≡ head_size section.order head
    → block_of section head ≡ Err why → IfSome old (StopsBlock section why)
stops_head section None middle head why took long whole is = tt
stops_head section (Some xs) None head why took long whole is = absurd took
stops_head section (Some xs) (Some ys) head why took long whole is =
    subst (StopsBlock section why) (sym took)
    (some_head head ys long, block_in_head section head ys long whole ∙ ap (whole_block (head ++ ys)) is)

-- the reader ended within them
pub stops_short : (section : Section) (old new : Option (List ℕ)) (head : List ℕ) → Consumes old new head
    → (length head ≢ 0) → length head < head_size section.order head → IsAtEnd new
    → IfSome old (StopsBlock section (BlockShort (length head) (head_size section.order head)))
stops_short section None new head took some short end = tt
stops_short section (Some xs) None head took some short end = absurd took
stops_short section (Some xs) (Some ys) head took some short end =
    let all : xs ≡ head = took ∙ ap (λ (l : List ℕ). head ++ l) end ∙ append-nil head in
    subst (StopsBlock section (BlockShort (length head) (head_size section.order head))) (sym all) (
      λ none. some (ap length none),
      ap (λ (b : Bool). if b then Err (BlockShort (length head) (head_size section.order head))
          else whole_block head (block_of section (take (head_size section.order head) head)))
          (lt-ltb (length head) (head_size section.order head) short),
    )

-- the end of a block, by the bytes that were read of it
ended_whole : (block : Block) (bytes more : List ℕ) → 4 ≤ length bytes → (length bytes < block.size → more ≡ [])
    → ended block (bytes ++ more) ≡ ended block bytes
ended_whole block bytes more some end =
    elim (cases_lt (length bytes) block.size) [
      | inl short ↦ ap (λ (l : List ℕ). ended block (bytes ++ l)) (end short) ∙ ap (ended block) (append-nil bytes)
      | inr full ↦ ended_first block bytes more some full
    ]

pub stops_block : (section : Section) (old middle new : Option (List ℕ)) (head more : List ℕ) (block : Block) (why : PcapFault)
    → Consumes old middle head → Consumes middle new more → 8 ≤ length head → length head ≡ head_size section.order head
    → block_of section head ≡ Ok block → (length (head ++ more) < block.size → IsAtEnd new)
    → Some why ≡ ended block (head ++ more) → IfSome old (StopsBlock section why)
stops_block section None middle new head more block why took after long whole is end stops = tt
stops_block section (Some xs) None new head more block why took after long whole is end stops = absurd took
stops_block section (Some xs) (Some ys) None head more block why took after long whole is end stops = absurd after
stops_block section (Some xs) (Some ys) (Some zs) head more block why took after long whole is end stops =
    let all : xs ≡ head ++ (more ++ zs) = took ∙ ap (λ (l : List ℕ). head ++ l) after in
    let same : ended block (head ++ (more ++ zs)) ≡ Some why =
    ap (ended block) (sym (append_assoc head more zs))
    ∙ ended_whole block (head ++ more) zs (omega (arith, long, length-append head more)) end ∙ sym stops in
    subst (StopsBlock section why) (sym all) (
      some_head head (more ++ zs) long,
      block_in_head section head (more ++ zs) long whole ∙ ap (whole_block (head ++ (more ++ zs))) is
          ∙ ap (λ (o : Option PcapFault). unless_ended o block) same,
    )

-- what a block starts with was read after its first 8 bytes
pub starts_head : (order : Order) (old middle new : Option (List ℕ)) (head bytes : List ℕ) (size : ℕ)
    → Consumes old middle head → length head ≡ 8 → size ≡ head_size order head → ReadsUpTo middle new head bytes size
    → StartsHead order old new bytes
starts_head order old middle new head bytes size took long is (more, all, after, most, end) =
    let same : head_size order bytes ≡ size =
    ap (head_size order) all ∙ head_size_first order head more (omega (arith, long)) ∙ sym is in (
      subst (Consumes old new) (sym all) (Consumes-trans old middle new head more took after),
      omega (arith, most, same),
      λ short. end (omega (arith, short, same)),
    )

-- ---- the rest of a block

-- the reader ended in it
pub ends_cut : (block : Block) (old new : Option (List ℕ)) (head more kept : List ℕ) (size : ℕ) → Consumes old new more
    → length (head ++ more) ≡ size → size < block.size → IsAtEnd new
    → EndsBlock block old new head kept (Some (BlockCut block.size size))
ends_cut block old new head more kept size took long short end = (
  more,
  took,
  omega (arith, long, short),
  λ _. end,
  sym (ap (λ (b : Bool). end_by block b (length (head ++ more)) (number_in block.section.order (block.size - 4) 4 (head ++ more)))
      (lt-ltb (length (head ++ more)) block.size (omega (arith, long, short)))
      ∙ ap (λ (n : ℕ). Some (BlockCut block.size n)) long),
  λ none. absurd cc,
)

-- the last 4 bytes
range_end : (at : ℕ) (front last : List ℕ) → length front ≡ at → length last ≡ 4
    → slice_range (front ++ last) at (at + 4) ≡ last
range_end at front last size long =
    ap (take (at + 4 - at)) (drop_at front last at size) ∙ take_all (at + 4 - at) last (omega (arith, long))

number_at_end : (order : Order) (m n : ℕ) (front other last : List ℕ) → length front ≡ m → length other ≡ n → length last ≡ 4
    → number_in order m 4 (front ++ last) ≡ number_in order n 4 (other ++ last)
number_at_end Little m n front other last one two long =
    ap number_le (range_end m front last one long ∙ sym (range_end n other last two long))
number_at_end Big m n front other last one two long =
    ap number_be (range_end m front last one long ∙ sym (range_end n other last two long))

-- its length was read again at its end, after bytes that were skipped
pub ends_full : (block : Block) (old first second new : Option (List ℕ)) (head body gap last one two kept : List ℕ) (k end : ℕ)
    (why : Option PcapFault) → one ≡ head ++ body → two ≡ one ++ last → Consumes old first body → Consumes first second gap
    → Consumes second new last → length one ≡ k → length two ≡ k + 4 → length gap ≡ block.size - (k + 4)
    → k + 4 ≤ block.size → end ≡ number_in block.section.order k 4 two → k ≡ kept_size block head → kept ≡ take k two
    → why ≡ end_by block false 0 end → EndsBlock block old new head kept why
ends_full block old first second new head body gap last one two kept k end why is all took skipped after start long room fits number same keeps result =
    let more : List ℕ = body ++ (gap ++ last) in
    let whole : head ++ more ≡ (one ++ gap) ++ last =
    sym (append_assoc head body (gap ++ last)) ∙ ap (λ (l : List ℕ). l ++ (gap ++ last)) (sym is)
    ∙ sym (append_assoc one gap last) in
    let four : length last ≡ 4 = omega (arith, ap length all, length-append one last, start, long) in
    let before : length (one ++ gap) ≡ block.size - 4 = omega (arith, length-append one gap, start, room, fits) in
    let size : length (head ++ more) ≡ block.size =
    omega (arith, ap length whole, length-append (one ++ gap) last, before, four, fits) in
    let found : number_in block.section.order (block.size - 4) 4 (head ++ more) ≡ end =
    ap (number_in block.section.order (block.size - 4) 4) whole
    ∙ number_at_end block.section.order (block.size - 4) k (one ++ gap) one last before start four
    ∙ sym (number ∙ ap (number_in block.section.order k 4) all) in
    let start_of : take (kept_size block head) (head ++ more) ≡ take k two =
    ap (λ (n : ℕ). take n (head ++ more)) (sym same) ∙ ap (take k) (whole ∙ append_assoc one gap last)
    ∙ take_at one (gap ++ last) k start ∙ sym (take_at one last k start) ∙ ap (take k) (sym all) in (
      more,
      Consumes-trans old first new body (gap ++ last) took (Consumes-trans first second new gap last skipped after),
      omega (arith, size),
      λ short. absurd (omega (arith, short, size)),
      result ∙ sym (ended_by_end block (head ++ more) (omega (arith, size)) ∙ ap (end_by block false 0) found),
      λ none. keeps ∙ sym start_of,
    )

-- ---- the reader failed

pub fails_after : (order : Order) (old middle new : Option (List ℕ)) (head : List ℕ) (size : ℕ) (why : Fault)
    → Consumes old middle head → length head ≡ 8 → size ≡ head_size order head
    → (why ≡ OutOfMemory) ⊎ ((why ≡ Read) × TriesUpTo middle new head size)
    → (why ≡ OutOfMemory) ⊎ ((why ≡ Read) × TriesHead order old new)
fails_after order old middle new head size why took long is (inl none) = inl none
fails_after order old middle new head size why took long is (inr (read, tries)) =
    let (more, after, short) = tries in
    let same = head_size_first order head more (omega (arith, long)) in
    inr (read, (head ++ more, Consumes-trans old middle new head more took after, omega (arith, short, same, is)))

cut_head : (section : Section) (front : List ℕ) (block : Block) → length front < head_size section.order front
    → block_in section front ≡ Ok block → ⊥
cut_head section front block short is =
    let enough = block_head section front block is in
    omega (arith, short, enough)

pub fails_head : (section : Section) (old new : Option (List ℕ)) (why : Fault)
    → (why ≡ OutOfMemory) ⊎ ((why ≡ Read) × TriesHead section.order old new)
    → (why ≡ OutOfMemory) ⊎ ((why ≡ Read) × TriesBlock section old new)
fails_head section old new why (inl none) = inl none
fails_head section old new why (inr (read, tries)) =
    let (front, took, short) = tries in
    inr (read, (front, took, λ holds. cut_head section front holds.0 short holds.1))

cut_block : (section : Section) (head more : List ℕ) (block other : Block) → 8 ≤ length head
    → length head ≡ head_size section.order head → block_of section head ≡ Ok block → length (head ++ more) < block.size
    → block_in section (head ++ more) ≡ Ok other → ⊥
cut_block section head more block other long whole is short holds =
    let found : unless_ended (ended block (head ++ more)) block ≡ Ok other =
    sym (ap (whole_block (head ++ more)) is) ∙ sym (block_in_head section head more long whole) ∙ holds in
    let enough = ended_long block (head ++ more) (ended_none (ended block (head ++ more)) block other found) in
    omega (arith, short, enough)

pub fails_block : (section : Section) (old middle new : Option (List ℕ)) (head : List ℕ) (block : Block) (why : Fault)
    → Consumes old middle head → 8 ≤ length head → length head ≡ head_size section.order head
    → block_of section head ≡ Ok block → (why ≡ OutOfMemory) ⊎ ((why ≡ Read) × TriesUpTo middle new head block.size)
    → (why ≡ OutOfMemory) ⊎ ((why ≡ Read) × TriesBlock section old new)
fails_block section old middle new head block why took long whole is (inl none) = inl none
fails_block section old middle new head block why took long whole is (inr (read, tries)) =
    let (more, after, short) = tries in
    inr (
      read,
      (
        head ++ more,
        Consumes-trans old middle new head more took after,
        λ holds. cut_block section head more block holds.0 long whole is short holds.1,
      ),
    )

-- ---- in the rest of a block

-- in the bytes that are skipped
pub fails_gap : (size k : ℕ) (old first new : Option (List ℕ)) (head body one : List ℕ) (why : Fault) → one ≡ head ++ body
    → Consumes old first body → length one ≡ k → k + 4 ≤ size
    → (why ≡ Read) × ((gap : List ℕ) × Consumes first new gap × (length gap < size - (k + 4)))
    → (why ≡ OutOfMemory) ⊎ ((why ≡ Read) × TriesUpTo old new head size)
fails_gap size k old first new head body one why is took start room (read, (gap, skipped, few)) =
    let whole : length (head ++ (body ++ gap)) ≡ length (one ++ gap) =
    ap length (sym (append_assoc head body gap)) ∙ ap (λ (l : List ℕ). length (l ++ gap)) (sym is) in
    inr (
      read,
      (
        body ++ gap,
        Consumes-trans old first new body gap took skipped,
        omega (arith, whole, length-append one gap, start, room, few),
      ),
    )

-- in its last 4 bytes
pub fails_last : (size k : ℕ) (old first second new : Option (List ℕ)) (head body gap one : List ℕ) (why : Fault)
    → one ≡ head ++ body → Consumes old first body → Consumes first second gap → length one ≡ k
    → length gap ≤ size - (k + 4) → k + 4 ≤ size
    → (why ≡ OutOfMemory) ⊎ ((why ≡ Read) × TriesUpTo second new one (k + 4))
    → (why ≡ OutOfMemory) ⊎ ((why ≡ Read) × TriesUpTo old new head size)
fails_last size k old first second new head body gap one why is took skipped start full room (inl none) = inl none
fails_last size k old first second new head body gap one why is took skipped start full room (inr (read, (last, after, short))) =
    let whole : head ++ (body ++ (gap ++ last)) ≡ (one ++ gap) ++ last =
    sym (append_assoc head body (gap ++ last)) ∙ ap (λ (l : List ℕ). l ++ (gap ++ last)) (sym is)
    ∙ sym (append_assoc one gap last) in
    inr (
      read,
      (
        body ++ (gap ++ last),
        Consumes-trans old first new body (gap ++ last) took (Consumes-trans first second new gap last skipped after),
        omega (arith, ap length whole, length-append (one ++ gap) last, length-append one gap, length-append one last, start, full, room, short),
      ),
    )
