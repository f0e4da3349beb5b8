-- One step over the packets of a pcap file, where its bytes are known.
use Rattle.std.proofs.Common.{◌≡◌, ◌<◌, ◌≤◌, ◌+◌, ◌∙◌, ℕ, List, ◌++◌, Option, Some, None, IfSome, length, ap, sym, subst, arith, inl, inr, append-nil, length-append}
use Rattle.std.proofs.KnownBytes.{Consumes-trans}
use Rattle.std.specs.Io.KnownBytes.{Consumes, IsAtEnd}
use Rattle.std.specs.Prelude.{◌⊎◌}
use Rattle.netlink_input.specs.Packet.{IsWholePacket, captured_of}
use Rattle.netlink_input.specs.Reading.{TriesPacket, TriesUpTo}
use Rattle.netlink_input.specs.Stream.{longest}
use Rattle.netlink_input.specs.declared.pcap.Order.{Order}
use Rattle.netlink_input.specs.declared.fault.Fault.{Fault}
use Rattle.netlink_input.specs.declared.fault.Fault.TheVariants.{OutOfMemory, Read}
use Rattle.netlink_input.specs.LayoutLaws.{number_in_first}

-- the captured length is in the first 16 bytes
pub captured_in : (order : Order) (head more : List ℕ) → 16 ≤ length head
    → captured_of order (head ++ more) ≡ captured_of order head
captured_in order head more long = number_in_first order 8 4 head more (omega (arith, long))

-- ---- how a file ends

-- all bytes of a packet that they end in were read
pub keeps_cut : (old middle new : Option (List ℕ)) (head body packet : List ℕ) → Consumes old middle head
    → Consumes middle new body → packet ≡ head ++ body → IsAtEnd new → IfSome old (λ rest. packet ≡ rest)
keeps_cut None middle new head body packet took more same end = tt
keeps_cut (Some xs) None new head body packet took more same end = absurd took
keeps_cut (Some xs) (Some ys) None head body packet took more same end = absurd more
keeps_cut (Some xs) (Some ys) (Some zs) head body packet took more same end =
    let rest : ys ≡ body = more ∙ ap (λ (l : List ℕ). body ++ l) end ∙ append-nil body in
    same ∙ ap (λ (l : List ℕ). head ++ l) (sym rest) ∙ sym took

-- ---- what was read

-- the whole packet was read
pub gives_packet : (order : Order) (old middle new : Option (List ℕ)) (head body packet : List ℕ) (said : ℕ)
    → Consumes old middle head → Consumes middle new body → length head ≡ 16 → said ≡ captured_of order head
    → length body ≡ said → said ≤ longest → packet ≡ head ++ body
    → Consumes old new packet × IsWholePacket order packet × (captured_of order packet ≤ longest)
gives_packet order old middle new head body packet said took more size is whole most same =
    let long : length packet ≡ length head + length body = ap length same ∙ length-append head body in
    let number : captured_of order packet ≡ said =
    ap (captured_of order) same ∙ captured_in order head body (omega (arith, size)) ∙ sym is in (
      subst (Consumes old new) (sym same) (Consumes-trans old middle new head body took more),
      (omega (arith, long, size), omega (arith, long, size, whole, number)),
      omega (arith, number, most),
    )

-- the reader failed after the header
tries_packet : (order : Order) (old middle new : Option (List ℕ)) (head front : List ℕ) (said : ℕ)
    → Consumes old middle head → Consumes middle new front → length head ≡ 16 → said ≡ captured_of order head
    → length front < said → TriesPacket order old new
tries_packet order old middle new head front said took more size is short =
    let long = length-append head front in
    let number = captured_in order head front (omega (arith, size)) in
    (head ++ front, Consumes-trans old middle new head front took more, λ holds. omega (arith, holds.1, long, size, is, short, number))

pub fails_packet : (order : Order) (old middle new : Option (List ℕ)) (head : List ℕ) (said size : ℕ) (why : Fault)
    → Consumes old middle head → length head ≡ 16 → said ≡ captured_of order head → size ≡ 16 + said
    → (why ≡ OutOfMemory) ⊎ ((why ≡ Read) × TriesUpTo middle new head size)
    → (why ≡ OutOfMemory) ⊎ ((why ≡ Read) × TriesPacket order old new)
fails_packet order old middle new head said size why took long is whole (inl none) = inl none
fails_packet order old middle new head said size why took long is whole (inr tries) =
    let (read, given) = tries in
    let (front, more, short) = given in
    inr (read, tries_packet order old middle new head front said took more long is (omega (arith, short, whole, long, length-append head front)))
