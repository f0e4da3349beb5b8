-- A reader that fails within the first bytes of an input.
use Rattle.std.proofs.Common.{◌≡◌, ◌<◌, ◌++◌, ◌∙◌, sym, subst, ℕ, List, Option, length, inl, inr}
use Rattle.std.proofs.KnownBytes.{Consumes-trans}
use Rattle.std.specs.Io.KnownBytes.{Consumes}
use Rattle.std.specs.Prelude.{Bool, true, if◌then◌else◌, ◌⊎◌}
use Rattle.netlink_input.specs.LayoutLaws.{pcap_in, pcap_long}
use Rattle.netlink_input.specs.Pcap.{is_pcap}
use Rattle.netlink_input.specs.Reading.{TriesStart, TriesUpTo}
use Rattle.netlink_input.specs.declared.fault.Fault.{Fault}
use Rattle.netlink_input.specs.declared.fault.Fault.TheVariants as fault

-- the reader failed in the header of a pcap file
tries_header : (old middle new : Option (List ℕ)) (head more : List ℕ) → Consumes old middle head → Consumes middle new more
    → is_pcap head ≡ true → length (head ++ more) < 24 → TriesStart old new
tries_header old middle new head more took after is short =
    let magic : is_pcap (head ++ more) ≡ true = pcap_in head more (pcap_long head is) ∙ is in (
      head ++ more,
      Consumes-trans old middle new head more took after,
      subst (λ (b : Bool). length (head ++ more) < (if b then 24 else 4)) (sym magic) short,
    )

pub fails_start : (old middle new : Option (List ℕ)) (head : List ℕ) (why : Fault) → Consumes old middle head
    → is_pcap head ≡ true → (why ≡ fault.OutOfMemory) ⊎ ((why ≡ fault.Read) × TriesUpTo middle new head 24)
    → (why ≡ fault.OutOfMemory) ⊎ ((why ≡ fault.Read) × TriesStart old new)
fails_start old middle new head why took is (inl none) = inl none
fails_start old middle new head why took is (inr tries) =
    let (read, given) = tries in
    let (more, after, short) = given in
    inr (read, tries_header old middle new head more took after is short)
