-- What zeros decode to.
use Rattle.std.proofs.Common.{◌≡◌, ◌↔◌, ℕ, List, true, length, ap, ◌∙◌, Some}
use Rattle.std.specs.Prelude.{replicate}
use Rattle.netlink_packet_core.specs.declared.header.NetlinkHeader.{NetlinkHeader}
use Rattle.netlink_frame.specs.Zeros.{are_zeros, zeros_reading}
use Rattle.netlink_frame.specs.ZerosLaws.{all_zeros, are_zeros-replicate}

pub reads_zeros : (h : NetlinkHeader) (payload : List ℕ) → h.message_type ≡ 18 → are_zeros payload ≡ true
    → zeros_reading h payload ≡ Some (18, replicate (length payload) 0)
reads_zeros h payload kind zeros = rw (kind, zeros) (ap (λ (text : List ℕ). Some (18, text)) (all_zeros payload zeros))

-- n bytes are zeros if and only if they are n zeros
pub zeros_are : (bytes : List ℕ) (n : ℕ) → length bytes ≡ n → (are_zeros bytes ≡ true) ↔ (bytes ≡ replicate n 0)
zeros_are bytes n size = (λ e. all_zeros bytes e ∙ ap (λ (k : ℕ). replicate k 0) size, λ e. ap are_zeros e ∙ are_zeros-replicate n)
