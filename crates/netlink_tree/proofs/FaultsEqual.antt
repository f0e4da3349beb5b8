-- What `==` means for errors.
use Rattle.std.proofs.Common.{◌≡◌, ◌↔◌, Bool, IsTrue, refl, sym, ◌∙◌}
use Rattle.netlink_packet_core.specs.Causes.{SameCause}
use Rattle.netlink_packet_core.specs.DecodeError.{DecodeError}
use Rattle.netlink_tree.specs.Fault.{SameFault}
use Rattle.netlink_tree.specs.contracts.fault.TreeFaultPartialEq.TheImpl
use Rattle.netlink_tree.specs.declared.fault.TreeFault.{TreeFault}
use Rattle.netlink_tree.specs.declared.fault.TreeFault.TheVariants.{TooDeep, TooLong, Decode}

-- two errors are equal if and only if nothing distinguishes them, given that this holds for
-- `DecodeError`
pub faults_equal : (causes : DecodeError → DecodeError → Bool)
    → ((a b : DecodeError) → IsTrue (causes a b) ↔ SameCause a b)
    → ((a b : DecodeError) → TheImpl.ghosts.eq (Decode a) (Decode b) ≡ causes a b)
    → (a b : TreeFault) → IsTrue (TheImpl.ghosts.eq a b) ↔ SameFault a b
faults_equal causes same held TooDeep TooDeep = (λ e. tt, λ e. refl)
faults_equal causes same held TooLong TooLong = (λ e. tt, λ e. refl)
faults_equal causes same held (Decode a) (Decode b) =
    (λ e. (same a b).0 (sym (held a b) ∙ e), λ e. held a b ∙ (same a b).1 e)
faults_equal causes same held _ _ = (λ e. absurd (cc), λ e. absurd e)
