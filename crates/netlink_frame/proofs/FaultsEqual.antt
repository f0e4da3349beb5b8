-- What `==` means for the errors of runs.
use Rattle.std.proofs.Common.{◌≡◌, ◌↔◌, Bool, IsTrue, refl, sym, ◌∙◌}
use Rattle.netlink_packet_core.specs.Causes.{SameCause}
use Rattle.netlink_packet_core.specs.DecodeError.{DecodeError}
use Rattle.netlink_frame.specs.Run.{IsSameFault}
use Rattle.netlink_frame.specs.contracts.run.FaultPartialEq.TheImpl
use Rattle.netlink_frame.specs.declared.run.Fault.{Fault}
use Rattle.netlink_frame.specs.declared.run.Fault.TheVariants.{Read, Write, Decode}

-- two errors are equal if and only if nothing distinguishes them, given that this holds for
-- `DecodeError`
pub faults_equal : (causes : DecodeError → DecodeError → Bool)
    → ((a b : DecodeError) → IsTrue (causes a b) ↔ SameCause a b)
    → ((a b : DecodeError) → TheImpl.ghosts.eq (Decode a) (Decode b) ≡ causes a b)
    → (a b : Fault) → IsTrue (TheImpl.ghosts.eq a b) ↔ IsSameFault a b
faults_equal causes same held Read Read = (λ e. tt, λ e. refl)
faults_equal causes same held Write Write = (λ e. tt, λ e. refl)
faults_equal causes same held (Decode a) (Decode b) =
    (λ e. (same a b).0 (sym (held a b) ∙ e), λ e. held a b ∙ (same a b).1 e)
faults_equal causes same held _ _ = (λ e. absurd (cc), λ e. absurd e)
