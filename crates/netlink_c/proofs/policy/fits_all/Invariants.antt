use Rattle.std.proofs.Common.{◌≡◌, drop}
use Rattle.netlink_c.specs.Policies.{fits_rows}
use Rattle.netlink_c.proofs.policy.fits_all.Given as goal

-- the rows so far are met
abbrev pub invariant-loop-row : goal.invariant-loop-row
invariant-loop-row l = fits_rows l.policy l.kind l.value ≡ fits_rows (drop l.row-index l.policy) l.kind l.value
