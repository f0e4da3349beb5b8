use Rattle.std.proofs.Common.{refl}
use Rattle.netlink_ethernet.specs.declared.comparisons.TheConstants.{NUMBERS}
use Rattle.netlink_ethernet.proofs.Rows.{rises}
use Rattle.netlink_ethernet.proofs.comparisons.numbers_rise.Goals as goal

-- computed over the constant
pub returns : goal.returns
returns c = record { rise = rises NUMBERS refl }
