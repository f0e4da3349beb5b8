use Rattle.netlink_bytes.proofs.ReadBack.{number_is_sum, text_is_bytes}
use Rattle.netlink_bytes.proofs.laws.numbers_are_sums.Goals as goal

pub returns : goal.returns
returns c = record { sums = number_is_sum; bytes = text_is_bytes }
