use Rattle.netlink_bytes.proofs.ReadBack.{written_is_read, written_signed_is_read}
use Rattle.netlink_bytes.proofs.laws.written_is_read.Goals as goal

pub returns : goal.returns
returns c = record { numbers = written_is_read; signed = written_signed_is_read }
