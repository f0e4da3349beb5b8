use Rattle.netlink_bytes.proofs.ReadBack.{signed_reads_back, unsigned_reads_back}
use Rattle.netlink_bytes.proofs.laws.signed_numbers_read_back.Goals as goal

pub returns : goal.returns
returns c = record { signed = signed_reads_back; unsigned = unsigned_reads_back }
