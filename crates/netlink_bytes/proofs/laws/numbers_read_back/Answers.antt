use Rattle.netlink_bytes.proofs.ReadBack.{bytes_read_back, text_reads_back}
use Rattle.netlink_bytes.proofs.laws.numbers_read_back.Goals as goal

pub returns : goal.returns
returns c = record { numbers = text_reads_back; bytes = bytes_read_back }
