use Rattle.std.proofs.Common.{rules, ◌≡◌, ◌-◌, ◌<◌, ◌^◌, length}
use Rattle.netlink_packet_core.specs.Numbers.{bytes_le}
use Rattle.netlink_packet_core.specs.Storage.{put_at}
use Rattle.netlink_c.specs.Ends.{IsStretch}
use Rattle.netlink_c.proofs.EndLemmas.{nest_reads_back}
use Rattle.netlink_c.proofs.ends.nlp_nest_end.Goals as goal

pub returns-clause-reads_back : goal.returns-clause-reads_back
returns-clause-reads_back c = λ _.
    let stretch : IsStretch (length c.args.buffer.now) c.args.start c.args.cursor 4 = search rules in
    let small : c.args.cursor - c.args.start < 2 ^ 16 = search rules in
    let written : c.put_u16.new.bytes ≡ put_at c.args.buffer.now c.args.start (bytes_le (c.args.cursor - c.args.start) 2) = search rules in
    nest_reads_back c.args.buffer.now c.put_u16.new.bytes c.args.start c.args.cursor stretch small written
