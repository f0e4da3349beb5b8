use Rattle.std.proofs.Common.{rules, ◌≡◌, ◌+◌, ◌<◌, ◌≤◌, ◌^◌, ◌++◌, length}
use Rattle.std.specs.Prelude.{replicate}
use Rattle.netlink_packet_core.specs.Attribute.{padding}
use Rattle.netlink_packet_core.specs.Storage.{put_at}
use Rattle.netlink_c.specs.Ends.{begun_size, frame_bytes}
use Rattle.netlink_c.proofs.EndLemmas.{frame_reads_back}
use Rattle.netlink_c.proofs.ends.nlp_frame_put.Goals as goal

pub returns-clause-reads_back : goal.returns-clause-reads_back
returns-clause-reads_back c = λ _.
    let written : c.put_frame_at.new.buffer
    ≡ put_at c.args.buffer.now c.args.cursor.now
    (frame_bytes c.args.header.now c.args.fixed.now ++ replicate (padding (length c.args.fixed.now)) 0) = search rules in
    let moved : c.args.cursor.now + c.nlmsg_align-whole.result ≡ c.args.cursor.now + begun_size (length c.args.fixed.now) = search rules in
    let room : c.args.cursor.now + begun_size (length c.args.fixed.now) ≤ length c.args.buffer.now = search rules in
    let small : 16 + length c.args.fixed.now < 2 ^ 32 = search rules in
    frame_reads_back c.args.header.now c.args.fixed.now c.args.buffer.now c.put_frame_at.new.buffer c.args.cursor.now _ written moved room
    small
