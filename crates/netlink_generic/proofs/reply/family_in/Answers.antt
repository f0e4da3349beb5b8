use Rattle.netlink_generic.proofs.reply.family_in.Goals as goal

pub returns-clause-error : goal.returns-clause-error
returns-clause-error c =
    rw (c.message_type.ensures.number, c.payload.ensures.bytes, c.new-frame.ensures.keeps) at c.new.ensures.error
