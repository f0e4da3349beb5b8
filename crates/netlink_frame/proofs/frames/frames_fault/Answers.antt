use Rattle.netlink_frame.proofs.frames.frames_fault.Goals as goal

pub returns-clause-fault : goal.returns-clause-fault
returns-clause-fault c = c.frames_fault.ensures.fault

pub returns-clause-each : goal.returns-clause-each
returns-clause-each c = c.frames_fault.ensures.each
