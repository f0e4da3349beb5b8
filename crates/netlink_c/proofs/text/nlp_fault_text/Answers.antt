use Rattle.netlink_c.proofs.Texts.{told_text}
use Rattle.netlink_c.proofs.text.nlp_fault_text.Goals as goal

pub returns-clause-text : goal.returns-clause-text
returns-clause-text c = λ e alone same.
    told_text c.args.fault.now e c.in-Some.cause _ _ _ _ alone same c.in-Some.ensures c.text_out.ensures.text
