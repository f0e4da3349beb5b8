use Rattle.netlink_c.proofs.RefusalLemmas.{again_out}
use Rattle.netlink_c.proofs.normal.nlp_frame_normalize.Goals as goal

pub returns-in-Ok-clause-again : goal.returns-in-Ok-clause-again
returns-in-Ok-clause-again c = λ done.
    again_out c.in-Ok.frame.items _ _ _ _ _ c.copy_out.ensures.copies c.as_slice.ensures.value c.in-Ok.ensures.again done
