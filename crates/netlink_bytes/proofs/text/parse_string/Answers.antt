use Rattle.std.proofs.Common.{rules}
use Rattle.netlink_bytes.proofs.text.parse_string.Goals as goal

pub returns-in_err-text_copy_of-in-Ok-clause-empty : goal.returns-in_err-text_copy_of-in-Ok-clause-empty
returns-in_err-text_copy_of-in-Ok-clause-empty c = search rules

pub returns-in_err-utf8_text-in-Err-clause-empty : goal.returns-in_err-utf8_text-in-Err-clause-empty
returns-in_err-utf8_text-in-Err-clause-empty c = search rules

pub returns-in_ok-text_copy_of-in-Ok-clause-not_utf8 : goal.returns-in_ok-text_copy_of-in-Ok-clause-not_utf8
returns-in_ok-text_copy_of-in-Ok-clause-not_utf8 c = search rules

pub returns-in_ok-text_copy_of-in-Ok-clause-text : goal.returns-in_ok-text_copy_of-in-Ok-clause-text
returns-in_ok-text_copy_of-in-Ok-clause-text c = search rules

pub returns-in_ok-utf8_text-in-Err-clause-empty : goal.returns-in_ok-utf8_text-in-Err-clause-empty
returns-in_ok-utf8_text-in-Err-clause-empty c = search rules

pub returns-in_ok-utf8_text-in-Err-clause-utf8 : goal.returns-in_ok-utf8_text-in-Err-clause-utf8
returns-in_ok-utf8_text-in-Err-clause-utf8 c = search rules
