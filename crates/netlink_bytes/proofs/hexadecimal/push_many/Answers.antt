use Rattle.std.proofs.Common.{rules, ◌≡◌, ◌≤◌, ◌+◌, ◌-◌, ◌++◌, ◌∙◌, append-nil, arith, length, string_bytes, sym, take}
use Rattle.netlink_bytes.specs.Text.{hex_digits}
use Rattle.netlink_bytes.proofs.Digits.{digits_join}
use Rattle.netlink_bytes.proofs.hexadecimal.push_many.Goals as goal

pub loop-at-init : goal.loop-at-init
unfolding hex_digits
loop-at-init c = (
  c.in_ok-reserve.ensures.bytes ∙ sym (append-nil (string_bytes c.args.text.now)),
  omega arith,
  omega (arith, c.in_ok-reserve.ensures.ok),
)

pub loop-at-preserved : goal.loop-at-preserved
loop-at-preserved c =
    let at = c.loop-at.at in
    let end = c.min-end.result in
    let inside : end ≤ length c.args.bytes.now = search rules in
    let on : at ≤ end = search rules in
    let whole : at + (end - at) ≡ end = omega (arith, on) in
    let text : string_bytes c.push_step.new.text ≡ string_bytes c.args.text.now ++ hex_digits (take (at + (end - at)) c.args.bytes.now) =
    digits_join _ _ _ _ at (end - at) c.loop-at.invariant.0 c.push_step.ensures.appends in (
      rw whole at text,
      inside,
      omega (arith, inside, on, c.loop-at.invariant.2, c.push_step.ensures.len, c.push_step.ensures.capacity),
    )
