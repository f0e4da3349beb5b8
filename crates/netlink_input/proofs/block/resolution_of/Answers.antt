use Rattle.std.proofs.Common.{◌≡◌, ◌≤◌, ◌+◌, ◌-◌, ◌/◌, ◌∙◌, ap, sym, arith, ℕ, List, length}
use Rattle.std.proofs.lemmas.Bool.{eq-eqb, ne_eqb}
use Rattle.std.specs.Prelude.{false, ◌==◌, ◌&&◌, nat_lt}
use Rattle.netlink_input.specs.Block.{after_option, resolution_in}
use Rattle.netlink_input.specs.Pcap.{number_in}
use Rattle.netlink_input.proofs.Times.{found_other, found_short, found_true, resolution_ends, resolution_found, resolution_next, resolution_none, resolution_short}
use Rattle.netlink_input.proofs.block.resolution_of.Goals as goal
use Rattle.netlink_input.proofs.block.resolution_of.Goals.{else-kind-eq-RESOLUTION-via-then-kind-eq-RESOLUTION+else-rest-gt4, else-kind-eq-RESOLUTION-via-else-kind-eq-RESOLUTION}

pub returns-then-rest-lt4 : goal.returns-then-rest-lt4
returns-then-rest-lt4 c =
    let n : ℕ = length c.args.options.now / 4 in
    sym (resolution_short n c.loop.counter c.args.order c.loop.rest.now c.loop-test.true c.if-rest-lt4.true) ∙ c.loop.invariant

pub returns-then-rest-gt4 : goal.returns-then-rest-gt4
returns-then-rest-gt4 c =
    let n : ℕ = length c.args.options.now / 4 in
    let rest : List ℕ = c.loop.rest.now in
    sym (resolution_found n c.loop.counter c.args.order rest c.loop-test.true c.if-rest-lt4.false
    (found_true (number_in c.args.order 0 2 rest) (length rest) (sym c.u16_in-kind.ensures.number ∙ c.if-kind-eq-RESOLUTION.true)
    c.if-rest-gt4.true)) ∙ c.loop.invariant

pub returns-then-kind-eq0 : goal.returns-then-kind-eq0
returns-then-kind-eq0 c =
    let n : ℕ = length c.args.options.now / 4 in
    let rest : List ℕ = c.loop.rest.now in
    let kind : ℕ = number_in c.args.order 0 2 rest in
    let other : (kind == 9 && nat_lt 4 (length rest)) ≡ false =
    elim c.else-kind-eq-RESOLUTION.branch [
      | else-kind-eq-RESOLUTION-via-then-kind-eq-RESOLUTION+else-rest-gt4 w ↦ found_short kind (length rest) w.if-rest-gt4.false
      | else-kind-eq-RESOLUTION-via-else-kind-eq-RESOLUTION w ↦ found_other kind (length rest)
          (λ e. w.if-kind-eq-RESOLUTION.false (c.u16_in-kind.ensures.number ∙ e))
    ] in
    sym (resolution_ends n c.loop.counter c.args.order rest c.loop-test.true c.if-rest-lt4.false other
    (eq-eqb kind 0 (sym c.u16_in-kind.ensures.number ∙ c.if-kind-eq0.true))) ∙ c.loop.invariant

pub loop-preserved : goal.loop-preserved
loop-preserved c =
    let n : ℕ = length c.args.options.now / 4 in
    let rest : List ℕ = c.loop.rest.now in
    let kind : ℕ = number_in c.args.order 0 2 rest in
    let other : (kind == 9 && nat_lt 4 (length rest)) ≡ false =
    elim c.else-kind-eq-RESOLUTION.branch [
      | else-kind-eq-RESOLUTION-via-then-kind-eq-RESOLUTION+else-rest-gt4 w ↦ found_short kind (length rest) w.if-rest-gt4.false
      | else-kind-eq-RESOLUTION-via-else-kind-eq-RESOLUTION w ↦ found_other kind (length rest)
          (λ e. w.if-kind-eq-RESOLUTION.false (c.u16_in-kind.ensures.number ∙ e))
    ] in
    ap (resolution_in (n - (c.loop.counter + 1)) c.args.order) (c.after_option-rest.ensures ∙ ap (after_option rest) c.u16_in.ensures.number)
    ∙ sym (resolution_next n c.loop.counter c.args.order rest c.loop-test.true c.if-rest-lt4.false other
    (ne_eqb kind 0 (λ e. c.if-kind-eq0.false (c.u16_in-kind.ensures.number ∙ e)))) ∙ c.loop.invariant

pub returns : goal.returns
returns c =
    let n : ℕ = length c.args.options.now / 4 in
    sym (resolution_none n c.loop.counter c.args.order c.loop.rest.now c.loop-test.false) ∙ c.loop.invariant
