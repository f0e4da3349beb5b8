use Rattle.std.proofs.Common.{◌≢◌, [], List, ℕ, drop, length, ap, refl, sym, ◌∙◌, inl, arith, length-drop}
use Rattle.std.proofs.lemmas.List.{drop_all}
use Rattle.netlink_c.proofs.ItemLemmas.{left_end, left_fault, left_next}
use Rattle.netlink_c.proofs.PolicyLemmas.{Fit, IsBad, fit_next, fit_stops, item_here, validates_all, validates_bad, validates_fault}
use Rattle.netlink_c.proofs.policy.nlp_attrs_validate.Goals as goal

pub loop-at-preserved : goal.loop-at-preserved
loop-at-preserved c =
    let block : List ℕ = c.args.block.now in
    let starts = c.nlp_attrs_next-result.ensures.item c.if-result-ne-OK.false in
    let size = length-drop c.loop-at.at block in
    record {
      inside = starts.forward.1;
      unfaulted = c.nlp_attrs_next-result.ensures.unfaulted (inl c.if-result-ne-OK.false) ∙ c.loop-at.invariant.unfaulted;
      kept = c.loop-at.invariant.kept;
      left = left_next _ _ _ _ (Fit c.args.policy.now block c.loop-at.at) (Fit c.args.policy.now block c.nlp_attrs_next-result.new.cursor)
          (omega (arith, size)) starts.starts
          (λ items later. fit_next c.args.policy.now block c.loop-at.at _ _ _ items later c.loop-at-test.true starts
          (item_here block _ _ _ c.loop-at.invariant.inside starts) (sym c.fits_all.ensures ∙ c.if-not-fits_all.false))
          c.loop-at.invariant.left;
    }

pub returns-then-not-fits_all : goal.returns-then-not-fits_all
returns-then-not-fits_all c =
    let block : List ℕ = c.args.block.now in
    let starts = c.nlp_attrs_next-result.ensures.item c.if-result-ne-OK.false in
    let size = length-drop c.loop-at.at block in
    let stops =
    left_next _ _ _ _ (Fit c.args.policy.now block c.loop-at.at) (IsBad c.args.policy.now block c.nlp_attrs_next-result.new.item)
    (omega (arith, size)) starts.starts
    (λ items later. fit_stops c.args.policy.now block c.loop-at.at _ _ items later (item_here block _ _ _ c.loop-at.invariant.inside starts)
    (sym c.fits_all.ensures ∙ c.if-not-fits_all.true))
    c.loop-at.invariant.left in
    record {
      validates = λ all end walk.
          validates_bad _ _ end c.nlp_attrs_next-result.new.item _ _ _ _ _ (stops all end walk).2 refl (sym starts.offset)
          (c.nlp_attrs_next-result.ensures.unfaulted (inl c.if-result-ne-OK.false) ∙ c.loop-at.invariant.unfaulted);
    }

pub returns-then-result-ne-OK : goal.returns-then-result-ne-OK
returns-then-result-ne-OK c =
    let block : List ℕ = c.args.block.now in
    let goes_on = c.nlp_attrs_next-result.ensures.end in
    let refuses = c.nlp_attrs_next-result.ensures.refuses c.if-result-ne-OK.true
    (λ ended. omega (arith, goes_on.0 ended, c.loop-at-test.true)) in
    let some : drop c.loop-at.at block ≢ [] = (λ none.
    let none_left = ap length none in
    let size = length-drop c.loop-at.at block in
    omega (arith, c.loop-at-test.true)) in
    record {
      validates = λ all end walk.
          let known = left_fault _ _ refuses.0.0 (Fit c.args.policy.now block c.loop-at.at) some refuses.0.1 c.loop-at.invariant.left all end walk in
          validates_fault _ _ end refuses.0.0 _ _ _ _ _ known.1.0 known.0 refuses.0.2 (sym (known.1.1 c.loop-at-test.true)) refuses.0.3;
    }

pub returns : goal.returns
returns c = record {
  validates = λ all end walk.
      let known = left_end _ _ (Fit c.args.policy.now c.args.block.now c.loop-at.at) (drop_all c.loop-at.at c.args.block.now c.loop-at-test.false)
      c.loop-at.invariant.left all end walk in
      validates_all _ _ end _ _ _ _ _ known.1.0 known.0 refl c.loop-at.invariant.kept c.loop-at.invariant.unfaulted;
}
