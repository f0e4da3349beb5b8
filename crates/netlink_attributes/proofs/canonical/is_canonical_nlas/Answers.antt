use Rattle.std.proofs.Common.{ap, Bor, List, ℕ, IsTrue}
use Rattle.netlink_attributes.specs.ZeroPadding.{canonical_cons, same_zeros}
use Rattle.netlink_attributes.proofs.Canonicals.{canonical_fault, canonical_rest}
use Rattle.netlink_attributes.proofs.canonical.is_canonical_nlas.Goals as goal

pub returns-then-not-is_zero_padded : goal.returns-then-not-is_zero_padded
returns-then-not-is_zero_padded c =
    let step = rw c.in-Ok.is at c.in-Some.ensures.steps in
    let zeros = same_zeros _ _ _ _ step.0 (ap (λ (x : Bor (List ℕ)). x.now) c.into_inner.ensures.keeps) c.length-size.ensures.number in
    let told = c.is_zero_padded.ensures in
    let tested = c.if-not-is_zero_padded.true in
    record {
      canonical = (
        λ yes. cc,
        λ canonical.
            let yes = told.1 (zeros.1 (canonical_rest _ _ _ step.2 (c.loop-item.invariant.0 canonical)).1) in cc,
      );
    }

pub loop-item-preserved : goal.loop-item-preserved
loop-item-preserved c =
    let step = rw c.in-Ok.is at c.in-Some.ensures.steps in
    let zeros = same_zeros _ _ _ _ step.0 (ap (λ (x : Bor (List ℕ)). x.now) c.into_inner.ensures.keeps) c.length-size.ensures.number in
    let told = c.is_zero_padded.ensures in
    let tested = c.if-not-is_zero_padded.false in
    let yes : IsTrue c.is_zero_padded.result = tested in (
      λ canonical. (canonical_rest _ _ _ step.2 (c.loop-item.invariant.0 canonical)).0,
      λ canonical. c.loop-item.invariant.1 (canonical_cons _ _ _ step.2 (zeros.0 (told.0 yes)) canonical),
    )

pub returns-in-Err : goal.returns-in-Err
returns-in-Err c =
    let step = rw c.in-Err.is at c.in-Some.ensures.steps in
    record { canonical = (λ yes. cc, λ canonical. absurd (canonical_fault _ _ step.0 step.1 (c.loop-item.invariant.0 canonical))) }
