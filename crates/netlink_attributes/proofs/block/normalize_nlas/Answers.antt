use Rattle.std.proofs.Common.{Global, List, None, Some, Err, Ok, Result, Vec, ap, inr, refl, ℕ}
use Rattle.netlink_bytes.specs.declared.error.DecodeError.{DecodeError}
use Rattle.netlink_attributes.specs.Attribute.{Attribute}
use Rattle.netlink_attributes.specs.Walk.{Walk}
use Rattle.netlink_attributes.proofs.NormalLemmas.{IsNormalized, no_fault, same_fault, no_canonical_fault, empty_canonical, normalized_copied, normalized_ok, normalized_err, normalized_writes, normalized_fixed, normalized_canonical, normalized_unchanged}
use Rattle.netlink_attributes.proofs.block.normalize_nlas.Goals as goal

pub returns-then-is_canonical_nlas : goal.returns-then-is_canonical_nlas
returns-then-is_canonical_nlas c =
    let bytes : List ℕ = c.args.bytes.now in
    let result : Result (Vec ℕ Global) DecodeError = Ok c.in_ok-copy_of.field-0 in
    let canonical = c.is_canonical_nlas.ensures.canonical.0 c.if-is_canonical_nlas.true in
    let answer : IsNormalized bytes result = normalized_copied bytes result canonical c.in_ok-copy_of.ensures.same tt in
    record {
      ok = normalized_ok bytes result answer;
      err = normalized_err bytes result answer;
      writes = normalized_writes bytes result answer;
      fault = λ all fault walk. absurd (no_canonical_fault _ all fault walk canonical);
      empty = λ none. refl;
      fixed = normalized_fixed bytes result answer;
      canonical = normalized_canonical bytes result answer;
      unchanged = normalized_unchanged bytes result answer;
    }

pub returns-in_err-copy_of-clause-fault : goal.returns-in_err-copy_of-clause-fault
returns-in_err-copy_of-clause-fault c = λ all fault walk.
    absurd (no_canonical_fault _ all fault walk (c.is_canonical_nlas.ensures.canonical.0 c.if-is_canonical_nlas.true))

pub returns-in-Some : goal.returns-in-Some
returns-in-Some c =
    let bytes : List ℕ = c.args.bytes.now in
    let known : (all : List Attribute) × Walk bytes all (Some c.in-Some.fault) = rw c.in-Some.is at c.nlas_fault.ensures.fault in
    let result : Result (Vec ℕ Global) DecodeError = Err c.in-Some.fault in
    let answer : IsNormalized bytes result = inr known in
    record {
      ok = normalized_ok bytes result answer;
      err = normalized_err bytes result answer;
      writes = normalized_writes bytes result answer;
      fault = λ all fault walk. ap Err (same_fault bytes known.0 all c.in-Some.fault fault known.1 walk);
      empty = λ none. absurd (no_canonical_fault bytes known.0 c.in-Some.fault known.1 (empty_canonical bytes none));
      fixed = normalized_fixed bytes result answer;
      canonical = normalized_canonical bytes result answer;
      unchanged = normalized_unchanged bytes result answer;
    }

pub returns-in-None : goal.returns-in-None
returns-in-None c =
    let bytes : List ℕ = c.args.bytes.now in
    let answer = c.rewritten.ensures in
    let known : (all : List Attribute) × Walk bytes all None = rw c.in-None.is at c.nlas_fault.ensures.fault in
    record {
      ok = normalized_ok _ _ answer;
      err = normalized_err _ _ answer;
      writes = normalized_writes _ _ answer;
      fault = λ all fault walk. absurd (no_fault bytes known.0 all fault known.1 walk);
      empty =
          λ none. absurd (let yes = c.is_canonical_nlas.ensures.canonical.1 (empty_canonical _ none) in
          let no = c.if-is_canonical_nlas.false in cc);
      fixed = normalized_fixed _ _ answer;
      canonical = normalized_canonical _ _ answer;
      unchanged = normalized_unchanged _ _ answer;
    }
