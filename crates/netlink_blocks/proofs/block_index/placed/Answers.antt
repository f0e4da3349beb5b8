use Rattle.std.proofs.Common.{◌≡◌, ◌∙◌, ◌<◌, ℕ, List, ap, arith, drop, drop-drop, length-drop, refl, slice_index, subst, sym}
use Rattle.std.proofs.lemmas.List.{get_or-replicate}
use Rattle.netlink_attributes.specs.Views.{attribute_of, length_field, masked, raw_kind}
use Rattle.netlink_shapes.specs.Whole.{IsWhole}
use Rattle.netlink_blocks.proofs.Indexing.{place_next}
use Rattle.netlink_shapes.specs.WholeWalks.{whole_next}
use Rattle.netlink_blocks.proofs.block_index.placed.Goals as goal

pub loop-at-init : goal.loop-at-init
loop-at-init c = record {
  whole = c.requires.whole;
  multiple = refl;
  size = refl;
  places = λ kind below. let zero = get_or-replicate {A = ℕ} 64 kind 0 0 below in (
    λ none. refl,
    λ some. let wrong : 0 < 0 = subst (λ (n : ℕ). 0 < n) zero some in absurd (omega arith),
  );
}

pub loop-at-preserved : goal.loop-at-preserved
loop-at-preserved c =
    let block : List ℕ = c.args.block.now in
    let at : ℕ = c.loop-at.at in
    let bytes : List ℕ = drop at block in
    let left = length-drop at block in
    let end : ℕ = c.nla_align-at.result in
    let size : c.length.result ≡ length_field bytes =
    c.length.ensures.number ∙ ap length_field c.attribute_at-nla.ensures.bytes in
    let least = c.nla_align-at.ensures.least in
    let next =
    whole_next bytes end (omega (arith, left, c.loop-at-test.true)) c.loop-at.invariant.whole c.nla_align-at.ensures.multiple
    (omega (arith, size, least)) (omega (arith, size, least)) in
    let own : masked (attribute_of bytes).kind ≡ c.kind.result =
    ap (λ (b : List ℕ). masked (raw_kind b)) (sym c.attribute_at-nla.ensures.bytes) ∙ sym c.kind.ensures.number in
    let multiple = c.nla_align-at.ensures.multiple in
    let before = c.loop-at.invariant.multiple in record {
      whole = subst IsWhole (drop-drop end at block) next.whole;
      multiple = omega arith;
      size = c.enter.array_long;
      places = λ kind below.
          place_next block at end kind c.kind.result (slice_index c.loop-at.places kind) (slice_index c.enter.new.places kind)
          (record {
            inside = c.loop-at-test.true;
            whole = c.loop-at.invariant.whole;
            next = next;
            multiple = before;
            is = own;
            others = c.enter.ensures.others kind;
            kept = c.enter.ensures.kept kind;
            fresh = λ same none.
                ap (λ (k : ℕ). slice_index c.enter.new.places k) same
                ∙ c.enter.ensures.own (subst (λ (k : ℕ). k < 64) same below)
                (ap (λ (k : ℕ). slice_index c.loop-at.places k) (sym same) ∙ none);
          }) (c.loop-at.invariant.places kind below);
    }
