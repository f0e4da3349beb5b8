use Rattle.std.proofs.Common.{rules, ◌≡◌, ◌∙◌, ◌++◌, ◌≤◌, List, Vec, ℕ, ap, arith, drop, drop_at, length, length-append, refl, replicate}
use Rattle.std.proofs.lemmas.Grind.{common_steps}
use Rattle.netlink_c.proofs.any.AnyMessageNetlinkDeserializable.normal_frame.Goals as goal

-- a vector with other, fewer elements
abbrev with_fewer : {X H : Type 0} (v : Vec X H) (xs : List X) → length xs ≤ length v.items → Vec X H
with_fewer v xs fewer = record {
  ptr = v.ptr;
  len = length xs;
  cap = v.cap;
  alloc = v.alloc;
  items = xs;
  ok = (refl, omega (arith, fewer, v.ok.0, v.ok.1));
  small = v.small;
}

pub returns-clause-writes : goal.returns-clause-writes
returns-clause-writes c =
    let zeros : c.extend_from_slice.new.self.items ≡ replicate 16 0 = search rules in
    let text : c.extend_from_slice-2.new.self.items ≡ replicate 16 0 ++ c.args.payload.now =
    c.in_ok-extend_from_slice-2.ensures.items ∙ ap (λ (x : List ℕ). x ++ c.args.payload.now) zeros in
    let long = ap length text ∙ length-append (replicate 16 0) c.args.payload.now in
    record {
      value = record {
        kind = c.in-Some._kind;
        bytes = with_fewer c.extend_from_slice-2.new.self c.args.payload.now (omega (arith, long));
      };
      in_range = search rules;
      reads = grind (arith, common_steps);
      message_type = c.in-Some.ensures.number;
      room = omega (arith, long);
      encoded = ap (drop 16) text ∙ drop_at (replicate 16 0) c.args.payload.now 16 refl;
    }
