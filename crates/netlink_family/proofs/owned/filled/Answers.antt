use Rattle.std.proofs.Common.{◌≡◌, ◌++◌, ◌+◌, ◌∙◌, ap, length, List, ℕ}
use Rattle.netlink_family.specs.ShortLaws.{filled_from}
use Rattle.netlink_family.proofs.owned.filled.Goals as goal

pub returns : goal.returns
returns c =
    let payload : List ℕ = c.args.payload.now in
    let begun : c.extend_from_slice.new.self.items ≡ payload =
    c.in_ok-extend_from_slice.ensures.items ∙ ap (λ (x : List ℕ). x ++ payload) c.in_ok-bytes.ensures.items in
    let sized = c.in_ok-extend_from_slice.ensures.len ∙ ap (λ (k : ℕ). k + length payload) c.in_ok-bytes.ensures.len in
    filled_from c.args.size _ payload c.extend_from_slice.new.self.items c.resize.new.self.items sized c.requires.fits begun
    c.in_ok-resize.ensures.items
