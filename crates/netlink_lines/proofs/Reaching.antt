-- The blocks at the start of an input leave one section.
use Rattle.std.proofs.Common.{◌≡◌, ◌<◌, ◌≤◌, ◌∙◌, refl, ℕ, List, [], ◌∷◌, ◌++◌, Result, Ok, drop, length, ap, sym, subst, arith, length-drop}
use Rattle.netlink_input.specs.Block.{start}
use Rattle.netlink_input.specs.BlockLaws.{head_least, block_head}
use Rattle.netlink_input.specs.Blocks.{PassesBlocks, Reaches, block_in}
use Rattle.netlink_input.specs.declared.block.Block.{Block}
use Rattle.netlink_input.specs.declared.block.Section.{Section}
use Rattle.netlink_input.specs.declared.pcap.PcapFault.{PcapFault}

-- one more
pub passes_push : (first : Section) (bytes : List ℕ) (done : List Block) (section : Section) (rest : List ℕ) (block : Block)
    → PassesBlocks first bytes done section rest → 0 < block.size → block_in section rest ≡ Ok block
    → PassesBlocks first bytes (done ++ (block ∷ [])) block.section (drop block.size rest)
passes_push first bytes [] section rest block (same, all) some is = (
  some,
  ap (λ (s : Section). block_in s bytes) same ∙ ap (block_in section) all ∙ is,
  (refl, ap (drop block.size) all),
)
passes_push first bytes (one ∷ done) section rest block (least, here, passed) some is =
    (least, here, passes_push one.section (drop one.size bytes) done section rest block passed some is)

-- fewer bytes are left
passes_less : (first : Section) (bytes : List ℕ) (done : List Block) (section : Section) (rest : List ℕ)
    → PassesBlocks first bytes done section rest → length rest ≤ length bytes
passes_less first bytes [] section rest (same, all) = omega (arith, ap length all)
passes_less first bytes (one ∷ done) section rest (least, here, passed) =
    let less = passes_less one.section (drop one.size bytes) done section rest passed in
    omega (arith, less, length-drop one.size bytes)

none_left : (first : Section) (bytes : List ℕ) (one : Block) (done : List Block) (section : Section)
    → PassesBlocks first bytes (one ∷ done) section bytes → ⊥
none_left first bytes one done section (least, here, passed) =
    let less = passes_less one.section (drop one.size bytes) done section bytes passed in
    let some = block_head first bytes one here in
    omega (arith, least, less, length-drop one.size bytes, some, head_least first.order bytes)

pub ok_same : (found : Result Block PcapFault) (one other : Block) → found ≡ Ok one → found ≡ Ok other → one ≡ other
ok_same found one other is that = cc

passes_once : (first : Section) (bytes : List ℕ) (done more : List Block) (section other : Section) (rest : List ℕ)
    → PassesBlocks first bytes done section rest → PassesBlocks first bytes more other rest → section ≡ other
passes_once first bytes [] [] section other rest (same, all) (that, also) = sym same ∙ that
passes_once first bytes [] (one ∷ more) section other rest (same, all) passed =
    absurd (none_left first bytes one more other (subst (PassesBlocks first bytes (one ∷ more) other) (sym all) passed))
passes_once first bytes (one ∷ done) [] section other rest passed (that, also) =
    absurd (none_left first bytes one done section (subst (PassesBlocks first bytes (one ∷ done) section) (sym also) passed))
passes_once first bytes (one ∷ done) (two ∷ more) section other rest (least, here, passed) (some, there, also) =
    let same : one ≡ two = ok_same (block_in first bytes) one two here there in
    passes_once two.section (drop two.size bytes) done more section other rest
    (subst (λ (b : Block). PassesBlocks b.section (drop b.size bytes) done section rest) same passed) also

pub reaches_once : (input rest : List ℕ) (one other : Section) → Reaches input rest one → Reaches input rest other → one ≡ other
reaches_once input rest one other (done, passed) (more, also) =
    passes_once start input done more one other rest passed also
