-- Encapsulation by XFRM (linux/lwtunnel.h).
use Rattle.std.specs.Prelude.{ℕ, ◌≡◌, List, [], ◌∷◌, codes}
use Rattle.netlink_family.specs.Finding.{shape_at}
use Rattle.netlink_family.specs.declared.block_view.BlockView.{BlockView}
use Rattle.netlink_family.specs.declared.shape.Shape.TheVariants.{U32}
use Rattle.netlink_names.specs.Device.{device_part}
use Rattle.netlink_names.specs.declared.device.Known.{Known}
use Rattle.netlink_route.specs.declared.encapsulations.TheConstants.{LWT_XFRM_IF_ID, LWT_XFRM_LINK}
use Rattle.netlink_words.specs.Parts.{number_part}
use Rattle.netlink_route_lines.specs.Values.{number_of}

-- the id of an interface, and the link
unfoldable pub xfrm_parts : List Known → List ℕ → List (List ℕ)
xfrm_parts known block =
    number_part (codes "if_id") (number_of block LWT_XFRM_IF_ID)
    ∷ device_part known (codes "link_dev") (number_of block LWT_XFRM_LINK) ∷ []

-- a view of the values of this type
abbrev pub IsXfrm : BlockView → Type 0
IsXfrm view = (shape_at view LWT_XFRM_IF_ID ≡ U32) × (shape_at view LWT_XFRM_LINK ≡ U32)
