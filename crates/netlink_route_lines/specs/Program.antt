-- Programs of encapsulations (linux/lwtunnel.h).
use Rattle.std.specs.Prelude.{ℕ, ◌≡◌, List, [], ◌∷◌, ◌++◌, Option, Some, None, codes, decimal}
use Rattle.std.specs.Option.{option_map}
use Rattle.netlink_family.specs.Finding.{found_in, shape_at}
use Rattle.netlink_family.specs.Strings.{until_nul}
use Rattle.netlink_family.specs.declared.block_view.BlockView.{BlockView}
use Rattle.netlink_family.specs.declared.shape.Shape.TheVariants.{Str}
use Rattle.netlink_family.specs.Shapes.{Row, rows_in}
use Rattle.netlink_route.specs.declared.encapsulations.TheConstants.{BPF, LWT_BPF_IN, LWT_BPF_OUT, LWT_BPF_PROG_NAME, LWT_BPF_XMIT, LWT_BPF_XMIT_HEADROOM}
use Rattle.netlink_words.specs.Parts.{or_empty}
use Rattle.netlink_words.specs.Text.{name_text}
use Rattle.netlink_route_lines.specs.Values.{number_of}

-- the name of a program by its attributes; empty if it has none
abbrev pub program_name : List ℕ → List ℕ
program_name block = or_empty (option_map until_nul (found_in block LWT_BPF_PROG_NAME))

-- a key, and the name of a program
unfoldable pub program_parts : List ℕ → List ℕ → List (List ℕ)
program_parts key block = key ∷ name_text (program_name block) ∷ []

-- the same for a program that may be missing
unfoldable pub found_program : List ℕ → Option (List ℕ) → List (List ℕ)
found_program key None = []
found_program key (Some block) = program_parts key block

-- the room before a packet
unfoldable pub headroom_part : Option ℕ → List ℕ
headroom_part None = []
headroom_part (Some n) = decimal n

-- the programs for packets that come in, that go out and that are sent, and the room
unfoldable pub bpf_parts : List ℕ → List (List ℕ)
bpf_parts block =
    found_program (codes "in") (found_in block LWT_BPF_IN)
    ++ (found_program (codes "out") (found_in block LWT_BPF_OUT)
    ++ (found_program (codes "xmit") (found_in block LWT_BPF_XMIT)
    ++ (headroom_part (number_of block LWT_BPF_XMIT_HEADROOM) ∷ [])))

-- a view of the values of this type, by the rows of the table of routes
abbrev pub IsBpf : List Row → BlockView → Type 0
IsBpf rows view = (rows_in view.rows.list.now ≡ rows) × (view.policy ≡ BPF)

-- a view of the attributes of a program
abbrev pub IsProgram : BlockView → Type 0
IsProgram view = shape_at view LWT_BPF_PROG_NAME ≡ Str
