-- Labels of MPLS (linux/mpls.h).
use Rattle.std.specs.Prelude.{ℕ, ◌==◌, ◌+◌, ◌*◌, ◌/◌, ◌%◌, List, [], ◌∷◌, Option, Some, None, codes, decimal, if◌then◌else◌}
use Rattle.netlink_words.specs.Parts.{keyed, prefix_of}
use Rattle.netlink_words.specs.Text.{separated}

-- a label: the upper 20 bits of 4 bytes
abbrev pub label_of : ℕ → ℕ → ℕ → ℕ
label_of high middle low = high * 4096 + middle * 16 + low / 16

-- a text, followed by a label
abbrev pub with_label : List ℕ → ℕ → List ℕ
with_label text label = separated (codes "/") text (decimal label)

-- a text, followed by labels up to the bottom of the stack, which has the bit 0x100, or up to the end
unfoldable pub with_labels : List ℕ → List ℕ → List ℕ
with_labels text [] = text
with_labels text (high ∷ []) = text
with_labels text (high ∷ middle ∷ []) = text
with_labels text (high ∷ middle ∷ low ∷ []) = text
with_labels text (high ∷ middle ∷ low ∷ ttl ∷ rest) =
    if low % 2 == 1 then with_label text (label_of high middle low)
    else with_labels (with_label text (label_of high middle low)) rest

unfoldable pub labels_text : List ℕ → List ℕ
labels_text bytes = with_labels [] bytes

abbrev pub label_or_default : List ℕ → List ℕ
label_or_default [] = codes "default"
label_or_default (b ∷ word) = b ∷ word

-- the labels of a destination, and its length unless that is the length of a label
unfoldable pub label_target : List ℕ → ℕ → List ℕ
label_target labels size = label_or_default (prefix_of (labels_text labels) size 20)

-- the labels that replace that of the destination of a route, if it is one of MPLS
unfoldable pub new_labels : ℕ → List ℕ → List ℕ
new_labels family labels = if family == 28 then keyed (codes "as to") (labels_text labels) else []

-- whether the time to live goes on in the IP header
abbrev pub propagation_text : ℕ → List ℕ
propagation_text n = if n == 0 then codes "ttl-propogate disabled" else codes "ttl-propogate enabled"

unfoldable pub propagation_part : Option ℕ → List ℕ
propagation_part None = []
propagation_part (Some n) = propagation_text n
