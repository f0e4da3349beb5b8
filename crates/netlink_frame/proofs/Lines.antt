-- What has been appended so far, part by part.
use Rattle.std.proofs.Common.{◌≡◌, ℕ, List, [], ◌∷◌, ◌++◌, length, ap, ◌∙◌, append_assoc}
use Rattle.std.specs.Prelude.{decimal}
use Rattle.netlink_packet_core.specs.Attribute.{Attribute}
use Rattle.netlink_packet_core.specs.Text.{hex_text}
use Rattle.netlink_frame.specs.Lines.{kind_text, nla_line}

-- the parts of an attribute's line, appended one after another
line_joins : (t0 t1 t2 t3 t4 kind size value : List ℕ) → t1 ≡ t0 ++ kind → t2 ≡ t1 ++ (32 ∷ (size ++ (32 ∷ []))) → t3 ≡ t2 ++ value
    → t4 ≡ t3 ++ (10 ∷ [])
    → t4 ≡ t0 ++ (kind ++ (32 ∷ (size ++ (32 ∷ (value ++ (10 ∷ []))))))
line_joins t0 t1 t2 t3 t4 kind size value first second third fourth =
    fourth ∙ ap (λ (t : List ℕ). t ++ (10 ∷ []))
    (third ∙ ap (λ (t : List ℕ). t ++ value) (second ∙ ap (λ (t : List ℕ). t ++ (32 ∷ (size ++ (32 ∷ [])))) first))
    ∙ simp append_assoc

-- an attribute's line, appended in these parts
pub line_added : (t0 t1 t2 t3 t4 value : List ℕ) (a : Attribute) (kind : ℕ) → t1 ≡ t0 ++ kind_text kind
    → t2 ≡ t1 ++ (32 ∷ (decimal (length value) ++ (32 ∷ [])))
    → t3 ≡ t2 ++ hex_text value → t4 ≡ t3 ++ (10 ∷ []) → kind ≡ a.kind → value ≡ a.value → t4 ≡ t0 ++ nla_line a
line_added t0 t1 t2 t3 t4 value a kind first second third fourth same_kind same_value =
    line_joins t0 t1 t2 t3 t4 (kind_text kind) (decimal (length value)) (hex_text value) first second third fourth
    ∙ ap (λ (k : ℕ). t0 ++ nla_line (record { kind = k; value = value })) same_kind
    ∙ ap (λ (v : List ℕ). t0 ++ nla_line (record { kind = a.kind; value = v })) same_value

-- a name and bytes, appended one after another
pub name_joins : (t0 t1 t2 name bytes : List ℕ) → t1 ≡ t0 ++ name → t2 ≡ t1 ++ bytes → t2 ≡ t0 ++ (name ++ bytes)
name_joins t0 t1 t2 name bytes first second = second ∙ ap (λ (t : List ℕ). t ++ bytes) first ∙ append_assoc t0 name bytes

-- the same with a code between them
pub code_joins : (t0 t1 t2 name code bytes : List ℕ) → t1 ≡ t0 ++ (name ++ (code ++ (32 ∷ []))) → t2 ≡ t1 ++ bytes
    → t2 ≡ t0 ++ (name ++ (code ++ (32 ∷ bytes)))
code_joins t0 t1 t2 name code bytes first second = second ∙ ap (λ (t : List ℕ). t ++ bytes) first ∙ simp append_assoc

-- the lines of a header, and then the parts of the last line
pub message_joins : (t1 t2 t3 t4 header name words end : List ℕ) → t1 ≡ header → t2 ≡ t1 ++ name → t3 ≡ t2 ++ words → t4 ≡ t3 ++ end
    → t4 ≡ header ++ (name ++ (words ++ end))
message_joins t1 t2 t3 t4 header name words end first second third fourth =
    fourth ∙ ap (λ (t : List ℕ). t ++ end) (third ∙ ap (λ (t : List ℕ). t ++ words) (second ∙ ap (λ (t : List ℕ). t ++ name) first))
    ∙ append_assoc (header ++ name) words end ∙ append_assoc header name (words ++ end)
