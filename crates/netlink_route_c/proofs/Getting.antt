-- What the getters of parts and of nests write.
use Rattle.std.proofs.Common.{◌≡◌, ℕ, ◌+◌, ◌≤◌, Bool, true, false, List, length, take, refl, ap, sym, subst, ◌∙◌, arith, Option, None, Some}
use Rattle.std.proofs.lemmas.Bool.{leb-true}
use Rattle.std.specs.Prelude.{◌≢◌, if◌then◌else◌}
use Rattle.netlink_family.specs.Finding.{nest_by, policy_by, str_by}
use Rattle.netlink_family.specs.Shapes.{has_shape, nest_block, nest_of, nest_start}
use Rattle.netlink_family.specs.declared.family.Table.{Ghosts}
use Rattle.netlink_family.specs.declared.shape.Shape.{Shape}
use Rattle.netlink_family.specs.declared.shape.Shape.TheVariants.{Flag, U8, U16, U32, U64, I32, I64, Be16, Be32, Be64, BeI32, ExactLen, Ip, NulStr, Str, MinLen, Elements, Nested, HeaderNested, Chosen, ChosenByNumber, Bytes}
use Rattle.netlink_route_c.proofs.Places.{nest_part, part_size, part_taken}
use Rattle.netlink_route_c.proofs.Shaped.{nest_is_view}
use Rattle.netlink_route_c.specs.Gets.{Gets, GetsNest, GetsPart, absent_result, found_result, get_result, nest_view}
use Rattle.netlink_route_c.specs.Views.{IsViewOf, block_of, found_of, part_of, shape_of}
use Rattle.netlink_route_c.specs.declared.view.Part.{Part}
use Rattle.netlink_route_c.specs.declared.view.View.{View}

-- a getter that makes something of the shape and of the value returns 0
gets_zero : {X : Type 0} (by : Shape → Option (List ℕ) → Option X) (here shape : Shape) (found : Option (List ℕ)) (value : List ℕ) (x : X)
    → shape ≡ here → found ≡ Some value → has_shape shape value ≡ true → by shape (Some value) ≡ Some x
    → 0 ≡ get_result here found (by here found)
gets_zero by here shape found value x same is fits gives =
    sym (ap (λ (s : Shape). get_result s found (by s found)) (sym same)
    ∙ ap (λ (f : Option (List ℕ)). get_result shape f (by shape f)) is
    ∙ ap (λ (b : Bool). if b then found_result (by shape (Some value)) else 36) fits
    ∙ ap found_result gives)

gets_it : {X : Type 0} (by : Shape → Option (List ℕ) → Option X) (here shape : Shape) (found : Option (List ℕ)) (value : List ℕ) (x : X)
    → shape ≡ here → found ≡ Some value → by shape (Some value) ≡ Some x → by here found ≡ Some x
gets_it by here shape found value x same is gives =
    ap (λ (s : Shape). by s found) (sym same) ∙ ap (by shape) is ∙ gives

-- a getter returns a number other than 0 for an attribute that is absent or does not have its shape
unfitting : {X : Type 0} (fits : Bool) (got : Option X) (n : ℕ) → n ≡ (if fits then 0 else 36) → n ≢ 0
    → n ≡ (if fits then found_result got else 36)
unfitting true got n is some = absurd (some is)
unfitting false got n is some = is

absent_answers : {X : Type 0} (shape : Shape) (found : Option (List ℕ)) (got : Option X) (n : ℕ)
    → n ≡ absent_result shape found → n ≢ 0 → n ≡ get_result shape found got
absent_answers shape None got n is some = is
absent_answers shape (Some value) got n is some = unfitting (has_shape shape value) got n is some

pub absent_gets : {F X : Type 0} (table : Ghosts F) (by : Shape → Option (List ℕ) → Option X) (payload : List ℕ) (view : View)
    (kind : ℕ) (old : X) (n : ℕ) → n ≡ absent_result (shape_of table payload view kind) (found_of payload view kind)
    → n ≢ 0 → (IsViewOf table payload view → n ≢ 36) → Gets table by payload view kind old old n
absent_gets table by payload view kind old n is some shaped = record {
  answers =
      absent_answers (shape_of table payload view kind) (found_of payload view kind)
      (by (shape_of table payload view kind) (found_of payload view kind)) n is some;
  written = λ zero. absurd (some zero);
  unchanged = λ _. refl;
  shaped = shaped;
}

-- the same, of a getter that writes where the bytes are
pub absent_gets_part : {F : Type 0} (table : Ghosts F) (by : Shape → Option (List ℕ) → Option (List ℕ)) (payload : List ℕ) (view : View)
    (kind : ℕ) (old : Part) (n : ℕ) → n ≡ absent_result (shape_of table payload view kind) (found_of payload view kind)
    → n ≢ 0 → (IsViewOf table payload view → n ≢ 36) → GetsPart table by payload view kind old old n
absent_gets_part table by payload view kind old n is some shaped = record {
  answers =
      absent_answers (shape_of table payload view kind) (found_of payload view kind)
      (by (shape_of table payload view kind) (found_of payload view kind)) n is some;
  written = λ zero. absurd (some zero);
  inside = λ zero. absurd (some zero);
  unchanged = λ _. refl;
  shaped = shaped;
}

-- the same, of the getter of a nest
pub absent_nest : {F : Type 0} (table : Ghosts F) (payload : List ℕ) (view : View) (kind : ℕ) (old : View) (n : ℕ)
    → n ≡ absent_result (shape_of table payload view kind) (found_of payload view kind)
    → n ≢ 0 → (IsViewOf table payload view → n ≢ 36) → GetsNest table payload view kind old old n
absent_nest table payload view kind old n is some shaped = record {
  answers =
      absent_answers (shape_of table payload view kind) (found_of payload view kind)
      (nest_by (shape_of table payload view kind) (found_of payload view kind)) n is some;
  written = λ zero. absurd (some zero);
  nest = λ zero. absurd (some zero);
  unchanged = λ _. refl;
  shaped = shaped;
  again = λ _ zero. absurd (some zero);
}

-- the first bytes of the value
pub text_gets : {F : Type 0} (table : Ghosts F) (payload : List ℕ) (view : View) (kind : ℕ) (old : Part) (shape : Shape) (part : Part)
    (value : List ℕ) (n : ℕ) → shape ≡ shape_of table payload view kind → found_of payload view kind ≡ Some value
    → value ≡ part_of part payload → part.offset + part.size ≤ length payload → has_shape shape value ≡ true
    → str_by shape (Some value) ≡ Some (take n value) → n ≤ length value
    → GetsPart table str_by payload view kind old (record { offset = part.offset; size = n }) 0
text_gets table payload view kind old shape part value n same found is inside fits gives short =
    let whole = ap length is ∙ part_size part payload inside in
    let small : n ≤ part.size = omega arith in
    record {
      answers = gets_zero str_by (shape_of table payload view kind) shape (found_of payload view kind) value (take n value) same found fits gives;
      written = λ _. gets_it str_by (shape_of table payload view kind) shape (found_of payload view kind) value (take n value) same found gives
          ∙ ap Some (ap (take n) is ∙ part_taken payload part n small);
      inside = λ _. (let end : part.offset + n ≤ length payload = omega arith in end);
      unchanged = λ other. absurd (other refl);
      shaped = λ _ same_number. absurd (omega arith);
    }

-- ---- nests

nest_here : (shape : Shape) (policy : ℕ) (value : List ℕ) → nest_of shape ≡ Some policy
    → nest_by shape (Some value) ≡ Some (nest_block shape value)
nest_here (Nested p) policy value is = refl
nest_here (HeaderNested size p) policy value is = refl
nest_here Flag policy value is = absurd (cc)
nest_here U8 policy value is = absurd (cc)
nest_here U16 policy value is = absurd (cc)
nest_here U32 policy value is = absurd (cc)
nest_here U64 policy value is = absurd (cc)
nest_here I32 policy value is = absurd (cc)
nest_here I64 policy value is = absurd (cc)
nest_here Be16 policy value is = absurd (cc)
nest_here Be32 policy value is = absurd (cc)
nest_here Be64 policy value is = absurd (cc)
nest_here BeI32 policy value is = absurd (cc)
nest_here (ExactLen size) policy value is = absurd (cc)
nest_here Ip policy value is = absurd (cc)
nest_here NulStr policy value is = absurd (cc)
nest_here Str policy value is = absurd (cc)
nest_here (MinLen size) policy value is = absurd (cc)
nest_here (Elements size) policy value is = absurd (cc)
nest_here (Chosen by p) policy value is = absurd (cc)
nest_here (ChosenByNumber by p) policy value is = absurd (cc)
nest_here Bytes policy value is = absurd (cc)

-- a value that has its shape has the header of its nest
pub start_fits : (shape : Shape) (value : List ℕ) → has_shape shape value ≡ true → nest_start shape ≤ length value
start_fits (HeaderNested size p) value fits = leb-true size (length value) fits
start_fits Flag value fits = omega arith
start_fits U8 value fits = omega arith
start_fits U16 value fits = omega arith
start_fits U32 value fits = omega arith
start_fits U64 value fits = omega arith
start_fits I32 value fits = omega arith
start_fits I64 value fits = omega arith
start_fits Be16 value fits = omega arith
start_fits Be32 value fits = omega arith
start_fits Be64 value fits = omega arith
start_fits BeI32 value fits = omega arith
start_fits (ExactLen size) value fits = omega arith
start_fits Ip value fits = omega arith
start_fits NulStr value fits = omega arith
start_fits Str value fits = omega arith
start_fits (MinLen size) value fits = omega arith
start_fits (Elements size) value fits = omega arith
start_fits (Nested p) value fits = omega arith
start_fits (Chosen by p) value fits = omega arith
start_fits (ChosenByNumber by p) value fits = omega arith
start_fits Bytes value fits = omega arith

-- and so has the part of a payload that is such a value
pub start_in : (payload : List ℕ) (shape : Shape) (part : Part) (value : List ℕ) → value ≡ part_of part payload
    → part.offset + part.size ≤ length payload → has_shape shape value ≡ true → nest_start shape ≤ part.size
start_in payload shape part value is inside fits =
    let whole = ap length is ∙ part_size part payload inside in
    let least = start_fits shape value fits in
    omega arith

policy_here : (shape : Shape) (policy : ℕ) → nest_of shape ≡ Some policy → policy_by shape ≡ policy
policy_here shape policy is = grind arith

pub nest_gets : {F : Type 0} (table : Ghosts F) (payload : List ℕ) (view : View) (kind : ℕ) (old new : View) (shape : Shape) (part : Part)
    (value : List ℕ) (policy : ℕ) → shape ≡ shape_of table payload view kind → found_of payload view kind ≡ Some value
    → value ≡ part_of part payload → part.offset + part.size ≤ length payload → has_shape shape value ≡ true
    → Some policy ≡ nest_of shape → new ≡ nest_view view.message_type policy shape part
    → GetsNest table payload view kind old new 0
nest_gets table payload view kind old new shape part value policy same found is inside fits nests made =
    let starts = start_in payload shape part value is inside fits in
    let gives : nest_by shape (Some value) ≡ Some (nest_block shape value) = nest_here shape policy value (sym nests) in
    let there : found_of payload view kind ≡ Some (part_of part payload) = found ∙ ap Some is in
    let block : nest_block shape value ≡ block_of payload new =
    ap (nest_block shape) is ∙ nest_part payload part.offset part.size (nest_start shape) starts
    ∙ ap (block_of payload) (sym made) in
    record {
      answers = gets_zero nest_by (shape_of table payload view kind) shape (found_of payload view kind) value (nest_block shape value) same found fits gives;
      written = λ _. (
        part,
        there,
        inside,
        made ∙ ap (λ (p : ℕ). nest_view view.message_type p shape part) (sym (policy_here shape policy (sym nests)))
            ∙ ap (λ (s : Shape). nest_view view.message_type (policy_by s) s part) same,
      );
      nest = λ _. gets_it nest_by (shape_of table payload view kind) shape (found_of payload view kind) value (nest_block shape value) same found gives
          ∙ ap Some block;
      unchanged = λ other. absurd (other refl);
      shaped = λ _ same_number. absurd (omega arith);
      again = λ of _. subst (λ (v : View). IsViewOf table payload v) (sym made)
          (nest_is_view table payload view kind policy shape part same there inside starts (sym nests) of);
    }
