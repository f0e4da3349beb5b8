-- The shape that the type of an encapsulation chooses.
use Rattle.std.proofs.Common.{◌≡◌, ◌∙◌, ◌==◌, ◌||◌, ap, refl, sym, ℕ, Bool, true, false, List, Option, Some, None, IfNone, IfSome, if◌then◌else◌}
use Rattle.std.proofs.lemmas.Bool.{eqb-true}
use Rattle.std.specs.Option.{option_map}
use Rattle.netlink_family.specs.Finding.{first_in, found_in, nest_by, policy_by, shape_at}
use Rattle.netlink_family.specs.FindingLaws.{first_fits, none_then}
use Rattle.netlink_family.specs.Listing.{first_of, listed, listed_all}
use Rattle.netlink_family.specs.NestLaws.{kind_has}
use Rattle.netlink_family.specs.Shapes.{Row, Scope, all_shaped, fits_in, has_shape, is_block_shaped, nest_levels, number_at, number_by, number_of, resolved, rows_in, shape_among, shape_in, within}
use Rattle.netlink_family.specs.declared.block_view.BlockView.{BlockView}
use Rattle.netlink_family.specs.declared.shape.Shape.{Shape}
use Rattle.netlink_family.specs.declared.shape.Shape.TheVariants.{ChosenByNumber, Nested, U16}
use Rattle.netlink_packet_core.specs.Attribute.{Attribute}
use Rattle.netlink_packet_core.specs.Numbers.{number_le}
use Rattle.netlink_packet_core.specs.Reading.{attributes_in}
use Rattle.netlink_route.specs.declared.encapsulations.TheConstants.{ENCAPSULATIONS, BPF, ILA, IOAM6, IP, IP6, MPLS, RPL, SEG6, SEG6_LOCAL, XFRM}
use Rattle.netlink_route.specs.declared.routes.TheConstants.{RTA_ENCAP, RTA_ENCAP_TYPE}
use Rattle.netlink_route_lines.specs.Encap.{IsEncap, has_values, nest_value, policy_of}

-- the first attribute of a kind has the shape of the kind
found_fits : (scope : Scope) (policy kind : ℕ) (value : List ℕ) (all : Option (List Attribute))
    → all_shaped (λ a. fits_in scope policy a.kind a.value) all ≡ true → first_in kind all ≡ Some value
    → fits_in scope policy kind value ≡ true
found_fits scope policy kind value None shaped gives = absurd (cc)
found_fits scope policy kind value (Some all) shaped gives = first_fits scope policy kind all value shaped gives

-- and it is the first one of the attributes that are listed
found_listed : (block : List ℕ) (kind : ℕ) (value : List ℕ) (all : Option (List Attribute))
    → attributes_in block ≡ all → first_in kind all ≡ Some value → first_of kind (listed block) ≡ Some value
found_listed block kind value None reads gives = absurd (cc)
found_listed block kind value (Some all) reads gives = ap (first_of kind) (listed_all block all reads) ∙ gives

-- a number of two bytes chooses the shape of another kind
chosen : (rows : List Row) (policy : ℕ) (block : List ℕ) (kind by choices n : ℕ) (found : Option (List ℕ))
    → is_block_shaped nest_levels rows policy block ≡ true → shape_in rows policy kind ≡ ChosenByNumber by choices
    → shape_in rows policy by ≡ U16 → found_in block by ≡ found → option_map number_le found ≡ Some n
    → shape_among (within rows block) policy kind ≡ number_at rows choices (Some n)
chosen rows policy block kind by choices n None shaped is type gives number = absurd (cc)
chosen rows policy block kind by choices n (Some value) shaped is type gives number =
    let scope : Scope = within rows block in
    let fit : fits_in scope policy by value ≡ true = found_fits scope policy by value (attributes_in block) shaped gives in
    let size : has_shape U16 value ≡ true =
    ap (λ (s : Shape). has_shape (resolved scope policy s) value) (sym type) ∙ kind_has scope policy by value fit in
    let read : number_of U16 value ≡ Some n =
    ap (λ (b : Bool). if b then Some (number_le value) else None) size ∙ number in
    ap (resolved scope policy) is
    ∙ ap (λ (s : Shape). number_by rows choices s (first_of by (listed block))) type
    ∙ ap (number_by rows choices U16) (found_listed block by value (attributes_in block) refl gives)
    ∙ ap (number_at rows choices) read

-- a table in which the type of an encapsulation chooses the shape of its values
abbrev pub ChoosesEncap : List Row → Type 0
ChoosesEncap table =
    (shape_in table 0 RTA_ENCAP ≡ ChosenByNumber RTA_ENCAP_TYPE ENCAPSULATIONS) × (shape_in table 0 RTA_ENCAP_TYPE ≡ U16)
    × (number_at table ENCAPSULATIONS (Some 1) ≡ Nested MPLS) × (number_at table ENCAPSULATIONS (Some 2) ≡ Nested IP)
    × (number_at table ENCAPSULATIONS (Some 3) ≡ Nested ILA) × (number_at table ENCAPSULATIONS (Some 4) ≡ Nested IP6)
    × (number_at table ENCAPSULATIONS (Some 5) ≡ Nested SEG6) × (number_at table ENCAPSULATIONS (Some 6) ≡ Nested BPF)
    × (number_at table ENCAPSULATIONS (Some 7) ≡ Nested SEG6_LOCAL) × (number_at table ENCAPSULATIONS (Some 8) ≡ Nested RPL)
    × (number_at table ENCAPSULATIONS (Some 9) ≡ Nested IOAM6) × (number_at table ENCAPSULATIONS (Some 10) ≡ Nested XFRM)

-- a shape is a nest of the policy of a type
abbrev pub IsNestOf : ℕ → Shape → Type 0
IsNestOf kind shape = (policy : ℕ) × (shape ≡ Nested policy) × (policy_of kind ≡ Some policy)

nest_by_tests : (table : List Row) (kind : ℕ) (a b c d e f g h i j : Bool)
    → (kind == 1) ≡ a → (kind == 2) ≡ b → (kind == 3) ≡ c → (kind == 4) ≡ d → (kind == 5) ≡ e
    → (kind == 6) ≡ f → (kind == 7) ≡ g → (kind == 8) ≡ h → (kind == 9) ≡ i → (kind == 10) ≡ j
    → ChoosesEncap table → (a || b || c || d || e || f || g || h || i || j) ≡ true
    → IsNestOf kind (number_at table ENCAPSULATIONS (Some kind))
nest_by_tests table kind true b c d e f g h i j one two three four five six seven eight nine ten chooses is =
    let same : kind ≡ 1 = eqb-true kind 1 one in
    (MPLS, ap (λ (n : ℕ). number_at table ENCAPSULATIONS (Some n)) same ∙ chooses.2, ap policy_of same)
nest_by_tests table kind false true c d e f g h i j one two three four five six seven eight nine ten chooses is =
    let same : kind ≡ 2 = eqb-true kind 2 two in
    (IP, ap (λ (n : ℕ). number_at table ENCAPSULATIONS (Some n)) same ∙ chooses.3, ap policy_of same)
nest_by_tests table kind false false true d e f g h i j one two three four five six seven eight nine ten chooses is =
    let same : kind ≡ 3 = eqb-true kind 3 three in
    (ILA, ap (λ (n : ℕ). number_at table ENCAPSULATIONS (Some n)) same ∙ chooses.4, ap policy_of same)
nest_by_tests table kind false false false true e f g h i j one two three four five six seven eight nine ten chooses is =
    let same : kind ≡ 4 = eqb-true kind 4 four in
    (IP6, ap (λ (n : ℕ). number_at table ENCAPSULATIONS (Some n)) same ∙ chooses.5, ap policy_of same)
nest_by_tests table kind false false false false true f g h i j one two three four five six seven eight nine ten chooses is =
    let same : kind ≡ 5 = eqb-true kind 5 five in
    (SEG6, ap (λ (n : ℕ). number_at table ENCAPSULATIONS (Some n)) same ∙ chooses.6, ap policy_of same)
nest_by_tests table kind false false false false false true g h i j one two three four five six seven eight nine ten chooses is =
    let same : kind ≡ 6 = eqb-true kind 6 six in
    (BPF, ap (λ (n : ℕ). number_at table ENCAPSULATIONS (Some n)) same ∙ chooses.7, ap policy_of same)
nest_by_tests table kind false false false false false false true h i j one two three four five six seven eight nine ten chooses is =
    let same : kind ≡ 7 = eqb-true kind 7 seven in
    (SEG6_LOCAL, ap (λ (n : ℕ). number_at table ENCAPSULATIONS (Some n)) same ∙ chooses.8, ap policy_of same)
nest_by_tests table kind false false false false false false false true i j one two three four five six seven eight nine ten chooses is =
    let same : kind ≡ 8 = eqb-true kind 8 eight in
    (RPL, ap (λ (n : ℕ). number_at table ENCAPSULATIONS (Some n)) same ∙ chooses.9, ap policy_of same)
nest_by_tests table kind false false false false false false false false true j one two three four five six seven eight nine ten chooses is =
    let same : kind ≡ 9 = eqb-true kind 9 nine in
    (IOAM6, ap (λ (n : ℕ). number_at table ENCAPSULATIONS (Some n)) same ∙ chooses.10, ap policy_of same)
nest_by_tests table kind false false false false false false false false false true one two three four five six seven eight nine ten chooses is =
    let same : kind ≡ 10 = eqb-true kind 10 ten in
    (XFRM, ap (λ (n : ℕ). number_at table ENCAPSULATIONS (Some n)) same ∙ chooses.11, ap policy_of same)
nest_by_tests table kind false false false false false false false false false false one two three four five six seven eight nine ten chooses is =
    absurd (cc)

-- the shape of the values in a view of such a table, by the type there
pub encap_nest : (view : BlockView) (table : List Row) (kind : ℕ) → ChoosesEncap table
    → rows_in view.rows.list.now ≡ table → view.policy ≡ 0 → option_map number_le (found_in view.block.now RTA_ENCAP_TYPE) ≡ Some kind
    → has_values kind ≡ true → IsNestOf kind (shape_at view RTA_ENCAP)
unfolding has_values
encap_nest view table kind chooses rows top number is =
    let all : List Row = rows_in view.rows.list.now in
    let same : (k : ℕ) → shape_in all view.policy k ≡ shape_in table 0 k =
    λ k. ap (λ (r : List Row). shape_in r view.policy k) rows ∙ ap (λ (p : ℕ). shape_in table p k) top in
    let (policy, nested, known) = nest_by_tests table kind (kind == 1) (kind == 2) (kind == 3) (kind == 4) (kind == 5)
    (kind == 6) (kind == 7) (kind == 8) (kind == 9) (kind == 10) refl refl refl refl refl refl refl refl refl refl chooses is in (
      policy,
      chosen all view.policy view.block.now RTA_ENCAP RTA_ENCAP_TYPE ENCAPSULATIONS kind (found_in view.block.now RTA_ENCAP_TYPE)
          view.shaped (same RTA_ENCAP ∙ chooses.0) (same RTA_ENCAP_TYPE ∙ chooses.1) refl number
          ∙ ap (λ (r : List Row). number_at r ENCAPSULATIONS (Some kind)) rows ∙ nested,
      known,
    )

-- ---- what follows for the nest that is found

pub nest_viewed : (view : BlockView) (table : List Row) (kind : ℕ) (nest : Option BlockView) → IsNestOf kind (shape_at view RTA_ENCAP)
    → rows_in view.rows.list.now ≡ table → IfSome nest (λ v. v.policy ≡ policy_by (shape_at view RTA_ENCAP))
    → IfSome nest (λ v. v.rows.list.now ≡ view.rows.list.now) → IfSome nest (IsEncap table kind)
nest_viewed view table kind None is rows policy same = same
nest_viewed view table kind (Some v) is rows policy same =
    (ap rows_in same ∙ rows, is.2 ∙ ap Some (sym (policy ∙ ap policy_by is.1)))

pub nest_given : (kind : ℕ) (shape : Shape) (found : Option (List ℕ)) (nest : Option BlockView) → has_values kind ≡ true
    → IsNestOf kind shape → IfSome nest (λ v. nest_by shape found ≡ Some v.block.now)
    → IfSome nest (λ v. nest_value kind found ≡ Some v.block.now)
unfolding nest_value
nest_given kind shape found None has is some = some
nest_given kind shape found (Some v) has is some =
    ap (λ (b : Bool). if b then found else None) has ∙ ap (λ (s : Shape). nest_by s found) (sym is.1) ∙ some

pub nest_missing : (kind : ℕ) (shape : Shape) (found : Option (List ℕ)) (nest : Option BlockView) → has_values kind ≡ true
    → IsNestOf kind shape → IfNone nest (nest_by shape found ≡ None) → IfNone nest (nest_value kind found ≡ None)
unfolding nest_value
nest_missing kind shape found nest has is none =
    none_then nest none (λ e. ap (λ (b : Bool). if b then found else None) has ∙ ap (λ (s : Shape). nest_by s found) (sym is.1) ∙ e)

-- no value is there for another type
pub no_nest : (kind : ℕ) (found : Option (List ℕ)) → has_values kind ≡ false → nest_value kind found ≡ None
unfolding nest_value
no_nest kind found other = ap (λ (b : Bool). if b then found else None) other
