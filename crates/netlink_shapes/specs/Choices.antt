-- Shapes that attributes chose, kept while a block is read.
use Rattle.std.specs.Prelude.{ℕ, ◌≡◌, ◌==◌, List, [], ◌∷◌, None, Some, refl}
use Rattle.std.proofs.Common.{ap, arith, sym, ◌∙◌}
use Rattle.std.proofs.lemmas.Bool.{eqb-true}
use Rattle.netlink_attributes.specs.Attribute.{Attribute}
use Rattle.netlink_attributes.specs.Views.{masked}
use Rattle.netlink_shapes.specs.Listing.{first_of}
use Rattle.netlink_shapes.specs.Shapes.{Scope, any_kind, choice_by, number_by, shape_in}
use Rattle.netlink_shapes.specs.SortedLaws.{if_not}
use Rattle.netlink_shapes.specs.declared.choice.Choice.{Choice}
use Rattle.netlink_shapes.specs.declared.choice.Choices.{Choices}
use Rattle.netlink_shapes.specs.declared.shape.Shape.TheVariants.{Bytes}

-- a choice is that of the first attribute of its kind
abbrev pub IsChoice : Scope → Choice → Type 0
IsChoice scope choice = choice.shape ≡ choice_by scope.0 choice.policy (first_of choice.by scope.1)

-- the same for a number, which is read by the shape of its kind in the policy of the block
abbrev pub IsNumber : Scope → ℕ → Choice → Type 0
IsNumber scope policy choice =
    choice.shape ≡ number_by scope.0 choice.policy (shape_in scope.0 policy choice.by) (first_of choice.by scope.1)

abbrev pub AreChoices : Scope → ℕ → Choices → Type 0
AreChoices scope policy choices =
    IsChoice scope choices.last × IsChoice scope choices.before
    × IsNumber scope policy choices.last_number × IsNumber scope policy choices.before_number

-- ---- no attribute has the kind 65535, which has bits that kinds lack

no_kind : (all : List Attribute) → first_of any_kind all ≡ None
no_kind [] = refl
no_kind (a ∷ more) =
    if_not (masked a.kind == any_kind) (Some a.value) (first_of any_kind more)
    (λ e. absurd (omega (arith, eqb-true (masked a.kind) any_kind e)))
    ∙ no_kind more

-- so it chooses `Bytes` in every block
none_is : (scope : Scope) → Bytes ≡ choice_by scope.0 0 (first_of any_kind scope.1)
none_is scope = sym (ap (choice_by scope.0 0) (no_kind scope.1))

no_number : (scope : Scope) (policy : ℕ)
    → Bytes ≡ number_by scope.0 0 (shape_in scope.0 policy any_kind) (first_of any_kind scope.1)
no_number scope policy = sym (ap (number_by scope.0 0 (shape_in scope.0 policy any_kind)) (no_kind scope.1))

abbrev pub no_choice : Choice
no_choice = record { by = any_kind; policy = 0; shape = Bytes }

pub none_chosen : (scope : Scope) (policy : ℕ)
    → AreChoices scope policy
    (record { last = no_choice; before = no_choice; last_number = no_choice; before_number = no_choice })
none_chosen scope policy = (none_is scope, none_is scope, no_number scope policy, no_number scope policy)
