use Rattle.std.proofs.Common.{◌≡◌, ◌∙◌, refl, sym, true}
use Rattle.netlink_family.specs.Finding.{found_in, shape_at}
use Rattle.netlink_route.specs.declared.routes.TheConstants.{RTA_ENCAP}
use Rattle.netlink_route_lines.specs.Encap.{has_values}
use Rattle.netlink_route_lines.proofs.Chosen.{IsNestOf, encap_nest, nest_given, nest_missing, nest_viewed, no_nest}
use Rattle.netlink_route_lines.proofs.encap.nest_of.Goals as goal

pub returns-then-not-has_values-clause-none : goal.returns-then-not-has_values-clause-none
returns-then-not-has_values-clause-none c =
    no_nest c.args.kind (found_in c.args.attributes.now.block.now RTA_ENCAP) (sym c.has_values.ensures ∙ c.if-not-has_values.true)

pub returns-clause-view : goal.returns-clause-view
returns-clause-view c =
    let has : has_values c.args.kind ≡ true = sym c.has_values.ensures ∙ c.if-not-has_values.false in
    let nest : IsNestOf c.args.kind (shape_at c.args.attributes.now RTA_ENCAP) =
    encap_nest c.args.attributes.now _ c.args.kind (refl, refl, refl, refl, refl, refl, refl, refl, refl, refl, refl, refl) c.requires.view.0 c.requires.view.1 c.requires.kind has in
    nest_viewed c.args.attributes.now _ c.args.kind c.nest.result nest c.requires.view.0 c.nest.ensures.policy c.nest.ensures.rows

pub returns-clause-some : goal.returns-clause-some
returns-clause-some c =
    let has : has_values c.args.kind ≡ true = sym c.has_values.ensures ∙ c.if-not-has_values.false in
    let nest : IsNestOf c.args.kind (shape_at c.args.attributes.now RTA_ENCAP) =
    encap_nest c.args.attributes.now _ c.args.kind (refl, refl, refl, refl, refl, refl, refl, refl, refl, refl, refl, refl) c.requires.view.0 c.requires.view.1 c.requires.kind has in
    nest_given c.args.kind (shape_at c.args.attributes.now RTA_ENCAP) (found_in c.args.attributes.now.block.now RTA_ENCAP) c.nest.result
    has nest c.nest.ensures.some

pub returns-clause-none : goal.returns-clause-none
returns-clause-none c =
    let has : has_values c.args.kind ≡ true = sym c.has_values.ensures ∙ c.if-not-has_values.false in
    let nest : IsNestOf c.args.kind (shape_at c.args.attributes.now RTA_ENCAP) =
    encap_nest c.args.attributes.now _ c.args.kind (refl, refl, refl, refl, refl, refl, refl, refl, refl, refl, refl, refl) c.requires.view.0 c.requires.view.1 c.requires.kind has in
    nest_missing c.args.kind (shape_at c.args.attributes.now RTA_ENCAP) (found_in c.args.attributes.now.block.now RTA_ENCAP) c.nest.result
    has nest c.nest.ensures.none
