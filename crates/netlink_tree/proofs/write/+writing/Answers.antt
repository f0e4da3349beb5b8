use Rattle.std.proofs.Common.{◌∙◌, arith}
use Rattle.netlink_tree.specs.Tree.{views}
use Rattle.netlink_tree.proofs.TreeWriting.{nest_length, nest_counted}
use Rattle.netlink_tree.proofs.write.+writing.Goals as goal

pub append_nest-count_from-requires-clause-inside : goal.append_nest-count_from-requires-clause-inside
append_nest-count_from-requires-clause-inside t c =
    let start = c.len-start.ensures ∙ c.args.block.now.ok.0 in
    let size =
    nest_length c.args.block.now.items _ _ _ (views c.args.children.now) c.in_ok-append_attribute.ensures.ok c.in_ok-append_trees.ensures.ok
    in
    omega arith

pub append_nest-count_from-requires-clause-fits : goal.append_nest-count_from-requires-clause-fits
append_nest-count_from-requires-clause-fits t c =
    let start = c.len-start.ensures ∙ c.args.block.now.ok.0 in
    let size =
    nest_length c.args.block.now.items _ _ _ (views c.args.children.now) c.in_ok-append_attribute.ensures.ok c.in_ok-append_trees.ensures.ok
    in
    let fits = c.requires.fits in
    omega arith

pub append_nest-returns-clause-ok : goal.append_nest-returns-clause-ok
append_nest-returns-clause-ok t c =
    nest_counted c.args.block.now.items _ _ _ c.args.kind _ (views c.args.children.now) (c.len-start.ensures ∙ c.args.block.now.ok.0)
    c.in_ok-append_attribute.ensures.ok c.in_ok-append_trees.ensures.ok c.count_from.ensures
