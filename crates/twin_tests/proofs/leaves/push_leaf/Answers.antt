use Rattle.std.proofs.Common.{sym, ◌∙◌}
use Rattle.twin_tests.proofs.Finding.{wide_leaf}
use Rattle.twin_tests.proofs.leaves.push_leaf.Goals as goal

pub push-requires : goal.push-requires
push-requires c =
    wide_leaf c.args.names.now 0 c.args.rows.now c.in-Some.leaf c.args.read.now.text c.args.read.now.offset c.requires.widths (sym c.in_ok-leaf_in.ensures ∙ c.in-Some.is)
