use Rattle.std.proofs.Common.{List, sym, subst}
use Rattle.std.specs.List.{AllZip}
use Rattle.word_dag.specs.declared.ob.Named.{Named}
use Rattle.set_tree.specs.Report.{design_lines, set_lines}
use Rattle.desk_core_goals.specs.Obligations.{IsObOf, all_lines}
use Rattle.desk_core_goals.proofs.Obliged.{zip_append}
use Rattle.desk_core_goals.proofs.obs.obs_of_all.Goals as goal

pub returns : goal.returns
returns c =
    let b = c.args.bound.now in
    let both = zip_append b (design_lines b.set) c.in_ok-obs.obs.items (set_lines b.set) c.in_ok-more.more.items c.in_ok-obs.ensures c.in_ok-more.ensures in
    subst (λ (z : List Named). AllZip (IsObOf b) (all_lines b.set) z) (sym c.in_ok-append.ensures.items) both
