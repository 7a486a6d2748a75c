use Rattle.std.proofs.Common.{◌<◌, length, sym, subst}
use Rattle.std.proofs.lemmas.Result.{IfOk-weaker}
use Rattle.set_tree.specs.declared.set.Set.{Set}
use Rattle.set_tree.specs.Report.{set_lines}
use Rattle.twin_tests_laws.specs.Windows.{HasDistinctNames}
use Rattle.twin_tests.specs.Named.{IsNamedOf, set_line}
use Rattle.twin_tests.specs.Reading.{HasStructure}
use Rattle.desk_core_goals.proofs.Obliged.{ob_of_set}
use Rattle.desk_core_goals.proofs.obs.ob_of_set.Goals as goal

pub twin_ob-requires : goal.twin_ob-requires
twin_ob-requires c = subst (λ (z : Set). c.args.number < length (set_lines z)) (sym c.set-2.ensures) c.requires

pub returns : goal.returns
returns c =
    let b = c.args.bound.now in
    let distinct = subst HasDistinctNames c.set.ensures c.set-set.ensures.formed.distinct_names in
    let structure = subst HasStructure c.set.ensures (record { sound = c.set-set.ensures.sound; formed = c.set-set.ensures.formed }) in
    IfOk-weaker c.twin_ob.result _ _
    (λ ob named. ob_of_set b distinct structure c.args.number c.requires ob (subst (λ (z : Set). IsNamedOf z (set_line z c.args.number) ob) c.set-2.ensures named)) c.twin_ob.ensures
