use Rattle.std.proofs.Common.{subst}
use Rattle.std.proofs.lemmas.Result.{IfOk-weaker}
use Rattle.std.specs.List.{AllZip}
use Rattle.set_tree.specs.declared.set.Set.{Set}
use Rattle.set_tree.specs.Report.{set_lines}
use Rattle.twin_tests_laws.specs.Windows.{HasDistinctNames}
use Rattle.twin_tests.specs.Named.{IsNamedOf}
use Rattle.twin_tests.specs.Reading.{HasStructure}
use Rattle.twin_tests.proofs.Spoken.{lines_speak}
use Rattle.desk_core_goals.proofs.Obliged.{are_set_lines, obs_of_set}
use Rattle.desk_core_goals.proofs.obs.obs_of_set.Goals as goal

pub returns : goal.returns
returns c =
    let b = c.args.bound.now in
    let distinct = subst HasDistinctNames c.set.ensures c.set-set.ensures.formed.distinct_names in
    let structure = subst HasStructure c.set.ensures (record { sound = c.set-set.ensures.sound; formed = c.set-set.ensures.formed }) in
    IfOk-weaker c.twin_obs.result _ _
    (λ obs named. obs_of_set b distinct (set_lines b.set) obs.items (are_set_lines b.set) (lines_speak b.set structure)
    (subst (λ (z : Set). AllZip (IsNamedOf z) (set_lines z) obs.items) c.set-2.ensures named)) c.twin_obs.ensures
