use Rattle.std.proofs.Common.{◌≡◌, true, map, drop}
use Rattle.vlog_tree.specs.declared.stmt.Lval.{Lval}
use Rattle.vlog_tree_runs.specs.Places.{Among}
use Rattle.elab_flat_drivers.specs.Parts.{part_meant}
use Rattle.mem_faults.specs.Used.{is_nested}
use Rattle.mem_faults.proofs.survey.Survey.nested.Given as goal

abbrev pub invariant-loop-part : goal.invariant-loop-part
invariant-loop-part l = (q : Lval) → Among (map part_meant l.part-items) q → is_nested l.self.memories q ≡ true → Among (map part_meant (drop l.part-index l.part-items)) q
