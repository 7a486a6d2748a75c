use Rattle.std.proofs.Common.{List, ◌++◌, ◌+◌, subst, arith, length, length-append}
use Rattle.std.proofs.lemmas.List.{get_or_append_left, get_or-append-add}
use Rattle.std.specs.List.{All}
use Rattle.set_tree.specs.declared.set.Set.{Set}
use Rattle.set_tree.specs.Lines.{AreValid}
use Rattle.set_tree.specs.Meaning.{Meaning, ReadsWithin}
use Rattle.set_tree.specs.Paths.{RunsWalk}
use Rattle.set_tree.specs.Report.{IsViolated, IsSignedOff, design_lines, set_lines}
use Rattle.set_tree.specs.Runs.{Design, RunsSatisfy}
use Rattle.set_tree.specs.Structure.{IsSound}
use Rattle.set_tree_completeness.proofs.Sound.{runs_satisfy}
use Rattle.set_tree_completeness.proofs.ReportLines.{are_valid, are_design_lines_valid}
use Rattle.set_tree_completeness.proofs.Walks.{paths_are_walks}

All-left : {X : Type 0} (P : X → Type 0) (xs ys : List X) → All P (xs ++ ys) → All P xs
All-left P xs ys h = λ k d lt. subst P (get_or_append_left xs ys d k lt) (h k d (omega (arith, length-append xs ys)))

All-right : {X : Type 0} (P : X → Type 0) (xs ys : List X) → All P (xs ++ ys) → All P ys
All-right P xs ys h = λ k d lt. subst P (get_or-append-add xs ys k d) (h (length xs + k) d (omega (arith, length-append xs ys)))

-- what a whole report without a violated line says
module _ {Cycle : Type 0} (d : Design Cycle) (m : Meaning) (reads : ReadsWithin m) (set : Set) (sound : IsSound m set) (signed_off : IsSignedOff d m set) where
  pub set_valid : AreValid m set
  set_valid = are_valid d m set (All-right (λ line. ¬ IsViolated d m set line) (design_lines set) (set_lines set) signed_off)

  pub runs : RunsSatisfy d m set
  runs = runs_satisfy d m reads set sound.offsets (are_design_lines_valid d m set (All-left (λ line. ¬ IsViolated d m set line) (design_lines set) (set_lines set) signed_off))

  pub walks : RunsWalk d m set
  walks resets cycles path run constrained is = (paths_are_walks m reads set sound set_valid).walks _ path constrained (runs resets cycles run constrained) is
