-- A report without a violated line is a promise.
use Rattle.std.proofs.Common.{ap}
use Rattle.vlog_tree.specs.Value.{own_value}
use Rattle.set_tree.specs.declared.set.Set.{Set}
use Rattle.set_tree.specs.Formulas.{entries_from, meaning_of}
use Rattle.set_tree.specs.Meaning.{ReadsWithin}
use Rattle.elab_step_design.specs.SetDesigns.{design_from}
use Rattle.set_tree_completeness.proofs.Complete.{complete}
use Rattle.set_tree_completeness.proofs.Forever.{complete_forever}
use Rattle.set_tree_completeness.proofs.ReportLines.{are_design_lines_valid}
use Rattle.set_tree_completeness.proofs.SignedOff.{runs, set_valid, walks}
use Rattle.set_tree_completeness.proofs.Sound.{runs_satisfy}
use Rattle.set_tree_completeness.proofs.Walks.{have_same_paths}
use Rattle.unroll_laws.specs.Promises.{CleanDesignLinesHold, CleanReportsSignOff}

reads : (set : Set) → ReadsWithin (meaning_of set)
reads set f xs ys same = ap (λ rows. own_value (entries_from set.names 0 rows) f) same

pub design_lines_hold : CleanDesignLinesHold
design_lines_hold ms top set sound valid =
    runs_satisfy (design_from ms top set) (meaning_of set) (reads set) set sound.offsets (are_design_lines_valid (design_from ms top set) (meaning_of set) set valid)

pub reports_sign_off : CleanReportsSignOff
reports_sign_off ms top set sound clean =
    let m = meaning_of set in
    let d = design_from ms top set in
    let valid = set_valid d m (reads set) set sound clean in
    let whole = complete m (reads set) set sound valid in record {
      runs = runs d m (reads set) set sound clean;
      complete = whole;
      forever = complete_forever m (reads set) set sound whole;
      walks = walks d m (reads set) set sound clean;
      paths = have_same_paths m (reads set) set sound valid;
    }
