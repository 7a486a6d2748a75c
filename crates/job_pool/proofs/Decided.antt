-- What the solver finds over the clauses of an obligation shows how the obligation ended.
use Rattle.std.proofs.Common.{◌≡◌, ℕ, Bool, List, length, sym, subst}
use Rattle.word_dag.specs.Given.{AllFit}
use Rattle.word_dag.specs.Nodes.{Parts}
use Rattle.clause_check.specs.declared.formula.Cnf.{Cnf}
use Rattle.clause_check.specs.Derivations.{Holds}
use Rattle.clause_check.proofs.Sound.{refuted}
use Rattle.cnf_build.specs.Built.{Carries, at}
use Rattle.cnf_build.specs.Lower.{netlist, ob_clauses}
use Rattle.cnf_build.specs.Meaning.{RootIs1, read_words}
use Rattle.cdcl.specs.declared.solver.End.{End}
use Rattle.cdcl.specs.declared.solver.End.TheVariants.{Unsat, Sat, Spent}
use Rattle.cdcl.specs.Ends.{IsEnd}
use Rattle.job_pool.specs.Evidence.{Decides, IsEvidence}
use Rattle.job_pool.specs.Shown.{AreWitness}

decided : (budget : ℕ) (ob : Parts) (cnf : Cnf) (bits : List (List ℕ)) (end : End) → Carries ob.nodes ob.root cnf bits → IsEnd cnf budget end → Decides ob end
decided budget ob cnf bits (Unsat steps) carries shown =
    λ values one. let there = carries.from_values values one in refuted cnf steps.items shown there.0 there.1.holds
decided budget ob cnf bits (Sat assignment) carries shown =
    (read_words (at assignment.items) bits, carries.values_fit assignment.items, carries.to_values assignment.items shown)
decided budget ob cnf bits (Spent steps) carries shown = tt

-- an end over the obligation's clauses
pub evident : (budget : ℕ) (ob : Parts) (cnf : Cnf) (bits : List (List ℕ)) (end : End) → cnf.vars ≡ length (netlist ob.nodes) → cnf.clauses ≡ ob_clauses ob.nodes ob.root → Carries ob.nodes ob.root cnf bits → IsEnd cnf budget end → IsEvidence budget ob end
evident budget ob cnf bits end vars clauses carries shown = record { formula = cnf; vars = vars; clauses = clauses; shown = shown; decides = decided budget ob cnf bits end carries shown }

-- the values that an assignment has, which holds for the obligation's clauses
pub witness : (ob : Parts) (cnf : Cnf) (bits : List (List ℕ)) (bs : List Bool) (us : List ℕ) → Carries ob.nodes ob.root cnf bits → Holds cnf bs → us ≡ read_words (at bs) bits → AreWitness ob us
witness ob cnf bits bs us carries holds is = record {
  fit = subst (λ (zs : List ℕ). AllFit zs ob.nodes) (sym is) (carries.values_fit bs);
  root = subst (λ (zs : List ℕ). RootIs1 ob.nodes ob.root zs) (sym is) (carries.to_values bs holds);
}
