-- What is kept of another solver's derivation, and what it decides.
use Rattle.std.proofs.Common.{◌≡◌, ℕ, List, [], ◌∷◌, Option, refl, sym, ap, ◌∙◌, subst, inr}
use Rattle.std.specs.Prelude.{Vec}
use Rattle.std.specs.declared.alloc.Global.{Global}
use Rattle.std.proofs.lemmas.List.Elements.{All-cons, All-nil}
use Rattle.outside.specs.Tables.{Tables}
use Rattle.set_tree.specs.declared.line.Line.{Line}
use Rattle.clause_check.specs.declared.formula.Step.{Step}
use Rattle.clause_check.specs.declared.formula.Cnf.{Cnf}
use Rattle.clause_check.specs.Derivations.{IsRefutation}
use Rattle.clause_check.proofs.Sound.{refuted}
use Rattle.cnf_build.specs.Built.{Carries}
use Rattle.word_dag.specs.Nodes.{Parts}
use Rattle.unroll_binding.specs.Binding.{Pair}
use Rattle.job_pool.specs.Shown.{IsShown}
use Rattle.job_pool.specs.declared.evidence.Evidence.{Evidence}
use Rattle.job_pool.specs.declared.evidence.Evidence.TheVariants as e
use Rattle.proof_store.specs.declared.goal.Decided.{Decided}
use Rattle.proof_store.specs.declared.goal.Goal.{Goal}
use Rattle.proof_store.specs.Goals.{ended}
use Rattle.proof_store.specs.Kept.{IsProof}
use Rattle.proof_store.specs.Stored.{Puts, Told}
use Rattle.proof_store.proofs.Single.{keeps_adds}
use Rattle.desk_core_commands.specs.declared.which.Which.TheVariants as w
use Rattle.desk_core_reports.specs.declared.book.Book.{Book}
use Rattle.desk_core_reports.specs.declared.book.Line.{Line as Entered}
use Rattle.desk_core_goals.specs.Asked.{Asks, IsGoalDecided, IsGoalNamed, IsGoalOf}
use Rattle.desk_core_goals.specs.Decided.{AreDecided}
use Rattle.desk_core_goals.specs.Keeping.{HasClauses, IsProvedGoal, TellsAlone}
use Rattle.desk_core_goals.specs.Settled.{AddsProofsOf, AreObsOf}
use Rattle.desk_core_goals.proofs.Deciding.{told_line}

abbrev steps_in : Evidence → Vec Step Global → Vec Step Global
steps_in (e.Derivation steps) other = steps
steps_in (e.Values us) other = other
steps_in (e.Chain steps) other = other

-- steps that refute the obligation's clauses are evidence, whatever the budget
pub derivation_shown : (budget : ℕ) (ob : Parts) (cnf : Cnf) (bits : List (List ℕ)) (steps : Vec Step Global) → HasClauses ob cnf → Carries ob.nodes ob.root cnf bits → IsRefutation cnf steps.items → IsShown budget ob (e.Derivation steps)
derivation_shown budget ob cnf bits steps has carries refutes = record {
  formula = cnf;
  vars = has.vars;
  clauses = has.clauses;
  shown = refutes;
  decides = λ values one. let there = carries.from_values values one in refuted cnf steps.items refutes there.0 there.1.holds;
}

asks_alone : (b : Pair) (name : List ℕ) (goal : Goal Line) → IsGoalNamed b name goal → Asks b (w.One name) (goal ∷ [])
asks_alone b name goal h = record {
  asked = (goal.line, h.named, refl);
  each = All-cons (IsGoalOf b) goal [] h.of_line (All-nil (IsGoalOf b));
}

-- a proof that is put is one of an obligation of the line
pub put_adds : (b : Pair) (name text : List ℕ) (d : Decided Line) (before after : Option Tables) → IsProvedGoal b name text d → Told (Puts (ended d)) before after → AddsProofsOf (AreObsOf b (w.One name)) before after
put_adds b name text d before after is put = (
  d.goal.ob ∷ [],
  inr (record { goals = d.goal ∷ []; asked = asks_alone b name d.goal is.is_goal; are = refl }),
  keeps_adds (ended d) proof_of before after put,
)
  where
    proof_of : (steps : Vec Step Global) → d.evidence ≡ e.Derivation steps → IsProof d.goal.ob steps.items
    proof_of steps has =
        let same : is.steps ≡ steps = ap (λ (z : Evidence). steps_in z is.steps) (sym is.has ∙ has) in
        subst (λ (z : Vec Step Global). IsProof d.goal.ob z.items) same (record {
          formula = is.reads.formula;
          vars = is.reads.has.vars;
          clauses = is.reads.has.clauses;
          refutes = is.reads.refutes;
        })

-- the line that is told alone is the one of the name, decided
pub alone_decided : (budget : ℕ) (b : Pair) (name : List ℕ) (d : Decided Line) (book : Book) → IsGoalNamed b name d.goal → IsGoalDecided budget b d → TellsAlone b d book → AreDecided budget b (w.One name) book.lines.items
alone_decided budget b name d book named decided told = subst (λ (ls : List Entered). AreDecided budget b (w.One name) ls) (sym told.alone) (record {
  lines = d.goal.line ∷ [];
  asked = (d.goal.line, named.named, refl);
  each = (told_line budget b d told.line decided told.tells, tt);
})
