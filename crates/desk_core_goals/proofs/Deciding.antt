-- What decided obligations say of lines.
use Rattle.std.proofs.Common.{◌≡◌, ℕ, List, [], ◌∷◌, map, sym, ap, ap₂, ◌∙◌, subst}
use Rattle.std.specs.List.{All, AllZip}
use Rattle.std.proofs.lemmas.List.Elements.{All-cons, All-head, All-nil, All-tail}
use Rattle.std.specs.Prelude.{◌≢◌}
use Rattle.set_tree.specs.declared.line.Line.{Line}
use Rattle.word_core.specs.Words.{Bits}
use Rattle.word_dag.specs.declared.ob.Named.{Named}
use Rattle.word_dag.specs.Given.{free_values}
use Rattle.word_dag.specs.Nodes.{Parts}
use Rattle.word_dag.proofs.Namings.{root_at_naming}
use Rattle.word_dag.specs.Names.{naming_from}
use Rattle.word_dag.proofs.NamingLaws.{values_have_namings}
use Rattle.unroll_binding.specs.Binding.{Pair}
use Rattle.job_pool.specs.Ample.{IsVerdict}
use Rattle.job_pool.specs.Shown.{IsShown}
use Rattle.job_pool.specs.declared.evidence.Evidence.{Evidence}
use Rattle.job_pool.specs.declared.evidence.Evidence.TheVariants as e
use Rattle.job_pool.proofs.Sparing.{decides}
use Rattle.proof_store.specs.Goals.{IsDecided}
use Rattle.proof_store.specs.declared.goal.Decided.{Decided}
use Rattle.proof_store.specs.declared.goal.Goal.{Goal}
use Rattle.desk_core_reports.specs.declared.book.Verdict.{Verdict}
use Rattle.desk_core_reports.specs.declared.book.Verdict.TheVariants as v
use Rattle.desk_core_reports.specs.Lines.{verdict_of}
use Rattle.desk_core_goals.specs.Obligations.{IsBroken, IsObOf}
use Rattle.desk_core_reports.specs.declared.book.Line.{Line as Told}
use Rattle.desk_core_goals.specs.Asked.{IsGoalDecided, IsGoalOf, line_of, named_of}
use Rattle.desk_core_goals.specs.Decided.{IsDecidedOn, Says, Tells}
use Rattle.desk_core_goals.specs.Traces.{IsTraceOf}

-- evidence of an obligation of a line says whether the line can be violated
says : (budget : ℕ) (b : Pair) (line : Line) (named : Named) → IsObOf b line named → (evidence : Evidence) → IsShown budget named.ob evidence → Says (IsBroken b line) (verdict_of evidence)
says budget b line named ob (e.Derivation steps) shown = λ broken.
    let found = ob.found broken in
    let nodes = named.ob.nodes in
    let same = root_at_naming found.0 nodes named.ob.root in
    shown.decides (free_values found.0 nodes) (ap (λ (w : Bits). w.value) same ∙ found.1)
says budget b line named ob (e.Values us) shown =
    let nodes = named.ob.nodes in
    let same = values_have_namings nodes us.items ob.words named.ob.root in
    ob.shown (naming_from nodes us.items) (ap (λ (w : Bits). w.value) same ∙ shown.root)
says budget b line named ob (e.Chain steps) shown = tt

-- evidence that decides an obligation is no spent budget
not_spent : (evidence : Evidence) → IsVerdict evidence → verdict_of evidence ≢ v.Spent
not_spent (e.Derivation steps) h = λ same. let no : v.Proved ≡ v.Spent = same in cc
not_spent (e.Values us) h = λ same. let no : v.Refuted ≡ v.Spent = same in cc
not_spent (e.Chain steps) h = absurd h

-- a line of the book as it was decided
pub told_line : (budget : ℕ) (b : Pair) (d : Decided Line) (told : Told) → IsGoalDecided budget b d → Tells b d told → IsDecidedOn budget b d.goal.line told
told_line budget b d told h tells =
    let shown : IsShown budget told.ob told.evidence = subst (λ (z : Parts × Evidence). IsShown budget z.0 z.1) (ap₂ (λ (o : Parts) (e : Evidence). (o, e)) (sym tells.ob) (sym tells.evidence)) h.shown in
    let verdict : told.verdict ≡ verdict_of told.evidence = tells.verdict ∙ ap verdict_of (sym tells.evidence) in record {
      name = tells.name;
      named = named_of b.set d.goal;
      of_line = h.of_line;
      ob = tells.ob;
      shown = shown;
      ample = λ ample same. not_spent told.evidence (decides budget told.ob told.evidence shown ample) (sym verdict ∙ same);
      verdict = verdict;
      traced = subst (λ (z : Parts × Evidence). IsTraceOf b d.goal.line z.0 z.1 told.trace) (ap₂ (λ (o : Parts) (e : Evidence). (o, e)) (sym tells.ob) (sym tells.evidence)) tells.traced;
      says = subst (λ (z : Verdict). Says (IsBroken b d.goal.line) z) (sym tells.verdict) (says budget b d.goal.line (named_of b.set d.goal) h.of_line d.evidence h.shown);
    }

-- goals that were decided
pub goals_decided : (budget : ℕ) (b : Pair) (goals : List (Goal Line)) (ds : List (Decided Line)) → All (IsGoalOf b) goals → AllZip (IsDecided budget) goals ds → All (IsGoalDecided budget b) ds
goals_decided budget b [] [] each z = All-nil (IsGoalDecided budget b)
goals_decided budget b [] (d ∷ ds) each z = absurd z
goals_decided budget b (g ∷ gs) [] each z = absurd z
goals_decided budget b (g ∷ gs) (d ∷ ds) each z =
    All-cons (IsGoalDecided budget b) d ds
    (record { of_line = subst (IsGoalOf b) (sym z.0.goal_is) (All-head (IsGoalOf b) g gs each); shown = subst (λ (x : Goal Line). IsShown budget x.ob d.evidence) (sym z.0.goal_is) z.0.shown })
    (goals_decided budget b gs ds (All-tail (IsGoalOf b) g gs each) z.1)

-- the lines of the book, as they were decided
pub lines_decided : (budget : ℕ) (b : Pair) (goals : List (Goal Line)) (ds : List (Decided Line)) (ts : List Told) → All (IsGoalOf b) goals → AllZip (IsDecided budget) goals ds → AllZip (Tells b) ds ts → AllZip (IsDecidedOn budget b) (map line_of goals) ts
lines_decided budget b [] [] [] each z tell = tt
lines_decided budget b [] [] (t ∷ ts) each z tell = tell
lines_decided budget b [] (d ∷ ds) ts each z tell = absurd z
lines_decided budget b (g ∷ gs) [] ts each z tell = absurd z
lines_decided budget b (g ∷ gs) (d ∷ ds) [] each z tell = tell
lines_decided budget b (g ∷ gs) (d ∷ ds) (t ∷ ts) each z tell =
    let here : IsGoalDecided budget b d =
    record { of_line = subst (IsGoalOf b) (sym z.0.goal_is) (All-head (IsGoalOf b) g gs each); shown = subst (λ (x : Goal Line). IsShown budget x.ob d.evidence) (sym z.0.goal_is) z.0.shown } in (
      subst (λ (x : Goal Line). IsDecidedOn budget b x.line t) z.0.goal_is (told_line budget b d t here tell.0),
      lines_decided budget b gs ds ts (All-tail (IsGoalOf b) g gs each) z.1 tell.1,
    )
