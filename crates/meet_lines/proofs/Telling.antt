-- Goals that were decided, and the lines of the book that tell it.
use Rattle.std.proofs.Common.{◌≡◌, ℕ, suc, List, [], ◌∷◌, ◌++◌, length, map, refl, sym, ap, ap₂, ◌∙◌, subst, arith, append_assoc, append-nil}
use Rattle.std.specs.Prelude.{◌≢◌}
use Rattle.std.specs.List.{All, AllZip}
use Rattle.std.proofs.lemmas.List.Elements.{All-cons, All-head, All-nil, All-tail}
use Rattle.std.proofs.lemmas.Slice.Zip.{all_zipped_more}
use Rattle.set_tree.specs.Formulas.{meaning_of}
use Rattle.word_core.specs.Words.{Bits}
use Rattle.word_dag.specs.Given.{free_values}
use Rattle.word_dag.specs.Nodes.{Parts}
use Rattle.word_dag.proofs.Namings.{root_at_naming}
use Rattle.elab_step_design.specs.Laws.{word_design}
use Rattle.word_dag.specs.Names.{HasOneWordEach, naming_from}
use Rattle.word_dag.proofs.NamingLaws.{values_have_namings}
use Rattle.unroll_binding.specs.Binding.{Pair}
use Rattle.job_pool.specs.Ample.{IsVerdict}
use Rattle.job_pool.specs.Shown.{IsShown}
use Rattle.job_pool.specs.declared.evidence.Evidence.{Evidence}
use Rattle.job_pool.specs.declared.evidence.Evidence.TheVariants as e
use Rattle.job_pool.proofs.Sparing.{decides}
use Rattle.proof_store.specs.Goals.{Ended, IsDecided, ended}
use Rattle.proof_store.specs.declared.goal.Decided.{Decided}
use Rattle.proof_store.specs.declared.goal.Goal.{Goal}
use Rattle.desk_core_reports.specs.declared.book.Line.{Line as Told}
use Rattle.desk_core_reports.specs.declared.book.Verdict.{Verdict}
use Rattle.desk_core_reports.specs.declared.book.Verdict.TheVariants as v
use Rattle.desk_core_reports.specs.Lines.{verdict_of}
use Rattle.desk_core_goals.specs.Decided.{Says}
use Rattle.desk_core_goals.specs.Settled.{ended_of}
use Rattle.meet_lines.specs.declared.line.MeetLine.{MeetLine}
use Rattle.meet_lines.specs.Decided.{IsDecidedOn, IsGoalDecided, IsTraceOf, Tells}
use Rattle.meet_lines.specs.Goals.{IsGoalOf}
use Rattle.meet_lines.specs.Lines.{IsMet, IsOf}

-- ---- lines of the book, one after another

-- those before are told
pub record TellLoop (b : Pair) (all : List (Decided MeetLine)) (done : List Told) (left : List (Decided MeetLine)) : Type 0 where
  pub before : List (Decided MeetLine)
  pub split : all ≡ before ++ left
  pub told : AllZip (Tells b) before done

pub tell_start : (b : Pair) (all left : List (Decided MeetLine)) (done : List Told) → left ≡ all → done ≡ [] → TellLoop b all done left
tell_start b all left done same none = record { before = []; split = sym same; told = subst (λ (ts : List Told). AllZip (Tells b) [] ts) (sym none) tt }

pub tell_more : (b : Pair) (all now left : List (Decided MeetLine)) (done more : List Told) (d : Decided MeetLine) (told : Told) → TellLoop b all done now → now ≡ d ∷ left → Tells b d told → more ≡ done ++ told ∷ [] → TellLoop b all more left
tell_more b all now left done more d told loop is here pushed = record {
  before = loop.before ++ d ∷ [];
  split = loop.split ∙ (ap (λ (ds : List (Decided MeetLine)). loop.before ++ ds) is ∙ sym (append_assoc loop.before (d ∷ []) left));
  told = subst (λ (ts : List Told). AllZip (Tells b) (loop.before ++ d ∷ []) ts) (sym pushed) (all_zipped_more (Tells b) loop.before done d told loop.told here);
}

pub all_told : (b : Pair) (all left : List (Decided MeetLine)) (done : List Told) → TellLoop b all done left → length left ≡ 0 → AllZip (Tells b) all done
all_told b all [] done loop none = subst (λ (ds : List (Decided MeetLine)). AllZip (Tells b) ds done) (sym (loop.split ∙ append-nil loop.before)) loop.told
all_told b all (d ∷ left) done loop none = let no : suc (length left) ≡ 0 = none in absurd (omega arith)

-- the one whose turn it is was decided so
pub turn_decided : (budget : ℕ) (b : Pair) (all now left : List (Decided MeetLine)) (done : List Told) (d : Decided MeetLine) → TellLoop b all done now → now ≡ d ∷ left → All (IsGoalDecided budget b) all → IsGoalDecided budget b d
turn_decided budget b all now left done d loop is decided =
    let there : All (IsGoalDecided budget b) (loop.before ++ d ∷ left) = subst (λ (ds : List (Decided MeetLine)). All (IsGoalDecided budget b) ds) (loop.split ∙ ap (λ (ds : List (Decided MeetLine)). loop.before ++ ds) is) decided in
    at loop.before there
  where
    at : (before : List (Decided MeetLine)) → All (IsGoalDecided budget b) (before ++ d ∷ left) → IsGoalDecided budget b d
    at [] h = All-head (IsGoalDecided budget b) d left h
    at (x ∷ xs) h = at xs (All-tail (IsGoalDecided budget b) x (xs ++ d ∷ left) h)

-- what the lines tell is what was decided
pub same_ended : (b : Pair) (ds : List (Decided MeetLine)) (ts : List Told) → AllZip (Tells b) ds ts → map ended_of ts ≡ map ended ds
same_ended b [] [] z = refl
same_ended b [] (t ∷ ts) z = absurd z
same_ended b (d ∷ ds) [] z = absurd z
same_ended b (d ∷ ds) (t ∷ ts) z = one (sym z.0.ob) (sym z.0.evidence) ∙ ap (λ (es : List Ended). ended d ∷ es) (same_ended b ds ts z.1)
  where
    one : d.goal.ob ≡ t.ob → d.evidence ≡ t.evidence → ended_of t ∷ map ended_of ts ≡ ended d ∷ map ended_of ts
    one ob evidence = cc

-- ---- what evidence says

abbrev IsMetBy : Pair → MeetLine → Type 0
IsMetBy b line = IsMet (word_design b.design b.set) (meaning_of b.set) b.set line

-- evidence of a goal says whether its line is met
says : (budget : ℕ) (b : Pair) (line : MeetLine) (goal : Goal MeetLine) → IsGoalOf b.design b.set line goal → (evidence : Evidence) → IsShown budget goal.ob evidence → Says (IsMetBy b line) (verdict_of evidence)
says budget b line goal of_line (e.Derivation steps) shown = λ met.
    let found = of_line.decides.0 met in
    let nodes = goal.ob.nodes in
    let same = root_at_naming found.0 nodes goal.ob.root in
    shown.decides (free_values found.0 nodes) (ap (λ (w : Bits). w.value) same ∙ found.1)
says budget b line goal of_line (e.Values us) shown =
    let nodes = goal.ob.nodes in
    let same = values_have_namings nodes us.items of_line.words goal.ob.root in
    of_line.decides.1 (naming_from nodes us.items, ap (λ (w : Bits). w.value) same ∙ shown.root)
says budget b line goal of_line (e.Chain steps) shown = tt

-- evidence that decides an obligation is no spent budget
not_spent : (evidence : Evidence) → IsVerdict evidence → verdict_of evidence ≢ v.Spent
not_spent (e.Derivation steps) h = λ same. let no : v.Proved ≡ v.Spent = same in cc
not_spent (e.Values us) h = λ same. let no : v.Refuted ≡ v.Spent = same in cc
not_spent (e.Chain steps) h = absurd h

-- a line of the book as it was decided
told_line : (budget : ℕ) (b : Pair) (d : Decided MeetLine) (told : Told) → IsGoalDecided budget b d → Tells b d told → IsDecidedOn budget b d.goal.line told
told_line budget b d told h tells =
    let m = meaning_of b.set in
    let shown : IsShown budget told.ob told.evidence = subst (λ (z : Parts × Evidence). IsShown budget z.0 z.1) (ap₂ (λ (o : Parts) (e : Evidence). (o, e)) (sym tells.ob) (sym tells.evidence)) h.shown in
    let verdict : told.verdict ≡ verdict_of told.evidence = tells.verdict ∙ ap verdict_of (sym tells.evidence) in record {
      name = tells.name;
      of_line = subst (λ (o : Parts). IsOf b.design m b.set d.goal.line o.nodes o.root) (sym tells.ob) h.of_line.of_line;
      words = subst (λ (o : Parts). HasOneWordEach o.nodes) (sym tells.ob) h.of_line.words;
      shown = shown;
      ample = λ ample same. not_spent told.evidence (decides budget told.ob told.evidence shown ample) (sym verdict ∙ same);
      verdict = verdict;
      traced = subst (λ (z : Parts × Evidence). IsTraceOf b d.goal.line z.0 z.1 told.trace) (ap₂ (λ (o : Parts) (e : Evidence). (o, e)) (sym tells.ob) (sym tells.evidence)) tells.traced;
      says = subst (λ (z : Verdict). Says (IsMetBy b d.goal.line) z) (sym tells.verdict) (says budget b d.goal.line d.goal h.of_line d.evidence h.shown);
    }

-- a goal that was decided is one of its own line
own : (budget : ℕ) (b : Pair) (line : MeetLine) (goal : Goal MeetLine) (d : Decided MeetLine) → IsGoalOf b.design b.set line goal → IsDecided budget goal d → IsGoalDecided budget b d
own budget b line goal d of_line decided =
    let same : goal.line ≡ line = of_line.line_is in
    let here : IsGoalOf b.design b.set goal.line goal = subst (λ (l : MeetLine). IsGoalOf b.design b.set l goal) (sym same) of_line in
    record {
      of_line = subst (λ (x : Goal MeetLine). IsGoalOf b.design b.set x.line x) (sym decided.goal_is) here;
      shown = subst (λ (x : Goal MeetLine). IsShown budget x.ob d.evidence) (sym decided.goal_is) decided.shown;
    }

-- goals that were decided
pub goals_decided : (budget : ℕ) (b : Pair) (lines : List MeetLine) (goals : List (Goal MeetLine)) (ds : List (Decided MeetLine)) → AllZip (IsGoalOf b.design b.set) lines goals → AllZip (IsDecided budget) goals ds → All (IsGoalDecided budget b) ds
goals_decided budget b [] [] [] each z = All-nil (IsGoalDecided budget b)
goals_decided budget b (l ∷ ls) [] [] each z = absurd each
goals_decided budget b ls [] (d ∷ ds) each z = absurd z
goals_decided budget b ls (g ∷ gs) [] each z = absurd z
goals_decided budget b [] (g ∷ gs) (d ∷ ds) each z = absurd each
goals_decided budget b (l ∷ ls) (g ∷ gs) (d ∷ ds) each z =
    All-cons (IsGoalDecided budget b) d ds (own budget b l g d each.0 z.0) (goals_decided budget b ls gs ds each.1 z.1)

-- the lines of the book, as they were decided
pub lines_decided : (budget : ℕ) (b : Pair) (lines : List MeetLine) (goals : List (Goal MeetLine)) (ds : List (Decided MeetLine)) (ts : List Told) → AllZip (IsGoalOf b.design b.set) lines goals → AllZip (IsDecided budget) goals ds → AllZip (Tells b) ds ts
    → AllZip (IsDecidedOn budget b) lines ts
lines_decided budget b [] [] [] [] each z tell = tt
lines_decided budget b (l ∷ ls) [] ds ts each z tell = absurd each
lines_decided budget b [] (g ∷ gs) ds ts each z tell = absurd each
lines_decided budget b [] [] (d ∷ ds) ts each z tell = absurd z
lines_decided budget b [] [] [] (t ∷ ts) each z tell = absurd tell
lines_decided budget b (l ∷ ls) (g ∷ gs) [] ts each z tell = absurd z
lines_decided budget b (l ∷ ls) (g ∷ gs) (d ∷ ds) [] each z tell = absurd tell
lines_decided budget b (l ∷ ls) (g ∷ gs) (d ∷ ds) (t ∷ ts) each z tell =
    let same : d.goal.line ≡ l = ap (λ (x : Goal MeetLine). x.line) z.0.goal_is ∙ each.0.line_is in (
      subst (λ (x : MeetLine). IsDecidedOn budget b x t) same (told_line budget b d t (own budget b l g d each.0 z.0) tell.0),
      lines_decided budget b ls gs ds ts each.1 z.1 tell.1,
    )
