-- What decided lines say of the modules whose runs the design has, and of two texts.
use Rattle.std.proofs.Common.{◌≡◌, ℕ, List, [], ◌∷◌, ◌++◌, Option, Some, None, map, refl, sym, ap, ◌∙◌, subst, inl, inr, ⊎_elim}
use Rattle.std.specs.Prelude.{IfErr, IfOk, IfSome, Result, Ok, Err}
use Rattle.std.specs.List.{AllZip}
use Rattle.outside.specs.Tables.{Tables}
use Rattle.vlog_tree.specs.declared.module.Module.{Module}
use Rattle.vlog_tree_runs.specs.declared.flat.Flat.{Flat}
use Rattle.elab_flat_laws.specs.Flattened.{KeepsRuns}
use Rattle.set_tree.specs.declared.set.Set.{Set}
use Rattle.set_tree.specs.Formulas.{meaning_of}
use Rattle.set_tree.specs.Runs.{trace_of}
use Rattle.elab_step_design.specs.SetDesigns.{CycleFrom, design_from}
use Rattle.word_dag.specs.Nodes.{Naming, Parts}
use Rattle.elab_step_design.specs.Designs.{HasRunsOf}
use Rattle.elab_step_design.specs.Laws.{DesignCycle, word_design}
use Rattle.word_dag.specs.Names.{naming_from}
use Rattle.unroll_binding.specs.Binding.{Pair}
use Rattle.unroll_laws.proofs.Carried.{map_append, size, steps_to_modules, to_modules, trace}
use Rattle.job_pool.specs.declared.evidence.Evidence.{Evidence}
use Rattle.job_pool.specs.declared.evidence.Evidence.TheVariants as e
use Rattle.proof_store.specs.Goals.{ob_of}
use Rattle.proof_store.specs.Stored.{AddsProofs, Told as TellsTables}
use Rattle.proof_store.specs.declared.goal.Goal.{Goal}
use Rattle.replay.specs.declared.shown.Shown.{Shown}
use Rattle.replay.specs.Segments.{first_values}
use Rattle.desk_core_reports.specs.declared.book.Book.{Book}
use Rattle.desk_core_reports.specs.declared.book.Line.{Line as Told}
use Rattle.desk_core_reports.specs.declared.book.Verdict.{Verdict}
use Rattle.desk_core_reports.specs.declared.book.Verdict.TheVariants as v
use Rattle.desk_core_reports.specs.declared.report.Report.{Report}
use Rattle.desk_core_faults.specs.declared.fault.CheckFault.{CheckFault}
use Rattle.desk_core_faults.specs.declared.fault.CheckFault.TheVariants as f
use Rattle.desk_core_stages.specs.Stages.{IsBoundOf, Refuses as StageRefuses}
use Rattle.desk_core_goals.specs.Decided.{Says}
use Rattle.desk_core_goals.specs.Settled.{AddsProofsOf}
use Rattle.desk_core_goals.specs.declared.fault.LineFault.{LineFault}
use Rattle.desk_core_goals.specs.declared.fault.LineFault.TheVariants as l
use Rattle.meet_lines.specs.declared.line.MeetLine.{MeetLine}
use Rattle.meet_lines.specs.Decided.{AreDecided, AreObsOf, IsDecidedOn, IsLineOf, IsMetIn, IsTraceOf, ShowsModules}
use Rattle.meet_lines.specs.Goals.{Asks, LacksLine}
use Rattle.meet_lines.specs.Lines.{IsMet}
use Rattle.meet_lines.specs.Meetings.{AreDecidedOf, AreObsOfTexts, IsMeetReport, Refuses, RefusesAsked, is_complete, meet_text}
use Rattle.meet_lines.specs.Shown.{ShowsMeeting}
use Rattle.meet_lines.proofs.Carrying.{meeting, met_lines_are_the_modules}

-- ---- of the modules

-- said of the design, it is said of the modules
says_of : (P Q : Type 0) → (P → Q) → (Q → P) → (verdict : Verdict) → Says P verdict → Says Q verdict
says_of P Q to from v.Proved h = λ q. h (from q)
says_of P Q to from v.Refuted h = to h
says_of P Q to from v.Spent h = tt

module _ (ms : List Module) (f : Flat) (b : Pair) (keeps : KeepsRuns ms b.set.block f) (runs : HasRunsOf f b.design) where
  abbrev to : DesignCycle b.design → CycleFrom ms b.set.block
  to c = to_modules ms b.set.block f b.design keeps runs c

  first_same : (cs : List (DesignCycle b.design)) → first_values b.design (map to cs) ≡ first_values b.design cs
  first_same [] = refl
  first_same (c ∷ cs) = refl

  shows_segment : (line : MeetLine) (values : Naming) (shown : Shown) → ShowsMeeting b.design (meaning_of b.set) b.set line values shown → ShowsModules ms b line shown
  shows_segment line values shown h =
      let words = word_design b.design b.set in
      let modules = design_from ms b.set.block b.set in
      let steps = steps_to_modules ms b.set.block f b.design b.set keeps runs in
      let joined = map_append words modules to steps (λ c. refl) (λ c. refl) h.resets h.cycles in
      record {
        resets = map to h.resets;
        cycles = map to h.cycles;
        meeting = meeting words modules to steps (λ c. refl) (λ c. refl) (meaning_of b.set) b.set line h.resets h.cycles h.meeting;
        start = h.start ∙ (sym (first_same (h.resets ++ h.cycles)) ∙ ap (λ cs. first_values b.design cs) joined);
        before = h.before ∙ sym (size words modules to steps (λ c. refl) (λ c. refl) h.resets);
        names = h.names;
        rows = h.rows ∙ (sym (trace words modules to steps (λ c. refl) (λ c. refl) (h.resets ++ h.cycles)) ∙ ap (trace_of modules) joined);
        second = h.second;
      }

  shows_modules : (line : MeetLine) (ob : Parts) (evidence : Evidence) (o : Option Shown) → IsTraceOf b line ob evidence o → IfSome o (ShowsModules ms b line)
  shows_modules line ob (e.Derivation steps) o h = subst (λ (z : Option Shown). IfSome z (ShowsModules ms b line)) (sym h) tt
  shows_modules line ob (e.Values us) None h = absurd h
  shows_modules line ob (e.Values us) (Some shown) h = shows_segment line (naming_from ob.nodes us.items) shown h
  shows_modules line ob (e.Chain steps) o h = subst (λ (z : Option Shown). IfSome z (ShowsModules ms b line)) (sym h) tt

  one : (budget : ℕ) (line : MeetLine) (d : Told) → IsDecidedOn budget b line d → IsLineOf budget ms b line d
  one budget line d h =
      let same = met_lines_are_the_modules ms b.set.block f b.design (meaning_of b.set) b.set keeps runs line in
      record {
        decided = record {
          name = h.name;
          of_line = h.of_line;
          words = h.words;
          shown = h.shown;
          ample = h.ample;
          verdict = h.verdict;
          traced = h.traced;
          says = says_of (IsMet (word_design b.design b.set) (meaning_of b.set) b.set line) (IsMetIn ms b.set.block b.set line) same.0 same.1 d.verdict h.says;
        };
        shows = shows_modules line d.ob d.evidence d.trace h.traced;
      }

  decided_of_modules : (budget : ℕ) (lines : List MeetLine) (ds : List Told) → AllZip (IsDecidedOn budget b) lines ds → AllZip (IsLineOf budget ms b) lines ds
  decided_of_modules budget [] [] h = tt
  decided_of_modules budget [] (d ∷ ds) h = h
  decided_of_modules budget (x ∷ xs) [] h = h
  decided_of_modules budget (x ∷ xs) (d ∷ ds) h = (one budget x d h.0, decided_of_modules budget xs ds h.1)

-- ---- of two texts

pub is_report : (text set_text : List ℕ) (b : Pair) (name : Option (List ℕ)) (budget : ℕ) (ds : List Told) (r : Report) → IsBoundOf text set_text b → AreDecided budget b name ds
    → r.text ≡ meet_text name ds → r.verdicts.items ≡ map (λ d. d.verdict) ds → r.complete ≡ is_complete name ds → IsMeetReport text set_text name budget ds r
is_report text set_text b name budget ds r bound decided told verdicts complete =
    let design = bound.design_is in
    record {
      bound = b;
      from = bound;
      lines = decided.lines;
      asked = decided.asked;
      each = decided_of_modules bound.modules design.flat b design.flat_of.keeps design.runs budget decided.lines ds decided.each;
      text = told;
      verdicts = verdicts;
      complete = complete;
    }

pub stage_refuses : (text set_text : List ℕ) (name : Option (List ℕ)) (fault : CheckFault) → StageRefuses text set_text fault → Refuses text set_text name fault
stage_refuses text set_text name f.NoLine h = absurd h
stage_refuses text set_text name f.Keeper h = absurd h
stage_refuses text set_text name f.Memory h = h
stage_refuses text set_text name (f.Module fault) h = h
stage_refuses text set_text name (f.Set stop) h = h
stage_refuses text set_text name (f.Bind fault) h = h

pub asked_refuses : (text set_text : List ℕ) (b : Pair) (name : Option (List ℕ)) (fault : CheckFault) → IsBoundOf text set_text b → RefusesAsked b.set name fault → Refuses text set_text name fault
asked_refuses text set_text b name f.NoLine bound h = (b, bound, h)
asked_refuses text set_text b name f.Keeper bound h = (b, bound, h)
asked_refuses text set_text b name f.Memory bound h = tt
asked_refuses text set_text b name (f.Module fault) bound h = absurd h
asked_refuses text set_text b name (f.Set stop) bound h = absurd h
asked_refuses text set_text b name (f.Bind fault) bound h = absurd h

pub decided_of_texts : {E : Type 0} (text set_text : List ℕ) (b : Pair) (name : Option (List ℕ)) (budget : ℕ) → IsBoundOf text set_text b → (r : Result Book E) → IfOk r (λ book. AreDecided budget b name book.lines.items)
    → IfOk r (λ book. AreDecidedOf text set_text name budget book.lines.items)
decided_of_texts text set_text b name budget bound (Ok book) h = (b, bound, h)
decided_of_texts text set_text b name budget bound (Err fault) h = tt

pub refused_of_texts : {T : Type 0} (text set_text : List ℕ) (b : Pair) (name : Option (List ℕ)) → IsBoundOf text set_text b → (r : Result T CheckFault) → IfErr r (RefusesAsked b.set name) → IfErr r (Refuses text set_text name)
refused_of_texts text set_text b name bound (Ok t) h = tt
refused_of_texts text set_text b name bound (Err fault) h = asked_refuses text set_text b name fault bound h

pub adds_of_texts : (text set_text : List ℕ) (b : Pair) (name : Option (List ℕ)) → IsBoundOf text set_text b → (before after : Option Tables) → AddsProofsOf (AreObsOf b name) before after
    → AddsProofsOf (AreObsOfTexts text set_text name) before after
adds_of_texts text set_text b name bound before after h = (h.0, ⊎_elim (λ none. inl none) (λ of_lines. inr (b, bound, of_lines)) h.1, h.2)

-- proofs of obligations of the lines that are asked for
pub adds_asked : (b : Pair) (name : Option (List ℕ)) (goals : List (Goal MeetLine)) → Asks b name goals → (before after : Option Tables) → TellsTables (AddsProofs (map ob_of goals)) before after → AddsProofsOf (AreObsOf b name) before after
adds_asked b name goals asks before after told = (map ob_of goals, inr (record { goals = goals; asked = asks; are = refl }), told)

-- a goal isn't refused since a keeper failed
pub no_keeper : (set : Set) (name : Option (List ℕ)) (fault : LineFault) → LacksLine set name fault → fault ≡ l.Keeper → ⊥
no_keeper set name l.NoLine lacks is = let clash : l.NoLine ≡ l.Keeper = is in cc
no_keeper set name l.Keeper lacks is = lacks
no_keeper set name l.Memory lacks is = let clash : l.Memory ≡ l.Keeper = is in cc
