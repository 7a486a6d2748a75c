-- The segment that is shown of a refuted line is one of the modules whose runs the design has.
use Rattle.std.proofs.Common.{◌≡◌, true, false, List, [], ◌∷◌, ◌++◌, Option, Some, None, drop, map, refl, sym, ap, ◌∙◌, subst}
use Rattle.std.specs.Prelude.{IfSome}
use Rattle.vlog_tree.specs.declared.module.Module.{Module}
use Rattle.vlog_tree_runs.specs.declared.flat.Flat.{Flat}
use Rattle.elab_flat_laws.specs.Flattened.{KeepsRuns}
use Rattle.set_tree.specs.declared.line.Line.{Line}
use Rattle.set_tree.specs.declared.line.Line.TheVariants.{Base, Step, Reset, Operation, End, Split, SameEnd, Choose, Hand, Determine}
use Rattle.set_tree.specs.declared.set.Set.{Set}
use Rattle.set_tree.specs.Formulas.{meaning_of}
use Rattle.set_tree.specs.Meaning.{Meaning, holds}
use Rattle.set_tree.specs.Parts.{window_of, assumed, committed}
use Rattle.set_tree.specs.Runs.{Design, trace_of}
use Rattle.elab_step_design.specs.SetDesigns.{CycleFrom, design_from}
use Rattle.word_dag.specs.Nodes.{Naming, Parts as ObParts}
use Rattle.word_dag.specs.Names.{naming_from}
use Rattle.elab_step_design.specs.Designs.{HasRunsOf}
use Rattle.elab_step_design.specs.Laws.{DesignCycle, word_design}
use Rattle.unroll_binding.specs.Binding.{Pair}
use Rattle.unroll_laws.proofs.Carried.{map_append, reset_segment, segment, size, steps_to_modules, to_modules, trace}
use Rattle.replay.specs.declared.shown.Shown.{Shown}
use Rattle.replay.specs.Segments.{AreViolatingCycles, ShowsSegment, first_values}
use Rattle.job_pool.specs.declared.evidence.Evidence.{Evidence}
use Rattle.job_pool.specs.declared.evidence.Evidence.TheVariants as e
use Rattle.desk_core_goals.specs.Traces.{IsTraceOf, ShowsLine, ShowsModules, is_on_design}

module _ {A B : Type 0} (d : Design A) (e : Design B) (to : A → B) (follows : (a b : A) → d.follows a b → e.follows (to a) (to b))
    (resets : (a : A) → e.is_reset (to a) ≡ d.is_reset a) (rows : (a : A) → e.row (to a) ≡ d.row a) where
  -- cycles that are carried into another design's, keeping what follows, reset and rows, violate what they did
  violating : (m : Meaning) (set : Set) (line : Line) (rs cs : List A) → AreViolatingCycles d m set line rs cs → AreViolatingCycles e m set line (map to rs) (map to cs)
  violating m set (Base i) rs cs (rule, there, h) = (
    rule,
    there,
    record {
      segment = reset_segment d e to follows resets rows m set 0 rs cs h.segment;
      broken = ap (λ zs. holds m rule.formula zs) (trace d e to follows resets rows cs) ∙ h.broken;
    },
  )
  violating m set (Step i) rs cs (none, rule, there, h) = (
    ap (map to) none,
    rule,
    there,
    record {
      segment = segment d e to follows resets rows m set 1 cs h.segment;
      broken = ap (λ zs. holds m rule.formula (drop 1 zs)) (trace d e to follows resets rows cs) ∙ h.broken;
    },
  )
  violating m set Reset rs cs h = record {
    segment = reset_segment d e to follows resets rows m set (window_of set 0) rs cs h.segment;
    broken = ap (λ zs. committed m set 0 zs) (trace d e to follows resets rows cs) ∙ h.broken;
  }
  violating m set (Operation p) rs cs (none, h) = (
    ap (map to) none,
    record {
      segment = segment d e to follows resets rows m set (window_of set p) cs h.segment;
      assumes = ap (λ zs. assumed m set p zs) (trace d e to follows resets rows cs) ∙ h.assumes;
      broken = ap (λ zs. committed m set p zs) (trace d e to follows resets rows cs) ∙ h.broken;
    },
  )
  violating m set (End p) rs cs h = h
  violating m set (Split p) rs cs h = h
  violating m set (SameEnd p) rs cs h = h
  violating m set (Choose p q) rs cs h = h
  violating m set (Hand p q) rs cs h = h
  violating m set (Determine p) rs cs h = h

module _ (ms : List Module) (f : Flat) (b : Pair) (keeps : KeepsRuns ms b.set.block f) (runs : HasRunsOf f b.design) where
  abbrev to : DesignCycle b.design → CycleFrom ms b.set.block
  to c = to_modules ms b.set.block f b.design keeps runs c

  first_same : (cs : List (DesignCycle b.design)) → first_values b.design (map to cs) ≡ first_values b.design cs
  first_same [] = refl
  first_same (c ∷ cs) = refl

  shows_segment : (line : Line) (values : Naming) (shown : Shown) → ShowsSegment b.design (meaning_of b.set) b.set line values shown → ShowsModules ms b line shown
  shows_segment line values shown h =
      let words = word_design b.design b.set in
      let modules = design_from ms b.set.block b.set in
      let steps = steps_to_modules ms b.set.block f b.design b.set keeps runs in
      let joined = map_append words modules to steps (λ c. refl) (λ c. refl) h.resets h.cycles in
      record {
        resets = map to h.resets;
        cycles = map to h.cycles;
        violating = violating words modules to steps (λ c. refl) (λ c. refl) (meaning_of b.set) b.set line h.resets h.cycles h.violating;
        start = h.start ∙ (sym (first_same (h.resets ++ h.cycles)) ∙ ap (λ cs. first_values b.design cs) joined);
        before = h.before ∙ sym (size words modules to steps (λ c. refl) (λ c. refl) h.resets);
        names = h.names;
        rows = h.rows ∙ (sym (trace words modules to steps (λ c. refl) (λ c. refl) (h.resets ++ h.cycles)) ∙ ap (trace_of modules) joined);
        second = h.second;
      }

  no_design : (A : Type 0) → false ≡ true → A
  no_design A is = absurd (let no : false ≡ true = is in cc)

  shows_line : (line : Line) (values : Naming) (shown : Shown) → is_on_design line ≡ true → ShowsLine b line values shown → ShowsModules ms b line shown
  shows_line (Base i) values shown on h = shows_segment (Base i) values shown h
  shows_line (Step i) values shown on h = shows_segment (Step i) values shown h
  shows_line Reset values shown on h = shows_segment Reset values shown h
  shows_line (Operation p) values shown on h = shows_segment (Operation p) values shown h
  shows_line (End p) values shown on h = no_design (ShowsModules ms b (End p) shown) on
  shows_line (Split p) values shown on h = no_design (ShowsModules ms b (Split p) shown) on
  shows_line (SameEnd p) values shown on h = no_design (ShowsModules ms b (SameEnd p) shown) on
  shows_line (Choose p q) values shown on h = no_design (ShowsModules ms b (Choose p q) shown) on
  shows_line (Hand p q) values shown on h = no_design (ShowsModules ms b (Hand p q) shown) on
  shows_line (Determine p) values shown on h = no_design (ShowsModules ms b (Determine p) shown) on

  pub shows_modules : (line : Line) (ob : ObParts) (evidence : Evidence) (o : Option Shown) → IsTraceOf b line ob evidence o → is_on_design line ≡ true → IfSome o (ShowsModules ms b line)
  shows_modules line ob (e.Derivation steps) o h on = subst (λ (z : Option Shown). IfSome z (ShowsModules ms b line)) (sym h) tt
  shows_modules line ob (e.Values us) None h on = absurd h
  shows_modules line ob (e.Values us) (Some shown) h on = shows_line line (naming_from ob.nodes us.items) shown on h
  shows_modules line ob (e.Chain steps) o h on = subst (λ (z : Option Shown). IfSome z (ShowsModules ms b line)) (sym h) tt
