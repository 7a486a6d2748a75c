-- The segment that values name, and that it violates the line.
use Rattle.std.proofs.Common.{◌≡◌, ℕ, ◌+◌, ◌<◌, true, List, [], ◌∷◌, ◌++◌, length, get_or, map, refl, sym, ap, ◌∙◌, subst, arith, length-append}
use Rattle.std.proofs.lemmas.List.{length-map}
use Rattle.std.proofs.lemmas.List.Elements.{All-nil}
use Rattle.set_tree.specs.declared.line.Line.{Line}
use Rattle.set_tree.specs.declared.line.Line.TheVariants.{Base, Step, Reset, Operation, End, Split, SameEnd, Choose, Hand, Determine}
use Rattle.set_tree.specs.declared.set.Set.{Set}
use Rattle.set_tree.specs.Lines.{IsWindow}
use Rattle.set_tree.specs.Meaning.{Meaning}
use Rattle.set_tree.specs.Parts.{window_of}
use Rattle.set_tree.specs.Runs.{IsResetSegment, IsSegment, trace_of}
use Rattle.vlog_tree_runs.specs.Places.{Among}
use Rattle.vlog_tree.specs.Valuation.{IsLength}
use Rattle.word_core.specs.Words.{Bits}
use Rattle.word_dag.specs.declared.node.Node.{Node}
use Rattle.word_dag.specs.Nodes.{Naming, root_value}
use Rattle.word_dag.specs.Names.{HasOneWordEach, naming_from}
use Rattle.word_dag.proofs.NamingLaws.{values_have_namings}
use Rattle.elab_step_design.specs.declared.design.Register.{Register}
use Rattle.elab_step_design.specs.Designs.{IsDesign, Parts, source}
use Rattle.elab_step_design.specs.Laws.{DesignCycle, word_design}
use Rattle.unroll_binding.specs.Binding.{Fits}
use Rattle.unroll_laws.specs.Laws.{IsNamedRun}
use Rattle.twin_tests_laws.specs.Lines.{RootIs1}
use Rattle.unroll_laws.specs.Lines.{IsOf, Violates}
use Rattle.unroll_laws.specs.Segments.{IsNamedBy}
use Rattle.unroll_laws.specs.Tests.{rows_from}
use Rattle.unroll_laws.proofs.Holding.{register_source}
use Rattle.unroll_laws.proofs.Running.{all_hold, levels_of, map_agree, rows_hold}
use Rattle.unroll.proofs.Leaving.{among_at, source_wide}
use Rattle.replay.specs.declared.shown.Shown.{Shown}
use Rattle.replay.specs.Segments.{AreViolatingCycles, ShowsNamed, ShowsSegment, first_values, last_cycle, named_start, resets_of, started}

module _ (d : Parts) (h : IsDesign d) (set : Set) (fits : Fits d set) (e : Naming) where
  abbrev Segment : Type 0
  Segment = List (DesignCycle d)

  pub starts_named : (k : ℕ) (cycles : Segment) → IsNamedBy d set k e cycles → 0 < length cycles → first_values d cycles ≡ map (named_start e k) d.registers
  starts_named k [] named some = absurd (omega (arith, some))
  starts_named k (c ∷ cycles) named some = map_agree (λ (r : Register). started r.name (c.0 r.name)) (named_start e k) d.registers (λ r m. ap (started r.name) (named.registers r m))

  pub rows_named : (k end : ℕ) (resets cycles : Segment) → IsNamedRun d set k e resets cycles → length cycles ≡ end + 1 → trace_of (word_design d set) (resets ++ cycles) ≡ rows_from d set k e 0 (k + end + 1)
  rows_named k end resets cycles run size =
      let count = run.count in
      let levels = levels_of d h set fits k e 0 resets cycles (omega (arith, count)) run.active run.inactive in
      let whole : length (resets ++ cycles) ≡ k + end + 1 = length-append resets cycles ∙ (let sum : length resets + length cycles ≡ k + end + 1 = omega (arith, count, size) in sum) in
      rows_hold d h set fits k e 0 (resets ++ cycles) (all_hold d h set fits k e (resets ++ cycles) run.run run.named levels) ∙ ap (rows_from d set k e 0) whole

  module _ (m : Meaning) (shown : Shown) where
    shows_run : (line : Line) (k end : ℕ) (resets cycles : Segment) → AreViolatingCycles (word_design d set) m set line resets cycles → IsNamedRun d set k e resets cycles → length cycles ≡ end + 1 → ShowsNamed d set e k end shown → ShowsSegment d m set line e shown
    shows_run line k end resets cycles violating run size told =
        let count = run.count in
        let some : 0 < length (resets ++ cycles) = let whole = length-append resets cycles in omega (arith, whole, size) in record {
          resets = resets;
          cycles = cycles;
          violating = violating;
          named = subst (λ j. IsNamedBy d set j e (resets ++ cycles)) (sym count) run.named;
          start = told.start ∙ sym (starts_named k (resets ++ cycles) run.named some);
          before = told.before ∙ sym count;
          names = told.names;
          rows = told.rows ∙ sym (rows_named k end resets cycles run size);
          second = told.second;
        }

    pub cycles_count : (end : ℕ) (cycles : Segment) → IsWindow m set end (trace_of (word_design d set) cycles) → length cycles ≡ end + 1
    cycles_count end cycles window = sym (length-map cycles (word_design d set).row) ∙ window.size

    after_reset : (line : Line) (end : ℕ) (resets cycles : Segment) → AreViolatingCycles (word_design d set) m set line resets cycles → IsNamedBy d set set.cycles e (resets ++ cycles) → IsResetSegment (word_design d set) m set end resets cycles → ShowsNamed d set e set.cycles end shown → ShowsSegment d m set line e shown
    after_reset line end resets cycles violating named segment told =
        let run = segment.from_reset in
        shows_run line set.cycles end resets cycles violating (record { run = run.run; count = run.count; active = run.active; inactive = run.inactive; named = named }) (cycles_count end cycles segment.window) told

    from_any : (line : Line) (end : ℕ) (cycles : Segment) → AreViolatingCycles (word_design d set) m set line [] cycles → IsNamedBy d set 0 e cycles → IsSegment (word_design d set) m set end cycles → ShowsNamed d set e 0 end shown → ShowsSegment d m set line e shown
    from_any line end cycles violating named segment told =
        shows_run line 0 end [] cycles violating (record { run = segment.run; count = refl; active = All-nil (λ c. (word_design d set).is_reset c ≡ true); inactive = segment.inactive; named = named }) (cycles_count end cycles segment.window) told

    -- where the values' segment violates the line, what is shown of it does
    pub shows_segment : (line : Line) → Violates d m set line e → ShowsNamed d set e (resets_of set line) (last_cycle set line) shown → ShowsSegment d m set line e shown
    shows_segment (Base i) v told = after_reset (Base i) 0 v.1 v.2 (v.0, v.3, v.5) v.4 v.5.segment told
    shows_segment (Step i) v told = from_any (Step i) 1 v.1 (refl, v.0, v.2, v.4) v.3 v.4.segment told
    shows_segment Reset v told = after_reset Reset (window_of set 0) v.0 v.1 v.3 v.2 v.3.segment told
    shows_segment (Operation p) v told = from_any (Operation p) (window_of set p) v.0 (refl, v.2) v.1 v.2.segment told
    shows_segment (End p) v told = absurd v
    shows_segment (Split p) v told = absurd v
    shows_segment (SameEnd p) v told = absurd v
    shows_segment (Choose p q) v told = absurd v
    shows_segment (Hand p q) v told = absurd v
    shows_segment (Determine p) v told = absurd v

-- values at which the root of a line's obligation is 1 name a segment that violates the line
pub values_violate : (d : Parts) (m : Meaning) (set : Set) (line : Line) (nodes : List Node) (root : ℕ) (us : List ℕ) → IsOf d m set line nodes root → HasOneWordEach nodes → (root_value us nodes root).value ≡ 1 → Violates d m set line (naming_from nodes us)
values_violate d m set line nodes root us of_line words is =
    let one : RootIs1 nodes root (naming_from nodes us) = ap (λ (w : Bits). w.value) (values_have_namings nodes us words root) ∙ is in
    (of_line (naming_from nodes us)).0 one

-- registers have lengths
pub registers_wide : (d : Parts) → IsDesign d → (rs : List Register) → rs ≡ d.registers → (k : ℕ) (r : Register) → k < length rs → IsLength (get_or rs k r).width
registers_wide d h rs same k r lt =
    let there : Among d.registers (get_or rs k r) = subst (λ (zs : List Register). Among zs (get_or rs k r)) same (among_at rs k r lt) in
    let wide = source_wide d h (source (get_or rs k r)) (register_source d (get_or rs k r) there) in
    (omega (arith, wide.0), wide.1)
