-- The segment that values name, and that it meets the line.
use Rattle.std.proofs.Common.{◌≡◌, ℕ, ◌+◌, ◌<◌, true, List, [], ◌++◌, length, refl, sym, ap, ◌∙◌, subst, arith, length-append}
use Rattle.std.proofs.lemmas.List.Elements.{All-nil}
use Rattle.set_tree.specs.declared.set.Set.{Set}
use Rattle.set_tree.specs.Meaning.{Meaning}
use Rattle.set_tree.specs.Parts.{largest_window, window_of}
use Rattle.word_core.specs.Words.{Bits}
use Rattle.word_dag.specs.declared.node.Node.{Node}
use Rattle.word_dag.specs.Nodes.{Naming, root_value}
use Rattle.word_dag.specs.Names.{HasOneWordEach, naming_from}
use Rattle.word_dag.proofs.NamingLaws.{values_have_namings}
use Rattle.elab_step_design.specs.Designs.{IsDesign, Parts}
use Rattle.elab_step_design.specs.Laws.{DesignCycle, word_design}
use Rattle.unroll_binding.specs.Binding.{Fits}
use Rattle.twin_tests_laws.specs.Lines.{RootIs1}
use Rattle.unroll_laws.specs.Laws.{IsNamedRun}
use Rattle.unroll_laws.specs.Segments.{IsNamedBy}
use Rattle.replay.specs.declared.shown.Shown.{Shown}
use Rattle.replay.specs.Segments.{ShowsNamed}
use Rattle.replay.proofs.Showing.{cycles_count, rows_named, starts_named}
use Rattle.meet_lines.specs.declared.line.MeetLine.{MeetLine}
use Rattle.meet_lines.specs.declared.line.MeetLine.TheVariants.{Reset, Operation}
use Rattle.meet_lines.specs.Lines.{AreMeetingCycles, IsOf, Meets}
use Rattle.meet_lines.specs.Shown.{ShowsMeeting, last_cycle, resets_of}

module _ (d : Parts) (h : IsDesign d) (set : Set) (fits : Fits d set) (e : Naming) (m : Meaning) (shown : Shown) where
  shows_run : (line : MeetLine) (k end : ℕ) (resets cycles : List (DesignCycle d)) → AreMeetingCycles (word_design d set) m set line resets cycles → IsNamedRun d set k e resets cycles → length cycles ≡ end + 1 → ShowsNamed d set e k end shown → ShowsMeeting d m set line e shown
  shows_run line k end resets cycles meeting run size told =
      let count = run.count in
      let some : 0 < length (resets ++ cycles) = let whole = length-append resets cycles in omega (arith, whole, size) in record {
        resets = resets;
        cycles = cycles;
        meeting = meeting;
        named = subst (λ j. IsNamedBy d set j e (resets ++ cycles)) (sym count) run.named;
        start = told.start ∙ sym (starts_named d h set fits e k (resets ++ cycles) run.named some);
        before = told.before ∙ sym count;
        names = told.names;
        rows = told.rows ∙ sym (rows_named d h set fits e k end resets cycles run size);
        second = told.second;
      }

  -- where the values' segment meets the line, what is shown of it does
  pub shows_meeting : (line : MeetLine) → Meets d m set line e → ShowsNamed d set e (resets_of set line) (last_cycle set line) shown → ShowsMeeting d m set line e shown
  shows_meeting Reset (resets, cycles, named, segment) told =
      let run = segment.from_reset in
      let counted : IsNamedBy d set set.cycles e (resets ++ cycles) = subst (λ k. IsNamedBy d set k e (resets ++ cycles)) run.count named in
      shows_run Reset set.cycles (largest_window set) resets cycles segment (record { run = run.run; count = run.count; active = run.active; inactive = run.inactive; named = counted }) (cycles_count d h set fits e m shown (largest_window set) cycles segment.window) told
  shows_meeting (Operation p) (resets, cycles, named, (none, segment, assumes)) told =
      let alone : IsNamedBy d set 0 e cycles = subst (λ (rs : List (DesignCycle d)). IsNamedBy d set (length rs) e (rs ++ cycles)) none named in
      shows_run (Operation p) 0 (window_of set p) [] cycles (refl, segment, assumes) (record { run = segment.run; count = refl; active = All-nil (λ c. (word_design d set).is_reset c ≡ true); inactive = segment.inactive; named = alone })
      (cycles_count d h set fits e m shown (window_of set p) cycles segment.window) told

-- values at which the root of a line's obligation is 1 name a segment that meets the line
pub values_meet : (d : Parts) (m : Meaning) (set : Set) (line : MeetLine) (nodes : List Node) (root : ℕ) (us : List ℕ) → IsOf d m set line nodes root → HasOneWordEach nodes → (root_value us nodes root).value ≡ 1 → Meets d m set line (naming_from nodes us)
values_meet d m set line nodes root us of_line words is =
    let one : RootIs1 nodes root (naming_from nodes us) = ap (λ (w : Bits). w.value) (values_have_namings nodes us words root) ∙ is in
    (of_line (naming_from nodes us)).0 one
