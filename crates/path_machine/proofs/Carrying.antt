-- The run that rows give of a design, carried to its modules.
use Rattle.std.proofs.Common.{List, [], ◌∷◌, ◌++◌, map, refl, sym, ◌∙◌, subst}
use Rattle.vlog_tree.specs.declared.module.Module.{Module}
use Rattle.vlog_tree_runs.specs.declared.flat.Flat.{Flat}
use Rattle.elab_flat_laws.specs.Flattened.{KeepsRuns}
use Rattle.set_tree.specs.declared.set.Set.{Set}
use Rattle.set_tree.specs.Meaning.{Row}
use Rattle.elab_step_design.specs.SetDesigns.{CycleFrom, design_from}
use Rattle.elab_step_design.specs.Designs.{HasRunsOf, Parts}
use Rattle.elab_step_design.specs.Laws.{DesignCycle, word_design}
use Rattle.unroll_laws.proofs.Carried.{from_reset, map_append, steps_to_modules, to_modules, trace}
use Rattle.path_machine.specs.Runs.{BeginsAt0, RunTracesAreTheModules, TakesRows}

module _ (ms : List Module) (f : Flat) (d : Parts) (set : Set) (keeps : KeepsRuns ms set.block f) (runs : HasRunsOf f d) where
  abbrev to : DesignCycle d → CycleFrom ms set.block
  to c = to_modules ms set.block f d keeps runs c

  begins : (cs : List (DesignCycle d)) → BeginsAt0 d cs → BeginsAt0 d (map to cs)
  begins [] h = tt
  begins (c ∷ cs) h = h

  takes : (rows : List Row) (cs : List (DesignCycle d)) → TakesRows d set rows cs → TakesRows d set rows (map to cs)
  takes [] [] h = tt
  takes [] (c ∷ cs) h = h
  takes (row ∷ rows) [] h = h
  takes (row ∷ rows) (c ∷ cs) h = (h.0, takes rows cs h.1)

pub run_traces_are_the_modules : RunTracesAreTheModules
run_traces_are_the_modules ms f d set rows trace' keeps runs h =
    let design = word_design d set in
    let other = design_from ms set.block set in
    let carry = to ms f d set keeps runs in
    let steps = steps_to_modules ms set.block f d set keeps runs in
    let joined = map_append design other carry steps (λ a. refl) (λ a. refl) h.resets h.cycles in
    record {
      resets = map carry h.resets;
      cycles = map carry h.cycles;
      from_reset = from_reset design other carry steps (λ a. refl) (λ a. refl) set h.resets h.cycles h.from_reset;
      begins = subst (λ cs. BeginsAt0 d cs) joined (begins ms f d set keeps runs (h.resets ++ h.cycles) h.begins);
      takes = subst (λ cs. TakesRows d set rows cs) joined (takes ms f d set keeps runs rows (h.resets ++ h.cycles) h.takes);
      is = h.is ∙ sym (trace design other carry steps (λ a. refl) (λ a. refl) h.cycles);
    }
