-- From modules to a module without instances and memories that can be elaborated.
use Rattle.std.proofs.Common.{◌≡◌, List, refl, sym, subst}
use Rattle.vlog_tree.specs.declared.module.Module.{Module}
use Rattle.vlog_tree_runs.specs.declared.flat.Flat.{Flat}
use Rattle.vlog_tree_runs.specs.Places.{Name}
use Rattle.elab_flat_laws.specs.Flattened.{KeepsRuns}
use Rattle.elab_flat_faults.specs.declared.flattening.FlatFault.TheVariants as f
use Rattle.desk_core_stage_laws.proofs.NumberFacts.{are_numbered}
use Rattle.elab_flat_faults.specs.Handed.{AreNumbered, HasClocks, HasTopPorts}
use Rattle.elab_flat_faults.specs.Plain.{ArePlainTexts}
use Rattle.mem_laws.specs.Spread.{spread_flat}
use Rattle.mem_laws.specs.Stands.{IsFaultless as HasNoMemoryFault}
use Rattle.mem_laws.specs.Laws.{DeclaresWords, KeepsRuns as KeepsRunsSpread}
use Rattle.elab_step_nets.specs.Asked.{CanElaborate}
use Rattle.desk_core_stage_laws.specs.Sized.{HasSizedTexts}
use Rattle.desk_core_stage_laws.proofs.Sizing.{sized_texts}
use Rattle.desk_core_stage_laws.proofs.Elaborating.{can_elaborate, is_numbered}
use Rattle.desk_core_stages.specs.Stages.{IsFaultlessFlatOf, IsPlainFlatOf}

-- its texts can be taken where they stand
pub whole_sized : (ms : List Module) (top : Name) (whole : Flat) → ArePlainTexts ms → IsFaultlessFlatOf ms top whole → HasTopPorts ms top whole → HasSizedTexts whole
whole_sized ms top whole texts h ports =
    sized_texts ms top h.flattened.scopes whole texts h.flattened.texts h.flattened.all h.flattened.own h.flattened.usable ports h.faultless

-- without memories it has the runs, the ports and the clocks
runs_spread : (ms : List Module) (top : Name) (whole : Flat) → KeepsRuns ms top whole → KeepsRunsSpread whole → KeepsRuns ms top (spread_flat whole)
runs_spread ms top whole h k = record {
  cycle = λ c. (λ s. (h.cycle c).0 ((k.cycle c).1 s), λ s. (k.cycle c).0 ((h.cycle c).1 s));
  follows = λ c d. (λ s. (h.follows c d).0 ((k.follows c d).1 s), λ s. (k.follows c d).0 ((h.follows c d).1 s));
}

clocks_spread : (ms : List Module) (top : Name) (whole : Flat) → HasClocks ms top whole → HasClocks ms top (spread_flat whole)
clocks_spread ms top whole h = record { clock = h.clock; asyncs = h.asyncs }

module _ (ms : List Module) (top : Name) (whole flat : Flat) (h : IsFaultlessFlatOf ms top whole) (is : flat ≡ spread_flat whole) where
  pub plain_of : HasNoMemoryFault whole → KeepsRuns ms top whole → HasTopPorts ms top whole → HasClocks ms top whole → KeepsRunsSpread whole → DeclaresWords whole → IsPlainFlatOf ms top flat
  plain_of none runs ports clocks keeps words =
      subst (λ z. IsPlainFlatOf ms top z) (sym is) (record {
        whole = whole;
        whole_of = h;
        unfaulted = none;
        spread = refl;
        keeps = runs_spread ms top whole runs keeps;
        ports = ports;
        clocks = clocks_spread ms top whole clocks;
        plain = words.plain;
      })

  -- its bits have numbers of words
  pub plain_numbered : ArePlainTexts ms → HasTopPorts ms top whole → AreNumbered flat
  plain_numbered texts ports =
      subst AreNumbered (sym is)
      (is_numbered whole (whole_sized ms top whole texts h ports) (are_numbered ms top whole h.flattened (λ n. h.faultless (f.Constant n)) (λ n. h.faultless (f.Width n))))

  -- it can be elaborated
  pub plain_elaborates : ArePlainTexts ms → HasTopPorts ms top whole → HasNoMemoryFault whole → CanElaborate flat
  plain_elaborates texts ports none = subst CanElaborate (sym is) (can_elaborate whole (whole_sized ms top whole texts h ports) none)
