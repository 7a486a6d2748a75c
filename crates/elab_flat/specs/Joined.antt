-- The module without instances that the texts of scopes make.
use Rattle.std.specs.Prelude.{◌≡◌, List, map}
use Rattle.std.specs.List.{flat_map}
use Rattle.vlog_tree.specs.declared.module.Module.{Module}
use Rattle.vlog_tree_runs.specs.declared.flat.Flat.{Flat}
use Rattle.vlog_tree_runs.specs.Contents.{decls_in, port_names}
use Rattle.vlog_tree_runs.specs.Scopes.{Scope}
use Rattle.elab_flat_laws.specs.Flattened.{flat_signals, flat_assigns, flat_blocks}
use Rattle.elab_flat_faults.specs.Handed.{top_port}

-- the texts of the scopes one after another, and the ports of the top's header
pub record IsJoined (ms : List Module) (ss : List Scope) (top : Module) (f : Flat) : Type 0 where
  pub signals : f.signals ≡ flat_map flat_signals ss
  pub assigns : f.assigns ≡ flat_map (flat_assigns ms) ss
  pub blocks : f.blocks ≡ flat_map flat_blocks ss
  pub ports : f.ports ≡ map (top_port (decls_in top)) (port_names top)
