use Rattle.std.proofs.Common.{◌≡◌, ◌++◌, drop, map}
use Rattle.vlog_tree_runs.specs.Contents.{decls_in, port_names}
use Rattle.elab_flat_scopes.specs.Borrowed.{name_meant}
use Rattle.elab_flat_faults.specs.Handed.{top_port}
use Rattle.elab_flat.proofs.port.ports_of.Given as goal

abbrev pub invariant-loop-name : goal.invariant-loop-name
invariant-loop-name l =
    l.ports ++ map (top_port (decls_in l.text)) (map name_meant (drop l.name-index l.name-items)) ≡ map (top_port (decls_in l.text)) (port_names l.text)
