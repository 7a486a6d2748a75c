-- What stands at a scope or around it stands.
use Rattle.std.proofs.Common.{List, inl, inr}
use Rattle.vlog_tree.specs.declared.module.Module.{Module}
use Rattle.vlog_tree_runs.specs.Places.{Name, Among}
use Rattle.vlog_tree_runs.specs.Contents.{instances_in}
use Rattle.vlog_tree_runs.specs.Scopes.{Scope}
use Rattle.elab_flat_laws.proofs.Apart.{instance_found}
use Rattle.elab_flat_faults.specs.declared.flattening.FlatFault.{FlatFault}
use Rattle.elab_flat_faults.specs.FlatStands.{Stands}
use Rattle.elab_flat_widths.specs.Texts.{StandsAround}
use Rattle.elab_flat_instances.specs.Naming.{prefix_name}
use Rattle.elab_flat_instances.specs.Unfolding.{AreUnfolded}
use Rattle.elab_flat_instances.proofs.Standing.{in_scope}
use Rattle.elab_flat.proofs.Sound.{at_one}

module _ (ms : List Module) (top : Name) (ss : List Scope) (are : AreUnfolded ms top ss) where
  pub around_stands : (s : Scope) → Among ss s → (fault : FlatFault) → StandsAround ms (prefix_name top s.prefix) s fault → Stands ms top fault
  around_stands s a fault (inl h) = at_one ms top ss are s a fault h
  around_stands s a fault (inr (i, found, t, is, h)) =
      let here = (instance_found (instances_in s.module') i.name i found).0 in
      let p = are.scopes.only t (are.scopes.inner s t i a here is) in
      in_scope ms top p.0 t p.1 fault h
