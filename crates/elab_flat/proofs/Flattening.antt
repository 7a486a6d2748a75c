-- What the texts of checked scopes make, and which faults stand.
use Rattle.std.proofs.Common.{◌≡◌, List, [], map, Some, inl, inr, sym, subst, ◌∙◌}
use Rattle.vlog_tree.specs.declared.module.Module.{Module}
use Rattle.vlog_tree_runs.specs.declared.flat.Flat.{Flat}
use Rattle.vlog_tree_runs.specs.Places.{Name}
use Rattle.vlog_tree_runs.specs.Contents.{decls_in, port_names}
use Rattle.vlog_tree_runs.specs.Scopes.{Scope, module_at}
use Rattle.elab_flat_faults.specs.declared.flattening.FlatFault.{FlatFault}
use Rattle.elab_flat_faults.specs.declared.flattening.FlatFault.TheVariants as f
use Rattle.elab_flat_faults.specs.Declaring.{Repeats}
use Rattle.elab_flat_faults.specs.FlatStands.{path_name, BreaksConstant, BreaksWidth, Stands}
use Rattle.elab_flat_scopes.specs.Finding.{module_name}
use Rattle.elab_flat_instances.specs.Unfolding.{AreUnfolded, IsOfWhole}
use Rattle.elab_flat_instances.proofs.Names.{named_by_prefix}
use Rattle.elab_flat_faults.specs.Handed.{top_port, HasTopPorts}
use Rattle.elab_flat.specs.Checked.{AreChecked}

pub has_ports : (ms : List Module) (top : Name) (m : Module) (flat : Flat) → module_at ms top ≡ Some m → flat.ports ≡ map (top_port (decls_in m)) (port_names m) → HasTopPorts ms top flat
has_ports ms top m flat there ports n e =
    let both : Some m ≡ Some n = sym there ∙ e in
    let same : m ≡ n = cc in
    subst (λ z. flat.ports ≡ map (top_port (decls_in z)) (port_names z)) same ports

module _ (ms : List Module) (top : Name) (ss : List Scope) (are : AreUnfolded ms top ss) (checked : AreChecked ms top ss) where
  pub none_stands : ((n : Name) → Repeats (map module_name ms) n → ⊥) → ((fault : FlatFault) → IsOfWhole fault → Stands ms top fault → ⊥) →
      ((n : Name) → Stands ms top (f.Clock n) → ⊥) → (fault : FlatFault) → Stands ms top fault → ⊥
  none_stands once whole timed f.NoTop h = whole f.NoTop tt h
  none_stands once whole timed (f.Recursion n) h = whole (f.Recursion n) tt h
  none_stands once whole timed f.Instances h = whole f.Instances tt h
  none_stands once whole timed (f.Unknown n) (path, s, at, h) = (checked s (are.scopes.each s (path, at))).names (f.Unknown n) tt (path_name top path) h
  none_stands once whole timed (f.Twice n) (inl h) = once n h
  none_stands once whole timed (f.Twice n) (inr (path, s, at, h)) = (checked s (are.scopes.each s (path, at))).names (f.Twice n) tt (path_name top path) h
  none_stands once whole timed (f.Port n) (path, s, at, h) = (checked s (are.scopes.each s (path, at))).names (f.Port n) tt (path_name top path) h
  none_stands once whole timed (f.Constant n) (path, s, at, h) =
      (checked s (are.scopes.each s (path, at))).lengths n (inl (subst (λ p. BreaksConstant ms p s n) (sym (named_by_prefix ms top path s at)) h))
  none_stands once whole timed (f.Width n) (path, s, at, h) =
      (checked s (are.scopes.each s (path, at))).lengths n (inr (subst (λ p. BreaksWidth ms p s n) (sym (named_by_prefix ms top path s at)) h))
  none_stands once whole timed (f.Clock n) h = timed n h
  none_stands once whole timed f.Memory h = h
