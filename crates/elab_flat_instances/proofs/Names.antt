-- The names of instances, and what stands in front of their names.
use Rattle.std.proofs.Common.{◌≡◌, ◌-◌, List, [], ◌∷◌, ◌++◌, length, take, codes, Option, Some, None, refl, sym, ap, ◌∙◌, arith, length-append, append-nil}
use Rattle.std.proofs.lemmas.List.{append_assoc}
use Rattle.std.proofs.Math.Seq.{take-append_seam}
use Rattle.vlog_tree.specs.declared.module.Module.{Module}
use Rattle.vlog_tree_runs.specs.Places.{Name}
use Rattle.vlog_tree_runs.specs.Contents.{Inner, instances_in}
use Rattle.vlog_tree_runs.specs.Scopes.{Scope, module_at, instance_at, scope_in, child_by, step, scope_from, scope_at, top_scope, params_of}
use Rattle.elab_flat_laws.proofs.Apart.{none_stays, instance_found}
use Rattle.elab_flat_faults.specs.FlatStands.{path_name}
use Rattle.elab_flat_instances.specs.Naming.{prefix_name}
use Rattle.elab_flat_instances.proofs.Walks.{inside}

-- each name of a path with a dot behind it
abbrev dotted : List Name → Name
dotted [] = []
dotted (x ∷ path) = x ++ codes "." ++ dotted path

module _ (ms : List Module) where
  prefix_in : (s u : Scope) (i : Inner) (o : Option Module) → scope_in s i o ≡ Some u → u.prefix ≡ s.prefix ++ i.name ++ codes "."
  prefix_in s u i None e = cc
  prefix_in s u i (Some m) e = let same : inside s i m ≡ u = cc in ap (λ (z : Scope). z.prefix) (sym same)

  named_found : (is : List Inner) (x : Name) (i : Inner) → instance_at is x ≡ Some i → i.name ≡ x
  named_found is x i e = (instance_found is x i e).1

  prefix_by : (s t : Scope) (x : Name) (path : List Name) → ((u : Scope) → scope_from ms (Some u) path ≡ Some t → t.prefix ≡ u.prefix ++ dotted path) →
      (i : Option Inner) → instance_at (instances_in s.module') x ≡ i → (u : Option Scope) → child_by ms s i ≡ u → scope_from ms u path ≡ Some t → t.prefix ≡ s.prefix ++ dotted (x ∷ path)
  prefix_by s t x path rest i found None is end = let z : None ≡ Some t = sym (none_stays ms path) ∙ end in cc
  prefix_by s t x path rest None found (Some u) is end = cc
  prefix_by s t x path rest (Some i) found (Some u) is end =
      rest u end ∙ (ap (λ p. p ++ dotted path) (prefix_in s u i (module_at ms i.of_module) is ∙ ap (λ n. s.prefix ++ n ++ codes ".") (named_found (instances_in s.module') x i found))
      ∙ (ap (λ p. p ++ dotted path) (append_assoc s.prefix x (codes ".")) ∙ append_assoc s.prefix (x ++ codes ".") (dotted path)))

  prefix_from : (path : List Name) (s t : Scope) → scope_from ms (Some s) path ≡ Some t → t.prefix ≡ s.prefix ++ dotted path
  prefix_from [] s t e = let same : s ≡ t = cc in ap (λ (z : Scope). z.prefix) (sym same) ∙ sym (append-nil s.prefix)
  prefix_from (x ∷ path) s t e =
      prefix_by s t x path (λ u h. prefix_from path u t h) (instance_at (instances_in s.module') x) refl (step ms (Some s) x) refl e

  prefix_top : (m : Option Module) (path : List Name) (t : Scope) → scope_from ms (top_scope m) path ≡ Some t → t.prefix ≡ dotted path
  prefix_top None path t e = let z : None ≡ Some t = sym (none_stays ms path) ∙ e in cc
  prefix_top (Some m) path t e = prefix_from path (record { prefix = []; module' = m; params = params_of m [] [] }) t e

-- one dot more
dots : (top : Name) (x : Name) (path : List Name) → path_name top (x ∷ path) ++ codes "." ≡ dotted (x ∷ path)
dots top x [] = sym (append-nil (x ++ codes "."))
dots top x (y ∷ path) = append_assoc (x ++ codes ".") (path_name top (y ∷ path)) (codes ".") ∙ ap (λ n. x ++ codes "." ++ n) (dots top y path)

without_dot : (top xs : Name) → prefix_name top (xs ++ codes ".") ≡ xs
without_dot top [] = refl
without_dot top (x ∷ xs) =
    let long : length ((x ∷ xs) ++ codes ".") - 1 ≡ length (x ∷ xs) = omega (arith, length-append (x ∷ xs) (codes ".")) in
    ap (λ n. take n ((x ∷ xs) ++ codes ".")) long ∙ take-append_seam (x ∷ xs) (codes ".")

by_path : (top : Name) (path : List Name) → prefix_name top (dotted path) ≡ path_name top path
by_path top [] = refl
by_path top (x ∷ path) = ap (prefix_name top) (sym (dots top x path)) ∙ without_dot top (path_name top (x ∷ path))

-- the name of a scope by its prefix
pub named_by_prefix : (ms : List Module) (top : Name) (path : List Name) (s : Scope) → scope_at ms top path ≡ Some s → prefix_name top s.prefix ≡ path_name top path
named_by_prefix ms top path s e = ap (prefix_name top) (prefix_top ms (module_at ms top) path s e) ∙ by_path top path
