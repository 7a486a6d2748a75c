-- Scopes whose texts break no rule can be flattened.
use Rattle.std.proofs.Common.{◌≡◌, ◌||◌, Bool, true, false, List, [], ◌∷◌, map, Option, Some, None, inl, inr, ⊎_elim, refl, sym, subst, ◌∙◌, if◌then◌else◌}
use Rattle.std.specs.List.{flat_map}
use Rattle.vlog_tree.specs.declared.expr.Expr.TheVariants as e
use Rattle.vlog_tree.specs.declared.module.Module.{Module}
use Rattle.vlog_tree.specs.declared.stmt.Lval.TheVariants as l
use Rattle.vlog_tree_runs.specs.Places.{Name, Among, read}
use Rattle.vlog_tree_runs.specs.Blocks.{is_parameter}
use Rattle.vlog_tree_runs.specs.Contents.{Decl, signals_in, port_names, assigns_in, Inner, instances_in}
use Rattle.vlog_tree_runs.specs.Scopes.{Scope, place_of, child, Given, given_to, decl_at, left_of, Link, port_links, connection, connections, own_link, inner_links, links_of}
use Rattle.elab_flat_laws.specs.Uses.{has_signal, UsesDeclared, AreConstants}
use Rattle.elab_flat_laws.specs.Flattened.{IsLinkDeclared, IsUsable, CanFlatten}
use Rattle.elab_flat_laws.proofs.Apart.{are_apart}
use Rattle.elab_flat_laws.proofs.Lists.{bool_cases, among_append, append_right, among_map, among_flat}
use Rattle.elab_flat_faults.specs.declared.flattening.FlatFault.TheVariants as f
use Rattle.elab_flat_faults.specs.Declaring.{IsAssignable}
use Rattle.elab_flat_faults.specs.FlatStands.{inside}
use Rattle.elab_flat_faults.specs.Texts.{args_in}
use Rattle.elab_flat_scopes.specs.Finding.{decl_name}
use Rattle.elab_flat_instances.specs.Unfolding.{AreUnfolded}
use Rattle.elab_flat_names.specs.Assignable.{is_assignable}
use Rattle.elab_flat_names.proofs.Assigning.{can, of_can}
use Rattle.elab_flat_names.proofs.Using.{signals}
use Rattle.elab_flat_faults.specs.Plain.{IsPlainText, ArePlainTexts}
use Rattle.elab_flat.specs.Checked.{HasFitNames, AreChecked}
use Rattle.elab_flat.proofs.Contents.{in_inner, given_value}
use Rattle.elab_flat.proofs.Made.{IsMade, made, module_of}
use Rattle.elab_flat.proofs.Params.{are_constants}
use Rattle.elab_flat.proofs.Reading.{output_assigns}
use Rattle.elab_flat.proofs.Shallow.{are_shallow}
use Rattle.elab_flat.proofs.CheckedStanding.{decl_named, distinct, is_signal, has_named, uses, assign_left, assign_right, block_declared}

or_right : (a b : Bool) → b ≡ true → (a || b) ≡ true
or_right true b e = refl
or_right false b e = e

-- ---- connections

module _ (ms : List Module) (s t : Scope) (made-s : IsMade ms s) (made-t : IsMade ms t) (fit-s : HasFitNames ms s) (fit-t : HasFitNames ms t) (plain : IsPlainText s.module')
    (i : Inner) (here : Among (instances_in s.module') i) (child-is : child ms s i ≡ Some t) (d : Given) (given : Among (given_to (port_names t.module') i.args) d) where
  value_uses : UsesDeclared (place_of s) d.value
  value_uses = uses ms s made-s fit-s plain d.value (in_inner s.module' i d.value here (append_right (args_in i.overrides) (args_in i.args) d.value (given_value (port_names t.module') i.args d given)))

  abbrev names : List Name
  names = map decl_name (signals_in s.module')

  can_assign : (port : Decl) → decl_at (signals_in t.module') d.name ≡ Some port → port.input ≡ false → port.output ≡ true → IsAssignable (place_of s) d.value
  can_assign port at input output =
      ⊎_elim (λ y. can (place_of s) names (signals s.params (signals_in s.module')) d.value y)
      (λ n. absurd (fit-s (f.Port (inside s i d.name)) tt []
      (inr (i, here, t.module', module_of ms s t i child-is, inr (inr (d, given, port, at, input, output, unfit n, refl))))))
      (bool_cases (is_assignable names d.value))
    where
      unfit : is_assignable names d.value ≡ false → IsAssignable (place_of s) d.value → ⊥
      unfit n h = let z : true ≡ false = sym (of_can (place_of s) names (signals s.params (signals_in s.module')) d.value h) ∙ n in cc

  module _ (port : Decl) (at : decl_at (signals_in t.module') d.name ≡ Some port) where
    port_there : has_signal (place_of t).signals d.name ≡ true
    port_there = has_named ms t made-t fit-t d.name (decl_named (signals_in t.module') d.name port at)

    abbrev into_port : Link
    into_port = record { into = place_of t; left = l.Name d.name; from = place_of s; right = d.value }

    abbrev out_of_port : Link
    out_of_port = record { into = place_of s; left = left_of d.value; from = place_of t; right = e.Name (read d.name) }

    input_declared : IsLinkDeclared into_port
    input_declared = record { left = is_signal ms t made-t fit-t d.name port_there; right = value_uses }

    output_declared : port.input ≡ false → port.output ≡ true → IsLinkDeclared out_of_port
    output_declared input output = record {
      left = output_assigns (place_of s) (is_signal ms s made-s fit-s) d.value (can_assign port at input output) value_uses;
      right = (or_right (is_parameter (place_of t) d.name) (has_signal (place_of t).signals d.name) port_there, refl);
    }

    by_side : (a b : Bool) → port.input ≡ a → port.output ≡ b → (k : Link) → Among (if a then into_port ∷ [] else if b then out_of_port ∷ [] else []) k → IsLinkDeclared k
    by_side true b x y k (inl same) = subst IsLinkDeclared same input_declared
    by_side true b x y k (inr z) = absurd z
    by_side false true x y k (inl same) = subst IsLinkDeclared same (output_declared x y)
    by_side false true x y k (inr z) = absurd z
    by_side false false x y k z = absurd z

  port_declared : (o : Option Decl) → decl_at (signals_in t.module') d.name ≡ o → (k : Link) → Among (port_links (place_of s) (place_of t) d o) k → IsLinkDeclared k
  port_declared None at k h = absurd h
  port_declared (Some port) at k h = by_side port at port.input port.output refl refl k h

-- ---- scopes

module _ (ms : List Module) (top : Name) (ss : List Scope) (plain : ArePlainTexts ms) (are : AreUnfolded ms top ss) (checked : AreChecked ms top ss) where
  module _ (s : Scope) (a : Among ss s) where
    abbrev made-s : IsMade ms s
    made-s = made ms top s (are.scopes.only s a)

    abbrev plain-s : IsPlainText s.module'
    plain-s = plain s.module' made-s.listed

    own_declared : (k : Link) → Among (map (own_link (place_of s)) (assigns_in s.module')) k → IsLinkDeclared k
    own_declared k h =
        let r = among_map (own_link (place_of s)) (assigns_in s.module') k h in
        subst IsLinkDeclared r.2 (record {
          left = assign_left ms s made-s (checked s a).names plain-s r.0 r.1;
          right = assign_right ms s made-s (checked s a).names plain-s r.0 r.1;
        })

    inner_declared : (i : Inner) → Among (instances_in s.module') i → (k : Link) → Among (inner_links ms s i) k → IsLinkDeclared k
    inner_declared i here k h =
        let sound = are.sound s a i here in
        let t = sound.scope in
        let there : Among ss t = are.scopes.inner s t i a here sound.is_child.child_is in
        let h' : Among (connections (place_of s) i (Some t)) k = subst (λ o. Among (connections (place_of s) i o) k) sound.is_child.child_is h in
        let r = among_flat (connection (place_of s) t) (given_to (port_names t.module') i.args) k h' in
        port_declared ms s t made-s (made ms top t (are.scopes.only t there)) (checked s a).names (checked t there).names plain-s i here sound.is_child.child_is r.0 r.1
        (decl_at (signals_in t.module') r.0.name) refl k r.2

    link_declared : (k : Link) → Among (links_of ms s) k → IsLinkDeclared k
    link_declared k h =
        ⊎_elim (own_declared k) (λ m. let r = among_flat (inner_links ms s) (instances_in s.module') k m in inner_declared r.0 r.1 k r.2)
        (among_append (map (own_link (place_of s)) (assigns_in s.module')) (flat_map (inner_links ms s) (instances_in s.module')) k h)

    usable : IsUsable ms s
    usable = record {
      links = link_declared;
      blocks = block_declared ms s made-s (checked s a).names plain-s;
      constants = subst AreConstants (sym made-s.params) (are_constants s.module' made-s.given made-s.outer);
      distinct = distinct ms s made-s (checked s a).names;
    }

  pub can_flatten : CanFlatten ms ss
  can_flatten = record {
    apart = are_apart ms top ss (λ m a. (plain m a).names) (are_shallow ms top ss checked) are.scopes;
    usable = usable;
  }
