-- The table of an instance.
use Rattle.std.proofs.Common.{◌≡◌, ℕ, ◌+◌, ◌<◌, length, drop, get_or, map, Bor, ◌⊎◌, inl, inr, ⊎_elim, true, false, List, [], ◌∷◌, ◌++◌, Option, Some, None, refl, sym, ap, subst, ◌∙◌}
use Rattle.std.specs.Prelude.{nat_eq, reverse}
use Rattle.std.specs.Str.{bytes_eq}
use Rattle.std.proofs.lemmas.Bool.{cases_Bool, eqb-true}
use Rattle.std.proofs.lemmas.Slice.Eq.{bytes_eq-Decides}
use Rattle.vlog_tree.specs.declared.expr.Expr.{Expr}
use Rattle.vlog_tree.specs.declared.expr.Expr.TheVariants as e
use Rattle.std.proofs.lemmas.List.{append_assoc}
use Rattle.vlog_tree.specs.declared.module.Module.{Module}
use Rattle.vlog_tree_runs.specs.Places.{Name, Among, read}
use Rattle.vlog_tree_runs.specs.Contents.{Inner, instances_in, port_names}
use Rattle.vlog_tree_runs.specs.Scopes.{Scope, scope_at, instance_at, child, Given, given_at, given_to}
use Rattle.elab_flat_faults.specs.Clocks.{IsBitInput, Reaches}
use Rattle.elab_flat_clocks.specs.Tables.{Link, input_at, bit_inputs, reached, link_of, links, link_meant, IsTable, IsTableBelow}
use Rattle.elab_flat_laws.proofs.Lists.{map_append}
use Rattle.elab_flat_scopes.specs.Borrowed.{name_meant}
use Rattle.elab_flat_names.proofs.Searches.{rest_is}
use Rattle.elab_flat_clocks.specs.declared.table.Link.{Link as View}
use Rattle.elab_flat_clocks.proofs.Inputs.{is_bit, bit_is}

same_name : (x y : Name) → bytes_eq x y ≡ true → x ≡ y
same_name x y e = (bytes_eq-Decides x y).0 e

-- a name that is reached is read in the present row
named : (t : List Link) (o : Option Expr) (y : Name) → reached t o ≡ Some y → (z : Name) × (o ≡ Some (e.Name (read z))) × (input_at t z ≡ Some y)
named t None y h = cc
named t (Some (e.Name r)) y h = elim (cases_Bool (nat_eq r.offset 0)) [
  | inl q ↦ (let at : input_at t r.text ≡ Some y = rw q at h in (r.text, (λ i. Some (e.Name (record { text = r.text; offset = eqb-true r.offset 0 q i }))), at))
  | inr n ↦ (let none : None ≡ Some y = rw n at h in cc)
]
named t (Some a) y h = cc

of_named : (t : List Link) (o : Option Expr) (y z : Name) → o ≡ Some (e.Name (read z)) → input_at t z ≡ Some y → reached t o ≡ Some y
of_named t o y z is at = ap (reached t) is ∙ at

module _ (t : List Link) (ds : List Given) where
  skip : (z : Name) (o : Option Name) (ls : List Link) (x : Name) → bytes_eq z x ≡ false → input_at (link_of z o ++ ls) x ≡ input_at ls x
  skip z None ls x n = refl
  skip z (Some w) ls x n = rw n refl

  head : (z : Name) (o : Option Name) (ls : List Link) (x y : Name) → bytes_eq z x ≡ true → o ≡ Some y → input_at (link_of z o ++ ls) x ≡ Some y
  head z None ls x y q e = cc
  head z (Some w) ls x y q e = rw q e

  split : (z : Name) (o : Option Name) (ls : List Link) (x y : Name) → bytes_eq z x ≡ true → input_at (link_of z o ++ ls) x ≡ Some y → (o ≡ Some y) ⊎ (input_at ls x ≡ Some y)
  split z None ls x y q e = inr e
  split z (Some w) ls x y q e = inl (rw q at e)

  to : (xs : List Name) (x y : Name) → input_at (links t ds xs) x ≡ Some y → Among xs x × (reached t (given_at ds x) ≡ Some y)
  to [] x y e = cc
  to (z ∷ zs) x y e = elim (cases_Bool (bytes_eq z x)) [
    | inl q ↦ (let s = same_name z x q in
        ⊎_elim (λ h. (inl s, ap (λ n. reached t (given_at ds n)) (sym s) ∙ h)) (λ m. let r = to zs x y m in (inr r.0, r.1)) (split z (reached t (given_at ds z)) (links t ds zs) x y q e))
    | inr n ↦ (let r = to zs x y (sym (skip z (reached t (given_at ds z)) (links t ds zs) x n) ∙ e) in (inr r.0, r.1))
  ]

  from : (xs : List Name) (x y : Name) → Among xs x → reached t (given_at ds x) ≡ Some y → input_at (links t ds xs) x ≡ Some y
  from [] x y a e = absurd a
  from (z ∷ zs) x y a e = elim (cases_Bool (bytes_eq z x)) [
    | inl q ↦ head z (reached t (given_at ds z)) (links t ds zs) x y q (ap (λ n. reached t (given_at ds n)) (same_name z x q) ∙ e)
    | inr n ↦ skip z (reached t (given_at ds z)) (links t ds zs) x n ∙ from zs x y (⊎_elim (λ s. absurd (differ z x n s)) (λ m. m) a) e
  ]
    where
      differ : (z x : Name) → bytes_eq z x ≡ false → z ≡ x → ⊥
      differ z x n s = let q : true ≡ false = sym ((bytes_eq-Decides z x).1 s) ∙ n in cc

module _ (outer : List Link) (i : Inner) (s : Scope) (t : List Link) (is : t ≡ links outer (given_to (port_names s.module') i.args) (bit_inputs s)) (ms : List Module) (top : Name) (back : List Name) (o : Scope)
    (at : scope_at ms top (reverse back) ≡ Some o) (found : instance_at (instances_in o.module') i.name ≡ Some i) (made : child ms o i ≡ Some s) (table : IsTable ms top back outer) where
  abbrev given : List Given
  given = given_to (port_names s.module') i.args

  forth : (x y : Name) → input_at t x ≡ Some y → Reaches ms top (i.name ∷ back) x y
  forth x y e =
      let r = to outer given (bit_inputs s) x y (ap (λ z. input_at z x) (sym is) ∙ e) in
      let z = named outer (given_at given x) y r.1 in
      (o, at, i, found, s, made, is_bit s x r.0, z.0, z.1, (table z.0 y).0 z.2)

  back' : (x y : Name) → Reaches ms top (i.name ∷ back) x y → input_at t x ≡ Some y
  back' x y (o', at', i', found', s', made', bit, z, gave, reaches) =
      let os : Some o ≡ Some o' = sym at ∙ at' in
      let o-is : o' ≡ o = cc in
      let here : instance_at (instances_in o.module') i.name ≡ Some i' = subst (λ (p : Scope). instance_at (instances_in p.module') i.name ≡ Some i') o-is found' in
      let same-inner : Some i ≡ Some i' = sym found ∙ here in
      let i-is : i' ≡ i = cc in
      let made'' : child ms o i ≡ Some s' = subst (λ (j : Inner). child ms o j ≡ Some s') i-is (subst (λ (p : Scope). child ms p i' ≡ Some s') o-is made') in
      let ss : Some s ≡ Some s' = sym made ∙ made'' in
      let s-is : s' ≡ s = cc in
      let theirs : given_at (given_to (port_names s'.module') i.args) x ≡ Some (e.Name (read z)) = subst (λ (j : Inner). given_at (given_to (port_names s'.module') j.args) x ≡ Some (e.Name (read z))) i-is gave in
      let mine : given_at given x ≡ Some (e.Name (read z)) = subst (λ (p : Scope). given_at (given_to (port_names p.module') i.args) x ≡ Some (e.Name (read z))) s-is theirs in
      ap (λ ls. input_at ls x) is
      ∙ from outer given (bit_inputs s) x y (bit_is s x (subst (λ (p : Scope). IsBitInput p x) s-is bit)) (of_named outer (given_at given x) y z mine ((table z y).1 reaches))

pub below_is : (outer : List Link) (i : Inner) (s : Scope) (t : List Link) → t ≡ links outer (given_to (port_names s.module') i.args) (bit_inputs s) → IsTableBelow outer i s t
below_is outer i s t is ms top back o at found made table = λ x y. (forth outer i s t is ms top back o at found made table x y, back' outer i s t is ms top back o at found made table x y)

-- ---- one link after another

module _ (t : List Link) (ds : List Given) (bits : List (Bor Name)) (i : ℕ) (x : Bor Name) (lt : i < length bits) (is : x ≡ get_or bits i x) (done whole : List Link)
    (inv : done ++ links t ds (map name_meant (drop i bits)) ≡ whole) (o : Option Name) (same : o ≡ reached t (given_at ds x.now)) where
  abbrev later : List Link
  later = links t ds (map name_meant (drop (i + 1) bits))

  at_bit : done ++ (link_of x.now o ++ later) ≡ whole
  at_bit = ap (λ r. done ++ (link_of x.now r ++ later)) same ∙ (ap (λ xs. done ++ links t ds xs) (sym (rest_is bits i x lt is)) ∙ inv)

  pub put_link : (y : Name) → o ≡ Some y → (items new : List View) (link : View) → map link_meant items ≡ done → new ≡ items ++ link ∷ [] → link_meant link ≡ record { name = x.now; input = y } → map link_meant new ++ later ≡ whole
  put_link y some items new link e g h =
      ap (λ vs. map link_meant vs ++ later) g
      ∙ (ap (λ ls. ls ++ later) (map_append link_meant items (link ∷ []) ∙ (λ j. e j ++ h j ∷ []))
      ∙ (append_assoc done (record { name = x.now; input = y } ∷ []) later ∙ (ap (λ r. done ++ (link_of x.now r ++ later)) (sym some) ∙ at_bit)))

  pub no_link : o ≡ None → done ++ later ≡ whole
  no_link none = ap (λ r. done ++ (link_of x.now r ++ later)) (sym none) ∙ at_bit
