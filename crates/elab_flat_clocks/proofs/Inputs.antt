-- The inputs of one bit, and the table of the top.
use Rattle.std.proofs.Common.{◌≡◌, ◌⊎◌, inl, inr, ⊎_elim, Bool, true, false, ◌&&◌, ◌||◌, List, [], ◌∷◌, map, filter, Option, Some, refl, sym, ap, subst, ◌∙◌}
use Rattle.std.specs.Prelude.{nat_eq}
use Rattle.std.specs.Option.{option_map}
use Rattle.std.specs.List.{find}
use Rattle.std.specs.Str.{bytes_eq}
use Rattle.std.proofs.lemmas.Bool.{cases_Bool, eqb-true, eq-eqb}
use Rattle.std.proofs.lemmas.Slice.Eq.{bytes_eq-Decides}
use Rattle.vlog_tree.specs.declared.module.Module.{Module}
use Rattle.vlog_tree_runs.specs.Places.{Name, Among}
use Rattle.vlog_tree_runs.specs.Contents.{Decl, is_among, joined, once, decls_in, signals_in}
use Rattle.vlog_tree_runs.specs.Scopes.{Scope, scope_at, decl_at, width_in}
use Rattle.elab_flat_laws.proofs.Lists.{among_map, map_among}
use Rattle.elab_flat_faults.specs.Clocks.{IsBitInput}
use Rattle.elab_flat_scopes.specs.Finding.{decl_name}
use Rattle.elab_flat_names.proofs.Ports.{filter_has, has_filter}
use Rattle.elab_flat_names.proofs.Seconds.{among_at}
use Rattle.elab_flat_clocks.specs.Tables.{Link, link_name, input_at, is_bit_input, bit_inputs, itself, IsTable}

same_name : (x y : Name) → bytes_eq x y ≡ true → x ≡ y
same_name x y e = (bytes_eq-Decides x y).0 e

or_false : (a b : Bool) → (a || b) ≡ false → (a ≡ false) × (b ≡ false)
or_false true b e = cc
or_false false b e = (refl, e)

and_true : (a b : Bool) → (a && b) ≡ true → (a ≡ true) × (b ≡ true)
and_true true b e = (refl, e)
and_true false b e = cc

-- ---- each signal is found by its name

not_done : (all : List Decl) (done : List Name) (ds : List Decl) (d : Decl) → Among (once all done ds) d → is_among done d.name ≡ false
not_done all done [] d a = absurd a
not_done all done (e ∷ ds) d a = elim (cases_Bool (is_among done e.name)) [
  | inl y ↦ not_done all done ds d (rw y at a)
  | inr n ↦ (let b : (joined all e ≡ d) ⊎ Among (once all (e.name ∷ done) ds) d = rw n at a in
      ⊎_elim (λ s. ap (λ (z : Decl). is_among done z.name) (sym s) ∙ n) (λ m. (or_false (bytes_eq e.name d.name) (is_among done d.name) (not_done all (e.name ∷ done) ds d m)).1) b)
]

found_once : (all : List Decl) (done : List Name) (ds : List Decl) (d : Decl) → Among (once all done ds) d → decl_at (once all done ds) d.name ≡ Some d
found_once all done [] d a = absurd a
found_once all done (e ∷ ds) d a = elim (cases_Bool (is_among done e.name)) [
  | inl y ↦ rw y (found_once all done ds d (rw y at a))
  | inr n ↦ (let b : (joined all e ≡ d) ⊎ Among (once all (e.name ∷ done) ds) d = rw n at a in
      rw n (⊎_elim (λ s. head_found (joined all e) d (once all (e.name ∷ done) ds) s)
      (λ m. later_found (joined all e) d (once all (e.name ∷ done) ds) (or_false (bytes_eq e.name d.name) (is_among done d.name) (not_done all (e.name ∷ done) ds d m)).0 (found_once all (e.name ∷ done) ds d m)) b))
]
  where
    head_found : (h d : Decl) (rest : List Decl) → h ≡ d → decl_at (h ∷ rest) d.name ≡ Some d
    head_found h d rest s = rw ((bytes_eq-Decides h.name d.name).1 (ap (λ (z : Decl). z.name) s)) (ap Some s)

    later_found : (h d : Decl) (rest : List Decl) → bytes_eq h.name d.name ≡ false → decl_at rest d.name ≡ Some d → decl_at (h ∷ rest) d.name ≡ Some d
    later_found h d rest f e = rw f e

name_at : (ds : List Decl) (x : Name) (d : Decl) → decl_at ds x ≡ Some d → d.name ≡ x
name_at [] x d e = cc
name_at (z ∷ zs) x d e = elim (cases_Bool (bytes_eq z.name x)) [
  | inl t ↦ (let g : Some z ≡ Some d = rw t at e in let same : z ≡ d = cc in ap (λ (y : Decl). y.name) (sym same) ∙ same_name z.name x t)
  | inr n ↦ name_at zs x d (rw n at e)
]

module _ (s : Scope) (x : Name) where
  abbrev ds : List Decl
  ds = signals_in s.module'

  pub is_bit : Among (bit_inputs s) x → IsBitInput s x
  is_bit a =
      let r = among_map decl_name (filter (is_bit_input s.params) ds) x a in
      let f = has_filter (is_bit_input s.params) ds r.0 r.1 in
      let t = and_true r.0.input (nat_eq (width_in r.0.shape.range 1 s.params) 1) f.1 in
      record {
        decl = r.0;
        declared = ap (decl_at ds) (sym r.2) ∙ found_once (decls_in s.module') [] (decls_in s.module') r.0 f.0;
        input = t.0;
        one_bit = eqb-true (width_in r.0.shape.range 1 s.params) 1 t.1;
      }

  pub bit_is : IsBitInput s x → Among (bit_inputs s) x
  bit_is b =
      let passes : is_bit_input s.params b.decl ≡ true = (λ i. b.input i && eq-eqb (width_in b.decl.shape.range 1 s.params) 1 b.one_bit i) in
      subst (Among (bit_inputs s)) (name_at ds x b.decl b.declared) (map_among decl_name (filter (is_bit_input s.params) ds) b.decl (filter_has (is_bit_input s.params) ds b.decl (among_at ds x b.decl b.declared) passes))

-- ---- the top

itself_at : (xs : List Name) (x y : Name) → input_at (map itself xs) x ≡ Some y → (x ≡ y) × Among xs x
itself_at [] x y e = cc
itself_at (z ∷ zs) x y e = elim (cases_Bool (bytes_eq z x)) [
  | inl t ↦ (let g : Some z ≡ Some y = rw t at e in let same : z ≡ y = cc in (sym (same_name z x t) ∙ same, inl (same_name z x t)))
  | inr n ↦ (let r = itself_at zs x y (rw n at e) in (r.0, inr r.1))
]

at_itself : (xs : List Name) (x : Name) → Among xs x → input_at (map itself xs) x ≡ Some x
at_itself [] x a = absurd a
at_itself (z ∷ zs) x a = elim (cases_Bool (bytes_eq z x)) [
  | inl t ↦ rw t (ap Some (same_name z x t))
  | inr n ↦ skip z zs x n (⊎_elim (λ s. absurd (differ z x n s)) (λ m. at_itself zs x m) a)
]
  where
    differ : (z x : Name) → bytes_eq z x ≡ false → z ≡ x → ⊥
    differ z x n s = let q : true ≡ false = sym ((bytes_eq-Decides z x).1 s) ∙ n in cc

    skip : (z : Name) (zs : List Name) (x : Name) → bytes_eq z x ≡ false → input_at (map itself zs) x ≡ Some x → input_at (map itself (z ∷ zs)) x ≡ Some x
    skip z zs x n e = rw n e

pub top_is : (s : Scope) (t : List Link) → t ≡ map itself (bit_inputs s) → (ms : List Module) (top : Name) → scope_at ms top [] ≡ Some s → IsTable ms top [] t
top_is s t is ms top at = λ x y. (
  λ e. (let r = itself_at (bit_inputs s) x y (ap (λ z. input_at z x) (sym is) ∙ e) in (r.0, s, at, is_bit s x r.1)),
  λ h. (
      let same : Some s ≡ Some h.1 = sym at ∙ h.2 in
      let one : s ≡ h.1 = cc in
      ap (λ z. input_at z x) is ∙ (at_itself (bit_inputs s) x (bit_is s x (subst (λ z. IsBitInput z x) (sym one) h.3)) ∙ ap Some h.0)
      ),
)

-- ---- what is found by its name

input_found : (ls : List Link) (x : Name) → option_map (λ (l : Link). l.input) (find (λ l. bytes_eq (link_name l) x) ls) ≡ input_at ls x
input_found [] x = refl
input_found (l ∷ ls) x = elim (cases_Bool (bytes_eq l.name x)) [ inl t ↦ rw t refl | inr n ↦ rw n (input_found ls x) ]

pub link_is : (ls : List Link) (x : Name) (o : Option Link) → o ≡ find (λ l. bytes_eq (link_name l) x) ls → option_map (λ (l : Link). l.input) o ≡ input_at ls x
link_is ls x o e = ap (option_map (λ (l : Link). l.input)) e ∙ input_found ls x
