-- What all declarations of a name say together.
use Rattle.std.proofs.Common.{◌≡◌, ℕ, suc, ◌+◌, ◌<◌, length, drop, get_or, add-one, append_assoc, Bool, true, false, not, cond, ◌&&◌, ◌||◌, List, [], ◌∷◌, ◌++◌, map, filter, refl, sym, ap, ◌∙◌, inl, inr, if◌then◌else◌}
use Rattle.std.specs.Str.{bytes_eq}
use Rattle.std.proofs.lemmas.Bool.{cases_Bool}
use Rattle.std.proofs.lemmas.List.{map-append}
use Rattle.vlog_tree_runs.specs.Places.{Name}
use Rattle.vlog_tree_runs.specs.Contents.{Decl, is_among, declares, joined, once}
use Rattle.elab_flat_scopes.specs.declared.signal.Side.TheVariants as w
use Rattle.elab_flat_scopes.specs.declared.signal.Sides.{Sides}
use Rattle.elab_flat_scopes.specs.declared.decl.Decl.{Decl as View}
use Rattle.elab_flat_scopes.specs.Borrowed.{decl_meant}
use Rattle.elab_flat_scopes.specs.Finding.{decl_name}
use Rattle.elab_flat_scopes.specs.Sides.{is_on, AreSides}
use Rattle.elab_flat_scopes.proofs.Finding.{cut}

-- a declaration of this name passes the test where the name is one of those that pass
pub declared_among : (test : Decl → Bool) (ds : List Decl) (x : Name) → is_among (map decl_name (filter test ds)) x ≡ declares ds test x
declared_among test [] x = refl
declared_among test (d ∷ ds) x = elim (cases_Bool (test d)) [
  | inl y ↦ rw y (and_true (bytes_eq d.name x) _ _ (declared_among test ds x))
  | inr n ↦ rw n (and_false (bytes_eq d.name x) _ _ (declared_among test ds x))
]
  where
    and_true : (a b c : Bool) → b ≡ c → (a || b) ≡ ((a && true) || c)
    and_true true b c e = refl
    and_true false b c e = e

    and_false : (a b c : Bool) → b ≡ c → b ≡ ((a && false) || c)
    and_false true b c e = e
    and_false false b c e = e

module _ (all : List Decl) (s : Sides) (are : AreSides all s) (d : Decl) (x : Name) (same : x ≡ d.name) where
  said : (test : Decl → Bool) (names : List Name) (b : Bool) → names ≡ map decl_name (filter test all) → b ≡ is_among names x → b ≡ declares all test d.name
  said test names b n h = h ∙ ((λ i. is_among (n i) (same i)) ∙ declared_among test all d.name)

  pub joined_is : (a b c : Bool) → a ≡ is_among s.inputs x → b ≡ is_among s.outputs x → c ≡ is_among s.registers x →
      record d { input = a; output = b; reg = c } ≡ joined all d
  joined_is a b c f g h = λ i. record d {
    input = said (is_on w.Input) s.inputs a are.inputs f i;
    output = said (is_on w.Output) s.outputs b are.outputs g i;
    reg = said (is_on w.Register) s.registers c are.registers h i;
  }

-- ---- each name once

pub was_new : (b : Bool) → true ≡ not b → b ≡ false
was_new true e = cc
was_new false e = refl

pub was_there : (b : Bool) → false ≡ not b → b ≡ true
was_there true e = refl
was_there false e = cc

pub cond_or : (a b c : Bool) → b ≡ c → cond a true b ≡ (a || c)
cond_or true b c e = refl
cond_or false b c e = e

module _ (decls : List View) (i : ℕ) (d : View) (lt : i < length decls) (is : d ≡ get_or decls i d) (before : List Name) (done whole : List Decl)
    (inv : done ++ once (map decl_meant decls) before (map decl_meant (drop i decls)) ≡ whole) where
  abbrev all : List Decl
  all = map decl_meant decls

  abbrev rest : List Decl
  rest = map decl_meant (drop (suc i) decls)

  abbrev chosen : Bool → List Decl
  chosen b = done ++ (if b then once all before rest else joined all (decl_meant d) ∷ once all (d.name.now ∷ before) rest)

  at_decl : chosen (is_among before d.name.now) ≡ whole
  at_decl = ap (λ ds. done ++ once all before (map decl_meant ds)) (sym (cut decls i d lt is)) ∙ inv

  pub once_new : (items : List View) (made : View) (new : List View) → map decl_meant items ≡ done → new ≡ items ++ made ∷ [] → decl_meant made ≡ joined all (decl_meant d) → is_among before d.name.now ≡ false →
      map decl_meant new ++ once all (d.name.now ∷ before) (map decl_meant (drop (i + 1) decls)) ≡ whole
  once_new items made new e f g n =
      rw add-one (
      ap (λ vs. map decl_meant vs ++ once all (d.name.now ∷ before) rest) f
      ∙ (ap (λ ds. ds ++ once all (d.name.now ∷ before) rest) (map-append decl_meant items (made ∷ []) ∙ (λ j. e j ++ g j ∷ []))
      ∙ (append_assoc done (joined all (decl_meant d) ∷ []) (once all (d.name.now ∷ before) rest) ∙ (ap chosen (sym n) ∙ at_decl)))
      )

  pub once_again : is_among before d.name.now ≡ true → done ++ once all before (map decl_meant (drop (i + 1) decls)) ≡ whole
  once_again y = rw add-one (ap chosen (sym y) ∙ at_decl)
