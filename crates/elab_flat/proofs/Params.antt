-- The parameters of a scope: numbers of their lengths, with the names of its module's parameters.
use Rattle.std.proofs.Common.{ℕ, ◌≡◌, ◌<◌, ◌^◌, ◌%◌, ◌&&◌, Bool, true, false, nat_eq, List, [], ◌∷◌, ◌++◌, map, Option, Some, None, inl, inr, refl, sym, ap, ◌∙◌, append-nil}
use Rattle.std.specs.Prelude.{is_some}
use Rattle.std.specs.Str.{bytes_eq}
use Rattle.std.proofs.Math.Nat.{mod-lt}
use Rattle.std.proofs.lemmas.Nat.{pow_pos}
use Rattle.std.proofs.lemmas.Bool.{cases_Bool}
use Rattle.std.proofs.lemmas.List.{append_assoc}
use Rattle.std.proofs.lemmas.Slice.Eq.{bytes_eq-Decides}
use Rattle.vlog_tree.specs.declared.expr.Expr.{Expr}
use Rattle.vlog_tree.specs.declared.module.Module.{Module}
use Rattle.vlog_tree.specs.declared.valuation.Entry.{Entry}
use Rattle.vlog_tree.specs.Valuation.{entry_at}
use Rattle.vlog_tree_runs.specs.Places.{Name, Among}
use Rattle.vlog_tree_runs.specs.Contents.{Param, params_in, is_open}
use Rattle.vlog_tree_runs.specs.Scopes.{Given, given_at, converted, param_entry, params_from, params_of}
use Rattle.elab_flat_laws.specs.Uses.{AreConstants}
use Rattle.elab_flat_laws.proofs.Lists.{map_append}
use Rattle.elab_flat_scopes.specs.Borrowed.{param_name}

abbrev pub entry_name : Entry → Name
entry_name e = e.name

-- ---- one entry

record IsNumber (p : Param) (e : Entry) : Type 0 where
  name : e.name ≡ p.name
  depth : e.depth ≡ 0
  fits : e.value < 2 ^ e.width

low_bits : (n w : ℕ) → n % 2 ^ w < 2 ^ w
low_bits n w = mod-lt n (pow_pos w)

number : (p : Param) (v : List Entry) (a : Expr) (done : List Entry) → IsNumber p (converted p v a done)
number p v a done = record { name = refl; depth = refl; fits = low_bits _ (converted p v a done).width }

entry_number : (can : Bool) (p : Param) (o : Option Expr) (outer done : List Entry) → IsNumber p (param_entry can p o outer done)
entry_number can p None outer done = number p done p.value done
entry_number true p (Some a) outer done = number p outer a done
entry_number false p (Some a) outer done = number p done p.value done

-- ---- all of them

constants_more : (es : List Entry) (e : Entry) → AreConstants es → e.depth ≡ 0 → e.value < 2 ^ e.width → AreConstants (es ++ e ∷ [])
constants_more [] e h d f = (d, f, tt)
constants_more (z ∷ zs) e h d f = (h.0, h.1, constants_more zs e h.2 d f)

module _ (m : Module) (ds : List Given) (outer : List Entry) where
  constants_from : (ps : List Param) (done : List Entry) → AreConstants done → AreConstants (params_from m ps ds outer done)
  constants_from [] done h = h
  constants_from (p ∷ ps) done h =
      let n = entry_number (is_open m p) p (given_at ds p.name) outer done in
      constants_from ps (done ++ param_entry (is_open m p) p (given_at ds p.name) outer done ∷ []) (constants_more done _ h n.depth n.fits)

  names_from : (ps : List Param) (done : List Entry) → map entry_name (params_from m ps ds outer done) ≡ map entry_name done ++ map param_name ps
  names_from [] done = sym (append-nil (map entry_name done))
  names_from (p ∷ ps) done =
      let e = param_entry (is_open m p) p (given_at ds p.name) outer done in
      names_from ps (done ++ e ∷ [])
      ∙ (ap (λ xs. xs ++ map param_name ps) (map_append entry_name done (e ∷ []))
      ∙ (append_assoc (map entry_name done) (e.name ∷ []) (map param_name ps) ∙ ap (λ x. map entry_name done ++ x ∷ map param_name ps) (entry_number (is_open m p) p (given_at ds p.name) outer done).name))

  pub are_constants : AreConstants (params_of m ds outer)
  are_constants = constants_from (params_in m) [] tt

  pub names_are : map entry_name (params_of m ds outer) ≡ map param_name (params_in m)
  names_are = names_from (params_in m) []

both : (a b : Bool) → (a && b) ≡ true → b ≡ true
both true b e = e
both false b e = cc

-- a name that is found is that of an entry
pub entry_found : (es : List Entry) (x : Name) → is_some (entry_at es x 0) ≡ true → Among (map entry_name es) x
entry_found [] x h = cc
entry_found (e ∷ es) x h = elim (cases_Bool (nat_eq e.offset 0 && bytes_eq e.name x)) [
  | inl y ↦ inl ((bytes_eq-Decides e.name x).0 (both (nat_eq e.offset 0) (bytes_eq e.name x) y))
  | inr n ↦ inr (entry_found es x (rw n at h))
]
