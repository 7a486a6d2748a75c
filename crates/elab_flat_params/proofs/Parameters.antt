-- Parameters one after another.
use Rattle.std.proofs.lemmas.List.{append_assoc}
use Rattle.std.proofs.Common.{ℕ, suc, ◌≡◌, ◌+◌, ◌<◌, Bool, true, false, List, [], ◌∷◌, ◌++◌, length, take, drop, map, get_or, add-one, append-nil, Option, Some, None, inl, inr, refl, sym, ap, subst, ◌∙◌}
use Rattle.std.proofs.Math.Seq.{take-append_seam}
use Rattle.std.specs.List.{slice_get, find}
use Rattle.std.specs.Str.{bytes_eq}
use Rattle.std.proofs.lemmas.Bool.{cases_Bool}
use Rattle.std.proofs.lemmas.Option.{slice_get_read, slice_get-map}
use Rattle.std.specs.Option.{option_map}
use Rattle.vlog_tree.specs.declared.expr.Constant.{Constant}
use Rattle.vlog_tree.specs.declared.expr.Expr.{Expr}
use Rattle.vlog_tree.specs.declared.module.Module.{Module}
use Rattle.vlog_tree.specs.declared.valuation.Entry.{Entry}
use Rattle.vlog_tree.specs.Valuation.{EntryFits, meant}
use Rattle.vlog_tree_runs.specs.Contents.{Param, params_in, is_open}
use Rattle.vlog_tree_runs.specs.Scopes.{Given, given_at, param_entry, params_from}
use Rattle.elab_flat_scopes.specs.declared.param.Param.{Param as View}
use Rattle.elab_flat_scopes.specs.Borrowed.{param_meant}
use Rattle.elab_flat_scopes.proofs.Finding.{cut}
use Rattle.elab_flat_params.specs.declared.unfit.BadParam.{BadParam}
use Rattle.elab_flat_params.specs.Values.{override_of, entry_with, IsSound, IsBad, StandsFor}
use Rattle.elab_flat_params.specs.Parameters.{AreSound}

entry_is : (can : Bool) (p : Param) (o : Option Expr) (outer done : List Entry) → param_entry can p o outer done ≡ entry_with p (override_of can o) outer done
entry_is true p None outer done = refl
entry_is false p None outer done = refl
entry_is true p (Some a) outer done = refl
entry_is false p (Some a) outer done = refl

-- an entry from what it stands for
abbrev pub made : Param → Constant → Entry
made p k = record { name = p.name; offset = 0; width = k.width; low = k.low; signed = k.signed; depth = 0; value = k.value }

made_is : (p : Param) (o : Option Expr) (outer done : List Entry) → made p (meant (entry_with p o outer done)) ≡ entry_with p o outer done
made_is p None outer done = refl
made_is p (Some a) outer done = refl

grown : (m : Module) (ps : List Param) (ds : List Given) (outer done : List Entry) → (rest : List Entry) × (params_from m ps ds outer done ≡ done ++ rest)
grown m [] ds outer done = ([], sym (append-nil done))
grown m (p ∷ ps) ds outer done =
    let e = param_entry (is_open m p) p (given_at ds p.name) outer done in
    let r = grown m ps ds outer (done ++ e ∷ []) in
    (e ∷ r.0, r.1 ∙ append_assoc done (e ∷ []) r.0)

-- those before a parameter
pub those_before : (m : Module) (ps : List Param) (ds : List Given) (outer done whole : List Entry) (k : ℕ) → params_from m ps ds outer done ≡ whole → length done ≡ k → take k whole ≡ done
those_before m ps ds outer done whole k is long =
    let r = grown m ps ds outer done in
    ap (λ n. take n whole) (sym long) ∙ (ap (take (length done)) (sym is ∙ r.1) ∙ take-append_seam done r.0)

module _ (m : Module) (views : List View) (ds : List Given) (outer done whole : List Entry) (i : ℕ) (v : View) (lt : i < length views) (at : v ≡ get_or views i v)
    (all : map param_meant views ≡ params_in m) (rest : params_from m (map param_meant (drop i views)) ds outer done ≡ whole) where
  abbrev p : Param
  p = param_meant v

  abbrev o : Option Expr
  o = override_of (is_open m p) (given_at ds p.name)

  abbrev later : List Param
  later = map param_meant (drop (suc i) views)

  abbrev next : List Entry
  next = done ++ param_entry (is_open m p) p (given_at ds p.name) outer done ∷ []

  here : map param_meant (drop i views) ≡ p ∷ later
  here = ap (map param_meant) (cut views i v lt at)

  pub fits : (e : Entry) (k : Constant) → e ≡ made p k → StandsFor (entry_with p o outer done) k → EntryFits e
  fits e k is s = subst EntryFits (sym is) (s.length, s.fits)

  pub added : (e : Entry) (k : Constant) (new : List Entry) → e ≡ made p k → StandsFor (entry_with p o outer done) k → new ≡ done ++ e ∷ [] → new ≡ next
  added e k new is s put =
      put ∙ ap (λ x. done ++ x ∷ []) (is ∙ (ap (made p) s.meaning ∙ (made_is p o outer done ∙ sym (entry_is (is_open m p) p (given_at ds p.name) outer done))))

  pub next_rest : (new : List Entry) → new ≡ next → params_from m (map param_meant (drop (i + 1) views)) ds outer new ≡ whole
  next_rest new is = rw add-one (ap (params_from m later ds outer) is ∙ (ap (λ ps. params_from m ps ds outer done) (sym here) ∙ rest))

  pub next_sound : (new : List Entry) → new ≡ next → IsSound p o outer done → (AreSound m (map param_meant (drop i views)) ds outer done → AreSound m (params_in m) ds outer []) →
      AreSound m (map param_meant (drop (i + 1) views)) ds outer new → AreSound m (params_in m) ds outer []
  next_sound new is s goes h =
      let h' : AreSound m later ds outer next = subst (λ n. AreSound m later ds outer n) is (subst (λ k. AreSound m (map param_meant (drop k views)) ds outer new) (add-one i) h) in
      goes (subst (λ ps. AreSound m ps ds outer done) (sym here) (s, h'))

  pub declared_here : slice_get (params_in m) i ≡ Some p
  declared_here = ap (λ ps. slice_get ps i) (sym all) ∙ (slice_get-map param_meant views i ∙ ap (option_map param_meant) (slice_get_read views (length views) i v refl lt at))

  pub bad_here : (k : ℕ) (cause : BadParam) → length done ≡ i → k ≡ i → IsBad p o outer done cause →
      (q : Param) × (slice_get (params_in m) k ≡ Some q) × IsBad q (override_of (is_open m q) (given_at ds q.name)) outer (take k whole) cause
  bad_here k cause long same bad = (
    p,
    ap (slice_get (params_in m)) same ∙ declared_here,
    subst (λ b. IsBad p o outer b cause) (sym (those_before m (map param_meant (drop i views)) ds outer done whole k rest (long ∙ sym same))) bad,
  )

-- what a name is given
pub given_is : (ds : List Given) (x : List ℕ) (o : Option Given) → o ≡ find (λ d. bytes_eq d.name x) ds → option_map (λ d. d.value) o ≡ given_at ds x
given_is ds x o is = ap (option_map (λ d. d.value)) is ∙ found ds
  where
    found : (ds : List Given) → option_map (λ d. d.value) (find (λ d. bytes_eq d.name x) ds) ≡ given_at ds x
    found [] = refl
    found (d ∷ ds) = elim (cases_Bool (bytes_eq d.name x)) [ inl e ↦ rw e refl | inr e ↦ rw e (found ds) ]
