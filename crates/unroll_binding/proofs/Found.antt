-- What a search finds stands in the list, and it misses nothing.
use Rattle.std.proofs.Common.{◌≡◌, Bor, Bool, true, false, List, [], ◌∷◌, Option, Some, None, ℕ, sym, ap, ◌∙◌, inl, inr, ⊎_elim}
use Rattle.std.specs.List.{find}
use Rattle.std.specs.Option.{option_copied}
use Rattle.std.proofs.lemmas.Bool.{cases_Bool}
use Rattle.set_tree.specs.declared.set.Name.{Name}
use Rattle.set_tree.specs.declared.set.Set.{Set}
use Rattle.vlog_tree_runs.specs.declared.flat.Async.{Async}
use Rattle.vlog_tree_runs.specs.Places.{Among}
use Rattle.elab_step_design.specs.declared.design.Net.{Net}
use Rattle.elab_step_design.specs.Designs.{Parts}
use Rattle.unroll_binding.specs.declared.fault.BindFault.TheVariants as f
use Rattle.unroll_binding.specs.Binding.{Fits, HasNames, HasRoles, NameFails, InputFails, ResetFails, is_missing, is_other_width, is_extra, is_other_role, is_other_reset, is_bad_clock, is_bad_reset}

not_both : (t : Bool) → t ≡ false → t ≡ true → ⊥
not_both t a b = let c : false ≡ true = sym a ∙ b in cc

module _ {A : Type 0} (p : A → Bool) where
  by_case : (y : A) (x : A) (ys : List A) → p y ≡ false → Among ys x × (p x ≡ true) → Among (y ∷ ys) x × (p x ≡ true)
  by_case y x ys t r = (inr r.0, r.1)

  find_has : (xs : List A) (x : A) → find p xs ≡ Some x → Among xs x × (p x ≡ true)
  find_has [] x h = absurd (cc)
  find_has (y ∷ ys) x h = elim (cases_Bool (p y)) [
    | inl t ↦ let g : Some y ≡ Some x = rw t at h in let e : y ≡ x = cc in (inl e, ap p (sym e) ∙ t)
    | inr t ↦ let g : find p ys ≡ Some x = rw t at h in by_case y x ys t (find_has ys x g)
  ]

  find_misses : (xs : List A) → find p xs ≡ None → (x : A) → Among xs x → p x ≡ true → ⊥
  find_misses [] h x m t = m
  find_misses (y ∷ ys) h x m t = elim (cases_Bool (p y)) [
    | inl b ↦ let g : Some y ≡ None = rw b at h in absurd cc
    | inr b ↦ let g : find p ys ≡ None = rw b at h in
        ⊎_elim (λ (e : y ≡ x). not_both (p x) (ap p (sym e) ∙ b) t) (λ (k : Among ys x). find_misses ys g x k t) m
  ]

module _ {A : Type 0} (test : A → Bool) (xs ys : List A) (o : Option (Bor A)) (n : Bor A) where
  -- what a search answers
  answered : option_copied o ≡ find test xs → xs ≡ ys → o ≡ Some n → Among ys n.now × (test n.now ≡ true)
  answered e f g = find_has test ys n.now (ap (λ zs. find test zs) (sym f) ∙ (sym e ∙ ap option_copied g))

pub name_fails : (test : Name → Bool) (set : Set) (xs : List Name) (o : Option (Bor Name)) (n : Bor Name) (x y : List ℕ) → option_copied o ≡ find test xs → xs ≡ set.names → o ≡ Some n → x ≡ y → y ≡ n.now.name → NameFails test set x
name_fails test set xs o n x y e f g h i = let r = answered test xs set.names o n e f g in (n.now, r.0, r.1, sym i ∙ sym h)

pub input_fails : (test : Net → Bool) (d : Parts) (xs : List Net) (o : Option (Bor Net)) (n : Bor Net) (x y : List ℕ) → option_copied o ≡ find test xs → xs ≡ d.inputs → o ≡ Some n → x ≡ y → y ≡ n.now.name → InputFails test d x
input_fails test d xs o n x y e f g h i = let r = answered test xs d.inputs o n e f g in (n.now, r.0, r.1, sym i ∙ sym h)

pub reset_fails : (test : Async → Bool) (d : Parts) (xs : List Async) (o : Option (Bor Async)) (n : Bor Async) (x y : List ℕ) → option_copied o ≡ find test xs → xs ≡ d.asyncs → o ≡ Some n → x ≡ y → y ≡ n.now.name → ResetFails test d x
reset_fails test d xs o n x y e f g h i = let r = answered test xs d.asyncs o n e f g in (n.now, r.0, r.1, sym i ∙ sym h)

pub fits : (d : Parts) (set : Set) → HasNames d set → HasRoles d set → Fits d set
fits d set h r (f.Missing x) (n, m, t, e) = find_misses (is_missing d) set.names h.present n m t
fits d set h r (f.WidthOf x) (n, m, t, e) = find_misses (is_other_width d) set.names h.widths n m t
fits d set h r (f.ExtraInput x) (n, m, t, e) = find_misses (is_extra set) d.inputs h.inputs n m t
fits d set h r (f.Role x) (inl (n, m, t, e)) = find_misses (is_other_role d set) set.names r.roles n m t
fits d set h r (f.Role x) (inr (inl (e, t))) = not_both (is_bad_clock d set) r.clock t
fits d set h r (f.Role x) (inr (inr (inl (e, t)))) = not_both (is_bad_reset d set) r.reset t
fits d set h r (f.Role x) (inr (inr (inr (n, m, t, e)))) = find_misses (is_other_reset set) d.asyncs r.resets n m t
fits d set h r f.Memory s = s
