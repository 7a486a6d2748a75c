-- What isn't declared, by the lists of names.
use Rattle.std.proofs.Common.{◌≡◌, inl, inr, ⊎_elim, Bool, true, false, ◌||◌, List, [], ◌∷◌, ◌++◌, map, refl, sym, ◌∙◌}
use Rattle.std.specs.Prelude.{is_some, nat_eq}
use Rattle.std.specs.Str.{bytes_eq}
use Rattle.std.proofs.lemmas.Bool.{cases_Bool}
use Rattle.vlog_tree.specs.declared.valuation.Entry.{Entry}
use Rattle.vlog_tree.specs.Valuation.{entry_at}
use Rattle.vlog_tree_runs.specs.Places.{Name, Among}
use Rattle.vlog_tree_runs.specs.Blocks.{is_parameter, signal_at}
use Rattle.vlog_tree_runs.specs.Contents.{Decl, is_among, signals_in}
use Rattle.vlog_tree_runs.specs.Scopes.{Scope, signal_of, place_of}
use Rattle.elab_flat_laws.proofs.Lists.{among_append, append_left, append_right}
use Rattle.elab_flat_laws.specs.Uses.{has_signal, is_declared}
use Rattle.elab_flat_faults.specs.declared.flattening.FlatFault.TheVariants as f
use Rattle.elab_flat_faults.specs.Declaring.{IsDeclaredTwice}
use Rattle.elab_flat_faults.specs.FlatStands.{Refuses}
use Rattle.elab_flat_scopes.specs.Finding.{decl_name}
use Rattle.elab_flat_drivers.proofs.Naming.{among_of}
use Rattle.elab_flat_names.specs.Rows.{entry_names, scope_names, IsUsedUnknown, StandsAlone}
use Rattle.elab_flat_names.proofs.Searches.{not_among}

entries : (es : List Entry) (x : Name) → is_some (entry_at es x 0) ≡ is_among (entry_names es) x
entries [] x = refl
entries (e ∷ es) x = elim (cases_Bool (nat_eq e.offset 0)) [
  | inl o ↦ elim (cases_Bool (bytes_eq e.name x)) [ inl y ↦ rw (o, y) refl | inr n ↦ rw (o, n) (entries es x) ]
  | inr o ↦ rw o (entries es x)
]

pub signals : (v : List Entry) (ds : List Decl) (x : Name) → is_some (signal_at (map (signal_of v) ds) x) ≡ is_among (map decl_name ds) x
signals v [] x = refl
signals v (d ∷ ds) x = elim (cases_Bool (bytes_eq d.name x)) [ inl y ↦ rw y refl | inr n ↦ rw n (signals v ds x) ]

among_false : (xs : List Name) (x : Name) → (Among xs x → ⊥) → is_among xs x ≡ false
among_false xs x n = elim (cases_Bool (is_among xs x)) [ inl y ↦ absurd (n (among_of xs x y)) | inr e ↦ e ]

or_false : (a b : Bool) → a ≡ false → b ≡ false → (a || b) ≡ false
or_false a b e g = rw (e, g) refl

either_false : (a b : Bool) → (a || b) ≡ false → (a ≡ false) × (b ≡ false)
either_false true b e = cc
either_false false b e = (refl, e)

module _ (s : Scope) (x : Name) where
  abbrev ps : List Name
  ps = entry_names s.params

  abbrev gs : List Name
  gs = map decl_name (signals_in s.module')

  pub unknown_of : (Among (scope_names s) x → ⊥) → is_declared (place_of s) x ≡ false
  unknown_of n =
      or_false (is_parameter (place_of s) x) (has_signal (place_of s).signals x) (entries s.params x ∙ among_false ps x (λ a. n (append_left ps gs x a)))
      (signals s.params (signals_in s.module') x ∙ among_false gs x (λ a. n (append_right ps gs x a)))

  pub of_unknown : is_declared (place_of s) x ≡ false → Among (scope_names s) x → ⊥
  of_unknown e a =
      let r = either_false (is_parameter (place_of s) x) (has_signal (place_of s).signals x) e in
      ⊎_elim (λ h. not_among ps x (sym (entries s.params x) ∙ r.0) h) (λ h. not_among gs x (sym (signals s.params (signals_in s.module') x) ∙ r.1) h) (among_append ps gs x a)

  pub no_signal : (Among gs x → ⊥) → has_signal (place_of s).signals x ≡ false
  no_signal n = signals s.params (signals_in s.module') x ∙ among_false gs x n

  pub of_no_signal : has_signal (place_of s).signals x ≡ false → Among gs x → ⊥
  of_no_signal e = not_among gs x (sym (signals s.params (signals_in s.module') x) ∙ e)

-- what stands at the scope
pub used_stands : (s : Scope) (x n : Name) → IsUsedUnknown s x → n ≡ s.prefix ++ x → Refuses (StandsAlone s) (f.Unknown n)
used_stands s x n (inl h) is = λ ms path. inl (inl (h.0.0, h.0.1, x, h.0.2, h.1, is))
used_stands s x n (inr h) is = λ ms path. inl (inr (inl (x, h.0, h.1, is)))

pub twice_stands : (s : Scope) (x n : Name) → IsDeclaredTwice s x → n ≡ s.prefix ++ x → Refuses (StandsAlone s) (f.Twice n)
twice_stands s x n h is = λ ms path. inl (x, h, is)
