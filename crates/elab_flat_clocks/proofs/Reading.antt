-- Where the clock is read, one expression and one scope after another.
use Rattle.std.proofs.Common.{ℕ, ◌≡◌, ◌+◌, ◌≤◌, ◌<◌, List, ◌++◌, length, map, drop, get_or, Option, Some, Bor, Vec, Global, inl, inr, ⊎_elim, refl, sym, ap, subst, ◌∙◌, arith}
use Rattle.std.specs.Prelude.{◌↔◌}
use Rattle.std.specs.List.{slice_get}
use Rattle.std.specs.Option.{option_map}
use Rattle.std.proofs.lemmas.Bool.{cases_lt}
use Rattle.std.proofs.lemmas.Option.{slice_get-map, slice_get_read, slice_get_within}
use Rattle.vlog_tree.specs.declared.module.Module.{Module}
use Rattle.vlog_tree.specs.declared.expr.Expr.{Expr}
use Rattle.vlog_tree_runs.specs.Places.{Name, Among}
use Rattle.vlog_tree_runs.specs.Scopes.{Scope}
use Rattle.elab_flat_faults.specs.declared.flattening.FlatFault.TheVariants as f
use Rattle.elab_flat_faults.specs.Texts.{own_exprs, names_in}
use Rattle.elab_flat_names.specs.Exprs.{expr_meant}
use Rattle.elab_flat_names.specs.Searching.{Finds}
use Rattle.elab_flat_names.proofs.Searches.{among_here, among_past, none_left, finds_same}
use Rattle.elab_flat_clocks.specs.Tables.{Link, input_at}
use Rattle.elab_flat_clocks.specs.Passing.{exprs_meant}
use Rattle.elab_flat_clocks.specs.Clocking.{IsReadAmong, IsClockRead, IsAt, NoneReads, SomeReads}

-- ---- one expression after another

module _ (exprs : List (Bor Expr)) (t : List Link) (clock : Name) where
  abbrev Left : ℕ → Type 0
  Left k = (x : Name) → IsReadAmong (map expr_meant exprs) t clock x → IsReadAmong (map expr_meant (drop k exprs)) t clock x

  module _ (k : ℕ) (b : Bor Expr) (lt : k < length exprs) (is : b ≡ get_or exprs k b) where
    pub found_read : (x : Name) → Among (names_in b.now) x × (input_at t x ≡ Some clock) → IsReadAmong (map expr_meant exprs) t clock x
    found_read x h = (b.now, among_here expr_meant exprs k b lt is, h.0, h.1)

    pub past : Left k → ((x : Name) → Among (names_in b.now) x × (input_at t x ≡ Some clock) → ⊥) → Left (k + 1)
    past left none x h =
        let r = left x h in
        let other : b.now ≡ r.0 → ⊥ = λ e. none x (subst (λ a. Among (names_in a) x) (sym e) r.2, r.3) in
        (r.0, among_past expr_meant exprs k b lt is r.0 r.1 other, r.2, r.3)

  pub none_read : (k : ℕ) → length exprs ≤ k → Left k → (x : Name) → IsReadAmong (map expr_meant exprs) t clock x → ⊥
  none_read k done left x h = let r = left x h in none_left expr_meant exprs k done r.0 r.1

-- ---- one scope

-- the same expressions
read_same : (as' bs : List Expr) → ((a : Expr) → Among as' a → Among bs a) → (t : List Link) (clock x : Name) → IsReadAmong as' t clock x → IsReadAmong bs t clock x
read_same as' bs same t clock x h = (h.0, same h.0 h.1, h.2, h.3)

module _ (m : Module) (own kept : List Expr) (same : (a : Expr) → Among own a ↔ Among (own_exprs m) a) (t : List Link) (clock : Name) where
  -- what the text's own expressions have is found
  pub own_found : (x : Name) → IsReadAmong own t clock x → IsClockRead m kept t clock x
  own_found x h = inl (read_same own (own_exprs m) (λ a. (same a).0) t clock x h)

  -- what the others have, where its own have nothing
  pub others_found : ((x : Name) → IsReadAmong own t clock x → ⊥) → (o : Option Name) → Finds (IsReadAmong kept t clock) o → Finds (IsClockRead m kept t clock) o
  others_found none o found =
      finds_same (IsReadAmong kept t clock) (IsClockRead m kept t clock) (λ x h. inr h)
      (λ x h. ⊎_elim (λ k. absurd (none x (read_same (own_exprs m) own (λ a. (same a).1) t clock x k))) (λ k. k) h) o found

-- ---- one scope after another

pub got_read : {X : Type 0} (xs : List X) (k : ℕ) (x : X) → k < length xs → x ≡ get_or xs k x → slice_get xs k ≡ Some x
got_read xs k x lt is = slice_get_read xs (length xs) k x refl lt is

-- the expressions that a scope's connections don't pass on
pub got_exprs : (lists : List (Vec (Bor Expr) Global)) (k : ℕ) (v : Vec (Bor Expr) Global) → k < length lists → v ≡ get_or lists k v → slice_get (map exprs_meant lists) k ≡ Some (exprs_meant v)
got_exprs lists k v lt is = slice_get-map exprs_meant lists k ∙ ap (option_map exprs_meant) (got_read lists k v lt is)

module _ (ss : List Scope) (ts : List (List Link)) (kept : List (List Expr)) (clock : Name) where
  abbrev pub NoneBefore : ℕ → Type 0
  NoneBefore k = (j : ℕ) → j < k → (s : Scope) (t : List Link) (as' : List Expr) → IsAt ss ts kept j s t as' → (x : Name) → IsClockRead s.module' as' t clock x → ⊥

  pub next_none : (k : ℕ) (s : Scope) (t : List Link) (as' : List Expr) → IsAt ss ts kept k s t as' → NoneBefore k → ((x : Name) → IsClockRead s.module' as' t clock x → ⊥) → NoneBefore (k + 1)
  next_none k s t as' at before none j lt s' t' bs at' x h =
      ⊎_elim (λ less. before j less s' t' bs at' x h)
      (λ ge. let same : j ≡ k = omega (arith, lt, ge) in
      let here = subst (λ n. IsAt ss ts kept n s' t' bs) same at' in
      let one : Some s ≡ Some s' = sym at.scope ∙ here.scope in
      let two : Some t ≡ Some t' = sym at.table ∙ here.table in
      let three : Some as' ≡ Some bs = sym at.exprs ∙ here.exprs in
      let s-is : s' ≡ s = cc in
      let t-is : t' ≡ t = cc in
      let exprs-are : bs ≡ as' = cc in
      none x (subst (λ zs. IsClockRead s.module' zs t clock x) exprs-are (subst (λ z. IsClockRead s.module' bs z clock x) t-is (subst (λ (z : Scope). IsClockRead z.module' bs t' clock x) s-is h))))
      (cases_lt j k)

  pub none_reads : (k : ℕ) → length ss ≤ k → NoneBefore k → NoneReads ss ts kept clock
  none_reads k done before j s t as' at x h = let lt = slice_get_within ss j s at.scope in before j (omega (arith, lt, done)) s t as' at x h

  pub reads : (k : ℕ) (s : Scope) (t : List Link) (as' : List Expr) → IsAt ss ts kept k s t as' → (x n : Name) → IsClockRead s.module' as' t clock x → n ≡ s.prefix ++ x → SomeReads ss ts kept clock (f.Clock n)
  reads k s t as' at x n h e = (k, s, t, as', at, x, h, e)
