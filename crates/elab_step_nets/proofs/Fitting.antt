-- A statement leaves each signal a number of its length.
use Rattle.std.proofs.Common.{arith, ◌≡◌, ℕ, zero, suc, ◌+◌, ◌-◌, ◌*◌, ◌/◌, ◌%◌, ◌^◌, ◌<◌, ◌≤◌, Bool, true, false, List, [], ◌∷◌, ◌++◌, refl, sym, ap, ◌∙◌, subst, ◌⊎◌, inl, inr, ⊎_elim, nat_lt, Option, Some, map}
use Rattle.std.specs.Prelude.{if◌then◌else◌, ℤ, pos, negsuc, ◌+ℤ◌, unwrap_or}
use Rattle.std.specs.Option.{option_map}
use Rattle.std.specs.List.{flat_map}
use Rattle.std.specs.Str.{bytes_eq}
use Rattle.std.proofs.lemmas.Bool.{ltb-true, ltb-false, eq-eqb}
use Rattle.std.proofs.lemmas.Slice.Eq.{bytes_eq-Decides}
use Rattle.std.proofs.Math.Nat.{pow-suc, mod-lt, mul-le-mul_right, div-lt_iff_lt-mul}
use Rattle.std.proofs.lemmas.Nat.{pow-add}
use Rattle.vlog_tree.specs.declared.expr.Expr.{Expr}
use Rattle.vlog_tree.specs.declared.stmt.Labels.{Labels}
use Rattle.vlog_tree.specs.declared.stmt.Lval.{Lval, Row_of-Lval, end_of-Lval, more_of-Lval}
use Rattle.vlog_tree.specs.declared.stmt.Lval.TheVariants as l
use Rattle.vlog_tree.specs.declared.stmt.Stmt.{Stmt, Row_of-Stmt, end_of-Stmt, more_of-Stmt, Row_of-CaseItem, end_of-CaseItem, more_of-CaseItem}
use Rattle.vlog_tree.specs.declared.stmt.Stmt.TheVariants as s
use Rattle.vlog_tree.specs.declared.valuation.Entry.{Entry}
use Rattle.vlog_tree.specs.Valuation.{entry_at, meant, named, depth_of}
use Rattle.vlog_tree.specs.Value.{assigned}
use Rattle.vlog_tree_runs.specs.declared.flat.Signal.{Signal}
use Rattle.vlog_tree_runs.specs.Places.{Name, Cycle, Among, read, entries_of, held_entry, valuation, Piece, pieces, row_pieces, total, with_bit, write_bit, write_bits, put, give, store}
use Rattle.vlog_tree_runs.specs.Blocks.{run, run_row, run_items, run_default, seen, is_false, any_matches, is_default, labels_in, case_width, case_sign, signal_at}
use Rattle.elab_step_laws.specs.Laws.{AreFit, place_over}
use Rattle.elab_step_nets.specs.Solving.{AreDistinct, ArePlain}
use Rattle.elab_step_nets.proofs.Solving.{bool_cases, same_name, other_name}

-- ---- bits of a number

pub positive : (k : ℕ) → 0 < 2 ^ k
positive zero = omega (arith)
positive (suc k) = omega (arith, pow-suc 2 k, positive k)

pub less_or : (j b : ℕ) → (j < b) ⊎ (b ≤ j)
less_or j b = ⊎_elim (λ (e : nat_lt j b ≡ true). inl (ltb-true j b e)) (λ (e : nat_lt j b ≡ false). inr (ltb-false j b e)) (bool_cases (nat_lt j b))

next_power : (b : ℕ) → 2 ^ (b + 1) ≡ 2 * 2 ^ b
next_power b = let e : b + 1 ≡ suc b = omega arith in ap (λ k. 2 ^ k) e ∙ omega (arith, pow-suc 2 b)

one_more : (q m : ℕ) → (q + 1) * m ≡ q * m + m
one_more q m = grind arith

half : (t : ℕ) → t % 2 < 2
half t = mod-lt t (omega arith)

bit_fits : (w b t x : ℕ) → b < w → t < 2 → x < 2 ^ w → with_bit b t x < 2 ^ w
bit_fits w b t x l h f =
    let e : w ≡ (w - (b + 1)) + (b + 1) = omega arith in
    let pw : 2 ^ w ≡ 2 ^ (w - (b + 1)) * 2 ^ (b + 1) = ap (λ k. 2 ^ k) e ∙ pow-add 2 (w - (b + 1)) (b + 1) in
    let q : x / 2 ^ (b + 1) < 2 ^ (w - (b + 1)) = (div-lt_iff_lt-mul (positive (b + 1))).1 (subst (λ n. x < n) pw f) in
    let m : (x / 2 ^ (b + 1) + 1) * 2 ^ (b + 1) ≤ 2 ^ (w - (b + 1)) * 2 ^ (b + 1) = mul-le-mul_right (2 ^ (b + 1)) (omega (arith, q)) in
    let o = one_more (x / 2 ^ (b + 1)) (2 ^ (b + 1)) in
    let r : x % 2 ^ b < 2 ^ b = mod-lt x (positive b) in
    let u : t * 2 ^ b ≤ 1 * 2 ^ b = mul-le-mul_right (2 ^ b) (omega (arith, h)) in
    let n = next_power b in
    omega (arith, pw, m, o, r, u, n)

write_bit_fits : (size w : ℕ) (i : ℤ) (t x : ℕ) → size ≤ w → t < 2 → x < 2 ^ w → write_bit size i t x < 2 ^ w
write_bit_fits size w (pos b) t x l h f =
    ⊎_elim
    (λ (e : nat_lt b size ≡ true). rw e (bit_fits w b t x (let k = ltb-true b size e in omega (arith, k, l)) h f))
    (λ (e : nat_lt b size ≡ false). rw e f)
    (bool_cases (nat_lt b size))
write_bit_fits size w (negsuc b) t x l h f = f

write_fits : (size w : ℕ) (i : ℤ) (n t x : ℕ) → size ≤ w → x < 2 ^ w → write_bits size i n t x < 2 ^ w
write_fits size w i zero t x l f = f
write_fits size w i (suc n) t x l f = write_fits size w (i +ℤ pos 1) n (t / 2) (write_bit size i (t % 2) x) l (write_bit_fits size w i (t % 2) x l (half t) f)

-- ---- signals by their names

pub among_names : (gs : List Signal) (g : Signal) → Among gs g → Among (map (λ (h : Signal). h.name) gs) g.name
among_names [] g m = absurd m
among_names (h ∷ gs) g m = ⊎_elim (λ e. inl (ap (λ (k : Signal). k.name) e)) (λ u. inr (among_names gs g u)) m

pub found_signal : (gs : List Signal) (g : Signal) → AreDistinct (map (λ (h : Signal). h.name) gs) → Among gs g → signal_at gs g.name ≡ Some g
found_signal [] g d m = absurd m
found_signal (h ∷ gs) g d m =
    ⊎_elim
    (λ (e : h ≡ g). rw (ap (λ (k : Signal). bytes_eq k.name g.name) e ∙ same_name g.name) (ap Some e))
    (λ (u : Among gs g).
    rw (other_name h.name g.name (λ e. d.0 (subst (λ x. Among (map (λ (k : Signal). k.name) gs) x) (sym e) (among_names gs g u)))) (found_signal gs g d.1 u))
    m

pub one_entry : (g : Signal) (c : Cycle) → g.depth ≡ 0 → entries_of [] c g ≡ held_entry [] c g ∷ []
one_entry g c z = rw (eq-eqb g.depth 0 z) refl

pub found_entry : (gs : List Signal) (c : Cycle) (g : Signal) → AreDistinct (map (λ (h : Signal). h.name) gs) → ArePlain gs → Among gs g
    → entry_at (flat_map (entries_of [] c) gs) g.name 0 ≡ Some (held_entry [] c g)
found_entry [] c g d z m = absurd m
found_entry (h ∷ gs) c g d z m =
    ap (λ es. entry_at (es ++ flat_map (entries_of [] c) gs) g.name 0) (one_entry h c z.0)
    ∙ ⊎_elim
    (λ (e : h ≡ g). rw (ap (λ (k : Signal). bytes_eq k.name g.name) e ∙ same_name g.name) (ap (λ k. Some (held_entry [] c k)) e))
    (λ (u : Among gs g).
    rw (other_name h.name g.name (λ e. d.0 (subst (λ x. Among (map (λ (k : Signal). k.name) gs) x) (sym e) (among_names gs g u)))) (found_entry gs c g d.1 z.1 u))
    m

no_depth : (gs : List Signal) (c : Cycle) (x : Name) → ArePlain gs → unwrap_or (option_map (λ (e : Entry). e.depth) (entry_at (flat_map (entries_of [] c) gs) x 0)) 0 ≡ 0
no_depth [] c x z = refl
no_depth (h ∷ gs) c x z =
    ap (λ es. unwrap_or (option_map (λ (e : Entry). e.depth) (entry_at (es ++ flat_map (entries_of [] c) gs) x 0)) 0) (one_entry h c z.0)
    ∙ ⊎_elim (λ (e : bytes_eq h.name x ≡ true). rw e z.0) (λ (e : bytes_eq h.name x ≡ false). rw e (no_depth gs c x z.1)) (bool_cases (bytes_eq h.name x))

module _ (gs : List Signal) (distinct : AreDistinct (map (λ (h : Signal). h.name) gs)) (plain : ArePlain gs) where
  wide : (c : Cycle) (g : Signal) (x : Name) → Among gs g → g.name ≡ x → (named (valuation (place_over gs) c) (read x)).width ≡ g.width
  wide c g x m e =
      subst (λ y. (named (valuation (place_over gs) c) (read y)).width ≡ g.width) e
      (ap (λ (o : Option Entry). (unwrap_or (option_map meant o) (record { width = 1; low = 0; signed = false; value = 0 })).width) (found_entry gs c g distinct plain m))

  -- a part of a left side is no longer than its signal
  abbrev IsWithinSignal : Piece → Type 0
  IsWithinSignal q = (g : Signal) → Among gs g → q.name ≡ g.name → q.size ≤ g.width

  abbrev AreWithin : List Piece → Type 0
  AreWithin [] = Unit {0}
  AreWithin (q ∷ qs) = IsWithinSignal q × AreWithin qs

  append_within : (ps qs : List Piece) → AreWithin ps → AreWithin qs → AreWithin (ps ++ qs)
  append_within [] qs h k = k
  append_within (p ∷ ps) qs h k = (h.0, append_within ps qs h.1 k)

  here : (c : Cycle) (x : Name) (g : Signal) → Among gs g → x ≡ g.name → (named (valuation (place_over gs) c) (read x)).width ≤ g.width
  here c x g m e = let h = wide c g x m (sym e) in omega (arith, h)

  mutual
    pieces_within : (c : Cycle) (left : Lval) → AreWithin (pieces (place_over gs) c left)
    pieces_within c (l.Name x) = (λ g m e. here c x g m e, tt)
    pieces_within c (l.Select x a) = rw (eq-eqb (depth_of (valuation (place_over gs) c) (read x)) 0 (no_depth gs c x plain)) (λ g m e. here c x g m e, tt)
    pieces_within c (l.Part x span a b) = (λ g m e. here c x g m e, tt)
    pieces_within c (l.Concat' h row) = rows_within c row

    rows_within : {m : _} (c : Cycle) (row : Row_of-Lval m) → AreWithin (row_pieces (place_over gs) c row)
    rows_within c end_of-Lval = tt
    rows_within c (more_of-Lval a rest) = append_within (pieces (place_over gs) c a) (row_pieces (place_over gs) c rest) (pieces_within c a) (rows_within c rest)

  put_fits : (q : Piece) (t : ℕ) (c : Cycle) → IsWithinSignal q → AreFit gs c → AreFit gs (put q t c)
  put_fits q t c w f g m =
      ⊎_elim
      (λ (e : bytes_eq q.name g.name ≡ true). rw e (write_fits q.size g.width q.from q.count t (c g.name) (w g m ((bytes_eq-Decides q.name g.name).0 e)) (f g m)))
      (λ (e : bytes_eq q.name g.name ≡ false). rw e (f g m))
      (bool_cases (bytes_eq q.name g.name))

  give_fits : (qs : List Piece) (t : ℕ) (c : Cycle) → AreWithin qs → AreFit gs c → AreFit gs (give qs t c)
  give_fits [] t c w f = f
  give_fits (q ∷ qs) t c w f = give_fits qs t (put q (t / 2 ^ total qs) c) w.1 (put_fits q (t / 2 ^ total qs) c w.0 f)

  store_fits : (c : Cycle) (left : Lval) (right : Expr) (d : Cycle) → AreFit gs d → AreFit gs (store (place_over gs) c left right d)
  store_fits c left right d f = give_fits (pieces (place_over gs) c left) (assigned (valuation (place_over gs) c) right (total (pieces (place_over gs) c left))) d (pieces_within c left) f

  either_fits : (t : Bool) (d e : Cycle) → AreFit gs d → AreFit gs e → AreFit gs (λ x. if t then d x else e x)
  either_fits true d e f h = f
  either_fits false d e f h = h

  -- a statement, run either way
  mutual
    pub run_fits : (o : Bool) (body : Stmt) (c d : Cycle) → AreFit gs d → AreFit gs (run o (place_over gs) body c d)
    run_fits o s.Empty c d f = f
    run_fits o (s.Block' n h row) c d f = row_fits o row c d f
    run_fits o (s.If' a h (more_of-Stmt body end_of-Stmt)) c d f =
        either_fits (is_false (place_over gs) (seen o c d) a) d (run o (place_over gs) body c d) f (run_fits o body c d f)
    run_fits o (s.IfElse' a h (more_of-Stmt body end_of-Stmt) g (more_of-Stmt other end_of-Stmt)) c d f =
        either_fits (is_false (place_over gs) (seen o c d) a) (run o (place_over gs) other c d) (run o (place_over gs) body c d) (run_fits o other c d f) (run_fits o body c d f)
    run_fits o (s.Case' kind a h row) c d f =
        let v = valuation (place_over gs) (seen o c d) in
        items_fit o (any_matches kind v (case_width v a (labels_in row)) (case_sign v a (labels_in row)) a) row c d (run_default o (place_over gs) row c d) f (default_fits o row c d f)
    run_fits o (s.Blocking left right) c d f = store_fits (seen o c d) left right d f
    run_fits o (s.Nonblocking left right) c d f = store_fits (seen o c d) left right d f

    row_fits : {m : _} (o : Bool) (row : Row_of-Stmt m) (c d : Cycle) → AreFit gs d → AreFit gs (run_row o (place_over gs) row c d)
    row_fits o end_of-Stmt c d f = f
    row_fits o (more_of-Stmt a rest) c d f = row_fits o rest c (run o (place_over gs) a c d) (run_fits o a c d f)

    items_fit : {m : _} (o : Bool) (test : Labels → Bool) (row : Row_of-CaseItem m) (c d other : Cycle) → AreFit gs d → AreFit gs other → AreFit gs (run_items o (place_over gs) test row c d other)
    items_fit o test end_of-CaseItem c d other f h = h
    items_fit o test (more_of-CaseItem labels body rest) c d other f h =
        either_fits (test labels) (run o (place_over gs) body c d) (run_items o (place_over gs) test rest c d other) (run_fits o body c d f) (items_fit o test rest c d other f h)

    default_fits : {m : _} (o : Bool) (row : Row_of-CaseItem m) (c d : Cycle) → AreFit gs d → AreFit gs (run_default o (place_over gs) row c d)
    default_fits o end_of-CaseItem c d f = f
    default_fits o (more_of-CaseItem labels body rest) c d f =
        either_fits (is_default labels) (run o (place_over gs) body c d) (run_default o (place_over gs) rest c d) (run_fits o body c d f) (default_fits o rest c d f)
