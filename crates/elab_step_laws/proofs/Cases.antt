-- Case statements: labels that read the same, and full ones.
use Rattle.std.proofs.Common.{arith, ◌≡◌, ℕ, ◌<◌, ◌≤◌, ◌^◌, max, Bool, true, false, List, [], ◌∷◌, Some, sym, ap, ◌∙◌, refl, ⊎_elim, subst, ◌&&◌, ◌||◌}
use Rattle.std.specs.Prelude.{nat_eq, if◌then◌else◌, bit_or}
use Rattle.std.specs.List.{flat_map, list_any}
use Rattle.std.proofs.lemmas.Nat.{pow_pos}
use Rattle.std.proofs.lemmas.Bool.Decides.{Decides-eqb}
use Rattle.vlog_tree.specs.declared.expr.Expr.{Expr, Row_of-Expr, end_of-Expr, more_of-Expr}
use Rattle.vlog_tree.specs.declared.expr.Expr.TheVariants as e
use Rattle.vlog_tree.specs.declared.stmt.CaseKind.{CaseKind}
use Rattle.vlog_tree.specs.declared.stmt.CaseKind.TheVariants as k
use Rattle.vlog_tree.specs.declared.stmt.Labels.{Labels}
use Rattle.vlog_tree.specs.declared.stmt.Stmt.{Row_of-CaseItem, end_of-CaseItem, more_of-CaseItem}
use Rattle.vlog_tree.specs.declared.valuation.Entry.{Entry}
use Rattle.vlog_tree.specs.Valuation.{named}
use Rattle.vlog_tree.specs.Value.{Operand, operand_of, row_of, plain, bit_of, word_of, extend, width_of, sign_of, value_of, HasConstantParts}
use Rattle.vlog_tree_runs.specs.declared.flat.Signal.{Signal}
use Rattle.vlog_tree_runs.specs.Places.{Name, Cycle, Among}
use Rattle.vlog_tree_runs.specs.Blocks.{signal_at, widest, all_signed, exprs_in, labels_in, case_width, case_sign, ignored, matches, any_matches}
use Rattle.elab_flat_faults.specs.Texts.{names_in}
use Rattle.elab_flat_faults.specs.Paths.{AllConstant, IsSimple, IsFull}
use Rattle.elab_flat_laws.proofs.Lists.{among_append, flat_append}
use Rattle.elab_flat_laws.proofs.Lows.{at_among}
use Rattle.elab_step_laws.specs.Laws.{place_over, AreVectors}
use Rattle.elab_step_laws.proofs.Reading.{nothing, values, ReadAlike, first_of_two, second_of_two, same_operand, no_names, no_depth, named_fits, read_shape}
use Rattle.elab_step_laws.proofs.Shapes.{ShapedAlike, shape_same}
use Rattle.elab_step_laws.proofs.Bounds.{AllFit, bounded, row_bounded, bounded_own, bits_bounded}

-- ---- labels that read the same in two lists of entries

module _ (v w : List Entry) where
  pub same_widest : (xs : List Expr) → ReadAlike v w (flat_map names_in xs) → widest v xs ≡ widest w xs
  same_widest [] m = refl
  same_widest (x ∷ xs) m =
      let o = same_operand v w x (first_of_two v w (names_in x) (flat_map names_in xs) m) in
      let q = same_widest xs (second_of_two v w (names_in x) (flat_map names_in xs) m) in
      λ r. max (o r).width (q r)

  pub same_signs : (xs : List Expr) → ReadAlike v w (flat_map names_in xs) → all_signed v xs ≡ all_signed w xs
  same_signs [] m = refl
  same_signs (x ∷ xs) m =
      let o = same_operand v w x (first_of_two v w (names_in x) (flat_map names_in xs) m) in
      let q = same_signs xs (second_of_two v w (names_in x) (flat_map names_in xs) m) in
      λ r. (o r).signed && q r

  same_any : (kind : CaseKind) (a : Expr) (n n' : ℕ) (s s' : Bool) (xs : List Expr) → operand_of v a ≡ operand_of w a → n ≡ n' → s ≡ s' → ReadAlike v w (flat_map names_in xs) →
      list_any (matches kind v n s a) xs ≡ list_any (matches kind w n' s' a) xs
  same_any kind a n n' s s' [] p i j m = refl
  same_any kind a n n' s s' (x ∷ xs) p i j m =
      let o = same_operand v w x (first_of_two v w (names_in x) (flat_map names_in xs) m) in
      let q = same_any kind a n n' s s' xs p i j (second_of_two v w (names_in x) (flat_map names_in xs) m) in
      λ r. nat_eq (bit_or ((p r).value (i r) (j r)) (ignored kind x)) (bit_or ((o r).value (i r) (j r)) (ignored kind x)) || q r

-- two tests answer the same at each item
abbrev pub Agree : {n : _} → (Labels → Bool) → (Labels → Bool) → Row_of-CaseItem n → Type 0
Agree f g end_of-CaseItem = Unit {0}
Agree f g (more_of-CaseItem labels body rest) = (f labels ≡ g labels) × Agree f g rest

-- a test fails at each item
abbrev pub Unmatched : {n : _} → (Labels → Bool) → Row_of-CaseItem n → Type 0
Unmatched f end_of-CaseItem = Unit {0}
Unmatched f (more_of-CaseItem labels body rest) = (f labels ≡ false) × Unmatched f rest

pub agree_at : {k : _} (v w : List Entry) (kind : CaseKind) (a : Expr) (n n' : ℕ) (s s' : Bool) (row : Row_of-CaseItem k) → operand_of v a ≡ operand_of w a → n ≡ n' → s ≡ s' →
    ReadAlike v w (flat_map names_in (labels_in row)) → Agree (any_matches kind v n s a) (any_matches kind w n' s' a) row
agree_at v w kind a n n' s s' end_of-CaseItem p i j m = tt
agree_at v w kind a n n' s s' (more_of-CaseItem labels body rest) p i j m =
    let l = subst (λ xs. ReadAlike v w xs) (flat_append names_in (exprs_in labels) (labels_in rest)) m in (
      same_any v w kind a n n' s s' (exprs_in labels) p i j (first_of_two v w (flat_map names_in (exprs_in labels)) (flat_map names_in (labels_in rest)) l),
      agree_at v w kind a n n' s s' rest p i j (second_of_two v w (flat_map names_in (exprs_in labels)) (flat_map names_in (labels_in rest)) l),
    )

or_false : (a b : Bool) → a || b ≡ false → (a ≡ false) × (b ≡ false)
or_false true b h = cc
or_false false b h = (refl, h)

any_false : {X : Type 0} (f : X → Bool) (xs : List X) (y : X) → list_any f xs ≡ false → Among xs y → f y ≡ true → ⊥
any_false f [] y h m t = m
any_false f (x ∷ xs) y h m t =
    let r = or_false (f x) (list_any f xs) h in
    ⊎_elim (λ (i : x ≡ y). let z : true ≡ false = sym t ∙ (ap f (sym i) ∙ r.0) in cc) (λ l. any_false f xs y r.1 l t) m

pub unmatched_label : {k : _} (kind : CaseKind) (v : List Entry) (n : ℕ) (s : Bool) (a : Expr) (row : Row_of-CaseItem k) (x : Expr) → Unmatched (any_matches kind v n s a) row →
    Among (labels_in row) x → matches kind v n s a x ≡ true → ⊥
unmatched_label kind v n s a end_of-CaseItem x h m t = m
unmatched_label kind v n s a (more_of-CaseItem labels body rest) x h m t =
    ⊎_elim (λ l. any_false (matches kind v n s a) (exprs_in labels) x h.0 l t) (λ l. unmatched_label kind v n s a rest x h.1 l t) (among_append (exprs_in labels) (labels_in rest) x m)

-- ---- names, selects and concatenations

-- its value is a number of its own length, extended
pub record Extends (o : Operand) : Type 0 where
  pub number : ℕ
  pub below : number < 2 ^ o.width
  pub is : (n : ℕ) (t : Bool) → o.value n (o.signed && t) ≡ extend (o.signed && t) o.width n number

plain_extends : (n x : ℕ) (t : Bool) → x < 2 ^ n → Extends (plain n x t)
plain_extends n x t h = record { number = x; below = h; is = λ k s. refl }

row_extends : {k : _} (v : List Entry) (m : AllFit v) (row : Row_of-Expr k) → Extends (row_of v row)
row_extends v m end_of-Expr = plain_extends 0 0 true (pow_pos 0)
row_extends v m (more_of-Expr a rest) = plain_extends _ _ _ (bounded_own (row_of v (more_of-Expr a rest)) (row_bounded v m (more_of-Expr a rest)))

simple_extends : (v : List Entry) (m : AllFit v) (a : Expr) → IsSimple a → Extends (operand_of v a)
simple_extends v m (e.Name x) i = record { number = (named v x).value; below = m.fits x; is = λ n t. refl }
simple_extends v m (e.Select' x h (more_of-Expr a end_of-Expr)) i =
    subst (λ (k : ℕ). Extends (if nat_eq k 0 then bit_of (named v x) (operand_of v a) else word_of v x (operand_of v a))) (sym (m.plain x))
    (plain_extends 1 _ _ (bits_bounded (named v x) _ 1 1 (omega arith)))
simple_extends v m (e.Part' x span h (more_of-Expr a end_of-Expr) g (more_of-Expr c end_of-Expr)) i = plain_extends _ _ _ (bits_bounded (named v x) _ _ _ (omega arith))
simple_extends v m (e.ConstantSelect' k h (more_of-Expr a end_of-Expr)) i = plain_extends 1 _ _ (bits_bounded k _ 1 1 (omega arith))
simple_extends v m (e.ConstantPart' k span h (more_of-Expr a end_of-Expr) g (more_of-Expr c end_of-Expr)) i = plain_extends _ _ _ (bits_bounded k _ _ _ (omega arith))
simple_extends v m (e.Concat' h row) i = row_extends v m row
simple_extends v m (e.Number n) i = absurd i
simple_extends v m (e.Cast' cast h row) i = absurd i
simple_extends v m (e.Paren' h row) i = absurd i
simple_extends v m (e.Repeat' h row g rest) i = absurd i
simple_extends v m (e.Unary' op h row) i = absurd i
simple_extends v m (e.Binary' op h row g rest) i = absurd i
simple_extends v m (e.Choice' h row g rest i' more) i = absurd i

-- ---- signals

-- the values of signals are below 2 to their lengths
abbrev pub Fits : List Signal → Cycle → Type 0
Fits gs c = (x : Name) (g : Signal) → signal_at gs x ≡ Some g → c x < 2 ^ g.width

module _ (gs : List Signal) (vectors : AreVectors gs) where
  pub all_fit : (c : Cycle) → Fits gs c → AllFit (values gs c)
  all_fit c f = record { fits = λ x. named_fits gs c x.text x.offset vectors (λ g s. let r = at_among gs x.text g s in subst (λ z. c z < 2 ^ g.width) (sym r.1) (f x.text g s)); plain = λ x. no_depth gs c x vectors }

  pub shaped_alike : (c d : Cycle) → ShapedAlike (values gs c) (values gs d)
  shaped_alike c d = record {
    width = λ x. (read_shape gs c d x.text x.offset vectors).width;
    signed = λ x. (read_shape gs c d x.text x.offset vectors).signed;
    plain = λ x. no_depth gs c x vectors;
    plain_too = λ x. no_depth gs d x vectors;
  }

  constants_alike : (c d : Cycle) (xs : List Expr) → AllConstant (place_over gs) xs → ReadAlike (values gs c) (values gs d) (flat_map names_in xs)
  constants_alike c d xs h = record { entries = λ x j m. absurd (no_name xs x h m); plain = λ r. no_depth gs c r vectors; plain_too = λ r. no_depth gs d r vectors }
    where
      no_name : (xs : List Expr) (x : Name) → AllConstant (place_over gs) xs → Among (flat_map names_in xs) x → ⊥
      no_name [] x h m = m
      no_name (a ∷ xs) x h m = ⊎_elim (λ l. no_names a x h.0 l) (λ l. no_name xs x h.1 l) (among_append (names_in a) (flat_map names_in xs) x m)

  constant_label : (c d : Cycle) (xs : List Expr) (x : Expr) → AllConstant (place_over gs) xs → Among xs x → operand_of (values gs c) x ≡ operand_of (values gs d) x
  constant_label c d [] x h m = absurd m
  constant_label c d (a ∷ xs) x h m =
      ⊎_elim
      (λ (i : a ≡ x). subst (λ z. operand_of (values gs c) z ≡ operand_of (values gs d) z) i (same_operand (values gs c) (values gs d) a (record { entries = λ y j l. absurd (no_names a y h.0 l); plain = λ r. no_depth gs c r vectors; plain_too = λ r. no_depth gs d r vectors })))
      (λ l. constant_label c d xs x h.1 l)
      m

  same_match : (m n : ℕ) → m ≡ n → nat_eq (bit_or m 0) (bit_or n 0) ≡ true
  same_match m n h = (Decides-eqb (bit_or m 0) (bit_or n 0)).1 (ap (λ k. bit_or k 0) h)

  extends_at : (v v' : List Entry) (a : Expr) (labels : List Expr) → width_of v a ≡ width_of v' a → sign_of v a ≡ sign_of v' a → (n : ℕ) → (x : Extends (operand_of v a)) →
      value_of v a n (case_sign v' a labels) ≡ extend (case_sign v' a labels) (width_of v' a) n x.number
  extends_at v v' a labels wide sign n x =
      ap (λ s. value_of v a n (s && all_signed v' labels)) (sym sign)
      ∙ (x.is n (all_signed v' labels) ∙ (λ r. extend (sign r && all_signed v' labels) (wide r) n x.number))

  -- one of the labels of a full case statement matches
  pub full_matches : (kind : CaseKind) (a : Expr) (labels : List Expr) (c : Cycle) → Fits gs c → HasConstantParts nothing a → IsFull (place_over gs) kind a labels →
      (x : Expr) × Among labels x × (matches kind (values gs c) (case_width (values gs c) a labels) (case_sign (values gs c) a labels) a x ≡ true)
  full_matches k.Casez a labels c f h full = absurd full
  full_matches k.Case a labels c f h full =
      let z : Cycle = λ x. 0 in
      let v = values gs c in
      let v' = values gs z in
      let shape = shape_same v v' (shaped_alike c z) a h in
      let alike = constants_alike c z labels full.0 in
      let n : case_width v a labels ≡ case_width v' a labels = λ r. max (shape.width r) (same_widest v v' labels alike r) in
      let s : case_sign v a labels ≡ case_sign v' a labels = λ r. shape.signed r && same_signs v v' labels alike r in
      let at : value_of v a (case_width v a labels) (case_sign v a labels) ≡ value_of v a (case_width v' a labels) (case_sign v' a labels) = λ r. value_of v a (n r) (s r) in
      let found : (x : Expr) → Among labels x → value_of v' x (case_width v' a labels) (case_sign v' a labels) ≡ value_of v a (case_width v' a labels) (case_sign v' a labels) →
      matches k.Case v (case_width v a labels) (case_sign v a labels) a x ≡ true =
      λ x m t. same_match (value_of v a (case_width v a labels) (case_sign v a labels)) (value_of v x (case_width v a labels) (case_sign v a labels))
      (at ∙ (sym t ∙ sym (λ r. (constant_label c z labels x full.0 m r).value (n r) (s r)))) in
      ⊎_elim
      (λ g.
      let l : (operand_of v a).width ≤ case_width v' a labels = omega (arith, shape.width) in
      let r = g (value_of v a (case_width v' a labels) (case_sign v' a labels)) (bounded v (all_fit c f) a (case_width v' a labels) (case_sign v' a labels) l) in
      (r.0, r.1, found r.0 r.1 r.2))
      (λ g.
      let x = simple_extends v (all_fit c f) a g.0 in
      let r = g.1 x.number (subst (λ k. x.number < 2 ^ k) shape.width x.below) in
      (r.0, r.1, found r.0 r.1 (r.2 ∙ sym (extends_at v v' a labels shape.width shape.signed (case_width v' a labels) x))))
      full.1
