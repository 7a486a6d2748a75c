-- Of two trees that begin at one place, the shorter is followed by an operator that the longer one has there.
use Rattle.std.proofs.Common.{Bool, ℕ, zero, suc, ◌+◌, ◌≡◌, ◌<◌, ◌≤◌, ◌⊎◌, inl, inr, List, [], ◌∷◌, Some, true, refl, sym, ap, subst, ◌∙◌, arith, lit<}
use Rattle.std.specs.Prelude.{codes}
use mathlib.Core.Former.{Count}
use Rattle.vlog_tree.specs.declared.token.Token.{Token}
use Rattle.vlog_tree.specs.declared.expr.Infix.{Infix}
use Rattle.vlog_tree.specs.declared.expr.Infix.TheVariants as x
use Rattle.vlog_tree.specs.declared.expr.Name.{Name}
use Rattle.vlog_tree.specs.declared.expr.Expr.{Expr, Row_of-Expr, end_of-Expr, more_of-Expr}
use Rattle.vlog_tree.specs.declared.expr.Expr.TheVariants as e
use Rattle.vlog_tree.specs.Signs.{IsSign, infix_at, infix_level, binary_level, is_reserved, cast_of, cast_at, span_at, on_word}
use Rattle.vlog_tree.specs.Spelling.{level, height, heights, IsIdentifier, IsName, NoSuffix, Spells, SpellsList, SpellsMore}
use Rattle.vlog_read_spelling.specs.Growing.{NoPath}
use Rattle.vlog_read_spelling.proofs.Names.{bracket_no_path, one_name as same_name, name_begins}
use Rattle.vlog_read_spelling.proofs.Rows.{list_of, concat_is, repeat_is}
use Rattle.vlog_read_spelling.proofs.Tokens.{First, number, word, paren, brace, unary, nothing, first_at, Stops, stops_paren, stops_bracket, stops_brace, stops_comma, stops_colon, infix_no_suffix, binary_low, binary_high, stops_open_brace, stops_span, no_span, cast_reserved, two_signs}
use Rattle.vlog_read_spelling.proofs.Forms.{height_pos, length_of, left_end, BinaryForm, ChoiceForm, form, binary_of, choice_of, select_of, part_of, cast_tree, paren_of, unary_tree, CastForm, NamedForm, RepeatForm, ConcatForm, Begun, begun}

pub infix_low : (op : Infix) → infix_level op < 12
infix_low (x.Binary op) = binary_low op
infix_low x.Choice = lit< tt

pub infix_high : (op : Infix) → 0 < infix_level op
infix_high (x.Binary op) = omega (arith, binary_high op)
infix_high x.Choice = lit< tt

-- a ends at j, where an operator of b stands: below it to its right, or on the way to its left operand's end
pub record Shorter (set : Bool) (ts : List Token) (i : ℕ) (a : Expr) (j : ℕ) (b : Expr) (k : ℕ) (t : Spells set ts i b k) : Type 0 where
  pub less : j < k
  pub op : Infix
  pub sign : infix_at set ts j ≡ Some op
  pub binds : level b ≤ infix_level op
  pub inside : (level b < infix_level op) ⊎ (j ≤ left_end set ts i b k t)
  pub lower : height a ≤ height b

abbrev pub Outcome : (set : Bool) (ts : List Token) (i : ℕ) (a : Expr) (j : ℕ) (s : Spells set ts i a j) (b : Expr) (k : ℕ) (t : Spells set ts i b k) → Type 0
Outcome set ts i a j s b k t = ((a ≡ b) × (j ≡ k)) ⊎ (Shorter set ts i a j b k t ⊎ Shorter set ts i b k a j s)

swap : (set : Bool) (ts : List Token) (i : ℕ) (a : Expr) (j : ℕ) (s : Spells set ts i a j) (b : Expr) (k : ℕ) (t : Spells set ts i b k) → Outcome set ts i a j s b k t → Outcome set ts i b k t a j s
swap set ts i a j s b k t (inl p) = inl (sym p.0, sym p.1)
swap set ts i a j s b k t (inr (inl p)) = inr (inr p)
swap set ts i a j s b k t (inr (inr p)) = inr (inl p)

abbrev pub Compares : Bool → List Token → ℕ → Type 0
Compares set ts n = (i : ℕ) (a : Expr) (j : ℕ) (s : Spells set ts i a j) (b : Expr) (k : ℕ) (t : Spells set ts i b k)
    → height a + height b ≤ n → NoSuffix ts j → NoSuffix ts k → Outcome set ts i a j s b k t

-- a tree with an operator between its parts, and what is to its left
pub record InfixForm (set : Bool) (ts : List Token) (i : ℕ) (tree : Expr) (j : ℕ) (s : Spells set ts i tree j) : Type 0 where
  pub left : Expr
  pub at : ℕ
  pub op : Infix
  pub spells_left : Spells set ts i left at
  pub sign : infix_at set ts at ≡ Some op
  pub before : at < j
  pub binds : infix_level op ≤ level left
  pub strict : infix_level op ≡ 1 → 1 < level left
  pub level_is : level tree ≡ infix_level op
  pub lower : height left < height tree
  pub left_le : at ≤ left_end set ts i tree j s
  pub tight : (left_end set ts i tree j s ≡ at) ⊎ (infix_level op ≡ 1)

unfoldable pub infix_form : (set : Bool) (ts : List Token) (i : ℕ) (a : Expr) (j : ℕ) (s : Spells set ts i a j) → BinaryForm set ts i a j s ⊎ ChoiceForm set ts i a j s → InfixForm set ts i a j s
infix_form set ts i a j s (inl f) = record {
  left = f.left;
  at = f.at;
  op = x.Binary f.op;
  spells_left = f.spells_left;
  sign = f.sign;
  before = omega (arith, length_of set ts (f.at + 1) f.right j f.spells_right);
  binds = f.binds_left;
  strict = λ h. absurd (omega (arith, binary_high f.op));
  level_is = f.level_is;
  lower = let h = f.height_is in omega arith;
  left_le = omega (arith, f.left_is);
  tight = inl f.left_is;
}
infix_form set ts i a j s (inr f) =
    let past : f.at < j = omega (arith, length_of set ts (f.at + 1) f.yes f.mid f.spells_yes, length_of set ts (f.mid + 1) f.no j f.spells_no) in record {
      left = f.cond;
      at = f.at;
      op = x.Choice;
      spells_left = f.spells_cond;
      sign = f.sign;
      before = past;
      binds = omega (arith, f.binds_cond);
      strict = λ h. f.binds_cond;
      level_is = f.level_is;
      lower = let h = f.height_is in omega arith;
      left_le = omega (arith, f.left_is);
      tight = inr refl;
    }

pub same_op : (set : Bool) (ts : List Token) (j : ℕ) (p q : Infix) → infix_at set ts j ≡ Some p → infix_at set ts j ≡ Some q → infix_level p ≡ infix_level q
same_op set ts j p q h g = let e : p ≡ q = cc in ap infix_level e

no_op : (set : Bool) (ts : List Token) (j : ℕ) (p : Infix) → infix_at set ts j ≡ Some p → Stops set ts j → ⊥
no_op set ts j p h g = let e = g.no_infix in cc

module _ (set : Bool) (ts : List Token) (n : ℕ) (ih : Compares set ts n) (i : ℕ) (a : Expr) (j : ℕ) (s : Spells set ts i a j) (b : Expr) (k : ℕ) (t : Spells set ts i b k) (free_a : NoSuffix ts j) (free_b : NoSuffix ts k) where
  infix_prefix : (f : InfixForm set ts i a j s) → 12 ≤ level b → height f.left + height b ≤ n → Outcome set ts i a j s b k t
  infix_prefix f high small = by (ih i f.left f.at f.spells_left b k t small (infix_no_suffix set ts f.at f.op f.sign) free_b)
    where
      by : Outcome set ts i f.left f.at f.spells_left b k t → Outcome set ts i a j s b k t
      by (inl p) = inr (inr (record {
        less = omega (arith, f.before, p.1);
        op = f.op;
        sign = ap (infix_at set ts) (sym p.1) ∙ f.sign;
        binds = omega (arith, f.level_is);
        inside = inr (omega (arith, f.left_le, p.1));
        lower = omega (arith, ap height p.0, f.lower);
      }))
      by (inr (inl p)) = absurd (omega (arith, p.binds, same_op set ts f.at p.op f.op p.sign f.sign, infix_low f.op))
      by (inr (inr p)) = inr (inr (record {
        less = omega (arith, f.before, p.less);
        op = p.op;
        sign = p.sign;
        binds = omega (arith, f.level_is, f.binds, p.binds);
        inside = inr (omega (arith, f.left_le, p.less));
        lower = omega (arith, p.lower, f.lower);
      }))

  -- where the left part of a is shorter than that of b
  crossed : (f : InfixForm set ts i a j s) (g : InfixForm set ts i b k t) → height a + height g.left ≤ n
      → Shorter set ts i f.left f.at g.left g.at g.spells_left → Outcome set ts i a j s b k t
  crossed f g small q = by (ih i a j s g.left g.at g.spells_left small free_a (infix_no_suffix set ts g.at g.op g.sign))
    where
      between : level g.left ≤ infix_level f.op
      between = omega (arith, q.binds, same_op set ts f.at q.op f.op q.sign f.sign)

      never : (p : Shorter set ts i g.left g.at a j s) → infix_level p.op ≡ infix_level g.op → (level a < infix_level p.op) ⊎ (g.at ≤ left_end set ts i a j s)
          → (left_end set ts i a j s ≡ f.at) ⊎ (infix_level f.op ≡ 1) → ⊥
      never p e (inl h) r = omega (arith, between, f.level_is, g.binds, e, h)
      never p e (inr h) (inl r) = omega (arith, h, r, q.less)
      never p e (inr h) (inr r) =
          let one : infix_level g.op ≡ 1 = omega (arith, between, r, g.binds, infix_high g.op) in
          omega (arith, g.strict one, between, r)

      by : Outcome set ts i a j s g.left g.at g.spells_left → Outcome set ts i a j s b k t
      by (inl p) = inr (inl (record {
        less = omega (arith, g.before, p.1);
        op = g.op;
        sign = ap (infix_at set ts) p.1 ∙ g.sign;
        binds = omega (arith, g.level_is);
        inside = inr (omega (arith, g.left_le, p.1));
        lower = omega (arith, ap height p.0, g.lower);
      }))
      by (inr (inl p)) = inr (inl (record {
        less = omega (arith, g.before, p.less);
        op = p.op;
        sign = p.sign;
        binds = omega (arith, g.level_is, g.binds, p.binds);
        inside = inr (omega (arith, g.left_le, p.less));
        lower = omega (arith, p.lower, g.lower);
      }))
      by (inr (inr p)) = absurd (never p (same_op set ts g.at p.op g.op p.sign g.sign) p.inside f.tight)

  -- one left part: the right parts decide
  binary_rest : (f : BinaryForm set ts i a j s) (g : BinaryForm set ts i b k t) → f.left ≡ g.left → f.at ≡ g.at
      → height f.right + height g.right ≤ n → Outcome set ts i a j s b k t
  binary_rest f g left at small =
      by (ih (f.at + 1) f.right j f.spells_right g.right k moved small free_a free_b)
    where
      moved : Spells set ts (f.at + 1) g.right k
      moved = subst (λ q. Spells set ts (q + 1) g.right k) (sym at) g.spells_right

      op : f.op ≡ g.op
      op = let p : infix_at set ts g.at ≡ Some (x.Binary f.op) = ap (infix_at set ts) (sym at) ∙ f.sign in let q = g.sign in cc

      levels : binary_level f.op ≡ binary_level g.op
      levels = ap binary_level op

      by : Outcome set ts (f.at + 1) f.right j f.spells_right g.right k moved → Outcome set ts i a j s b k t
      by (inl p) = inl (f.is ∙ ((λ r. binary_of (op r) (left r) (p.0 r)) ∙ sym g.is), p.1)
      by (inr (inl p)) = inr (inl (record {
        less = p.less;
        op = p.op;
        sign = p.sign;
        binds = omega (arith, g.level_is, g.binds_right, p.binds);
        inside = inl (omega (arith, g.level_is, g.binds_right, p.binds));
        lower = omega (arith, f.height_is, g.height_is, ap height left, p.lower);
      }))
      by (inr (inr p)) = inr (inr (record {
        less = p.less;
        op = p.op;
        sign = p.sign;
        binds = omega (arith, f.level_is, f.binds_right, p.binds);
        inside = inl (omega (arith, f.level_is, f.binds_right, p.binds));
        lower = omega (arith, f.height_is, g.height_is, ap height left, p.lower);
      }))

  choice_rest : (f : ChoiceForm set ts i a j s) (g : ChoiceForm set ts i b k t) → f.cond ≡ g.cond → f.at ≡ g.at
      → height f.yes + height g.yes ≤ n → height f.no + height g.no ≤ n → Outcome set ts i a j s b k t
  choice_rest f g cond at small small' =
      by_yes (ih (f.at + 1) f.yes f.mid f.spells_yes g.yes g.mid moved small (stops_colon set ts f.mid f.colon).alone (stops_colon set ts g.mid g.colon).alone)
    where
      moved : Spells set ts (f.at + 1) g.yes g.mid
      moved = subst (λ q. Spells set ts (q + 1) g.yes g.mid) (sym at) g.spells_yes

      by_no : f.yes ≡ g.yes → (m : f.mid ≡ g.mid) → Outcome set ts (f.mid + 1) f.no j f.spells_no g.no k (subst (λ q. Spells set ts (q + 1) g.no k) (sym m) g.spells_no)
          → Outcome set ts i a j s b k t
      by_no same m (inl p) = inl (f.is ∙ ((λ r. choice_of (cond r) (same r) (p.0 r)) ∙ sym g.is), p.1)
      by_no same m (inr (inl p)) = inr (inl (record {
        less = p.less;
        op = p.op;
        sign = p.sign;
        binds = omega (arith, g.level_is, infix_high p.op);
        inside = inr (omega (arith, g.left_is, p.less));
        lower = omega (arith, f.height_is, g.height_is, ap height cond, ap height same, p.lower);
      }))
      by_no same m (inr (inr p)) = inr (inr (record {
        less = p.less;
        op = p.op;
        sign = p.sign;
        binds = omega (arith, f.level_is, infix_high p.op);
        inside = inr (omega (arith, f.left_is, p.less));
        lower = omega (arith, f.height_is, g.height_is, ap height cond, ap height same, p.lower);
      }))

      by_yes : Outcome set ts (f.at + 1) f.yes f.mid f.spells_yes g.yes g.mid moved → Outcome set ts i a j s b k t
      by_yes (inl p) =
          by_no p.0 p.1 (ih (f.mid + 1) f.no j f.spells_no g.no k (subst (λ q. Spells set ts (q + 1) g.no k) (sym p.1) g.spells_no) small' free_a free_b)
      by_yes (inr (inl p)) = absurd (no_op set ts f.mid p.op p.sign (stops_colon set ts f.mid f.colon))
      by_yes (inr (inr p)) = absurd (no_op set ts g.mid p.op p.sign (stops_colon set ts g.mid g.colon))

-- no name is a cast
pub named_no_cast : (set : Bool) (ts : List Token) (i : ℕ) (w : List ℕ) → IsIdentifier set ts i w → (c : _) → cast_at ts i ≡ Some c → ⊥
named_no_cast set ts i w p c h =
    let q : cast_of w ≡ Some c = ap (on_word cast_of) (sym p.stands) ∙ h in
    let r : is_reserved set w ≡ true = cast_reserved set w c q in let u = p.free in cc

pub no_cast : (set : Bool) (ts : List Token) (i : ℕ) (a : Expr) (j : ℕ) → NamedForm set ts i a j → (c : _) → cast_at ts i ≡ Some c → ⊥
no_cast set ts i a j (inl f) c h = let w = name_begins set ts i f.name j f.named in named_no_cast set ts i w.0 w.1 c h
no_cast set ts i a j (inr (inl f)) c h = let w = name_begins set ts i f.name f.past f.named in named_no_cast set ts i w.0 w.1 c h
no_cast set ts i a j (inr (inr f)) c h = let w = name_begins set ts i f.name f.past f.named in named_no_cast set ts i w.0 w.1 c h

pub suffix_path : (ts : List Token) (j : ℕ) → NoSuffix ts j → NoPath ts j
suffix_path ts j p = record { no_dot = p.no_dot; no_at = p.no_at }

pub no_open : (set : Bool) (ts : List Token) {m : _} (row : Row_of-Expr m) (i j : ℕ) → SpellsMore set ts i row j → IsSign ts j (codes "}") → IsSign ts i (codes "{") → ⊥
no_open set ts end_of-Expr i j p h u = two_signs ts i (codes "}") (codes "{") refl (subst (λ z. IsSign ts z (codes "}")) (sym p) h) u
no_open set ts (more_of-Expr a rest) i j p h u = two_signs ts i (codes ",") (codes "{") refl p.1 u

comma_no_brace : (ts : List Token) (i : ℕ) → IsSign ts i (codes ",") → IsSign ts i (codes "}") → ⊥
comma_no_brace ts i p q = cc

-- two trees that a closing token follows are one
module _ (set : Bool) (ts : List Token) (n : ℕ) (ih : Compares set ts n) where
  stopped : (i : ℕ) (a : Expr) (j : ℕ) → Spells set ts i a j → (b : Expr) (k : ℕ) → Spells set ts i b k → height a + height b ≤ n
      → Stops set ts j → Stops set ts k → (a ≡ b) × (j ≡ k)
  stopped i a j s b k t small p q = by (ih i a j s b k t small p.alone q.alone)
    where
      by : Outcome set ts i a j s b k t → (a ≡ b) × (j ≡ k)
      by (inl r) = r
      by (inr (inl r)) = absurd (no_op set ts j r.op r.sign p)
      by (inr (inr r)) = absurd (no_op set ts k r.op r.sign q)

  after_more : {m : _} (row : Row_of-Expr m) (i j : ℕ) → SpellsMore set ts i row j → IsSign ts j (codes "}") → Stops set ts i
  after_more end_of-Expr i j s h = subst (Stops set ts) (sym s) (stops_brace set ts j h)
  after_more (more_of-Expr a rest) i j s h = stops_comma set ts i s.1

  -- what follows a comma, or the end
  same_end : {m : _} (row : Row_of-Expr m) (i j k : ℕ) → i ≡ j → SpellsMore set ts i row k → IsSign ts j (codes "}") → (list_of row ≡ []) × (j ≡ k)
  same_end end_of-Expr i j k s t p = (refl, sym s ∙ t)
  same_end (more_of-Expr b rest) i j k s t p = absurd (comma_no_brace ts i t.1 (subst (λ z. IsSign ts z (codes "}")) (sym s) p))

  same_step : (a : Expr) (rest : List Expr) (i j k m : ℕ) → IsSign ts i (codes ",") → Spells set ts (i + 1) a m → Stops set ts m → (size : ℕ)
      → ((c : Count) (row : Row_of-Expr c) → SpellsMore set ts m row k → IsSign ts k (codes "}") → size + heights row ≤ n → (rest ≡ list_of row) × (j ≡ k))
      → (c : Count) (row : Row_of-Expr c) → SpellsMore set ts i row k → IsSign ts k (codes "}") → height a + heights row ≤ n → size + heights row ≤ n → (a ∷ rest ≡ list_of row) × (j ≡ k)
  same_step a rest i j k m comma s stop size again _ end_of-Expr t q small small' = absurd (comma_no_brace ts i comma (subst (λ z. IsSign ts z (codes "}")) (sym t) q))
  same_step a rest i j k m comma s stop size again _ (more_of-Expr b rest') t q small small' =
      let same : (a ≡ b) × (m ≡ t.0) = stopped (i + 1) a m s b t.0 t.2 (omega arith) stop (after_more rest' t.0 k t.3 q) in
      let more : (rest ≡ list_of rest') × (j ≡ k) = again _ rest' (subst (λ z. SpellsMore set ts z rest' k) (sym same.1) t.3) q (omega arith) in
      ((λ r. same.0 r ∷ more.0 r), more.1)

  same_more : {m : _} (row : Row_of-Expr m) (i j k : ℕ) → SpellsMore set ts i row j → IsSign ts j (codes "}")
      → (c : Count) (row' : Row_of-Expr c) → SpellsMore set ts i row' k → IsSign ts k (codes "}") → heights row + heights row' ≤ n → (list_of row ≡ list_of row') × (j ≡ k)
  same_more end_of-Expr i j k s p c row' t q small = let e = same_end row' i j k s t p in (sym e.0, e.1)
  same_more (more_of-Expr a rest) i j k s p c row' t q small =
      same_step a (list_of rest) i j k s.0 s.1 s.2 (after_more rest s.0 j s.3 p) (heights rest)
      (λ c'' row'' t'' q'' small''. same_more rest s.0 j k s.3 p c'' row'' t'' q'' small'') c row' t q (omega arith) (omega arith)

  same_list : {m m' : _} (row : Row_of-Expr m) (row' : Row_of-Expr m') (i j k : ℕ) → SpellsList set ts i row j → SpellsList set ts i row' k
      → IsSign ts j (codes "}") → IsSign ts k (codes "}") → heights row + heights row' ≤ n → (list_of row ≡ list_of row') × (j ≡ k)
  same_list end_of-Expr row' i j k s t p q small = absurd s
  same_list (more_of-Expr a rest) end_of-Expr i j k s t p q small = absurd t
  same_list (more_of-Expr a rest) (more_of-Expr b rest') i j k s t p q small =
      let same : (a ≡ b) × (s.0 ≡ t.0) =
      stopped i a s.0 s.1 b t.0 t.1 (omega arith) (after_more rest s.0 j s.2 p) (after_more rest' t.0 k t.2 q) in
      let more : (list_of rest ≡ list_of rest') × (j ≡ k) =
      same_more rest s.0 j k s.2 p _ rest' (subst (λ z. SpellsMore set ts z rest' k) (sym same.1) t.2) q (omega arith) in
      ((λ r. same.0 r ∷ more.0 r), more.1)

module _ (set : Bool) (ts : List Token) (n : ℕ) (ih : Compares set ts n) (i : ℕ) (a : Expr) (j : ℕ) (s : Spells set ts i a j) (b : Expr) (k : ℕ) (t : Spells set ts i b k) (free_a : NoSuffix ts j) (free_b : NoSuffix ts k) (small : height a + height b ≤ suc n) where
  same_part : (at : ℕ) (c d : Expr) (m n' : ℕ) → Spells set ts at c m → Spells set ts at d n' → height c + height d ≤ n → Stops set ts m → Stops set ts n' → (c ≡ d) × (m ≡ n')
  same_part at c d m n' p q low u v = stopped set ts n ih at c m p d n' q low u v

  -- two names at one place, a bracket after each that is not the whole
  names : (m n' : Name) (l o : ℕ) → IsName set ts i m l → NoPath ts l → IsName set ts i n' o → NoPath ts o → (m ≡ n') × (l ≡ o)
  names m n' l o p u q v = same_name set ts i m l n' o p u q v

  one_name : NamedForm set ts i a j → NamedForm set ts i b k → Outcome set ts i a j s b k t
  one_name (inl f) (inl g) =
      let p : (f.name ≡ g.name) × (j ≡ k) = names f.name g.name j k f.named (suffix_path ts j free_a) g.named (suffix_path ts k free_b) in
      inl (f.is ∙ (ap e.Name p.0 ∙ sym g.is), p.1)
  one_name (inl f) (inr (inl g)) =
      let p : (f.name ≡ g.name) × (j ≡ g.past) = names f.name g.name j g.past f.named (suffix_path ts j free_a) g.named (bracket_no_path ts g.past g.open_) in
      absurd (free_a.no_select (subst (λ z. IsSign ts z (codes "[")) (sym p.1) g.open_))
  one_name (inl f) (inr (inr g)) =
      let p : (f.name ≡ g.name) × (j ≡ g.past) = names f.name g.name j g.past f.named (suffix_path ts j free_a) g.named (bracket_no_path ts g.past g.open_) in
      absurd (free_a.no_select (subst (λ z. IsSign ts z (codes "[")) (sym p.1) g.open_))
  one_name (inr (inl f)) (inl g) =
      let p : (f.name ≡ g.name) × (f.past ≡ k) = names f.name g.name f.past k f.named (bracket_no_path ts f.past f.open_) g.named (suffix_path ts k free_b) in
      absurd (free_b.no_select (subst (λ z. IsSign ts z (codes "[")) p.1 f.open_))
  one_name (inr (inr f)) (inl g) =
      let p : (f.name ≡ g.name) × (f.past ≡ k) = names f.name g.name f.past k f.named (bracket_no_path ts f.past f.open_) g.named (suffix_path ts k free_b) in
      absurd (free_b.no_select (subst (λ z. IsSign ts z (codes "[")) p.1 f.open_))
  one_name (inr (inl f)) (inr (inl g)) =
      let w : (f.name ≡ g.name) × (f.past ≡ g.past) = names f.name g.name f.past g.past f.named (bracket_no_path ts f.past f.open_) g.named (bracket_no_path ts g.past g.open_) in
      let p : (f.part ≡ g.part) × (f.at ≡ g.at) =
      same_part (f.past + 1) f.part g.part f.at g.at f.spells_part (subst (λ z. Spells set ts (z + 1) g.part g.at) (sym w.1) g.spells_part) (omega (arith, f.height_is, g.height_is)) (stops_bracket set ts f.at f.close) (stops_bracket set ts g.at g.close) in
      inl (f.is ∙ ((λ r. select_of (w.0 r) (p.0 r)) ∙ sym g.is), omega (arith, f.end_is, g.end_is, p.1))
  one_name (inr (inl f)) (inr (inr g)) =
      let w : (f.name ≡ g.name) × (f.past ≡ g.past) = names f.name g.name f.past g.past f.named (bracket_no_path ts f.past f.open_) g.named (bracket_no_path ts g.past g.open_) in
      let p : (f.part ≡ g.part) × (f.at ≡ g.at) =
      same_part (f.past + 1) f.part g.part f.at g.at f.spells_part (subst (λ z. Spells set ts (z + 1) g.part g.at) (sym w.1) g.spells_part) (omega (arith, f.height_is, g.height_is)) (stops_bracket set ts f.at f.close) (stops_span set ts g.at g.span g.sign) in
      absurd (no_span ts g.at g.span g.sign (subst (λ z. IsSign ts z (codes "]")) p.1 f.close))
  one_name (inr (inr f)) (inr (inl g)) =
      let w : (f.name ≡ g.name) × (f.past ≡ g.past) = names f.name g.name f.past g.past f.named (bracket_no_path ts f.past f.open_) g.named (bracket_no_path ts g.past g.open_) in
      let p : (f.part ≡ g.part) × (f.at ≡ g.at) =
      same_part (f.past + 1) f.part g.part f.at g.at f.spells_part (subst (λ z. Spells set ts (z + 1) g.part g.at) (sym w.1) g.spells_part) (omega (arith, f.height_is, g.height_is)) (stops_span set ts f.at f.span f.sign) (stops_bracket set ts g.at g.close) in
      absurd (no_span ts f.at f.span f.sign (subst (λ z. IsSign ts z (codes "]")) (sym p.1) g.close))
  one_name (inr (inr f)) (inr (inr g)) =
      let w : (f.name ≡ g.name) × (f.past ≡ g.past) = names f.name g.name f.past g.past f.named (bracket_no_path ts f.past f.open_) g.named (bracket_no_path ts g.past g.open_) in
      let p : (f.part ≡ g.part) × (f.at ≡ g.at) =
      same_part (f.past + 1) f.part g.part f.at g.at f.spells_part (subst (λ z. Spells set ts (z + 1) g.part g.at) (sym w.1) g.spells_part) (omega (arith, f.height_is, g.height_is)) (stops_span set ts f.at f.span f.sign) (stops_span set ts g.at g.span g.sign) in
      let q : (f.other ≡ g.other) × (f.last ≡ g.last) =
      same_part (f.at + 1) f.other g.other f.last g.last f.spells_other (subst (λ z. Spells set ts (z + 1) g.other g.last) (sym p.1) g.spells_other)
      (omega (arith, f.height_is, g.height_is)) (stops_bracket set ts f.last f.close) (stops_bracket set ts g.last g.close) in
      let sign : span_at ts g.at ≡ Some f.span = ap (span_at ts) (sym p.1) ∙ f.sign in
      let span : f.span ≡ g.span = let h = g.sign in cc in
      inl (f.is ∙ ((λ r. part_of (w.0 r) (span r) (p.0 r) (q.0 r)) ∙ sym g.is), omega (arith, f.end_is, g.end_is, q.1))

  one_cast : CastForm set ts i a j → CastForm set ts i b k → Outcome set ts i a j s b k t
  one_cast f g =
      let p : (f.part ≡ g.part) × (f.at ≡ g.at) =
      same_part (i + 2) f.part g.part f.at g.at f.spells_part g.spells_part (omega (arith, f.height_is, g.height_is)) (stops_paren set ts f.at f.close) (stops_paren set ts g.at g.close) in
      let cast : f.cast ≡ g.cast = let u = f.word in let v = g.word in cc in
      inl (f.is ∙ ((λ r. cast_tree (cast r) (p.0 r)) ∙ sym g.is), omega (arith, f.end_is, g.end_is, p.1))

  one_word : NamedForm set ts i a j ⊎ CastForm set ts i a j → NamedForm set ts i b k ⊎ CastForm set ts i b k → Outcome set ts i a j s b k t
  one_word (inl f) (inl g) = one_name f g
  one_word (inl f) (inr g) = absurd (no_cast set ts i a j f g.cast g.word)
  one_word (inr f) (inl g) = absurd (no_cast set ts i b k g f.cast f.word)
  one_word (inr f) (inr g) = one_cast f g

  -- a concatenation goes on at a comma or ends, where a replication has its inner brace
  mixed : {m : _} (row : Row_of-Expr m) (at : ℕ) → SpellsList set ts (i + 1) row at → IsSign ts at (codes "}") → (c : Expr) (m' : ℕ) → Spells set ts (i + 1) c m' → IsSign ts m' (codes "{")
      → heights row + height c ≤ n → ⊥
  mixed end_of-Expr at p close c m' q h low = p
  mixed (more_of-Expr x rest) at p close c m' q h low =
      let r : (x ≡ c) × (p.0 ≡ m') = same_part (i + 1) x c p.0 m' p.1 q (omega arith) (after_more set ts n ih rest p.0 at p.2 close) (stops_open_brace set ts m' h) in
      no_open set ts rest p.0 at p.2 close (subst (λ z. IsSign ts z (codes "{")) (sym r.1) h)

  one_brace : ConcatForm set ts i a j ⊎ RepeatForm set ts i a j → ConcatForm set ts i b k ⊎ RepeatForm set ts i b k → Outcome set ts i a j s b k t
  one_brace (inl f) (inl g) =
      let p : (list_of f.row ≡ list_of g.row) × (f.at ≡ g.at) =
      same_list set ts n ih f.row g.row (i + 1) f.at g.at f.spells_row g.spells_row f.close g.close (omega (arith, f.height_is, g.height_is)) in
      inl (f.is ∙ (concat_is f.shape f.row ∙ (ap e.Concat p.0 ∙ (sym (concat_is g.shape g.row) ∙ sym g.is))), omega (arith, f.end_is, g.end_is, p.1))
  one_brace (inl f) (inr g) = absurd (mixed f.row f.at f.spells_row f.close g.count g.at g.spells_count g.open_ (omega (arith, f.height_is, g.height_is)))
  one_brace (inr f) (inl g) = absurd (mixed g.row g.at g.spells_row g.close f.count f.at f.spells_count f.open_ (omega (arith, f.height_is, g.height_is)))
  one_brace (inr f) (inr g) =
      let c : (f.count ≡ g.count) × (f.at ≡ g.at) =
      same_part (i + 1) f.count g.count f.at g.at f.spells_count g.spells_count (omega (arith, f.height_is, g.height_is)) (stops_open_brace set ts f.at f.open_) (stops_open_brace set ts g.at g.open_) in
      let p : (list_of f.row ≡ list_of g.row) × (f.last ≡ g.last) =
      same_list set ts n ih f.row g.row (f.at + 1) f.last g.last f.spells_row (subst (λ z. SpellsList set ts (z + 1) g.row g.last) (sym c.1) g.spells_row) f.close g.close
      (omega (arith, f.height_is, g.height_is)) in
      inl (f.is ∙ (repeat_is f.count f.shape f.row ∙ ((λ r. e.Repeat (c.0 r) (p.0 r)) ∙ (sym (repeat_is g.count g.shape g.row) ∙ sym g.is))), omega (arith, f.end_is, g.end_is, p.1))

  one_begin : (c : First) → Begun set ts i a j c → Begun set ts i b k c → Outcome set ts i a j s b k t
  one_begin (number m) f g = inl (f.0 ∙ sym g.0, f.2 ∙ sym g.2)
  one_begin (word w) f g = one_word f g
  one_begin paren f g =
      let p : (f.part ≡ g.part) × (f.at ≡ g.at) =
      stopped set ts n ih (i + 1) f.part f.at f.spells_part g.part g.at g.spells_part (omega (arith, f.height_is, g.height_is)) (stops_paren set ts f.at f.close) (stops_paren set ts g.at g.close) in
      inl (f.is ∙ ((λ r. paren_of (p.0 r)) ∙ sym g.is), omega (arith, f.end_is, g.end_is, p.1))
  one_begin brace f g = one_brace f g
  one_begin (unary op) f g = by (ih (i + 1) f.part j f.spells_part g.part k g.spells_part (omega (arith, f.height_is, g.height_is)) free_a free_b)
    where
      by : Outcome set ts (i + 1) f.part j f.spells_part g.part k g.spells_part → Outcome set ts i a j s b k t
      by (inl p) = inl (f.is ∙ ((λ r. unary_tree op (p.0 r)) ∙ sym g.is), p.1)
      by (inr (inl p)) = absurd (omega (arith, p.binds, infix_low p.op, g.binds))
      by (inr (inr p)) = absurd (omega (arith, p.binds, infix_low p.op, f.binds))
  one_begin nothing f g = absurd f

  by_rest : (f : BinaryForm set ts i a j s ⊎ ChoiceForm set ts i a j s) (g : BinaryForm set ts i b k t ⊎ ChoiceForm set ts i b k t)
      → (infix_form set ts i a j s f).left ≡ (infix_form set ts i b k t g).left → (infix_form set ts i a j s f).at ≡ (infix_form set ts i b k t g).at → Outcome set ts i a j s b k t
  unfolding infix_form
  by_rest (inl f) (inl g) left at = binary_rest set ts n ih i a j s b k t free_a free_b f g left at (omega (arith, f.height_is, g.height_is))
  by_rest (inl f) (inr g) left at = let p : infix_at set ts g.at ≡ Some (x.Binary f.op) = ap (infix_at set ts) (sym at) ∙ f.sign in let q = g.sign in absurd (cc)
  by_rest (inr f) (inl g) left at = let p : infix_at set ts g.at ≡ Some x.Choice = ap (infix_at set ts) (sym at) ∙ f.sign in let q = g.sign in absurd (cc)
  by_rest (inr f) (inr g) left at =
      choice_rest set ts n ih i a j s b k t free_a free_b f g left at (omega (arith, f.height_is, g.height_is)) (omega (arith, f.height_is, g.height_is))

  two_infix : (f : BinaryForm set ts i a j s ⊎ ChoiceForm set ts i a j s) (g : BinaryForm set ts i b k t ⊎ ChoiceForm set ts i b k t) → Outcome set ts i a j s b k t
  two_infix f g = by (ih i u.left u.at u.spells_left v.left v.at v.spells_left (omega (arith, u.lower, v.lower)) (infix_no_suffix set ts u.at u.op u.sign) (infix_no_suffix set ts v.at v.op v.sign))
    where
      u : InfixForm set ts i a j s
      u = infix_form set ts i a j s f

      v : InfixForm set ts i b k t
      v = infix_form set ts i b k t g

      by : Outcome set ts i u.left u.at u.spells_left v.left v.at v.spells_left → Outcome set ts i a j s b k t
      by (inl p) = by_rest f g p.0 p.1
      by (inr (inl p)) = crossed set ts n ih i a j s b k t free_a free_b u v (omega (arith, v.lower)) p
      by (inr (inr p)) = swap set ts i b k t a j s (crossed set ts n ih i b k t a j s free_b free_a v u (omega (arith, u.lower)) p)

  by_forms : (BinaryForm set ts i a j s ⊎ ChoiceForm set ts i a j s) ⊎ (12 ≤ level a) → (BinaryForm set ts i b k t ⊎ ChoiceForm set ts i b k t) ⊎ (12 ≤ level b) → Outcome set ts i a j s b k t
  by_forms (inl f) (inl g) = two_infix f g
  by_forms (inl f) (inr high) =
      let u = infix_form set ts i a j s f in infix_prefix set ts n ih i a j s b k t free_a free_b u high (omega (arith, u.lower))
  by_forms (inr high) (inl g) =
      let v = infix_form set ts i b k t g in swap set ts i b k t a j s (infix_prefix set ts n ih i b k t a j s free_b free_a v high (omega (arith, v.lower)))
  by_forms (inr high) (inr high') = one_begin (first_at ts i) (begun set ts i a j s high) (begun set ts i b k t high')

pub compare : (set : Bool) (ts : List Token) (n : ℕ) → Compares set ts n
compare set ts zero i a j s b k t small free_a free_b = absurd (omega (arith, height_pos a))
compare set ts (suc n) i a j s b k t small free_a free_b =
    by_forms set ts n (compare set ts n) i a j s b k t free_a free_b small (form set ts i a j s) (form set ts i b k t)
