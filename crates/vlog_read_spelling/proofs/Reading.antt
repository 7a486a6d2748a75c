-- What is read at a place: it is one tree, it begins with an operand, and what follows an operator in it.
use Rattle.std.proofs.Common.{Bool, ℕ, zero, suc, ◌+◌, ◌≡◌, ◌<◌, ◌≤◌, ◌⊎◌, inl, inr, List, length, Some, sym, ap, subst, ◌∙◌, arith, lit<}
use Rattle.std.specs.Prelude.{codes}
use Rattle.vlog_tree.specs.declared.token.Token.{Token}
use Rattle.vlog_tree.specs.declared.expr.Infix.{Infix}
use Rattle.vlog_tree.specs.declared.expr.Infix.TheVariants as x
use Rattle.vlog_tree.specs.declared.expr.Binary.{Binary}
use Rattle.vlog_tree.specs.declared.expr.Expr.{Expr}
use Rattle.vlog_tree.specs.declared.expr.Expr.TheVariants as e
use Rattle.vlog_tree.specs.Signs.{IsSign, infix_at, infix_level, binary_level}
use Rattle.vlog_tree.specs.Spelling.{level, height, Spells, NoSuffix, Ends, Reads}
use Rattle.vlog_read_spelling.specs.Growing.{Takes, Loose}
use Rattle.vlog_read_spelling.proofs.Tokens.{Stops, stops_past, stops_colon, infix_no_suffix, binary_high}
use Rattle.vlog_read_spelling.proofs.Forms.{height_pos, left_end, BinaryForm, ChoiceForm, form}
use Rattle.vlog_read_spelling.proofs.Compare.{Shorter, Outcome, compare, InfixForm, infix_form, same_op, infix_low, infix_high}

pub level_pos : (a : Expr) → 0 < level a
level_pos (e.Number n) = lit< tt
level_pos (e.Name n) = lit< tt
level_pos (e.Select' n s a) = lit< tt
level_pos (e.Part' n w s a t b) = lit< tt
level_pos (e.ConstantSelect' n s a) = lit< tt
level_pos (e.ConstantPart' n w s a t b) = lit< tt
level_pos (e.Cast' c s a) = lit< tt
level_pos (e.Paren' s a) = lit< tt
level_pos (e.Concat' s row) = lit< tt
level_pos (e.Repeat' s a t row) = lit< tt
level_pos (e.Unary' op s a) = lit< tt
level_pos (e.Binary' op s a t b) = omega (arith, binary_high op)
level_pos (e.Choice' s a t b u c) = lit< tt

module _ (set : Bool) (ts : List Token) where
  pub outcome : (i : ℕ) (a : Expr) (j : ℕ) (s : Spells set ts i a j) (b : Expr) (m : ℕ) (t : Spells set ts i b m) → NoSuffix ts j → NoSuffix ts m → Outcome set ts i a j s b m t
  outcome i a j s b m t free free' = compare set ts (height a + height b) i a j s b m t (omega arith) free free'

  not_ended : (lev i : ℕ) (a : Expr) (j : ℕ) (b : Expr) (m : ℕ) (s : Spells set ts i b m) → Ends set ts lev j → lev ≤ level b → Shorter set ts i a j b m s → ⊥
  not_ended lev i a j b m s ends high p = omega (arith, ends.looser p.op p.sign, p.binds)

  -- what is read at a place is one tree
  pub unique : (lev i : ℕ) (a : Expr) (j : ℕ) (b : Expr) (m : ℕ) → Reads set ts lev i a j → Reads set ts lev i b m → (a ≡ b) × (j ≡ m)
  unique lev i a j b m p q = by (outcome i a j p.spelt b m q.spelt p.ends.alone q.ends.alone)
    where
      by : Outcome set ts i a j p.spelt b m q.spelt → (a ≡ b) × (j ≡ m)
      by (inl r) = r
      by (inr (inl r)) = absurd (not_ended lev i a j b m q.spelt p.ends q.binds r)
      by (inr (inr r)) = absurd (not_ended lev i b m a j p.spelt q.ends p.binds r)

  -- the operand that a tree begins with
  pub record Begins (i : ℕ) (tree : Expr) : Type 0 where
    pub operand : Expr
    pub end : ℕ
    pub reads : Reads set ts 12 i operand end
    pub lower : height operand ≤ height tree

  begins_form : (n i : ℕ) (a : Expr) (j : ℕ) (s : Spells set ts i a j) → NoSuffix ts j → height a ≤ suc n
      → ((i : ℕ) (a : Expr) (j : ℕ) → Spells set ts i a j → NoSuffix ts j → height a ≤ n → Begins i a)
      → (BinaryForm set ts i a j s ⊎ ChoiceForm set ts i a j s) ⊎ (12 ≤ level a) → Begins i a
  begins_form n i a j s free small again (inr high) = record {
    operand = a;
    end = j;
    lower = omega arith;
    reads = record { spelt = s; binds = high; ends = record { looser = λ op h. infix_low op; alone = free } };
  }
  begins_form n i a j s free small again (inl f) =
      let u = infix_form set ts i a j s f in
      let q : Begins i u.left = again i u.left u.at u.spells_left (infix_no_suffix set ts u.at u.op u.sign) (omega (arith, u.lower)) in
      record { operand = q.operand; end = q.end; reads = q.reads; lower = omega (arith, q.lower, u.lower) }

  begins_by : (n i : ℕ) (a : Expr) (j : ℕ) → Spells set ts i a j → NoSuffix ts j → height a ≤ n → Begins i a
  begins_by zero i a j s free small = absurd (omega (arith, height_pos a))
  begins_by (suc n) i a j s free small = begins_form n i a j s free small (begins_by n) (form set ts i a j s)

  pub begins : (lev i : ℕ) (a : Expr) (j : ℕ) → Reads set ts lev i a j → Begins i a
  begins lev i a j r = begins_by (height a) i a j r.spelt r.ends.alone (omega arith)

  -- what follows an operator in a tree
  pub record NextBinary (q : ℕ) (op : Binary) (tree : Expr) : Type 0 where
    pub right : Expr
    pub end : ℕ
    pub reads : Reads set ts (binary_level op + 1) (q + 1) right end
    pub lower : height right < height tree

  pub record NextChoice (q : ℕ) (tree : Expr) : Type 0 where
    pub yes_tree : Expr
    pub mid : ℕ
    pub no_tree : Expr
    pub end : ℕ
    pub reads_yes : Reads set ts 1 (q + 1) yes_tree mid
    pub colon : IsSign ts mid (codes ":")
    pub reads_no : Reads set ts 1 (mid + 1) no_tree end
    pub lower_yes : height yes_tree < height tree
    pub lower_no : height no_tree < height tree

  abbrev pub Next : ℕ → Infix → Expr → Type 0
  Next q (x.Binary op) tree = NextBinary q op tree
  Next q x.Choice tree = NextChoice q tree

  pub higher : (q : ℕ) (op : Infix) (a b : Expr) → height a ≤ height b → Next q op a → Next q op b
  higher q (x.Binary op) a b h r = record { right = r.right; end = r.end; reads = r.reads; lower = omega (arith, r.lower) }
  higher q x.Choice a b h r = record {
    yes_tree = r.yes_tree;
    mid = r.mid;
    no_tree = r.no_tree;
    end = r.end;
    reads_yes = r.reads_yes;
    colon = r.colon;
    reads_no = r.reads_no;
    lower_yes = omega (arith, r.lower_yes);
    lower_no = omega (arith, r.lower_no);
  }

  pub stop_ends : (lev j : ℕ) → Stops set ts j → Ends set ts lev j
  stop_ends lev j p = record { looser = λ op h. let g = p.no_infix in absurd (cc); alone = p.alone }

  here : (i : ℕ) (a : Expr) (j : ℕ) (s : Spells set ts i a j) → NoSuffix ts j → Loose set ts a j → (q : ℕ) (op : Infix) → infix_at set ts q ≡ Some op
      → (f : BinaryForm set ts i a j s ⊎ ChoiceForm set ts i a j s) → q ≡ (infix_form set ts i a j s f).at → Next q op a
  unfolding infix_form
  here i a j s free loose q (x.Binary op) sign (inl f) at =
      let here' : infix_at set ts f.at ≡ Some (x.Binary op) = ap (infix_at set ts) (sym at) ∙ sign in let g = f.sign in
      let same : op ≡ f.op = cc in
      record {
        right = f.right;
        end = j;
        lower = omega (arith, f.height_is);
        reads = record {
          spelt = subst (λ z. Spells set ts (z + 1) f.right j) (sym at) f.spells_right;
          binds = omega (arith, f.binds_right, ap binary_level same);
          ends = record { looser = λ op' h. omega (arith, (loose op' h).binds, f.level_is, ap binary_level same); alone = free };
        };
      }
  here i a j s free loose q x.Choice sign (inl f) at =
      let here' : infix_at set ts f.at ≡ Some x.Choice = ap (infix_at set ts) (sym at) ∙ sign in let g = f.sign in absurd (cc)
  here i a j s free loose q (x.Binary op) sign (inr f) at =
      let here' : infix_at set ts f.at ≡ Some (x.Binary op) = ap (infix_at set ts) (sym at) ∙ sign in let g = f.sign in absurd (cc)
  here i a j s free loose q x.Choice sign (inr f) at = record {
    yes_tree = f.yes;
    mid = f.mid;
    no_tree = f.no;
    end = j;
    colon = f.colon;
    reads_yes = record {
      spelt = subst (λ z. Spells set ts (z + 1) f.yes f.mid) (sym at) f.spells_yes;
      binds = level_pos f.yes;
      ends = stop_ends 1 f.mid (stops_colon set ts f.mid f.colon);
    };
    reads_no = record {
      spelt = f.spells_no;
      binds = level_pos f.no;
      ends = record { looser = λ op' h. let l = loose op' h in let one : infix_level op' ≡ 1 = omega (arith, l.binds, f.level_is, infix_high op') in absurd (omega (arith, l.strict one, f.level_is)); alone = free };
    };
    lower_yes = omega (arith, f.height_is);
    lower_no = omega (arith, f.height_is);
  }

  next_by : (n i : ℕ) (t : Expr) (q : ℕ) (op : Infix) → Spells set ts i t q → infix_at set ts q ≡ Some op → Takes op t
      → (a : Expr) (j : ℕ) (s : Spells set ts i a j) → NoSuffix ts j → Loose set ts a j → q < j → height a ≤ n → Next q op a
  next_by zero i t q op u sign takes a j s free loose less small = absurd (omega (arith, height_pos a))
  next_by (suc n) i t q op u sign takes a j s free loose less small =
      by_form (λ a' j' s' free' loose' less' small'. next_by n i t q op u sign takes a' j' s' free' loose' less' small') (form set ts i a j s)
    where
      no : NoSuffix ts q
      no = infix_no_suffix set ts q op sign

      below : Outcome set ts i t q u a j s → (level a ≤ infix_level op) × ((level a < infix_level op) ⊎ (q ≤ left_end set ts i a j s))
      below (inl p) = absurd (omega (arith, p.1))
      below (inr (inl p)) =
          let same : infix_level p.op ≡ infix_level op = same_op set ts q p.op op p.sign sign in
          (omega (arith, p.binds, same), elim p.inside [ inl h ↦ inl (omega (arith, h, same)) | inr h ↦ inr h ])
      below (inr (inr p)) = absurd (omega (arith, p.less))

      late : (f : InfixForm set ts i a j s) → f.at < q → level t ≤ infix_level f.op → (level a < infix_level op) ⊎ (q ≤ left_end set ts i a j s)
          → (left_end set ts i a j s ≡ f.at) ⊎ (infix_level f.op ≡ 1) → ⊥
      late f past high (inl h) r = omega (arith, high, takes.binds, f.level_is, h)
      late f past high (inr h) (inl r) = omega (arith, h, r, past)
      late f past high (inr h) (inr r) =
          let one : infix_level op ≡ 1 = omega (arith, takes.binds, high, r, infix_high op) in omega (arith, takes.strict one, high, r)

      by_left : ((a : Expr) (j : ℕ) (s : Spells set ts i a j) → NoSuffix ts j → Loose set ts a j → q < j → height a ≤ n → Next q op a) → (f : BinaryForm set ts i a j s ⊎ ChoiceForm set ts i a j s)
          → Outcome set ts i t q u (infix_form set ts i a j s f).left (infix_form set ts i a j s f).at (infix_form set ts i a j s f).spells_left → Next q op a
      by_left again f (inl p) = here i a j s free loose q op sign f p.1
      by_left again f (inr (inl p)) =
          let g = infix_form set ts i a j s f in
          let deeper : Next q op g.left =
          again g.left g.at g.spells_left (infix_no_suffix set ts g.at g.op g.sign)
          (λ op' h. record { binds = omega (arith, g.binds, same_op set ts g.at op' g.op h g.sign); strict = λ one. g.strict (omega (arith, one, same_op set ts g.at op' g.op h g.sign)) })
          p.less (omega (arith, g.lower)) in
          higher q op g.left a (omega (arith, g.lower)) deeper
      by_left again f (inr (inr p)) =
          let g = infix_form set ts i a j s f in
          absurd (late g p.less (omega (arith, p.binds, same_op set ts g.at p.op g.op p.sign g.sign)) (below (outcome i t q u a j s no free)).1 g.tight)

      by_form : ((a : Expr) (j : ℕ) (s : Spells set ts i a j) → NoSuffix ts j → Loose set ts a j → q < j → height a ≤ n → Next q op a) → (BinaryForm set ts i a j s ⊎ ChoiceForm set ts i a j s) ⊎ (12 ≤ level a) → Next q op a
      by_form again (inr high) = absurd (omega (arith, (below (outcome i t q u a j s no free)).0, infix_low op))
      by_form again (inl f) =
          let g = infix_form set ts i a j s f in
          by_left again f (outcome i t q u g.left g.at g.spells_left no (infix_no_suffix set ts g.at g.op g.sign))

  -- a tree that grows past an operator has an operand there
  pub next : (lev i : ℕ) (t : Expr) (q : ℕ) (op : Infix) → Spells set ts i t q → infix_at set ts q ≡ Some op → Takes op t
      → (a : Expr) (j : ℕ) → Reads set ts lev i a j → q < j → Next q op a
  next lev i t q op u sign takes a j r less =
      next_by (height a) i t q op u sign takes a j r.spelt r.ends.alone
      (λ op' h. record { binds = omega (arith, r.ends.looser op' h, r.binds); strict = λ one. omega (arith, r.ends.looser op' h, r.binds, one) })
      less (omega arith)

-- a list of tokens spells at most one tree
pub one_tree : (set : Bool) (ts : List Token) (a b : Expr) → Spells set ts 0 a (length ts) → Spells set ts 0 b (length ts) → a ≡ b
one_tree set ts a b s t =
    (unique set ts 1 0 a (length ts) b (length ts)
    (record { spelt = s; binds = level_pos a; ends = stop_ends set ts 1 (length ts) (stops_past set ts) })
    (record { spelt = t; binds = level_pos b; ends = stop_ends set ts 1 (length ts) (stops_past set ts) })).0
