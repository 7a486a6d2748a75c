-- Instances, their connections and overrides: where the whole ends, and why none is there.
use Rattle.std.proofs.Common.{ℕ, ◌+◌, ◌≡◌, ◌≤◌, inl, List, [], ◌∷◌, Option, Some, None, false, refl, sym, subst, arith}
use Rattle.std.specs.Prelude.{codes}
use Rattle.vlog_tree.specs.declared.token.Token.{Token}
use Rattle.vlog_tree.specs.declared.expr.Expr.{Expr}
use Rattle.vlog_tree.specs.declared.item.Connection.{Connection}
use Rattle.vlog_tree.specs.declared.item.Args.{Args}
use Rattle.vlog_tree.specs.declared.item.Args.TheVariants as g
use Rattle.vlog_tree.specs.declared.item.Instance.{Instance}
use Rattle.vlog_tree.specs.Signs.{IsSign, unary_of}
use Rattle.vlog_tree.specs.Lists.{Maybe, More, Separated, Comma, InParens, AfterHash, highest, highest_of}
use Rattle.vlog_tree.specs.Spelling.{Spells, Reads, height}
use Rattle.vlog_tree.specs.Modules.{SpellsConnection, SpellsArgs, SpellsInstance, connection_height, args_height, instance_height}
use Rattle.vlog_read_spelling.proofs.Tokens.{stops_paren, two_signs}
use Rattle.vlog_read_spelling.proofs.Modules.{expr_no_sign}
use Rattle.vlog_read_spelling.proofs.Reading.{unique}
use Rattle.vlog_read_lex.specs.declared.error.ReadFault.{ReadFault}
use Rattle.vlog_read_expr.specs.declared.expr.Parsed.{Parsed}
use Rattle.vlog_read_expr.specs.Answers.{IsRead, Refusal, Refuses}
use Rattle.vlog_read_expr.specs.Names.{RefusesIdentifier}
use Rattle.vlog_read_expr.proofs.Steps.{passes}
use Rattle.vlog_read_stmt.proofs.Passing.{tree_at}
use Rattle.vlog_read.specs.declared.part.Found.{Found}
use Rattle.vlog_read.specs.Answers.{IsFound, Before, Closes, Follows, NoSign}
use Rattle.vlog_read.proofs.ListSteps.{stops_follow, closes_follow}
use Rattle.vlog_read.proofs.PartSteps.{named_refuses}

unary_close : unary_of (codes ")") ≡ None
unfolding unary_of
unary_close = refl

unary_dot : unary_of (codes ".") ≡ None
unfolding unary_of
unary_dot = refl

-- something in parentheses, or nothing in them: the closing one tells
module _ {A : Type 0} (ts : List Token) (h : A → ℕ) (P : ℕ → A → ℕ → Type 0) (no_close : (i : ℕ) (x : A) (j : ℕ) → P i x j → IsSign ts j (codes ")") → IsSign ts i (codes ")") → ⊥) (i : ℕ) where
  abbrev pub Closed : ℕ → A → ℕ → Type 0
  Closed = Before P (λ z. IsSign ts z (codes ")"))

  pub shut : (IsSign ts i (codes "(") → ⊥) → (x : Option A) (j : ℕ) → InParens ts (Maybe P) i x j → ⊥
  shut none x j q = none q.1

  pub empty_only : IsSign ts (i + 1) (codes ")") → (x : Option A) (j : ℕ) → InParens ts (Maybe P) i x j → j ≡ i + 2
  empty_only here None j q = omega (arith, q.2, q.4)
  empty_only here (Some x) j q = absurd (no_close (i + 1) x q.0 q.2 q.3 here)

  some_in : (IsSign ts (i + 1) (codes ")") → ⊥) → (x : Option A) (j : ℕ) → InParens ts (Maybe P) i x j → (y : A) × (m : ℕ) × Closed (i + 1) y m × (j ≡ m + 1) × (h y ≤ highest_of h x)
  some_in none None j q = absurd (none (subst (λ z. IsSign ts z (codes ")")) (sym q.2) q.3))
  some_in none (Some x) j q = (x, q.0, (q.2, q.3), q.4, omega arith)

  module _ (depth : ℕ) (none : IsSign ts (i + 1) (codes ")") → ⊥) where
    pub inside_refuses : (fault : ReadFault) → Refusal h (Closed (i + 1)) ts (i + 1) depth fault → Refusal (highest_of h) (InParens ts (Maybe P) i) ts i depth fault
    inside_refuses fault u =
        passes h (Closed (i + 1)) (highest_of h) (InParens ts (Maybe P) i) ts (i + 1) depth i depth 0
        (λ x j q. let o = some_in none x j q in record { part = o.0; end = o.1; holds = o.2; lower = omega (arith, o.4) }) (omega arith) (omega arith) fault u

    module _ (end : ℕ) (only : (y : A) (m : ℕ) → Closed (i + 1) y m → m ≡ end) where
      pub inside_open : (IsSign ts end (codes ")") → ⊥) → (x : Option A) (j : ℕ) → InParens ts (Maybe P) i x j → ⊥
      inside_open open_ x j q = let o = some_in none x j q in open_ (subst (λ z. IsSign ts z (codes ")")) (only o.0 o.1 o.2) o.2.1)

      pub inside_only : (x : Option A) (j : ℕ) → InParens ts (Maybe P) i x j → j ≡ end + 1
      inside_only x j q = let o = some_in none x j q in omega (arith, o.3, only o.0 o.1 o.2)

-- `#` and something in parentheses
module _ {A : Type 0} (ts : List Token) (h : A → ℕ) (P : ℕ → A → ℕ → Type 0) (i : ℕ) where
  abbrev pub Hashed : ℕ → Option A → ℕ → Type 0
  Hashed = Before (Maybe (AfterHash ts P)) (NoSign (codes "#") ts)

  pub no_hash : (IsSign ts i (codes "#") → ⊥) → (x : Option A) (j : ℕ) → Hashed i x j → j ≡ i
  no_hash none None j q = sym q.0
  no_hash none (Some x) j q = absurd (none q.0.0)

  module _ (hash : IsSign ts i (codes "#")) where
    some_hash : (x : Option A) (j : ℕ) → Hashed i x j → (y : A) × (m : ℕ) × IsSign ts (i + 1) (codes "(") × Before P (Closes ts) (i + 1 + 1) y m × IsSign ts m (codes ")") × (j ≡ m + 1) × (h y ≤ highest_of h x)
    some_hash None j q = absurd (q.1 (subst (λ z. IsSign ts z (codes "#")) q.0 hash))
    some_hash (Some x) j q = let p = q.0.1 in (x, p.0, p.1, (p.2, inl p.3), p.3, p.4, omega arith)

    pub hash_shut : (IsSign ts (i + 1) (codes "(") → ⊥) → (x : Option A) (j : ℕ) → Hashed i x j → ⊥
    hash_shut none x j q = none (some_hash x j q).2

    module _ (depth : ℕ) where
      pub hash_refuses : (fault : ReadFault) → Refusal h (Before P (Closes ts) (i + 1 + 1)) ts (i + 1 + 1) depth fault → Refusal (highest_of h) (Hashed i) ts i depth fault
      hash_refuses fault u =
          passes h (Before P (Closes ts) (i + 1 + 1)) (highest_of h) (Hashed i) ts (i + 1 + 1) depth i depth 0
          (λ x j q. let o = some_hash x j q in record { part = o.0; end = o.1; holds = o.3; lower = omega (arith, o.6) }) (omega arith) (omega arith) fault u

      module _ (p : Found A) (a : IsFound ts h P (Before P (Closes ts)) (i + 1 + 1) depth p) where
        pub hash_open : (IsSign ts p.end (codes ")") → ⊥) → (x : Option A) (j : ℕ) → Hashed i x j → ⊥
        hash_open none x j q = let o = some_hash x j q in none (subst (λ z. IsSign ts z (codes ")")) (a.only o.0 o.1 o.3) o.4)

        pub hash_only : (x : Option A) (j : ℕ) → Hashed i x j → j ≡ p.end + 1
        hash_only x j q = let o = some_hash x j q in omega (arith, o.5, a.only o.0 o.1 o.3)

module _ (ts : List Token) where
  pub tree_no_close : (i : ℕ) (x : Expr) (j : ℕ) → Spells false ts i x j → IsSign ts j (codes ")") → IsSign ts i (codes ")") → ⊥
  tree_no_close i x j a u here = expr_no_sign ts i x j (codes ")") a (stops_paren false ts j u) here refl refl unary_close

  -- a connected expression
  pub tree_refuses : (i depth : ℕ) (fault : ReadFault) → Refuses false ts 1 i depth fault → Refusal height (Before (Spells false ts) (λ z. IsSign ts z (codes ")")) i) ts i depth fault
  tree_refuses i depth fault r =
      passes height (Reads false ts 1 i) height (Before (Spells false ts) (λ z. IsSign ts z (codes ")")) i) ts i depth i depth 0
      (λ b k q. record { part = b; end = k; holds = tree_at ts i b k q.0 (stops_paren false ts k q.1); lower = omega arith }) (omega arith) (omega arith) fault r

  pub tree_only : (i depth : ℕ) (p : Parsed) → IsRead false ts 1 i depth p → (b : Expr) (k : ℕ) → Before (Spells false ts) (λ z. IsSign ts z (codes ")")) i b k → k ≡ p.end
  tree_only i depth p r b k q = (unique false ts 1 i b k p.tree p.end (tree_at ts i b k q.0 (stops_paren false ts k q.1)) r.reads).1

  -- connections and overrides
  abbrev pub ReadsArgs : ℕ → Args → ℕ → Type 0
  ReadsArgs = Before (SpellsArgs ts) (Closes ts)

  abbrev pub ExprList : ℕ → List Expr → ℕ → Type 0
  ExprList = Before (Separated (Comma ts) (Spells false ts)) (Closes ts)

  abbrev pub ConnectionList : ℕ → List Connection → ℕ → Type 0
  ConnectionList = Before (Separated (Comma ts) (SpellsConnection ts)) (Closes ts)

  after_more : {A : Type 0} (P : ℕ → A → ℕ → Type 0) (xs : List A) (i j : ℕ) → More (Comma ts) P i xs j → Closes ts j → Follows ts i
  after_more P [] i j a u = closes_follow ts i (subst (Closes ts) (sym a) u)
  after_more P (x ∷ xs) i j a u = inl a.1

  exprs_no_sign : (i : ℕ) (xs : List Expr) (j : ℕ) → ExprList i xs j → IsSign ts i (codes ".") → ⊥
  exprs_no_sign i [] j q here = q.0
  exprs_no_sign i (x ∷ xs) j q here =
      expr_no_sign ts i x q.0.0 (codes ".") q.0.1 (stops_follow ts q.0.0 (after_more (Spells false ts) xs q.0.0 j q.0.2 q.1)) here refl refl unary_dot

  exprs_no_close : (i : ℕ) (xs : List Expr) (j : ℕ) → ExprList i xs j → IsSign ts i (codes ")") → ⊥
  exprs_no_close i [] j q here = q.0
  exprs_no_close i (x ∷ xs) j q here =
      expr_no_sign ts i x q.0.0 (codes ")") q.0.1 (stops_follow ts q.0.0 (after_more (Spells false ts) xs q.0.0 j q.0.2 q.1)) here refl refl unary_close

  named_dot : (i : ℕ) (xs : List Connection) (j : ℕ) → Separated (Comma ts) (SpellsConnection ts) i xs j → IsSign ts i (codes ".")
  named_dot i [] j a = absurd a
  named_dot i (x ∷ xs) j a = a.1.0

  pub args_no_close : (i : ℕ) (x : Args) (j : ℕ) → SpellsArgs ts i x j → IsSign ts j (codes ")") → IsSign ts i (codes ")") → ⊥
  args_no_close i (g.Exprs xs) j a u here = exprs_no_close i xs j (a, inl u) here
  args_no_close i (g.Named xs) j a u here = two_signs ts i (codes ".") (codes ")") refl (named_dot i xs j a) here

  pub named_args : (i : ℕ) → IsSign ts i (codes ".") → (x : Args) (j : ℕ) → ReadsArgs i x j → (xs : List Connection) × ConnectionList i xs j × (highest connection_height xs ≤ args_height x)
  named_args i here (g.Exprs xs) j q = absurd (exprs_no_sign i xs j (q.0, q.1) here)
  named_args i here (g.Named xs) j q = (xs, (q.0, q.1), omega arith)

  pub expr_args : (i : ℕ) → (IsSign ts i (codes ".") → ⊥) → (x : Args) (j : ℕ) → ReadsArgs i x j → (xs : List Expr) × ExprList i xs j × (highest height xs ≤ args_height x)
  expr_args i none (g.Exprs xs) j q = (xs, (q.0, q.1), omega arith)
  expr_args i none (g.Named xs) j q = absurd (none (named_dot i xs j q.0))

  module _ (i depth : ℕ) where
    pub named_args_refuse : IsSign ts i (codes ".") → (fault : ReadFault) → Refusal (highest connection_height) (ConnectionList i) ts i depth fault → Refusal args_height (ReadsArgs i) ts i depth fault
    named_args_refuse here fault u =
        passes (highest connection_height) (ConnectionList i) args_height (ReadsArgs i) ts i depth i depth 0
        (λ x j q. let o = named_args i here x j q in record { part = o.0; end = j; holds = o.1; lower = omega (arith, o.2) }) (omega arith) (omega arith) fault u

    pub expr_args_refuse : (IsSign ts i (codes ".") → ⊥) → (fault : ReadFault) → Refusal (highest height) (ExprList i) ts i depth fault → Refusal args_height (ReadsArgs i) ts i depth fault
    expr_args_refuse none fault u =
        passes (highest height) (ExprList i) args_height (ReadsArgs i) ts i depth i depth 0
        (λ x j q. let o = expr_args i none x j q in record { part = o.0; end = j; holds = o.1; lower = omega (arith, o.2) }) (omega arith) (omega arith) fault u

    -- a named connection
    abbrev pub ReadsConnection : ℕ → Connection → ℕ → Type 0
    ReadsConnection = Before (SpellsConnection ts) (Follows ts)

    pub connection_no_dot : (IsSign ts i (codes ".") → ⊥) → (x : Connection) (j : ℕ) → ReadsConnection i x j → ⊥
    connection_no_dot none x j q = none q.0.0

    pub connection_name : (fault : ReadFault) → RefusesIdentifier false ts (i + 1) fault → Refusal connection_height (ReadsConnection i) ts i depth fault
    connection_name = named_refuses connection_height (ReadsConnection i) ts i depth (i + 1) (λ x j q. (x.port, j, q.0.1))

    pub connection_refuses : (fault : ReadFault) → Refusal (highest_of height) (InParens ts (Maybe (Spells false ts)) (i + 2)) ts (i + 2) depth fault → Refusal connection_height (ReadsConnection i) ts i depth fault
    connection_refuses fault u =
        passes (highest_of height) (InParens ts (Maybe (Spells false ts)) (i + 2)) connection_height (ReadsConnection i) ts (i + 2) depth i depth 0
        (λ x j q. record { part = x.value; end = j; holds = q.0.2; lower = omega arith }) (omega arith) (omega arith) fault u

    -- an instance
    abbrev pub ReadsInstance : ℕ → Instance → ℕ → Type 0
    ReadsInstance = Before (SpellsInstance ts) (Follows ts)

    pub instance_name : (fault : ReadFault) → RefusesIdentifier false ts i fault → Refusal instance_height (ReadsInstance i) ts i depth fault
    instance_name = named_refuses instance_height (ReadsInstance i) ts i depth i (λ x j q. (x.name, j, q.0.0))

    pub instance_refuses : (fault : ReadFault) → Refusal (highest_of args_height) (InParens ts (Maybe (SpellsArgs ts)) (i + 1)) ts (i + 1) depth fault → Refusal instance_height (ReadsInstance i) ts i depth fault
    instance_refuses fault u =
        passes (highest_of args_height) (InParens ts (Maybe (SpellsArgs ts)) (i + 1)) instance_height (ReadsInstance i) ts (i + 1) depth i depth 0
        (λ x j q. record { part = x.args; end = j; holds = q.0.1; lower = omega arith }) (omega arith) (omega arith) fault u

  -- the list in parentheses, as the whole list that a reader of lists answers for
  pub close_args : (i depth : ℕ) (fault : ReadFault) → Refusal args_height (ReadsArgs i) ts i depth fault → Refusal args_height (Before (SpellsArgs ts) (λ z. IsSign ts z (codes ")")) i) ts i depth fault
  close_args i depth fault u =
      passes args_height (ReadsArgs i) args_height (Before (SpellsArgs ts) (λ z. IsSign ts z (codes ")")) i) ts i depth i depth 0
      (λ x j q. record { part = x; end = j; holds = (q.0, inl q.1); lower = omega arith }) (omega arith) (omega arith) fault u
