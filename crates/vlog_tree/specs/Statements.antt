-- Which statements a list of tokens of a module text spells (IEEE 1364-2005 annex A.6), and how high they are.
use Rattle.std.specs.Prelude.{ℕ, ◌+◌, ◌<◌, ◌≤◌, ◌≡◌, ◌⊎◌, max, List, Some, Bool, true, false, codes}
use Rattle.vlog_tree.specs.declared.token.Token.{Token}
use Rattle.vlog_tree.specs.declared.token.Number.{Number}
use Rattle.vlog_tree.specs.declared.token.Kind.TheVariants as k
use Rattle.vlog_tree.specs.declared.expr.Expr.{Expr}
use Rattle.vlog_tree.specs.declared.expr.Expr.TheVariants as e
use Rattle.vlog_tree.specs.Signs.{kind_at, IsSign, IsWord, span_at}
use Rattle.vlog_tree.specs.Lists.{Maybe, Separated, Comma, InParens, highest}
use Rattle.vlog_tree.specs.Spelling.{IsIdentifier, IsNamed, Spells, height}
use Rattle.vlog_tree.specs.declared.stmt.Lval.{Lval, Row_of-Lval, end_of-Lval, more_of-Lval}
use Rattle.vlog_tree.specs.declared.stmt.Lval.TheVariants as l
use Rattle.vlog_tree.specs.declared.stmt.CaseKind.{CaseKind}
use Rattle.vlog_tree.specs.declared.stmt.CaseKind.TheVariants as c
use Rattle.vlog_tree.specs.declared.stmt.Labels.{Labels}
use Rattle.vlog_tree.specs.declared.stmt.Labels.TheVariants as b
use Rattle.vlog_tree.specs.declared.stmt.Edge.{Edge}
use Rattle.vlog_tree.specs.declared.stmt.Events.{Events}
use Rattle.vlog_tree.specs.declared.stmt.Events.TheVariants as v
use Rattle.vlog_tree.specs.declared.stmt.Stmt.{Stmt, Row_of-Stmt, end_of-Stmt, more_of-Stmt, Row_of-CaseItem, end_of-CaseItem, more_of-CaseItem}
use Rattle.vlog_tree.specs.declared.stmt.Stmt.TheVariants as s

-- left sides
abbrev mutual
  pub SpellsLval : List Token → ℕ → Lval → ℕ → Type 0
  SpellsLval ts i (l.Name n) j = IsNamed false ts i n j
  SpellsLval ts i (l.Select n a) j =
      (m : ℕ) × IsIdentifier false ts i n × IsSign ts (i + 1) (codes "[") × Spells false ts (i + 2) a m × IsSign ts m (codes "]") × (j ≡ m + 1)
  SpellsLval ts i (l.Part n w a b) j =
      (m o : ℕ) × IsIdentifier false ts i n × IsSign ts (i + 1) (codes "[") × Spells false ts (i + 2) a m × (span_at ts m ≡ Some w)
      × Spells false ts (m + 1) b o × IsSign ts o (codes "]") × (j ≡ o + 1)
  SpellsLval ts i (l.Concat' q row) j =
      (m : ℕ) × IsSign ts i (codes "{") × SpellsLvals ts (i + 1) row m × IsSign ts m (codes "}") × (j ≡ m + 1)

  -- one or more, with commas between
  pub SpellsLvals : {m : _} → List Token → ℕ → Row_of-Lval m → ℕ → Type 0
  SpellsLvals ts i end_of-Lval j = ⊥
  SpellsLvals ts i (more_of-Lval a rest) j = (m : ℕ) × SpellsLval ts i a m × SpellsMoreLvals ts m rest j

  pub SpellsMoreLvals : {m : _} → List Token → ℕ → Row_of-Lval m → ℕ → Type 0
  SpellsMoreLvals ts i end_of-Lval j = i ≡ j
  SpellsMoreLvals ts i (more_of-Lval a rest) j = (m : ℕ) × Comma ts i × SpellsLval ts (i + 1) a m × SpellsMoreLvals ts m rest j

abbrev mutual
  pub lval_height : Lval → ℕ
  lval_height (l.Name n) = 1
  lval_height (l.Select n a) = height a + 1
  lval_height (l.Part n w a b) = max (height a) (height b) + 1
  lval_height (l.Concat' q row) = lval_heights row + 1

  pub lval_heights : {m : _} → Row_of-Lval m → ℕ
  lval_heights end_of-Lval = 0
  lval_heights (more_of-Lval a rest) = max (lval_height a) (lval_heights rest)

-- a label of `casez` may be one number with digits `?` or `z`
abbrev pub IsWild : CaseKind → List Token → ℕ → Expr → ℕ → Type 0
IsWild kind ts i a j =
    (n : Number) × (kind ≡ c.Casez) × (a ≡ e.Number n) × (kind_at ts i ≡ Some (k.Number n)) × (n.wildcard ≡ true) × (j ≡ i + 1)

abbrev pub SpellsLabel : CaseKind → List Token → ℕ → Expr → ℕ → Type 0
SpellsLabel kind ts i a j = Spells false ts i a j ⊎ IsWild kind ts i a j

abbrev pub SpellsLabels : CaseKind → List Token → ℕ → Labels → ℕ → Type 0
SpellsLabels kind ts i (b.Exprs xs) j = (m : ℕ) × Separated (Comma ts) (SpellsLabel kind ts) i xs m × IsSign ts m (codes ":") × (j ≡ m + 1)
SpellsLabels kind ts i b.Default j = IsWord ts i (codes "default") × ((j ≡ i + 1) ⊎ (IsSign ts (i + 1) (codes ":") × (j ≡ i + 2)))

abbrev pub labels_height : Labels → ℕ
labels_height (b.Exprs xs) = highest height xs
labels_height b.Default = 0

abbrev pub defaults_in : Labels → ℕ
defaults_in (b.Exprs xs) = 0
defaults_in b.Default = 1

abbrev pub case_word : CaseKind → List ℕ
case_word c.Case = codes "case"
case_word c.Casez = codes "casez"

-- how many items are `default`
abbrev pub defaults : {m : _} → Row_of-CaseItem m → ℕ
defaults end_of-CaseItem = 0
defaults (more_of-CaseItem labels body rest) = defaults_in labels + defaults rest

-- an `else` after the statement would belong to an `if` in it
abbrev pub IsOpen : Stmt → Type 0
IsOpen s.Empty = ⊥
IsOpen (s.Block' n q row) = ⊥
IsOpen (s.If' c q a) = Unit {0}
IsOpen (s.IfElse' c q a r (more_of-Stmt b end_of-Stmt)) = IsOpen b
IsOpen (s.Case' kind a q row) = ⊥
IsOpen (s.Blocking l e) = ⊥
IsOpen (s.Nonblocking l e) = ⊥

-- the name of a block
abbrev pub SpellsLabelled : List Token → ℕ → List ℕ → ℕ → Type 0
SpellsLabelled ts i n j = IsSign ts i (codes ":") × IsIdentifier false ts (i + 1) n × (j ≡ i + 2)

abbrev pub SpellsAssigned : List ℕ → List Token → ℕ → Lval → Expr → ℕ → Type 0
SpellsAssigned sign ts i a x j = (m o : ℕ) × SpellsLval ts i a m × IsSign ts m sign × Spells false ts (m + 1) x o × IsSign ts o (codes ";") × (j ≡ o + 1)

abbrev mutual
  pub SpellsStmt : List Token → ℕ → Stmt → ℕ → Type 0
  SpellsStmt ts i s.Empty j = IsSign ts i (codes ";") × (j ≡ i + 1)
  SpellsStmt ts i (s.Block' n q row) j =
      (m o : ℕ) × IsWord ts i (codes "begin") × Maybe (SpellsLabelled ts) (i + 1) n m × SpellsSeq ts m row o × IsWord ts o (codes "end") × (j ≡ o + 1)
  SpellsStmt ts i (s.If' c q (more_of-Stmt a end_of-Stmt)) j =
      (m : ℕ) × IsWord ts i (codes "if") × IsSign ts (i + 1) (codes "(") × Spells false ts (i + 2) c m × IsSign ts m (codes ")")
      × SpellsStmt ts (m + 1) a j
  -- the `else` belongs to the nearest `if` without one: the part before it takes none
  SpellsStmt ts i (s.IfElse' c q (more_of-Stmt a end_of-Stmt) r (more_of-Stmt b end_of-Stmt)) j =
      (m n : ℕ) × IsWord ts i (codes "if") × IsSign ts (i + 1) (codes "(") × Spells false ts (i + 2) c m × IsSign ts m (codes ")")
      × SpellsStmt ts (m + 1) a n × (IsOpen a → ⊥) × IsWord ts n (codes "else") × SpellsStmt ts (n + 1) b j
  -- one item or more, at most one of them `default`
  SpellsStmt ts i (s.Case' kind a q row) j =
      (m o : ℕ) × IsWord ts i (case_word kind) × IsSign ts (i + 1) (codes "(") × Spells false ts (i + 2) a m × IsSign ts m (codes ")")
      × SpellsCases kind ts (m + 1) row o × (defaults row ≤ 1) × (m + 1 < o) × IsWord ts o (codes "endcase") × (j ≡ o + 1)
  SpellsStmt ts i (s.Blocking l e) j = SpellsAssigned (codes "=") ts i l e j
  SpellsStmt ts i (s.Nonblocking l e) j = SpellsAssigned (codes "<=") ts i l e j

  pub SpellsSeq : {m : _} → List Token → ℕ → Row_of-Stmt m → ℕ → Type 0
  SpellsSeq ts i end_of-Stmt j = i ≡ j
  SpellsSeq ts i (more_of-Stmt a rest) j = (m : ℕ) × SpellsStmt ts i a m × SpellsSeq ts m rest j

  pub SpellsCases : {m : _} → CaseKind → List Token → ℕ → Row_of-CaseItem m → ℕ → Type 0
  SpellsCases kind ts i end_of-CaseItem j = i ≡ j
  SpellsCases kind ts i (more_of-CaseItem labels body rest) j =
      (m o : ℕ) × SpellsLabels kind ts i labels m × SpellsStmt ts m body o × SpellsCases kind ts o rest j

abbrev mutual
  pub stmt_height : Stmt → ℕ
  stmt_height s.Empty = 1
  stmt_height (s.Block' n q row) = stmt_heights row + 1
  stmt_height (s.If' c q (more_of-Stmt a end_of-Stmt)) = max (height c) (stmt_height a) + 1
  stmt_height (s.IfElse' c q (more_of-Stmt a end_of-Stmt) r (more_of-Stmt b end_of-Stmt)) = max (height c) (max (stmt_height a) (stmt_height b)) + 1
  stmt_height (s.Case' kind a q row) = max (height a) (case_heights row) + 1
  stmt_height (s.Blocking l e) = max (lval_height l) (height e) + 1
  stmt_height (s.Nonblocking l e) = max (lval_height l) (height e) + 1

  pub stmt_heights : {m : _} → Row_of-Stmt m → ℕ
  stmt_heights end_of-Stmt = 0
  stmt_heights (more_of-Stmt a rest) = max (stmt_height a) (stmt_heights rest)

  pub case_heights : {m : _} → Row_of-CaseItem m → ℕ
  case_heights end_of-CaseItem = 0
  case_heights (more_of-CaseItem labels body rest) = max (max (labels_height labels) (stmt_height body)) (case_heights rest)

-- what a block waits for
abbrev pub edge_word : Bool → List ℕ
edge_word true = codes "posedge"
edge_word false = codes "negedge"

abbrev pub SpellsEdge : List Token → ℕ → Edge → ℕ → Type 0
SpellsEdge ts i x j = IsWord ts i (edge_word x.rising) × IsIdentifier false ts (i + 1) x.name × (j ≡ i + 2)

abbrev pub OrComma : List Token → ℕ → Type 0
OrComma ts i = IsWord ts i (codes "or") ⊎ Comma ts i

abbrev pub SpellsEvents : List Token → ℕ → Events → ℕ → Type 0
SpellsEvents ts i v.All j =
    (IsSign ts i (codes "*") × (j ≡ i + 1)) ⊎ (IsSign ts i (codes "(") × IsSign ts (i + 1) (codes "*") × IsSign ts (i + 2) (codes ")") × (j ≡ i + 3))
SpellsEvents ts i (v.Edges xs) j = InParens ts (Separated (OrComma ts) (SpellsEdge ts)) i xs j
SpellsEvents ts i (v.Names xs) j = InParens ts (Separated (OrComma ts) (IsNamed false ts)) i xs j
