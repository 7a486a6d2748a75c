-- What the readers of left sides and statements answer: the tree that is read, or why there is none.
use Rattle.std.specs.Prelude.{ℕ, ◌+◌, ◌<◌, ◌≤◌, ◌≡◌, ◌⊎◌, max, List, [], ◌∷◌, length, Option, Some, None, Result, Ok, Err, true, false, codes}
use Rattle.vlog_tree.specs.declared.token.Token.{Token}
use Rattle.vlog_tree.specs.declared.token.Number.{Number}
use Rattle.vlog_tree.specs.declared.token.Kind.TheVariants as k
use Rattle.vlog_tree.specs.declared.expr.Expr.{Expr}
use Rattle.vlog_tree.specs.declared.stmt.CaseItem.{CaseItem}
use Rattle.vlog_tree.specs.declared.stmt.CaseKind.{CaseKind}
use Rattle.vlog_tree.specs.declared.stmt.Labels.{Labels}
use Rattle.vlog_tree.specs.declared.stmt.Labels.TheVariants as b
use Rattle.vlog_tree.specs.declared.stmt.Lval.{Lval}
use Rattle.vlog_tree.specs.declared.stmt.Stmt.{Stmt}
use Rattle.vlog_tree.specs.Signs.{kind_at, IsSign, IsWord}
use Rattle.vlog_tree.specs.Lists.{Comma, Sequence, highest}
use Rattle.vlog_tree.specs.Spelling.{height, Reads}
use Rattle.vlog_tree.specs.Statements.{SpellsLval, lval_height, SpellsStmt, stmt_height, IsOpen, SpellsLabelled, IsWild, labels_height, defaults_in, case_word}
use Rattle.vlog_tree.specs.declared.stmt.CaseKind.TheVariants as c
use Rattle.vlog_read_spelling.specs.Growing.{ReadsList}
use Rattle.vlog_read_lex.specs.declared.error.ReadFault.{ReadFault}
use Rattle.vlog_read_expr.specs.declared.expr.Parsed.{Parsed}
use Rattle.vlog_read_expr.specs.Answers.{Refusal}
use Rattle.vlog_read_expr.specs.Names.{Lacks}
use Rattle.vlog_read_stmt.specs.declared.lval.ParsedLval.{ParsedLval}
use Rattle.vlog_read_stmt.specs.declared.lval.ListedLvals.{ListedLvals}
use Rattle.vlog_read_stmt.specs.declared.label.ListedLabels.{ListedLabels}
use Rattle.vlog_read_stmt.specs.declared.label.ParsedLabels.{ParsedLabels}
use Rattle.vlog_read_stmt.specs.declared.stmt.ParsedStmt.{ParsedStmt}
use Rattle.vlog_read_stmt.specs.declared.stmt.ParsedSeq.{ParsedSeq}
use Rattle.vlog_read_stmt.specs.declared.stmt.ParsedItem.{ParsedItem}
use Rattle.vlog_read_stmt.specs.declared.stmt.ParsedCases.{ParsedCases}
use Rattle.vlog_read_stmt.specs.declared.stmt.BlockName.{BlockName}

-- a left side, which a token follows that is no bracket
pub record ReadsLval (ts : List Token) (i : ℕ) (tree : Lval) (j : ℕ) : Type 0 where
  pub spelt : SpellsLval ts i tree j
  pub alone : IsSign ts j (codes "[") → ⊥
  pub more : j < length ts

pub record IsLval (ts : List Token) (i depth : ℕ) (p : ParsedLval) : Type 0 where
  pub reads : ReadsLval ts i p.tree p.end
  pub height_is : p.height ≡ lval_height p.tree
  pub low : p.height ≤ depth

abbrev pub RefusesLval : List Token → ℕ → ℕ → ReadFault → Type 0
RefusesLval ts i depth = Refusal lval_height (ReadsLval ts i) ts (i + 1) depth

abbrev pub AnswersLval : List Token → ℕ → ℕ → Result ParsedLval ReadFault → Type 0
AnswersLval ts i depth (Ok p) = IsLval ts i depth p
AnswersLval ts i depth (Err fault) = RefusesLval ts i depth fault

-- a left side, whatever follows it; what no bracket follows ends at the same place
pub record IsSpelt (ts : List Token) (i depth : ℕ) (p : ParsedLval) : Type 0 where
  pub spelt : SpellsLval ts i p.tree p.end
  pub only : (b : Lval) (k : ℕ) → ReadsLval ts i b k → k ≡ p.end
  pub height_is : p.height ≡ lval_height p.tree
  pub low : p.height ≤ depth

abbrev pub BeginsLval : List Token → ℕ → ℕ → Result ParsedLval ReadFault → Type 0
BeginsLval ts i depth (Ok p) = IsSpelt ts i depth p
BeginsLval ts i depth (Err fault) = RefusesLval ts i depth fault

abbrev pub ReadsLvals : List Token → ℕ → List Lval → ℕ → Type 0
ReadsLvals ts = ReadsList (Comma ts) (ReadsLval ts)

pub record IsLvals (ts : List Token) (i depth : ℕ) (p : ListedLvals) : Type 0 where
  pub reads : ReadsLvals ts i p.items p.end
  pub height_is : p.height ≡ highest lval_height p.items
  pub low : p.height ≤ depth

abbrev pub AnswersLvals : List Token → ℕ → ℕ → Result ListedLvals ReadFault → Type 0
AnswersLvals ts i depth (Ok p) = IsLvals ts i depth p
AnswersLvals ts i depth (Err fault) = Refusal (highest lval_height) (ReadsLvals ts i) ts (i + 1) depth fault

-- a statement to which no `else` after it belongs
pub record ReadsStmt (ts : List Token) (i : ℕ) (tree : Stmt) (j : ℕ) : Type 0 where
  pub spelt : SpellsStmt ts i tree j
  pub ends : IsWord ts j (codes "else") → IsOpen tree → ⊥

pub record IsStmt (ts : List Token) (i depth : ℕ) (p : ParsedStmt) : Type 0 where
  pub reads : ReadsStmt ts i p.tree p.end
  pub height_is : p.height ≡ stmt_height p.tree
  pub low : p.height ≤ depth

abbrev pub RefusesStmt : List Token → ℕ → ℕ → ReadFault → Type 0
RefusesStmt ts i depth = Refusal stmt_height (ReadsStmt ts i) ts i depth

abbrev pub AnswersStmt : List Token → ℕ → ℕ → Result ParsedStmt ReadFault → Type 0
AnswersStmt ts i depth (Ok p) = IsStmt ts i depth p
AnswersStmt ts i depth (Err fault) = RefusesStmt ts i depth fault

-- none of the tokens stands there with which a statement begins that is no assignment
pub record NoKeyword (ts : List Token) (i : ℕ) : Type 0 where
  pub no_semicolon : IsSign ts i (codes ";") → ⊥
  pub no_begin : IsWord ts i (codes "begin") → ⊥
  pub no_if : IsWord ts i (codes "if") → ⊥
  pub no_case : (kind : CaseKind) → IsWord ts i (case_word kind) → ⊥

-- statements one after another, and then an `end`
abbrev pub ReadsSeq : List Token → ℕ → List Stmt → ℕ → Type 0
ReadsSeq ts i xs j = Sequence (ReadsStmt ts) i xs j × IsWord ts j (codes "end")

pub record IsSeq (ts : List Token) (i depth : ℕ) (p : ParsedSeq) : Type 0 where
  pub reads : ReadsSeq ts i p.items p.end
  pub height_is : p.height ≡ highest stmt_height p.items
  pub low : p.height ≤ depth
  pub past : i ≤ p.end

abbrev pub AnswersSeq : List Token → ℕ → ℕ → Result ParsedSeq ReadFault → Type 0
AnswersSeq ts i depth (Ok p) = IsSeq ts i depth p
AnswersSeq ts i depth (Err fault) = Refusal (highest stmt_height) (ReadsSeq ts i) ts i depth fault

-- after the word at i, an expression in parentheses
pub record ReadsHeader (ts : List Token) (i : ℕ) (tree : Expr) (j : ℕ) : Type 0 where
  pub opens : IsSign ts (i + 1) (codes "(")
  pub at : ℕ
  pub reads : Reads false ts 1 (i + 2) tree at
  pub closes : IsSign ts at (codes ")")
  pub end_is : j ≡ at + 1

pub record IsHeader (ts : List Token) (i depth : ℕ) (p : Parsed) : Type 0 where
  pub reads : ReadsHeader ts i p.tree p.end
  pub height_is : p.height ≡ height p.tree
  pub low : p.height ≤ depth

abbrev pub AnswersHeader : List Token → ℕ → ℕ → Result Parsed ReadFault → Type 0
AnswersHeader ts i depth (Ok p) = IsHeader ts i depth p
AnswersHeader ts i depth (Err fault) = Refusal height (ReadsHeader ts i) ts (i + 1) depth fault

-- an expression and a semicolon
pub record ReadsValue (ts : List Token) (i : ℕ) (tree : Expr) (j : ℕ) : Type 0 where
  pub at : ℕ
  pub reads : Reads false ts 1 i tree at
  pub closes : IsSign ts at (codes ";")
  pub end_is : j ≡ at + 1

pub record IsValue (ts : List Token) (i depth : ℕ) (p : Parsed) : Type 0 where
  pub reads : ReadsValue ts i p.tree p.end
  pub height_is : p.height ≡ height p.tree
  pub low : p.height ≤ depth

abbrev pub AnswersValue : List Token → ℕ → ℕ → Result Parsed ReadFault → Type 0
AnswersValue ts i depth (Ok p) = IsValue ts i depth p
AnswersValue ts i depth (Err fault) = Refusal height (ReadsValue ts i) ts i depth fault

-- the name of a block, or none where no colon stands
abbrev pub ReadsBlockName : List Token → ℕ → Option (List ℕ) → ℕ → Type 0
ReadsBlockName ts i None j = (i ≡ j) × (IsSign ts i (codes ":") → ⊥)
ReadsBlockName ts i (Some n) j = SpellsLabelled ts i n j

abbrev pub AnswersBlockName : List Token → ℕ → Result BlockName ReadFault → Type 0
AnswersBlockName ts i (Ok p) = ReadsBlockName ts i p.name p.end
AnswersBlockName ts i (Err fault) = Lacks (ReadsBlockName ts i) fault

-- a label: an expression, or in `casez` a number with digits `?` or `z`
abbrev pub ReadsLabel : CaseKind → List Token → ℕ → Expr → ℕ → Type 0
ReadsLabel kind ts i a j = Reads false ts 1 i a j ⊎ IsWild kind ts i a j

pub record IsLabel (kind : CaseKind) (ts : List Token) (i depth : ℕ) (p : Parsed) : Type 0 where
  pub reads : ReadsLabel kind ts i p.tree p.end
  pub height_is : p.height ≡ height p.tree
  pub low : p.height ≤ depth

abbrev pub AnswersLabel : CaseKind → List Token → ℕ → ℕ → Result Parsed ReadFault → Type 0
AnswersLabel kind ts i depth (Ok p) = IsLabel kind ts i depth p
AnswersLabel kind ts i depth (Err fault) = Refusal height (ReadsLabel kind ts i) ts i depth fault

-- a number with such digits, where it may be a label
abbrev pub IsWildAt : CaseKind → List Token → ℕ → Option Number → Type 0
IsWildAt kind ts i (Some n) = (kind ≡ c.Casez) × (kind_at ts i ≡ Some (k.Number n)) × (n.wildcard ≡ true)
IsWildAt kind ts i None = (n : Number) → kind ≡ c.Casez → kind_at ts i ≡ Some (k.Number n) → n.wildcard ≡ true → ⊥

abbrev pub ReadsLabelList : CaseKind → List Token → ℕ → List Expr → ℕ → Type 0
ReadsLabelList kind ts = ReadsList (Comma ts) (ReadsLabel kind ts)

pub record IsLabelList (kind : CaseKind) (ts : List Token) (i depth : ℕ) (p : ListedLabels) : Type 0 where
  pub reads : ReadsLabelList kind ts i p.items p.end
  pub height_is : p.height ≡ highest height p.items
  pub low : p.height ≤ depth

abbrev pub AnswersLabelList : CaseKind → List Token → ℕ → ℕ → Result ListedLabels ReadFault → Type 0
AnswersLabelList kind ts i depth (Ok p) = IsLabelList kind ts i depth p
AnswersLabelList kind ts i depth (Err fault) = Refusal (highest height) (ReadsLabelList kind ts i) ts i depth fault

-- labels up to their colon, which after `default` need not stand
abbrev pub ReadsLabels : CaseKind → List Token → ℕ → Labels → ℕ → Type 0
ReadsLabels kind ts i (b.Exprs xs) j = (m : ℕ) × ReadsLabelList kind ts i xs m × IsSign ts m (codes ":") × (j ≡ m + 1)
ReadsLabels kind ts i b.Default j =
    IsWord ts i (codes "default") × (((j ≡ i + 1) × (IsSign ts (i + 1) (codes ":") → ⊥)) ⊎ (IsSign ts (i + 1) (codes ":") × (j ≡ i + 2)))

pub record IsLabels (kind : CaseKind) (ts : List Token) (i depth : ℕ) (p : ParsedLabels) : Type 0 where
  pub reads : ReadsLabels kind ts i p.labels p.end
  pub defaults_is : p.defaults ≡ defaults_in p.labels
  pub height_is : p.height ≡ labels_height p.labels
  pub low : p.height ≤ depth

abbrev pub AnswersLabels : CaseKind → List Token → ℕ → ℕ → Result ParsedLabels ReadFault → Type 0
AnswersLabels kind ts i depth (Ok p) = IsLabels kind ts i depth p
AnswersLabels kind ts i depth (Err fault) = Refusal labels_height (ReadsLabels kind ts i) ts i depth fault

-- labels and their statement
pub record ReadsItem (kind : CaseKind) (ts : List Token) (i : ℕ) (x : CaseItem) (j : ℕ) : Type 0 where
  pub at : ℕ
  pub labels : ReadsLabels kind ts i x.labels at
  pub body : ReadsStmt ts at x.body j

abbrev pub item_height : CaseItem → ℕ
item_height x = max (labels_height x.labels) (stmt_height x.body)

pub record IsItem (kind : CaseKind) (ts : List Token) (i depth : ℕ) (p : ParsedItem) : Type 0 where
  pub reads : ReadsItem kind ts i p.item p.end
  pub defaults_is : p.defaults ≡ defaults_in p.item.labels
  pub height_is : p.height ≡ item_height p.item
  pub low : p.height ≤ depth

abbrev pub AnswersItem : CaseKind → List Token → ℕ → ℕ → Result ParsedItem ReadFault → Type 0
AnswersItem kind ts i depth (Ok p) = IsItem kind ts i depth p
AnswersItem kind ts i depth (Err fault) = Refusal item_height (ReadsItem kind ts i) ts i depth fault

-- how many items are `default`
abbrev pub defaults_of : List CaseItem → ℕ
defaults_of [] = 0
defaults_of (x ∷ xs) = defaults_in x.labels + defaults_of xs

-- one item or more, at most one of them `default`, and then an `endcase`
pub record ReadsCases (kind : CaseKind) (ts : List Token) (i : ℕ) (xs : List CaseItem) (j : ℕ) : Type 0 where
  pub items : Sequence (ReadsItem kind ts) i xs j
  pub ends : IsWord ts j (codes "endcase")
  pub one_default : defaults_of xs ≤ 1
  pub some : i < j

pub record IsCases (kind : CaseKind) (ts : List Token) (i depth : ℕ) (p : ParsedCases) : Type 0 where
  pub reads : ReadsCases kind ts i p.items p.end
  pub height_is : p.height ≡ highest item_height p.items
  pub low : p.height ≤ depth

abbrev pub AnswersCases : CaseKind → List Token → ℕ → ℕ → Result ParsedCases ReadFault → Type 0
AnswersCases kind ts i depth (Ok p) = IsCases kind ts i depth p
AnswersCases kind ts i depth (Err fault) = Refusal (highest item_height) (ReadsCases kind ts i) ts i depth fault

-- the word with which a case statement begins
abbrev pub IsCaseWord : List Token → ℕ → Option CaseKind → Type 0
IsCaseWord ts i (Some kind) = IsWord ts i (case_word kind)
IsCaseWord ts i None = (kind : CaseKind) → IsWord ts i (case_word kind) → ⊥
