-- What a reader answers: the tree that is read, or why there is none.
use Rattle.std.specs.Prelude.{Bool, ℕ, ◌+◌, ◌<◌, ◌≤◌, ◌≡◌, List, length, Option, Some, None, Result, Ok, Err}
use Rattle.vlog_tree.specs.declared.token.Token.{Token}
use Rattle.vlog_tree.specs.declared.expr.Expr.{Expr}
use Rattle.vlog_tree.specs.declared.expr.Infix.{Infix}
use Rattle.vlog_tree.specs.Signs.{IsSign, infix_at, infix_level}
use Rattle.vlog_tree.specs.Spelling.{level, height, Spells, Reads, NoSuffix}
use Rattle.vlog_tree.specs.Lists.{Comma, highest}
use Rattle.vlog_read_spelling.specs.Growing.{Loose, ReadsList}
use Rattle.vlog_read_lex.specs.declared.error.ReadFault.{ReadFault}
use Rattle.vlog_read_lex.specs.declared.error.ReadFault.TheVariants as f
use Rattle.vlog_read_expr.specs.declared.expr.Parsed.{Parsed}
use Rattle.vlog_read_expr.specs.declared.expr.Listed.{Listed}

-- each value that P has at i is higher than depth; it needs more tokens than that
pub record IsDeep {A : Type 0} (h : A → ℕ) (P : A → ℕ → Type 0) (ts : List Token) (i depth : ℕ) : Type 0 where
  pub higher : (a : A) (j : ℕ) → P a j → depth < h a
  pub tokens : i + depth < length ts

-- P a j says that the tokens from i up to j read as a
abbrev pub Refusal : {A : Type 0} (h : A → ℕ) (P : A → ℕ → Type 0) (ts : List Token) (i depth : ℕ) → ReadFault → Type 0
Refusal {A} h P ts i depth (f.Syntax at) = (a : A) (j : ℕ) → P a j → ⊥
Refusal h P ts i depth f.Deep = IsDeep h P ts i depth
Refusal h P ts i depth f.Memory = Unit {0}
Refusal h P ts i depth (f.Bytes at) = ⊥
Refusal h P ts i depth (f.Number at) = ⊥
Refusal h P ts i depth (f.Outside at) = ⊥

abbrev pub Refuses : Bool → List Token → ℕ → ℕ → ℕ → ReadFault → Type 0
Refuses set ts lev i depth = Refusal height (Reads set ts lev i) ts i depth

-- the tree that is read at i, with its height
pub record IsRead (set : Bool) (ts : List Token) (lev i depth : ℕ) (p : Parsed) : Type 0 where
  pub reads : Reads set ts lev i p.tree p.end
  pub height_is : p.height ≡ height p.tree
  pub low : p.height ≤ depth

abbrev pub Answers : Bool → List Token → ℕ → ℕ → ℕ → Result Parsed ReadFault → Type 0
Answers set ts lev i depth (Ok p) = IsRead set ts lev i depth p
Answers set ts lev i depth (Err fault) = Refuses set ts lev i depth fault

-- a tree that is read from i so far: an operator at its end may take it as its left part
pub record Grown (set : Bool) (ts : List Token) (lev i depth : ℕ) (p : Parsed) : Type 0 where
  pub spelt : Spells set ts i p.tree p.end
  pub binds : lev ≤ level p.tree
  pub free : NoSuffix ts p.end
  pub loose : Loose set ts p.tree p.end
  pub height_is : p.height ≡ height p.tree
  pub low : p.height ≤ depth

-- a longer one, or the refusal
abbrev pub Extends : Bool → List Token → ℕ → ℕ → ℕ → ℕ → Result Parsed ReadFault → Type 0
Extends set ts lev i depth end (Ok p) = Grown set ts lev i depth p × (end < p.end)
Extends set ts lev i depth end (Err fault) = Refuses set ts lev i depth fault

-- what stands at a place and may take a tree that binds at lev or more
abbrev pub IsNextOp : Bool → List Token → ℕ → ℕ → Option Infix → Type 0
IsNextOp set ts lev j (Some op) = (infix_at set ts j ≡ Some op) × (lev ≤ infix_level op)
IsNextOp set ts lev j None = (op : Infix) → infix_at set ts j ≡ Some op → infix_level op < lev

-- a tree and its closing sign, which nothing continues
pub record Closed (set : Bool) (ts : List Token) (i : ℕ) (close : List ℕ) (tree : Expr) (j : ℕ) : Type 0 where
  pub at : ℕ
  pub reads : Reads set ts 1 i tree at
  pub close_at : IsSign ts at close
  pub end_is : j ≡ at + 1
  pub free : NoSuffix ts j

pub record IsClosed (set : Bool) (ts : List Token) (i : ℕ) (close : List ℕ) (depth : ℕ) (p : Parsed) : Type 0 where
  pub closed : Closed set ts i close p.tree p.end
  pub height_is : p.height ≡ height p.tree
  pub low : p.height ≤ depth

abbrev pub Encloses : Bool → List Token → ℕ → List ℕ → ℕ → Result Parsed ReadFault → Type 0
Encloses set ts i close depth (Ok p) = IsClosed set ts i close depth p
Encloses set ts i close depth (Err fault) = Refusal height (Closed set ts i close) ts i depth fault

-- trees with commas between, and no comma after them
abbrev pub ReadsTrees : Bool → List Token → ℕ → List Expr → ℕ → Type 0
ReadsTrees set ts = ReadsList (Comma ts) (Reads set ts 1)

pub record IsListed (set : Bool) (ts : List Token) (i depth : ℕ) (p : Listed) : Type 0 where
  pub reads : ReadsTrees set ts i p.items p.end
  pub height_is : p.height ≡ highest height p.items
  pub low : p.height ≤ depth

abbrev pub Lists : Bool → List Token → ℕ → ℕ → Result Listed ReadFault → Type 0
Lists set ts i depth (Ok p) = IsListed set ts i depth p
Lists set ts i depth (Err fault) = Refusal (highest height) (ReadsTrees set ts i) ts i depth fault
