-- A tree by the form of its root.
use Rattle.std.proofs.Common.{Bool, ℕ, ◌+◌, ◌≡◌, ◌<◌, ◌≤◌, max, ◌⊎◌, inl, inr, List, Option, Some, None, false, refl, arith, lit<, lit≤}
use Rattle.std.specs.Prelude.{codes, length}
use Rattle.vlog_tree.specs.declared.token.Token.{Token}
use Rattle.vlog_tree.specs.declared.token.Kind.{Kind}
use Rattle.vlog_tree.specs.declared.token.Kind.TheVariants as k
use Rattle.vlog_tree.specs.declared.expr.Binary.{Binary}
use Rattle.vlog_tree.specs.declared.expr.Unary.{Unary}
use Rattle.vlog_tree.specs.declared.expr.Cast.{Cast}
use Rattle.vlog_tree.specs.declared.expr.Span.{Span}
use Rattle.vlog_tree.specs.declared.expr.Infix.{Infix}
use Rattle.vlog_tree.specs.declared.expr.Infix.TheVariants as x
use Rattle.vlog_tree.specs.declared.expr.Name.{Name}
use Rattle.vlog_tree.specs.declared.expr.Expr.{Expr, Row_of-Expr, end_of-Expr, more_of-Expr}
use Rattle.vlog_tree.specs.declared.expr.Expr.TheVariants as e
use Rattle.vlog_tree.specs.Signs.{kind_at, IsSign, infix_at, binary_level, infix_of, on_sign, cast_of, cast_at, span_of, span_at}
use Rattle.vlog_tree.specs.Spelling.{level, height, heights, IsName, Spells, SpellsList, SpellsMore}
use Rattle.vlog_read_spelling.proofs.Tokens.{First, number, word, paren, brace, unary, nothing, first_at, first_number, first_word, first_paren, first_brace, first_unary, binary_low, word_of, sign_of, kind_within}
use Rattle.vlog_read_spelling.proofs.Names.{name_begins, name_long, name_within}

-- the forms with one part each, as a pattern has them
abbrev pub select_of : Name → Expr → Expr
select_of n a = e.Select' n tt (more_of-Expr a end_of-Expr)

abbrev pub part_of : Name → Span → Expr → Expr → Expr
part_of n w a b = e.Part' n w tt (more_of-Expr a end_of-Expr) tt (more_of-Expr b end_of-Expr)

abbrev pub cast_tree : Cast → Expr → Expr
cast_tree c a = e.Cast' c tt (more_of-Expr a end_of-Expr)

abbrev pub paren_of : Expr → Expr
paren_of a = e.Paren' tt (more_of-Expr a end_of-Expr)

abbrev pub unary_tree : Unary → Expr → Expr
unary_tree op a = e.Unary' op tt (more_of-Expr a end_of-Expr)

abbrev pub binary_of : Binary → Expr → Expr → Expr
binary_of op a b = e.Binary' op tt (more_of-Expr a end_of-Expr) tt (more_of-Expr b end_of-Expr)

abbrev pub choice_of : Expr → Expr → Expr → Expr
choice_of a b c = e.Choice' tt (more_of-Expr a end_of-Expr) tt (more_of-Expr b end_of-Expr) tt (more_of-Expr c end_of-Expr)

pub height_pos : (a : Expr) → 0 < height a
height_pos (e.Number n) = lit< tt
height_pos (e.Name n) = lit< tt
height_pos (e.Select' n s (more_of-Expr a end_of-Expr)) = omega arith
height_pos (e.Part' n w s (more_of-Expr a end_of-Expr) t (more_of-Expr b end_of-Expr)) = omega arith
height_pos (e.ConstantSelect' n s (more_of-Expr a end_of-Expr)) = omega arith
height_pos (e.ConstantPart' n w s (more_of-Expr a end_of-Expr) t (more_of-Expr b end_of-Expr)) = omega arith
height_pos (e.Cast' c s (more_of-Expr a end_of-Expr)) = omega arith
height_pos (e.Paren' s (more_of-Expr a end_of-Expr)) = omega arith
height_pos (e.Concat' s row) = omega arith
height_pos (e.Repeat' s (more_of-Expr a end_of-Expr) t row) = omega arith
height_pos (e.Unary' op s (more_of-Expr a end_of-Expr)) = omega arith
height_pos (e.Binary' op s (more_of-Expr a end_of-Expr) t (more_of-Expr b end_of-Expr)) = omega arith
height_pos (e.Choice' s (more_of-Expr a end_of-Expr) t (more_of-Expr b end_of-Expr) u (more_of-Expr c end_of-Expr)) = omega arith

-- a tree has a token for each level of its height
mutual
  pub length_of : (set : Bool) (ts : List Token) (i : ℕ) (a : Expr) (j : ℕ) → Spells set ts i a j → i + height a ≤ j
  length_of set ts i (e.Number n) j s = omega arith
  length_of set ts i (e.Name n) j s = omega (arith, name_long set ts i n j s)
  length_of set ts i (e.Select' n q (more_of-Expr a end_of-Expr)) j s = omega (arith, name_long set ts i n s.0 s.2, length_of set ts (s.0 + 1) a s.1 s.4)
  length_of set ts i (e.Part' n w q (more_of-Expr a end_of-Expr) t (more_of-Expr b end_of-Expr)) j s =
      omega (arith, name_long set ts i n s.0 s.3, length_of set ts (s.0 + 1) a s.1 s.5, length_of set ts (s.1 + 1) b s.2 s.7)
  length_of set ts i (e.ConstantSelect' n q a) j s = absurd s
  length_of set ts i (e.ConstantPart' n w q a t b) j s = absurd s
  length_of set ts i (e.Cast' c q (more_of-Expr a end_of-Expr)) j s = omega (arith, length_of set ts (i + 2) a s.0 s.3)
  length_of set ts i (e.Paren' q (more_of-Expr a end_of-Expr)) j s = omega (arith, length_of set ts (i + 1) a s.0 s.2)
  length_of set ts i (e.Concat' q row) j s = omega (arith, length_of_list set ts (i + 1) row s.0 s.2)
  length_of set ts i (e.Repeat' q (more_of-Expr a end_of-Expr) t row) j s =
      omega (arith, length_of set ts (i + 1) a s.0 s.3, length_of_list set ts (s.0 + 1) row s.1 s.5)
  length_of set ts i (e.Unary' op q (more_of-Expr a end_of-Expr)) j s = omega (arith, length_of set ts (i + 1) a j s.1)
  length_of set ts i (e.Binary' op q (more_of-Expr a end_of-Expr) t (more_of-Expr b end_of-Expr)) j s =
      omega (arith, length_of set ts i a s.0 s.1, length_of set ts (s.0 + 1) b j s.3)
  length_of set ts i (e.Choice' q (more_of-Expr a end_of-Expr) t (more_of-Expr b end_of-Expr) u (more_of-Expr c end_of-Expr)) j s =
      omega (arith, length_of set ts i a s.0 s.2, length_of set ts (s.0 + 1) b s.1 s.4, length_of set ts (s.1 + 1) c j s.6)

  pub length_of_list : {m : _} (set : Bool) (ts : List Token) (i : ℕ) (row : Row_of-Expr m) (j : ℕ) → SpellsList set ts i row j → i + heights row ≤ j
  length_of_list set ts i end_of-Expr j s = absurd s
  length_of_list set ts i (more_of-Expr a rest) j s = omega (arith, length_of set ts i a s.0 s.1, length_of_more set ts s.0 rest j s.2)

  pub length_of_more : {m : _} (set : Bool) (ts : List Token) (i : ℕ) (row : Row_of-Expr m) (j : ℕ) → SpellsMore set ts i row j → i + heights row ≤ j
  length_of_more set ts i end_of-Expr j s = omega arith
  length_of_more set ts i (more_of-Expr a rest) j s = omega (arith, length_of set ts (i + 1) a s.0 s.2, length_of_more set ts s.0 rest j s.3)

-- where the left operand of a binary operator ends; else where the tree ends
abbrev pub left_end : (set : Bool) (ts : List Token) (i : ℕ) (a : Expr) (j : ℕ) → Spells set ts i a j → ℕ
left_end set ts i (e.Binary' op q (more_of-Expr a end_of-Expr) t (more_of-Expr b end_of-Expr)) j s = s.0
left_end set ts i (e.Choice' q a t b u c) j s = j
left_end set ts i (e.Unary' op q a) j s = j
left_end set ts i (e.Number n) j s = j
left_end set ts i (e.Name n) j s = j
left_end set ts i (e.Select' n q a) j s = j
left_end set ts i (e.Part' n w q a t b) j s = j
left_end set ts i (e.ConstantSelect' n q a) j s = j
left_end set ts i (e.ConstantPart' n w q a t b) j s = j
left_end set ts i (e.Cast' c q a) j s = j
left_end set ts i (e.Paren' q a) j s = j
left_end set ts i (e.Concat' q row) j s = j
left_end set ts i (e.Repeat' q a t row) j s = j

pub record BinaryForm (set : Bool) (ts : List Token) (i : ℕ) (tree : Expr) (j : ℕ) (s : Spells set ts i tree j) : Type 0 where
  pub op : Binary
  pub left : Expr
  pub right : Expr
  pub at : ℕ
  pub is : tree ≡ binary_of op left right
  pub spells_left : Spells set ts i left at
  pub sign : infix_at set ts at ≡ Some (x.Binary op)
  pub spells_right : Spells set ts (at + 1) right j
  pub binds_left : binary_level op ≤ level left
  pub binds_right : binary_level op < level right
  pub left_is : left_end set ts i tree j s ≡ at
  pub level_is : level tree ≡ binary_level op
  pub height_is : height tree ≡ max (height left) (height right) + 1

pub record ChoiceForm (set : Bool) (ts : List Token) (i : ℕ) (tree : Expr) (j : ℕ) (s : Spells set ts i tree j) : Type 0 where
  pub cond : Expr
  pub yes : Expr
  pub no : Expr
  pub at : ℕ
  pub mid : ℕ
  pub is : tree ≡ choice_of cond yes no
  pub spells_cond : Spells set ts i cond at
  pub sign : infix_at set ts at ≡ Some x.Choice
  pub spells_yes : Spells set ts (at + 1) yes mid
  pub colon : IsSign ts mid (codes ":")
  pub spells_no : Spells set ts (mid + 1) no j
  pub binds_cond : 1 < level cond
  pub left_is : left_end set ts i tree j s ≡ j
  pub level_is : level tree ≡ 1
  pub height_is : height tree ≡ max (height cond) (max (height yes) (height no)) + 1

pub form : (set : Bool) (ts : List Token) (i : ℕ) (a : Expr) (j : ℕ) (s : Spells set ts i a j) → (BinaryForm set ts i a j s ⊎ ChoiceForm set ts i a j s) ⊎ (12 ≤ level a)
form set ts i (e.Number n) j s = inr (lit≤ tt)
form set ts i (e.Name n) j s = inr (lit≤ tt)
form set ts i (e.Select' n q a) j s = inr (lit≤ tt)
form set ts i (e.Part' n w q a t b) j s = inr (lit≤ tt)
form set ts i (e.ConstantSelect' n q a) j s = inr (lit≤ tt)
form set ts i (e.ConstantPart' n w q a t b) j s = inr (lit≤ tt)
form set ts i (e.Cast' c q a) j s = inr (lit≤ tt)
form set ts i (e.Paren' q a) j s = inr (lit≤ tt)
form set ts i (e.Concat' q row) j s = inr (lit≤ tt)
form set ts i (e.Repeat' q a t row) j s = inr (lit≤ tt)
form set ts i (e.Unary' op q a) j s = inr (lit≤ tt)
form set ts i (e.Binary' op q (more_of-Expr a end_of-Expr) t (more_of-Expr b end_of-Expr)) j s = inl (inl (record {
  op = op;
  left = a;
  right = b;
  at = s.0;
  is = refl;
  spells_left = s.1;
  sign = s.2;
  spells_right = s.3;
  binds_left = s.4;
  binds_right = s.5;
  left_is = refl;
  level_is = refl;
  height_is = refl;
}))
form set ts i (e.Choice' q (more_of-Expr a end_of-Expr) t (more_of-Expr b end_of-Expr) u (more_of-Expr c end_of-Expr)) j s = inl (inr (record {
  cond = a;
  yes = b;
  no = c;
  at = s.0;
  mid = s.1;
  is = refl;
  spells_cond = s.2;
  sign = s.3;
  spells_yes = s.4;
  colon = s.5;
  spells_no = s.6;
  binds_cond = s.7;
  left_is = refl;
  level_is = refl;
  height_is = refl;
}))

pub record SelectForm (set : Bool) (ts : List Token) (i : ℕ) (tree : Expr) (j : ℕ) : Type 0 where
  pub name : Name
  pub part : Expr
  pub at : ℕ
  pub is : tree ≡ select_of name part
  pub past : ℕ
  pub named : IsName set ts i name past
  pub open_ : IsSign ts past (codes "[")
  pub spells_part : Spells set ts (past + 1) part at
  pub close : IsSign ts at (codes "]")
  pub end_is : j ≡ at + 1
  pub height_is : height tree ≡ height part + 1

pub record NameForm (set : Bool) (ts : List Token) (i : ℕ) (tree : Expr) (j : ℕ) : Type 0 where
  pub name : Name
  pub is : tree ≡ e.Name name
  pub named : IsName set ts i name j

pub record PartForm (set : Bool) (ts : List Token) (i : ℕ) (tree : Expr) (j : ℕ) : Type 0 where
  pub name : Name
  pub span : Span
  pub part : Expr
  pub at : ℕ
  pub other : Expr
  pub last : ℕ
  pub is : tree ≡ part_of name span part other
  pub past : ℕ
  pub named : IsName set ts i name past
  pub open_ : IsSign ts past (codes "[")
  pub spells_part : Spells set ts (past + 1) part at
  pub sign : span_at ts at ≡ Some span
  pub spells_other : Spells set ts (at + 1) other last
  pub close : IsSign ts last (codes "]")
  pub end_is : j ≡ last + 1
  pub height_is : height tree ≡ max (height part) (height other) + 1

pub record CastForm (set : Bool) (ts : List Token) (i : ℕ) (tree : Expr) (j : ℕ) : Type 0 where
  pub cast : Cast
  pub part : Expr
  pub at : ℕ
  pub is : tree ≡ cast_tree cast part
  pub word : cast_at ts i ≡ Some cast
  pub open_ : IsSign ts (i + 1) (codes "(")
  pub spells_part : Spells set ts (i + 2) part at
  pub close : IsSign ts at (codes ")")
  pub end_is : j ≡ at + 1
  pub height_is : height tree ≡ height part + 1

pub record ParenForm (set : Bool) (ts : List Token) (i : ℕ) (tree : Expr) (j : ℕ) : Type 0 where
  pub part : Expr
  pub at : ℕ
  pub is : tree ≡ paren_of part
  pub spells_part : Spells set ts (i + 1) part at
  pub close : IsSign ts at (codes ")")
  pub end_is : j ≡ at + 1
  pub height_is : height tree ≡ height part + 1

pub record ConcatForm (set : Bool) (ts : List Token) (i : ℕ) (tree : Expr) (j : ℕ) : Type 0 where
  pub shape : List (Unit {0})
  pub row : Row_of-Expr _
  pub at : ℕ
  pub is : tree ≡ e.Concat' shape row
  pub spells_row : SpellsList set ts (i + 1) row at
  pub close : IsSign ts at (codes "}")
  pub end_is : j ≡ at + 1
  pub height_is : height tree ≡ heights row + 1

pub record RepeatForm (set : Bool) (ts : List Token) (i : ℕ) (tree : Expr) (j : ℕ) : Type 0 where
  pub count : Expr
  pub at : ℕ
  pub shape : List (Unit {0})
  pub row : Row_of-Expr _
  pub last : ℕ
  pub is : tree ≡ e.Repeat' tt (more_of-Expr count end_of-Expr) shape row
  pub spells_count : Spells set ts (i + 1) count at
  pub open_ : IsSign ts at (codes "{")
  pub spells_row : SpellsList set ts (at + 1) row last
  pub close : IsSign ts last (codes "}")
  pub close_2 : IsSign ts (last + 1) (codes "}")
  pub end_is : j ≡ last + 2
  pub height_is : height tree ≡ max (height count) (heights row) + 1

-- a name with what stands in its brackets
abbrev pub NamedForm : Bool → List Token → ℕ → Expr → ℕ → Type 0
NamedForm set ts i tree j = NameForm set ts i tree j ⊎ (SelectForm set ts i tree j ⊎ PartForm set ts i tree j)

pub record UnaryForm (set : Bool) (ts : List Token) (i : ℕ) (op : Unary) (tree : Expr) (j : ℕ) : Type 0 where
  pub part : Expr
  pub is : tree ≡ unary_tree op part
  pub spells_part : Spells set ts (i + 1) part j
  pub binds : 12 ≤ level part
  pub height_is : height tree ≡ height part + 1
  pub level_is : level tree ≡ 12

-- what a tree is, where it begins with its own token: by that token
abbrev pub Begun : Bool → List Token → ℕ → Expr → ℕ → First → Type 0
Begun set ts i tree j (number n) = (tree ≡ e.Number n) × (n.wildcard ≡ false) × (j ≡ i + 1)
Begun set ts i tree j (word w) = NamedForm set ts i tree j ⊎ CastForm set ts i tree j
Begun set ts i tree j paren = ParenForm set ts i tree j
Begun set ts i tree j brace = ConcatForm set ts i tree j ⊎ RepeatForm set ts i tree j
Begun set ts i tree j (unary op) = UnaryForm set ts i op tree j
Begun set ts i tree j nothing = ⊥

pub begun : (set : Bool) (ts : List Token) (i : ℕ) (a : Expr) (j : ℕ) → Spells set ts i a j → 12 ≤ level a → Begun set ts i a j (first_at ts i)
begun set ts i (e.Number n) j s l = rw (first_number ts i n s.0.number) (refl, s.0.whole, s.1)
begun set ts i (e.Name n) j s l = let w = name_begins set ts i n j s in rw (first_word ts i w.0 w.1.stands) (inl (inl (record { name = n; is = refl; named = s })))
begun set ts i (e.Select' n q (more_of-Expr a end_of-Expr)) j s l = let w = name_begins set ts i n s.0 s.2 in rw (first_word ts i w.0 w.1.stands)
    (inl (inr (inl (record { name = n; part = a; past = s.0; at = s.1; is = refl; named = s.2; open_ = s.3; spells_part = s.4; close = s.5; end_is = s.6; height_is = refl }))))
begun set ts i (e.Part' n w q (more_of-Expr a end_of-Expr) t (more_of-Expr b end_of-Expr)) j s l = let v = name_begins set ts i n s.0 s.3 in rw (first_word ts i v.0 v.1.stands)
    (inl (inr (inr (record { name = n; span = w; part = a; past = s.0; at = s.1; other = b; last = s.2; is = refl; named = s.3; open_ = s.4; spells_part = s.5; sign = s.6; spells_other = s.7; close = s.8; end_is = s.9; height_is = refl }))))
begun set ts i (e.ConstantSelect' n q a) j s l = absurd s
begun set ts i (e.ConstantPart' n w q a t b) j s l = absurd s
begun set ts i (e.Cast' c q (more_of-Expr a end_of-Expr)) j s l =
    let p = word_of cast_of (kind_at ts i) c s.1 in
    rw (first_word ts i p.0 p.1)
    (inr (record { cast = c; part = a; at = s.0; is = refl; word = s.1; open_ = s.2; spells_part = s.3; close = s.4; end_is = s.5; height_is = refl }))
begun set ts i (e.Paren' q (more_of-Expr a end_of-Expr)) j s l = rw (first_paren ts i s.1)
    (record { part = a; at = s.0; is = refl; spells_part = s.2; close = s.3; end_is = s.4; height_is = refl })
begun set ts i (e.Concat' q row) j s l = rw (first_brace ts i s.1)
    (inl (record { shape = q; row = row; at = s.0; is = refl; spells_row = s.2; close = s.3; end_is = s.4; height_is = refl }))
begun set ts i (e.Repeat' q (more_of-Expr a end_of-Expr) t row) j s l = rw (first_brace ts i s.2)
    (inr (record { count = a; at = s.0; shape = t; row = row; last = s.1; is = refl; spells_count = s.3; open_ = s.4; spells_row = s.5; close = s.6; close_2 = s.7; end_is = s.8; height_is = refl }))
begun set ts i (e.Unary' op q (more_of-Expr a end_of-Expr)) j s l = rw (first_unary ts i op s.0)
    (record { part = a; is = refl; spells_part = s.1; binds = s.2; height_is = refl; level_is = refl })
begun set ts i (e.Binary' op q a t b) j s l = absurd (omega (arith, binary_low op))
begun set ts i (e.Choice' q a t b u c) j s l = absurd (omega arith)

pub sign_within : (set : Bool) (ts : List Token) (i : ℕ) (x : Infix) → infix_at set ts i ≡ Some x → i < length ts
sign_within set ts i x h = by (kind_at ts i) refl h
  where
    by : (o : Option Kind) → kind_at ts i ≡ o → on_sign (infix_of set) o ≡ Some x → i < length ts
    by (Some q) e h = kind_within ts i q e
    by None e h = absurd (cc)

-- a tree ends within the tokens
mutual
  pub within : (set : Bool) (ts : List Token) (i : ℕ) (a : Expr) (j : ℕ) → Spells set ts i a j → j ≤ length ts
  within set ts i (e.Number n) j s = omega (arith, kind_within ts i (k.Number n) s.0.number, s.1)
  within set ts i (e.Name n) j s = name_within set ts i n j s
  within set ts i (e.Select' n q (more_of-Expr a end_of-Expr)) j s = omega (arith, kind_within ts s.1 _ s.5, s.6)
  within set ts i (e.Part' n w q (more_of-Expr a end_of-Expr) t (more_of-Expr b end_of-Expr)) j s = omega (arith, kind_within ts s.2 _ s.8, s.9)
  within set ts i (e.ConstantSelect' n q a) j s = absurd s
  within set ts i (e.ConstantPart' n w q a t b) j s = absurd s
  within set ts i (e.Cast' c q (more_of-Expr a end_of-Expr)) j s = omega (arith, kind_within ts s.0 _ s.4, s.5)
  within set ts i (e.Paren' q (more_of-Expr a end_of-Expr)) j s = omega (arith, kind_within ts s.0 _ s.3, s.4)
  within set ts i (e.Concat' q row) j s = omega (arith, kind_within ts s.0 _ s.3, s.4)
  within set ts i (e.Repeat' q (more_of-Expr a end_of-Expr) t row) j s = omega (arith, kind_within ts (s.1 + 1) _ s.7, s.8)
  within set ts i (e.Unary' op q (more_of-Expr a end_of-Expr)) j s = within set ts (i + 1) a j s.1
  within set ts i (e.Binary' op q (more_of-Expr a end_of-Expr) t (more_of-Expr b end_of-Expr)) j s = within set ts (s.0 + 1) b j s.3
  within set ts i (e.Choice' q (more_of-Expr a end_of-Expr) t (more_of-Expr b end_of-Expr) u (more_of-Expr c end_of-Expr)) j s = within set ts (s.1 + 1) c j s.6

pub span_within : (ts : List Token) (i : ℕ) (w : Span) → span_at ts i ≡ Some w → i < length ts
span_within ts i w h = let p = sign_of span_of (kind_at ts i) w h in kind_within ts i (k.Sign p.0) p.1
