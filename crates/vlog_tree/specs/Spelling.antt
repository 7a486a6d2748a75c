-- Which expressions a list of tokens spells: the tokens from place i up to place j spell a tree, by one case for each form of the
-- grammar (IEEE 1364-2005 annex A.8). `set` is false for texts of modules and true for texts of sets.
use Rattle.std.specs.Prelude.{ℕ, ◌+◌, ◌++◌, ◌^◌, ◌<◌, ◌≤◌, max, ◌≡◌, ◌⊎◌, List, [], ◌∷◌, Some, Bool, true, false, codes}
use Rattle.vlog_tree.specs.Signs.{kind_at, IsSign, IsWord, is_reserved, infix_at, infix_level, binary_level, unary_at, cast_at, span_at}
use Rattle.vlog_tree.specs.Lists.{Separated}
use Rattle.vlog_tree.specs.declared.token.Kind.TheVariants as k
use Rattle.vlog_tree.specs.declared.token.Token.{Token}
use Rattle.vlog_tree.specs.declared.token.Number.{Number}
use Rattle.vlog_tree.specs.declared.expr.Name.{Name}
use Rattle.vlog_tree.specs.declared.expr.Infix.{Infix}
use Rattle.vlog_tree.specs.declared.expr.Infix.TheVariants as x
use Rattle.vlog_tree.specs.declared.expr.Expr.{Expr, Row_of-Expr, end_of-Expr, more_of-Expr}
use Rattle.vlog_tree.specs.declared.expr.Expr.TheVariants as e

-- how tightly the root of a tree binds: an operator by its row of the table, and 13 for what needs no operand
abbrev pub level : Expr → ℕ
level (e.Binary' op s a t b) = binary_level op
level (e.Choice' s a t b u c) = 1
level (e.Unary' op s a) = 12
level (e.Number n) = 13
level (e.Name n) = 13
level (e.Select' n s a) = 13
level (e.Part' n w s a t b) = 13
level (e.ConstantSelect' n s a) = 13
level (e.ConstantPart' n w s a t b) = 13
level (e.Cast' c s a) = 13
level (e.Paren' s a) = 13
level (e.Concat' s row) = 13
level (e.Repeat' s a t row) = 13

-- the height of a leaf is 1, and a list inside a node adds nothing
abbrev mutual
  pub height : Expr → ℕ
  height (e.Number n) = 1
  height (e.Name n) = 1
  height (e.Select' n s (more_of-Expr a end_of-Expr)) = height a + 1
  height (e.Part' n w s (more_of-Expr a end_of-Expr) t (more_of-Expr b end_of-Expr)) = max (height a) (height b) + 1
  height (e.ConstantSelect' n s (more_of-Expr a end_of-Expr)) = height a + 1
  height (e.ConstantPart' n w s (more_of-Expr a end_of-Expr) t (more_of-Expr b end_of-Expr)) = max (height a) (height b) + 1
  height (e.Cast' c s (more_of-Expr a end_of-Expr)) = height a + 1
  height (e.Paren' s (more_of-Expr a end_of-Expr)) = height a + 1
  height (e.Concat' s row) = heights row + 1
  height (e.Repeat' s (more_of-Expr a end_of-Expr) t row) = max (height a) (heights row) + 1
  height (e.Unary' op s (more_of-Expr a end_of-Expr)) = height a + 1
  height (e.Binary' op s (more_of-Expr a end_of-Expr) t (more_of-Expr b end_of-Expr)) = max (height a) (height b) + 1
  height (e.Choice' s (more_of-Expr a end_of-Expr) t (more_of-Expr b end_of-Expr) u (more_of-Expr c end_of-Expr)) =
      max (height a) (max (height b) (height c)) + 1

  pub heights : {m : _} → Row_of-Expr m → ℕ
  heights end_of-Expr = 0
  heights (more_of-Expr a rest) = max (height a) (heights rest)

-- the word at a place is an identifier
pub record IsIdentifier (set : Bool) (ts : List Token) (i : ℕ) (word : List ℕ) : Type 0 where
  pub stands : IsWord ts i word
  pub free : is_reserved set word ≡ false

abbrev pub IsNamed : Bool → List Token → ℕ → List ℕ → ℕ → Type 0
IsNamed set ts i word j = IsIdentifier set ts i word × (j ≡ i + 1)

abbrev pub Dot : List Token → ℕ → Type 0
Dot ts i = IsSign ts i (codes ".")

-- words joined by dots
abbrev pub after_dots : List (List ℕ) → List ℕ
after_dots [] = []
after_dots (w ∷ rest) = codes "." ++ (w ++ after_dots rest)

abbrev pub dotted : List (List ℕ) → List ℕ
dotted [] = []
dotted (w ∷ rest) = w ++ after_dots rest

-- a hierarchical name of a set: identifiers with dots between
pub record IsPath (ts : List Token) (i : ℕ) (text : List ℕ) (j : ℕ) : Type 0 where
  pub words : List (List ℕ)
  pub spelt : Separated (Dot ts) (IsNamed true ts) i words j
  pub joined : text ≡ dotted words

-- `@` and decimal digits
pub record IsAt (ts : List Token) (i offset j : ℕ) : Type 0 where
  pub sign : IsSign ts i (codes "@")
  pub number : Number
  pub stands : kind_at ts (i + 1) ≡ Some (k.Number number)
  pub plain : number.plain ≡ true
  pub value : offset ≡ number.value
  pub fits : offset < 2 ^ 32
  pub last : j ≡ i + 2

-- without `@` the offset is 0
abbrev pub IsOffset : List Token → ℕ → ℕ → ℕ → Type 0
IsOffset ts i offset j = ((offset ≡ 0) × (j ≡ i)) ⊎ IsAt ts i offset j

-- a name: one identifier in a module, a path with its offset in a set
abbrev pub IsName : Bool → List Token → ℕ → Name → ℕ → Type 0
IsName false ts i n j = IsNamed false ts i n.text j × (n.offset ≡ 0)
IsName true ts i n j = (m : ℕ) × IsPath ts i n.text m × IsOffset ts m n.offset j

-- the number at a place, without a digit `?` or `z`
pub record IsNumber (ts : List Token) (i : ℕ) (n : Number) : Type 0 where
  pub number : kind_at ts i ≡ Some (k.Number n)
  pub whole : n.wildcard ≡ false

abbrev mutual
  pub Spells : Bool → List Token → ℕ → Expr → ℕ → Type 0
  Spells set ts i (e.Number n) j = IsNumber ts i n × (j ≡ i + 1)
  Spells set ts i (e.Name n) j = IsName set ts i n j
  Spells set ts i (e.Select' n s (more_of-Expr a end_of-Expr)) j =
      (l m : ℕ) × IsName set ts i n l × IsSign ts l (codes "[") × Spells set ts (l + 1) a m × IsSign ts m (codes "]") × (j ≡ m + 1)
  Spells set ts i (e.Part' n w s (more_of-Expr a end_of-Expr) t (more_of-Expr b end_of-Expr)) j =
      (l m o : ℕ) × IsName set ts i n l × IsSign ts l (codes "[") × Spells set ts (l + 1) a m × (span_at ts m ≡ Some w)
      × Spells set ts (m + 1) b o × IsSign ts o (codes "]") × (j ≡ o + 1)
  -- selects of a parameter's number are spelt by nothing
  Spells set ts i (e.ConstantSelect' n s a) j = ⊥
  Spells set ts i (e.ConstantPart' n w s a t b) j = ⊥
  Spells set ts i (e.Cast' c s (more_of-Expr a end_of-Expr)) j =
      (m : ℕ) × (cast_at ts i ≡ Some c) × IsSign ts (i + 1) (codes "(") × Spells set ts (i + 2) a m × IsSign ts m (codes ")") × (j ≡ m + 1)
  Spells set ts i (e.Paren' s (more_of-Expr a end_of-Expr)) j =
      (m : ℕ) × IsSign ts i (codes "(") × Spells set ts (i + 1) a m × IsSign ts m (codes ")") × (j ≡ m + 1)
  Spells set ts i (e.Concat' s row) j =
      (m : ℕ) × IsSign ts i (codes "{") × SpellsList set ts (i + 1) row m × IsSign ts m (codes "}") × (j ≡ m + 1)
  Spells set ts i (e.Repeat' s (more_of-Expr a end_of-Expr) t row) j =
      (m o : ℕ) × IsSign ts i (codes "{") × Spells set ts (i + 1) a m × IsSign ts m (codes "{") × SpellsList set ts (m + 1) row o
      × IsSign ts o (codes "}") × IsSign ts (o + 1) (codes "}") × (j ≡ o + 2)
  -- a unary operator binds tighter than all; binary operators associate to the left, the choice to the right
  Spells set ts i (e.Unary' op s (more_of-Expr a end_of-Expr)) j =
      (unary_at ts i ≡ Some op) × Spells set ts (i + 1) a j × (12 ≤ level a)
  Spells set ts i (e.Binary' op s (more_of-Expr a end_of-Expr) t (more_of-Expr b end_of-Expr)) j =
      (m : ℕ) × Spells set ts i a m × (infix_at set ts m ≡ Some (x.Binary op)) × Spells set ts (m + 1) b j
      × (binary_level op ≤ level a) × (binary_level op < level b)
  Spells set ts i (e.Choice' s (more_of-Expr a end_of-Expr) t (more_of-Expr b end_of-Expr) u (more_of-Expr c end_of-Expr)) j =
      (m n : ℕ) × Spells set ts i a m × (infix_at set ts m ≡ Some x.Choice) × Spells set ts (m + 1) b n × IsSign ts n (codes ":")
      × Spells set ts (n + 1) c j × (1 < level a)

  -- one tree or more, with commas between
  pub SpellsList : {m : _} → Bool → List Token → ℕ → Row_of-Expr m → ℕ → Type 0
  SpellsList set ts i end_of-Expr j = ⊥
  SpellsList set ts i (more_of-Expr a rest) j = (m : ℕ) × Spells set ts i a m × SpellsMore set ts m rest j

  -- each tree of the list with a comma in front
  pub SpellsMore : {m : _} → Bool → List Token → ℕ → Row_of-Expr m → ℕ → Type 0
  SpellsMore set ts i end_of-Expr j = i ≡ j
  SpellsMore set ts i (more_of-Expr a rest) j = (m : ℕ) × IsSign ts i (codes ",") × Spells set ts (i + 1) a m × SpellsMore set ts m rest j

-- no token at a place continues a name, a select or what stands in brackets
pub record NoSuffix (ts : List Token) (j : ℕ) : Type 0 where
  pub no_select : IsSign ts j (codes "[") → ⊥
  pub no_dot : IsSign ts j (codes ".") → ⊥
  pub no_at : IsSign ts j (codes "@") → ⊥

-- no token at a place continues an expression whose operators bind at k or more
pub record Ends (set : Bool) (ts : List Token) (k j : ℕ) : Type 0 where
  pub looser : (op : Infix) → infix_at set ts j ≡ Some op → infix_level op < k
  pub alone : NoSuffix ts j

-- the tokens from i up to j spell a tree that binds at k or more, and no token there continues it
pub record Reads (set : Bool) (ts : List Token) (k i : ℕ) (tree : Expr) (j : ℕ) : Type 0 where
  pub spelt : Spells set ts i tree j
  pub binds : k ≤ level tree
  pub ends : Ends set ts k j
