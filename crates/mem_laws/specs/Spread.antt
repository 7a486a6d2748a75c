-- A module without memories: each word of a memory is a register of its own (IEEE 1364-2005, sections 4.9 and 5.2.2).
use Rattle.std.specs.Prelude.{ℕ, ◌+◌, ◌-◌, ◌&&◌, nat_eq, nat_lt, not, Bool, true, false, List, [], ◌∷◌, ◌++◌, length, map, filter, None, if◌then◌else◌}
use Rattle.std.specs.List.{range_with_len, flat_map, list_any}
use Rattle.vlog_tree.specs.declared.expr.Binary.TheVariants as b
use Rattle.vlog_tree.specs.declared.expr.Cast.TheVariants as c
use Rattle.vlog_tree.specs.declared.expr.Expr.{Expr, Row_of-Expr, end_of-Expr, more_of-Expr}
use Rattle.vlog_tree.specs.declared.expr.Expr.TheVariants as e
use Rattle.vlog_tree.specs.declared.expr.Name.{Name as Read}
use Rattle.vlog_tree.specs.declared.expr.Span.TheVariants as w
use Rattle.vlog_tree.specs.declared.item.Assign.{Assign}
use Rattle.vlog_tree.specs.declared.stmt.Labels.{Labels}
use Rattle.vlog_tree.specs.declared.stmt.Labels.TheVariants as g
use Rattle.vlog_tree.specs.declared.stmt.Lval.{Lval, Row_of-Lval, end_of-Lval, more_of-Lval}
use Rattle.vlog_tree.specs.declared.stmt.Lval.TheVariants as l
use Rattle.vlog_tree.specs.declared.stmt.Stmt.{Stmt, Row_of-Stmt, end_of-Stmt, more_of-Stmt, Row_of-CaseItem, end_of-CaseItem, more_of-CaseItem}
use Rattle.vlog_tree.specs.declared.stmt.Stmt.TheVariants as s
use Rattle.vlog_tree.specs.declared.valuation.Entry.{Entry}
use Rattle.vlog_tree.specs.Valuation.{named, depth_of, word_name}
use Rattle.vlog_tree.specs.Value.{own_value, own_integer, operand_of, part_width}
use Rattle.vlog_tree_runs.specs.declared.flat.Always.{Always}
use Rattle.vlog_tree_runs.specs.declared.flat.Flat.{Flat}
use Rattle.vlog_tree_runs.specs.Places.{Name, read, holders}
use Rattle.vlog_tree_runs.specs.Blocks.{lefts, left_names}
use Rattle.vlog_tree_runs.specs.Contents.{is_among}
use Rattle.vlog_tree_runs.specs.Cycles.{flat_place}
use Rattle.elab_flat_laws.specs.Moved.{number_for}
use Rattle.elab_flat_faults.specs.Constants.{at_rest}
use Rattle.elab_flat_faults.specs.Declaring.{words_of}
use Rattle.elab_flat_faults.specs.Texts.{names_in}
use Rattle.elab_flat_faults.specs.Drivers.{parts_of}

-- ---- words

-- an unsigned number of so many bits
abbrev pub number : ℕ → ℕ → Expr
number width n = number_for (record { width = width; low = 0; signed = false; value = n })

-- an expression that names nothing
abbrev pub is_constant : Expr → Bool
is_constant a = nat_eq (length (names_in a)) 0

-- a constant index that names a word
abbrev pub is_fixed : ℕ → Expr → Bool
is_fixed depth a = is_constant a && nat_lt (own_value [] a) depth

-- the words that an index may name: a constant one names the word of its number, if there is one, and any other one names each word
abbrev pub named_words : ℕ → Expr → List ℕ
named_words depth a = if is_fixed depth a then own_value [] a ∷ [] else if is_constant a then [] else range_with_len 0 depth

-- the words that a read looks at: all where the index names none, so that a read of a memory is never a constant
abbrev pub read_words : ℕ → Expr → List ℕ
read_words depth a = if is_fixed depth a then own_value [] a ∷ [] else range_with_len 0 depth

-- the test that an index, taken by itself and as unsigned, names word j; there are at most 64 words
abbrev pub is_word : Expr → ℕ → Expr
is_word a j =
    e.Binary' b.Equal tt (more_of-Expr (e.Cast' c.Unsigned tt (more_of-Expr a end_of-Expr)) end_of-Expr) tt (more_of-Expr (number 8 j) end_of-Expr)

-- ---- reads

-- word j, as a part-select of all its bits: it is unsigned wherever it stands
abbrev pub word_read : Read → ℕ → ℕ → Expr
word_read x width j = e.Part' (word_name x j) w.Fixed tt (more_of-Expr (number 8 (width - 1)) end_of-Expr) tt (more_of-Expr (number 8 0) end_of-Expr)

-- of these words the one that the index names, and otherwise 0
abbrev pub chosen : Read → ℕ → Expr → List ℕ → Expr
chosen x width a [] = number width 0
chosen x width a (j ∷ js) =
    e.Choice' tt (more_of-Expr (is_word a j) end_of-Expr) tt (more_of-Expr (word_read x width j) end_of-Expr) tt (more_of-Expr (chosen x width a js) end_of-Expr)

-- `m[a]`, where `a'` is the index without memories: in braces, since a select has its own length
abbrev pub memory_read : List Entry → Read → Expr → Expr → Expr
memory_read v x a a' = e.Concat (chosen x (named v x).width a' (read_words (depth_of v x) a) ∷ [])

abbrev mutual
  pub spread : List Entry → Expr → Expr
  spread v (e.Number n) = e.Number n
  spread v (e.Name x) = e.Name x
  spread v (e.Select' x h (more_of-Expr a end_of-Expr)) =
      if nat_eq (depth_of v x) 0 then e.Select' x h (more_of-Expr (spread v a) end_of-Expr) else memory_read v x a (spread v a)
  spread v (e.Part' x span h (more_of-Expr a end_of-Expr) g (more_of-Expr d end_of-Expr)) =
      e.Part' x span h (more_of-Expr (spread v a) end_of-Expr) g (more_of-Expr (spread v d) end_of-Expr)
  spread v (e.ConstantSelect' k h (more_of-Expr a end_of-Expr)) = e.ConstantSelect' k h (more_of-Expr (spread v a) end_of-Expr)
  spread v (e.ConstantPart' k span h (more_of-Expr a end_of-Expr) g (more_of-Expr d end_of-Expr)) =
      e.ConstantPart' k span h (more_of-Expr (spread v a) end_of-Expr) g (more_of-Expr (spread v d) end_of-Expr)
  spread v (e.Cast' cast h (more_of-Expr a end_of-Expr)) = e.Cast' cast h (more_of-Expr (spread v a) end_of-Expr)
  spread v (e.Paren' h (more_of-Expr a end_of-Expr)) = e.Paren' h (more_of-Expr (spread v a) end_of-Expr)
  spread v (e.Concat' h row) = e.Concat' h (spread_row v row)
  spread v (e.Repeat' h (more_of-Expr a end_of-Expr) g row) = e.Repeat' h (more_of-Expr (spread v a) end_of-Expr) g (spread_row v row)
  spread v (e.Unary' op h (more_of-Expr a end_of-Expr)) = e.Unary' op h (more_of-Expr (spread v a) end_of-Expr)
  spread v (e.Binary' op h (more_of-Expr a end_of-Expr) g (more_of-Expr d end_of-Expr)) =
      e.Binary' op h (more_of-Expr (spread v a) end_of-Expr) g (more_of-Expr (spread v d) end_of-Expr)
  spread v (e.Choice' h (more_of-Expr q end_of-Expr) g (more_of-Expr a end_of-Expr) i (more_of-Expr d end_of-Expr)) =
      e.Choice' h (more_of-Expr (spread v q) end_of-Expr) g (more_of-Expr (spread v a) end_of-Expr) i (more_of-Expr (spread v d) end_of-Expr)

  pub spread_row : {m : _} → List Entry → Row_of-Expr m → Row_of-Expr m
  spread_row v end_of-Expr = end_of-Expr
  spread_row v (more_of-Expr a rest) = more_of-Expr (spread v a) (spread_row v rest)

-- ---- left sides without words of memories

abbrev mutual
  pub spread_left : List Entry → Lval → Lval
  spread_left v (l.Name x) = l.Name x
  spread_left v (l.Select x a) = l.Select x (spread v a)
  spread_left v (l.Part x span a d) = l.Part x span (spread v a) (spread v d)
  spread_left v (l.Concat' h row) = l.Concat' h (spread_lefts v row)

  pub spread_lefts : {m : _} → List Entry → Row_of-Lval m → Row_of-Lval m
  spread_lefts v end_of-Lval = end_of-Lval
  spread_lefts v (more_of-Lval a rest) = more_of-Lval (spread_left v a) (spread_lefts v rest)

-- ---- stores

-- `if (a == j) m$j <= right;`
abbrev pub word_store : Read → Expr → Expr → ℕ → Stmt
word_store x a right j = s.If' (is_word a j) tt (more_of-Stmt (s.Nonblocking (l.Name (word_name x j).text) right) end_of-Stmt)

-- `m[a] <= right`, where `a'` is the index without memories: past the last word nothing is stored
abbrev pub memory_store : List Entry → Read → Expr → Expr → Expr → Stmt
memory_store v x a a' right = s.Block None (map (word_store x a' right) (named_words (depth_of v x) a))

-- an assignment to a left side that is no concatenation
abbrev pub part_store : List Entry → Lval → Expr → Stmt
part_store v (l.Select x a) right =
    if nat_eq (depth_of v (read x)) 0 then s.Nonblocking (l.Select x (spread v a)) right else memory_store v (read x) a (spread v a) right
part_store v left right = s.Nonblocking (spread_left v left) right

-- how many bits a part of a left side has
abbrev pub part_length : List Entry → Lval → ℕ
part_length v (l.Name x) = (named v (read x)).width
part_length v (l.Select x a) = if nat_eq (depth_of v (read x)) 0 then 1 else (named v (read x)).width
part_length v (l.Part x span a d) = part_width span (own_integer (operand_of v a)) (own_integer (operand_of v d))
part_length v (l.Concat' h row) = 0

abbrev pub lefts_length : List Entry → List Lval → ℕ
lefts_length v [] = 0
lefts_length v (q ∷ qs) = part_length v q + lefts_length v qs

-- the bits of a right side from `from` on, where it is assigned to n bits: the choice gives it that length and leaves its sign
abbrev pub bits_from : Expr → ℕ → ℕ → Expr
bits_from right n from =
    e.Binary' b.Shr tt
    (more_of-Expr
    (e.Choice' tt (more_of-Expr (number 1 1) end_of-Expr) tt (more_of-Expr right end_of-Expr) tt
    (more_of-Expr (number_for (record { width = n; low = 0; signed = true; value = 0 })) end_of-Expr))
    end_of-Expr)
    tt (more_of-Expr (number 8 from) end_of-Expr)

-- parts from the left, each with its bits of what is assigned to n bits: the last one has the lowest bits
abbrev pub part_stores : List Entry → ℕ → Expr → List Lval → List Stmt
part_stores v n right [] = []
part_stores v n right (q ∷ qs) = part_store v q (bits_from right n (lefts_length v qs)) ∷ part_stores v n right qs

-- a word of a memory
abbrev pub is_memory_word : List Entry → Lval → Bool
is_memory_word v (l.Select x a) = not (nat_eq (depth_of v (read x)) 0)
is_memory_word v left = false

-- `left <= right`: a concatenation with a word of a memory is assigned part after part
abbrev pub spread_store : List Entry → Lval → Expr → Stmt
spread_store v (l.Concat' h row) right =
    if list_any (is_memory_word v) (parts_of (l.Concat' h row))
    then s.Block None (part_stores v (lefts_length v (parts_of (l.Concat' h row))) right (parts_of (l.Concat' h row)))
    else s.Nonblocking (spread_left v (l.Concat' h row)) right
spread_store v left right = part_store v left right

-- ---- statements

abbrev pub spread_labels : List Entry → Labels → Labels
spread_labels v (g.Exprs as') = g.Exprs (map (spread v) as')
spread_labels v g.Default = g.Default

abbrev mutual
  pub spread_stmt : List Entry → Stmt → Stmt
  spread_stmt v s.Empty = s.Empty
  spread_stmt v (s.Block' n h row) = s.Block' n h (spread_stmts v row)
  spread_stmt v (s.If' a h (more_of-Stmt x end_of-Stmt)) = s.If' (spread v a) h (more_of-Stmt (spread_stmt v x) end_of-Stmt)
  spread_stmt v (s.IfElse' a h (more_of-Stmt x end_of-Stmt) q (more_of-Stmt y end_of-Stmt)) =
      s.IfElse' (spread v a) h (more_of-Stmt (spread_stmt v x) end_of-Stmt) q (more_of-Stmt (spread_stmt v y) end_of-Stmt)
  spread_stmt v (s.Case' kind a h row) = s.Case' kind (spread v a) h (spread_items v row)
  spread_stmt v (s.Blocking left right) = s.Blocking (spread_left v left) (spread v right)
  spread_stmt v (s.Nonblocking left right) = spread_store v left (spread v right)

  pub spread_stmts : {m : _} → List Entry → Row_of-Stmt m → Row_of-Stmt m
  spread_stmts v end_of-Stmt = end_of-Stmt
  spread_stmts v (more_of-Stmt a rest) = more_of-Stmt (spread_stmt v a) (spread_stmts v rest)

  pub spread_items : {m : _} → List Entry → Row_of-CaseItem m → Row_of-CaseItem m
  spread_items v end_of-CaseItem = end_of-CaseItem
  spread_items v (more_of-CaseItem labels body rest) = more_of-CaseItem (spread_labels v labels) (spread_stmt v body) (spread_items v rest)

-- ---- the module

abbrev pub spread_assign : List Entry → Assign → Assign
spread_assign v a = record { left = spread_left v a.left; right = spread v a.right }

abbrev pub spread_block : List Entry → Always → Always
spread_block v k = record k { body = spread_stmt v k.body }

-- the names that blocks assign
abbrev pub assigned_in : List Always → List Name
assigned_in ks = flat_map (λ k. flat_map left_names (lefts k.body)) ks

-- the words that no block assigns
abbrev pub idle_words : Flat → List Name
idle_words f =
    filter (λ x. not (is_among (assigned_in (map (spread_block (at_rest (flat_place f))) f.blocks)) x)) (flat_map words_of f.signals)

-- `always @(posedge ..) x <= x;` makes x a register that keeps its value
abbrev pub keeper : Name → Always
keeper x = record { clocked = true; names = None; body = s.Nonblocking (l.Name x) (e.Name (read x)) }

-- the module with the words of its memories as registers, each of which some block assigns
abbrev pub spread_flat : Flat → Flat
spread_flat f =
    let v = at_rest (flat_place f) in
    record f {
      signals = flat_map holders f.signals;
      assigns = map (spread_assign v) f.assigns;
      blocks = map (spread_block v) f.blocks ++ map keeper (idle_words f);
    }
