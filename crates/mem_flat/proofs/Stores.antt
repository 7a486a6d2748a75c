-- Each form of an assignment by `<=`, as the code makes it.
use Rattle.std.proofs.Common.{◌≡◌, ℕ, Bool, true, false, nat_eq, not, List, [], ◌∷◌, None, map, refl, sym, ap, ◌∙◌, subst, if◌then◌else◌}
use Rattle.vlog_tree.specs.declared.expr.Expr.{Expr}
use Rattle.vlog_tree.specs.declared.expr.Name.{Name as Read}
use Rattle.vlog_tree.specs.declared.expr.Span.{Span}
use Rattle.vlog_tree.specs.declared.stmt.Lval.{Lval}
use Rattle.vlog_tree.specs.declared.stmt.Lval.TheVariants as l
use Rattle.vlog_tree.specs.declared.stmt.Stmt.{Stmt}
use Rattle.vlog_tree.specs.declared.stmt.Stmt.TheVariants as s
use Rattle.vlog_tree.specs.declared.stmt.Stmt.TheBlock.{shape-the_row-Stmt-1, hidden-the_row-Stmt-1}
use Rattle.vlog_tree.specs.declared.valuation.Entry.{Entry}
use Rattle.vlog_tree.specs.Valuation.{depth_of, word_name}
use Rattle.vlog_tree_runs.specs.Places.{Name, read}
use Rattle.mem_laws.specs.Spread.{spread, spread_left, is_word, named_words, word_store, memory_store, part_store, is_memory_word, spread_store}
use Rattle.mem_flat.specs.Cases.{concat_store}
use denote.Hole.Carrier

pub word_store_made : (x : Read) (a right test : Expr) (j : ℕ) (store : Stmt) → test ≡ is_word a j → store ≡ s.Nonblocking (l.Name (word_name x j).text) right → s.If test store ≡ word_store x a right j
unfolding shape-the_row-Stmt-1 hidden-the_row-Stmt-1 denote.Hole.Carrier.hidden
word_store_made x a right test j store h k = λ q. s.If (h q) (k q)

pub memory_store_made : (v : List Entry) (x : Read) (a a' right : Expr) (depth : ℕ) (words : List ℕ) (stores : List Stmt) → depth ≡ depth_of v x → words ≡ named_words depth a →
    stores ≡ map (word_store x a' right) words → s.Block None stores ≡ memory_store v x a a' right
memory_store_made v x a a' right depth words stores h k m = ap (s.Block None) (m ∙ ap (map (word_store x a' right)) (k ∙ ap (λ d. named_words d a) h))

turn_true : (t : Bool) → not t ≡ true → t ≡ false
turn_true true h = sym h
turn_true false h = refl

turn_false : (t : Bool) → not t ≡ false → t ≡ true
turn_false true h = refl
turn_false false h = sym h

-- the same right side, or the same index
pub store_same : (v : List Entry) (q : Lval) (a b : Expr) (r : Stmt) → a ≡ b → r ≡ part_store v q a → r ≡ part_store v q b
store_same v q a b r e h = subst (λ (z : Expr). r ≡ part_store v q z) e h

pub index_same : (v : List Entry) (x : Read) (a b c right : Expr) (r : Stmt) → b ≡ c → r ≡ memory_store v x a b right → r ≡ memory_store v x a c right
index_same v x a b c right r e h = subst (λ (z : Expr). r ≡ memory_store v x a z right) e h

module _ (v : List Entry) where
  pub word_depth : (left : Lval) (x : Name) (a : Expr) → left ≡ l.Select x a → is_memory_word v left ≡ true → nat_eq (depth_of v (read x)) 0 ≡ false
  word_depth left x a is h = turn_true (nat_eq (depth_of v (read x)) 0) (sym (ap (is_memory_word v) is) ∙ h)

  pub word_part : (left : Lval) (x : Name) (a right : Expr) (r : Stmt) → left ≡ l.Select x a → is_memory_word v left ≡ true → r ≡ memory_store v (read x) a (spread v a) right → r ≡ part_store v left right
  word_part left x a right r is h m =
      m ∙ (sym (ap (λ (t : Bool). if t then s.Nonblocking (l.Select x (spread v a)) right else memory_store v (read x) a (spread v a) right) (word_depth left x a is h))
      ∙ sym (ap (λ z. part_store v z right) is))

  pub plain_part : (left : Lval) (right : Expr) → is_memory_word v left ≡ false → s.Nonblocking (spread_left v left) right ≡ part_store v left right
  plain_part (l.Name x) right h = refl
  plain_part (l.Select x a) right h =
      sym (ap (λ (t : Bool). if t then s.Nonblocking (l.Select x (spread v a)) right else memory_store v (read x) a (spread v a) right) (turn_false (nat_eq (depth_of v (read x)) 0) h))
  plain_part (l.Part x span a b) right h = refl
  plain_part (l.Concat' g row) right h = refl

  pub plain_same : (left : Lval) (right : Expr) (r : Stmt) → is_memory_word v left ≡ false → r ≡ s.Nonblocking (spread_left v left) right → r ≡ part_store v left right
  plain_same left right r h m = m ∙ plain_part left right h

  pub store_concat : (left : Lval) (xs : List Lval) (right : Expr) (r : Stmt) → left ≡ l.Concat xs → r ≡ concat_store v left right → r ≡ spread_store v left right
  store_concat left xs right r is m = m ∙ (ap (λ z. concat_store v z right) is ∙ sym (ap (λ z. spread_store v z right) is))

  pub store_name : (left : Lval) (x : Name) (right : Expr) (r : Stmt) → left ≡ l.Name x → r ≡ part_store v left right → r ≡ spread_store v left right
  store_name left x right r is m = m ∙ (ap (λ z. part_store v z right) is ∙ sym (ap (λ z. spread_store v z right) is))

  pub store_select : (left : Lval) (x : Name) (a right : Expr) (r : Stmt) → left ≡ l.Select x a → r ≡ part_store v left right → r ≡ spread_store v left right
  store_select left x a right r is m = m ∙ (ap (λ z. part_store v z right) is ∙ sym (ap (λ z. spread_store v z right) is))

  pub store_part : (left : Lval) (x : Name) (span : Span) (a b right : Expr) (r : Stmt) → left ≡ l.Part x span a b → r ≡ part_store v left right → r ≡ spread_store v left right
  store_part left x span a b right r is m = m ∙ (ap (λ z. part_store v z right) is ∙ sym (ap (λ z. spread_store v z right) is))

  -- a word of a memory is a select
  pub not_name : (left : Lval) (x : Name) → left ≡ l.Name x → is_memory_word v left ≡ true → false ≡ true
  not_name left x is h = sym (ap (is_memory_word v) is) ∙ h

  pub not_part : (left : Lval) (x : Name) (span : Span) (a b : Expr) → left ≡ l.Part x span a b → is_memory_word v left ≡ true → false ≡ true
  not_part left x span a b is h = sym (ap (is_memory_word v) is) ∙ h

  pub not_concat : (left : Lval) (xs : List Lval) → left ≡ l.Concat xs → is_memory_word v left ≡ true → false ≡ true
  not_concat left xs is h = sym (ap (is_memory_word v) is) ∙ h
