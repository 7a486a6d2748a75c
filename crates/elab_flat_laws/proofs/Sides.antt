-- A moved left side writes what the left side writes.
use Rattle.std.proofs.Common.{◌≡◌, ℕ, ◌%◌, ◌^◌, ◌||◌, max, Bool, true, false, nat_eq, nat_lt, [], ◌∷◌, ◌++◌, Option, Some, None, ap, ◌∙◌, refl}
use Rattle.std.specs.Prelude.{if◌then◌else◌, is_some, pos, ◌-ℤ◌, codes, decimal}
use Rattle.std.specs.Option.{option_map}
use Rattle.std.proofs.lemmas.List.{append_assoc}
use Rattle.vlog_tree.specs.declared.expr.Expr.{Expr}
use Rattle.vlog_tree.specs.declared.stmt.Lval.{Lval, Row_of-Lval, end_of-Lval, more_of-Lval}
use Rattle.vlog_tree.specs.declared.stmt.Lval.TheVariants as l
use Rattle.vlog_tree.specs.Valuation.{word_name}
use Rattle.vlog_tree.specs.Value.{Operand, operand_of, own, own_integer, part_width, part_low}
use Rattle.vlog_tree_runs.specs.Places.{Name, Cycle, Place, read, valuation, pieces, row_pieces, total, give, store, whole_piece, bit_piece, word_piece}
use Rattle.vlog_tree_runs.specs.Blocks.{is_parameter}
use Rattle.elab_flat_laws.specs.Moved.{moved, moved_left, moved_lefts}
use Rattle.elab_flat_laws.specs.Uses.{is_declared, has_signal, IsSignal, UsesDeclared, AssignsSignals, AllAssignSignals}
use Rattle.elab_flat_laws.specs.Laws.{SameRead, MovesInto}
use Rattle.elab_flat_laws.proofs.Moving.{moved_means}

none_of : {A B : Type 0} (f : A → B) (o : Option A) → is_some o ≡ false → option_map f o ≡ None
none_of f None h = refl
none_of f (Some a) h = cc

or_right : (a b : Bool) → b ≡ true → a || b ≡ true
or_right true b h = refl
or_right false b h = h

pub signal_read : (p q : Place) (c : Cycle) (x : Name) → MovesInto p q → IsSignal p x → SameRead (valuation p c) (valuation q c) p.prefix (read x)
signal_read p q c x m h = (m.names c).names (read x) (or_right (is_parameter p x) (has_signal p.signals x) h.1) (none_of _ _ h.0)

pub expr_moved : (p q : Place) (c : Cycle) (a : Expr) → MovesInto p q → UsesDeclared p a → operand_of (valuation q c) (moved p.prefix p.params a) ≡ operand_of (valuation p c) a
expr_moved p q c a m d = moved_means (is_declared p) p.params (valuation p c) (valuation q c) p.prefix a (m.names c) d.0

-- the name of a word under a prefix
pub word_under : (pre x : Name) (j : ℕ) → (word_name (read (pre ++ x)) j).text ≡ pre ++ (word_name (read x) j).text
word_under pre x j = ap (λ z. z ++ decimal j) (append_assoc pre x (codes "$")) ∙ append_assoc pre (x ++ codes "$") (decimal j)

word_moved : (p q : Place) (c : Cycle) (x : Name) (a b : Operand) → MovesInto p q → IsSignal p x → b ≡ a →
    word_piece q.prefix (p.prefix ++ x) (valuation q c) b ≡ word_piece p.prefix x (valuation p c) a
word_moved p q c x a b m h i =
    let s = signal_read p q c x m h in
    let name : q.prefix ++ (word_name (read (p.prefix ++ x)) (own b)).text ≡ p.prefix ++ (word_name (read x) (own a)).text =
    ap (λ z. z ++ (word_name (read (p.prefix ++ x)) (own b)).text) m.outer
    ∙ (word_under p.prefix x (own b) ∙ ap (λ z. p.prefix ++ (word_name (read x) (own z)).text) i) in
    λ r. record { name = name r; size = if nat_lt (own (i r)) (s.depth r) then (s.meaning r).width else 0; from = pos 0; count = (s.meaning r).width }

mutual
  pub pieces_moved : (p q : Place) (c : Cycle) (left : Lval) → MovesInto p q → AssignsSignals p left →
      pieces q c (moved_left p.prefix p.params left) ≡ pieces p c left
  pieces_moved p q c (l.Name x) m d =
      let s = signal_read p q c x m d in
      λ r. whole_piece (m.outer r ++ (p.prefix ++ x)) (s.meaning r) ∷ []
  pieces_moved p q c (l.Select x a) m d =
      let s = signal_read p q c x m d.0 in
      let i = expr_moved p q c a m d.1 in
      let word = word_moved p q c x (operand_of (valuation p c) a) (operand_of (valuation q c) (moved p.prefix p.params a)) m d.0 i in
      λ r. (if nat_eq (s.depth r) 0 then bit_piece (m.outer r ++ (p.prefix ++ x)) (s.meaning r) (i r) else word r) ∷ []
  pieces_moved p q c (l.Part x span a b) m d =
      let s = signal_read p q c x m d.0 in
      let i = expr_moved p q c a m d.1 in
      let j = expr_moved p q c b m d.2 in
      λ r. record {
        name = m.outer r ++ (p.prefix ++ x);
        size = (s.meaning r).width;
        from = part_low span (own_integer (i r)) (own_integer (j r)) -ℤ pos (s.meaning r).low;
        count = part_width span (own_integer (i r)) (own_integer (j r));
      } ∷ []
  pieces_moved p q c (l.Concat' h row) m d = row_moved p q c row m d

  row_moved : {n : _} (p q : Place) (c : Cycle) (row : Row_of-Lval n) → MovesInto p q → AllAssignSignals p row →
      row_pieces q c (moved_lefts p.prefix p.params row) ≡ row_pieces p c row
  row_moved p q c end_of-Lval m d = refl
  row_moved p q c (more_of-Lval a rest) m d = λ r. pieces_moved p q c a m d.0 r ++ row_moved p q c rest m d.1 r

pub store_moved : (p q : Place) (c : Cycle) (left : Lval) (right : Expr) (d : Cycle) → MovesInto p q → AssignsSignals p left → UsesDeclared p right →
    store q c (moved_left p.prefix p.params left) (moved p.prefix p.params right) d ≡ store p c left right d
store_moved p q c left right d m h k =
    let s = pieces_moved p q c left m h in
    let a = expr_moved p q c right m k in
    λ r. λ (x : Name). give (s r) ((a r).value (max (a r).width (total (s r))) (a r).signed % 2 ^ total (s r)) d x
