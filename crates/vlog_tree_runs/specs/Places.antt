-- Where names stand, and what an assignment writes (IEEE 1364-2005, sections 5.2, 5.4 and 6.1, 9.2).
use Rattle.std.specs.Prelude.{ℕ, zero, suc, ◌≡◌, ◌+◌, ◌*◌, ◌/◌, ◌%◌, ◌^◌, ◌⊎◌, nat_eq, nat_lt, true, false, List, [], ◌∷◌, ◌++◌, map, if◌then◌else◌, ℤ, pos, negsuc, ◌+ℤ◌, ◌-ℤ◌}
use Rattle.std.specs.List.{flat_map}
use Rattle.std.specs.Str.{bytes_eq}
use Rattle.vlog_tree.specs.declared.expr.Expr.{Expr}
use Rattle.vlog_tree.specs.declared.expr.Name.{Name as Read}
use Rattle.vlog_tree.specs.declared.expr.Constant.{Constant}
use Rattle.vlog_tree.specs.declared.stmt.Lval.{Lval, Row_of-Lval, end_of-Lval, more_of-Lval}
use Rattle.vlog_tree.specs.declared.stmt.Lval.TheVariants as l
use Rattle.vlog_tree.specs.declared.valuation.Entry.{Entry}
use Rattle.vlog_tree.specs.Valuation.{named, depth_of, word_name}
use Rattle.vlog_tree.specs.Value.{Operand, operand_of, own, own_integer, part_width, part_low, assigned}
use Rattle.vlog_tree_runs.specs.declared.flat.Signal.{Signal}

-- a name, as the list of its bytes
abbrev pub Name : Type 0
Name = List ℕ

-- a number for each hierarchical name
abbrev pub Cycle : Type 0
Cycle = Name → ℕ

-- x is an element of a list
abbrev pub Among : {X : Type 0} → List X → X → Type 0
Among [] x = ⊥
Among (y ∷ ys) x = (y ≡ x) ⊎ Among ys x

-- a name as it is read within one cycle
abbrev pub read : Name → Read
read x = record { text = x; offset = 0 }

-- ---- what signals hold

-- the words of a memory from the one with the number j on, n of them
abbrev pub words_from : Signal → ℕ → ℕ → List Signal
words_from g j zero = []
words_from g j (suc n) =
    record { name = (word_name (read g.name) j).text; width = g.width; low = 0; signed = false; reg = true; depth = 0 } ∷ words_from g (suc j) n

-- the signals that hold the value of a declared name: itself, and for a memory its words
abbrev pub holders : Signal → List Signal
holders g = if nat_eq g.depth 0 then g ∷ [] else words_from g 0 g.depth

-- ---- places

-- where a text stands: what is put in front of its names, its signals, and what its parameters stand for
pub record Place : Type 0 where
  pub prefix : Name
  pub signals : List Signal
  pub params : List Entry

abbrev pub entry_of : Signal → ℕ → Entry
entry_of g n = record { name = g.name; offset = 0; width = g.width; low = g.low; signed = g.signed; depth = g.depth; value = n }

abbrev pub held_entry : Name → Cycle → Signal → Entry
held_entry pre c g = entry_of g (c (pre ++ g.name))

-- a memory stands for its length and its number of words, beside its words
abbrev pub entries_of : Name → Cycle → Signal → List Entry
entries_of pre c g = if nat_eq g.depth 0 then held_entry pre c g ∷ [] else entry_of g 0 ∷ map (held_entry pre c) (words_from g 0 g.depth)

-- what the names of a text stand for in a cycle
abbrev pub valuation : Place → Cycle → List Entry
valuation p c = p.params ++ flat_map (entries_of p.prefix c) p.signals

-- ---- left sides

-- the bits of a signal from `from` on, counted from its lowest one; `size` is the signal's length, beyond which it has no bit
pub record Piece : Type 0 where
  pub name : Name
  pub size : ℕ
  pub from : ℤ
  pub count : ℕ

abbrev pub whole_piece : Name → Constant → Piece
whole_piece x k = record { name = x; size = k.width; from = pos 0; count = k.width }

abbrev pub bit_piece : Name → Constant → Operand → Piece
bit_piece x k a = record { name = x; size = k.width; from = own_integer a -ℤ pos k.low; count = 1 }

-- the word of a memory that an index names, taken as an unsigned number; past the last word there is no bit
abbrev pub word_piece : Name → Name → List Entry → Operand → Piece
word_piece pre x v a =
    record {
      name = pre ++ (word_name (read x) (own a)).text;
      size = if nat_lt (own a) (depth_of v (read x)) then (named v (read x)).width else 0;
      from = pos 0;
      count = (named v (read x)).width;
    }

-- the parts of a left side from the left, its indices read in a cycle
abbrev mutual
  pub pieces : Place → Cycle → Lval → List Piece
  pieces p c (l.Name x) = whole_piece (p.prefix ++ x) (named (valuation p c) (read x)) ∷ []
  pieces p c (l.Select x a) =
      (if nat_eq (depth_of (valuation p c) (read x)) 0
      then bit_piece (p.prefix ++ x) (named (valuation p c) (read x)) (operand_of (valuation p c) a)
      else word_piece p.prefix x (valuation p c) (operand_of (valuation p c) a)) ∷ []
  pieces p c (l.Part x span a b) =
      record {
        name = p.prefix ++ x;
        size = (named (valuation p c) (read x)).width;
        from = part_low span (own_integer (operand_of (valuation p c) a)) (own_integer (operand_of (valuation p c) b)) -ℤ pos (named (valuation p c) (read x)).low;
        count = part_width span (own_integer (operand_of (valuation p c) a)) (own_integer (operand_of (valuation p c) b));
      } ∷ []
  pieces p c (l.Concat' h row) = row_pieces p c row

  pub row_pieces : {m : _} → Place → Cycle → Row_of-Lval m → List Piece
  row_pieces p c end_of-Lval = []
  row_pieces p c (more_of-Lval a rest) = pieces p c a ++ row_pieces p c rest

-- the length of a left side
abbrev pub total : List Piece → ℕ
total [] = 0
total (q ∷ qs) = q.count + total qs

-- ---- writing

-- x with the bit t in the place of its bit b
abbrev pub with_bit : ℕ → ℕ → ℕ → ℕ
with_bit b t x = x % 2 ^ b + t * 2 ^ b + x / 2 ^ (b + 1) * 2 ^ (b + 1)

-- a bit of a signal of so many bits; one that it doesn't have isn't written
abbrev pub write_bit : ℕ → ℤ → ℕ → ℕ → ℕ
write_bit size (pos b) t x = if nat_lt b size then with_bit b t x else x
write_bit size (negsuc b) t x = x

-- the n lowest bits of t, from the bit i of x upwards
abbrev pub write_bits : ℕ → ℤ → ℕ → ℕ → ℕ → ℕ
write_bits size i zero t x = x
write_bits size i (suc n) t x = write_bits size (i +ℤ pos 1) n (t / 2) (write_bit size i (t % 2) x)

abbrev pub put : Piece → ℕ → Cycle → Cycle
put q t c x = if bytes_eq q.name x then write_bits q.size q.from q.count t (c x) else c x

-- a number given to the parts of a left side: the last one has its lowest bits
abbrev pub give : List Piece → ℕ → Cycle → Cycle
give [] t c x = c x
give (q ∷ qs) t c x = give qs t (put q (t / 2 ^ total qs) c) x

-- `d` after an assignment in whose two sides the names are read in `c`: the right side is evaluated at the longer of both lengths and
-- cut to the left side's
abbrev pub store : Place → Cycle → Lval → Expr → Cycle → Cycle
store p c a e d x = give (pieces p c a) (assigned (valuation p c) e (total (pieces p c a))) d x
