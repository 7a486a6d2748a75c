-- An expression without memories is well formed where the expression is.
use Rattle.std.proofs.Common.{◌≡◌, ℕ, ◌+◌, ◌-◌, ◌%◌, ◌^◌, ◌<◌, ◌&&◌, Bool, true, false, nat_eq, List, [], ◌∷◌, ◌++◌, sym, ap, ◌∙◌, refl, inl, inr, map, subst, arith}
use Rattle.std.specs.Prelude.{if◌then◌else◌, pos, ◌<ℤ◌, IsSomeAnd}
use Rattle.std.proofs.lemmas.Bool.{eqb-true, eqb-false}
use Rattle.std.proofs.lemmas.Int.{ints}
use Rattle.vlog_tree.specs.declared.expr.Binary.{Binary}
use Rattle.vlog_tree.specs.declared.expr.Binary.TheVariants as b
use Rattle.vlog_tree.specs.declared.expr.Constant.{Constant}
use Rattle.vlog_tree.specs.declared.expr.Expr.{Expr, Row_of-Expr, end_of-Expr, more_of-Expr}
use Rattle.vlog_tree.specs.declared.expr.Expr.TheVariants as e
use Rattle.vlog_tree.specs.declared.expr.Expr.TheBlock.{hidden-the_row-Expr-1}
use Rattle.vlog_tree.specs.declared.expr.Name.{Name as Read}
use Rattle.vlog_tree.specs.declared.expr.Span.{Span}
use Rattle.vlog_tree.specs.declared.expr.Span.TheVariants as p
use Rattle.vlog_tree.specs.declared.item.Assign.{Assign}
use Rattle.vlog_tree.specs.declared.stmt.Lval.{Lval, Row_of-Lval, end_of-Lval, more_of-Lval}
use Rattle.vlog_tree.specs.declared.stmt.Lval.TheVariants as l
use Rattle.vlog_tree.specs.declared.valuation.Entry.{Entry}
use Rattle.vlog_tree.specs.Valuation.{IsLength, named, depth_of, word_name}
use Rattle.vlog_tree.specs.Value.{Operand, operand_of, own_defined, part_of, repeated, vector, Stands, IsPart, IsFormed, AllFormed, NamesOnly, IsPartConstant, IsDivisionConstant, HasConstantParts, AllHaveConstantParts}
use Rattle.vlog_tree_runs.specs.declared.flat.Flat.{Flat}
use Rattle.vlog_tree_runs.specs.Places.{Among}
use Rattle.vlog_tree_runs.specs.Cycles.{flat_place}
use Rattle.elab_flat_laws.proofs.Lists.{map_append, among_map}
use Rattle.elab_flat_faults.specs.Constants.{at_rest}
use Rattle.elab_flat_faults.specs.Texts.{numbers_in, row_numbers_in}
use Rattle.mem_laws.specs.Spread.{is_fixed, read_words, is_word, chosen, memory_read, spread, spread_row, spread_left, spread_lefts, spread_assign, spread_flat, bits_from}
use Rattle.mem_laws.specs.Laws.{Spreads, IsIndexed, HasFixedLefts}
use Rattle.mem_laws.specs.Uses.{whole_in, row_whole_in}
use Rattle.mem_laws.proofs.Constants.{nothing}
use Rattle.mem_laws.proofs.Reading.{spread_means, row_means, memory_means, same_name, word_named, first, second, full_width, read_below, and_true}
use Rattle.mem_laws.proofs.Lefts.{constant_same}
use denote.Hole.Carrier

-- ---- what must be constant

constant_after : (r : List Entry) (a : Expr) → NamesOnly nothing a → NamesOnly nothing (spread r a)
constant_after r a d = subst (λ z. NamesOnly nothing z) (sym (constant_same r a d)) d

part_after : (r : List Entry) (span : Span) (a d : Expr) → IsPartConstant nothing span a d → IsPartConstant nothing span (spread r a) (spread r d)
part_after r p.Fixed a d h = (constant_after r a h.0, constant_after r d h.1)
part_after r p.Up a d h = constant_after r d h
part_after r p.Down a d h = constant_after r d h

division_after : (r : List Entry) (op : Binary) (a d : Expr) → IsDivisionConstant nothing op a d → IsDivisionConstant nothing op (spread r a) (spread r d)
division_after r b.Div a d h = (constant_after r a h.0, constant_after r d h.1)
division_after r b.Rem a d h = (constant_after r a h.0, constant_after r d h.1)
division_after r b.Mul a d h = tt
division_after r b.Add a d h = tt
division_after r b.Sub a d h = tt
division_after r b.Shl a d h = tt
division_after r b.Shr a d h = tt
division_after r b.ArithmeticShl a d h = tt
division_after r b.ArithmeticShr a d h = tt
division_after r b.Less a d h = tt
division_after r b.LessEqual a d h = tt
division_after r b.Greater a d h = tt
division_after r b.GreaterEqual a d h = tt
division_after r b.Equal a d h = tt
division_after r b.NotEqual a d h = tt
division_after r b.BitAnd a d h = tt
division_after r b.BitXor a d h = tt
division_after r b.BitXnor a d h = tt
division_after r b.BitOr a d h = tt
division_after r b.LogicalAnd a d h = tt
division_after r b.LogicalOr a d h = tt

chosen_constant : (x : Read) (width : ℕ) (a : Expr) (js : List ℕ) → HasConstantParts nothing a → HasConstantParts nothing (chosen x width a js)
chosen_constant x width a [] h = tt
chosen_constant x width a (j ∷ js) h = ((h, tt, tt), (tt, tt, (tt, tt)), chosen_constant x width a js h)

memory_constant : (r : List Entry) (x : Read) (a d : Expr) → HasConstantParts nothing d → HasConstantParts nothing (memory_read r x a d)
unfolding hidden-the_row-Expr-1 denote.Hole.Carrier.hidden
memory_constant r x a d h = (chosen_constant x (named r x).width d (read_words (depth_of r x) a) h, tt)

select_constant : (r : List Entry) (x : Read) (a d : Expr) (t : Bool) → HasConstantParts nothing d →
    HasConstantParts nothing (if t then e.Select' x tt (more_of-Expr d end_of-Expr) else memory_read r x a d)
select_constant r x a d true h = h
select_constant r x a d false h = memory_constant r x a d h

mutual
  pub constants_kept : (r : List Entry) (a : Expr) → HasConstantParts nothing a → HasConstantParts nothing (spread r a)
  constants_kept r (e.Number n) h = tt
  constants_kept r (e.Name x) h = tt
  constants_kept r (e.Select' x q (more_of-Expr a end_of-Expr)) h = select_constant r x a (spread r a) (nat_eq (depth_of r x) 0) (constants_kept r a h)
  constants_kept r (e.Part' x span q (more_of-Expr a end_of-Expr) g (more_of-Expr d end_of-Expr)) h =
      (constants_kept r a h.0, constants_kept r d h.1, part_after r span a d h.2)
  constants_kept r (e.ConstantSelect' k q (more_of-Expr a end_of-Expr)) h = constants_kept r a h
  constants_kept r (e.ConstantPart' k span q (more_of-Expr a end_of-Expr) g (more_of-Expr d end_of-Expr)) h =
      (constants_kept r a h.0, constants_kept r d h.1, part_after r span a d h.2)
  constants_kept r (e.Cast' cast q (more_of-Expr a end_of-Expr)) h = constants_kept r a h
  constants_kept r (e.Paren' q (more_of-Expr a end_of-Expr)) h = constants_kept r a h
  constants_kept r (e.Concat' q row) h = row_kept r row h
  constants_kept r (e.Repeat' q (more_of-Expr a end_of-Expr) g row) h = (constants_kept r a h.0, constant_after r a h.1, row_kept r row h.2)
  constants_kept r (e.Unary' op q (more_of-Expr a end_of-Expr)) h = constants_kept r a h
  constants_kept r (e.Binary' op q (more_of-Expr a end_of-Expr) g (more_of-Expr d end_of-Expr)) h =
      (constants_kept r a h.0, constants_kept r d h.1, division_after r op a d h.2)
  constants_kept r (e.Choice' q (more_of-Expr c end_of-Expr) g (more_of-Expr a end_of-Expr) i (more_of-Expr d end_of-Expr)) h =
      (constants_kept r c h.0, constants_kept r a h.1, constants_kept r d h.2)

  row_kept : {n : _} (r : List Entry) (row : Row_of-Expr n) → AllHaveConstantParts nothing row → AllHaveConstantParts nothing (spread_row r row)
  row_kept r end_of-Expr h = tt
  row_kept r (more_of-Expr a rest) h = (constants_kept r a h.0, row_kept r rest h.1)

-- ---- well-formed expressions

stands_after : (r v w : List Entry) → Spreads r v w → (x : Read) → depth_of r x ≡ 0 → Stands v x → Stands w x
stands_after r v w s x z h = subst (λ o. IsSomeAnd o (λ k. IsLength k.width)) (sym (s.names x z)) h

part_formed : (span : Span) (a d a' d' : Operand) (n k : Constant) → n ≡ k → a' ≡ a → d' ≡ d →
    IsPart k span a d × IsLength (part_of k span a d).width → IsPart n span a' d' × IsLength (part_of n span a' d').width
part_formed span a d a' d' n k e i j h =
    subst (λ (z : Constant × Operand × Operand). IsPart z.0 span z.1 z.2 × IsLength (part_of z.0 span z.1 z.2).width) (λ q. (sym e q, sym i q, sym j q)) h

-- the whole of a word
word_formed : (r v w : List Entry) → Spreads r v w → (x : Read) (j : ℕ) → j < depth_of r x →
    IsPart (named w (word_name x j)) p.Fixed (vector 8 false (((named r x).width - 1) % 2 ^ 8)) (vector 8 false 0)
    × IsLength (part_of (named w (word_name x j)) p.Fixed (vector 8 false (((named r x).width - 1) % 2 ^ 8)) (vector 8 false 0)).width
word_formed r v w s x j l =
    let n = (named r x).width in
    let e = full_width n (s.wide x) in
    let below : pos ((n - 1) % 2 ^ 8) <ℤ pos (0 + n) = omega (arith, ints, e) in
    subst
    (λ k. IsPart k p.Fixed (vector 8 false ((n - 1) % 2 ^ 8)) (vector 8 false 0) × IsLength (part_of k p.Fixed (vector 8 false ((n - 1) % 2 ^ 8)) (vector 8 false 0)).width)
    (sym (word_named r v w s x j l))
    ((refl, omega (arith, ints), below), subst (λ m. IsLength m) (sym e) (s.wide x))

word_stands : (r v w : List Entry) → Spreads r v w → (x : Read) (j : ℕ) → j < depth_of r x → Stands w (word_name x j)
word_stands r v w s x j l = subst (λ o. IsSomeAnd o (λ k. IsLength k.width)) (sym (s.words x j l)) (s.wide x)

eight : IsLength 8
eight = (omega arith, omega arith)

chosen_formed : (r v w : List Entry) → Spreads r v w → (x : Read) (a : Expr) (js : List ℕ) → ((j : ℕ) → Among js j → j < depth_of r x) → IsFormed w a →
    IsFormed w (chosen x (named r x).width a js)
chosen_formed r v w s x a [] l h = s.wide x
chosen_formed r v w s x a (j ∷ js) l h =
    let k = l j (inl refl) in
    let q = word_formed r v w s x j k in
    ((h, eight), (word_stands r v w s x j k, eight, eight, q.0, q.1), chosen_formed r v w s x a js (λ i m. l i (inr m)) h)

memory_formed : (r v w : List Entry) → Spreads r v w → (x : Read) (a : Expr) → (depth_of r x ≡ 0 → ⊥) → operand_of w (spread r a) ≡ operand_of v a → IsFormed w (spread r a) →
    IsFormed w (memory_read r x a (spread r a))
unfolding hidden-the_row-Expr-1 denote.Hole.Carrier.hidden
memory_formed r v w s x a n e h =
    let js = read_words (depth_of r x) a in
    let width : (operand_of w (memory_read r x a (spread r a))).width ≡ (named r x).width = ap (λ (o : Operand). o.width) (memory_means r v w s x a n e) ∙ s.lengths x in
    ((chosen_formed r v w s x (spread r a) js (read_below (depth_of r x) a (is_fixed (depth_of r x) a) refl) h, tt), subst (λ m. IsLength m) (sym width) (s.wide x))

select_formed : (r v w : List Entry) → Spreads r v w → (x : Read) (a : Expr) → operand_of w (spread r a) ≡ operand_of v a → IsFormed w (spread r a) → Stands v x → (t : Bool) →
    nat_eq (depth_of r x) 0 ≡ t → IsFormed w (if t then e.Select' x tt (more_of-Expr (spread r a) end_of-Expr) else memory_read r x a (spread r a))
select_formed r v w s x a e h k true t = (stands_after r v w s x (eqb-true (depth_of r x) 0 t) k, h)
select_formed r v w s x a e h k false t = memory_formed r v w s x a (eqb-false (depth_of r x) 0 t) e h

mutual
  pub formed_after : (r v w : List Entry) (a : Expr) → Spreads r v w → IsIndexed r a → IsFormed v a → IsFormed w (spread r a)
  formed_after r v w (e.Number n) s d h = h
  formed_after r v w (e.Name x) s d h = stands_after r v w s x (d x (inl refl)) h
  formed_after r v w (e.Select' x q (more_of-Expr a end_of-Expr)) s d h =
      select_formed r v w s x a (spread_means r v w a s d) (formed_after r v w a s d h.1) h.0 (nat_eq (depth_of r x) 0) refl
  formed_after r v w (e.Part' x span q (more_of-Expr a end_of-Expr) g (more_of-Expr b end_of-Expr)) s d h =
      let z = d x (inl refl) in
      let j : IsIndexed r a = λ y m. first r (x.text ∷ whole_in a) (whole_in b) d y (inr m) in
      let k : IsIndexed r b = second r (x.text ∷ whole_in a) (whole_in b) d in
      let t = part_formed span (operand_of v a) (operand_of v b) (operand_of w (spread r a)) (operand_of w (spread r b)) (named w x) (named v x)
      (same_name r v w s x z) (spread_means r v w a s j) (spread_means r v w b s k) (h.3, h.4) in
      (stands_after r v w s x z h.0, formed_after r v w a s j h.1, formed_after r v w b s k h.2, t.0, t.1)
  formed_after r v w (e.ConstantSelect' k q (more_of-Expr a end_of-Expr)) s d h = (h.0, formed_after r v w a s d h.1)
  formed_after r v w (e.ConstantPart' n span q (more_of-Expr a end_of-Expr) g (more_of-Expr b end_of-Expr)) s d h =
      let j : IsIndexed r a = first r (whole_in a) (whole_in b) d in
      let k : IsIndexed r b = second r (whole_in a) (whole_in b) d in
      let t = part_formed span (operand_of v a) (operand_of v b) (operand_of w (spread r a)) (operand_of w (spread r b)) n n
      refl (spread_means r v w a s j) (spread_means r v w b s k) (h.3, h.4) in
      (h.0, formed_after r v w a s j h.1, formed_after r v w b s k h.2, t.0, t.1)
  formed_after r v w (e.Cast' cast q (more_of-Expr a end_of-Expr)) s d h = formed_after r v w a s d h
  formed_after r v w (e.Paren' q (more_of-Expr a end_of-Expr)) s d h = formed_after r v w a s d h
  formed_after r v w (e.Concat' q row) s d h =
      (row_formed r v w row s d h.0, subst (λ (o : Operand). IsLength o.width) (sym (row_means r v w row s d)) h.1)
  formed_after r v w (e.Repeat' q (more_of-Expr a end_of-Expr) g row) s d h =
      let j : IsIndexed r a = first r (whole_in a) (row_whole_in row) d in
      let k = second r (whole_in a) (row_whole_in row) d in
      let i = spread_means r v w a s j in (
        formed_after r v w a s j h.0,
        subst (λ (o : Operand). own_defined o ≡ true) (sym i) h.1,
        row_formed r v w row s k h.2,
        subst (λ (z : Operand × Operand). IsLength (repeated z.0 z.1).width) (λ y. (sym i y, sym (row_means r v w row s k) y)) h.3,
      )
  formed_after r v w (e.Unary' op q (more_of-Expr a end_of-Expr)) s d h = formed_after r v w a s d h
  formed_after r v w (e.Binary' op q (more_of-Expr a end_of-Expr) g (more_of-Expr b end_of-Expr)) s d h =
      (formed_after r v w a s (first r (whole_in a) (whole_in b) d) h.0, formed_after r v w b s (second r (whole_in a) (whole_in b) d) h.1)
  formed_after r v w (e.Choice' q (more_of-Expr c end_of-Expr) g (more_of-Expr a end_of-Expr) i (more_of-Expr b end_of-Expr)) s d h =
      let j = first r (whole_in c ++ whole_in a) (whole_in b) d in (
        formed_after r v w c s (first r (whole_in c) (whole_in a) j) h.0,
        formed_after r v w a s (second r (whole_in c) (whole_in a) j) h.1,
        formed_after r v w b s (second r (whole_in c ++ whole_in a) (whole_in b) d) h.2,
      )

  row_formed : {n : _} (r v w : List Entry) (row : Row_of-Expr n) → Spreads r v w → ((x : Read) → Among (row_whole_in row) x.text → depth_of r x ≡ 0) → AllFormed v row →
      AllFormed w (spread_row r row)
  row_formed r v w end_of-Expr s d h = tt
  row_formed r v w (more_of-Expr a rest) s d h =
      (formed_after r v w a s (first r (whole_in a) (row_whole_in rest) d) h.0, row_formed r v w rest s (second r (whole_in a) (row_whole_in rest) d) h.1)

-- ---- what the code of a store is made of

-- the test of a word is one bit, well formed and defined where the index is
pub test_formed : (w : List Entry) (a : Expr) (j : ℕ) → IsFormed w a → IsFormed w (is_word a j)
test_formed w a j h = (h, eight)

pub test_constant : (a : Expr) (j : ℕ) → HasConstantParts nothing a → HasConstantParts nothing (is_word a j)
test_constant a j h = (h, tt, tt)

pub test_defined : (w : List Entry) (a : Expr) (j : ℕ) → own_defined (operand_of w (is_word a j)) ≡ own_defined (operand_of w a)
test_defined w a j = and_true (own_defined (operand_of w a))

-- the bits of a right side have the longer one of both lengths, and its sign
pub bits_formed : (w : List Entry) (right : Expr) (n s : ℕ) → IsFormed w right → IsLength n → IsFormed w (bits_from right n s)
bits_formed w right n s h l = (((omega arith, omega arith), h, l), eight)

pub bits_constant : (right : Expr) (n s : ℕ) → HasConstantParts nothing right → HasConstantParts nothing (bits_from right n s)
bits_constant right n s h = ((tt, h, tt), tt, tt)

pub bits_sign : (w : List Entry) (right : Expr) (n s : ℕ) → (operand_of w (bits_from right n s)).signed ≡ (operand_of w right).signed
bits_sign w right n s = and_true (operand_of w right).signed

pub bits_defined : (w : List Entry) (right : Expr) (n s L : ℕ) (signed : Bool) →
    (operand_of w (bits_from right n s)).defined L signed ≡ (operand_of w right).defined L signed
bits_defined w right n s L signed =
    and_true ((operand_of w right).defined L signed && true) ∙ and_true ((operand_of w right).defined L signed)

-- ---- the numbers of left sides

mutual
  numbers_spread : (r : List Entry) (left : Lval) → numbers_in (spread_left r left) ≡ map (spread r) (numbers_in left)
  numbers_spread r (l.Name x) = refl
  numbers_spread r (l.Select x a) = refl
  numbers_spread r (l.Part x span a d) = refl
  numbers_spread r (l.Concat' h row) = row_numbers_spread r row

  row_numbers_spread : {n : _} (r : List Entry) (row : Row_of-Lval n) → row_numbers_in (spread_lefts r row) ≡ map (spread r) (row_numbers_in row)
  row_numbers_spread r end_of-Lval = refl
  row_numbers_spread r (more_of-Lval a rest) =
      (λ q. numbers_spread r a q ++ row_numbers_spread r rest q) ∙ sym (map_append (spread r) (numbers_in a) (row_numbers_in rest))

pub fixed_after : (f : Flat) → HasFixedLefts f → HasFixedLefts (spread_flat f)
fixed_after f fixed a n h k =
    let r = at_rest (flat_place f) in
    let s = among_map (spread_assign r) f.assigns a h in
    let m : Among (map (spread r) (numbers_in s.0.left)) n =
    subst (λ xs. Among xs n) (numbers_spread r s.0.left) (subst (λ (z : Assign). Among (numbers_in z.left) n) (sym s.2) k) in
    let x = among_map (spread r) (numbers_in s.0.left) n m in
    subst (λ z. NamesOnly nothing z) x.2 (constant_after r x.0 (fixed s.0 x.0 s.1 x.1))
