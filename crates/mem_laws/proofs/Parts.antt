-- A concatenation with words of memories is assigned part after part.
use Rattle.std.proofs.Common.{◌≡◌, ℕ, ◌+◌, ◌/◌, ◌%◌, ◌^◌, ◌<◌, ◌≤◌, max, min, ◌&&◌, Bool, true, false, nat_eq, List, [], ◌∷◌, ◌++◌, sym, ap, ◌∙◌, refl, arith}
use Rattle.std.specs.Prelude.{if◌then◌else◌}
use Rattle.std.specs.List.{flat_map}
use Rattle.std.proofs.Math.Nat.{mod-eq_of_lt, mod-mod}
use Rattle.std.proofs.lemmas.Bool.{eqb-true}
use Rattle.vlog_tree.specs.declared.expr.Expr.{Expr}
use Rattle.vlog_tree.specs.declared.expr.Span.{Span}
use Rattle.vlog_tree.specs.declared.expr.Span.TheVariants as w
use Rattle.vlog_tree.specs.declared.stmt.Lval.{Lval, Row_of-Lval, end_of-Lval, more_of-Lval}
use Rattle.vlog_tree.specs.declared.stmt.Lval.TheVariants as l
use Rattle.vlog_tree.specs.declared.stmt.Stmt.TheVariants as s
use Rattle.vlog_tree.specs.declared.valuation.Entry.{Entry}
use Rattle.vlog_tree.specs.Valuation.{named, depth_of}
use Rattle.vlog_tree.specs.Value.{operand_of, own_integer, part_width, assigned}
use Rattle.vlog_tree_runs.specs.declared.flat.Signal.{Signal}
use Rattle.vlog_tree_runs.specs.Places.{Name, Cycle, Place, read, valuation, Piece, pieces, row_pieces, total, give, bit_piece, word_piece}
use Rattle.vlog_tree_runs.specs.Blocks.{run}
use Rattle.elab_flat_laws.proofs.Lists.{flat_append}
use Rattle.elab_flat_faults.specs.Constants.{HasConstantSpans, AllHaveConstantSpans, IsSpanConstant}
use Rattle.elab_flat_faults.specs.Drivers.{parts_of, row_parts_of}
use Rattle.mem_laws.specs.Spread.{spread, spread_left, memory_store, part_store, part_length, lefts_length, bits_from, part_stores}
use Rattle.mem_laws.specs.Laws.{IsIndexed, over, SpreadsInto, IsIndexedLeft, AreIndexedLefts, IsPlainLeft}
use Rattle.mem_laws.proofs.Constants.{constant_means}
use Rattle.mem_laws.proofs.Sides.{pieces_spread, memory_stored, given, run_list}
use Rattle.mem_laws.proofs.Writing.{cut_field, put_lowest, give_one, total_append}

-- ---- the parts of a left side

mutual
  pub pieces_parts : (p : Place) (c : Cycle) (left : Lval) → pieces p c left ≡ flat_map (pieces p c) (parts_of left)
  pieces_parts p c (l.Name x) = refl
  pieces_parts p c (l.Select x a) = refl
  pieces_parts p c (l.Part x span a b) = refl
  pieces_parts p c (l.Concat' h row) = row_parts p c row

  row_parts : {n : _} (p : Place) (c : Cycle) (row : Row_of-Lval n) → row_pieces p c row ≡ flat_map (pieces p c) (row_parts_of row)
  row_parts p c end_of-Lval = refl
  row_parts p c (more_of-Lval a rest) =
      (λ q. pieces_parts p c a q ++ row_parts p c rest q) ∙ sym (flat_append (pieces p c) (parts_of a) (row_parts_of rest))

-- no concatenation
abbrev pub IsPart : Lval → Type 0
IsPart (l.Concat' h row) = ⊥
IsPart left = Unit {0}

-- parts whose memories have indices, and whose lengths are constant
abbrev pub AreParts : List Entry → List Lval → Type 0
AreParts r [] = Unit {0}
AreParts r (q ∷ qs) = IsPart q × IsIndexedLeft r q × HasConstantSpans (λ x. false) q × AreParts r qs

parts_append : (r : List Entry) (ps qs : List Lval) → AreParts r ps → AreParts r qs → AreParts r (ps ++ qs)
parts_append r [] qs h k = k
parts_append r (p ∷ ps) qs h k = (h.0, h.1, h.2, parts_append r ps qs h.3 k)

mutual
  pub are_parts : (r : List Entry) (left : Lval) → IsIndexedLeft r left → HasConstantSpans (λ x. false) left → AreParts r (parts_of left)
  are_parts r (l.Name x) h k = (tt, h, k, tt)
  are_parts r (l.Select x a) h k = (tt, h, k, tt)
  are_parts r (l.Part x span a b) h k = (tt, h, k, tt)
  are_parts r (l.Concat' q row) h k = row_are_parts r row h k

  row_are_parts : {n : _} (r : List Entry) (row : Row_of-Lval n) → AreIndexedLefts r row → AllHaveConstantSpans (λ x. false) row → AreParts r (row_parts_of row)
  row_are_parts r end_of-Lval h k = tt
  row_are_parts r (more_of-Lval a rest) h k = parts_append r (parts_of a) (row_parts_of rest) (are_parts r a h.0 k.0) (row_are_parts r rest h.1 k.1)

pub one_piece : (p : Place) (c : Cycle) (q : Lval) → IsPart q → (u : Piece) × (pieces p c q ≡ u ∷ [])
one_piece p c (l.Name x) h = (_, refl)
one_piece p c (l.Select x a) h = (_, refl)
one_piece p c (l.Part x span a b) h = (_, refl)
one_piece p c (l.Concat' q row) h = absurd h

-- ---- lengths

span_length : (r v : List Entry) (span : Span) (a b : Expr) → IsSpanConstant (λ x. false) span a b →
    part_width span (own_integer (operand_of v a)) (own_integer (operand_of v b)) ≡ part_width span (own_integer (operand_of r a)) (own_integer (operand_of r b))
span_length r v w.Fixed a b h =
    let i = constant_means v a h.0 ∙ sym (constant_means r a h.0) in
    let j = constant_means v b h.1 ∙ sym (constant_means r b h.1) in
    λ q. part_width w.Fixed (own_integer (i q)) (own_integer (j q))
span_length r v w.Up a b h = let j = constant_means v b h ∙ sym (constant_means r b h) in λ q. part_width w.Up (own_integer (operand_of v a)) (own_integer (j q))
span_length r v w.Down a b h = let j = constant_means v b h ∙ sym (constant_means r b h) in λ q. part_width w.Down (own_integer (operand_of v a)) (own_integer (j q))

select_length : (t : Bool) (p u : Piece) (n : ℕ) → p.count ≡ 1 → u.count ≡ n → (if t then p else u).count ≡ (if t then 1 else n)
select_length true p u n h k = h
select_length false p u n h k = k

none_more : (n : ℕ) → n + 0 ≡ n
none_more n = omega arith

part_total : (r : List Entry) (gs hs : List Signal) (c : Cycle) (q : Lval) → SpreadsInto r gs hs → IsPart q → HasConstantSpans (λ x. false) q →
    total (pieces (over gs) c q) ≡ part_length r q
part_total r gs hs c (l.Name x) m h k = none_more _ ∙ (m c).lengths (read x)
part_total r gs hs c (l.Select x a) m h k =
    let v = valuation (over gs) c in
    none_more _
    ∙ (select_length (nat_eq (depth_of v (read x)) 0) (bit_piece x (named v (read x)) (operand_of v a)) (word_piece [] x v (operand_of v a)) (named v (read x)).width refl refl
    ∙ (λ q. if nat_eq ((m c).depths (read x) q) 0 then 1 else (m c).lengths (read x) q))
part_total r gs hs c (l.Part x span a b) m h k = none_more _ ∙ span_length r (valuation (over gs) c) span a b k
part_total r gs hs c (l.Concat' q row) m h k = absurd h

pub parts_total : (r : List Entry) (gs hs : List Signal) (c : Cycle) (qs : List Lval) → SpreadsInto r gs hs → AreParts r qs →
    total (flat_map (pieces (over gs) c) qs) ≡ lefts_length r qs
parts_total r gs hs c [] m h = refl
parts_total r gs hs c (q ∷ qs) m h =
    total_append (pieces (over gs) c q) (flat_map (pieces (over gs) c) qs) ∙ (λ i. part_total r gs hs c q m h.0 h.2 i + parts_total r gs hs c qs m h.3 i)

-- ---- a part

pub plain_stored : (r : List Entry) (gs hs : List Signal) (c : Cycle) (q : Lval) (right : Expr) (d : Cycle) → SpreadsInto r gs hs → IsPlainLeft r q →
    run false (over hs) (s.Nonblocking (spread_left r q) right) c d ≡ given (valuation (over hs) c) right (pieces (over gs) c q) d
plain_stored r gs hs c q right d m h = ap (λ ps. given (valuation (over hs) c) right ps d) (pieces_spread r gs hs c q m h)

select_stored : (r : List Entry) (gs hs : List Signal) (c : Cycle) (x : Name) (a right : Expr) (d : Cycle) → SpreadsInto r gs hs → IsIndexed r a →
    (t : Bool) → nat_eq (depth_of r (read x)) 0 ≡ t →
    run false (over hs) (if t then s.Nonblocking (l.Select x (spread r a)) right else memory_store r (read x) a (spread r a) right) c d
    ≡ given (valuation (over hs) c) right (pieces (over gs) c (l.Select x a)) d
select_stored r gs hs c x a right d m h true t = plain_stored r gs hs c (l.Select x a) right d m (eqb-true (depth_of r (read x)) 0 t, h)
select_stored r gs hs c x a right d m h false t =
    let v = valuation (over gs) c in
    let e : nat_eq (depth_of v (read x)) 0 ≡ false = ap (λ n. nat_eq n 0) ((m c).depths (read x)) ∙ t in
    memory_stored r gs hs c x a right d m h
    ∙ ap (λ (b : Bool). given (valuation (over hs) c) right ((if b then bit_piece x (named v (read x)) (operand_of v a) else word_piece [] x v (operand_of v a)) ∷ []) d) (sym e)

pub part_stored : (r : List Entry) (gs hs : List Signal) (c : Cycle) (q : Lval) (right : Expr) (d : Cycle) → SpreadsInto r gs hs → IsPart q → IsIndexedLeft r q →
    run false (over hs) (part_store r q right) c d ≡ given (valuation (over hs) c) right (pieces (over gs) c q) d
part_stored r gs hs c (l.Name x) right d m p h = plain_stored r gs hs c (l.Name x) right d m h
part_stored r gs hs c (l.Select x a) right d m p h = select_stored r gs hs c x a right d m h (nat_eq (depth_of r (read x)) 0) refl
part_stored r gs hs c (l.Part x span a b) right d m p h = plain_stored r gs hs c (l.Part x span a b) right d m h
part_stored r gs hs c (l.Concat' q row) right d m p h = absurd p

-- ---- the bits of a part

-- the right side at the length of the assignment
abbrev full : List Entry → Expr → ℕ → ℕ
full w right n = (operand_of w right).value (max (operand_of w right).width n) (operand_of w right).signed

and_true : (b : Bool) → b && true ≡ b
and_true true = refl
and_true false = refl

bits_given : (w : List Entry) (right : Expr) (n s k : ℕ) → k + s ≤ n → n ≤ 64 → assigned w (bits_from right n s) k ≡ full w right n / 2 ^ s % 2 ^ k
bits_given w right n s k l h =
    let a = operand_of w right in
    let e : max (max a.width n) k ≡ max a.width n = omega arith in
    let small : s < 256 = omega arith in
    let f : s % 256 ≡ s = mod-eq_of_lt small in
    let g : min s (max a.width n) ≡ s = omega arith in
    (λ i. a.value (e i) (and_true a.signed i) / 2 ^ (min (f i) (e i)) % 2 ^ k) ∙ ap (λ z. full w right n / 2 ^ z % 2 ^ k) g

same_bits : (w : List Entry) (right : Expr) (n s k j : ℕ) → j ≡ k → k + s ≤ n → n ≤ 64 →
    assigned w right n / 2 ^ s % 2 ^ k ≡ assigned w (bits_from right n s) j % 2 ^ k
same_bits w right n s k j e l h =
    cut_field (full w right n) n k s l
    ∙ (sym (mod-mod (full w right n / 2 ^ s) (2 ^ k)) ∙ (λ i. sym (bits_given w right n s k l h) i % 2 ^ k) ∙ ap (λ z. assigned w (bits_from right n s) z % 2 ^ k) (sym e))

-- ---- part after part

-- the first part, and then the others
step_given : (w : List Entry) (right : Expr) (n : ℕ) (us qs : List Piece) (u : Piece) (d : Cycle) → us ≡ u ∷ [] → u.count + total qs ≤ n → n ≤ 64 →
    give qs (assigned w right n) (given w (bits_from right n (total qs)) us d) ≡ give (us ++ qs) (assigned w right n) d
step_given w right n us qs u d e l h =
    let part = assigned w (bits_from right n (total qs)) (total (u ∷ [])) in
    let alike : assigned w right n / 2 ^ total qs % 2 ^ u.count ≡ part % 2 ^ u.count = same_bits w right n (total qs) u.count (total (u ∷ [])) (none_more u.count) l h in
    ap (λ ps. give qs (assigned w right n) (given w (bits_from right n (total qs)) ps d)) e
    ∙ (ap (λ (z : Cycle). give qs (assigned w right n) z) (give_one u part d ∙ sym (put_lowest u (assigned w right n / 2 ^ total qs) part d alike))
    ∙ ap (λ ps. give (ps ++ qs) (assigned w right n) d) (sym e))

pub parts_stored : (r : List Entry) (gs hs : List Signal) (c : Cycle) (n : ℕ) (right : Expr) (qs : List Lval) (d : Cycle) → SpreadsInto r gs hs → AreParts r qs →
    lefts_length r qs ≤ n → n ≤ 64 →
    run_list false (over hs) (part_stores r n right qs) c d ≡ give (flat_map (pieces (over gs) c) qs) (assigned (valuation (over hs) c) right n) d
parts_stored r gs hs c n right [] d m h l k = refl
parts_stored r gs hs c n right (q ∷ qs) d m h l k =
    let w = valuation (over hs) c in
    let rest = flat_map (pieces (over gs) c) qs in
    let s = lefts_length r qs in
    let t : total rest ≡ s = parts_total r gs hs c qs m h.3 in
    let u = one_piece (over gs) c q h.0 in
    let f : u.0.count ≡ part_length r q = sym (none_more u.0.count) ∙ (sym (ap total u.1) ∙ part_total r gs hs c q m h.0 h.2) in
    parts_stored r gs hs c n right qs (run false (over hs) (part_store r q (bits_from right n s)) c d) m h.3 (omega arith) k
    ∙ (ap (λ (z : Cycle). give rest (assigned w right n) z) (part_stored r gs hs c q (bits_from right n s) d m h.0 h.1)
    ∙ (ap (λ z. give rest (assigned w right n) (given w (bits_from right n z) (pieces (over gs) c q) d)) (sym t)
    ∙ step_given w right n (pieces (over gs) c q) rest u.0 d u.1 (omega arith) k))
