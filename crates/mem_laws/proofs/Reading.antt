-- An expression without memories means what the expression means.
use Rattle.std.proofs.Common.{◌≡◌, ◌⊎◌, ℕ, suc, zero, ◌+◌, ◌-◌, ◌*◌, ◌%◌, ◌^◌, ◌<◌, ◌≤◌, max, ◌&&◌, Bool, true, false, nat_eq, nat_lt, List, [], ◌∷◌, ◌++◌, sym, ap, ◌∙◌, refl, inl, inr, ⊎_elim, arith}
use Rattle.std.specs.Prelude.{unwrap_or, if◌then◌else◌}
use Rattle.std.specs.List.{range_with_len}
use Rattle.std.proofs.Math.Nat.{mod-eq_of_lt, mod-mod, zero-mod, div-one}
use Rattle.std.proofs.lemmas.Bool.{lt-leb, ltb-true, ltb-false, eqb-true, eqb-false, eq-eqb, lt-ltb}
use Rattle.std.proofs.lemmas.Nat.{pow_pos}
use Rattle.elab_flat_laws.proofs.Lists.{bool_cases, append_left, append_right}
use Rattle.vlog_tree.specs.declared.expr.Expr.{Expr, Row_of-Expr, end_of-Expr, more_of-Expr}
use Rattle.vlog_tree.specs.declared.expr.Expr.TheVariants as e
use Rattle.vlog_tree.specs.declared.expr.Name.{Name as Read}
use Rattle.vlog_tree.specs.declared.expr.Span.TheVariants as p
use Rattle.vlog_tree.specs.declared.valuation.Entry.{Entry}
use Rattle.vlog_tree.specs.Valuation.{IsLength, named, depth_of, word_name}
use Rattle.vlog_tree.specs.Value.{Operand, operand_of, row_of, own, own_value, own_defined, plain, vector, bit, part_of, word_of, is_negative, choice_of, joined, unary_of, binary_of, cast_of, repeated, bit_of}
use Rattle.vlog_tree.specs.declared.expr.Expr.TheBlock.{shape-the_row-Expr-1, hidden-the_row-Expr-1}
use denote.Hole.Carrier
use Rattle.mem_laws.specs.Spread.{is_constant, is_fixed, read_words, word_read, chosen, memory_read, spread, spread_row, number}
use Rattle.vlog_tree_runs.specs.Places.{Name, Among}
use Rattle.mem_laws.specs.Uses.{whole_in, row_whole_in}
use Rattle.mem_laws.specs.Laws.{Spreads, IsIndexed}
use Rattle.mem_laws.proofs.Constants.{constant_names, constant_means}

-- ---- a word

zero_extended : (s : Bool) (n : ℕ) → is_negative s n 0 ≡ false
zero_extended true n = lt-leb (2 ^ (n - 1)) 0 (pow_pos (n - 1))
zero_extended false n = refl

zero_read : (w : List Entry) (n : ℕ) → operand_of w (number n 0) ≡ plain n 0 true
zero_read w n =
    ap (vector n false) (zero-mod (2 ^ n))
    ∙ (λ r. record {
      width = n;
      signed = false;
      value = λ (L : ℕ) (s : Bool). if zero_extended s n r then 0 + 2 ^ L - 2 ^ n else 0;
      defined = λ (L : ℕ) (s : Bool). true;
    })

pub full_width : (n : ℕ) → IsLength n → (n - 1) % 2 ^ 8 + 0 + 1 ≡ n
full_width n h = let e : (n - 1) % 2 ^ 8 ≡ n - 1 = mod-eq_of_lt (omega arith) in omega (arith, e)

part_read : (n x : ℕ) → IsLength n →
    part_of (record { width = n; low = 0; signed = false; value = x }) p.Fixed (vector 8 false ((n - 1) % 2 ^ 8)) (vector 8 false 0) ≡ plain n (x % 2 ^ n) true
part_read n x h =
    (λ r. plain (full_width n h r) ((div-one (x % 2 ^ n) r) % 2 ^ full_width n h r) true) ∙ ap (λ k. plain n k true) (mod-mod x (2 ^ n))

-- ---- the word that an index names

-- the value of word j
abbrev held : List Entry → List Entry → Read → ℕ → ℕ
held r v x j = (named v (word_name x j)).value % 2 ^ (named r x).width

-- what a word stands for
pub word_named : (r v w : List Entry) → Spreads r v w → (x : Read) (j : ℕ) → j < depth_of r x →
    named w (word_name x j) ≡ record { width = (named r x).width; low = 0; signed = false; value = (named v (word_name x j)).value }
word_named r v w s x j l = ap (λ o. unwrap_or o (record { width = 1; low = 0; signed = false; value = 0 })) (s.words x j l)

word_means : (r v w : List Entry) → Spreads r v w → (x : Read) (j : ℕ) → j < depth_of r x →
    operand_of w (word_read x (named r x).width j) ≡ plain (named r x).width (held r v x j) true
word_means r v w s x j l =
    ap (λ k. part_of k p.Fixed (vector 8 false (((named r x).width - 1) % 2 ^ 8)) (vector 8 false 0)) (word_named r v w s x j l)
    ∙ part_read (named r x).width (named v (word_name x j)).value (s.wide x)

max_self : (n : ℕ) → max n n ≡ n
max_self n = omega arith

choice_plain : (t d D : Bool) (n x y : ℕ) →
    choice_of (plain 1 (bit t) (d && true)) (plain n x true) (plain n y D) ≡ plain n (if t then x else y) (d && D)
choice_plain true true D n x y = λ r. record { width = max_self n r; signed = false; value = λ (L : ℕ) (s : Bool). x; defined = λ (L : ℕ) (s : Bool). D }
choice_plain true false D n x y = λ r. record { width = max_self n r; signed = false; value = λ (L : ℕ) (s : Bool). x; defined = λ (L : ℕ) (s : Bool). false }
choice_plain false true D n x y = λ r. record { width = max_self n r; signed = false; value = λ (L : ℕ) (s : Bool). y; defined = λ (L : ℕ) (s : Bool). D }
choice_plain false false D n x y = λ r. record { width = max_self n r; signed = false; value = λ (L : ℕ) (s : Bool). y; defined = λ (L : ℕ) (s : Bool). false }

-- the value of the word with the number i among these
abbrev pick : ℕ → (ℕ → ℕ) → List ℕ → ℕ
pick i val [] = 0
pick i val (j ∷ js) = if nat_eq i (j % 2 ^ 8) then val j else pick i val js

abbrev all_defined : Bool → List ℕ → Bool
all_defined d [] = true
all_defined d (j ∷ js) = d && all_defined d js

chosen_means : (r v w : List Entry) → Spreads r v w → (x : Read) (a : Expr) (js : List ℕ) → ((j : ℕ) → Among js j → j < depth_of r x) →
    operand_of w (chosen x (named r x).width a js)
    ≡ plain (named r x).width (pick (own (operand_of w a)) (held r v x) js) (all_defined (own_defined (operand_of w a)) js)
chosen_means r v w s x a [] l = zero_read w (named r x).width
chosen_means r v w s x a (j ∷ js) l =
    let word = word_means r v w s x j (l j (inl refl)) in
    let others = chosen_means r v w s x a js (λ k m. l k (inr m)) in
    (λ q. choice_of (plain 1 (bit (nat_eq (own (operand_of w a)) (j % 2 ^ 8))) (own_defined (operand_of w a) && true)) (word q) (others q))
    ∙ choice_plain (nat_eq (own (operand_of w a)) (j % 2 ^ 8)) (own_defined (operand_of w a)) (all_defined (own_defined (operand_of w a)) js)
    (named r x).width (held r v x j) (pick (own (operand_of w a)) (held r v x) js)

-- in braces
pub and_true : (d : Bool) → d && true ≡ d
and_true true = refl
and_true false = refl

braced : (n y : ℕ) (d : Bool) → joined (plain n y d) (plain 0 0 true) ≡ plain n y d
braced n y d =
    let e : n + 0 ≡ n = omega arith in
    let k : y * 1 + 0 ≡ y = omega arith in
    λ r. plain (e r) (k r) (and_true d r)

braces : (w : List Entry) (a : Expr) → operand_of w (e.Concat (a ∷ [])) ≡ joined (operand_of w a) (plain 0 0 true)
unfolding shape-the_row-Expr-1 hidden-the_row-Expr-1 denote.Hole.Carrier.hidden
braces w a = refl

-- ---- the words that an index may name

no_match : (i k : ℕ) → (i ≡ k → ⊥) → nat_eq i k ≡ false
no_match i k h = ⊎_elim (λ (t : nat_eq i k ≡ true). absurd (h (eqb-true i k t))) (λ (t : nat_eq i k ≡ false). t) (bool_cases (nat_eq i k))

passed : (i j : ℕ) (val : ℕ → ℕ) (js : List ℕ) → j < 256 → (i ≡ j → ⊥) → pick i val (j ∷ js) ≡ pick i val js
passed i j val js l h =
    let e : j % 256 ≡ j = mod-eq_of_lt l in
    let f : nat_eq i (j % 256) ≡ false = ap (nat_eq i) e ∙ no_match i j h in
    ap (λ (b : Bool). if b then val j else pick i val js) f

misses : (i : ℕ) (val : ℕ → ℕ) (k n : ℕ) → k + n ≤ 256 → (i < k) ⊎ (k + n ≤ i) → pick i val (range_with_len k n) ≡ 0
misses i val k zero l h = refl
misses i val k (suc n) l h =
    passed i k val (range_with_len (k + 1) n) (omega arith) (λ e. ⊎_elim (λ (m : i < k). omega arith) (λ (m : k + suc n ≤ i). omega arith) h)
    ∙ misses i val (k + 1) n (omega arith) (⊎_elim (λ (m : i < k). inl (omega arith)) (λ (m : k + suc n ≤ i). inr (omega arith)) h)

hits : (i : ℕ) (val : ℕ → ℕ) (k n : ℕ) → k + n ≤ 256 → k ≤ i → i < k + n → pick i val (range_with_len k n) ≡ val i
hits i val k zero l h m = absurd (omega arith)
hits i val k (suc n) l h m =
    ⊎_elim
    (λ (t : nat_eq i k ≡ true).
    let q : i ≡ k = eqb-true i k t in
    let b : k < 256 = omega arith in
    let e : k % 256 ≡ k = mod-eq_of_lt b in
    ap (λ (b : Bool). if b then val k else pick i val (range_with_len (k + 1) n)) (ap (nat_eq i) e ∙ t) ∙ ap val (sym q))
    (λ (t : nat_eq i k ≡ false).
    let q : i ≡ k → ⊥ = eqb-false i k t in
    passed i k val (range_with_len (k + 1) n) (omega arith) q ∙ hits i val (k + 1) n (omega arith) (omega arith) (omega arith))
    (bool_cases (nat_eq i k))

-- one word alone
lone : (i : ℕ) (val : ℕ → ℕ) → i < 256 → pick i val (i ∷ []) ≡ val i
lone i val l =
    let e : i % 256 ≡ i = mod-eq_of_lt l in
    ap (λ k. if nat_eq i k then val i else 0) e ∙ ap (λ (b : Bool). if b then val i else 0) (eq-eqb i i refl)

each_read : (depth i : ℕ) (val : ℕ → ℕ) → depth ≤ 64 → (t : Bool) → nat_lt i depth ≡ t → pick i val (range_with_len 0 depth) ≡ (if t then val i else 0)
each_read depth i val l true h = let m : i < depth = ltb-true i depth h in hits i val 0 depth (omega arith) (omega arith) (omega arith)
each_read depth i val l false h = let m : depth ≤ i = ltb-false i depth h in misses i val 0 depth (omega arith) (inr (omega arith))

pub fixed_constant : (depth : ℕ) (a : Expr) → is_fixed depth a ≡ true → is_constant a ≡ true
fixed_constant depth a h = and_first (is_constant a) (nat_lt (own_value [] a) depth) h
  where
    and_first : (a b : Bool) → a && b ≡ true → a ≡ true
    and_first true b h = refl
    and_first false b h = cc

pub fixed_below : (depth : ℕ) (a : Expr) → is_fixed depth a ≡ true → own_value [] a < depth
fixed_below depth a h = ltb-true (own_value [] a) depth (and_second (is_constant a) (nat_lt (own_value [] a) depth) h)
  where
    and_second : (a b : Bool) → a && b ≡ true → b ≡ true
    and_second true b h = h
    and_second false b h = cc

read_by : (depth i : ℕ) (val : ℕ → ℕ) (a : Expr) → depth ≤ 64 → (t : Bool) → is_fixed depth a ≡ t → (is_constant a ≡ true → own_value [] a ≡ i) →
    pick i val (if t then own_value [] a ∷ [] else range_with_len 0 depth) ≡ (if nat_lt i depth then val i else 0)
read_by depth i val a l true h e =
    let z : own_value [] a ≡ i = e (fixed_constant depth a h) in
    let m : own_value [] a < depth = fixed_below depth a h in
    ap (λ j. pick i val (j ∷ [])) z
    ∙ (lone i val (omega arith) ∙ sym (ap (λ (b : Bool). if b then val i else 0) (lt-ltb i depth (omega arith))))
read_by depth i val a l false h e = each_read depth i val l (nat_lt i depth) refl

range_below : (depth k n j : ℕ) → k + n ≤ depth → Among (range_with_len k n) j → j < depth
range_below depth k zero j l h = absurd h
range_below depth k (suc n) j l h = ⊎_elim (λ (e : k ≡ j). omega arith) (λ m. range_below depth (k + 1) n j (omega arith) m) h

pub read_below : (depth : ℕ) (a : Expr) (t : Bool) → is_fixed depth a ≡ t → (j : ℕ) → Among (if t then own_value [] a ∷ [] else range_with_len 0 depth) j → j < depth
read_below depth a true h j m =
    let l : own_value [] a < depth = fixed_below depth a h in
    ⊎_elim (λ (e : own_value [] a ≡ j). omega (arith, l, e)) (λ z. absurd z) m
read_below depth a false h j m = range_below depth 0 depth j (omega arith) m

all_same : (d : Bool) (js : List ℕ) → d && all_defined d js ≡ d
all_same true [] = refl
all_same true (j ∷ js) = all_same true js
all_same false js = refl

read_defined : (d : Bool) (depth : ℕ) (a : Expr) → (depth ≡ 0 → ⊥) → (t : Bool) → all_defined d (if t then own_value [] a ∷ [] else range_with_len 0 depth) ≡ d
read_defined d depth a h true = and_true d
read_defined d zero a h false = absurd (h refl)
read_defined d (suc depth) a h false = all_same d (range_with_len 1 depth)

-- ---- expressions

pub memory_means : (r v w : List Entry) → Spreads r v w → (x : Read) (a : Expr) → (depth_of r x ≡ 0 → ⊥) → operand_of w (spread r a) ≡ operand_of v a →
    operand_of w (memory_read r x a (spread r a)) ≡ word_of v x (operand_of v a)
memory_means r v w s x a deep h =
    let n = (named r x).width in
    let js = read_words (depth_of r x) a in
    let i = own (operand_of w (spread r a)) in
    let d = own_defined (operand_of w (spread r a)) in
    let number_is : is_constant a ≡ true → own_value [] a ≡ i = λ t. ap own (sym (constant_means v a (constant_names a t)) ∙ sym h) in
    (braces w (chosen x n (spread r a) js)
    ∙ ap (λ z. joined z (plain 0 0 true)) (chosen_means r v w s x (spread r a) js (read_below (depth_of r x) a (is_fixed (depth_of r x) a) refl)))
    ∙ (braced n (pick i (held r v x) js) (all_defined d js)
    ∙ ((λ q. plain n (read_by (depth_of r x) i (held r v x) a (s.shallow x) (is_fixed (depth_of r x) a) refl number_is q) (read_defined d (depth_of r x) a deep (is_fixed (depth_of r x) a) q))
    ∙ (λ q. plain (sym (s.lengths x) q)
    (if nat_lt (own (h q)) (sym (s.depths x) q) then (named v (word_name x (own (h q)))).value % 2 ^ (sym (s.lengths x) q) else 0)
    (own_defined (h q)))))

pub same_name : (r v w : List Entry) → Spreads r v w → (x : Read) → depth_of r x ≡ 0 → named w x ≡ named v x
same_name r v w s x h = ap (λ o. unwrap_or o (record { width = 1; low = 0; signed = false; value = 0 })) (s.names x h)

bit_means : (v : List Entry) (x : Read) (a : Operand) → depth_of v x ≡ 0 → (if nat_eq (depth_of v x) 0 then bit_of (named v x) a else word_of v x a) ≡ bit_of (named v x) a
bit_means v x a h = ap (λ n. if nat_eq n 0 then bit_of (named v x) a else word_of v x a) h

select_means : (r v w : List Entry) → Spreads r v w → (x : Read) (a : Expr) → operand_of w (spread r a) ≡ operand_of v a → (t : Bool) → nat_eq (depth_of r x) 0 ≡ t →
    operand_of w (if t then e.Select' x tt (more_of-Expr (spread r a) end_of-Expr) else memory_read r x a (spread r a))
    ≡ (if nat_eq (depth_of v x) 0 then bit_of (named v x) (operand_of v a) else word_of v x (operand_of v a))
select_means r v w s x a h true t =
    let z : depth_of r x ≡ 0 = eqb-true (depth_of r x) 0 t in
    bit_means w x (operand_of w (spread r a)) (s.no_memory x)
    ∙ ((λ q. bit_of (same_name r v w s x z q) (h q)) ∙ sym (bit_means v x (operand_of v a) (s.depths x ∙ z)))
select_means r v w s x a h false t =
    memory_means r v w s x a (eqb-false (depth_of r x) 0 t) h
    ∙ sym (ap (λ (b : Bool). if b then bit_of (named v x) (operand_of v a) else word_of v x (operand_of v a)) (ap (λ n. nat_eq n 0) (s.depths x) ∙ t))

-- what is asked of an expression is asked of its parts
pub first : (r : List Entry) (xs ys : List Name) → ((x : Read) → Among (xs ++ ys) x.text → depth_of r x ≡ 0) → (x : Read) → Among xs x.text → depth_of r x ≡ 0
first r xs ys h x m = h x (append_left xs ys x.text m)

pub second : (r : List Entry) (xs ys : List Name) → ((x : Read) → Among (xs ++ ys) x.text → depth_of r x ≡ 0) → (x : Read) → Among ys x.text → depth_of r x ≡ 0
second r xs ys h x m = h x (append_right xs ys x.text m)

mutual
  pub spread_means : (r v w : List Entry) (a : Expr) → Spreads r v w → IsIndexed r a → operand_of w (spread r a) ≡ operand_of v a
  spread_means r v w (e.Number n) s d = refl
  spread_means r v w (e.Name x) s d = let z = d x (inl refl) in λ q. vector (same_name r v w s x z q).width (same_name r v w s x z q).signed (same_name r v w s x z q).value
  spread_means r v w (e.Select' x h (more_of-Expr a end_of-Expr)) s d =
      select_means r v w s x a (spread_means r v w a s d) (nat_eq (depth_of r x) 0) refl
  spread_means r v w (e.Part' x span h (more_of-Expr a end_of-Expr) g (more_of-Expr b end_of-Expr)) s d =
      let k = second r (x.text ∷ whole_in a) (whole_in b) d in
      let j = first r (x.text ∷ whole_in a) (whole_in b) d in
      λ q. part_of (same_name r v w s x (d x (inl refl)) q) span (spread_means r v w a s (λ y m. j y (inr m)) q) (spread_means r v w b s k q)
  spread_means r v w (e.ConstantSelect' k h (more_of-Expr a end_of-Expr)) s d = ap (bit_of k) (spread_means r v w a s d)
  spread_means r v w (e.ConstantPart' k span h (more_of-Expr a end_of-Expr) g (more_of-Expr b end_of-Expr)) s d =
      λ q. part_of k span (spread_means r v w a s (first r (whole_in a) (whole_in b) d) q) (spread_means r v w b s (second r (whole_in a) (whole_in b) d) q)
  spread_means r v w (e.Cast' cast h (more_of-Expr a end_of-Expr)) s d = ap (cast_of cast) (spread_means r v w a s d)
  spread_means r v w (e.Paren' h (more_of-Expr a end_of-Expr)) s d = spread_means r v w a s d
  spread_means r v w (e.Concat' h row) s d = row_means r v w row s d
  spread_means r v w (e.Repeat' h (more_of-Expr a end_of-Expr) g row) s d =
      λ q. repeated (spread_means r v w a s (first r (whole_in a) (row_whole_in row) d) q) (row_means r v w row s (second r (whole_in a) (row_whole_in row) d) q)
  spread_means r v w (e.Unary' op h (more_of-Expr a end_of-Expr)) s d = ap (unary_of op) (spread_means r v w a s d)
  spread_means r v w (e.Binary' op h (more_of-Expr a end_of-Expr) g (more_of-Expr b end_of-Expr)) s d =
      λ q. binary_of op (spread_means r v w a s (first r (whole_in a) (whole_in b) d) q) (spread_means r v w b s (second r (whole_in a) (whole_in b) d) q)
  spread_means r v w (e.Choice' h (more_of-Expr c end_of-Expr) g (more_of-Expr a end_of-Expr) i (more_of-Expr b end_of-Expr)) s d =
      let j = first r (whole_in c ++ whole_in a) (whole_in b) d in
      λ q. choice_of (spread_means r v w c s (first r (whole_in c) (whole_in a) j) q) (spread_means r v w a s (second r (whole_in c) (whole_in a) j) q)
      (spread_means r v w b s (second r (whole_in c ++ whole_in a) (whole_in b) d) q)

  pub row_means : {n : _} (r v w : List Entry) (row : Row_of-Expr n) → Spreads r v w → ((x : Read) → Among (row_whole_in row) x.text → depth_of r x ≡ 0) →
      row_of w (spread_row r row) ≡ row_of v row
  row_means r v w end_of-Expr s d = refl
  row_means r v w (more_of-Expr a rest) s d =
      λ q. joined (spread_means r v w a s (first r (whole_in a) (row_whole_in rest) d) q) (row_means r v w rest s (second r (whole_in a) (row_whole_in rest) d) q)
