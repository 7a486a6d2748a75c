-- The words that an index may name, as the code finds them.
use Rattle.std.proofs.Common.{◌≡◌, ℕ, zero, suc, ◌+◌, ◌<◌, ◌≤◌, ◌&&◌, Bool, true, false, nat_eq, nat_lt, List, [], ◌∷◌, ◌++◌, length, drop, sym, ap, ◌∙◌, refl, arith}
use Rattle.std.specs.Prelude.{Option, Some, None, MatchOption, if◌then◌else◌}
use Rattle.std.specs.List.{flat_map, range_with_len}
use Rattle.std.proofs.lemmas.Bool.{lt-ltb, le-ltb}
use Rattle.vlog_tree.specs.declared.expr.Expr.{Expr}
use Rattle.vlog_tree.specs.Value.{own_value}
use Rattle.vlog_tree_runs.specs.Places.{Name}
use Rattle.mem_laws.specs.Spread.{is_constant, is_fixed, named_words, read_words}

pub inconstant_fixed : (depth : ℕ) (a : Expr) → is_constant a ≡ false → is_fixed depth a ≡ false
inconstant_fixed depth a h = ap (λ t. t && nat_lt (own_value [] a) depth) h

pub within_fixed : (depth n : ℕ) (a : Expr) → is_constant a ≡ true → n ≡ own_value [] a → n < depth → is_fixed depth a ≡ true
within_fixed depth n a h e l = (λ q. h q && nat_lt (sym e q) depth) ∙ lt-ltb n depth l

pub past_fixed : (depth n : ℕ) (a : Expr) → is_constant a ≡ true → n ≡ own_value [] a → depth ≤ n → is_fixed depth a ≡ false
past_fixed depth n a h e l = (λ q. h q && nat_lt (sym e q) depth) ∙ le-ltb n depth l

pub fixed_named : (depth : ℕ) (a : Expr) (j : ℕ) (xs : List ℕ) → is_fixed depth a ≡ true → own_value [] a ≡ j → xs ≡ j ∷ [] → xs ≡ named_words depth a
fixed_named depth a j xs h e m =
    m ∙ (ap (λ k. k ∷ []) (sym e) ∙ sym (ap (λ (t : Bool). if t then own_value [] a ∷ [] else if is_constant a then [] else range_with_len 0 depth) h))

pub none_named : (depth : ℕ) (a : Expr) (xs : List ℕ) → is_fixed depth a ≡ false → is_constant a ≡ true → xs ≡ [] → xs ≡ named_words depth a
none_named depth a xs h k m =
    m ∙ sym (λ q. if h q then own_value [] a ∷ [] else if k q then [] else range_with_len 0 depth)

pub all_named : (depth : ℕ) (a : Expr) (xs : List ℕ) → is_fixed depth a ≡ false → is_constant a ≡ false → xs ≡ range_with_len 0 depth → xs ≡ named_words depth a
all_named depth a xs h k m =
    m ∙ sym (λ q. if h q then own_value [] a ∷ [] else if k q then [] else range_with_len 0 depth)

pub fixed_read : (depth : ℕ) (a : Expr) (j : ℕ) (xs : List ℕ) → is_fixed depth a ≡ true → own_value [] a ≡ j → xs ≡ j ∷ [] → xs ≡ read_words depth a
fixed_read depth a j xs h e m =
    m ∙ (ap (λ k. k ∷ []) (sym e) ∙ sym (ap (λ (t : Bool). if t then own_value [] a ∷ [] else range_with_len 0 depth) h))

pub all_read : (depth : ℕ) (a : Expr) (xs : List ℕ) → is_fixed depth a ≡ false → xs ≡ range_with_len 0 depth → xs ≡ read_words depth a
all_read depth a xs h m = m ∙ sym (ap (λ (t : Bool). if t then own_value [] a ∷ [] else range_with_len 0 depth) h)

pub fixed_is : (depth n : ℕ) (a : Expr) (o : Option ℕ) → is_constant a ≡ true → n ≡ own_value [] a → MatchOption o (depth ≤ n) (λ j. (j ≡ n) × (n < depth)) →
    MatchOption o (is_fixed depth a ≡ false) (λ j. (is_fixed depth a ≡ true) × (own_value [] a ≡ j))
fixed_is depth n a None h e m = past_fixed depth n a h e m
fixed_is depth n a (Some j) h e m = (within_fixed depth n a h e m.1, sym (m.0 ∙ e))

-- one more in a row of numbers
pub range_more : (k n : ℕ) → range_with_len k n ++ (k + n) ∷ [] ≡ range_with_len k (n + 1)
range_more k zero = let e : k + 0 ≡ k = omega arith in ap (λ z. z ∷ []) e
range_more k (suc n) =
    let e : suc n + 1 ≡ suc (n + 1) = omega arith in
    let z : k + suc n ≡ k + 1 + n = omega arith in
    ap (λ xs. k ∷ xs) (ap (λ i. range_with_len (k + 1) n ++ i ∷ []) z ∙ range_more (k + 1) n) ∙ sym (ap (range_with_len k) e)

pub word_more : (n : ℕ) (old new : List ℕ) → old ≡ range_with_len 0 n → new ≡ old ++ n ∷ [] → new ≡ range_with_len 0 (n + 1)
word_more n old new h e =
    let z : 0 + n ≡ n = omega arith in
    e ∙ (ap (λ xs. xs ++ n ∷ []) h ∙ (ap (λ k. range_with_len 0 n ++ k ∷ []) (sym z) ∙ range_more 0 n))
