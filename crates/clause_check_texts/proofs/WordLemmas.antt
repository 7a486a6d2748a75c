use Rattle.std.proofs.Common.{◌≡◌, ◌<◌, ◌≤◌, ◌+◌, ◌*◌, ◌-◌, ◌^◌, ℕ, suc, Bool, true, false, cond, List, [], ◌∷◌, ◌++◌, length, get_or, take, drop, Some, None, refl, ap, sym, ◌∙◌, subst, arith, inl, inr}
use Rattle.std.specs.List.{filter, slice_split, position_or_len, prefix_len, list_all}
use Rattle.std.proofs.lemmas.Bool.{cases_Bool, cases_lt, lt-ltb, le-ltb}
use Rattle.std.proofs.lemmas.List.{drop_more, take_more, take_all, drop_all, length-take-le, take-append-drop, length-drop, get_or-drop}
use Rattle.std.proofs.lemmas.List.Elements.{All-from_get_or}
use Rattle.std.proofs.lemmas.List.Folds.{list_all_at, list_all_more}
use Rattle.std.proofs.lemmas.List.Sums.{fails_before_first, passes_at_first, prefix_len-le-length, prefix_len_stops}
use Rattle.std.proofs.lemmas.List.Splits.{slice_split_first, slice_split_none, slice_split-cons_yes}
use Rattle.clause_check_texts.specs.Words.{is_blank, is_digit, is_end, is_some_word, lines, number_from, size_of, words}

filter_yes : {X : Type 0} (t : X → Bool) (x : X) (xs : List X) → t x ≡ true → filter t (x ∷ xs) ≡ x ∷ filter t xs
filter_yes t x xs holds = rw holds refl

module _ (p : ℕ → Bool) where
  abbrev parts : List ℕ → List (List ℕ)
  parts bs = filter is_some_word (slice_split p bs)

  parts_skip : (c : ℕ) (cs : List ℕ) → p c ≡ true → parts (c ∷ cs) ≡ parts cs
  parts_skip c cs holds = ap (filter is_some_word) (slice_split-cons_yes p c cs holds)

  prefix_yes : (c : ℕ) (cs : List ℕ) → p c ≡ true → prefix_len p (c ∷ cs) ≡ suc (prefix_len p cs)
  prefix_yes c cs holds = rw holds (omega arith)

  prefix_no : (c : ℕ) (cs : List ℕ) → p c ≡ false → prefix_len p (c ∷ cs) ≡ 0
  prefix_no c cs fails = rw fails refl

  pub parts_past : (bs : List ℕ) → parts (drop (prefix_len p bs) bs) ≡ parts bs
  parts_past [] = refl
  parts_past (c ∷ cs) = elim (cases_Bool (p c)) [
    | inl holds ↦ ap (λ n. parts (drop n (c ∷ cs))) (prefix_yes c cs holds) ∙ (parts_past cs ∙ sym (parts_skip c cs holds))
    | inr fails ↦ ap (λ n. parts (drop n (c ∷ cs))) (prefix_no c cs fails)
  ]

  pub some_before : (bs : List ℕ) → 0 < length bs → p (get_or bs 0 0) ≡ false → 0 < position_or_len p bs
  some_before bs some fails = elim (cases_lt 0 (position_or_len p bs)) [
    | inl lt ↦ lt
    | inr ge ↦
        let e : position_or_len p bs ≡ 0 = omega arith in
        let at : p (get_or bs (position_or_len p bs) 0) ≡ true = passes_at_first p bs 0 (omega arith) in
        let bad : true ≡ false = sym at ∙ (ap (λ n. p (get_or bs n 0)) e ∙ fails) in
        cc
  ]

  pub most_before : (bs : List ℕ) → position_or_len p bs ≤ length bs
  most_before bs = prefix_len-le-length _ bs

  is_some : (bs : List ℕ) (n : ℕ) → n ≤ length bs → 0 < n → is_some_word (take n bs) ≡ true
  is_some bs n le some = lt-ltb 0 (length (take n bs)) (omega (arith, length-take-le n bs le))

  pub parts_first : (bs : List ℕ) → 0 < length bs → p (get_or bs 0 0) ≡ false → parts bs ≡ take (position_or_len p bs) bs ∷ parts (drop (position_or_len p bs) bs)
  parts_first bs some fails =
      let n = position_or_len p bs in
      let word : is_some_word (take n bs) ≡ true = is_some bs n (most_before bs) (some_before bs some fails) in
      elim (cases_lt n (length bs)) [
        | inl lt ↦
            let rest : parts (drop n bs) ≡ parts (drop (n + 1) bs) = ap parts (drop_more bs n 0 lt) ∙ parts_skip (get_or bs n 0) (drop (n + 1) bs) (passes_at_first p bs 0 lt) in
            ap (filter is_some_word) (slice_split_first p bs 0 lt) ∙ (filter_yes is_some_word (take n bs) (slice_split p (drop (n + 1) bs)) word ∙ ap (λ ws. take n bs ∷ ws) (sym rest))
        | inr ge ↦
            let all : take n bs ≡ bs = take_all n bs ge in
            let rest : parts (drop n bs) ≡ [] = ap parts (drop_all n bs ge) in
            let none = All-from_get_or (λ x. p x ≡ false) bs 0 (λ k h. fails_before_first p bs k 0 (omega arith)) in
            let one : slice_split p bs ≡ take n bs ∷ [] = slice_split_none p bs none ∙ ap (λ w. w ∷ []) (sym all) in
            ap (filter is_some_word) one ∙ (filter_yes is_some_word (take n bs) [] word ∙ ap (λ ws. take n bs ∷ ws) (sym rest))
      ]

-- the first line
pub line_last : (text : List ℕ) → position_or_len is_end text ≡ length text → lines text ≡ text ∷ []
line_last text e = slice_split_none is_end text (All-from_get_or (λ x. is_end x ≡ false) text 0 (λ k h. fails_before_first is_end text k 0 (omega arith)))

pub line_first : (text : List ℕ) → position_or_len is_end text < length text → lines text ≡ take (position_or_len is_end text) text ∷ lines (drop (position_or_len is_end text + 1) text)
line_first text lt = slice_split_first is_end text 0 lt

-- numbers
pub from_append : (n : ℕ) (xs ys : List ℕ) → number_from n (xs ++ ys) ≡ number_from (number_from n xs) ys
from_append n [] ys = refl
from_append n (x ∷ xs) ys = from_append (n * 10 + (x - 48)) xs ys

pub from_grows : (n : ℕ) (xs : List ℕ) → n ≤ number_from n xs
from_grows n [] = omega arith
from_grows n (x ∷ xs) = let h = from_grows (n * 10 + (x - 48)) xs in omega arith

if_no : {X : Type 0} (b : Bool) (x y : X) → b ≡ false → cond b x y ≡ y
if_no b x y fails = rw fails refl

if_yes : {X : Type 0} (b : Bool) (x y : X) → b ≡ true → cond b x y ≡ x
if_yes b x y holds = rw holds refl

pub no_size_empty : (word : List ℕ) → length word ≡ 0 → size_of word ≡ None
no_size_empty word e = let fails : is_some_word word ≡ false = le-ltb 0 (length word) (omega arith) in rw fails refl

pub no_size_digit : (word : List ℕ) (i : ℕ) → i < length word → is_digit (get_or word i 0) ≡ false → size_of word ≡ None
no_size_digit word i lt odd =
    let fails : list_all is_digit word ≡ false = list_all_at is_digit word i 0 lt odd in
    elim (cases_Bool (is_some_word word)) [ inl holds ↦ rw (holds, fails) refl | inr none ↦ rw none refl ]

pub no_size_large : (word : List ℕ) → 2 ^ 60 ≤ number_from 0 word → size_of word ≡ None
no_size_large word large =
    let fails = le-ltb (number_from 0 word) (2 ^ 60) large in
    elim (cases_Bool (is_some_word word)) [
      | inl holds ↦ elim (cases_Bool (list_all is_digit word)) [ inl all ↦ rw (holds, all, fails) refl | inr odd ↦ rw (holds, odd) refl ]
      | inr none ↦ rw none refl
    ]

pub large_before : (word : List ℕ) (i : ℕ) → 2 ^ 60 ≤ number_from 0 (take i word) → 2 ^ 60 ≤ number_from 0 word
large_before word i large =
    let e = ap (number_from 0) (sym (take-append-drop i word)) ∙ from_append 0 (take i word) (drop i word) in
    omega (arith, e, from_grows (number_from 0 (take i word)) (drop i word))

pub size_is : (word : List ℕ) → 0 < length word → list_all is_digit word ≡ true → number_from 0 word < 2 ^ 60 → size_of word ≡ Some (number_from 0 word)
size_is word some all small =
    let holds : is_some_word word ≡ true = lt-ltb 0 (length word) some in
    let below = lt-ltb (number_from 0 word) (2 ^ 60) small in
    rw (holds, all, below) refl

-- a slice to the end
pub rest_left : {X : Type 0} (text : List X) (n : ℕ) → drop n text ≡ take (length text - n) (drop n text)
rest_left text n = sym (take_all (length text - n) (drop n text) (omega (arith, length-drop n text)))

-- what stands behind the blanks in front
module _ (bs : List ℕ) (start : ℕ) (is : start ≡ prefix_len is_blank bs) where
  pub no_words : length bs ≤ start → words bs ≡ []
  no_words le = sym (parts_past is_blank bs) ∙ ap words (ap (λ n. drop n bs) (sym is) ∙ drop_all start bs le)

  module _ (lt : start < length bs) where
    abbrev left : List ℕ
    left = take (length bs - start) (drop start bs)

    left_is : drop start bs ≡ left
    left_is = rest_left bs start

    left_some : 0 < length left
    left_some = omega (arith, ap length left_is, length-drop start bs)

    left_begins : is_blank (get_or left 0 0) ≡ false
    left_begins =
        let at : get_or left 0 0 ≡ get_or bs (prefix_len is_blank bs) 0 =
        ap (λ (xs : List ℕ). get_or xs 0 0) (sym left_is) ∙ (get_or-drop start bs 0 0 ∙ ap (λ k. get_or bs k 0) (let e : start + 0 ≡ prefix_len is_blank bs = omega arith in e)) in
        ap is_blank at ∙ prefix_len_stops is_blank bs 0 (omega arith)

    pub word_most : (n : ℕ) → n ≡ position_or_len is_blank left → n ≤ length left
    word_most n e = omega (arith, e, most_before is_blank left)

    pub word_is : (n : ℕ) → n ≡ position_or_len is_blank left → words bs ≡ take n left ∷ words (take (length left - n) (drop n left))
    word_is n e =
        let behind : words bs ≡ words left = sym (parts_past is_blank bs) ∙ ap words (ap (λ k. drop k bs) (sym is) ∙ left_is) in
        let first : words left ≡ take n left ∷ words (drop n left) = subst (λ (k : ℕ). words left ≡ take k left ∷ words (drop k left)) (sym e) (parts_first is_blank left left_some left_begins) in
        behind ∙ (first ∙ ap (λ (xs : List ℕ). take n left ∷ words xs) (rest_left left n))

    pub word_shorter : (n : ℕ) → n ≡ position_or_len is_blank left → length (take (length left - n) (drop n left)) < length bs
    word_shorter n e =
        omega (arith, e, some_before is_blank left left_some left_begins, ap length (rest_left left n), length-drop n left, ap length left_is, length-drop start bs)

-- one more digit
pub from_more : (word : List ℕ) (i n : ℕ) → i < length word → n ≡ number_from 0 (take i word) → n * 10 + (get_or word i 0 - 48) ≡ number_from 0 (take (i + 1) word)
from_more word i n lt is =
    ap (λ m. m * 10 + (get_or word i 0 - 48)) is ∙ (sym (from_append 0 (take i word) (get_or word i 0 ∷ [])) ∙ ap (number_from 0) (sym (take_more word i 0 lt)))

pub digits_more : (word : List ℕ) (i : ℕ) → i < length word → list_all is_digit (take i word) ≡ true → is_digit (get_or word i 0) ≡ true → list_all is_digit (take (i + 1) word) ≡ true
digits_more word i lt all digit = list_all_more is_digit word i 0 lt ∙ rw (all, digit) refl
