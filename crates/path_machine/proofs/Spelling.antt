-- What words, lines and rows spell.
use Rattle.std.proofs.Common.{◌≡◌, ◌≢◌, ℕ, zero, suc, ◌+◌, ◌-◌, ◌<◌, ◌≤◌, ◌^◌, true, false, List, [], ◌∷◌, ◌++◌, Option, Some, None, length, take, drop, map, refl, sym, ap, ◌∙◌, subst, arith, add-one, append_assoc, append-nil, length-drop, inl, inr}
use Rattle.std.specs.Prelude.{◌&&◌, is_some, nat_eq, nat_lt, slice_index, if◌then◌else◌}
use Rattle.std.specs.List.{All, AllZip}
use Rattle.std.specs.Borrow.{Bor}
use Rattle.std.specs.Option.{option_map}
use Rattle.std.proofs.lemmas.List.{take_all}
use Rattle.std.proofs.lemmas.Bool.{and_parts, cases_Bool, ltb-true, ne_eqb}
use Rattle.std.proofs.lemmas.List.Elements.{All-cons, All-head, All-nil, All-tail}
use Rattle.set_tree.specs.declared.set.Name.{Name}
use Rattle.set_tree.specs.Meaning.{Row}
use Rattle.path_machine.specs.Rows.{SpellsRows, is_number, number_from, row_of, split_words, to_first, value_of, values_of, width_of, with_value, words_left, words_of}
use Rattle.path_machine.specs.Rows.SpellsRows.{none as no_lines, one as one_line}

-- ---- words

pub split_at : (text : List ℕ) (n : ℕ) → n < length text → All (λ c. c ≢ 32) (take n text) → slice_index text n ≡ 32 → split_words text ≡ take n text ∷ split_words (drop (suc n) text)
split_at [] n lt all is = absurd (omega (arith, lt))
split_at (c ∷ cs) zero lt all is = subst (λ b. (if nat_eq b 32 then [] ∷ split_words cs else to_first b (split_words cs)) ≡ [] ∷ split_words cs) (sym is) refl
split_at (c ∷ cs) (suc n) lt all is =
    let other : nat_eq c 32 ≡ false = ne_eqb c 32 (All-head (λ b. b ≢ 32) c (take n cs) all) in
    let rest = split_at cs n (omega (arith, lt)) (All-tail (λ b. b ≢ 32) c (take n cs) all) is in
    rw other (ap (to_first c) rest)

pub split_none : (text : List ℕ) → All (λ c. c ≢ 32) text → split_words text ≡ text ∷ []
split_none [] all = refl
split_none (c ∷ cs) all =
    let other : nat_eq c 32 ≡ false = ne_eqb c 32 (All-head (λ b. b ≢ 32) c cs all) in
    rw other (ap (to_first c) (split_none cs (All-tail (λ b. b ≢ 32) c cs all)))

-- what is left behind a place
pub rest_left : (text : List ℕ) (n : ℕ) → drop (suc n) text ≡ take (length text - (n + 1)) (drop (n + 1) text)
rest_left text n =
    let all : length (drop (n + 1) text) ≤ length text - (n + 1) = let is = length-drop (n + 1) text in omega (arith, is) in
    ap (λ k. drop k text) (let e : suc n ≡ n + 1 = omega arith in e) ∙ sym (take_all (length text - (n + 1)) (drop (n + 1) text) all)

pub rest_is : (text : List ℕ) (n : ℕ) → drop (n + 1) text ≡ take (length text - (n + 1)) (drop (n + 1) text)
rest_is text n = ap (λ k. drop k text) (let e : n + 1 ≡ suc n = omega arith in e) ∙ rest_left text n

-- an option of a borrow, as what it borrows
pub now_none : (o : Option (Bor (List ℕ))) → ((t : Bor (List ℕ)) → o ≡ Some t → ⊥) → option_map (λ (t : Bor (List ℕ)). t.now) o ≡ None
now_none None isnt = refl
now_none (Some t) isnt = absurd (isnt t refl)

pub now_some : (o : Option (Bor (List ℕ))) (t : Bor (List ℕ)) → o ≡ Some t → option_map (λ (t : Bor (List ℕ)). t.now) o ≡ Some t.now
now_some o t is = ap (option_map (λ (t : Bor (List ℕ)). t.now)) is

pub now_nothing : (o : Option (Bor (List ℕ))) → is_some o ≡ false → option_map (λ (t : Bor (List ℕ)). t.now) o ≡ None
now_nothing None isnt = refl
now_nothing (Some t) isnt = absurd cc

pub now_something : (o : Option (Bor (List ℕ))) → is_some o ≡ true → (cs : List ℕ) × (option_map (λ (t : Bor (List ℕ)). t.now) o ≡ Some cs)
now_something None is = absurd cc
now_something (Some t) is = (t.now, refl)

-- there is always a word
some_word : (cs : List ℕ) → split_words cs ≡ [] → ⊥
some_word [] is = cc
some_word (c ∷ cs) is = elim (cases_Bool (nat_eq c 32)) [
  | inl space ↦ (let no : [] ∷ split_words cs ≡ [] = rw space at is in cc)
  | inr other ↦ (let no : to_first c (split_words cs) ≡ [] = rw other at is in by (split_words cs) no)
]
  where
    by : (ws : List (List ℕ)) → to_first c ws ≡ [] → ⊥
    by [] is = cc
    by (w ∷ ws) is = cc

pub words_begin : (line : List ℕ) → line ≢ [] → words_of line ≡ split_words line
words_begin [] some = absurd (some refl)
words_begin (c ∷ cs) some = refl

-- ---- a row

-- values before others, where there are these
abbrev pub behind : Row → Option Row → Option Row
behind row o = option_map (λ (values : Row). row ++ values) o

behind_none : (o : Option Row) → o ≡ behind [] o
behind_none None = refl
behind_none (Some values) = refl

behind_one : (row : Row) (u : ℕ) (o : Option Row) → behind row (with_value (Some u) o) ≡ behind (row ++ u ∷ []) o
behind_one row u None = refl
behind_one row u (Some values) = ap Some (sym (append_assoc row (u ∷ []) values))

-- an input and its length
pub next_input : (inputs : List Name) (i : ℕ) → i < length (map width_of inputs) → (x : Name) × (drop i inputs ≡ x ∷ drop (suc i) inputs) × (slice_index (map width_of inputs) i ≡ x.width)
next_input [] i lt = absurd (omega (arith, lt))
next_input (x ∷ inputs) zero lt = (x, refl, refl)
next_input (x ∷ inputs) (suc i) lt = next_input inputs i (omega (arith, lt))

all_inputs : (inputs : List Name) (i : ℕ) → length (map width_of inputs) ≤ i → drop i inputs ≡ []
all_inputs [] zero most = refl
all_inputs [] (suc i) most = refl
all_inputs (x ∷ inputs) zero most = absurd (omega (arith, most))
all_inputs (x ∷ inputs) (suc i) most = all_inputs inputs i (omega (arith, most))

-- the values of the first inputs, and what is left of the line
pub record RowLoop (widths : List ℕ) (line : List ℕ) (i : ℕ) (row : Row) (left : Option (List ℕ)) : Type 0 where
  pub is : (inputs : List Name) → widths ≡ map width_of inputs → row_of inputs line ≡ behind row (values_of (drop i inputs) (words_left left))

module _ (widths : List ℕ) (line : List ℕ) where
  pub row_begin : (row : Row) (left : Option (List ℕ)) → row ≡ [] → words_of line ≡ words_left left → RowLoop widths line 0 row left
  row_begin row left none words =
      subst (λ (r : Row). RowLoop widths line 0 r left) (sym none) (record { is = λ inputs listed. ap (values_of inputs) words ∙ behind_none (values_of inputs (words_left left)) })

  module _ (i : ℕ) (row : Row) (left : Option (List ℕ)) (lt : i < length widths) (l : RowLoop widths line i row left) (inputs : List Name) (listed : widths ≡ map width_of inputs) where
    abbrev input : (x : Name) × (drop i inputs ≡ x ∷ drop (suc i) inputs) × (slice_index (map width_of inputs) i ≡ x.width)
    input = next_input inputs i (subst (λ (ws : List ℕ). i < length ws) listed lt)

    pub row_now : row_of inputs line ≡ behind row (values_of (input.0 ∷ drop (suc i) inputs) (words_left left))
    row_now = l.is inputs listed ∙ ap (λ (xs : List Name). behind row (values_of xs (words_left left))) input.1

    pub row_stops : left ≡ None → None ≡ row_of inputs line
    row_stops none = sym (row_now ∙ ap (λ o. behind row (values_of (input.0 ∷ drop (suc i) inputs) (words_left o))) none)

    module _ (text word : List ℕ) (rest : Option (List ℕ)) (width : ℕ) (some : left ≡ Some text) (split : split_words text ≡ word ∷ words_left rest) (at : width ≡ slice_index widths i) where
      same_width : width ≡ input.0.width
      same_width = at ∙ (ap (λ (ws : List ℕ). slice_index ws i) listed ∙ input.2)

      pub row_valued : row_of inputs line ≡ behind row (with_value (value_of width word) (values_of (drop (suc i) inputs) (words_left rest)))
      row_valued =
          row_now ∙ (ap (λ o. behind row (values_of (input.0 ∷ drop (suc i) inputs) (words_left o))) some ∙ (ap (λ ws. behind row (values_of (input.0 ∷ drop (suc i) inputs) ws)) split
          ∙ ap (λ w. behind row (with_value (value_of w word) (values_of (drop (suc i) inputs) (words_left rest)))) (sym same_width)))

      pub row_fails : None ≡ value_of width word → None ≡ row_of inputs line
      row_fails fails = sym (row_valued ∙ ap (λ o. behind row (with_value o (values_of (drop (suc i) inputs) (words_left rest)))) (sym fails))

  pub row_step : (i : ℕ) (row new : Row) (left : Option (List ℕ)) (text word : List ℕ) (rest : Option (List ℕ)) (width u : ℕ) → i < length widths → left ≡ Some text → split_words text ≡ word ∷ words_left rest → width ≡ slice_index widths i → Some u ≡ value_of width word →
      new ≡ row ++ u ∷ [] → RowLoop widths line i row left → RowLoop widths line (i + 1) new rest
  row_step i row new left text word rest width u lt some split at value made l = record {
    is = λ inputs listed. rw add-one (
        row_valued i row left lt l inputs listed text word rest width some split at
        ∙ (ap (λ o. behind row (with_value o (values_of (drop (suc i) inputs) (words_left rest)))) (sym value)
        ∙ (behind_one row u (values_of (drop (suc i) inputs) (words_left rest)) ∙ ap (λ (r : Row). behind r (values_of (drop (suc i) inputs) (words_left rest))) (sym made))));
  }

  pub row_end : (i : ℕ) (row : Row) (left : Option (List ℕ)) → length widths ≤ i → RowLoop widths line i row left → (inputs : List Name) → widths ≡ map width_of inputs → row_of inputs line ≡ behind row (values_of [] (words_left left))
  row_end i row left most l inputs listed = l.is inputs listed ∙ ap (λ (xs : List Name). behind row (values_of xs (words_left left))) (all_inputs inputs i (subst (λ (ws : List ℕ). length ws ≤ i) listed most))

no_more : (row : Row) (cs : List ℕ) → behind row (values_of [] (split_words cs)) ≡ None
no_more row cs = by (split_words cs) (some_word cs)
  where
    by : (ws : List (List ℕ)) → (ws ≡ [] → ⊥) → behind row (values_of [] ws) ≡ None
    by [] some = absurd (some refl)
    by (w ∷ ws) some = refl

pub row_longer : (widths line : List ℕ) (i : ℕ) (row : Row) (left : Option (List ℕ)) (cs : List ℕ) → length widths ≤ i → left ≡ Some cs → RowLoop widths line i row left → (inputs : List Name) → widths ≡ map width_of inputs → None ≡ row_of inputs line
row_longer widths line i row left cs most some l inputs listed = sym (row_end widths line i row left most l inputs listed ∙ (ap (λ o. behind row (values_of [] (words_left o))) some ∙ no_more row cs))

pub row_whole : (widths line : List ℕ) (i : ℕ) (row : Row) (left : Option (List ℕ)) → length widths ≤ i → left ≡ None → RowLoop widths line i row left → (inputs : List Name) → widths ≡ map width_of inputs → Some row ≡ row_of inputs line
row_whole widths line i row left most none l inputs listed = sym (row_end widths line i row left most l inputs listed ∙ (ap (λ o. behind row (values_of [] (words_left o))) none ∙ ap Some (append-nil row)))

-- ---- values of a row fit

value_fits : (width : ℕ) (word : List ℕ) (u : ℕ) → value_of width word ≡ Some u → u < 2 ^ width
value_fits width word u is = elim (cases_Bool (is_number word && nat_lt (number_from 0 word) (2 ^ width))) [
  | inl whole ↦ (
      let some : Some (number_from 0 word) ≡ Some u = rw whole at is in
      let same : number_from 0 word ≡ u = cc in
      subst (λ n. n < 2 ^ width) same (ltb-true (number_from 0 word) (2 ^ width) (and_parts (is_number word) (nat_lt (number_from 0 word) (2 ^ width)) whole).1))
  | inr other ↦ absurd (let bad : None ≡ Some u = rw other at is in cc)
]

-- both parts of a row
parts : (o : Option ℕ) (p : Option Row) (row : Row) → with_value o p ≡ Some row → (u : ℕ) × (values : Row) × (o ≡ Some u) × (p ≡ Some values) × (row ≡ u ∷ values)
parts None p row is = absurd (let no : None ≡ Some row = is in cc)
parts (Some u) None row is = absurd (let no : None ≡ Some row = is in cc)
parts (Some u) (Some values) row is = (u, values, refl, refl, let some : Some (u ∷ values) ≡ Some row = is in cc)

values_fit : (inputs : List Name) (words : List (List ℕ)) (row : Row) → values_of inputs words ≡ Some row → AllZip (λ (input : Name) u. u < 2 ^ input.width) inputs row
values_fit [] [] row is = let some : Some [] ≡ Some row = is in subst (λ (r : Row). AllZip (λ (input : Name) u. u < 2 ^ input.width) [] r) (let same : [] ≡ row = cc in same) tt
values_fit [] (w ∷ words) row is = absurd (let no : None ≡ Some row = is in cc)
values_fit (x ∷ inputs) [] row is = absurd (let no : None ≡ Some row = is in cc)
values_fit (x ∷ inputs) (w ∷ words) row is =
    let p = parts (value_of x.width w) (values_of inputs words) row is in
    subst (λ (r : Row). AllZip (λ (input : Name) u. u < 2 ^ input.width) (x ∷ inputs) r) (sym p.4) (value_fits x.width w p.0 p.2, values_fit inputs words p.1 p.3)

pub rows_fit : (inputs : List Name) (text : List ℕ) (rows : List Row) → SpellsRows inputs text rows → All (λ (row : Row). AllZip (λ (input : Name) u. u < 2 ^ input.width) inputs row) rows
rows_fit inputs _ _ no_lines = All-nil (λ (row : Row). AllZip (λ (input : Name) u. u < 2 ^ input.width) inputs row)
rows_fit inputs _ _ (one_line line text row rows spelt rest) = All-cons (λ (r : Row). AllZip (λ (input : Name) u. u < 2 ^ input.width) inputs r) row rows (values_fit inputs (words_of line) row spelt.1) (rows_fit inputs text rows rest)
