use Rattle.std.proofs.Common.{◌≡◌, ◌≤◌, ◌+◌, ℕ, true, false, cond, List, [], ◌∷◌, ◌++◌, length, Option, Some, None, refl, ap, sym, ◌∙◌, arith, append_assoc, append-nil}
use Rattle.std.specs.List.{after_first, before_first, position_or_len}
use Rattle.std.proofs.lemmas.List.{drop_all}
use Rattle.clause_check_texts.specs.declared.words.Number.{Number}
use Rattle.clause_check_texts.specs.Words.{number_of}
use Rattle.clause_check_texts.specs.Lines.{addition_if, addition_of, are_ended, deletion_if, is_delete, is_zero, numbers_of, rest_of, with_number}
use Rattle.clause_check_texts.specs.Lines.Content.{adds}

-- numbers in front of others
abbrev pub onto : List Number → Option (List Number) → Option (List Number)
onto xs None = None
onto xs (Some ys) = Some (xs ++ ys)

pub onto_nil : (o : Option (List Number)) → o ≡ onto [] o
onto_nil None = refl
onto_nil (Some ys) = refl

onto_more : (xs : List Number) (n : Number) (o : Option (List Number)) → onto xs (with_number (Some n) o) ≡ onto (xs ++ n ∷ []) o
onto_more xs n None = refl
onto_more xs n (Some ys) = ap Some (sym (append_assoc xs (n ∷ []) ys))

module _ (all : Option (List Number)) (xs : List Number) (rest : List (List ℕ)) (is : all ≡ onto xs (numbers_of rest)) where
  pub numbers_more : (word : List ℕ) (later : List (List ℕ)) (n : Number) → rest ≡ word ∷ later → Some n ≡ number_of word → all ≡ onto (xs ++ n ∷ []) (numbers_of later)
  numbers_more word later n e f =
      is ∙ (ap (λ ws. onto xs (numbers_of ws)) e ∙ (ap (λ o. onto xs (with_number o (numbers_of later))) (sym f) ∙ onto_more xs n (numbers_of later)))

  pub numbers_odd : (word : List ℕ) (later : List (List ℕ)) → rest ≡ word ∷ later → None ≡ number_of word → None ≡ all
  numbers_odd word later e f = sym (is ∙ (ap (λ ws. onto xs (numbers_of ws)) e ∙ ap (λ o. onto xs (with_number o (numbers_of later))) (sym f)))

  pub numbers_end : rest ≡ [] → Some xs ≡ all
  numbers_end e = sym (is ∙ (ap (λ ws. onto xs (numbers_of ws)) e ∙ ap Some (append-nil xs)))

module _ (id : ℕ) (ns : List Number) where
  pub addition_short : length ns ≤ position_or_len is_zero ns → None ≡ addition_of id ns
  addition_short le =
      let none : after_first is_zero ns ≡ [] = drop_all (position_or_len is_zero ns + 1) ns (omega arith) in
      sym (ap (λ (more : List Number). cond (are_ended more) (Some (adds id (before_first is_zero ns) (before_first is_zero more))) None) none)

  pub addition_odd : (more : List Number) → after_first is_zero ns ≡ more → false ≡ are_ended more → None ≡ addition_of id ns
  addition_odd more e odd =
      sym (ap (λ (m : List Number). cond (are_ended m) (Some (adds id (before_first is_zero ns) (before_first is_zero m))) None) e
      ∙ ap (λ b. cond b (Some (adds id (before_first is_zero ns) (before_first is_zero more))) None) (sym odd))

  pub addition_is : (more : List Number) → after_first is_zero ns ≡ more → true ≡ are_ended more → Some (adds id (before_first is_zero ns) (before_first is_zero more)) ≡ addition_of id ns
  addition_is more e ended =
      sym (ap (λ (m : List Number). cond (are_ended m) (Some (adds id (before_first is_zero ns) (before_first is_zero m))) None) e
      ∙ ap (λ b. cond b (Some (adds id (before_first is_zero ns) (before_first is_zero more))) None) (sym ended))

-- what follows the ID
module _ (id : ℕ) (rest : List (List ℕ)) (word : List ℕ) (later : List (List ℕ)) (e : rest ≡ word ∷ later) where
  pub rest_deletes : true ≡ is_delete word → rest_of id rest ≡ deletion_if (numbers_of later)
  rest_deletes d = ap (rest_of id) e ∙ ap (λ b. cond b (deletion_if (numbers_of later)) (addition_if id (numbers_of (word ∷ later)))) (sym d)

  pub rest_adds : false ≡ is_delete word → rest_of id rest ≡ addition_if id (numbers_of rest)
  rest_adds d =
      ap (rest_of id) e ∙ (ap (λ b. cond b (deletion_if (numbers_of later)) (addition_if id (numbers_of (word ∷ later)))) (sym d) ∙ ap (λ ws. addition_if id (numbers_of ws)) (sym e))
