-- A key that is put at the end of an index.
use Rattle.std.proofs.Common.{◌≡◌, ◌≢◌, ℕ, zero, suc, ◌-◌, ◌<◌, ◌≤◌, List, [], ◌∷◌, ◌++◌, length, refl, sym, ap, ◌∙◌, subst, arith, inl, inr, length-append}
use Rattle.std.specs.Prelude.{slice_index, ◌⊎◌}
use Rattle.word_dag.specs.Keys.{IsLast, IsIndex}

pub at_front : (xs ys : List ℕ) (i : ℕ) → i < length xs → slice_index (xs ++ ys) i ≡ slice_index xs i
at_front [] ys i lt = absurd (omega arith)
at_front (x ∷ xs) ys zero lt = refl
at_front (x ∷ xs) ys (suc i) lt = at_front xs ys i (omega arith)

pub at_last : (xs : List ℕ) (y : ℕ) → slice_index (xs ++ y ∷ []) (length xs) ≡ y
at_last [] y = refl
at_last (x ∷ xs) y = at_last xs y

same_or : (i j : ℕ) → (i ≡ j) ⊎ (i ≢ j)
same_or i j = grind arith

below_or : (i n : ℕ) → i < suc n → (i < n) ⊎ (i ≡ n)
below_or i n lt = grind arith

-- a key after the places that are spoken of changes nothing
last_front : (keys : List ℕ) (y n key r : ℕ) → n ≤ length keys → IsLast keys n key r → IsLast (keys ++ y ∷ []) n key r
last_front keys y n key r le l = record {
  within = l.within;
  none_later = λ j p q e. l.none_later j p q (sym (at_front keys (y ∷ []) j (omega arith)) ∙ e);
  here = λ p. at_front keys (y ∷ []) (r - 1) (omega (arith, l.within)) ∙ l.here p;
}

-- another key at the end is not one's own
last_other : (keys : List ℕ) (y key r : ℕ) → y ≢ key → IsLast keys (length keys) key r → IsLast (keys ++ y ∷ []) (length (keys ++ y ∷ [])) key r
last_other keys y key r apart l =
    let long = length-append keys (y ∷ []) in
    record {
      within = omega (arith, l.within, long);
      none_later = λ j p q e. elim (below_or j (length keys) (omega (arith, long))) [ inl lt ↦ l.none_later j p lt (sym (at_front keys (y ∷ []) j lt) ∙ e) | inr is ↦ apart (sym (at_last keys y) ∙ ap (slice_index (keys ++ y ∷ [])) (sym is) ∙ e) ];
      here = λ p. at_front keys (y ∷ []) (r - 1) (omega (arith, l.within)) ∙ l.here p;
    }

last_own : (keys : List ℕ) (y r : ℕ) → r ≡ suc (length keys) → IsLast (keys ++ y ∷ []) (length (keys ++ y ∷ [])) y r
last_own keys y r is =
    let long = length-append keys (y ∷ []) in
    let e : r - 1 ≡ length keys = omega arith in
    record {
      within = omega (arith, long);
      none_later = λ j p q. absurd (omega (arith, long));
      here = λ p. ap (slice_index (keys ++ y ∷ [])) e ∙ at_last keys y;
    }

pub index_push : (keys before : List ℕ) (newest newer : ℕ → ℕ) (key last : ℕ) → last ≡ newest key → newer key ≡ suc (length keys) → ((q : ℕ) → q ≢ key → newer q ≡ newest q) → IsIndex keys before newest → IsIndex (keys ++ key ∷ []) (before ++ last ∷ []) newer
index_push keys before newest newer key last is own others x =
    let long = length-append keys (key ∷ []) in
    let long' = length-append before (last ∷ []) in
    record {
      long = omega (arith, long, long', x.long);
      newest_last = λ q. elim (same_or q key) [
        | inl e ↦ subst (λ k. IsLast (keys ++ key ∷ []) (length (keys ++ key ∷ [])) k (newer q)) (sym e) (last_own keys key (newer q) (ap newer e ∙ own))
        | inr ne ↦ last_other keys key q (newer q) (λ e. ne (sym e)) (subst (λ k. IsLast keys (length keys) q k) (sym (others q ne)) (x.newest_last q))
      ];
      before_last = λ i lt. elim (below_or i (length keys) (omega (arith, long))) [
        | inl p ↦ (let b = at_front before (last ∷ []) i (omega (arith, x.long)) in let k = at_front keys (key ∷ []) i p in subst (λ a. IsLast (keys ++ key ∷ []) i a (slice_index (before ++ last ∷ []) i)) (sym k) (subst (λ r. IsLast (keys ++ key ∷ []) i (slice_index keys i) r) (sym b) (last_front keys key i (slice_index keys i) (slice_index before i) (omega arith) (x.before_last i p))))
        | inr e ↦ at_end i e
      ];
    }
  where
    at_end : (i : ℕ) → i ≡ length keys → IsLast (keys ++ key ∷ []) i (slice_index (keys ++ key ∷ []) i) (slice_index (before ++ last ∷ []) i)
    at_end i e =
        let k : slice_index (keys ++ key ∷ []) i ≡ key = ap (slice_index (keys ++ key ∷ [])) e ∙ at_last keys key in
        let j : i ≡ length before = omega (arith, x.long) in
        let b : slice_index (before ++ last ∷ []) i ≡ newest key = ap (slice_index (before ++ last ∷ [])) j ∙ at_last before last ∙ is in
        let all : IsLast (keys ++ key ∷ []) (length keys) key (newest key) = last_front keys key (length keys) key (newest key) (omega arith) (x.newest_last key) in
        subst (λ a. IsLast (keys ++ key ∷ []) i a (slice_index (before ++ last ∷ []) i)) (sym k) (subst (λ r. IsLast (keys ++ key ∷ []) i key r) (sym b) (subst (λ n. IsLast (keys ++ key ∷ []) n key (newest key)) (sym e) all))

-- the same, with the new lists by equations
pub index_pushed : (keys before keys' before' : List ℕ) (newest newer : ℕ → ℕ) (key last : ℕ) → keys' ≡ keys ++ key ∷ [] → before' ≡ before ++ last ∷ [] → last ≡ newest key → newer key ≡ suc (length keys) → ((q : ℕ) → q ≢ key → newer q ≡ newest q) → IsIndex keys before newest → IsIndex keys' before' newer
index_pushed keys before keys' before' newest newer key last ek eb is own others x =
    rw (ek, eb) (index_push keys before newest newer key last is own others x)
