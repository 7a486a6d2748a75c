use Rattle.std.proofs.Common.{◌≡◌, ◌<◌, ◌≤◌, ◌+◌, ℕ, List, [], ◌∷◌, ◌++◌, length, get_or, Option, Some, None, MatchOption, ap, sym, refl, ◌∙◌, arith}
use Rattle.std.specs.List.{flat_map, All}
use Rattle.std.proofs.lemmas.List.{append_assoc, append-nil, flat_map_more, get_or_at, length-append, length_push}
use Rattle.std.proofs.lemmas.List.Elements.{All-nil, All-push, All-same}
use Rattle.proof_store_records.specs.Front.{Lacks, Starts}
use Rattle.proof_store_records.specs.Layout.{counted, FitsList}

pub option_weaker : {X : Type 0} (o : Option X) (P P' : Type 0) (Q Q' : X → Type 0) → (P → P') → ((x : X) → Q x → Q' x) → MatchOption o P Q → MatchOption o P' Q'
option_weaker None P P' Q Q' f g h = f h
option_weaker (Some x) P P' Q Q' f g h = g x h

pub front_byte : (bytes rest : List ℕ) (d : ℕ) → bytes ≡ d ∷ rest → ((i : ℕ) → get_or bytes i 0 < 256) → d < 256
front_byte bytes rest d e small = let h = small 0 in rw e at h

-- these items stand in front, one after another, and no other list of at least as many begins otherwise
pub record TakesMany {X : Type 0} (Fit : X → Type 0) (code : X → List ℕ) (bytes : List ℕ) (items : List X) (rest : List ℕ) : Type 0 where
  pub fits : All Fit items
  pub is : bytes ≡ flat_map code items ++ rest
  pub only : (xs : List X) (r : List ℕ) → All Fit xs → length items ≤ length xs → bytes ≡ flat_map code xs ++ r → (more : List X) × (xs ≡ items ++ more) × (rest ≡ flat_map code more ++ r)

module _ {X : Type 0} (Fit : X → Type 0) (code : X → List ℕ) where
  pub many_none : (bytes : List ℕ) → TakesMany Fit code bytes [] bytes
  many_none bytes = record { fits = All-nil Fit; is = refl; only = λ xs r fits long is. (xs, refl, is) }

  fits_at : (items xs ms : List X) (m : X) → All Fit xs → xs ≡ items ++ m ∷ ms → Fit m
  fits_at items xs ms m fits e =
      let h = All-same Fit (items ++ m ∷ ms) xs (sym e) fits (length items) m (omega (arith, length-append items (m ∷ ms))) in
      rw (get_or_at items m ms m (length items) refl) at h

  one_more : (items xs more : List X) (x : X) (rest after r : List ℕ) → Starts Fit code rest x after → All Fit xs → xs ≡ items ++ more → length items + 1 ≤ length xs → rest ≡ flat_map code more ++ r
      → (later : List X) × (xs ≡ (items ++ x ∷ []) ++ later) × (after ≡ flat_map code later ++ r)
  one_more items xs [] x rest after r starts fits e long is = let none : List X = [] in absurd (omega (arith, ap length e, length-append items none))
  one_more items xs (m ∷ ms) x rest after r starts fits e long is =
      let m_fits : Fit m = fits_at items xs ms m fits e in
      let same = starts.only m (flat_map code ms ++ r) m_fits (is ∙ append_assoc (code m) (flat_map code ms) r) in
      (ms, e ∙ (ap (λ y. items ++ (y ∷ ms)) same.0 ∙ sym (append_assoc items (x ∷ []) ms)), sym same.1)

  pub many_more : (bytes rest after : List ℕ) (items : List X) (x : X) → TakesMany Fit code bytes items rest → Starts Fit code rest x after → TakesMany Fit code bytes (items ++ x ∷ []) after
  many_more bytes rest after items x many starts = record {
    fits = All-push Fit items x many.fits starts.fits;
    is = many.is ∙ (ap (λ r. flat_map code items ++ r) starts.is ∙ (sym (append_assoc (flat_map code items) (code x) after) ∙ ap (λ ds. ds ++ after) (flat_map_more code [] items x)));
    only = λ xs r fits long is.
        let m = many.only xs r fits (omega (arith, length_push items x)) is in
        one_more items xs m.0 x rest after r starts fits m.1 (omega (arith, length_push items x)) m.2;
  }

  no_more : (items xs more : List X) (rest r : List ℕ) → Lacks Fit code rest → All Fit xs → xs ≡ items ++ more → length items < length xs → rest ≡ flat_map code more ++ r → ⊥
  no_more items xs [] rest r none fits e long is = let empty : List X = [] in absurd (omega (arith, ap length e, length-append items empty))
  no_more items xs (m ∷ ms) rest r none fits e long is =
      let m_fits : Fit m = fits_at items xs ms m fits e in
      none m (flat_map code ms ++ r) m_fits (is ∙ append_assoc (code m) (flat_map code ms) r)

  pub many_stuck : (bytes rest : List ℕ) (items : List X) → TakesMany Fit code bytes items rest → Lacks Fit code rest → (xs : List X) (r : List ℕ) → All Fit xs → length items < length xs → bytes ≡ flat_map code xs ++ r → ⊥
  many_stuck bytes rest items many none xs r fits long is =
      let m = many.only xs r fits (omega arith) is in
      no_more items xs m.0 rest r none fits m.1 long m.2

  nothing_more : (items xs more : List X) (rest r : List ℕ) → xs ≡ items ++ more → length xs ≡ length items → rest ≡ flat_map code more ++ r → (xs ≡ items) × (r ≡ rest)
  nothing_more items xs [] rest r e same is = (e ∙ append-nil items, sym is)
  nothing_more items xs (m ∷ ms) rest r e same is = absurd (omega (arith, ap length e, length-append items (m ∷ ms)))

  pub many_all : (bytes rest : List ℕ) (items : List X) → TakesMany Fit code bytes items rest → (xs : List X) (r : List ℕ) → All Fit xs → length xs ≡ length items → bytes ≡ flat_map code xs ++ r → (xs ≡ items) × (r ≡ rest)
  many_all bytes rest items many xs r fits same is =
      let m = many.only xs r fits (omega arith) is in
      nothing_more items xs m.0 rest r m.1 same m.2

  module _ (limit : ℕ) (count : ℕ → List ℕ) where
    inside : (bytes after : List ℕ) (n : ℕ) → Starts (λ n. n < limit) count bytes n after → (xs : List X) (r : List ℕ) → FitsList limit Fit xs → bytes ≡ counted count code xs ++ r → (length xs ≡ n) × (after ≡ flat_map code xs ++ r)
    inside bytes after n starts xs r fits is =
        let same = starts.only (length xs) (flat_map code xs ++ r) fits.count (is ∙ append_assoc (count (length xs)) (flat_map code xs) r) in
        (same.0, sym same.1)

    pub counted_stuck : (bytes after rest : List ℕ) (n : ℕ) (items : List X) → Starts (λ n. n < limit) count bytes n after → TakesMany Fit code after items rest → Lacks Fit code rest → length items < n → Lacks (FitsList limit Fit) (counted count code) bytes
    counted_stuck bytes after rest n items starts many none short xs r fits is =
        let i = inside bytes after n starts xs r fits is in
        let same = i.0 in
        many_stuck after rest items many none xs r fits.each (omega arith) i.1

    pub counted_all : (bytes after rest : List ℕ) (n : ℕ) (items : List X) → Starts (λ n. n < limit) count bytes n after → TakesMany Fit code after items rest → length items ≡ n → Starts (FitsList limit Fit) (counted count code) bytes items rest
    counted_all bytes after rest n items starts many all = record {
      fits = record { count = let below = starts.fits in omega arith; each = many.fits };
      is = starts.is ∙ (ap (λ r. count n ++ r) many.is ∙ (sym (append_assoc (count n) (flat_map code items) rest) ∙ ap (λ k. (count k ++ flat_map code items) ++ rest) (sym all)));
      only = λ xs r fits is.
          let i = inside bytes after n starts xs r fits is in
          many_all after rest items many xs r fits.each (i.0 ∙ sym all) i.1;
    }

-- a code by way of other values
module _ {X Y : Type 0} (F : X → Type 0) (code : X → List ℕ) (down : Y → X) (G : Y → Type 0) (kept : (y : Y) → G y → F (down y)) where
  pub by_none : (bytes : List ℕ) → Lacks F code bytes → Lacks G (λ y. code (down y)) bytes
  by_none bytes none y r fits is = none (down y) r (kept y fits) is

  pub by_odd : (bytes : List ℕ) (x : X) (rest : List ℕ) → Starts F code bytes x rest → ((y : Y) → G y → down y ≡ x → ⊥) → Lacks G (λ y. code (down y)) bytes
  by_odd bytes x rest starts odd y r fits is = odd y fits (starts.only (down y) r (kept y fits) is).0

  pub by_one : (bytes : List ℕ) (x : X) (y : Y) (rest : List ℕ) → Starts F code bytes x rest → down y ≡ x → G y → ((z : Y) → G z → down z ≡ down y → z ≡ y) → Starts G (λ y. code (down y)) bytes y rest
  by_one bytes x y rest starts e fits one = record {
    fits = fits;
    is = starts.is ∙ ap (λ v. code v ++ rest) (sym e);
    only = λ z r g is.
        let same = starts.only (down z) r (kept z g) is in
        (one z g (same.0 ∙ sym e), same.1);
  }

-- two values, one after the other
module _ {X Y : Type 0} (F : X → Type 0) (first : X → List ℕ) (G : Y → Type 0) (second : Y → List ℕ) where
  abbrev Both : X × Y → Type 0
  Both p = F p.0 × G p.1

  abbrev both : X × Y → List ℕ
  both p = first p.0 ++ second p.1

  pub both_one : (bytes rest after : List ℕ) (x : X) (y : Y) → Starts F first bytes x rest → Starts G second rest y after → Starts Both both bytes (x, y) after
  both_one bytes rest after x y starts then = record {
    fits = (starts.fits, then.fits);
    is = starts.is ∙ (ap (λ r. first x ++ r) then.is ∙ sym (append_assoc (first x) (second y) after));
    only = λ p r fits is.
        let same = starts.only p.0 (second p.1 ++ r) fits.0 (is ∙ append_assoc (first p.0) (second p.1) r) in
        let later = then.only p.1 r fits.1 (sym same.1) in
        (ap (λ v. (v, p.1)) same.0 ∙ ap (λ w. (x, w)) later.0, later.1);
  }
