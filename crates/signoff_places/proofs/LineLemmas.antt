-- Where lists are cut, and how what is shown of a line goes on by one byte.
use Rattle.std.proofs.Common.{◌≡◌, ℕ, ◌+◌, ◌-◌, ◌<◌, ◌≤◌, true, false, not, List, [], ◌∷◌, ◌++◌, length, take, drop, map, get_or, inl, inr, sym, ap, subst, ◌∙◌, arith, append_assoc}
use Rattle.std.specs.List.{suffix_len, flat_map}
use Rattle.std.proofs.lemmas.Bool.{cases_eq}
use Rattle.std.proofs.lemmas.List.{take_more, take_rest, take_min, drop_min, map_more, flat_map_more}
use Rattle.std.proofs.lemmas.List.Sums.{suffix_len_is, position_or_len_is}
use Rattle.signoff_places.specs.Lines.{is_feed, last_line, first_line, shown, room}

-- a cut at a place past the end is one at the end
pub ruleset cut = (take_rest, take_min, drop_min)

pub last_line_from : (text : List ℕ) (n : ℕ) → n ≤ length text → ((k : ℕ) → n ≤ k → k < length text → is_feed (get_or text k 0) ≡ false) →
    (0 < n → is_feed (get_or text (n - 1) 0) ≡ true) → last_line text ≡ drop n text
unfolding last_line
last_line_from text n le none stop =
    let size : suffix_len (λ b. not (is_feed b)) text ≡ length text - n = suffix_len_is (λ b. not (is_feed b)) text n 0 le (λ k from below. ap not (none k from below)) (λ some. ap not (stop some)) in
    let cut_at : length text - suffix_len (λ b. not (is_feed b)) text ≡ n = omega arith in
    ap (λ m. drop m text) cut_at

pub first_line_to : (text : List ℕ) (n : ℕ) → n ≤ length text → ((k : ℕ) → k < n → is_feed (get_or text k 0) ≡ false) →
    (n < length text → is_feed (get_or text n 0) ≡ true) → first_line text ≡ take n text
unfolding first_line
first_line_to text n le none stop = ap (λ m. take m text) (position_or_len_is is_feed text n 0 le none stop)

-- what holds from a place on, and of the place before it
pub from_less : (P : ℕ → Type 0) (n size : ℕ) → ((k : ℕ) → n ≤ k → k < size → P k) → P (n - 1) → (k : ℕ) → n - 1 ≤ k → k < size → P k
from_less P n size above here k from below = elim (cases_eq k (n - 1)) [ inl e ↦ subst P (sym e) here | inr ne ↦ above k (omega arith) below ]

pub shown_more : (start bs : List ℕ) (i : ℕ) → i < length bs → start ++ map shown (take i bs) ++ shown (get_or bs i 0) ∷ [] ≡ start ++ map shown (take (i + 1) bs)
shown_more start bs i lt = append_assoc start (map shown (take i bs)) (shown (get_or bs i 0) ∷ []) ∙ ap (λ xs. start ++ xs) (sym (map_more shown bs i 0 lt))

pub room_more : (start bs : List ℕ) (i : ℕ) → i < length bs → start ++ flat_map room (take i bs) ++ room (get_or bs i 0) ≡ start ++ flat_map room (take (i + 1) bs)
room_more start bs i lt = flat_map_more room start (take i bs) (get_or bs i 0) ∙ ap (λ xs. start ++ flat_map room xs) (sym (take_more bs i 0 lt))
