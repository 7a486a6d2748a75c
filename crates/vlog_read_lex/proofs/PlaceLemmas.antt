-- How the first place, the end of a run and the end of a comment go on by one byte.
use Rattle.std.proofs.Common.{◌≡◌, ℕ, suc, ◌+◌, ◌-◌, ◌<◌, ◌≤◌, Bool, true, false, not, List, length, get_or, refl, ap, arith}
use Rattle.std.specs.Prelude.{Some, None, unwrap_or}
use Rattle.std.specs.Option.{option_map}
use Rattle.vlog_read_lex.specs.declared.class.Class.{Class}
use Rattle.vlog_read_lex.specs.Bytes.{has}
use Rattle.vlog_read_lex.specs.Places.{first_of, first_place, has_pair, run_end, closing}

pub first_place-here : (q : ℕ → Bool) (i e : ℕ) → i < e → q i ≡ true → first_place q i e ≡ Some i
unfolding first_place
first_place-here q i e lt h = let k : e - i ≡ suc (e - suc i) = omega arith in rw k (rw h refl)

pub first_place-next : (q : ℕ → Bool) (i e : ℕ) → i < e → q i ≡ false → first_place q i e ≡ first_place q (i + 1) e
unfolding first_place
first_place-next q i e lt h =
    let k : e - i ≡ suc (e - suc i) = omega arith in
    let s : suc i ≡ i + 1 = omega arith in
    rw k (rw h (ap (λ j. first_of q (e - j) j) s))

pub first_place-none : (q : ℕ → Bool) (i e : ℕ) → e ≤ i → first_place q i e ≡ None
unfolding first_place
first_place-none q i e le = let k : e - i ≡ 0 = omega arith in rw k refl

pub run_end-here : (class : Class) (bs : List ℕ) (i : ℕ) → i < length bs → has class (get_or bs i 0) ≡ false → run_end class bs i ≡ i
unfolding run_end
run_end-here class bs i lt h =
    ap (λ o. unwrap_or o (length bs)) (first_place-here (λ k. not (has class (get_or bs k 0))) i (length bs) lt (ap not h))

pub run_end-next : (class : Class) (bs : List ℕ) (i : ℕ) → i < length bs → has class (get_or bs i 0) ≡ true → run_end class bs i ≡ run_end class bs (i + 1)
unfolding run_end
run_end-next class bs i lt h =
    ap (λ o. unwrap_or o (length bs)) (first_place-next (λ k. not (has class (get_or bs k 0))) i (length bs) lt (ap not h))

pub run_end-end : (class : Class) (bs : List ℕ) (i : ℕ) → length bs ≤ i → run_end class bs i ≡ length bs
unfolding run_end
run_end-end class bs i le = ap (λ o. unwrap_or o (length bs)) (first_place-none (λ k. not (has class (get_or bs k 0))) i (length bs) le)

pub closing-here : (last : ℕ) (bs : List ℕ) (i : ℕ) → i < length bs → has_pair 42 last bs i ≡ true → closing last bs i ≡ Some (i + 2)
unfolding closing
closing-here last bs i lt h = ap (option_map (λ k. k + 2)) (first_place-here (has_pair 42 last bs) i (length bs) lt h)

pub closing-next : (last : ℕ) (bs : List ℕ) (i : ℕ) → i < length bs → has_pair 42 last bs i ≡ false → closing last bs i ≡ closing last bs (i + 1)
unfolding closing
closing-next last bs i lt h = ap (option_map (λ k. k + 2)) (first_place-next (has_pair 42 last bs) i (length bs) lt h)

pub closing-end : (last : ℕ) (bs : List ℕ) (i : ℕ) → length bs ≤ i → closing last bs i ≡ None
unfolding closing
closing-end last bs i le = ap (option_map (λ k. k + 2)) (first_place-none (has_pair 42 last bs) i (length bs) le)
