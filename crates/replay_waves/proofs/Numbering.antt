-- Texts of the elements of a list, one after another.
use Rattle.std.proofs.Common.{◌≡◌, ℕ, zero, suc, ◌+◌, ◌<◌, List, [], ◌∷◌, ◌++◌, length, get_or, take, sym, ap, ◌∙◌, append_assoc, zero-add, add-one, arith}
use Rattle.std.specs.Prelude.{Bool, true, false, if◌then◌else◌}
use Rattle.std.specs.List.{enumerate_from, flat_map}
use Rattle.std.proofs.lemmas.List.{append-nil}
use Rattle.replay_waves.specs.Waves.{each}

-- the next element, with its place
next : {X : Type 0} (f : ℕ × X → List ℕ) (n : ℕ) (xs : List X) (k : ℕ) (x : X) → k < length xs → x ≡ get_or xs k x
    → flat_map f (enumerate_from n (take (suc k) xs)) ≡ flat_map f (enumerate_from n (take k xs)) ++ f (n + k, x)
next f n [] k x less is = absurd (omega arith)
next {X} f n (y ∷ ys) zero x less is =
    let same : n ≡ n + 0 = omega arith in
    append-nil (f (n, y)) ∙ (ap (λ (z : X). f (n, z)) (sym is) ∙ ap (λ (m : ℕ). f (m, x)) same)
next f n (y ∷ ys) (suc k) x less is =
    let same : n + 1 + k ≡ n + suc k = omega arith in
    ap (λ (zs : List ℕ). f (n, y) ++ zs) (next f (n + 1) ys k x (omega arith) is ∙ ap (λ (m : ℕ). flat_map f (enumerate_from (n + 1) (take k ys)) ++ f (m, x)) same)
    ∙ sym (append_assoc (f (n, y)) (flat_map f (enumerate_from (n + 1) (take k ys))) (f (n + suc k, x)))

-- the text of one more element with its place
pub one_more : {X : Type 0} (f : ℕ × X → List ℕ) (xs : List X) (k : ℕ) (x : X) (old out new : List ℕ) → k < length xs → x ≡ get_or xs k x
    → out ≡ old ++ flat_map f (enumerate_from 0 (take k xs)) → new ≡ out ++ f (k, x) → new ≡ old ++ flat_map f (enumerate_from 0 (take (k + 1) xs))
one_more f xs k x old out new less is was now =
    now ∙ (ap (λ (zs : List ℕ). zs ++ f (k, x)) was ∙ (append_assoc old (flat_map f (enumerate_from 0 (take k xs))) (f (k, x))
    ∙ ap (λ (zs : List ℕ). old ++ zs) (ap (λ (m : ℕ). flat_map f (enumerate_from 0 (take k xs)) ++ f (m, x)) (sym (zero-add k))
    ∙ (sym (next f 0 xs k x less is) ∙ ap (λ (m : ℕ). flat_map f (enumerate_from 0 (take m xs))) (sym (add-one k))))))

-- the text of one more number
pub each_more : (text : ℕ → List ℕ) (i : ℕ) (old out new : List ℕ) → out ≡ old ++ each text i → new ≡ out ++ text i → new ≡ old ++ each text (i + 1)
each_more text i old out new was now =
    now ∙ (ap (λ (zs : List ℕ). zs ++ text i) was ∙ (append_assoc old (each text i) (text i) ∙ ap (λ (m : ℕ). old ++ each text m) (sym (add-one i))))

-- a text that is put only where a test holds
pub where_true : (b : Bool) (text out new : List ℕ) → b ≡ true → new ≡ out ++ text → new ≡ out ++ (if b then text else [])
where_true b text out new holds now = rw holds now

pub where_false : (b : Bool) (text out new : List ℕ) → b ≡ false → new ≡ out → new ≡ out ++ (if b then text else [])
where_false b text out new fails now = rw fails (now ∙ sym (append-nil out))
