-- Texts that are put one after another.
use Rattle.std.proofs.Common.{◌≡◌, ℕ, map, zero, suc, ◌+◌, ◌-◌, ◌<◌, ◌≤◌, drop, get_or, List, [], ◌∷◌, ◌++◌, Option, length, take, refl, sym, ap, ◌∙◌, subst, arith, append_assoc, inl, inr}
use Rattle.std.specs.Prelude.{Result, Ok, Err}
use Rattle.std.specs.List.{flat_map}
use Rattle.std.specs.Result.{IsErrAnd}
use Rattle.std.specs.Io.KnownBytes.{Appends}
use Rattle.std.proofs.KnownBytes.{Appends-nil, Appends-trans}
use Rattle.std.proofs.lemmas.Bool.{cases_lt}
use Rattle.std.proofs.lemmas.List.{take_all, take-append-le}
use Rattle.std.proofs.Math.Seq.{take-append-add, take-append_seam}
use Rattle.outside.specs.declared.fault.OutFault.{OutFault}
use Rattle.outside.specs.Faults.{Rose}
use Rattle.replay.specs.Puts.{Prints, Put, Refused}
use Rattle.word_dag.specs.Text.{spaced}
use Rattle.replay.specs.Texts.{row_line, row_lines}

pub put_none : {S : Type 0} (w : S → Option (List ℕ)) (f : S → ℕ) (a : S) → Put w f a a []
put_none w f a = record { appends = Appends-nil (w a); calm = refl }

pub put_then : {S : Type 0} {w : S → Option (List ℕ)} {f : S → ℕ} {a b c : S} {xs ys : List ℕ} → Put w f a b xs → Put w f b c ys → Put w f a c (xs ++ ys)
put_then {w = w} {a = a} {b = b} {c = c} {xs = xs} {ys = ys} h g =
    record { appends = Appends-trans (w a) (w b) (w c) xs ys h.appends g.appends; calm = g.calm ∙ h.calm }

-- what was put of the first text is put of both
refused_more : {S : Type 0} {w : S → Option (List ℕ)} {f : S → ℕ} {a b : S} {e : OutFault} {xs : List ℕ} (ys : List ℕ) → Refused w f a b e xs → Refused w f a b e (xs ++ ys)
refused_more {w = w} {a = a} {b = b} {xs = xs} ys h = record {
  prefix = elim (cases_lt (h.prefix.0) (length xs)) [
    | inl less ↦ (h.prefix.0, subst (λ (zs : List ℕ). Appends (w a) (w b) zs) (sym (take-append-le h.prefix.0 xs ys (omega (arith, less)))) h.prefix.1)
    | inr more ↦ (length xs, subst (λ (zs : List ℕ). Appends (w a) (w b) zs) (take_all h.prefix.0 xs more ∙ sym (take-append_seam xs ys)) h.prefix.1)
  ];
  later = h.later;
  failed = h.failed;
  memory = h.memory;
}

refused_then : {S : Type 0} {w : S → Option (List ℕ)} {f : S → ℕ} {a b c : S} {e : OutFault} {xs ys : List ℕ} → Put w f a b xs → Refused w f b c e ys → Refused w f a c e (xs ++ ys)
refused_then {w = w} {f = f} {a = a} {b = b} {c = c} {xs = xs} {ys = ys} g h = record {
  prefix = (length xs + h.prefix.0, subst (λ (zs : List ℕ). Appends (w a) (w c) zs) (sym (take-append-add xs ys h.prefix.0)) (Appends-trans (w a) (w b) (w c) xs (take h.prefix.0 ys) g.appends h.prefix.1));
  later = let same = g.calm in let up = h.later in omega (arith, same, up);
  failed = λ is. subst (λ (j : ℕ). Rose j (f c)) g.calm (h.failed is);
  memory = λ is. h.memory is ∙ g.calm;
}

-- what a last call returns
pub prints_then : {S T : Type 0} {w : S → Option (List ℕ)} {f : S → ℕ} {a b : S} {xs : List ℕ} (c : S) (r : Result T OutFault) (ys : List ℕ) → Put w f a b xs → Prints w f b c r ys → Prints w f a c r (xs ++ ys)
prints_then c (Ok v) ys h g = put_then h g
prints_then c (Err e) ys h g = refused_then h g

pub prints_same : {S T : Type 0} (w : S → Option (List ℕ)) (f : S → ℕ) (a b : S) (r : Result T OutFault) (xs ys : List ℕ) → xs ≡ ys → Prints w f a b r xs → Prints w f a b r ys
prints_same w f a b r xs ys same h = subst (λ (zs : List ℕ). Prints w f a b r zs) same h

-- what the exit of a first `?` returns
pub prints_less : {S T : Type 0} {w : S → Option (List ℕ)} {f : S → ℕ} {a b : S} {x : OutFault} {xs : List ℕ} (r : Result T OutFault) (ys : List ℕ)
    → IsErrAnd r (λ e. e ≡ x) → Refused w f a b x xs → Prints w f a b r (xs ++ ys)
prints_less (Ok v) ys is h = absurd is
prints_less {w = w} {f = f} {a = a} {b = b} {xs = xs} (Err e) ys is h = subst (λ (z : OutFault). Refused w f a b z (xs ++ ys)) (sym is) (refused_more ys h)

-- what the exit of a later `?` returns
pub prints_stopped : {S T : Type 0} {w : S → Option (List ℕ)} {f : S → ℕ} {a b c : S} {x : OutFault} {xs ys : List ℕ} (r : Result T OutFault) (zs : List ℕ)
    → IsErrAnd r (λ e. e ≡ x) → Put w f a b xs → Refused w f b c x ys → Prints w f a c r (xs ++ (ys ++ zs))
prints_stopped r zs is h g = prints_then _ r _ h (prints_less r zs is g)

flat_map_split : {X : Type 0} (p : X → List ℕ) (xs : List X) (i : ℕ) (d : X) → i < length xs
    → flat_map p (take i xs) ++ (p (get_or xs i d) ++ flat_map p (drop (suc i) xs)) ≡ flat_map p xs
flat_map_split p [] i d some = absurd (omega (arith, some))
flat_map_split p (x ∷ xs) zero d some = refl
flat_map_split p (x ∷ xs) (suc i) d some =
    let less : i < length xs = omega (arith, some) in
    append_assoc (p x) (flat_map p (take i xs)) (p (get_or xs i d) ++ flat_map p (drop (suc i) xs)) ∙ ap (λ (ys : List ℕ). p x ++ ys) (flat_map_split p xs i d less)

-- what the exit of a `?` in a loop returns
pub stopped_in_loop : {S T X : Type 0} {w : S → Option (List ℕ)} {f : S → ℕ} {a b c : S} {x : OutFault} {text : List ℕ} (r : Result T OutFault) (p : X → List ℕ) (xs : List X) (i : ℕ) (d y : X)
    → flat_map p xs ≡ text → i < length xs → y ≡ get_or xs i d → IsErrAnd r (λ e. e ≡ x) → Put w f a b (flat_map p (take i xs)) → Refused w f b c x (p y) → Prints w f a c r text
stopped_in_loop {X = X} {w = w} {f = f} {a = a} {b = b} {c = c} {x = x} r p xs i d y whole less at is h g =
    subst (λ (ys : List ℕ). Prints w f a c r ys) (flat_map_split p xs i d less ∙ whole)
    (prints_stopped r _ is h (subst (λ (z : X). Refused w f b c x (p z)) at g))

-- what was put where a loop ends
pub done_in_loop : {S X : Type 0} {w : S → Option (List ℕ)} {f : S → ℕ} {a b : S} {text : List ℕ} (p : X → List ℕ) (xs : List X) (i : ℕ)
    → flat_map p xs ≡ text → length xs ≤ i → Put w f a b (flat_map p (take i xs)) → Put w f a b text
done_in_loop {w = w} {f = f} {a = a} {b = b} p xs i whole all h = subst (λ (ys : List ℕ). Put w f a b ys) (ap (flat_map p) (take_all i xs all) ∙ whole) h

-- words, each behind a space
pub spaced_each : {X : Type 0} (word : X → List ℕ) (xs : List X) → flat_map (λ (x : X). 32 ∷ word x) xs ≡ spaced (map word xs)
spaced_each word [] = refl
spaced_each word (x ∷ xs) = ap (λ (ys : List ℕ). 32 ∷ (word x ++ ys)) (spaced_each word xs)

pub spaced_words : (ws : List (List ℕ)) → flat_map (λ (w : List ℕ). 32 ∷ w) ws ≡ spaced ws
spaced_words [] = refl
spaced_words (w ∷ ws) = ap (λ (ys : List ℕ). 32 ∷ (w ++ ys)) (spaced_words ws)

-- the rest of a list
abbrev pub rest_of : {X : Type 0} → List X → List X
rest_of xs = take (length xs - 1) (drop 1 xs)

rest_is : {X : Type 0} (x : X) (xs : List X) → rest_of (x ∷ xs) ≡ xs
rest_is x xs = let long : length xs ≤ length (x ∷ xs) - 1 = omega arith in take_all (length (x ∷ xs) - 1) xs long

pub split_rows : (before i : ℕ) (rows : List (List ℕ)) (row numbers : List ℕ) → 1 ≤ length rows → row ≡ get_or rows 0 row → numbers ≡ row → row_line before i numbers ++ row_lines before (i + 1) (rest_of rows) ≡ row_lines before i rows
split_rows before i [] row numbers some is same = absurd (omega (arith, some))
split_rows before i (x ∷ rows) row numbers some is same =
    let next : i + 1 ≡ suc i = omega arith in
    ap (λ (z : List ℕ). row_line before i z ++ row_lines before (i + 1) (rest_of (x ∷ rows))) (same ∙ is)
    ∙ (ap (λ (z : List (List ℕ)). row_line before i x ++ row_lines before (i + 1) z) (rest_is x rows) ∙ ap (λ (k : ℕ). row_line before i x ++ row_lines before k rows) next)

pub ruleset putting = (put_none, put_then, prints_then)
