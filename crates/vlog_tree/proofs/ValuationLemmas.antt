-- Lists of entries.
use Rattle.std.proofs.Common.{◌≡◌, ℕ, zero, suc, ◌+◌, ◌<◌, ◌≤◌, add-one, List, [], ◌∷◌, ◌++◌, length, take, set, get_or, arith, refl, ap, sym, ◌∙◌}
use Rattle.vlog_tree.specs.declared.valuation.Entry.{Entry}
use Rattle.vlog_tree.specs.Valuation.{AllFit, EntryFits, written}

pub AllFit-push : (es : List Entry) (e : Entry) → AllFit es → EntryFits e → AllFit (es ++ e ∷ [])
AllFit-push [] e f h = (h, tt)
AllFit-push (x ∷ es) e f h = (f.0, AllFit-push es e f.1 h)

pub written_none : (es : List Entry) → es ≡ written es []
written_none [] = refl
written_none (e ∷ es) = refl

-- one more value
pub written_next : (es : List Entry) (xs : List ℕ) (i : ℕ) (e : Entry) → i < length es → i < length xs → e ≡ get_or (written es (take i xs)) i e →
    set (written es (take i xs)) i (record e { value = get_or xs i 0 }) ≡ written es (take (suc i) xs)
written_next [] xs i e l m is = absurd (omega arith)
written_next (y ∷ es) [] i e l m is = absurd (omega arith)
written_next (y ∷ es) (x ∷ xs) zero e l m is = ap (λ (z : Entry). record z { value = x } ∷ es) is ∙ sym (ap (λ zs. record y { value = x } ∷ zs) (sym (written_none es)))
written_next (y ∷ es) (x ∷ xs) (suc i) e l m is = ap (λ zs. record y { value = x } ∷ zs) (written_next es xs i e (omega arith) (omega arith) is)

pub next_written : (es : List Entry) (xs : List ℕ) (i : ℕ) (e : Entry) (now : List Entry) → now ≡ written es (take i xs) → length xs ≤ length es → i < length xs → e ≡ get_or now i e →
    set now i (record e { value = get_or xs i 0 }) ≡ written es (take (i + 1) xs)
next_written es xs i e now h few m is =
    let l : i < length es = omega arith in
    let is' : e ≡ get_or (written es (take i xs)) i e = rw h at is in
    rw (h, add-one) (written_next es xs i e l m is')
