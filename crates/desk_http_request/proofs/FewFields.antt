-- A head within a front has at most 64 fields.
use Rattle.std.proofs.Common.{◌≡◌, ◌≤◌, ◌<◌, ℕ, ◌+◌, ◌-◌, Bool, true, false, cond, List, [], ◌∷◌, ◌++◌, take, length, refl, sym, ap, ◌∙◌, subst, arith, append-nil}
use Prim.Native.Nat.{zero, suc}
use Rattle.std.proofs.lemmas.Bool.Decides.{nat_tests}
use Rattle.std.specs.Prelude.{◌==◌, ◌||◌, if◌then◌else◌, IsTrue}
use Rattle.std.specs.List.{flat_map}
use Rattle.httparse.specs.Grammar.{LineEnd, crlf, lf, print_end, print_blank, print_version, print_field, print_section, Field, RequestHead, ReadsRequest, print_request, is_token_byte, IsToken}
use Rattle.httparse.specs.Grammar.{HasNoRequest}
use Rattle.httparse.specs.Spans.{RequestOverflows}
use Rattle.httparse.proofs.GrammarLemmas.{print_request-append}
use Rattle.desk_http_request.specs.Front.{front, lines_of, lines_after_breaks, is_line_break, skip_breaks}

-- how many line feeds
abbrev feeds : List ℕ → ℕ
feeds [] = 0
feeds (b ∷ bs) = (if b == 10 then 1 else 0) + feeds bs

feeds-append : (xs ys : List ℕ) → feeds (xs ++ ys) ≡ feeds xs + feeds ys
feeds-append [] ys = omega arith
feeds-append (x ∷ xs) ys = omega (arith, feeds-append xs ys)

feeds-take : (k : ℕ) (xs : List ℕ) → feeds (take k xs) ≤ feeds xs
feeds-take zero [] = omega arith
feeds-take (suc k) [] = omega arith
feeds-take zero (x ∷ xs) = omega arith
feeds-take (suc k) (x ∷ xs) = omega (arith, feeds-take k xs)

feeds-skip : (xs : List ℕ) → feeds (skip_breaks xs) ≤ feeds xs
feeds-skip [] = omega arith
feeds-skip (x ∷ xs) = go (is_line_break x) (feeds-skip xs)
  where
    go : (b : Bool) → feeds (skip_breaks xs) ≤ feeds xs → feeds (cond b (skip_breaks xs) (x ∷ xs)) ≤ feeds (x ∷ xs)
    go true h = omega (arith, h)
    go false h = omega arith

feeds-lines : (n : ℕ) (bs : List ℕ) → feeds (lines_of n bs) ≤ n
feeds-lines n [] = omega arith
feeds-lines n (b ∷ bs) = go (λ m. feeds-lines m bs) (n == 0) refl (b == 10) refl
  where
    go : ((m : ℕ) → feeds (lines_of m bs) ≤ m) → (z : Bool) → (n == 0) ≡ z → (f : Bool) → (b == 10) ≡ f
        → feeds (cond z [] (b ∷ lines_of (cond f (n - 1) n) bs)) ≤ n
    go h true e f g = omega arith
    go h false e true g = let some : 0 < n = grind (arith, nat_tests) in rw g (omega (arith, h (n - 1)))
    go h false e false g = rw g (omega (arith, h n))

-- the lines of a front, after the breaks before them
lines_feeds : (k n : ℕ) (bs : List ℕ) → feeds (skip_breaks (take k (lines_after_breaks n bs))) ≤ n
lines_feeds zero n [] = omega arith
lines_feeds (suc k) n [] = omega arith
lines_feeds zero n (b ∷ bs) = go (is_line_break b)
  where
    go : (z : Bool) → feeds (skip_breaks (take 0 (cond z (b ∷ lines_after_breaks n bs) (lines_of n (b ∷ bs))))) ≤ n
    go true = omega arith
    go false = omega (arith, feeds-skip (take 0 (lines_of n (b ∷ bs))), feeds-take 0 (lines_of n (b ∷ bs)), feeds-lines n (b ∷ bs))
lines_feeds (suc k) n (b ∷ bs) = go (lines_feeds k n bs) (is_line_break b) refl
  where
    go : feeds (skip_breaks (take k (lines_after_breaks n bs))) ≤ n → (z : Bool) → is_line_break b ≡ z → feeds (skip_breaks (take (suc k) (cond z (b ∷ lines_after_breaks n bs) (lines_of n (b ∷ bs))))) ≤ n
    go h true e = rw e h
    go h false e = omega (arith, feeds-skip (take (suc k) (lines_of n (b ∷ bs))), feeds-take (suc k) (lines_of n (b ∷ bs)), feeds-lines n (b ∷ bs))

skip_blank : (ends : List LineEnd) (ys : List ℕ) → skip_breaks (print_blank ends ++ ys) ≡ skip_breaks ys
skip_blank [] ys = refl
skip_blank (crlf ∷ ends) ys = skip_blank ends ys
skip_blank (lf ∷ ends) ys = skip_blank ends ys

feeds-end : (e : LineEnd) → feeds (print_end e) ≡ 1
feeds-end crlf = refl
feeds-end lf = refl

feeds-fields : (fs : List Field) → length fs ≤ feeds (flat_map print_field fs)
feeds-fields [] = omega arith
feeds-fields (f ∷ fs) =
    omega (arith, feeds-append (print_field f) (flat_map print_field fs), feeds-fields fs, feeds-append (f.name ++ 58 ∷ f.raw) (print_end f.end), feeds-end f.end)

not_13 : IsTrue (is_token_byte 13) → ⊥
unfolding is_token_byte
not_13 h = let e : is_token_byte 13 ≡ false = refl in cc

not_10 : IsTrue (is_token_byte 10) → ⊥
unfolding is_token_byte
not_10 h = let e : is_token_byte 10 ≡ false = refl in cc

-- a token begins with no line break
token_first : (b : ℕ) → IsTrue (is_token_byte b) → is_line_break b ≡ false
token_first b h = go (b == 13) refl (b == 10) refl
  where
    go : (x : Bool) → (b == 13) ≡ x → (y : Bool) → (b == 10) ≡ y → (x || y) ≡ false
    go false e false f = refl
    go true e y f = let is : b ≡ 13 = grind (arith, nat_tests) in absurd (not_13 (subst (λ n. IsTrue (is_token_byte n)) is h))
    go false e true f = let is : b ≡ 10 = grind (arith, nat_tests) in absurd (not_10 (subst (λ n. IsTrue (is_token_byte n)) is h))

skip_token : (m ys : List ℕ) → IsToken m → skip_breaks (m ++ ys) ≡ m ++ ys
skip_token [] ys h = absurd (omega (arith, h.0))
skip_token (b ∷ m) ys h = let e : is_line_break b ≡ false = token_first b (h.1 0 b (omega arith)) in rw e refl

-- what follows the blank lines of a head has a line feed for its request line, each field and the empty line
head_feeds : (h : RequestHead) (rest : List ℕ) → IsToken h.method
    → length h.fields + 2 ≤ feeds (skip_breaks (print_request h ++ rest))
head_feeds h rest token =
    let section = print_section h.fields h.last ++ rest in
    let version = print_version h.minor ++ (print_end h.line_end ++ section) in
    let target = h.target ++ 32 ∷ version in
    let line : skip_breaks (print_request h ++ rest) ≡ h.method ++ 32 ∷ target =
    ap skip_breaks (print_request-append h rest) ∙ skip_blank h.blank (h.method ++ 32 ∷ target) ∙ skip_token h.method (32 ∷ target) token in
    rw line (omega (
      arith,
      feeds-append h.method (32 ∷ target),
      feeds-append h.target (32 ∷ version),
      feeds-append (print_version h.minor) (print_end h.line_end ++ section),
      feeds-append (print_end h.line_end) section,
      feeds-append (print_section h.fields h.last) rest,
      feeds-append (flat_map print_field h.fields) (print_end h.last),
      feeds-end h.line_end,
      feeds-end h.last,
      feeds-fields h.fields,
    ))

pub few_fields : (bytes : List ℕ) (h : RequestHead) (rest : List ℕ) → ReadsRequest (front bytes) h rest → length h.fields ≤ 64
few_fields bytes h rest reads =
    let most : feeds (skip_breaks (print_request h ++ rest)) ≤ 66 = subst (λ (l : List ℕ). feeds (skip_breaks l) ≤ 66) reads.1 (lines_feeds 16384 66 bytes) in
    omega (arith, most, head_feeds h rest reads.0.method)

-- more than 65 fields don't stand in a front
pub none_here : (bytes text : List ℕ) → text ≡ front bytes → RequestOverflows 65 text → HasNoRequest (front bytes)
none_here bytes text e over h rest reads =
    let same : front bytes ≡ text ++ [] = sym (append-nil text ∙ e) in
    let many : 65 < length h.fields = over [] h rest (reads.0, sym same ∙ reads.1) in
    omega (arith, many, few_fields bytes h rest reads)
