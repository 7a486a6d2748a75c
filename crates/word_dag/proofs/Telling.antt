-- Equal texts are of equal nodes.
use Rattle.std.proofs.Common.{◌≡◌, ◌≢◌, ℕ, suc, ◌+◌, ◌%◌, ◌^◌, ◌<◌, ◌≤◌, ℤ, pos, negsuc, Bool, true, false, List, [], ◌∷◌, ◌++◌, length, refl, sym, ap, ◌∙◌, subst, arith, append_assoc}
use Rattle.std.specs.Prelude.{codes, if◌then◌else◌, ◌==◌}
use Rattle.std.proofs.lemmas.Bool.Decides.{nat_tests}
use lib.Signed.{mag}
use Rattle.std.specs.Str.{bytes_eq}
use Rattle.std.specs.Fmt.{decimal, signed_decimal}
use Rattle.std.proofs.lemmas.Fmt.{decimal_by_steps, decimal_injective, signed_decimal_injective}
use Rattle.word_core.specs.Words.{Bits, IsWord}
use Rattle.std.proofs.Math.Pow.{pow_mono}
use Rattle.word_dag.specs.declared.node.Op.{Op}
use Rattle.word_dag.specs.declared.node.Op.TheVariants.{Add, Sub, Mul, And, Or, Xor, Shl, Shr, Sar, Ult, Slt, Eq, Concat}
use Rattle.word_dag.specs.declared.node.Node.{Node}
use Rattle.word_dag.specs.declared.node.Node.TheVariants.{Free, Const, Two, Not, Slice, Zext, Sext, Mux}
use Rattle.word_dag.specs.Nodes.{width_of, IsSmall, AreSmall, Parts, IsOb}
use Rattle.word_dag.specs.Prints.{op_code}
use Rattle.word_dag.specs.Text.{spaced, line, op_word, kind_word, operand_words, node_line, lines_from, ob_text, IsClean, HasCleanName, HaveCleanNames, Tells}
use Rattle.word_dag.proofs.SameNodes.{same_op, same_word}

-- the name is clean, and the numbers are of 64 bits
abbrev IsPlain : Node → Type 0
IsPlain (Free name width side cycle) = IsClean name × (width < 2 ^ 64) × (side < 2 ^ 64) × (mag cycle < 2 ^ 63)
IsPlain (Const w) = (w.width < 2 ^ 64) × (w.value < 2 ^ 64)
IsPlain (Two op width a b) = (width < 2 ^ 64) × (a < 2 ^ 64) × (b < 2 ^ 64)
IsPlain (Not width a) = (width < 2 ^ 64) × (a < 2 ^ 64)
IsPlain (Slice width a lo) = (width < 2 ^ 64) × (a < 2 ^ 64) × (lo < 2 ^ 64)
IsPlain (Zext width a) = (width < 2 ^ 64) × (a < 2 ^ 64)
IsPlain (Sext width a) = (width < 2 ^ 64) × (a < 2 ^ 64)
IsPlain (Mux width c a b) = (width < 2 ^ 64) × (c < 2 ^ 64) × (a < 2 ^ 64) × (b < 2 ^ 64)

abbrev ArePlain : List Node → Type 0
ArePlain [] = Unit {0}
ArePlain (n ∷ ns) = IsPlain n × ArePlain ns

word_small : (w : Bits) → IsWord w → w.value < 2 ^ 64
word_small w h = let p : 2 ^ w.width ≤ 2 ^ 64 = pow_mono h.most in omega (arith, h.fits, p)

plain : (n : Node) → HasCleanName n → IsSmall n → IsPlain n
plain (Free name w s c) n p = (n, p.0, p.1, p.2)
plain (Const v) n p = (let m : v.width ≤ 64 = p.most in omega arith, word_small v p)
plain (Two op w a b) n p = p
plain (Not w a) n p = p
plain (Slice w a lo) n p = p
plain (Zext w a) n p = p
plain (Sext w a) n p = p
plain (Mux w c a b) n p = p

all_plain : (ns : List Node) → HaveCleanNames ns → AreSmall ns → ArePlain ns
all_plain [] c s = tt
all_plain (n ∷ ns) c s = (plain n c.0 s.0, all_plain ns c.1 s.1)

clean_append : (xs ys : List ℕ) → IsClean xs → IsClean ys → IsClean (xs ++ ys)
clean_append [] ys a b = b
clean_append (x ∷ xs) ys a b = (a.0, clean_append xs ys a.1 b)

clean_decimal : (n : ℕ) → n < 2 ^ 64 → IsClean (decimal n)
clean_decimal n lt =
    decimal_by_steps (λ n ds. IsClean ds) (λ n p. ((omega arith, omega arith), tt)) (λ n ds p c. clean_append ds ((48 + n % 10) ∷ []) c ((omega arith, omega arith), tt)) n lt

abbrev AllClean : List (List ℕ) → Type 0
AllClean [] = Unit {0}
AllClean (w ∷ ws) = IsClean w × AllClean ws

-- a clean word ends where a space or a line feed stands
word_ends : (w v : List ℕ) (ws vs : List (List ℕ)) (r q : List ℕ) → IsClean w → IsClean v → w ++ (spaced ws ++ 10 ∷ r) ≡ v ++ (spaced vs ++ 10 ∷ q) → (w ≡ v) × ((spaced ws ++ 10 ∷ r) ≡ (spaced vs ++ 10 ∷ q))
word_ends [] [] ws vs r q a b e = (refl, e)
word_ends [] (d ∷ v) [] vs r q a b e = let h : d ≡ 10 = cc in absurd (b.0.1 h)
word_ends [] (d ∷ v) (x ∷ ws) vs r q a b e = let h : d ≡ 32 = cc in absurd (b.0.0 h)
word_ends (c ∷ w) [] ws [] r q a b e = let h : c ≡ 10 = cc in absurd (a.0.1 h)
word_ends (c ∷ w) [] ws (x ∷ vs) r q a b e = let h : c ≡ 32 = cc in absurd (a.0.0 h)
word_ends (c ∷ w) (d ∷ v) ws vs r q a b e =
    let h : c ≡ d = cc in
    let t : w ++ (spaced ws ++ 10 ∷ r) ≡ v ++ (spaced vs ++ 10 ∷ q) = cc in
    let i = word_ends w v ws vs r q a.1 b.1 t in
    (ap (λ k. k ∷ w) h ∙ ap (λ k. d ∷ k) i.0, i.1)

heads : (x y : ℕ) (xs ys : List ℕ) → x ∷ xs ≡ y ∷ ys → x ≡ y
heads x y xs ys e = cc

tails : (x y : ℕ) (xs ys : List ℕ) → x ∷ xs ≡ y ∷ ys → xs ≡ ys
tails x y xs ys e = cc

words_tell : (ws vs : List (List ℕ)) (r q : List ℕ) → AllClean ws → AllClean vs → spaced ws ++ 10 ∷ r ≡ spaced vs ++ 10 ∷ q → (ws ≡ vs) × (r ≡ q)
words_tell [] [] r q a b e = (refl, tails 10 10 r q e)
words_tell [] (v ∷ vs) r q a b e = absurd (omega (arith, heads 10 32 r ((v ++ spaced vs) ++ 10 ∷ q) e))
words_tell (w ∷ ws) [] r q a b e = absurd (omega (arith, heads 32 10 ((w ++ spaced ws) ++ 10 ∷ r) q e))
words_tell (w ∷ ws) (v ∷ vs) r q a b e =
    let t = tails 32 32 ((w ++ spaced ws) ++ 10 ∷ r) ((v ++ spaced vs) ++ 10 ∷ q) e in
    let t' = sym (append_assoc w (spaced ws) (10 ∷ r)) ∙ t ∙ append_assoc v (spaced vs) (10 ∷ q) in
    let h = word_ends w v ws vs r q a.0 b.0 t' in
    let i = words_tell ws vs r q a.1 b.1 h.1 in
    (ap (λ k. k ∷ ws) h.0 ∙ ap (λ k. v ∷ k) i.0, i.1)

line_more : (w : List ℕ) (ws : List (List ℕ)) (r : List ℕ) → line w ws ++ r ≡ w ++ (spaced ws ++ 10 ∷ r)
line_more w ws r = append_assoc w (spaced ws ++ 10 ∷ []) r ∙ ap (λ k. w ++ k) (append_assoc (spaced ws) (10 ∷ []) r)

-- a test for clean words
abbrev no_gap : List ℕ → Bool
no_gap [] = true
no_gap (c ∷ cs) = if c == 32 then false else (if c == 10 then false else no_gap cs)

no_gap_clean : (w : List ℕ) → no_gap w ≡ true → IsClean w
no_gap_clean [] e = tt
no_gap_clean (c ∷ cs) e = by_tests (c == 32) (c == 10) refl refl (no_gap_clean cs) e
  where
    by_tests : (s t : Bool) → (c == 32) ≡ s → (c == 10) ≡ t → (no_gap cs ≡ true → IsClean cs) → (if s then false else (if t then false else no_gap cs)) ≡ true → ((c ≢ 32) × (c ≢ 10)) × IsClean cs
    by_tests true t f g r h = cc
    by_tests false true f g r h = cc
    by_tests false false f g r h = ((λ p. (let u : (c == 32) ≡ true = grind (arith, nat_tests) in let v : true ≡ false = sym u ∙ f in cc), λ p. (let u : (c == 10) ≡ true = grind (arith, nat_tests) in let v : true ≡ false = sym u ∙ g in cc)), r h)

op_no_gap : (op : Op) → no_gap (op_word op) ≡ true
op_no_gap Add = refl
op_no_gap Sub = refl
op_no_gap Mul = refl
op_no_gap And = refl
op_no_gap Or = refl
op_no_gap Xor = refl
op_no_gap Shl = refl
op_no_gap Shr = refl
op_no_gap Sar = refl
op_no_gap Ult = refl
op_no_gap Slt = refl
op_no_gap Eq = refl
op_no_gap Concat = refl

kind_no_gap : (n : Node) → no_gap (kind_word n) ≡ true
kind_no_gap (Free name width side cycle) = refl
kind_no_gap (Const w) = refl
kind_no_gap (Two op width a b) = op_no_gap op
kind_no_gap (Not width a) = refl
kind_no_gap (Slice width a lo) = refl
kind_no_gap (Zext width a) = refl
kind_no_gap (Sext width a) = refl
kind_no_gap (Mux width c a b) = refl

-- kinds by number
abbrev kind_at : List ℕ → ℕ
kind_at w =
    if bytes_eq w (codes "free") then 20 else if bytes_eq w (codes "const") then 21 else if bytes_eq w (codes "not") then 22 else if bytes_eq w (codes "slice") then 23 else if bytes_eq w (codes "zext") then 24 else if bytes_eq w (codes "sext") then 25 else if bytes_eq w (codes "mux") then 26 else if bytes_eq w (codes "add") then 1 else if bytes_eq w (codes "sub") then 2 else if bytes_eq w (codes "mul") then 3 else if bytes_eq w (codes "and") then 4 else if bytes_eq w (codes "or") then 5 else if bytes_eq w (codes "xor") then 6 else if bytes_eq w (codes "shl") then 7 else if bytes_eq w (codes "shr") then 8 else if bytes_eq w (codes "sar") then 9 else if bytes_eq w (codes "ult") then 10 else if bytes_eq w (codes "slt") then 11 else if bytes_eq w (codes "eq") then 12 else 13

abbrev kind_number : Node → ℕ
kind_number (Free name width side cycle) = 20
kind_number (Const w) = 21
kind_number (Two op width a b) = op_code op
kind_number (Not width a) = 22
kind_number (Slice width a lo) = 23
kind_number (Zext width a) = 24
kind_number (Sext width a) = 25
kind_number (Mux width c a b) = 26

op_numbered : (op : Op) → kind_at (op_word op) ≡ op_code op
op_numbered Add = refl
op_numbered Sub = refl
op_numbered Mul = refl
op_numbered And = refl
op_numbered Or = refl
op_numbered Xor = refl
op_numbered Shl = refl
op_numbered Shr = refl
op_numbered Sar = refl
op_numbered Ult = refl
op_numbered Slt = refl
op_numbered Eq = refl
op_numbered Concat = refl

op_small : (op : Op) → op_code op < 20
op_small Add = omega arith
op_small Sub = omega arith
op_small Mul = omega arith
op_small And = omega arith
op_small Or = omega arith
op_small Xor = omega arith
op_small Shl = omega arith
op_small Shr = omega arith
op_small Sar = omega arith
op_small Ult = omega arith
op_small Slt = omega arith
op_small Eq = omega arith
op_small Concat = omega arith

numbered : (n : Node) → kind_at (kind_word n) ≡ kind_number n
numbered (Free name width side cycle) = refl
numbered (Const w) = refl
numbered (Two op width a b) = op_numbered op
numbered (Not width a) = refl
numbered (Slice width a lo) = refl
numbered (Zext width a) = refl
numbered (Sext width a) = refl
numbered (Mux width c a b) = refl

abbrev words_of : Node → List (List ℕ)
words_of n = kind_word n ∷ decimal (width_of n) ∷ operand_words n

-- nodes of one kind
same_kind : (n m : Node) → kind_number n ≡ kind_number m → IsPlain n → IsPlain m → decimal (width_of n) ≡ decimal (width_of m) → operand_words n ≡ operand_words m → n ≡ m
same_kind (Free name w s c) (Free name' w' s' c') k p q dw e =
    let e1 : w ≡ w' = decimal_injective w w' p.1 q.1 dw in
    let e2 : name ≡ name' = cc in
    let f3 : decimal s ≡ decimal s' = cc in
    let e3 : s ≡ s' = decimal_injective s s' p.2 q.2 f3 in
    let f4 : signed_decimal c ≡ signed_decimal c' = cc in
    let e4 : c ≡ c' = signed_decimal_injective c c' p.3 q.3 f4 in
    cc
same_kind (Const v) (Const v') k p q dw e =
    let f : decimal v.value ≡ decimal v'.value = cc in
    ap Const (same_word v v' (decimal_injective v.width v'.width p.0 q.0 dw) (decimal_injective v.value v'.value p.1 q.1 f))
same_kind (Two op w a b) (Two op' w' a' b') k p q dw e =
    let e0 : op ≡ op' = same_op op op' k in
    let e1 : w ≡ w' = decimal_injective w w' p.0 q.0 dw in
    let f2 : decimal a ≡ decimal a' = cc in
    let e2 : a ≡ a' = decimal_injective a a' p.1 q.1 f2 in
    let f3 : decimal b ≡ decimal b' = cc in
    let e3 : b ≡ b' = decimal_injective b b' p.2 q.2 f3 in
    cc
same_kind (Not w a) (Not w' a') k p q dw e =
    let e1 : w ≡ w' = decimal_injective w w' p.0 q.0 dw in
    let f2 : decimal a ≡ decimal a' = cc in
    let e2 : a ≡ a' = decimal_injective a a' p.1 q.1 f2 in
    cc
same_kind (Slice w a lo) (Slice w' a' lo') k p q dw e =
    let e1 : w ≡ w' = decimal_injective w w' p.0 q.0 dw in
    let f2 : decimal a ≡ decimal a' = cc in
    let e2 : a ≡ a' = decimal_injective a a' p.1 q.1 f2 in
    let f3 : decimal lo ≡ decimal lo' = cc in
    let e3 : lo ≡ lo' = decimal_injective lo lo' p.2 q.2 f3 in
    cc
same_kind (Zext w a) (Zext w' a') k p q dw e =
    let e1 : w ≡ w' = decimal_injective w w' p.0 q.0 dw in
    let f2 : decimal a ≡ decimal a' = cc in
    let e2 : a ≡ a' = decimal_injective a a' p.1 q.1 f2 in
    cc
same_kind (Sext w a) (Sext w' a') k p q dw e =
    let e1 : w ≡ w' = decimal_injective w w' p.0 q.0 dw in
    let f2 : decimal a ≡ decimal a' = cc in
    let e2 : a ≡ a' = decimal_injective a a' p.1 q.1 f2 in
    cc
same_kind (Mux w c a b) (Mux w' c' a' b') k p q dw e =
    let e1 : w ≡ w' = decimal_injective w w' p.0 q.0 dw in
    let f2 : decimal c ≡ decimal c' = cc in
    let e2 : c ≡ c' = decimal_injective c c' p.1 q.1 f2 in
    let f3 : decimal a ≡ decimal a' = cc in
    let e3 : a ≡ a' = decimal_injective a a' p.2 q.2 f3 in
    let f4 : decimal b ≡ decimal b' = cc in
    let e4 : b ≡ b' = decimal_injective b b' p.3 q.3 f4 in
    cc
same_kind (Two op w a b) m k p q dw e = absurd (omega (arith, k, op_small op))
same_kind n (Two op w a b) k p q dw e = absurd (omega (arith, k, op_small op))
same_kind _ _ k p q dw e = absurd (omega (arith, k))

clean_signed : (z : ℤ) → mag z < 2 ^ 63 → IsClean (signed_decimal z)
clean_signed (pos n) lt = clean_decimal n (omega arith)
clean_signed (negsuc n) lt = ((omega arith, omega arith), clean_decimal (suc n) (omega arith))

clean_words : (n : Node) → IsPlain n → AllClean (words_of n)
clean_words (Free name w s c) p = (no_gap_clean (codes "free") refl, (clean_decimal w p.1, (p.0, (clean_decimal s p.2, (clean_signed c p.3, tt)))))
clean_words (Const v) p = (no_gap_clean (codes "const") refl, (clean_decimal v.width p.0, (clean_decimal v.value p.1, tt)))
clean_words (Two op w a b) p = (no_gap_clean (op_word op) (op_no_gap op), (clean_decimal w p.0, (clean_decimal a p.1, (clean_decimal b p.2, tt))))
clean_words (Not w a) p = (no_gap_clean (codes "not") refl, (clean_decimal w p.0, (clean_decimal a p.1, tt)))
clean_words (Slice w a lo) p = (no_gap_clean (codes "slice") refl, (clean_decimal w p.0, (clean_decimal a p.1, (clean_decimal lo p.2, tt))))
clean_words (Zext w a) p = (no_gap_clean (codes "zext") refl, (clean_decimal w p.0, (clean_decimal a p.1, tt)))
clean_words (Sext w a) p = (no_gap_clean (codes "sext") refl, (clean_decimal w p.0, (clean_decimal a p.1, tt)))
clean_words (Mux w c a b) p = (no_gap_clean (codes "mux") refl, (clean_decimal w p.0, (clean_decimal c p.1, (clean_decimal a p.2, (clean_decimal b p.3, tt)))))

node_tells : (n m : Node) → IsPlain n → IsPlain m → words_of n ≡ words_of m → n ≡ m
node_tells n m p q e =
    let k : kind_word n ≡ kind_word m = cc in
    let dw : decimal (width_of n) ≡ decimal (width_of m) = cc in
    let ow : operand_words n ≡ operand_words m = cc in
    same_kind n m (sym (numbered n) ∙ ap kind_at k ∙ numbered m) p q dw ow

-- a number's first byte is a digit
abbrev Digits : List ℕ → Type 0
Digits [] = Unit {0}
Digits (c ∷ cs) = c < 58

digits_more : (ds : List ℕ) (c : ℕ) → c < 58 → Digits ds → Digits (ds ++ c ∷ [])
digits_more [] c p d = p
digits_more (x ∷ ds) c p d = d

no_root : (i : ℕ) (ws vs : List (List ℕ)) (r q : List ℕ) → i < 2 ^ 64 → codes "root" ++ (spaced ws ++ 10 ∷ r) ≡ decimal i ++ (spaced vs ++ 10 ∷ q) → ⊥
no_root i ws vs r q lt e =
    let d = decimal_by_steps (λ n ds. Digits ds) (λ n p. omega arith) (λ n ds p h. digits_more ds (48 + n % 10) (omega arith) h) i lt in
    let w = word_ends (codes "root") (decimal i) ws vs r q (no_gap_clean (codes "root") refl) (clean_decimal i lt) e in
    absurd (omega (arith, (let f = subst Digits (sym w.0) d in f)))

module _ (r q : ℕ) (pr : r < 2 ^ 64) (pq : q < 2 ^ 64) where
  lines_tell : (i : ℕ) (ns ms : List Node) → i + length ns ≤ 2 ^ 64 → i + length ms ≤ 2 ^ 64 → ArePlain ns → ArePlain ms → lines_from i ns ++ line (codes "root") (decimal r ∷ []) ≡ lines_from i ms ++ line (codes "root") (decimal q ∷ []) → (ns ≡ ms) × (r ≡ q)
  lines_tell i [] [] l m p o e =
      let h = word_ends (codes "root") (codes "root") (decimal r ∷ []) (decimal q ∷ []) [] [] (no_gap_clean (codes "root") refl) (no_gap_clean (codes "root") refl) e in
      let w = words_tell (decimal r ∷ []) (decimal q ∷ []) [] [] (clean_decimal r pr, tt) (clean_decimal q pq, tt) h.1 in
      let f : decimal r ≡ decimal q = (let g = w.0 in cc) in
      (refl, decimal_injective r q pr pq f)
  lines_tell i [] (x ∷ ms) l m p o e =
      let rest = lines_from (suc i) ms ++ line (codes "root") (decimal q ∷ []) in
      let e' = e ∙ append_assoc (node_line i x) (lines_from (suc i) ms) (line (codes "root") (decimal q ∷ [])) ∙ line_more (decimal i) (words_of x) rest in
      absurd (no_root i (decimal r ∷ []) (words_of x) [] rest (omega arith) e')
  lines_tell i (x ∷ ns) [] l m p o e =
      let rest = lines_from (suc i) ns ++ line (codes "root") (decimal r ∷ []) in
      let e' = sym e ∙ append_assoc (node_line i x) (lines_from (suc i) ns) (line (codes "root") (decimal r ∷ [])) ∙ line_more (decimal i) (words_of x) rest in
      absurd (no_root i (decimal q ∷ []) (words_of x) [] rest (omega arith) e')
  lines_tell i (x ∷ ns) (y ∷ ms) l m p o e =
      let rx = lines_from (suc i) ns ++ line (codes "root") (decimal r ∷ []) in
      let ry = lines_from (suc i) ms ++ line (codes "root") (decimal q ∷ []) in
      let ex = append_assoc (node_line i x) (lines_from (suc i) ns) (line (codes "root") (decimal r ∷ [])) ∙ line_more (decimal i) (words_of x) rx in
      let ey = append_assoc (node_line i y) (lines_from (suc i) ms) (line (codes "root") (decimal q ∷ [])) ∙ line_more (decimal i) (words_of y) ry in
      let c = clean_decimal i (omega arith) in
      let h = word_ends (decimal i) (decimal i) (words_of x) (words_of y) rx ry c c (sym ex ∙ e ∙ ey) in
      let w = words_tell (words_of x) (words_of y) rx ry (clean_words x p.0) (clean_words y o.0) h.1 in
      let n = node_tells x y p.0 o.0 w.0 in
      let t = lines_tell (suc i) ns ms (omega arith) (omega arith) p.1 o.1 w.1 in
      (ap (λ k. k ∷ ns) n ∙ ap (λ k. y ∷ k) t.0, t.1)

abbrev parts : List Node → ℕ → Parts
parts nodes root = record { nodes = nodes; root = root }

-- no other obligation has the text
pub tells : (ob : Parts) (bytes : List ℕ) → IsOb ob.nodes ob.root → bytes ≡ ob_text ob.nodes ob.root → Tells bytes ob
tells ob bytes h e clean other h' clean' e' =
    let r : ob.root < 2 ^ 64 = omega (arith, h.root_in, h.count) in
    let q : other.root < 2 ^ 64 = omega (arith, h'.root_in, h'.count) in
    let t = lines_tell other.root ob.root q r 0 other.nodes ob.nodes (omega (arith, h'.count)) (omega (arith, h.count)) (all_plain other.nodes clean' h'.small) (all_plain ob.nodes clean h.small) (e' ∙ e) in
    ap (λ k. parts k other.root) t.0 ∙ ap (parts ob.nodes) t.1

pub ends_in_root : (nodes ns : List Node) (root r : ℕ) (start lines all : List ℕ) → start ≡ [] → lines ≡ start ++ lines_from 0 ns → all ≡ lines ++ line (codes "root") (decimal r ∷ []) → ns ≡ nodes → r ≡ root → all ≡ ob_text nodes root
ends_in_root nodes ns root r start lines all e f g n m =
    g ∙ ap (λ k. k ++ line (codes "root") (decimal r ∷ [])) (f ∙ ap (λ k. k ++ lines_from 0 ns) e) ∙ ap (λ k. lines_from 0 k ++ line (codes "root") (decimal r ∷ [])) n ∙ ap (λ k. lines_from 0 nodes ++ line (codes "root") (decimal k ∷ [])) m
