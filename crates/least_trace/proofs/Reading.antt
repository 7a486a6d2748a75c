-- Bits of values as variables of an assignment.
use Rattle.std.proofs.Common.{◌≡◌, ℕ, zero, suc, ◌+◌, ◌*◌, ◌/◌, ◌%◌, ◌<◌, ◌==◌, Bool, true, false, not, if◌then◌else◌, List, [], ◌∷◌, ◌++◌, length, slice_get, slice_index, slice_index_or, Some, refl, sym, ap, ◌∙◌, subst, arith, ◌⊎◌, inl, inr}
use Rattle.std.specs.Int.{bit_at}
use Rattle.std.proofs.lemmas.Nat.Bits.{bit_at_lowest, bit_at-suc}
use Rattle.std.proofs.lemmas.Option.{slice_get-get_or, get_or_from_slice_get}
use Rattle.clause_check.specs.declared.literal.Lit.{Lit}
use Rattle.clause_check.specs.Derivations.{Satisfies}
use Rattle.cnf_build.specs.Literals.{plus, minus}
use Rattle.cnf_build.specs.Circuits.{bit}
use Rattle.word_dag.specs.declared.node.Node.{Node}
use Rattle.word_dag.specs.declared.node.Node.TheVariants.{Free, Const, Two, Not, Slice, Zext, Sext, Mux}
use Rattle.word_dag.specs.Given.{free_count}
use Rattle.cnf_build.specs.Lower.{node_made, lower, ob_bits}
use Rattle.cnf_build.specs.Meaning.{read_word, read_words}
use Rattle.cnf_build.specs.Built.{at}
use Rattle.least_trace.specs.declared.bits.Bit.{Bit}
use Rattle.least_trace.specs.Bits.{bit_in}
use Rattle.least_trace.specs.Least.{var_of}
use Rattle.least_trace.specs.Walks.{IsBit}

lowest : (b : Bool) (r : ℕ) → (bit b + 2 * r) % 2 ≡ bit b
lowest true r = omega arith
lowest false r = omega arith

higher : (b : Bool) (r : ℕ) → (bit b + 2 * r) / 2 ≡ r
higher true r = omega arith
higher false r = omega arith

bit_read : (s : ℕ → Bool) (vs : List ℕ) (h : ℕ) → h < length vs → bit_at (read_word s vs) h ≡ bit (s (slice_index vs h))
bit_read s [] h lt = absurd (omega arith)
bit_read s (v ∷ vs) zero lt = bit_at_lowest (bit (s v) + 2 * read_word s vs) ∙ lowest (s v) (read_word s vs)
bit_read s (v ∷ vs) (suc h) lt =
    bit_at-suc (bit (s v) + 2 * read_word s vs) h ∙ ap (λ n. bit_at n h) (higher (s v) (read_word s vs)) ∙ bit_read s vs h (omega arith)

word_read : (s : ℕ → Bool) (fs : List (List ℕ)) (k : ℕ) → k < length fs → slice_index (read_words s fs) k ≡ read_word s (slice_index_or fs k [])
word_read s [] k lt = absurd (omega arith)
word_read s (f ∷ fs) zero lt = refl
word_read s (f ∷ fs) (suc k) lt = word_read s fs k (omega arith)

-- the values that an assignment has, bit by bit
pub values_read : (nodes : List Node) (s : ℕ → Bool) (b : Bit) → IsBit nodes b → bit_in (read_words s (ob_bits nodes)) b ≡ bit (s (var_of nodes b))
values_read nodes s b is =
    ap (λ n. bit_at n b.height) (word_read s (ob_bits nodes) b.place is.place) ∙ bit_read s (slice_index_or (ob_bits nodes) b.place []) b.height is.height

-- a bit is 0 or 1
pub two_cases : (u : ℕ) → u < 2 → (u ≡ 0) ⊎ (u ≡ 1)
two_cases zero lt = inl refl
two_cases (suc zero) lt = inr refl
two_cases (suc (suc u)) lt = absurd (omega arith)

-- as many values as there are free nodes
pub reads_many : (s : ℕ → Bool) (n : ℕ) (t : List (List Lit)) (nodes : List Node) → length (read_words s (lower n t nodes).frees) ≡ free_count nodes
reads_many s n t [] = refl
reads_many s n t (Free name w side cycle ∷ nodes) =
    let m = node_made n t (Free name w side cycle) in ap suc (reads_many s (n + length m.gates) (t ++ m.lits ∷ []) nodes)
reads_many s n t (Const w ∷ nodes) =
    let m = node_made n t (Const w) in reads_many s (n + length m.gates) (t ++ m.lits ∷ []) nodes
reads_many s n t (Two op w x y ∷ nodes) =
    let m = node_made n t (Two op w x y) in reads_many s (n + length m.gates) (t ++ m.lits ∷ []) nodes
reads_many s n t (Not w x ∷ nodes) =
    let m = node_made n t (Not w x) in reads_many s (n + length m.gates) (t ++ m.lits ∷ []) nodes
reads_many s n t (Slice w x lo ∷ nodes) =
    let m = node_made n t (Slice w x lo) in reads_many s (n + length m.gates) (t ++ m.lits ∷ []) nodes
reads_many s n t (Zext w x ∷ nodes) =
    let m = node_made n t (Zext w x) in reads_many s (n + length m.gates) (t ++ m.lits ∷ []) nodes
reads_many s n t (Sext w x ∷ nodes) =
    let m = node_made n t (Sext w x) in reads_many s (n + length m.gates) (t ++ m.lits ∷ []) nodes
reads_many s n t (Mux w c x y ∷ nodes) =
    let m = node_made n t (Mux w c x y) in reads_many s (n + length m.gates) (t ++ m.lits ∷ []) nodes

length-read : (s : ℕ → Bool) (fs : List (List ℕ)) → length (read_words s fs) ≡ length fs
length-read s [] = refl
length-read s (f ∷ fs) = ap suc (length-read s fs)

pub bits_many : (nodes : List Node) → length (ob_bits nodes) ≡ free_count nodes
bits_many nodes = sym (length-read (λ v. false) (ob_bits nodes)) ∙ reads_many (λ v. false) 1 [] nodes

-- the unit clause of a variable, by the value of its bit
abbrev pub unit_of : ℕ → ℕ → List Lit
unit_of v u = (if u == 1 then plus v else minus v) ∷ []

unit_true : (a : List Bool) (l : Lit) → Satisfies a (l ∷ []) → at a l.var ≡ not l.negative
unit_true a l h =
    let first : h.0 ≡ 0 = omega (arith, h.2) in
    let same : l ≡ h.1 = sym (ap (λ k. slice_index_or (l ∷ []) k h.1) first) ∙ h.3 in
    get_or_from_slice_get a l.var (not l.negative) false (subst (λ (m : Lit). slice_get a m.var ≡ Some (not m.negative)) (sym same) h.4)

unit_satisfied : (a : List Bool) (l : Lit) → l.var < length a → at a l.var ≡ not l.negative → Satisfies a (l ∷ [])
unit_satisfied a l lt e = (0, l, omega arith, refl, slice_get-get_or a l.var false lt ∙ ap Some e)

is_off : (b : Bool) → bit b ≡ 0 → b ≡ false
is_off true e = absurd (omega arith)
is_off false e = refl

is_on : (b : Bool) → bit b ≡ 1 → b ≡ true
is_on true e = refl
is_on false e = absurd (omega arith)

pub signed : (a : List Bool) (v u : ℕ) → u < 2 → Satisfies a (unit_of v u) → bit (at a v) ≡ u
signed a v zero lt h = ap bit (unit_true a (minus v) h)
signed a v (suc zero) lt h = ap bit (unit_true a (plus v) h)
signed a v (suc (suc u)) lt h = absurd (omega arith)

pub satisfied : (a : List Bool) (v u : ℕ) → u < 2 → v < length a → bit (at a v) ≡ u → Satisfies a (unit_of v u)
satisfied a v zero lt within e = unit_satisfied a (minus v) within (is_off (at a v) e)
satisfied a v (suc zero) lt within e = unit_satisfied a (plus v) within (is_on (at a v) e)
satisfied a v (suc (suc u)) lt within e = absurd (omega arith)
