-- The free nodes of an obligation come from different nodes of the dag.
use Rattle.std.proofs.Common.{◌≡◌, ◌≢◌, ℕ, zero, suc, ◌<◌, true, false, List, [], ◌∷◌, ◌++◌, length, get_or, refl, sym, ap, ◌∙◌, subst, arith, inl, inr, length-append, set, get_or-set_same, get_or-set_other}
use Rattle.std.specs.Prelude.{slice_index, ◌⊎◌}
use Rattle.std.proofs.Math.ListN.{get_or-append}
use Rattle.std.proofs.Math.Seq.{get_or-append_seam}
use Rattle.word_dag.specs.declared.node.Node.{Node}
use Rattle.word_dag.specs.declared.node.Node.TheVariants.{Free, Const, Two, Not, Slice, Zext, Sext, Mux}
use Rattle.word_dag.specs.Walks.{renumbered}
use Rattle.word_dag.specs.Given.{is_free}
use Rattle.word_dag.specs.Adding.{IsAt, IsDistinct, HasDistinctFrees}

-- each free node stands in the dag, at a node whose place it has
pub record Sourced (dag nodes : List Node) (places : List ℕ) : Type 0 where
  pub source : (k : ℕ) (n : Node) → is_free n ≡ true → IsAt nodes k n → (j : ℕ) × IsAt dag j n × (slice_index places j ≡ suc k)

pub sourced_start : (dag nodes : List Node) (places : List ℕ) → nodes ≡ [] → Sourced dag nodes places
sourced_start dag nodes places e =
    record { source = λ k n free at. absurd (omega (arith, at.0, ap length e)) }

-- a free node has one number or another
free_same : (f : ℕ → ℕ) (n m : Node) → m ≡ renumbered f n → is_free m ≡ true → n ≡ m
free_same f (Free name width side cycle) m e free = sym e
free_same f (Const w) m e free = let h : is_free m ≡ false = ap is_free e in cc
free_same f (Two op width a b) m e free = let h : is_free m ≡ false = ap is_free e in cc
free_same f (Not width a) m e free = let h : is_free m ≡ false = ap is_free e in cc
free_same f (Slice width a lo) m e free = let h : is_free m ≡ false = ap is_free e in cc
free_same f (Zext width a) m e free = let h : is_free m ≡ false = ap is_free e in cc
free_same f (Sext width a) m e free = let h : is_free m ≡ false = ap is_free e in cc
free_same f (Mux width c a b) m e free = let h : is_free m ≡ false = ap is_free e in cc

last_or : (i n : ℕ) → i < suc n → (i < n) ⊎ (i ≡ n)
last_or zero zero lt = inr refl
last_or zero (suc n) lt = inl (omega arith)
last_or (suc i) zero lt = absurd (omega arith)
last_or (suc i) (suc n) lt = elim (last_or i n (omega arith)) [ inl p ↦ inl (omega arith) | inr e ↦ inr (ap suc e) ]

-- a node of the dag without a place is renumbered and takes the next one
module _ (dag nodes more : List Node) (places : List ℕ) (t k : ℕ) (n : Node) (f : ℕ → ℕ) (in_dag : t < length dag) (in_places : t < length places) (open_there : slice_index places t ≡ 0) (at : n ≡ get_or dag t n) (em : more ≡ nodes ++ renumbered f n ∷ []) (ek : k ≡ suc (length nodes)) (s : Sourced dag nodes places) where
  older : (i : ℕ) (m : Node) → is_free m ≡ true → i < length nodes → m ≡ get_or more i m → (j : ℕ) × IsAt dag j m × (slice_index (set places t k) j ≡ suc i)
  older i m free lt is =
      let there : m ≡ get_or nodes i m = is ∙ ap (λ ns. get_or ns i m) em ∙ get_or-append nodes (renumbered f n ∷ []) m i lt in
      let old = s.source i m free (lt, there) in
      let other : old.0 ≢ t = λ e. (let none : slice_index places old.0 ≡ 0 = ap (slice_index places) e ∙ open_there in omega (arith, none, old.2)) in
      (old.0, old.1, get_or-set_other places t old.0 k 0 other ∙ old.2)

  newest : (i : ℕ) (m : Node) → is_free m ≡ true → i ≡ length nodes → m ≡ get_or more i m → (j : ℕ) × IsAt dag j m × (slice_index (set places t k) j ≡ suc i)
  newest i m free e is =
      let new : m ≡ renumbered f n = is ∙ ap (λ ns. get_or ns i m) em ∙ ap (λ l. get_or (nodes ++ renumbered f n ∷ []) l m) e ∙ get_or-append_seam nodes (renumbered f n) [] m in
      let same : n ≡ m = free_same f n m new free in
      (t, (in_dag, subst (λ (x : Node). x ≡ get_or dag t x) same at), get_or-set_same places t k 0 in_places ∙ ek ∙ ap suc (sym e))

  pub sourced_emit : Sourced dag more (set places t k)
  sourced_emit = record {
    source = λ i m free there.
        elim (last_or i (length nodes) (omega (arith, there.0, ap length em, length-append nodes (renumbered f n ∷ [])))) [ inl lt ↦ older i m free lt there.1 | inr e ↦ newest i m free e there.1 ];
  }

pub distinct_frees : (dag nodes : List Node) (places : List ℕ) → IsDistinct dag → Sourced dag nodes places → HasDistinctFrees nodes
distinct_frees dag nodes places distinct s n i j free a b =
    let p = s.source i n free a in
    let q = s.source j n free b in
    let same : p.0 ≡ q.0 = distinct n p.0 q.0 p.1 q.1 in
    omega (arith, p.2, q.2, ap (slice_index places) same)
