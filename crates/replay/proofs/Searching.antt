-- The end at which windows violate a line lies where its property may end.
use Rattle.std.proofs.Common.{◌≡◌, ℕ, ◌+◌, ◌<◌, ◌≤◌, List, Option, Some, None, refl, ap, ◌∙◌, subst, arith, inl, inr}
use Rattle.std.specs.Prelude.{◌⊎◌}
use Rattle.std.specs.Option.{IfSome}
use Rattle.set_tree.specs.declared.line.Line.{Line}
use Rattle.set_tree.specs.declared.line.Line.TheVariants.{Base, Step, Reset, Operation, End, Split, SameEnd, Choose, Hand, Determine}
use Rattle.set_tree.specs.declared.set.Set.{Set}
use Rattle.set_tree.specs.Formulas.{meaning_of}
use Rattle.set_tree.specs.Meaning.{Row, Meaning}
use Rattle.set_tree.specs.Parts.{IsPosition, end_of, property_at}
use Rattle.set_tree.specs.Structure.{IsSound}
use Rattle.word_core.specs.Words.{Bits}
use Rattle.word_dag.specs.declared.node.Node.{Node}
use Rattle.word_dag.specs.Nodes.{Naming, root_value}
use Rattle.word_dag.specs.Names.{HasOneWordEach, naming_from}
use Rattle.word_dag.proofs.NamingLaws.{values_have_namings}
use Rattle.twin_tests_laws.specs.Laws.{property_of}
use Rattle.twin_tests_laws.specs.Lines.{IsOf, RootIs1, Violates}
use Rattle.twin_tests_laws.proofs.Testing.{end_within}
use Rattle.twin_tests.specs.Framing.{SpeaksOf}
use Rattle.replay.specs.Windows.{ViolatesAt}

-- some end that the property of the line may have
pub record IsViolatedAt (set : Set) (line : Line) (e : Naming) : Type 0 where
  pub n : ℕ
  pub least : (property_at set (property_of line)).length.low ≤ n
  pub most : n ≤ (property_at set (property_of line)).length.high
  pub violating : ViolatesAt set line e n

module _ (set : Set) (e : Naming) where
  abbrev m : Meaning
  m = meaning_of set

  abbrev HasOrder : ℕ → Type 0
  HasOrder p = (property_at set p).length.low ≤ (property_at set p).length.high

  within : (p n : ℕ) (rows : List Row) → HasOrder p → end_of m set p rows ≡ Some n → ((property_at set p).length.low ≤ n) × (n ≤ (property_at set p).length.high)
  within p n rows order ends =
      let span = (property_at set p).length in
      let at = end_within m set span span.until rows n order ends in
      (at.0, omega (arith, at.1, order))

  pub violated_at : (line : Line) → HasOrder (property_of line) → Violates m set line e → IsViolatedAt set line e
  violated_at (Base i) order v = absurd v
  violated_at (Step i) order v = absurd v
  violated_at Reset order v = absurd v
  violated_at (Operation p) order v = absurd v
  violated_at (End p) order v = record { n = (property_at set p).length.low; least = omega arith; most = order; violating = v }
  violated_at (SameEnd p) order v = record { n = (property_at set p).length.low; least = omega arith; most = order; violating = v }
  violated_at (Split p) order v = let at = within p v.0 _ order v.1.ends in record { n = v.0; least = at.0; most = at.1; violating = v.1 }
  violated_at (Choose p q) order v = let at = within p v.0 _ order v.1.pair.first_ends in record { n = v.0; least = at.0; most = at.1; violating = v.1 }
  violated_at (Hand p q) order v = let at = within p v.0 _ order v.1.pair.first_ends in record { n = v.0; least = at.0; most = at.1; violating = v.1 }
  violated_at (Determine p) order v = let at = within p v.0 _ order v.3.pair.first_ends in record { n = v.0; least = at.0; most = at.1; violating = (v.1, v.2, v.3) }

pub speaks_position : (set : Set) (line : Line) → SpeaksOf set line → IsPosition set (property_of line)
speaks_position set (Base i) h = omega arith
speaks_position set (Step i) h = omega arith
speaks_position set Reset h = omega arith
speaks_position set (Operation p) h = h
speaks_position set (End p) h = h
speaks_position set (Split p) h = h
speaks_position set (SameEnd p) h = h
speaks_position set (Choose p q) h = h.0
speaks_position set (Hand p q) h = h.0
speaks_position set (Determine p) h = h

pub none_of : {X : Type 0} (o : Option X) → ((x : X) → o ≡ Some x → ⊥) → o ≡ None
none_of None h = refl
none_of (Some x) h = absurd (h x refl)

pub some_of : {X : Type 0} (P : X → Type 0) (o : Option X) (x : X) → o ≡ Some x → IfSome o P → P x
some_of P o x is h = subst (λ (z : Option _). IfSome z P) is h

below_or : (i n : ℕ) → i < n + 1 → (i < n) ⊎ (i ≡ n)
below_or i n lt = grind arith

-- what holds at no number before n, nor at n
pub none_more : (P : ℕ → Type 0) (low n : ℕ) → ((k : ℕ) → low ≤ k → k < n → P k → ⊥) → (P n → ⊥) → (k : ℕ) → low ≤ k → k < n + 1 → P k → ⊥
none_more P low n before here k le lt h = elim (below_or k n lt) [ inl lt' ↦ before k le lt' h | inr is ↦ here (subst P is h) ]

-- values at which the root is 1 name windows that violate the line
pub refuted_at : (set : Set) (line : Line) (nodes : List Node) (root : ℕ) (us : List ℕ) → IsSound (meaning_of set) set → IsOf (meaning_of set) set line nodes root → SpeaksOf set line → HasOneWordEach nodes → (root_value us nodes root).value ≡ 1 →
    IsViolatedAt set line (naming_from nodes us)
refuted_at set line nodes root us sound of_line speaks words is =
    let e = naming_from nodes us in
    let one : RootIs1 nodes root e = ap (λ (w : Bits). w.value) (values_have_namings nodes us words root) ∙ is in
    violated_at set e line (sound.lengths (property_of line) (speaks_position set line speaks)).order ((of_line e).0 one)
