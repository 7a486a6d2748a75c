-- What copies are, and that they are right.
use Rattle.std.proofs.Common.{◌≡◌, ℕ, zero, suc, ◌<◌, Bool, true, false, List, [], ◌∷◌, Option, Some, None, refl, sym, ap, ◌∙◌, subst, arith, inl, inr, ⊎_elim, ◌⊎◌, map, length, set, get_or-set_same, get_or-set_other, Vec, Global}
use Rattle.std.specs.Prelude.{slice_index, is_some}
use Rattle.std.proofs.lemmas.Bool.{cases_eq}
use Rattle.std.proofs.lemmas.Option.{none-some}
use Rattle.vlog_tree_runs.specs.Places.{Among, Cycle}
use Rattle.word_core.specs.Words.{word}
use Rattle.word_dag.specs.declared.node.Node.{Node}
use Rattle.word_dag.specs.declared.node.Node.TheVariants.{Free, Const, Two, Not, Slice, Zext, Sext, Mux}
use Rattle.word_dag.specs.Adding.{IsAt}
use Rattle.word_dag.specs.Given.{is_free}
use Rattle.word_dag.specs.Nodes.{FitFrom, Naming, named, node_value, width_of, word_at}
use Rattle.word_dag.specs.Order.{operands_of}
use Rattle.word_dag.specs.Walks.{Each, operands}
use Rattle.word_dag.proofs.NodeValues.{Each-both, Each-map, operands_at, width_at-map, width_at-node}
use Rattle.word_dag.proofs.Operands.{word_fits}
use Rattle.word_dag.proofs.Valued.{value_there}
use Rattle.elab_step_design.specs.Designs.{naming_of}
use Rattle.elab_step_expr.specs.declared.leaves.Leaf.{Leaf}
use Rattle.elab_step_expr.specs.Nodes.{IsNode, number_at, words}
use Rattle.elab_step_expr.proofs.Kept.{number_fits, word_is}
use Rattle.elab_step_blocks.specs.Standing.{AreShown}
use Rattle.elab_step_blocks.specs.Targets.{name_at, width_at}
use Rattle.elab_step_blocks.proofs.Saving.{shown_at}
use Rattle.elab_step_copies.specs.declared.copier.Copier.{Copier}
use Rattle.elab_step_copies.specs.Copies.{AreCopies, HasCopy, HaveCopies, IsCopy, IsNetwork, IsOver, IsRead, copy_at, made_at, number_in}

-- ---- what has a copy

pub copy_within : (copies : List (Option ℕ)) (n : ℕ) → HasCopy copies n → n < length copies
copy_within [] n h = cc
copy_within (m ∷ copies) zero h = omega arith
copy_within (m ∷ copies) (suc n) h = omega (arith, copy_within copies n h)

some_found : (o : Option ℕ) → is_some o ≡ true → (i : ℕ) × (o ≡ Some i)
some_found None h = cc
some_found (Some i) h = (i, refl)

pub copy_found : (copies : List (Option ℕ)) (n : ℕ) → HasCopy copies n → (i : ℕ) × (made_at copies n ≡ Some i)
copy_found copies n h = some_found (made_at copies n) h

pub has_copy : (copies : List (Option ℕ)) (n i : ℕ) → made_at copies n ≡ Some i → HasCopy copies n
has_copy copies n i is = ap (λ (o : Option ℕ). is_some o) is

pub none_lacks : (copies : List (Option ℕ)) (n : ℕ) → made_at copies n ≡ None → HasCopy copies n → ⊥
none_lacks copies n none h = none-some (copy_found copies n h).0 (sym none ∙ (copy_found copies n h).1)

none_since : (o : Option ℕ) → (is_some o ≡ true → ⊥) → o ≡ None
none_since None h = refl
none_since (Some i) h = absurd (h refl)

pub lacks_none : (copies : List (Option ℕ)) (n : ℕ) → (HasCopy copies n → ⊥) → made_at copies n ≡ None
lacks_none copies n h = none_since (made_at copies n) h

-- the same copies under other lists
pub copy_same : (old new : List (Option ℕ)) (n : ℕ) → ((i : ℕ) → made_at new n ≡ Some i → made_at old n ≡ Some i) → HasCopy new n → copy_at new n ≡ copy_at old n
copy_same old new n left h =
    let f = copy_found new n h in
    ap number_in f.1 ∙ sym (ap number_in (left f.0 f.1))

-- ---- nodes of a source

pub operands_are : (source : List Node) (n : ℕ) (z : Node) → IsAt source n z → operands_of source n ≡ operands z
operands_are [] n z at = absurd (omega (arith, at.0))
operands_are (s ∷ source) zero z at = ap operands (sym at.1)
operands_are (s ∷ source) (suc n) z at = operands_are source n z (omega (arith, at.0), at.1)

pub node_there : (source : List Node) (n : ℕ) → n < length source → (z : Node) × IsAt source n z
node_there [] n lt = absurd (omega (arith, lt))
node_there (s ∷ source) zero lt = (s, (lt, refl))
node_there (s ∷ source) (suc n) lt = let r = node_there source n (omega (arith, lt)) in (r.0, (lt, r.1.1))

pub node_same : (source : List Node) (n : ℕ) (y z : Node) → IsAt source n y → IsAt source n z → y ≡ z
node_same [] n y z a b = absurd (omega (arith, a.0))
node_same (s ∷ source) zero y z a b = a.1 ∙ sym b.1
node_same (s ∷ source) (suc n) y z a b = node_same source n y z (omega (arith, a.0), a.1) (omega (arith, b.0), b.1)

pub each_among : (P : ℕ → Type 0) (xs : List ℕ) → ((a : ℕ) → Among xs a → P a) → Each P xs
each_among P [] h = tt
each_among P (x ∷ xs) h = (h x (inl refl), each_among P xs (λ a m. h a (inr m)))

pub among_each : (P : ℕ → Type 0) (xs : List ℕ) → Each P xs → (a : ℕ) → Among xs a → P a
among_each P [] h a m = absurd m
among_each P (x ∷ xs) h a m = ⊎_elim (λ (q : x ≡ a). subst P q h.0) (λ r. among_each P xs h.1 a r) m

-- the operands of what has a copy have copies
pub operands_made : (source : List Node) (copies : List (Option ℕ)) (readers : List (Vec ℕ Global)) (n : ℕ) (z : Node) → IsNetwork source copies readers → IsAt source n z → HasCopy copies n → HaveCopies copies (operands z)
operands_made source copies readers n z w at c =
    subst (λ (xs : List ℕ). HaveCopies copies xs) (operands_are source n z at) (each_among (HasCopy copies) (operands_of source n) (λ a m. (w.noted n a c m).0))

-- ---- copies are nodes

by_free : (b : Bool) → (b ≡ true) ⊎ (b ≡ false)
by_free true = inl refl
by_free false = inr refl

pub free_or : (z : Node) → (is_free z ≡ true) ⊎ (is_free z ≡ false)
free_or z = by_free (is_free z)

module _ (k : Copier) (ls : List Leaf) (ns : List Node) (h : AreCopies k ls ns) where
  pub node_made : (n : ℕ) (z : Node) (i : ℕ) → IsAt k.source n z → made_at k.copies.items n ≡ Some i → IsNode ns i (width_of z)
  node_made n z i at is = let m = h.made n z i at is in elim (free_or z) [ inl f ↦ (m.read f).node | inr f ↦ (m.over f).node ]

  pub copy_below : (n : ℕ) → HasCopy k.copies.items n → copy_at k.copies.items n < length ns
  copy_below n c =
      let f = copy_found k.copies.items n c in
      let within = copy_within k.copies.items n c in
      let long = h.sound.network.long in
      let z = node_there k.source n (omega (arith, within, long)) in
      let node = node_made n z.0 f.0 z.1 f.1 in
      let e : copy_at k.copies.items n ≡ f.0 = ap number_in f.1 in
      omega (arith, e, node.0)

-- ---- and right

same_named : (f g : Naming) (z : Node) → is_free z ≡ false → named f z ≡ named g z
same_named f g (Free x w side t) bound = cc
same_named f g (Const w) bound = refl
same_named f g (Two op w x y) bound = refl
same_named f g (Not w x) bound = refl
same_named f g (Slice w x lo) bound = refl
same_named f g (Zext w x) bound = refl
same_named f g (Sext w x) bound = refl
same_named f g (Mux w k x y) bound = refl

module _ (k : Copier) (ls : List Leaf) (ns : List Node) (h : AreCopies k ls ns) (fits : FitFrom [] ns) (e : Naming) (c : Cycle) (shown : AreShown e ns ls c) where
  abbrev IsRight : ℕ → ℕ → Type 0
  IsRight n i = word_at (words e ns) i ≡ word_at (words (naming_of c) k.source) n

  read_right : (n : ℕ) (z : Node) (i : ℕ) → IsAt k.source n z → IsRead k.words.items ls ns n z i → IsRight n i
  read_right n z i at r =
      let j = r.place in
      let w = width_at ls j in
      let node : IsNode ns i w = (r.node.0, r.node.1 ∙ ap width_of r.word.1) in
      let number : c (name_at ls j) ≡ number_at e ns i = shown_at e ns ls c j r.word.0 shown ∙ sym (r.number e) in
      let there_is = value_there (naming_of c) k.source n z h.sound.fit at in
      let here_is = ap (λ (y : Node). node_value (named (naming_of c) y) (words (naming_of c) k.source) y) r.word.1 in
      word_is e ns i w fits node ∙ (word_fits w (number_at e ns i) (number_fits e ns i w fits node) ∙ (ap (word w) (sym number) ∙ sym (there_is ∙ here_is)))

  over_right : (n : ℕ) (z : Node) (i : ℕ) → IsAt k.source n z → is_free z ≡ false → IsOver k.copies.items ns z i → Each (λ a. IsRight a (copy_at k.copies.items a)) (operands z) → IsRight n i
  over_right n z i at bound o each =
      let vs = words (naming_of c) k.source in
      o.word e vs each ∙ (ap (λ u. node_value u vs z) (same_named e (naming_of c) z bound) ∙ sym (value_there (naming_of c) k.source n z h.sound.fit at))

  right : (b n i : ℕ) → n < b → made_at k.copies.items n ≡ Some i → IsRight n i
  right zero n i lt is = absurd (omega (arith, lt))
  right (suc b) n i lt is =
      let has = has_copy k.copies.items n i is in
      let within = copy_within k.copies.items n has in
      let long = h.sound.network.long in
      let z = node_there k.source n (omega (arith, within, long)) in
      let m = h.made n z.0 i z.1 is in
      let each = Each-both (HasCopy k.copies.items) (λ a. a < n) (operands z.0) (operands_made k.source k.copies.items k.readers.items n z.0 h.sound.network z.1 has) (operands_at k.source n z.0 h.sound.fit z.1.0 z.1.1) in
      elim (free_or z.0) [
        | inl f ↦ read_right n z.0 i z.1 (m.read f)
        | inr f ↦ over_right n z.0 i z.1 f (m.over f)
            (Each-map (λ a. HasCopy k.copies.items a × (a < n)) (λ a. IsRight a (copy_at k.copies.items a)) (operands z.0)
            (λ a p.
            let g = copy_found k.copies.items a p.0 in
            let less = p.1 in
            subst (λ (v : ℕ). IsRight a v) (sym (ap number_in g.1)) (right b a g.0 (omega (arith, less, lt)) g.1)) each)
      ]

  pub word_right : (n i : ℕ) → made_at k.copies.items n ≡ Some i → IsRight n i
  word_right n i is = right (suc n) n i (omega arith) is

-- the copy of a node
pub copy_right : (k : Copier) (ls : List Leaf) (ns : List Node) (n i : ℕ) → AreCopies k ls ns → FitFrom [] ns → made_at k.copies.items n ≡ Some i → IsCopy k.source ls ns n i
copy_right k ls ns n i h fits is =
    let within = copy_within k.copies.items n (has_copy k.copies.items n i is) in
    let long = h.sound.network.long in
    let z = node_there k.source n (omega (arith, within, long)) in
    let node = node_made k ls ns h n z.0 i z.1 is in
    let wide : slice_index (map width_of k.source) n ≡ width_of z.0 = width_at-map k.source n ∙ width_at-node k.source n z.0 z.1.0 z.1.1 in
    record {
      node = (node.0, node.1 ∙ sym wide);
      word = λ e c shown. word_right k ls ns h fits e c shown n i is;
    }

-- ---- a list with another copy

pub set_cases : (copies : List (Option ℕ)) (n x : ℕ) (o : Option ℕ) (i : ℕ) → n < length copies → made_at (set copies n o) x ≡ Some i → ((n ≡ x) × (o ≡ Some i)) ⊎ (((x ≡ n) → ⊥) × (made_at copies x ≡ Some i))
set_cases copies n x o i lt is = elim (cases_eq x n) [
  | inl same ↦ inl (sym same, sym (get_or-set_same copies n o None lt) ∙ (ap (made_at (set copies n o)) (sym same) ∙ is))
  | inr other ↦ inr (other, sym (get_or-set_other copies n x o None other) ∙ is)
]
