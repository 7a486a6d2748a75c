-- What a node of a copier's source becomes, and what a copier is that has made a copy more.
use Rattle.std.proofs.Common.{◌≡◌, ℕ, zero, suc, ◌<◌, true, false, List, [], ◌∷◌, Option, Some, None, refl, sym, ap, ◌∙◌, subst, arith, inl, inr, ⊎_elim, map, length, get_or, take, set, get_or-set_other, length-set, replicate, Vec, Global}
use Rattle.std.specs.Prelude.{slice_index, MatchOption}
use Rattle.std.proofs.lemmas.List.{length-replicate}
use Rattle.std.proofs.lemmas.Option.{none-some}
use Rattle.vlog_tree_runs.specs.Places.{Among}
use Rattle.word_dag.specs.declared.node.Node.{Node}
use Rattle.word_dag.specs.declared.node.Node.TheVariants.{Free, Const, Two, Not, Slice, Zext, Sext, Mux}
use Rattle.word_dag.specs.Adding.{Adds, IsAt, Keeps}
use Rattle.word_dag.specs.Given.{is_free}
use Rattle.word_dag.specs.Nodes.{FitFrom, FitsNode, width_of, word_at}
use Rattle.word_dag.specs.Order.{operands_of}
use Rattle.word_dag.specs.Walks.{Each, operands, renumbered}
use Rattle.word_dag.proofs.NodeValues.{Each-both, Each-map, fits_at, length-widths, operands_at, renumbered_fits, renumbered_value, width_at-map, width_at-node, width_at-take, width_renumbered}
use Rattle.elab_step_expr.specs.declared.leaves.Leaf.{Leaf}
use Rattle.elab_step_expr.specs.Leaves.{AreReady}
use Rattle.elab_step_expr.specs.Nodes.{IsNode, number_at, words}
use Rattle.elab_step_expr.proofs.Kept.{keeps_same}
use Rattle.elab_step_blocks.specs.Saving.{node_at}
use Rattle.elab_step_blocks.proofs.Saving.{ready_index}
use Rattle.elab_step_copies.specs.declared.copier.Copier.{Copier}
use Rattle.elab_step_copies.specs.Copies.{AreCopies, AreOfLeaves, HasCopy, HaveCopies, IsMade, IsNetwork, IsOver, IsWordOf, copy_at, list_at, made_at, number_in}
use Rattle.elab_step_copies.specs.Walks.{CanMake, IsNoted, MakesOne, first_unmade}
use Rattle.elab_step_copies.proofs.Making.{among_each, copy_below, copy_found, copy_within, has_copy, node_made, node_same, node_there, none_lacks, operands_are, operands_made, set_cases}
use Rattle.elab_step_copies.proofs.Moving.{grown, made_moved, over_moved}
use Rattle.elab_step_copies.proofs.Paths.{unmade_tells}

-- a node that is read
pub node_read : (source view : List Node) (n : ℕ) (z : Node) → view ≡ source → n < length source → z ≡ get_or view n z → IsAt source n z
node_read source view n z same lt is = (lt, is ∙ ap (λ (k : List Node). get_or k n z) same)

pub readers_within : (source : List Node) (lists : List (Vec ℕ Global)) (n : ℕ) (z : Node) → FitFrom [] source → IsAt source n z → length lists ≡ length source → Each (λ a. a < length lists) (operands z)
readers_within source lists n z fit at long = Each-map (λ a. a < n) (λ a. a < length lists) (operands z) (λ a lt. omega (arith, lt, at.0, long)) (operands_at source n z fit at.0 at.1)

pub operands_within : (source : List Node) (copies view : List (Option ℕ)) (n : ℕ) (z : Node) → FitFrom [] source → IsAt source n z → length copies ≡ length source → view ≡ copies → Each (λ a. a < length view) (operands z)
operands_within source copies view n z fit at long same =
    let e : length view ≡ length copies = ap (λ (k : List (Option ℕ)). length k) same in
    Each-map (λ a. a < n) (λ a. a < length view) (operands z) (λ a lt. omega (arith, lt, at.0, long, e)) (operands_at source n z fit at.0 at.1)

pub unmade_found : (source : List Node) (copies view : List (Option ℕ)) (n : ℕ) (z : Node) (found : Option ℕ) → FitFrom [] source → IsAt source n z → view ≡ copies → found ≡ first_unmade view (operands z) →
    MatchOption found (HaveCopies copies (operands_of source n)) (λ a. (a < n) × (made_at copies a ≡ None))
unmade_found source copies view n z found fit at same e = unmade_tells source copies n z found fit at (e ∙ ap (λ (k : List (Option ℕ)). first_unmade k (operands z)) same)

-- the operands of a node that is read have copies
pub operands_there : (source : List Node) (copies view : List (Option ℕ)) (n : ℕ) (z : Node) → IsAt source n z → HaveCopies copies (operands_of source n) → view ≡ copies → HaveCopies view (operands z)
operands_there source copies view n z at h same =
    let here : HaveCopies copies (operands z) = subst (λ (xs : List ℕ). HaveCopies copies xs) (operands_are source n z at) h in
    subst (λ (k : List (Option ℕ)). HaveCopies k (operands z)) (sym same) here

-- ---- a node over the copies of its operands

module _ (k : Copier) (ls : List Leaf) (a : List Node) (n : ℕ) (z : Node) (h : AreCopies k ls a) (at : IsAt k.source n z) (have : HaveCopies k.copies.items (operands z)) where
  abbrev f : ℕ → ℕ
  f = copy_at k.copies.items

  wide_at : (x : ℕ) (y : Node) → IsAt k.source x y → slice_index (map width_of k.source) x ≡ width_of y
  wide_at x y there = width_at-map k.source x ∙ width_at-node k.source x y there.0 there.1

  operand_node : (x : ℕ) → HasCopy k.copies.items x → IsNode a (f x) (slice_index (map width_of k.source) x)
  operand_node x c =
      let g = copy_found k.copies.items x c in
      let within = copy_within k.copies.items x c in
      let long = h.sound.network.long in
      let y = node_there k.source x (omega (arith, within, long)) in
      let node = node_made k ls a h x y.0 g.0 y.1 g.1 in
      subst (λ (i : ℕ). IsNode a i (slice_index (map width_of k.source) x)) (sym (ap number_in g.1)) (node.0, node.1 ∙ sym (wide_at x y.0 y.1))

  pub over_fits : FitsNode (map width_of a) (renumbered (copy_at k.copies.items) z)
  over_fits =
      let source = k.source in
      let both = Each-both (HasCopy k.copies.items) (λ x. x < n) (operands z) have (operands_at source n z h.sound.fit at.0 at.1) in
      let facts = Each-map (λ x. HasCopy k.copies.items x × (x < n)) (λ x. (f x < length (map width_of a)) × (slice_index (map width_of a) (f x) ≡ slice_index (map width_of (take n source)) x)) (operands z)
      (λ x p.
      let node = operand_node x p.0 in
      (omega (arith, node.0, length-widths a), node.1 ∙ (width_at-map source x ∙ (sym (width_at-take source n x p.1) ∙ sym (width_at-map (take n source) x))))) both in
      renumbered_fits (map width_of (take n source)) (map width_of a) f z facts (fits_at [] source n z h.sound.fit at.0 at.1)

  pub over_made : (b : List Node) (i : ℕ) → Adds a b (renumbered (copy_at k.copies.items) z) i → Keeps a b → IsOver k.copies.items b z i
  over_made b i adds keeps = record {
    node = (adds.within, adds.wide ∙ width_renumbered f z);
    word = λ e vs same.
        let below = Each-map (HasCopy k.copies.items) (λ x. f x < length a) (operands z) (λ x c. copy_below k ls a h x c) have in
        let P : ℕ → Type 0 = λ x. f x < length a in
        let Q : ℕ → Type 0 = λ x. word_at (words e b) (f x) ≡ word_at vs x in
        let before = Each-map (λ x. P x × Q x) (λ x. word_at (words e a) (f x) ≡ word_at vs x) (operands z) (λ x p. sym (keeps.values e (f x) p.0) ∙ p.1) (Each-both P Q (operands z) below same) in
        adds.value e ∙ renumbered_value e (words e a) vs f z before;
  }

over_now : (k : Copier) (ls : List Leaf) (a b : List Node) (n : ℕ) (z : Node) (i : ℕ) → AreCopies k ls a → Keeps a b → made_at k.copies.items n ≡ None → HaveCopies k.copies.items (operands z) → IsOver k.copies.items b z i → IsOver (set k.copies.items n (Some i)) b z i
over_now k ls a b n z i h keeps none have o =
    let old = k.copies.items in
    let now = set old n (Some i) in
    over_moved old now b b z i (keeps_same b)
    (Each-map (HasCopy old) (λ x. (copy_at old x < length b) × (copy_at now x ≡ copy_at old x)) (operands z)
    (λ x c.
    let below = copy_below k ls a h x c in
    let more = keeps.longer in
    let other : x ≡ n → ⊥ = λ same. none_lacks old n none (subst (HasCopy old) same c) in
    (omega (arith, below, more), ap number_in (get_or-set_other old n x (Some i) None other))) have) o

-- ---- one copy more

free_reads : (z : Node) → is_free z ≡ true → operands z ≡ []
free_reads (Free x w side t) free = refl
free_reads (Const w) free = refl
free_reads (Two op w a b) free = cc
free_reads (Not w a) free = cc
free_reads (Slice w a lo) free = cc
free_reads (Zext w a) free = cc
free_reads (Sext w a) free = cc
free_reads (Mux w c a b) free = cc

pub nothing_noted : (lists : List (Vec ℕ Global)) (n : ℕ) → IsNoted lists lists [] n
nothing_noted lists n = record { long = refl; keeps = λ a i m. m; adds = λ a m. absurd m; only = λ a i m. inl m }

module _ (k l : Copier) (ls : List Leaf) (a b : List Node) (n : ℕ) (z : Node) (i : ℕ) (at : List ℕ) (h : AreCopies k ls a) (keeps : Keeps a b) (ready : AreReady ls a) (here : IsAt k.source n z) (none : made_at k.copies.items n ≡ None)
    (have : HaveCopies k.copies.items (operands_of k.source n)) (source : l.source ≡ k.source) (copies : l.copies.items ≡ set k.copies.items n (Some i)) (readers : IsNoted k.readers.items l.readers.items (operands z) n)
    (words : IsNoted k.words.items l.words.items at n) (new : IsMade (set k.copies.items n (Some i)) l.words.items ls b n z i) where
  abbrev old : List (Option ℕ)
  old = k.copies.items

  abbrev now : List (Option ℕ)
  now = set k.copies.items n (Some i)

  lt : n < length k.copies.items
  lt = let long = h.sound.network.long in let in_source = here.0 in omega (arith, in_source, long)

  other : (x : ℕ) → HasCopy old x → (x ≡ n → ⊥)
  other x c same = none_lacks old n none (subst (HasCopy old) same c)

  same_at : (x : ℕ) → HasCopy old x → made_at now x ≡ made_at old x
  same_at x c = get_or-set_other old n x (Some i) None (other x c)

  still : (x : ℕ) → HasCopy old x → HasCopy now x
  still x c = let g = copy_found old x c in has_copy now x g.0 (same_at x c ∙ g.1)

  more_noted : (x y : ℕ) → HasCopy now x → Among (operands_of k.source x) y → HasCopy now y × Among (list_at l.readers.items y) x
  more_noted x y c m =
      let g = copy_found now x c in
      elim (set_cases old n x (Some i) g.0 lt g.1) [
        | inl one ↦
            let mine : Among (operands_of k.source n) y = subst (λ (v : ℕ). Among (operands_of k.source v) y) (sym one.0) m in
            let has = among_each (HasCopy old) (operands_of k.source n) have y mine in
            (still y has, subst (λ (v : ℕ). Among (list_at l.readers.items y) v) one.0 (readers.adds y (subst (λ (xs : List ℕ). Among xs y) (operands_are k.source n z here) mine)))
        | inr one ↦
            let r = h.sound.network.noted x y (has_copy old x g.0 one.1) m in
            (still y r.0, readers.keeps y x r.1)
      ]

  network_more : IsNetwork k.source now l.readers.items
  network_more = record {
    long = length-set old n (Some i) ∙ h.sound.network.long;
    readers_long = readers.long ∙ h.sound.network.readers_long;
    within = λ x y m. ⊎_elim (λ r. h.sound.network.within x y r) (λ (q : y ≡ n). subst (λ v. v < length k.source) (sym q) here.0) (readers.only x y m);
    noted = more_noted;
  }

  made_more : (x : ℕ) (y : Node) (j : ℕ) → IsAt k.source x y → made_at now x ≡ Some j → IsMade now l.words.items ls b x y j
  made_more x y j there is = elim (set_cases old n x (Some i) j lt is) [
    | inl one ↦
        let number : i ≡ j = (let q = one.1 in cc) in
        let node : z ≡ y = node_same k.source n z y here (subst (λ (v : ℕ). IsAt k.source v y) (sym one.0) there) in
        subst (λ (v : ℕ). IsMade now l.words.items ls b v y j) one.0
        (subst (λ (v : Node). IsMade now l.words.items ls b n v j) node (subst (λ (v : ℕ). IsMade now l.words.items ls b n z v) number new))
    | inr one ↦
        let each = Each-map (HasCopy old) (λ v. (copy_at old v < length a) × (copy_at now v ≡ copy_at old v)) (operands y) (λ v c. (copy_below k ls a h v c, ap number_in (same_at v c)))
        (operands_made k.source old k.readers.items x y h.sound.network there (has_copy old x j one.1)) in
        made_moved [] old now k.words.items l.words.items ls ls a b x y j (grown ls a b keeps ready) (λ v m. words.keeps v x m) (λ v m p. absurd m) each (h.made x y j there one.1)
  ]

  pub makes_one : MakesOne k l ls b n
  makes_one = record {
    later = record {
      source = source;
      kept = λ x j is. ap (λ (s : List (Option ℕ)). made_at s x) copies ∙ (same_at x (has_copy old x j is) ∙ is);
      copies = record {
        sound = record {
          fit = subst (λ (s : List Node). FitFrom [] s) (sym source) h.sound.fit;
          network = rw (source, copies) network_more;
          words_long = words.long ∙ h.sound.words_long;
          within = λ x y m. rw source (⊎_elim (λ r. h.sound.within x y r) (λ (q : y ≡ n). subst (λ v. v < length k.source) (sym q) here.0) (words.only x y m));
        };
        words = rw source h.words;
        made = rw (source, copies) made_more;
      };
    };
    one = (i, copies);
  }

-- the copier after that, by what the node is
pub makes_over : (k l : Copier) (ls : List Leaf) (a b : List Node) (n : ℕ) (y z copied : Node) (i : ℕ) → CanMake k ls a n → IsAt k.source n y → IsAt k.source n z → is_free z ≡ false → copied ≡ renumbered (copy_at k.copies.items) z → Adds a b copied i → Keeps a b
    → l.source ≡ k.source → l.copies.items ≡ set k.copies.items n (Some i) → IsNoted k.readers.items l.readers.items (operands y) n → l.words.items ≡ k.words.items → MakesOne k l ls b n
makes_over k l ls a b n y z copied i can there at bound is adds keeps source copies readers words =
    let have = subst (λ (xs : List ℕ). HaveCopies k.copies.items xs) (operands_are k.source n z at) can.operands in
    let mine : Adds a b (renumbered (copy_at k.copies.items) z) i = subst (λ (c : Node). Adds a b c i) is adds in
    let over = over_now k ls a b n z i can.copies keeps can.unmade have (over_made k ls a n z can.copies at have b i mine keeps) in
    makes_one k l ls a b n z i [] can.copies keeps can.ready at can.unmade can.operands source copies (subst (λ (c : Node). IsNoted k.readers.items l.readers.items (operands c) n) (node_same k.source n y z there at) readers)
    (subst (λ (s : List (Vec ℕ Global)). IsNoted k.words.items s [] n) (sym words) (nothing_noted k.words.items n)) (record { read = λ f. (let g = bound in cc); over = λ f. over })

pub makes_word : (k l : Copier) (ls : List Leaf) (ns : List Node) (n : ℕ) (z : Node) (place i : ℕ) → CanMake k ls ns n → IsAt k.source n z → is_free z ≡ true → IsWordOf ls z place → i ≡ node_at ls place
    → l.source ≡ k.source → l.copies.items ≡ set k.copies.items n (Some i) → l.readers.items ≡ k.readers.items → IsNoted k.words.items l.words.items (place ∷ []) n → MakesOne k l ls ns n
makes_word k l ls ns n z place i can at free word is source copies readers words =
    let node : IsNode ns (node_at ls place) (width_of z) = (let there = ready_index ls ns place can.ready word.0 in (there.0, there.1 ∙ sym (ap width_of word.1))) in
    let none = subst (λ (xs : List ℕ). IsNoted k.readers.items k.readers.items xs n) (sym (free_reads z free)) (nothing_noted k.readers.items n) in
    makes_one k l ls ns ns n z i (place ∷ []) can.copies (keeps_same ns) can.ready at can.unmade can.operands source copies (subst (λ (s : List (Vec ℕ Global)). IsNoted k.readers.items s (operands z) n) (sym readers) none) words
    (record {
      read = λ f. record {
        place = place;
        word = word;
        there = words.adds place (inl refl);
        node = subst (λ (v : ℕ). IsNode ns v (width_of z)) (sym is) node;
        number = λ e. ap (number_at e ns) is;
      };
      over = λ f. (let g = free in cc);
    })

-- ---- a copier that has made nothing

none_at : (n i : ℕ) → made_at (replicate n None) i ≡ None
none_at zero i = refl
none_at (suc n) zero = refl
none_at (suc n) (suc i) = none_at n i

pub nothing_made : (k : Copier) (ls : List Leaf) (ns : List Node) → FitFrom [] k.source → k.copies.items ≡ replicate (length k.source) None → length k.readers.items ≡ length k.source → ((i : ℕ) → list_at k.readers.items i ≡ []) → length k.words.items ≡ length ls
    → ((i : ℕ) → list_at k.words.items i ≡ []) → AreOfLeaves k.source ls → AreCopies k ls ns
nothing_made k ls ns fit copies readers_long no_readers words_long no_words words =
    let none : (n : ℕ) → made_at k.copies.items n ≡ None = λ n. ap (λ (s : List (Option ℕ)). made_at s n) copies ∙ none_at (length k.source) n in
    record {
      sound = record {
        fit = fit;
        network = record {
          long = ap (λ (s : List (Option ℕ)). length s) copies ∙ length-replicate (length k.source) None;
          readers_long = readers_long;
          within = λ a n m. absurd (subst (λ (xs : List ℕ). Among xs n) (no_readers a) m);
          noted = λ n a c m. absurd (none_lacks k.copies.items n (none n) c);
        };
        words_long = words_long;
        within = λ j n m. absurd (subst (λ (xs : List ℕ). Among xs n) (no_words j) m);
      };
      words = words;
      made = λ n z i at is. absurd (none-some i (sym (none n) ∙ is));
    }
