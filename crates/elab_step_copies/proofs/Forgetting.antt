-- Copies that are forgotten, with all that read them.
use Rattle.std.proofs.Common.{◌≡◌, ℕ, zero, suc, ◌+◌, ◌<◌, List, [], ◌∷◌, ◌++◌, Option, Some, None, refl, sym, ap, ◌∙◌, subst, arith, inl, inr, ⊎_elim, ◌⊎◌, length, get_or, take, set, get_or-set_other, length-set, length-append, Vec, Global}
use Rattle.std.proofs.lemmas.Bool.{cases_eq}
use Rattle.std.proofs.lemmas.List.{take_more}
use Rattle.std.proofs.lemmas.Option.{none-some}
use Rattle.vlog_tree_runs.specs.Places.{Among}
use Rattle.elab_flat_laws.proofs.Lists.{among_append, append_left, append_right}
use Rattle.word_dag.specs.declared.node.Node.{Node}
use Rattle.word_dag.specs.Order.{operands_of}
use Rattle.elab_step_expr.specs.declared.leaves.Leaf.{Leaf}
use Rattle.elab_step_blocks.specs.Saving.{node_at}
use Rattle.elab_step_copies.specs.declared.copier.Copier.{Copier}
use Rattle.elab_step_copies.specs.Copies.{AreCopies, AreMoved, HasCopy, IsNetwork, IsSound, list_at, made_at}
use Rattle.elab_step_copies.specs.Walks.{IsRenewed, IsTaken}
use Rattle.elab_step_copies.proofs.Noting.{counted, taken_counted}
use Rattle.elab_step_copies.proofs.Making.{copy_found, has_copy}
use Rattle.elab_step_copies.proofs.Moving.{copies_moved}

pub number_among : (ns : List ℕ) (i d : ℕ) → i < length ns → Among ns (get_or ns i d)
number_among [] i d lt = absurd (omega (arith, lt))
number_among (n ∷ ns) zero d lt = inl refl
number_among (n ∷ ns) (suc i) d lt = inr (number_among ns i d (omega (arith, lt)))

-- ---- a copy that is taken out

set_none : (copies : List (Option ℕ)) (n : ℕ) → made_at (set copies n None) n ≡ None
set_none [] n = refl
set_none (c ∷ copies) zero = refl
set_none (c ∷ copies) (suc n) = set_none copies n

pub left_set : (copies : List (Option ℕ)) (n x i : ℕ) → made_at (set copies n None) x ≡ Some i → (x ≡ n → ⊥) × (made_at copies x ≡ Some i)
left_set copies n x i is = elim (cases_eq x n) [
  | inl same ↦ absurd (none-some i (sym (ap (made_at (set copies n None)) same ∙ set_none copies n) ∙ is))
  | inr other ↦ (other, sym (get_or-set_other copies n x None None other) ∙ is)
]

has_left : (copies : List (Option ℕ)) (n x : ℕ) → HasCopy (set copies n None) x → (x ≡ n → ⊥) × HasCopy copies x
has_left copies n x c =
    let f = copy_found (set copies n None) x c in
    let g = left_set copies n x f.0 f.1 in
    (g.0, has_copy copies x f.0 g.1)

has_apart : (copies : List (Option ℕ)) (n x : ℕ) → (x ≡ n → ⊥) → HasCopy copies x → HasCopy (set copies n None) x
has_apart copies n x other c =
    let f = copy_found copies x c in
    has_copy (set copies n None) x f.0 (get_or-set_other copies n x None None other ∙ f.1)

-- ---- a stack of nodes that are still to be forgotten

pub record Forgetting (k l : Copier) (numbers stack : List ℕ) : Type 0 where
  pub source : l.source ≡ k.source
  pub words : l.words.items ≡ k.words.items
  pub long : length l.copies.items ≡ length k.source
  pub readers_long : length l.readers.items ≡ length k.source
  pub within : (a n : ℕ) → Among (list_at l.readers.items a) n → n < length k.source
  pub stacked : (n : ℕ) → Among stack n → n < length k.source
  pub noted : (n a : ℕ) → HasCopy l.copies.items n → Among (operands_of k.source n) a → (HasCopy l.copies.items a × Among (list_at l.readers.items a) n) ⊎ Among stack n
  pub left : (n i : ℕ) → made_at l.copies.items n ≡ Some i → made_at k.copies.items n ≡ Some i
  pub gone : (n : ℕ) → Among numbers n → HasCopy l.copies.items n → Among stack n

pub forgetting_start : (k : Copier) (numbers : List ℕ) → IsNetwork k.source k.copies.items k.readers.items → ((n : ℕ) → Among numbers n → n < length k.source) → Forgetting k k numbers numbers
forgetting_start k numbers h within = record {
  source = refl;
  words = refl;
  long = h.long;
  readers_long = h.readers_long;
  within = h.within;
  stacked = within;
  noted = λ n a c m. inl (h.noted n a c m);
  left = λ n i is. is;
  gone = λ n m c. m;
}

-- the top of a stack, and the rest
popped : (stack rest : List ℕ) (top n : ℕ) → stack ≡ rest ++ top ∷ [] → Among stack n → (n ≡ top) ⊎ Among rest n
popped stack rest top n cut m = ⊎_elim (λ r. inr r) (λ r. inl (⊎_elim (λ (q : top ≡ n). sym q) (λ z. absurd z) r)) (among_append rest (top ∷ []) n (subst (λ (xs : List ℕ). Among xs n) cut m))

pub top_stacked : (stack rest : List ℕ) (top : ℕ) → stack ≡ rest ++ top ∷ [] → Among stack top
top_stacked stack rest top cut = subst (λ (xs : List ℕ). Among xs top) (sym cut) (append_right rest (top ∷ []) top (inl refl))

rest_stacked : (stack rest : List ℕ) (top n : ℕ) → stack ≡ rest ++ top ∷ [] → Among rest n → Among stack n
rest_stacked stack rest top n cut m = subst (λ (xs : List ℕ). Among xs n) (sym cut) (append_left rest (top ∷ []) n m)

module _ (k l m : Copier) (numbers stack rest more : List ℕ) (top : ℕ) (h : Forgetting k l numbers stack) (cut : stack ≡ rest ++ top ∷ [])
    (source : m.source ≡ l.source) (words : m.words.items ≡ l.words.items) (copies : m.copies.items ≡ set l.copies.items top None) (readers : IsTaken l.readers.items m.readers.items top) (is : more ≡ rest ++ list_at l.readers.items top) where
  abbrev old : List (Option ℕ)
  old = l.copies.items

  abbrev now : List (Option ℕ)
  now = set l.copies.items top None

  in_rest : (n : ℕ) → Among rest n → Among more n
  in_rest n r = subst (λ (xs : List ℕ). Among xs n) (sym is) (append_left rest (list_at l.readers.items top) n r)

  in_list : (n : ℕ) → Among (list_at l.readers.items top) n → Among more n
  in_list n r = subst (λ (xs : List ℕ). Among xs n) (sym is) (append_right rest (list_at l.readers.items top) n r)

  in_stack : (n : ℕ) → (n ≡ top → ⊥) → Among stack n → Among more n
  in_stack n other r = ⊎_elim (λ q. absurd (other q)) (λ s. in_rest n s) (popped stack rest top n cut r)

  still_noted : (n a : ℕ) → HasCopy now n → Among (operands_of k.source n) a → (HasCopy now a × Among (list_at m.readers.items a) n) ⊎ Among more n
  still_noted n a c r =
      let was = has_left old top n c in
      elim (h.noted n a was.1 r) [
        | inl both ↦ elim (cases_eq a top) [
          | inl same ↦ inr (in_list n (subst (λ (v : ℕ). Among (list_at l.readers.items v) n) same both.1))
          | inr other ↦ inl (has_apart old top a other both.0, subst (λ (xs : List ℕ). Among xs n) (sym (readers.left a other)) both.1)
        ]
        | inr s ↦ inr (in_stack n was.0 s)
      ]

  still_within : (a n : ℕ) → Among (list_at m.readers.items a) n → n < length k.source
  still_within a n r = elim (cases_eq a top) [
    | inl same ↦ absurd (subst (λ (xs : List ℕ). Among xs n) (ap (list_at m.readers.items) same ∙ readers.gone) r)
    | inr other ↦ h.within a n (subst (λ (xs : List ℕ). Among xs n) (readers.left a other) r)
  ]

  pub forgetting_next : Forgetting k m numbers more
  forgetting_next = record {
    source = source ∙ h.source;
    words = words ∙ h.words;
    long = ap (λ (xs : List (Option ℕ)). length xs) copies ∙ (length-set old top None ∙ h.long);
    readers_long = readers.long ∙ h.readers_long;
    within = still_within;
    stacked = λ n r. ⊎_elim (λ s. h.stacked n (rest_stacked stack rest top n cut s)) (λ s. h.within top n s) (among_append rest (list_at l.readers.items top) n (subst (λ (xs : List ℕ). Among xs n) is r));
    noted = rw copies still_noted;
    left = λ n i e. h.left n i (left_set old top n i (ap (λ (s : List (Option ℕ)). made_at s n) (sym copies) ∙ e)).1;
    gone = λ n r c.
        let was = has_left old top n (subst (λ (s : List (Option ℕ)). HasCopy s n) copies c) in
        in_stack n was.0 (h.gone n r was.1);
  }

-- each turn takes a node off the stack, and those that it puts there off a list
pub forgetting_less : (old new : List (Vec ℕ Global)) (stack rest more : List ℕ) (top : ℕ) → top < length old → stack ≡ rest ++ top ∷ [] → IsTaken old new top → more ≡ rest ++ list_at old top → length more + counted new < length stack + counted old
forgetting_less old new stack rest more top lt cut taken is =
    let long : length more ≡ length rest + length (list_at old top) = ap (λ (xs : List ℕ). length xs) is ∙ length-append rest (list_at old top) in
    let one : length stack ≡ length rest + 1 = ap (λ (xs : List ℕ). length xs) cut ∙ length-append rest (top ∷ []) in
    let count = taken_counted old new top lt taken in
    omega (arith, one, long, count)

-- ---- the copies of one leaf's words

-- nothing has to be forgotten
pub renewed_fresh : (k : Copier) (ls : List Leaf) (place : ℕ) → IsSound k (length ls) → ((n i : ℕ) → Among (list_at k.words.items place) n → made_at k.copies.items n ≡ Some i → i ≡ node_at ls place) → IsRenewed k k ls place
renewed_fresh k ls place sound fresh = record { source = refl; sound = sound; left = λ n i is. is; words = λ j n i m is. m; fresh = fresh }

-- ---- leaf after leaf

pub record Renewing (k l : Copier) (ls : List Leaf) (places : List ℕ) : Type 0 where
  pub source : l.source ≡ k.source
  pub sound : IsSound l (length ls)
  pub left : (n i : ℕ) → made_at l.copies.items n ≡ Some i → made_at k.copies.items n ≡ Some i
  pub words : (j n i : ℕ) → Among (list_at k.words.items j) n → made_at l.copies.items n ≡ Some i → Among (list_at l.words.items j) n
  pub fresh : (j n i : ℕ) → Among places j → Among (list_at k.words.items j) n → made_at l.copies.items n ≡ Some i → i ≡ node_at ls j

pub renewing_start : (k : Copier) (ls : List Leaf) → IsSound k (length ls) → Renewing k k ls []
renewing_start k ls sound = record { source = refl; sound = sound; left = λ n i is. is; words = λ j n i m is. m; fresh = λ j n i p m is. absurd p }

pub renewing_next : (k l m : Copier) (ls : List Leaf) (places : List ℕ) (place : ℕ) → Renewing k l ls places → IsRenewed l m ls place → Renewing k m ls (places ++ place ∷ [])
renewing_next k l m ls places place h g = record {
  source = g.source ∙ h.source;
  sound = g.sound;
  left = λ n i is. h.left n i (g.left n i is);
  words = λ j n i r is. g.words j n i (h.words j n i r (g.left n i is)) is;
  fresh = λ j n i p r is.
      ⊎_elim (λ q. h.fresh j n i q r (g.left n i is))
      (λ q. ⊎_elim (λ (e : place ≡ j).
      let mine = h.words j n i r (g.left n i is) in
      g.fresh n i (subst (λ (v : ℕ). Among (list_at l.words.items v) n) (sym e) mine) is ∙ ap (node_at ls) e) (λ z. absurd z) q) (among_append places (place ∷ []) j p);
}

pub renewing_end : (k l : Copier) (us ls : List Leaf) (places : List ℕ) (a b : List Node) → Renewing k l ls places → AreCopies k us a → AreMoved places us a ls b → AreCopies l ls b
renewing_end k l us ls places a b h copies moved = copies_moved places k l us ls a b copies moved h.source h.sound h.left h.words h.fresh

-- ---- a leaf whose words have copies

-- one more of these nodes has no copy but this one
pub fresh_more : (copies : List (Option ℕ)) (numbers : List ℕ) (k x node : ℕ) → k < length numbers → x ≡ get_or numbers k 0 → ((i : ℕ) → made_at copies x ≡ Some i → i ≡ node) → ((n i : ℕ) → Among (take k numbers) n → made_at copies n ≡ Some i → i ≡ node)
    → (n i : ℕ) → Among (take (k + 1) numbers) n → made_at copies n ≡ Some i → i ≡ node
fresh_more copies numbers k x node lt at here h n i m is =
    let cut : take (k + 1) numbers ≡ take k numbers ++ x ∷ [] = take_more numbers k 0 lt ∙ ap (λ v. take k numbers ++ v ∷ []) (sym at) in
    elim (popped (take (k + 1) numbers) (take k numbers) x n cut m) [ inl q ↦ here i (ap (made_at copies) (sym q) ∙ is) | inr r ↦ h n i r is ]
