-- The free words of windows.
use Rattle.std.proofs.Common.{◌≡◌, ◌≤◌, ◌+◌, ◌<◌, ℕ, List, [], ◌∷◌, ◌++◌, map, zero, suc, length, get_or, take, sym, ap, ◌∙◌, subst, arith, inl, inr}
use Rattle.std.proofs.lemmas.List.{take_more, map-append, take_all}
use Rattle.std.proofs.lemmas.List.Elements.{All-push}
use Rattle.set_tree.specs.Meaning.{Row}
use Rattle.set_tree.specs.declared.set.Name.{Name}
use Rattle.word_dag.specs.declared.node.Node.{Node}
use Rattle.word_dag.specs.Nodes.{Naming}
use Rattle.word_dag.specs.Adding.{Grows}
use Rattle.elab_step_expr.specs.Nodes.{AddsFrees}
use Rattle.twin_tests_laws.specs.Windows.{named_value, rows_from}
use Rattle.twin_tests.specs.Building.{HasWidth, IsLeafRow, Counts, Shows, ShowsRow, row_in, word_in}
use Rattle.elab_step_expr.proofs.Kept.{grows_then, frees_then}
use Rattle.twin_tests.specs.Framing.{free_of, IsWordOf, IsWindowWord}
use Rattle.twin_tests.proofs.Standing.{leaf_row_grown, row_grown, shows_grown}

leaf_row_push : (nodes : List Node) (names : List Name) (row : List ℕ) (name : Name) (i : ℕ) → IsLeafRow names nodes row → HasWidth nodes i name.width → IsLeafRow (names ++ name ∷ []) nodes (row ++ i ∷ [])
leaf_row_push nodes [] [] name i h here = (here, tt)
leaf_row_push nodes [] (j ∷ row) name i h here = absurd h
leaf_row_push nodes (other ∷ names) [] name i h here = absurd h
leaf_row_push nodes (other ∷ names) (j ∷ row) name i h here = (h.0, leaf_row_push nodes names row name i h.1 here)

-- words of some names, and of one more
word_before : (xs ys : List Name) (side cycle : ℕ) (n : Node) → IsWordOf xs side cycle n → IsWordOf (xs ++ ys) side cycle n
word_before [] ys side cycle n h = absurd h
word_before (x ∷ xs) ys side cycle n (inl e) = inl e
word_before (x ∷ xs) ys side cycle n (inr h) = inr (word_before xs ys side cycle n h)

word_last : (xs : List Name) (x : Name) (side cycle : ℕ) (n : Node) → n ≡ free_of x side cycle → IsWordOf (xs ++ x ∷ []) side cycle n
word_last [] x side cycle n e = inl e
word_last (y ∷ xs) x side cycle n e = inr (word_last xs x side cycle n e)

-- the nodes of the names so far
pub record RowLoop (start nodes : List Node) (row : List ℕ) (side cycle : ℕ) (names : List Name) : Type 0 where
  pub grows : Grows start nodes
  pub frees : AddsFrees (IsWordOf names side cycle) start nodes
  pub shows : ShowsRow names nodes row (λ e. map (named_value e side cycle) names)

pub row_step : (start a b : List Node) (row new : List ℕ) (side cycle k i : ℕ) (names : List Name) (x : Name) → x ≡ get_or names k x → k < length names → new ≡ row ++ i ∷ [] → Grows a b → AddsFrees (λ n. n ≡ free_of x side cycle) a b → HasWidth b i x.width → Counts b i (λ e. named_value e side cycle x) → RowLoop start a row side cycle (take k names) → RowLoop start b new side cycle (take (k + 1) names)
row_step start a b row new side cycle k i names x is lt made ab more wide counts before =
    rw (made, take_more names k x lt) (record {
      grows = grows_then start a b before.grows ab;
      frees = λ n j free at. elim (frees_then (IsWordOf (take k names) side cycle) (λ m. m ≡ free_of x side cycle) start a b before.frees more n j free at) [
        | inl old ↦ inl old
        | inr (inl old) ↦ inr (word_before (take k names) (get_or names k x ∷ []) side cycle n old)
        | inr (inr new) ↦ inr (word_last (take k names) (get_or names k x) side cycle n (new ∙ ap (λ y. free_of y side cycle) is))
      ];
      shows = record {
        leaves = leaf_row_push b (take k names) row (get_or names k x) i (leaf_row_grown a b (take k names) row ab before.shows.leaves) (subst (λ (n : Name). HasWidth b i n.width) is wide);
        means = λ e.
            let word = λ (j : ℕ). (word_in b e j).value in
            let here : word i ≡ named_value e side cycle (get_or names k x) = counts.means e ∙ ap (named_value e side cycle) is in
            let all = row_grown a b (take k names) e row ab before.shows.leaves ∙ before.shows.means e in
            map-append word row (i ∷ []) ∙ (ap (λ (vs : List ℕ). vs ++ word i ∷ []) all ∙ (ap (λ (v : ℕ). map (named_value e side cycle) (take k names) ++ v ∷ []) here ∙ sym (map-append (named_value e side cycle) (take k names) (get_or names k x ∷ []))));
      };
    })

pub row_end : (start nodes : List Node) (row : List ℕ) (side cycle k : ℕ) (names : List Name) → length names ≤ k → RowLoop start nodes row side cycle (take k names) → RowLoop start nodes row side cycle names
row_end start nodes row side cycle k names le loop = subst (λ (ns : List Name). RowLoop start nodes row side cycle ns) (take_all k names le) loop

-- the rows so far
pub record WindowLoop (start nodes : List Node) (rows : List (List ℕ)) (side k : ℕ) (names : List Name) : Type 0 where
  pub grows : Grows start nodes
  pub frees : AddsFrees (IsWindowWord names side) start nodes
  pub shows : Shows names nodes rows (λ e. rows_from names e side 0 k)

rows_more : (names : List Name) (e : Naming) (side t k : ℕ) → rows_from names e side t (suc k) ≡ rows_from names e side t k ++ map (named_value e side (t + k)) names ∷ []
rows_more names e side t zero = let is : t ≡ t + 0 = omega arith in ap (λ (c : ℕ). map (named_value e side c) names ∷ []) is
rows_more names e side t (suc k) =
    let is : suc t + k ≡ t + suc k = omega arith in
    ap (λ (rows : List Row). map (named_value e side t) names ∷ rows) (rows_more names e side (suc t) k ∙ ap (λ (c : ℕ). rows_from names e side (suc t) k ++ map (named_value e side c) names ∷ []) is)

pub window_step : (start a b : List Node) (rows new : List (List ℕ)) (row : List ℕ) (side k : ℕ) (names : List Name) → new ≡ rows ++ row ∷ [] → Grows a b → AddsFrees (IsWordOf names side k) a b → ShowsRow names b row (λ e. map (named_value e side k) names) → WindowLoop start a rows side k names → WindowLoop start b new side (k + 1) names
window_step start a b rows new row side k names made ab more one before =
    let old = shows_grown a b names rows (λ e. rows_from names e side 0 k) ab before.shows in
    let count : k + 1 ≡ suc k = omega arith in
    let place : 0 + k ≡ k = omega arith in
    rw (made, count) (record {
      grows = grows_then start a b before.grows ab;
      frees = λ n j free at. elim (frees_then (IsWindowWord names side) (IsWordOf names side k) start a b before.frees more n j free at) [
        | inl old ↦ inl old
        | inr (inl old) ↦ inr old
        | inr (inr new) ↦ inr (k, new)
      ];
      shows = record {
        leaves = record { each = All-push (IsLeafRow names b) rows row old.leaves.each one.leaves };
        means = λ e.
            map-append (row_in b e) rows (row ∷ []) ∙ (ap (λ (rs : List Row). rs ++ row_in b e row ∷ []) (old.means e) ∙ (ap (λ (r : Row). rows_from names e side 0 k ++ r ∷ []) (one.means e) ∙ (ap (λ (c : ℕ). rows_from names e side 0 k ++ map (named_value e side c) names ∷ []) (sym place) ∙ sym (rows_more names e side 0 k))));
      };
    })
