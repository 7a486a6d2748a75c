-- Rows of nodes of a design's signals.
use Rattle.std.proofs.Common.{◌≡◌, ℕ, zero, suc, ◌+◌, ◌<◌, ◌≤◌, List, [], ◌∷◌, ◌++◌, Option, Some, length, map, take, get_or, refl, sym, ap, ◌∙◌, subst, arith, inl, inr}
use Rattle.std.specs.Prelude.{max, slice_index}
use Rattle.set_tree.specs.Parts.{IsPosition, window_of}
use Rattle.std.specs.List.{All, AllZip}
use Rattle.std.proofs.lemmas.List.{map-append, take_more}
use Rattle.std.proofs.lemmas.List.Elements.{All-cons, All-nil, All-push}
use Rattle.set_tree.specs.declared.set.Name.{Name}
use Rattle.set_tree.specs.declared.set.Set.{Set}
use Rattle.set_tree.specs.Meaning.{Row}
use Rattle.unroll_binding.specs.Binding.{Fits, net_at}
use Rattle.vlog_tree_runs.specs.Places.{Among, Cycle}
use Rattle.word_core.specs.Words.{Bits}
use Rattle.word_dag.specs.declared.node.Node.{Node}
use Rattle.word_dag.specs.Adding.{Grows, Keeps}
use Rattle.word_dag.specs.Nodes.{Naming, dag_values, width_at, word_at}
use Rattle.word_dag.proofs.NodeValues.{width_at-map}
use Rattle.elab_step_design.specs.declared.design.Net.{Net}
use Rattle.elab_step_design.specs.Designs.{IsDesign, Parts, word_in}
use Rattle.elab_step_expr.specs.Nodes.{AddsFrees}
use Rattle.elab_step_expr.proofs.Kept.{grows_then}
use Rattle.unroll_laws.specs.Tests.{held, row_at, rows_from, seen, segment_rows, shown}
use Rattle.unroll_laws.proofs.Fitting.{IsThere, name_there}
use Rattle.twin_tests.specs.Building.{HasWidth, IsLeafRow, Shows, ShowsRow, row_in}
use Rattle.twin_tests.proofs.Standing.{shown_length, shows_grown, shows_later, shows_take}
use Rattle.unroll.specs.Copies.{AreCopies, CopiedBefore, FitCopies, IsPlaceOf, place_at}
use Rattle.unroll.specs.declared.segment.Segments.{Segments}
use Rattle.unroll.specs.Unrolled.{AreSegments, IsSourceWord}
use Rattle.unroll.proofs.Sourcing.{frees_again}

-- a place is that of the signal that is there
pub place_is : (d : Parts) (x : Name) (place : ℕ) (o : Option Net) (n : Net) → net_at d.nets x.name ≡ o → o ≡ Some n → IsPlaceOf d x place → place ≡ n.node
place_is d x place o n is some at =
    let here : place_at (Some n) ≡ Some place = subst (λ (p : Option Net). place_at p ≡ Some place) (is ∙ some) at in
    cc

module _ (d : Parts) (h : IsDesign d) (props : Set) (fits : Fits d props) where
  pub place_below : (x : Name) (place : ℕ) → Among props.names x → IsPlaceOf d x place → place < length d.nodes
  place_below x place m at =
      let there = name_there d props fits x m in
      let is = place_is d x place _ there.net refl there.is at in
      rw is (h.net there.net there.among).0

  pub places_below : (names : List Name) (places : List ℕ) → ((x : Name) → Among names x → Among props.names x) → AllZip (IsPlaceOf d) names places → All (λ place. place < length d.nodes) places
  places_below [] [] all at = All-nil (λ place. place < length d.nodes)
  places_below [] (place ∷ places) all at = absurd at
  places_below (x ∷ names) [] all at = absurd at
  places_below (x ∷ names) (place ∷ places) all at =
      All-cons (λ place. place < length d.nodes) place places (place_below x place (all x (inl refl)) at.0) (places_below names places (λ y m. all y (inr m)) at.1)

  module _ (nodes : List Node) (copies : List ℕ) (fit : FitCopies d nodes copies) where
    row_leaves : (names : List Name) (places : List ℕ) → ((x : Name) → Among names x → Among props.names x) → AllZip (IsPlaceOf d) names places → IsLeafRow names nodes (map (slice_index copies) places)
    row_leaves [] [] all at = tt
    row_leaves [] (place ∷ places) all at = absurd at
    row_leaves (x ∷ names) [] all at = absurd at
    row_leaves (x ∷ names) (place ∷ places) all at = (here, row_leaves names places (λ y m. all y (inr m)) at.1)
      where
        here : HasWidth nodes (slice_index copies place) x.width
        here =
            let there = name_there d props fits x (all x (inl refl)) in
            let is = place_is d x place _ there.net refl there.is at.0 in
            let node = h.net there.net there.among in
            let copy = fit.each there.net.node node.0 in
            let wide : width_at d.nodes there.net.node ≡ x.width = sym (width_at-map d.nodes there.net.node) ∙ (node.1 ∙ there.width) in
            rw is (record { below = copy.0; width = copy.1 ∙ wide })

    row_means : (f : Naming → Cycle) → AreCopies d nodes copies f → (e : Naming) (names : List Name) (places : List ℕ) → ((x : Name) → Among names x → Among props.names x) → AllZip (IsPlaceOf d) names places →
        row_in nodes e (map (slice_index copies) places) ≡ map (λ (n : Name). seen d (f e) n.name) names
    row_means f are e [] [] all at = refl
    row_means f are e [] (place ∷ places) all at = absurd at
    row_means f are e (x ∷ names) [] all at = absurd at
    row_means f are e (x ∷ names) (place ∷ places) all at =
        let there = name_there d props fits x (all x (inl refl)) in
        let is = place_is d x place _ there.net refl there.is at.0 in
        let node = h.net there.net there.among in
        let copied : word_at (dag_values e [] nodes) (slice_index copies place) ≡ word_in d (f e) there.net.node = rw is (are e there.net.node node.0) in
        let value : seen d (f e) x.name ≡ (word_in d (f e) there.net.node).value = ap (λ o. shown d (f e) o) there.is in
        let here : (word_at (dag_values e [] nodes) (slice_index copies place)).value ≡ seen d (f e) x.name = ap (λ (b : Bits). b.value) copied ∙ sym value in
        let rest = row_means f are e names places (λ y m. all y (inr m)) at.1 in
        cc

    -- the row of a cycle
    pub row_shows : (k i : ℕ) (places row : List ℕ) → AreCopies d nodes copies (λ e. held d props k e i) → AllZip (IsPlaceOf d) props.names places → row ≡ map (slice_index copies) places → ShowsRow props.names nodes row (λ e. row_at d props k e i)
    row_shows k i places row are at made =
        subst (λ (r : List ℕ). ShowsRow props.names nodes r (λ e. row_at d props k e i)) (sym made) (record {
          leaves = row_leaves props.names places (λ x m. m) at;
          means = λ e. row_means (λ e. held d props k e i) are e props.names places (λ x m. m) at;
        })

-- one row more
pub rows_push : (d : Parts) (props : Set) (k : ℕ) (e : Naming) (i n : ℕ) → rows_from d props k e i (n + 1) ≡ rows_from d props k e i n ++ row_at d props k e (i + n) ∷ []
rows_push d props k e i zero = let here : i + 0 ≡ i = omega arith in rw here refl
rows_push d props k e i (suc n) =
    let next : i + suc n ≡ suc i + n = omega arith in
    let more : suc n + 1 ≡ suc (n + 1) = omega arith in
    rw (more, next) (ap (λ (rows : List Row). row_at d props k e i ∷ rows) (rows_push d props k e (suc i) n))

-- the rows so far
pub record RowsLoop (d : Parts) (props : Set) (k n : ℕ) (start nodes : List Node) (copies : List ℕ) (rows : List (List ℕ)) : Type 0 where
  pub grows : Grows start nodes
  pub frees : AddsFrees (IsSourceWord d) start nodes
  pub copied : CopiedBefore d props k (k + n) nodes copies
  pub shows : Shows props.names nodes rows (λ e. rows_from d props k e k n)

pub rows_step : (d : Parts) → IsDesign d → (props : Set) → Fits d props → (k n : ℕ) (start a b : List Node) (old copies places : List ℕ) (rows new : List (List ℕ)) (row : List ℕ) → AllZip (IsPlaceOf d) props.names places → Grows a b → AddsFrees (IsSourceWord d) a b →
    CopiedBefore d props k (suc (k + n)) b copies → row ≡ map (slice_index copies) places → new ≡ rows ++ row ∷ [] → RowsLoop d props k n start a old rows → RowsLoop d props k (n + 1) start b copies new
rows_step d h props fits k n start a b old copies places rows new row at ab added copied made pushed before =
    let one = row_shows d h props fits b copies copied.0 k (k + n) places row copied.1 at made in
    let shown = shows_grown a b props.names rows (λ e. rows_from d props k e k n) ab before.shows in
    let next : k + (n + 1) ≡ suc (k + n) = omega arith in record {
      grows = grows_then start a b before.grows ab;
      frees = frees_again (IsSourceWord d) start a b before.frees added;
      copied = rw next copied;
      shows = subst (λ (zs : List (List ℕ)). Shows props.names b zs (λ e. rows_from d props k e k (n + 1))) (sym pushed) (record {
        leaves = record { each = All-push (IsLeafRow props.names b) rows row shown.leaves.each one.leaves };
        means = λ e. map-append (row_in b e) rows (row ∷ []) ∙ (ap (λ (zs : List Row). zs ++ row_in b e row ∷ []) (shown.means e) ∙ (ap (λ (z : Row). rows_from d props k e k n ++ z ∷ []) (one.means e) ∙ sym (rows_push d props k e k n)));
      });
    }

pub design_is : (d given : Parts) → given ≡ d → IsDesign given → IsDesign d
design_is d given same is = subst IsDesign same is

-- the place that a search gives
pub place_found : (d : Parts) (x : Name) (w : ℕ) (nets : List Net) (bytes : List ℕ) (o : Option ℕ) → IsThere d.nets x.name w → o ≡ place_at (net_at nets bytes) → nets ≡ d.nets → bytes ≡ x.name → (place : ℕ) × (o ≡ Some place) × IsPlaceOf d x place
place_found d x w nets bytes o there is same text =
    let here : place_at (net_at d.nets x.name) ≡ Some there.net.node = ap place_at there.is in
    (there.net.node, is ∙ (ap (λ (ns : List Net). place_at (net_at ns bytes)) same ∙ (ap (λ (y : List ℕ). place_at (net_at d.nets y)) text ∙ here)), here)

zip_push : {A B : Type 0} (R : A → B → Type 0) (xs : List A) (ys : List B) (x : A) (y : B) → AllZip R xs ys → R x y → AllZip R (xs ++ x ∷ []) (ys ++ y ∷ [])
zip_push R [] [] x y all here = (here, tt)
zip_push R [] (z ∷ ys) x y all here = absurd all
zip_push R (z ∷ xs) [] x y all here = absurd all
zip_push R (z ∷ xs) (u ∷ ys) x y all here = (all.0, zip_push R xs ys x y all.1 here)

pub zip_more : {A B : Type 0} (R : A → B → Type 0) (xs : List A) (i : ℕ) (x : A) (ys new : List B) (y : B) → i < length xs → x ≡ get_or xs i x → new ≡ ys ++ y ∷ [] → R x y → AllZip R (take i xs) ys → AllZip R (take (i + 1) xs) new
zip_more R xs i x ys new y lt is made here all =
    let more : take (i + 1) xs ≡ take i xs ++ x ∷ [] = take_more xs i x lt ∙ ap (λ z. take i xs ++ z ∷ []) (sym is) in
    rw (more, made) (zip_push R (take i xs) ys x y all here)

-- ---- segments

pub length-rows : (d : Parts) (props : Set) (k : ℕ) (e : Naming) (i n : ℕ) → length (rows_from d props k e i n) ≡ n
length-rows d props k e i zero = refl
length-rows d props k e i (suc n) = ap suc (length-rows d props k e (suc i) n)

pub rows_count : (d : Parts) (props : Set) (k n : ℕ) (nodes : List Node) (rows : List (List ℕ)) → Shows props.names nodes rows (λ e. rows_from d props k e k n) → length rows ≡ n
rows_count d props k n nodes rows shows =
    let none : Naming = λ x s t. 0 in
    sym (shown_length props.names nodes rows (λ e. rows_from d props k e k n) none shows) ∙ length-rows d props k none k n

pub rows_all : (d : Parts) (props : Set) (k n : ℕ) (nodes : List Node) (rows : List (List ℕ)) → Shows props.names nodes rows (λ e. rows_from d props k e k n) → Shows props.names nodes rows (λ e. rows_from d props k e k (length rows))
rows_all d props k n nodes rows shows = subst (λ (j : ℕ). Shows props.names nodes rows (λ e. rows_from d props k e k j)) (sym (rows_count d props k n nodes rows shows)) shows

rows_taken : (d : Parts) (props : Set) (k : ℕ) (e : Naming) (i n more : ℕ) → n ≤ more → take n (rows_from d props k e i more) ≡ rows_from d props k e i n
rows_taken d props k e i zero more le = refl
rows_taken d props k e i (suc n) zero le = absurd (omega (arith, le))
rows_taken d props k e i (suc n) (suc more) le = ap (λ (rows : List Row). row_at d props k e i ∷ rows) (rows_taken d props k e (suc i) n more (omega (arith, le)))

-- the rows up to a cycle
pub segment_to : (d : Parts) (props : Set) (k end : ℕ) (nodes : List Node) (rows taken : List (List ℕ)) → taken ≡ take (end + 1) rows → end < length rows → Shows props.names nodes rows (λ e. rows_from d props k e k (length rows)) → Shows props.names nodes taken (λ e. segment_rows d props k e end)
segment_to d props k end nodes rows taken is lt shows =
    let first = shows_take props.names nodes rows (end + 1) _ shows in
    subst (λ (zs : List (List ℕ)). Shows props.names nodes zs (λ e. segment_rows d props k e end)) (sym is) (record { leaves = first.leaves; means = λ e. first.means e ∙ rows_taken d props k e k (end + 1) (length rows) (omega (arith, lt)) })

pub segments_later : (d : Parts) (props : Set) (a b : List Node) (segments : Segments) → Keeps a b → AreSegments d props a segments → AreSegments d props b segments
segments_later d props a b segments ab are = record {
  after_reset = shows_later a b props.names segments.after_reset.items _ ab are.after_reset;
  plain = shows_later a b props.names segments.plain.items _ ab are.plain;
  reset_reach = are.reset_reach;
  step_reach = are.step_reach;
  plain_reach = are.plain_reach;
}

pub are_segments : (d : Parts) (props given : Set) (a b : List Node) (segments : Segments) (after plain : List (List ℕ)) (largest most : ℕ) → given ≡ props → segments.after_reset.items ≡ after → segments.plain.items ≡ plain → Grows a b →
    Shows props.names a after (λ e. rows_from d props given.cycles e given.cycles (given.first.window + 1)) → Shows props.names b plain (λ e. rows_from d props 0 e 0 (most + 1)) →
    most ≡ max largest 1 → ((p : ℕ) → IsPosition given p → window_of given p ≤ largest) → AreSegments d props b segments
are_segments d props given a b segments after plain largest most same is is' ab first second top all =
    let here = subst (λ (s : Set). Shows props.names a after (λ e. rows_from d props s.cycles e s.cycles (s.first.window + 1))) same first in
    let windows = subst (λ (s : Set). (p : ℕ) → IsPosition s p → window_of s p ≤ largest) same all in
    let here' = subst (λ (zs : List (List ℕ)). Shows props.names a zs (λ e. rows_from d props props.cycles e props.cycles (props.first.window + 1))) (sym is) here in
    let second' = subst (λ (zs : List (List ℕ)). Shows props.names b zs (λ e. rows_from d props 0 e 0 (most + 1))) (sym is') second in
    let one = rows_count d props props.cycles (props.first.window + 1) a segments.after_reset.items here' in
    let two = rows_count d props 0 (most + 1) b segments.plain.items second' in
    record {
      after_reset = shows_grown a b props.names segments.after_reset.items _ ab (rows_all d props props.cycles (props.first.window + 1) a segments.after_reset.items here');
      plain = rows_all d props 0 (most + 1) b segments.plain.items second';
      reset_reach = omega (arith, one);
      step_reach = omega (arith, two, top);
      plain_reach = λ p position. let le = windows p position in omega (arith, le, two, top);
    }

pub segment_at : (d : Parts) (props : Set) (k end last : ℕ) (nodes : List Node) (rows given taken : List (List ℕ)) → taken ≡ take (end + 1) given → given ≡ rows → end ≡ last → last < length rows →
    Shows props.names nodes rows (λ e. rows_from d props k e k (length rows)) → Shows props.names nodes taken (λ e. segment_rows d props k e last)
segment_at d props k end last nodes rows given taken is same there lt shows =
    segment_to d props k last nodes rows taken (is ∙ (ap (λ (zs : List (List ℕ)). take (end + 1) zs) same ∙ ap (λ n. take (n + 1) rows) there)) lt shows
