-- Windows that are the first rows of frames.
use Rattle.std.proofs.Common.{◌≡◌, ℕ, zero, suc, ◌+◌, ◌-◌, ◌<◌, ◌≤◌, List, [], ◌∷◌, ◌++◌, length, map, take, drop, get_or, refl, sym, ap, ◌∙◌, subst, arith, length-append}
use Rattle.std.specs.Prelude.{max}
use Rattle.std.proofs.Common.{inl, inr}
use Rattle.std.proofs.lemmas.Bool.{cases_lt}
use Rattle.std.proofs.Math.ListN.{get_or-append}
use Rattle.std.proofs.lemmas.List.{get_or_push, length-take, take_more}
use Rattle.std.proofs.lemmas.List.Elements.{All-head, All-tail}
use Rattle.std.specs.List.{All}
use Rattle.set_tree.specs.Lines.{last_row}
use Rattle.twin_tests_laws.specs.Lines.{edge_end, split_end}
use Rattle.word_dag.specs.declared.node.Node.{Node}
use Rattle.word_dag.specs.Nodes.{Naming}
use Rattle.word_dag.specs.Adding.{Grows, Keeps}
use Rattle.word_dag.proofs.Valued.{grows_kept}
use Rattle.set_tree.specs.declared.set.Name.{Name}
use Rattle.set_tree.specs.declared.set.Property.{Property}
use Rattle.set_tree.specs.declared.set.Set.{Set}
use Rattle.set_tree.specs.Formulas.{meaning_of}
use Rattle.set_tree.specs.Meaning.{Row}
use Rattle.set_tree.specs.Parts.{IsPosition, property_at, window_of}
use Rattle.twin_tests_laws.specs.Tests.{meets_constraints}
use Rattle.twin_tests_laws.specs.Windows.{named_rows, named_value, rows_from}
use Rattle.twin_tests_laws.proofs.Naming.{length-rows_from}
use Rattle.twin_tests.specs.declared.frame.Frame.{Frame}
use Rattle.twin_tests.specs.declared.frame.Frames.{Frames}
use Rattle.twin_tests.specs.Building.{Shows, Tests}
use Rattle.twin_tests.specs.Framing.{AreFrames, IsFrame}
use Rattle.twin_tests.specs.Reading.{FollowsWithin, HasStructure}
use Rattle.twin_tests.proofs.Handing.{get_again}
use Rattle.twin_tests.proofs.Readings.{property_later, same_at}
use Rattle.elab_step_expr.proofs.Kept.{keeps_then}
use Rattle.twin_tests.proofs.Standing.{shown_length, shows_drop, shows_grown, shows_take, tests_grown, tests_later}

pub frame_grown : (a b : List Node) (set : Set) (frame : Frame) → Grows a b → IsFrame set a frame → IsFrame set b frame
frame_grown a b set frame ab h = record {
  rows = shows_grown a b set.names frame.rows.items _ ab h.rows;
  count = h.count;
  met = λ end d lt. tests_grown a b _ _ ab (h.met end d lt);
}

pub frame_later : (a b : List Node) (set : Set) (frame : Frame) → Keeps a b → IsFrame set a frame → IsFrame set b frame
frame_later a b set frame ab h = frame_grown a b set frame (grows_kept a b ab) h

pub frames_later : (a b : List Node) (set : Set) (frames : Frames) → Keeps a b → AreFrames set a frames → AreFrames set b frames
frames_later a b set frames ab h = record {
  first = frame_later a b set frames.first ab h.first;
  second = frame_later a b set frames.second ab h.second;
  first_side = h.first_side;
  second_side = h.second_side;
  first_reach = h.first_reach;
  second_reach = h.second_reach;
}

-- the first k of more rows
rows_taken : (names : List Name) (e : Naming) (side t k more : ℕ) → k ≤ more → take k (rows_from names e side t more) ≡ rows_from names e side t k
rows_taken names e side t zero more le = refl
rows_taken names e side t (suc k) zero le = absurd (omega (arith, le))
rows_taken names e side t (suc k) (suc more) le = ap (λ (rows : List Row). map (named_value e side t) names ∷ rows) (rows_taken names e side (suc t) k more (omega (arith, le)))

pub shown_to : (set : Set) (nodes : List Node) (rows : List (List ℕ)) (side end : ℕ) → Shows set.names nodes rows (λ e. rows_from set.names e side 0 (length rows)) → end < length rows → Shows set.names nodes (take (end + 1) rows) (λ e. named_rows set e side end)
shown_to set nodes rows side end shows lt =
    let first = shows_take set.names nodes rows (end + 1) _ shows in
    record { leaves = first.leaves; means = λ e. first.means e ∙ rows_taken set.names e side 0 (end + 1) (length rows) (omega (arith, lt)) }

pub frame_to : (set : Set) (nodes : List Node) (frame : Frame) (end : ℕ) → IsFrame set nodes frame → end < length frame.rows.items → Shows set.names nodes (take (end + 1) frame.rows.items) (λ e. named_rows set e frame.side end)
frame_to set nodes frame end h lt = shown_to set nodes frame.rows.items frame.side end h.rows lt

-- the nodes so far that tell whether the constraints hold
pub record MetLoop (set : Set) (start nodes : List Node) (met : List ℕ) (side k : ℕ) : Type 0 where
  pub keeps : Keeps start nodes
  pub count : length met ≡ k
  pub each : (end d : ℕ) → end < k → Tests nodes (get_or met end d) (λ e. meets_constraints (meaning_of set) set (named_rows set e side end))

pub met_step : (set : Set) (start a b : List Node) (met new : List ℕ) (side k i : ℕ) → new ≡ met ++ i ∷ [] → Keeps a b → Tests b i (λ e. meets_constraints (meaning_of set) set (named_rows set e side k)) → MetLoop set start a met side k → MetLoop set start b new side (k + 1)
met_step set start a b met new side k i made ab here before = record {
  keeps = keeps_then start a b before.keeps ab;
  count = ap (λ (ns : List ℕ). length ns) made ∙ (length-append met (i ∷ []) ∙ ap (λ n. n + 1) before.count);
  each = λ end d lt. rw made (elim (cases_lt end k) [
    | inl less ↦ rw (get_or-append met (i ∷ []) d end (omega (arith, less, before.count))) (tests_later a b _ _ ab (before.each end d less))
    | inr more ↦ let is : end ≡ k = omega (arith, lt, more) in rw (is, get_or_push met i d k before.count) here
  ]);
}

-- the rows up to a cycle
pub rows_show : (set : Set) (nodes : List Node) (frame : Frame) (end last : ℕ) (rows : List (List ℕ)) → rows ≡ take (end + 1) frame.rows.items → end ≡ last → end < length frame.rows.items → IsFrame set nodes frame → Shows set.names nodes rows (λ e. named_rows set e frame.side last)
rows_show set nodes frame end last rows is same lt h =
    subst (λ (k : ℕ). Shows set.names nodes rows (λ e. named_rows set e frame.side k)) same (subst (λ (z : List (List ℕ)). Shows set.names nodes z (λ e. named_rows set e frame.side end)) (sym is) (frame_to set nodes frame end h lt))

-- windows of so many rows
pub window_count : (names : List Name) (nodes : List Node) (rows : List (List ℕ)) (side count : ℕ) → Shows names nodes rows (λ e. rows_from names e side 0 count) → length rows ≡ count
window_count names nodes rows side count shows =
    let none : Naming = λ x s t. 0 in
    sym (shown_length names nodes rows (λ e. rows_from names e side 0 count) none shows) ∙ length-rows_from names none side 0 count

pub window_shows : (names given : List Name) (nodes : List Node) (rows : List (List ℕ)) (side count : ℕ) → given ≡ names → Shows given nodes rows (λ e. rows_from given e side 0 count) → Shows names nodes rows (λ e. rows_from names e side 0 (length rows))
window_shows names given nodes rows side count is shows =
    let long = window_count given nodes rows side count shows in
    subst (λ (ns : List Name). Shows ns nodes rows (λ e. rows_from ns e side 0 (length rows))) is (subst (λ (k : ℕ). Shows given nodes rows (λ e. rows_from given e side 0 k)) (sym long) shows)

-- the largest window so far
abbrev pub IsLargest : Set → List Property → ℕ → ℕ → Type 0
IsLargest set items i largest = (largest ≤ 64) × (set.first.window ≤ largest) × ((j : ℕ) (d : Property) → j < i → (get_or items j d).window ≤ largest)

pub largest_step : (set : Set) (items : List Property) (i old new : ℕ) (x : Property) → HasStructure set → items ≡ set.operations → x ≡ get_or items i x → i < length items → new ≡ max old x.window → IsLargest set items i old → IsLargest set items (i + 1) new
largest_step set items i old new x s listed is lt most before =
    let long : length items ≡ length set.operations = ap (λ (ps : List Property). length ps) listed in
    let same : property_at set (suc i) ≡ x = property_later set (suc i) x (omega arith) (omega (arith, lt, long)) (let back : suc i - 1 ≡ i = omega arith in rw back (is ∙ ap (λ (ps : List Property). get_or ps i x) listed)) in
    let bound : x.window ≤ 64 = subst (λ (p : Property). p.window ≤ 64) same (s.formed.bounds.windows (suc i) (omega (arith, lt, long))) in (
      omega (arith, most, bound, before.0),
      omega (arith, most, before.1),
      λ j d le. elim (cases_lt j i) [
        | inl less ↦ let old_one = before.2 j d less in omega (arith, most, old_one)
        | inr more ↦ let place : j ≡ i = omega (arith, le, more) in let here : (get_or items i d).window ≡ x.window = ap (λ (p : Property). p.window) (same_at items i d x lt ∙ sym is) in rw place (omega (arith, most, here))
      ],
    )

pub first_shows : (set : Set) (nodes : List Node) (frames : Frames) (end last : ℕ) (rows : List (List ℕ)) → rows ≡ take (end + 1) frames.first.rows.items → end ≡ last → end < length frames.first.rows.items → AreFrames set nodes frames → Shows set.names nodes rows (λ e. named_rows set e 0 last)
first_shows set nodes frames end last rows is same lt h = subst (λ (s : ℕ). Shows set.names nodes rows (λ e. named_rows set e s last)) h.first_side (rows_show set nodes frames.first end last rows is same lt h.first)

pub second_shows : (set : Set) (nodes : List Node) (frames : Frames) (end last : ℕ) (rows : List (List ℕ)) → rows ≡ take (end + 1) frames.second.rows.items → end ≡ last → end < length frames.second.rows.items → AreFrames set nodes frames → Shows set.names nodes rows (λ e. named_rows set e 1 last)
second_shows set nodes frames end last rows is same lt h = subst (λ (s : ℕ). Shows set.names nodes rows (λ e. named_rows set e s last)) h.second_side (rows_show set nodes frames.second end last rows is same lt h.second)

-- the rows from n on
pub after_shows : (names : List Name) (nodes : List Node) (rows later : List (List ℕ)) (n : ℕ) (f : Naming → List Row) → later ≡ drop n rows → Shows names nodes rows f → Shows names nodes later (λ e. drop n (f e))
after_shows names nodes rows later n f is shows = subst (λ (z : List (List ℕ)). Shows names nodes z (λ e. drop n (f e))) (sym is) (shows_drop names nodes rows n f shows)

-- how many rows there are up to a cycle
pub taken_long : (rows taken : List (List ℕ)) (end : ℕ) → taken ≡ take (end + 1) rows → end < length rows → length taken ≡ end + 1
taken_long rows taken end is lt = ap (λ (z : List (List ℕ)). length z) is ∙ (length-take (end + 1) rows ∙ omega (arith, lt))

pub follows_to : (set : Set) (p end : ℕ) (rows taken : List (List ℕ)) → IsPosition set p → window_of set p ≤ end → taken ≡ take (end + 1) rows → end < length rows → FollowsWithin set (length taken) p
follows_to set p end rows taken position reach is lt = let long = taken_long rows taken end is lt in (position, omega (arith, long, reach))

-- how far the windows of lines reach
pub end_of_property : (set : Set) (p n : ℕ) → HasStructure set → IsPosition set p → n ≤ (property_at set p).length.high → n ≤ window_of set p
end_of_property set p n s position most = let span = s.sound.lengths p position in omega (arith, span.fits, most)

pub edge_reach : (set : Set) (p q n k : ℕ) → HasStructure set → IsPosition set p → n ≤ (property_at set p).length.high → window_of set p + window_of set q < k → edge_end set p q n < k
edge_reach set p q n k s position most reach = let le = end_of_property set p n s position most in omega (arith, le, reach)

last_reach : (set : Set) (w n k : ℕ) (qs : List ℕ) → w < k → All (λ q. n + window_of set q < k) qs → last_row set w n qs < k
last_reach set w n k [] lt all = lt
last_reach set w n k (q ∷ qs) lt all =
    let here = All-head (λ r. n + window_of set r < k) q qs all in
    let rest = last_reach set w n k qs lt (All-tail (λ r. n + window_of set r < k) q qs all) in
    omega (arith, here, rest)

pub next_positions : (set : Set) (p : ℕ) → HasStructure set → IsPosition set p → All (IsPosition set) (property_at set p).next
next_positions set p s position = λ k d lt. (s.formed.successors p (get_or (property_at set p).next k d) position (k, lt, sym (get_again (property_at set p).next k d lt)))

pub split_reach : (set : Set) (p n k : ℕ) → HasStructure set → IsPosition set p → n ≤ (property_at set p).length.high → ((q : ℕ) → IsPosition set q → window_of set p + window_of set q < k) → split_end set p n < k
split_reach set p n k s position most reach =
    let le = end_of_property set p n s position most in
    let own = reach p position in
    last_reach set (window_of set p) n k (property_at set p).next (omega (arith, own)) (λ j d lt. let far = reach (get_or (property_at set p).next j d) (next_positions set p s position j d lt) in omega (arith, far, le))

-- one more successor
pub last_more : (set : Set) (w n q : ℕ) (qs : List ℕ) → last_row set w n (qs ++ q ∷ []) ≡ max (last_row set w n qs) (n + window_of set q)
last_more set w n q [] = omega arith
last_more set w n q (r ∷ qs) = let rest = last_more set w n q qs in omega (arith, rest)

pub last_step : (set : Set) (w n i old new window q : ℕ) (qs : List ℕ) → i < length qs → q ≡ get_or qs i q → window ≡ window_of set q → new ≡ max old (n + window) → old ≡ last_row set w n (take i qs) → new ≡ last_row set w n (take (i + 1) qs)
last_step set w n i old new window q qs lt is wide most before =
    let more : take (i + 1) qs ≡ take i qs ++ q ∷ [] = take_more qs i q lt ∙ ap (λ (r : ℕ). take i qs ++ r ∷ []) (sym is) in
    most ∙ (omega (arith, wide, before) ∙ (sym (last_more set w n q (take i qs)) ∙ ap (last_row set w n) (sym more)))
