-- Segments in a longer dag, and goals one after another.
use Rattle.std.proofs.Common.{◌≡◌, ℕ, ◌+◌, ◌<◌, ◌≤◌, List, [], ◌∷◌, ◌++◌, length, take, get_or, ap, ◌∙◌, subst, arith}
use Rattle.std.specs.List.{AllZip}
use Rattle.std.proofs.lemmas.List.{length-take-le}
use Rattle.set_tree.specs.declared.set.Set.{Set}
use Rattle.set_tree.specs.Parts.{IsPosition, largest_window, window_of}
use Rattle.set_tree_completeness.proofs.Chain.{window-le}
use Rattle.word_dag.specs.declared.node.Node.{Node}
use Rattle.word_dag.specs.Adding.{Grows, Keeps}
use Rattle.elab_step_design.specs.Designs.{IsDesign, Parts}
use Rattle.unroll_laws.specs.Tests.{rows_from, segment_rows}
use Rattle.elab_step_expr.specs.Nodes.{AddsFrees}
use Rattle.twin_tests.specs.Building.{Shows}
use Rattle.twin_tests.proofs.Standing.{shows_grown, shows_later}
use Rattle.unroll.specs.Unrolled.{IsSourceWord}
use Rattle.unroll.proofs.Rowing.{rows_all, rows_count, segment_at, zip_more}
use Rattle.unroll.proofs.Sourcing.{source_widths}
use Rattle.word_dag.specs.Names.{HasOneWidthEach}
use Rattle.word_dag.proofs.Taken.{widths_are_kept}
use Rattle.meet_lines.specs.declared.line.MeetLine.{MeetLine}
use Rattle.meet_lines.specs.declared.segments.Segments.{Segments}
use Rattle.meet_lines.specs.Goals.{IsGoalOf}
use Rattle.proof_store.specs.declared.goal.Goal.{Goal}
use Rattle.meet_lines.specs.Segments.{AreSegments}

pub segments_later : (d : Parts) (set : Set) (a b : List Node) (segments : Segments) → Keeps a b → AreSegments d set a segments → AreSegments d set b segments
segments_later d set a b segments ab are = record {
  after_reset = shows_later a b set.names segments.after_reset.items _ ab are.after_reset;
  plain = shows_later a b set.names segments.plain.items _ ab are.plain;
}

-- the goals so far
pub record GoalsLoop (d : Parts) (set : Set) (nodes : List Node) (segments : Segments) (lines : List MeetLine) (goals : List (Goal MeetLine)) : Type 0 where
  pub held : AreSegments d set nodes segments
  pub each : AllZip (IsGoalOf d set) lines goals
  pub words : HasOneWidthEach nodes

-- no line has its goal yet
pub goals_begin : (d : Parts) (set : Set) (start nodes : List Node) (segments : Segments) (goals : List (Goal MeetLine)) → IsDesign d → start ≡ [] → AddsFrees (IsSourceWord d) start nodes → AreSegments d set nodes segments → goals ≡ [] → GoalsLoop d set nodes segments [] goals
goals_begin d set start nodes segments goals design empty frees held none = record {
  held = held;
  each = rw none tt;
  words = source_widths d design start nodes empty frees;
}

pub goals_step : (d : Parts) (set : Set) (a b : List Node) (segments : Segments) (lines : List MeetLine) (goals new : List (Goal MeetLine)) (i : ℕ) (line : MeetLine) (goal : Goal MeetLine) → Keeps a b → i < length lines → line ≡ get_or lines i line → new ≡ goals ++ goal ∷ [] → IsGoalOf d set line goal → GoalsLoop d set a segments (take i lines) goals → GoalsLoop d set b segments (take (i + 1) lines) new
goals_step d set a b segments lines goals new i line goal ab lt is made here before = record {
  held = segments_later d set a b segments ab before.held;
  each = zip_more (IsGoalOf d set) lines i line goals new goal lt is made here before.each;
  words = widths_are_kept a b ab before.words;
}

-- ---- rows

-- the rows of both kinds up to the largest window
pub are_segments : (d : Parts) (props given : Set) (a b : List Node) (segments : Segments) (largest : ℕ) → given ≡ props → largest ≡ largest_window given → Grows a b →
    Shows props.names a segments.after_reset.items (λ e. rows_from d props given.cycles e given.cycles (largest + 1)) → Shows props.names b segments.plain.items (λ e. rows_from d props 0 e 0 (largest + 1)) → AreSegments d props b segments
are_segments d props given a b segments largest same top ab first second =
    let end : largest ≡ largest_window props = top ∙ ap (λ (s : Set). largest_window s) same in
    let counted = subst (λ (n : ℕ). Shows props.names a segments.after_reset.items (λ e. rows_from d props given.cycles e given.cycles (n + 1))) end first in
    let here = subst (λ (s : Set). Shows props.names a segments.after_reset.items (λ e. rows_from d props s.cycles e s.cycles (largest_window props + 1))) same counted in
    record {
      after_reset = shows_grown a b props.names segments.after_reset.items _ ab here;
      plain = subst (λ (n : ℕ). Shows props.names b segments.plain.items (λ e. rows_from d props 0 e 0 (n + 1))) end second;
    }

module _ (d : Parts) (set : Set) (nodes : List Node) (p : ℕ) (position : IsPosition set p) (rows : List (List ℕ)) (shows : Shows set.names nodes rows (λ e. segment_rows d set 0 e (largest_window set))) where
  -- an operation's window is among them
  window_within : window_of set p < length rows
  window_within =
      let count : length rows ≡ largest_window set + 1 = rows_count d set 0 (largest_window set + 1) nodes rows shows in
      let le = window-le set p position in
      omega (arith, count, le)

  pub rows_fit : (end : ℕ) (given : List (List ℕ)) → given ≡ rows → end ≡ window_of set p → end + 1 ≤ length given
  rows_fit end given same last =
      let long : length given ≡ length rows = ap (λ (zs : List (List ℕ)). length zs) same in
      let within = window_within in
      omega (arith, long, within, last)

  pub window_taken : (end : ℕ) (given taken : List (List ℕ)) → taken ≡ take (end + 1) given → given ≡ rows → end ≡ window_of set p → window_of set p < length taken
  window_taken end given taken is same last =
      let count : length taken ≡ end + 1 = ap (λ (zs : List (List ℕ)). length zs) is ∙ length-take-le (end + 1) given (rows_fit end given same last) in
      omega (arith, count, last)

  pub operation_rows : (end : ℕ) (given taken : List (List ℕ)) → taken ≡ take (end + 1) given → given ≡ rows → end ≡ window_of set p → Shows set.names nodes taken (λ e. segment_rows d set 0 e (window_of set p))
  operation_rows end given taken is same last =
      segment_at d set 0 end (window_of set p) nodes rows given taken is same last window_within (rows_all d set 0 (largest_window set + 1) nodes rows shows)
