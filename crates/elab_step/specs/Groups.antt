-- Nets in groups, each of nets that the same statements assign and none of which depends on one of them.
use Rattle.std.specs.Prelude.{ℕ, ◌≡◌, ◌≢◌, ◌⊎◌, List, [], ◌∷◌, ◌++◌, length, slice_index}
use Rattle.vlog_tree_runs.specs.Places.{Among}
use Rattle.elab_flat_graphs.specs.Graphs.{Among as Lists, graph_of, successors}
use Rattle.elab_step.specs.declared.groups.Grouping.{Grouping}

-- groups, one after another
abbrev pub in_row : List (List ℕ) → List ℕ
in_row [] = []
in_row (is ∷ rest) = is ++ in_row rest

-- the list of the first one of a group
abbrev pub first_list : List (List ℕ) → List ℕ → List ℕ
first_list lists [] = []
first_list lists (i ∷ is) = successors lists i

-- none leads to an earlier one
abbrev pub LeadOn : List (List ℕ) → List ℕ → Type 0
LeadOn g [] = Unit {0}
LeadOn g (i ∷ is) = ((j : ℕ) → Among is j → Lists (successors g j) i → ⊥) × LeadOn g is

-- nets with one list of places, none of which leads to an earlier one
pub record IsGroup (g places : List (List ℕ)) (is : List ℕ) : Type 0 where
  pub same : (i : ℕ) → Among is i → successors places i ≡ first_list places is
  pub apart : LeadOn g is

abbrev pub EachGroup : List (List ℕ) → List (List ℕ) → List (List ℕ) → Type 0
EachGroup g places [] = Unit {0}
EachGroup g places (is ∷ rest) = IsGroup g places is × EachGroup g places rest

-- the groups of an order of nets
pub record AreGroupsOf (g places : List (List ℕ)) (order : List ℕ) (groups : List (List ℕ)) : Type 0 where
  pub each : EachGroup g places groups
  pub all : in_row groups ≡ order

-- the groups of nets so far, the last one still open, whose nets have its number
pub record IsGrouping (g places : List (List ℕ)) (so_far : List ℕ) (s : Grouping) : Type 0 where
  pub each : EachGroup g places (graph_of s.done.items)
  pub last : IsGroup g places s.last.items
  pub all : in_row (graph_of s.done.items) ++ s.last.items ≡ so_far
  pub long : length s.numbers.items ≡ length g
  pub numbered : (w : ℕ) → Among s.last.items w → slice_index s.numbers.items w ≡ length s.done.items

-- a net joins the last group
pub record Joins (g places : List (List ℕ)) (s : Grouping) (i : ℕ) : Type 0 where
  pub shares : (s.last.items ≡ []) ⊎ (successors places i ≡ first_list places s.last.items)
  pub apart : (w : ℕ) → Lists (successors g i) w → slice_index s.numbers.items w ≢ length s.done.items
