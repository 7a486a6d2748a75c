-- Atoms that lines share.
use Rattle.std.proofs.Common.{◌≡◌, ℕ, ◌+◌, ◌<◌, ◌≤◌, Bool, List, length, drop, take, get_or, refl, sym, subst, arith}
use Rattle.std.specs.Prelude.{Option, None, Some, IfSome}
use Rattle.twin_tests_laws.specs.Lines.{edge_end}
use Rattle.set_tree.specs.declared.set.Set.{Set}
use Rattle.set_tree.specs.Parts.{IsPosition, property_at, window_of}
use Rattle.word_dag.specs.declared.node.Node.{Node}
use Rattle.word_dag.specs.Adding.{Keeps}
use Rattle.word_dag.specs.Nodes.{Naming}
use Rattle.twin_tests.specs.declared.frame.Frames.{Frames}
use Rattle.twin_tests.specs.declared.shared.Made.{Made}
use Rattle.twin_tests.specs.declared.shared.Atom.{Atom}
use Rattle.twin_tests.specs.declared.shared.Predicate.{Predicate}
use Rattle.twin_tests_laws.specs.Windows.{named_rows}
use Rattle.twin_tests.specs.Building.{Shows, Tests}
use Rattle.twin_tests.specs.Framing.{AreFrames}
use Rattle.twin_tests.specs.Reading.{HasStructure}
use Rattle.twin_tests.specs.Sharing.{AreMade, HasRoom, Reaches, atom_test, predicate_at}
use Rattle.twin_tests.proofs.Framed.{after_shows, edge_reach, first_shows, second_shows}
use Rattle.twin_tests.proofs.Loops.{Joined}
use Rattle.twin_tests.proofs.Standing.{tests_later}

-- an atom that was made, in a longer dag
one_later : (set : Set) (a b : List Node) (o : Option Made) → Keeps a b → IfSome o (λ m. Tests a m.node (atom_test set m.atom)) → IfSome o (λ m. Tests b m.node (atom_test set m.atom))
one_later set a b None ab h = tt
one_later set a b (Some m) ab h = tests_later a b m.node (atom_test set m.atom) ab h

pub made_later : (set : Set) (a b : List Node) (made : List (Option Made)) → Keeps a b → AreMade set a made → AreMade set b made
made_later set a b made ab h = record { each = λ k d lt. one_later set a b (get_or made k d) ab (h.each k d lt) }

-- the windows of an edge hold both its properties
pub record HoldEdge (set : Set) (frames : Frames) (p q n end : ℕ) : Type 0 where
  pub first : end < length frames.first.rows.items
  pub second : end < length frames.second.rows.items
  pub own : window_of set p ≤ end
  pub next : n + window_of set q ≤ end

pub hold_edge : (set : Set) (nodes : List Node) (frames : Frames) (p q n end : ℕ) → HasStructure set → IsPosition set p → IsPosition set q → n ≤ (property_at set p).length.high → AreFrames set nodes frames → end ≡ edge_end set p q n → HoldEdge set frames p q n end
hold_edge set nodes frames p q n end s position next most held is =
    let reach = edge_reach set p q n (length frames.first.rows.items) s position most (held.first_reach p q position next) in
    let reach' = edge_reach set p q n (length frames.second.rows.items) s position most (held.second_reach p q position next) in
    record { first = omega (arith, is, reach); second = omega (arith, is, reach'); own = omega (arith, is); next = omega (arith, is) }

pub room_for : (set : Set) (frames : Frames) (atom : Atom) (predicate : Predicate) (p n end : ℕ) → atom ≡ record { predicate = predicate; property = p; row = n; end = end } → IsPosition set p → end < length frames.first.rows.items → end < length frames.second.rows.items → Reaches set predicate p n end → HasRoom set frames atom
room_for set frames atom predicate p n end is position first second reaches = rw is (record { position = position; first = first; second = second; reaches = reaches })

-- the node of an atom whose windows end where the line's do
pub test_of : (set : Set) (nodes : List Node) (i : ℕ) (atom : Atom) (predicate : Predicate) (p n end last : ℕ) → atom ≡ record { predicate = predicate; property = p; row = n; end = end } → end ≡ last → Tests nodes i (atom_test set atom) → Tests nodes i (atom_test set (record { predicate = predicate; property = p; row = n; end = last }))
test_of set nodes i atom predicate p n end last is same t =
    subst (λ (k : ℕ). Tests nodes i (atom_test set (record { predicate = predicate; property = p; row = n; end = k }))) same (subst (λ (x : Atom). Tests nodes i (atom_test set x)) is t)

-- a test that is joined of several, beside the atoms that were made
pub record JoinedOf (set : Set) (start nodes : List Node) (made : List (Option Made)) (node : ℕ) (t : Naming → Bool) : Type 0 where
  pub joined : Joined start nodes node t
  pub atoms : AreMade set nodes made

-- the nodes of lines so far
pub record LinesLoop (set : Set) (start nodes : List Node) (made : List (Option Made)) : Type 0 where
  pub keeps : Keeps start nodes
  pub atoms : AreMade set nodes made

-- the rows of both windows from the row of an atom on
pub first_from : (set : Set) (nodes : List Node) (frames : Frames) (atom : Atom) (rows : List (List ℕ)) → AreFrames set nodes frames → atom.end < length frames.first.rows.items → rows ≡ drop atom.row (take (atom.end + 1) frames.first.rows.items) → Shows set.names nodes rows (λ e. drop atom.row (named_rows set e 0 atom.end))
first_from set nodes frames atom rows held lt is =
    after_shows set.names nodes (take (atom.end + 1) frames.first.rows.items) rows atom.row (λ e. named_rows set e 0 atom.end) is (first_shows set nodes frames atom.end atom.end (take (atom.end + 1) frames.first.rows.items) refl refl lt held)

pub second_from : (set : Set) (nodes : List Node) (frames : Frames) (atom : Atom) (rows : List (List ℕ)) → AreFrames set nodes frames → atom.end < length frames.second.rows.items → rows ≡ drop atom.row (take (atom.end + 1) frames.second.rows.items) → Shows set.names nodes rows (λ e. drop atom.row (named_rows set e 1 atom.end))
second_from set nodes frames atom rows held lt is =
    after_shows set.names nodes (take (atom.end + 1) frames.second.rows.items) rows atom.row (λ e. named_rows set e 1 atom.end) is (second_shows set nodes frames atom.end atom.end (take (atom.end + 1) frames.second.rows.items) refl refl lt held)

-- what is said is what the atom says
pub predicate_is : (set : Set) (nodes : List Node) (i : ℕ) (atom : Atom) (predicate : Predicate) → atom.predicate ≡ predicate → Tests nodes i (λ e. predicate_at set predicate atom.property atom.row (named_rows set e 0 atom.end) (named_rows set e 1 atom.end)) → Tests nodes i (atom_test set atom)
predicate_is set nodes i atom predicate is t = subst (λ (s : Predicate). Tests nodes i (λ e. predicate_at set s atom.property atom.row (named_rows set e 0 atom.end) (named_rows set e 1 atom.end))) (sym is) t
