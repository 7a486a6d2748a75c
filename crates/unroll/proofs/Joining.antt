-- Tests of several parts joined.
use Rattle.std.proofs.Common.{◌≡◌, ℕ, Bool, List, drop, sym, subst}
use Rattle.std.specs.Prelude.{◌&&◌}
use Rattle.set_tree.specs.declared.set.Name.{Name}
use Rattle.set_tree.specs.Meaning.{Row}
use Rattle.word_dag.specs.declared.node.Node.{Node}
use Rattle.word_dag.specs.Nodes.{Naming}
use Rattle.word_dag.specs.Adding.{Keeps}
use Rattle.elab_step_expr.proofs.Kept.{keeps_same, keeps_then}
use Rattle.twin_tests.specs.Building.{AreLeaves, Shows, Tests}
use Rattle.twin_tests.proofs.Standing.{has_later, leaves_drop, leaves_later, shows_later, tests_later}

pub ruleset joins = (keeps_same, keeps_then, has_later)

-- both of two tests that were made one after the other
pub joined : (names : List Name) (start a b c : List Node) (rows : List (List ℕ)) (x y z : ℕ) (P Q : List Row → Bool) → Keeps start a → Keeps a b →
    ((f : Naming → List Row) → Shows names start rows f → Tests a x (λ e. P (f e))) → ((f : Naming → List Row) → Shows names a rows f → Tests b y (λ e. Q (f e))) →
    ((f g : Naming → Bool) → Tests b x f → Tests b y g → Tests c z (λ e. f e && g e)) → (f : Naming → List Row) → Shows names start rows f → Tests c z (λ e. P (f e) && Q (f e))
joined names start a b c rows x y z P Q sa ab first second both f shows =
    both (λ e. P (f e)) (λ e. Q (f e)) (tests_later a b x _ ab (first f shows)) (second f (shows_later start a names rows f sa shows))

-- leaves from a row on
pub leaves_after : (names : List Name) (a b : List Node) (rows later : List (List ℕ)) (n : ℕ) → later ≡ drop n rows → Keeps a b → AreLeaves names a rows → AreLeaves names b later
leaves_after names a b rows later n is ab leaves = subst (λ (zs : List (List ℕ)). AreLeaves names b zs) (sym is) (leaves_drop names b rows n (leaves_later a b names rows ab leaves))
