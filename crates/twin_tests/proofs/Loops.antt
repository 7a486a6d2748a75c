-- Tests that a loop joins one after another.
use Rattle.std.proofs.Common.{◌≡◌, ℕ, ◌+◌, ◌-◌, ◌<◌, ◌≤◌, Bool, suc, drop, List, length, take, get_or, refl, sym, ap, ◌∙◌, subst, arith}
use Rattle.std.specs.Prelude.{◌&&◌, ◌||◌}
use Rattle.std.specs.List.{All, list_all, list_any}
use Rattle.std.proofs.lemmas.List.{length-drop, take_all}
use Rattle.std.proofs.lemmas.List.Folds.{list_all_more, list_any_more}
use Rattle.vlog_tree.specs.declared.expr.Expr.{Expr}
use Rattle.set_tree.specs.declared.set.Name.{Name}
use Rattle.set_tree.specs.declared.set.Set.{Set}
use Rattle.set_tree.specs.Meaning.{Row}
use Rattle.set_tree.specs.Formulas.{largest_offset}
use Rattle.word_core.specs.Words.{flag}
use Rattle.word_dag.specs.declared.node.Node.{Node}
use Rattle.word_dag.specs.Nodes.{Naming}
use Rattle.word_dag.specs.Adding.{Keeps}
use Rattle.twin_tests_laws.specs.Tests.{all_below}
use Rattle.twin_tests.specs.Building.{HasWidth, IsReadable, Shows, Tests}
use Rattle.elab_step_expr.proofs.Kept.{keeps_then}
use Rattle.twin_tests.proofs.Standing.{tests_later, shown_length}

-- what is built so far, over rows that nodes of the first dag show: the node is the test t of them
pub record Builds {A : Type 0} (P : (Naming → A) → Type 0) (start nodes : List Node) (node : ℕ) (t : A → Bool) : Type 0 where
  pub keeps : Keeps start nodes
  pub width : HasWidth nodes node 1
  pub tests : (f : Naming → A) → P f → Tests nodes node (λ e. t (f e))

-- two windows
abbrev pub Pair : Type 0
Pair = List Row × List Row

abbrev pub ShowBoth : List Name → List Node → List (List ℕ) → List (List ℕ) → (Naming → Pair) → Type 0
ShowBoth names nodes xs ys f = Shows names nodes xs (λ e. (f e).0) × Shows names nodes ys (λ e. (f e).1)

pub same_test : (nodes : List Node) (i : ℕ) (f g : Naming → Bool) → ((e : Naming) → f e ≡ g e) → Tests nodes i f → Tests nodes i g
same_test nodes i f g same t = record { node = t.node; means = λ e. t.means e ∙ ap flag (same e) }

pub builds_start : {A : Type 0} (P : (Naming → A) → Type 0) (start nodes : List Node) (node : ℕ) (b : Bool) (t : A → Bool) → ((x : A) → b ≡ t x) → Keeps start nodes → Tests nodes node (λ e. b) → Builds P start nodes node t
builds_start P start nodes node b t same keeps tests = record {
  keeps = keeps;
  width = tests.node;
  tests = λ f shows. same_test nodes node (λ e. b) (λ e. t (f e)) (λ e. same (f e)) tests;
}

pub and_step : {A : Type 0} (P : (Naming → A) → Type 0) (start a b c : List Node) (old one new : ℕ) (t u v : A → Bool) → ((x : A) → (t x && u x) ≡ v x) → Builds P start a old t → Keeps a b → Keeps b c → HasWidth c new 1 → ((f : Naming → A) → P f → Tests b one (λ e. u (f e))) → ((f g : Naming → Bool) → Tests b old f → Tests b one g → Tests c new (λ e. f e && g e)) → Builds P start c new v
and_step P start a b c old one new t u v same before ab bc width made joined = record {
  keeps = keeps_then start b c (keeps_then start a b before.keeps ab) bc;
  width = width;
  tests = λ f shows. same_test c new (λ e. t (f e) && u (f e)) (λ e. v (f e)) (λ e. same (f e)) (joined _ _ (tests_later a b old _ ab (before.tests f shows)) (made f shows));
}

pub or_step : {A : Type 0} (P : (Naming → A) → Type 0) (start a b c : List Node) (old one new : ℕ) (t u v : A → Bool) → ((x : A) → (t x || u x) ≡ v x) → Builds P start a old t → Keeps a b → Keeps b c → HasWidth c new 1 → ((f : Naming → A) → P f → Tests b one (λ e. u (f e))) → ((f g : Naming → Bool) → Tests b old f → Tests b one g → Tests c new (λ e. f e || g e)) → Builds P start c new v
or_step P start a b c old one new t u v same before ab bc width made joined = record {
  keeps = keeps_then start b c (keeps_then start a b before.keeps ab) bc;
  width = width;
  tests = λ f shows. same_test c new (λ e. t (f e) || u (f e)) (λ e. v (f e)) (λ e. same (f e)) (joined _ _ (tests_later a b old _ ab (before.tests f shows)) (made f shows));
}

pub builds_end : {A : Type 0} (P : (Naming → A) → Type 0) (start nodes : List Node) (node : ℕ) (t v : A → Bool) → ((x : A) → t x ≡ v x) → Builds P start nodes node t → (f : Naming → A) → P f → Tests nodes node (λ e. v (f e))
builds_end P start nodes node t v same built f shows = same_test nodes node (λ e. t (f e)) (λ e. v (f e)) (λ e. same (f e)) (built.tests f shows)

-- one more element of a list
pub all_more : {X : Type 0} (p : X → Bool) (xs : List X) (k : ℕ) (x : X) → x ≡ get_or xs k x → k < length xs → (list_all p (take k xs) && p x) ≡ list_all p (take (k + 1) xs)
all_more p xs k x is lt = ap (λ y. list_all p (take k xs) && p y) is ∙ sym (list_all_more p xs k x lt)

pub all_taken : {X : Type 0} (p : X → Bool) (xs : List X) (k : ℕ) → length xs ≤ k → list_all p (take k xs) ≡ list_all p xs
all_taken p xs k le = ap (list_all p) (take_all k xs le)

pub some_more : {X : Type 0} (p : X → Bool) (xs : List X) (k : ℕ) (x : X) → x ≡ get_or xs k x → k < length xs → (list_any p (take k xs) || p x) ≡ list_any p (take (k + 1) xs)
some_more p xs k x is lt = ap (λ y. list_any p (take k xs) || p y) is ∙ sym (list_any_more p xs k x lt)

pub some_taken : {X : Type 0} (p : X → Bool) (xs : List X) (k : ℕ) → length xs ≤ k → list_any p (take k xs) ≡ list_any p xs
some_taken p xs k le = ap (list_any p) (take_all k xs le)

-- one more number
pub below_more : (k : ℕ) (p : ℕ → Bool) → (all_below k p && p k) ≡ all_below (k + 1) p
below_more k p = let next : k + 1 ≡ suc k = omega arith in rw next refl

pub below_same : (k n : ℕ) (p : ℕ → Bool) → k ≡ n → all_below k p ≡ all_below n p
below_same k n p is = ap (λ (j : ℕ). all_below j p) is

pub member_is : {X : Type 0} (P : X → Type 0) (xs : List X) (k : ℕ) (x : X) → x ≡ get_or xs k x → k < length xs → All P xs → P x
member_is P xs k x is lt all = subst P (sym is) (all k x lt)

-- a formula that fits so many rows on
pub readable_after : (set : Set) (formula : Expr) (n t k : ℕ) (rows later : List (List ℕ)) → later ≡ drop t rows → t < n → n ≤ length rows - largest_offset formula → IsReadable set k formula → IsReadable set (length later) formula
readable_after set formula n t k rows later is lt within r = record { formed = r.formed; fits = let long = length-drop t rows in rw is (omega (arith, long, within, lt)) }

-- as many rows as fit are as many rows as are shown
pub shown_fit : (names : List Name) (start : List Node) (rows : List (List ℕ)) (f : Naming → List Row) (count most : ℕ) (e : Naming) → Shows names start rows f → count ≡ length rows - most → count ≡ length (f e) - most
shown_fit names start rows f count most e shows is = is ∙ ap (λ (n : ℕ). n - most) (sym (shown_length names start rows f e shows))

-- a node of an equal test
pub same_count : (nodes : List Node) (i k n : ℕ) (p : Naming → ℕ → Bool) → ((e : Naming) → k ≡ n) → Tests nodes i (λ e. all_below k (p e)) → Tests nodes i (λ e. all_below n (p e))
same_count nodes i k n p is t = same_test nodes i (λ e. all_below k (p e)) (λ e. all_below n (p e)) (λ e. below_same k n (p e) (is e)) t

-- what is built so far of tests of the values
pub record Joined (start nodes : List Node) (node : ℕ) (t : Naming → Bool) : Type 0 where
  pub keeps : Keeps start nodes
  pub tests : Tests nodes node t

pub joined_step : (start a b c : List Node) (old one new : ℕ) (t u v : Naming → Bool) → ((e : Naming) → (t e || u e) ≡ v e) → Joined start a old t → Keeps a b → Keeps b c → Tests b one u → ((f g : Naming → Bool) → Tests b old f → Tests b one g → Tests c new (λ e. f e || g e)) → Joined start c new v
joined_step start a b c old one new t u v same before ab bc made joined = record {
  keeps = keeps_then start b c (keeps_then start a b before.keeps ab) bc;
  tests = same_test c new (λ e. t e || u e) v same (joined t u (tests_later a b old t ab before.tests) made);
}
