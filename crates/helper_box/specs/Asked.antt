-- How often helpers were asked, and what a claim is worth.
use Rattle.std.specs.Prelude.{◌≡◌, ℕ, Bool, true, false, ◌+◌, ◌-◌, ◌^◌, ◌<◌, ◌≤◌, All, IfSome, List, Option, ◌++◌, count_by, drop, length, map, max, min, take}
use Rattle.word_dag.specs.Nodes.{Parts, root_value}
use Rattle.word_dag.specs.Given.{AllFit, is_free}
use Rattle.clause_check.specs.declared.formula.Cnf.{Cnf}
use Rattle.clause_check.specs.Derivations.{IsRefutation}
use Rattle.helper_box.specs.declared.claim.Claim.{Claim}
use Rattle.helper_box.specs.declared.claim.Claim.TheVariants.{Nothing, Unsat, Values}

-- the next number, up to the greatest of 64 bits
abbrev pub one_more : ℕ → ℕ
one_more n = max n (min (n + 1) (2 ^ 64 - 1))

-- a helper that is counted was asked once more
abbrev pub counted : Bool → ℕ → ℕ
counted false n = n
counted true n = one_more n

-- the first helpers were asked once each, and the others not; where there is a helper, the first one was
pub record AsksSome (before after : List ℕ) : Type 0 where
  pub many : ℕ
  pub within : many ≤ length before
  pub first : 0 < length before → 0 < many
  pub after_is : after ≡ map one_more (take many before) ++ drop many before

-- there is one value for each free word, and they make the root 1
pub record MakesRoot1 (ob : Parts) (values : List ℕ) : Type 0 where
  pub count : length values ≡ count_by is_free ob.nodes
  pub fit : AllFit values ob.nodes
  pub root : (root_value values ob.nodes ob.root).value ≡ 1

-- a claim passes: its steps are a derivation of the empty clause from the formula, or its values make the obligation's root 1
abbrev pub Passes : Parts → Cnf → Claim → Type 0
Passes ob cnf Nothing = Unit {0}
Passes ob cnf (Unsat steps) = IsRefutation cnf steps.items
Passes ob cnf (Values values) = MakesRoot1 ob values.items

-- each of these claims passes, where there is one
abbrev pub AreReady : Parts → Cnf → List (Option Claim) → Type 0
AreReady ob cnf ready = All (λ claim. IfSome claim (Passes ob cnf)) ready
