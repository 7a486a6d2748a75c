-- Claims that are taken one after another.
use Rattle.std.proofs.Common.{◌≡◌, List, [], ◌∷◌, ◌++◌, Option, Some, None, sym, subst}
use Rattle.std.specs.Prelude.{IfSome, option_to_list, unwrap_or}
use Rattle.std.proofs.lemmas.List.Elements.{All-head, All-nil, All-push, All-tail}
use Rattle.word_dag.specs.Nodes.{Parts}
use Rattle.clause_check.specs.declared.formula.Cnf.{Cnf}
use Rattle.helper_box.specs.Asked.{AreReady, Passes}
use Rattle.helper_box.specs.declared.claim.Claim.{Claim}

pub nobody_ready : (ob : Parts) (cnf : Cnf) (ready : List (Option Claim)) → ready ≡ [] → AreReady ob cnf ready
nobody_ready ob cnf ready none = subst (AreReady ob cnf) (sym none) (All-nil (λ (claim : Option Claim). IfSome claim (Passes ob cnf)))

-- the first claim, and what is left
pub first_ready : (ob : Parts) (cnf : Cnf) (before after : List (Option Claim)) (first : Option (Option Claim)) → before ≡ option_to_list first ++ after → AreReady ob cnf before → IfSome (unwrap_or first None) (Passes ob cnf)
first_ready ob cnf before after None is ready = tt
first_ready ob cnf before after (Some claim) is ready =
    All-head (λ (c : Option Claim). IfSome c (Passes ob cnf)) claim after (subst (AreReady ob cnf) is ready)

pub left_ready : (ob : Parts) (cnf : Cnf) (before after : List (Option Claim)) (first : Option (Option Claim)) → before ≡ option_to_list first ++ after → AreReady ob cnf before → AreReady ob cnf after
left_ready ob cnf before after None is ready = subst (AreReady ob cnf) is ready
left_ready ob cnf before after (Some claim) is ready =
    All-tail (λ (c : Option Claim). IfSome c (Passes ob cnf)) claim after (subst (AreReady ob cnf) is ready)

-- one more claim
pub more_ready : (ob : Parts) (cnf : Cnf) (ready more : List (Option Claim)) (claim : Option Claim) → AreReady ob cnf ready → IfSome claim (Passes ob cnf) → more ≡ ready ++ claim ∷ [] → AreReady ob cnf more
more_ready ob cnf ready more claim are passes pushed =
    subst (AreReady ob cnf) (sym pushed) (All-push (λ (c : Option Claim). IfSome c (Passes ob cnf)) ready claim are passes)
