-- Values that are made side by side.
use Rattle.std.proofs.Common.{◌≡◌, Result, Ok}
use Rattle.std.specs.Prelude.{IfOk}
use Rattle.std.proofs.lemmas.Result.{IfOk-at_ok}

-- a value that is there is the one that its maker told
pub made : {X E : Type 0} (m : X) (r : Result X E) (x : X) → r ≡ Ok x → IfOk r (λ y. y ≡ m) → x ≡ m
made m r x e h = IfOk-at_ok (λ y. y ≡ m) e h

-- a value that is handed on is the same
pub handed : {X E : Type 0} (x y : X) → ◌≡◌ {A = Result X E} (Ok x) (Ok y) → y ≡ x
handed x y h = cc
