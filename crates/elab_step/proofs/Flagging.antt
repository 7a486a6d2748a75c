-- Names of signals at places.
use Rattle.std.proofs.Common.{◌≡◌, ℕ, zero, suc, ◌<◌, List, [], ◌∷◌, length, get_or, arith, ap}
use Rattle.vlog_tree_runs.specs.declared.flat.Signal.{Signal}
use Rattle.elab_step_nets.specs.Boards.{name_of}

pub name_get : (gs : List Signal) (i : ℕ) (g : Signal) → i < length gs → g ≡ get_or gs i g → g.name ≡ name_of gs i
name_get [] i g lt e = absurd (omega arith)
name_get (h ∷ gs) zero g lt e = ap (λ (z : Signal). z.name) e
name_get (h ∷ gs) (suc i) g lt e = name_get gs i g (omega arith) e
