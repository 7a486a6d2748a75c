use Rattle.std.proofs.Common.{◌≡◌, true, false, [], ◌∷◌, refl, arith}
use Rattle.std.proofs.lemmas.List.Elements.{All-from_recursion}
use Rattle.set_tree.specs.Formulas.{meaning_of}
use Rattle.set_tree.specs.Lines.{ViolatesEnd}
use Rattle.set_tree.specs.Traces.{IsConstrained, IsRow}
use Rattle.set_tree_completeness.specs.Waiter.{soon, waiter_names, waiter_set, waiter_unconstrained}
use Rattle.set_tree_completeness.proofs.Free.{free_window}

-- `end serve` without the constraint: the answer never comes
pub end_serve : ViolatesEnd (meaning_of waiter_unconstrained) waiter_unconstrained 2 ((1 ∷ 0 ∷ 0 ∷ []) ∷ (0 ∷ 0 ∷ 1 ∷ []) ∷ (0 ∷ 0 ∷ 1 ∷ []) ∷ (0 ∷ 0 ∷ 1 ∷ []) ∷ (0 ∷ 0 ∷ 1 ∷ []) ∷ [])
end_serve = record {
  window = free_window (meaning_of waiter_unconstrained) waiter_unconstrained 4 ((1 ∷ 0 ∷ 0 ∷ []) ∷ (0 ∷ 0 ∷ 1 ∷ []) ∷ (0 ∷ 0 ∷ 1 ∷ []) ∷ (0 ∷ 0 ∷ 1 ∷ []) ∷ (0 ∷ 0 ∷ 1 ∷ []) ∷ []) refl refl (All-from_recursion (IsRow waiter_names) ((1 ∷ 0 ∷ 0 ∷ []) ∷ (0 ∷ 0 ∷ 1 ∷ []) ∷ (0 ∷ 0 ∷ 1 ∷ []) ∷ (0 ∷ 0 ∷ 1 ∷ []) ∷ (0 ∷ 0 ∷ 1 ∷ []) ∷ []) ((omega arith, (omega arith, (omega arith, tt))), ((omega arith, (omega arith, (omega arith, tt))), ((omega arith, (omega arith, (omega arith, tt))), ((omega arith, (omega arith, (omega arith, tt))), ((omega arith, (omega arith, (omega arith, tt))), tt))))));
  starts = record { assumes = refl; commits = refl };
  endless = refl;
}

-- with it, the rows are no window
pub comes_soon : ¬ IsConstrained (meaning_of waiter_set) waiter_set ((1 ∷ 0 ∷ 0 ∷ []) ∷ (0 ∷ 0 ∷ 1 ∷ []) ∷ (0 ∷ 0 ∷ 1 ∷ []) ∷ (0 ∷ 0 ∷ 1 ∷ []) ∷ (0 ∷ 0 ∷ 1 ∷ []) ∷ [])
comes_soon constrained = let e : false ≡ true = constrained.met soon 0 (0, omega arith, refl) (omega arith) in cc

pub serve_ends : ¬ ViolatesEnd (meaning_of waiter_set) waiter_set 2 ((1 ∷ 0 ∷ 0 ∷ []) ∷ (0 ∷ 0 ∷ 1 ∷ []) ∷ (0 ∷ 0 ∷ 1 ∷ []) ∷ (0 ∷ 0 ∷ 1 ∷ []) ∷ (0 ∷ 0 ∷ 1 ∷ []) ∷ [])
serve_ends v = comes_soon v.window.constrained
