use Rattle.std.proofs.Common.{◌≡◌, true, false, [], ◌∷◌, refl, arith}
use Rattle.std.proofs.lemmas.List.Elements.{All-contains, All-from_recursion}
use Rattle.std.specs.List.{Contains}
use Rattle.set_tree.specs.declared.set.Rule.{Rule}
use Rattle.set_tree.specs.Formulas.{meaning_of}
use Rattle.set_tree.specs.Meaning.{holds}
use Rattle.set_tree.specs.Runs.{ViolatesStep}
use Rattle.set_tree.specs.Traces.{IsRow}
use Rattle.set_tree_completeness.specs.Hop.{HopCycle, four, hop_design, hop_four, hop_names, hop_three_four, three}
use Rattle.set_tree_completeness.proofs.Free.{free_window}

-- `step four`: from 3, where the invariant holds, to 4

meets_four : (rule : Rule) → Contains (four ∷ []) rule → holds (meaning_of hop_four) rule.formula ((3 ∷ []) ∷ (4 ∷ []) ∷ []) ≡ true
meets_four rule member =
    let P = λ (rule : Rule). holds (meaning_of hop_four) rule.formula ((3 ∷ []) ∷ (4 ∷ []) ∷ []) ≡ true in
    All-contains P (four ∷ []) rule (All-from_recursion P (four ∷ []) (refl, tt)) member

pub step_four : ViolatesStep hop_design (meaning_of hop_four) hop_four four (record { rst = false; q = 3 } ∷ record { rst = false; q = 4 } ∷ [])
step_four = record {
  segment = record {
    run = (refl, (tt, tt));
    inactive = All-from_recursion (λ (c : HopCycle). c.rst ≡ false) (record { rst = false; q = 3 } ∷ record { rst = false; q = 4 } ∷ []) (refl, (refl, tt));
    window = free_window (meaning_of hop_four) hop_four 1 ((3 ∷ []) ∷ (4 ∷ []) ∷ []) refl refl (All-from_recursion (IsRow hop_names) ((3 ∷ []) ∷ (4 ∷ []) ∷ []) ((omega arith, tt), ((omega arith, tt), tt)));
    invariants = λ rule member. meets_four rule member;
  };
  broken = refl;
}

-- with `three` beside it, no segment begins at 3
pub four_is_kept : ¬ ViolatesStep hop_design (meaning_of hop_three_four) hop_three_four four (record { rst = false; q = 3 } ∷ record { rst = false; q = 4 } ∷ [])
four_is_kept v = let e : false ≡ true = v.segment.invariants three (0, omega arith, refl) in cc
