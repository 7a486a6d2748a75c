use Rattle.std.proofs.Common.{◌≡◌, nat_eq, false, List, [], ◌∷◌, drop, refl, ap, arith}
use Rattle.std.proofs.lemmas.Bool.{eq-eqb}
use Rattle.std.proofs.lemmas.List.Elements.{All-from_recursion}
use Rattle.set_tree.specs.declared.set.Role.TheVariants.{State}
use Rattle.set_tree.specs.Formulas.{meaning_of}
use Rattle.set_tree.specs.Lines.{ViolatesChoose}
use Rattle.set_tree.specs.Meaning.{Row}
use Rattle.set_tree.specs.Parts.{value_of}
use Rattle.set_tree.specs.Traces.{IsRow}
use Rattle.set_tree_completeness.specs.Flip.{flip_names, flip_of_input, flip_set, q}
use Rattle.set_tree_completeness.proofs.Free.{free_window}

-- `choose reset on` and `choose on off`: m differs where the successor starts

pub choose_reset_on : ViolatesChoose (meaning_of flip_set) flip_set 0 1 0 ((0 ∷ 1 ∷ []) ∷ (0 ∷ 1 ∷ []) ∷ []) ((0 ∷ 0 ∷ []) ∷ (0 ∷ 0 ∷ []) ∷ [])
choose_reset_on = record {
  pair = record {
    pair = record {
      first = free_window (meaning_of flip_set) flip_set 1 ((0 ∷ 1 ∷ []) ∷ (0 ∷ 1 ∷ []) ∷ []) refl refl (All-from_recursion (IsRow (flip_names State)) ((0 ∷ 1 ∷ []) ∷ (0 ∷ 1 ∷ []) ∷ []) ((omega arith, (omega arith, tt)), ((omega arith, (omega arith, tt)), tt)));
      second = free_window (meaning_of flip_set) flip_set 1 ((0 ∷ 0 ∷ []) ∷ (0 ∷ 0 ∷ []) ∷ []) refl refl (All-from_recursion (IsRow (flip_names State)) ((0 ∷ 0 ∷ []) ∷ (0 ∷ 0 ∷ []) ∷ []) ((omega arith, (omega arith, tt)), ((omega arith, (omega arith, tt)), tt)));
      inputs = refl;
      first_starts = record { assumes = refl; commits = refl };
      second_starts = record { assumes = refl; commits = refl };
      hands = λ k x at. absurd (omega arith);
    };
    first_ends = refl;
    second_ends = refl;
  };
  chosen = refl;
  refused = refl;
}

pub choose_on_off : ViolatesChoose (meaning_of flip_set) flip_set 1 2 1 ((0 ∷ 1 ∷ []) ∷ (1 ∷ 0 ∷ []) ∷ (1 ∷ 0 ∷ []) ∷ []) ((0 ∷ 1 ∷ []) ∷ (1 ∷ 1 ∷ []) ∷ (0 ∷ 1 ∷ []) ∷ [])
choose_on_off = record {
  pair = record {
    pair = record {
      first = free_window (meaning_of flip_set) flip_set 2 ((0 ∷ 1 ∷ []) ∷ (1 ∷ 0 ∷ []) ∷ (1 ∷ 0 ∷ []) ∷ []) refl refl (All-from_recursion (IsRow (flip_names State)) ((0 ∷ 1 ∷ []) ∷ (1 ∷ 0 ∷ []) ∷ (1 ∷ 0 ∷ []) ∷ []) ((omega arith, (omega arith, tt)), ((omega arith, (omega arith, tt)), ((omega arith, (omega arith, tt)), tt))));
      second = free_window (meaning_of flip_set) flip_set 2 ((0 ∷ 1 ∷ []) ∷ (1 ∷ 1 ∷ []) ∷ (0 ∷ 1 ∷ []) ∷ []) refl refl (All-from_recursion (IsRow (flip_names State)) ((0 ∷ 1 ∷ []) ∷ (1 ∷ 1 ∷ []) ∷ (0 ∷ 1 ∷ []) ∷ []) ((omega arith, (omega arith, tt)), ((omega arith, (omega arith, tt)), ((omega arith, (omega arith, tt)), tt))));
      inputs = refl;
      first_starts = record { assumes = refl; commits = refl };
      second_starts = record { assumes = refl; commits = refl };
      hands = All-from_recursion (λ e. (meaning_of flip_set).value e ((0 ∷ 1 ∷ []) ∷ (1 ∷ 0 ∷ []) ∷ (1 ∷ 0 ∷ []) ∷ []) ≡ (meaning_of flip_set).value e ((0 ∷ 1 ∷ []) ∷ (1 ∷ 1 ∷ []) ∷ (0 ∷ 1 ∷ []) ∷ [])) (q 0 ∷ []) (refl, tt);
    };
    first_ends = refl;
    second_ends = refl;
  };
  chosen = refl;
  refused = refl;
}

-- rows whose first values differ are not the same
apart : (xs ys : List Row) → xs ≡ ys → nat_eq (value_of 0 xs) (value_of 0 ys) ≡ false → ⊥
apart xs ys same differ = let e = eq-eqb (value_of 0 xs) (value_of 0 ys) (ap (value_of 0) same) in cc

-- where m is an input, the windows have other inputs

pub reset_on_is_chosen : ¬ ViolatesChoose (meaning_of flip_of_input) flip_of_input 0 1 0 ((0 ∷ 1 ∷ []) ∷ (0 ∷ 1 ∷ []) ∷ []) ((0 ∷ 0 ∷ []) ∷ (0 ∷ 0 ∷ []) ∷ [])
reset_on_is_chosen v = apart _ _ v.pair.pair.inputs refl

pub on_off_is_chosen : ¬ ViolatesChoose (meaning_of flip_of_input) flip_of_input 1 2 1 ((0 ∷ 1 ∷ []) ∷ (1 ∷ 0 ∷ []) ∷ (1 ∷ 0 ∷ []) ∷ []) ((0 ∷ 1 ∷ []) ∷ (1 ∷ 1 ∷ []) ∷ (0 ∷ 1 ∷ []) ∷ [])
on_off_is_chosen v = apart _ _ (ap (drop 1) v.pair.pair.inputs) refl
