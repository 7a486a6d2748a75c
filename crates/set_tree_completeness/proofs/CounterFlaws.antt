use Rattle.std.proofs.Common.{◌≡◌, true, false, [], ◌∷◌, refl, arith}
use Rattle.std.proofs.lemmas.List.Elements.{All-from_recursion}
use Rattle.set_tree.specs.Formulas.{meaning_of}
use Rattle.set_tree.specs.Lines.{ViolatesSplit, ViolatesHand, ViolatesDetermine}
use Rattle.set_tree.specs.Runs.{ViolatesOperation}
use Rattle.set_tree.specs.Traces.{IsRow}
use Rattle.set_tree_completeness.specs.declared.counter.CounterCycle.{CounterCycle}
use Rattle.set_tree_completeness.specs.Counter.{counter_design, counter_names, counter_set, hold_without_hand, q, step_alone, unsized_step}
use Rattle.set_tree_completeness.specs.Terms.{cover_to}
use Rattle.set_tree_completeness.proofs.Free.{apart, free_window}

-- `split reset` and `split step` without `hold`: en is 0 where the successor starts

pub split_reset : ViolatesSplit (meaning_of step_alone) step_alone 0 0 ((0 ∷ 0 ∷ []) ∷ (0 ∷ 0 ∷ []) ∷ [])
split_reset = record {
  window = free_window (meaning_of step_alone) step_alone 1 ((0 ∷ 0 ∷ []) ∷ (0 ∷ 0 ∷ []) ∷ []) refl refl (All-from_recursion (IsRow counter_names) ((0 ∷ 0 ∷ []) ∷ (0 ∷ 0 ∷ []) ∷ []) ((omega arith, (omega arith, tt)), ((omega arith, (omega arith, tt)), tt)));
  starts = record { assumes = refl; commits = refl };
  ends = refl;
  none_follows = refl;
}

pub split_step : ViolatesSplit (meaning_of step_alone) step_alone 1 1 ((1 ∷ 3 ∷ []) ∷ (0 ∷ 0 ∷ []) ∷ (0 ∷ 0 ∷ []) ∷ [])
split_step = record {
  window = free_window (meaning_of step_alone) step_alone 2 ((1 ∷ 3 ∷ []) ∷ (0 ∷ 0 ∷ []) ∷ (0 ∷ 0 ∷ []) ∷ []) refl refl (All-from_recursion (IsRow counter_names) ((1 ∷ 3 ∷ []) ∷ (0 ∷ 0 ∷ []) ∷ (0 ∷ 0 ∷ []) ∷ []) ((omega arith, (omega arith, tt)), ((omega arith, (omega arith, tt)), ((omega arith, (omega arith, tt)), tt))));
  starts = record { assumes = refl; commits = refl };
  ends = refl;
  none_follows = refl;
}

pub reset_is_split : ¬ ViolatesSplit (meaning_of counter_set) counter_set 0 0 ((0 ∷ 0 ∷ []) ∷ (0 ∷ 0 ∷ []) ∷ [])
reset_is_split v = let none : true ≡ false = v.none_follows in cc

pub step_is_split : ¬ ViolatesSplit (meaning_of counter_set) counter_set 1 1 ((1 ∷ 3 ∷ []) ∷ (0 ∷ 0 ∷ []) ∷ (0 ∷ 0 ∷ []) ∷ [])
step_is_split v = let none : true ≡ false = v.none_follows in cc

-- `op step` with an unsized 1: after 3 the module is at 0, and 3 + 1 is 4 in 32 bits

pub step_from_three : ViolatesOperation counter_design (meaning_of unsized_step) unsized_step 1 (record { rst = false; en = true; q = 3 } ∷ record { rst = false; en = false; q = 0 } ∷ [])
step_from_three = record {
  segment = record {
    run = (refl, (tt, tt));
    inactive = All-from_recursion (λ (c : CounterCycle). c.rst ≡ false) (record { rst = false; en = true; q = 3 } ∷ record { rst = false; en = false; q = 0 } ∷ []) (refl, (refl, tt));
    window = free_window (meaning_of unsized_step) unsized_step 1 ((1 ∷ 3 ∷ []) ∷ (0 ∷ 0 ∷ []) ∷ []) refl refl (All-from_recursion (IsRow counter_names) ((1 ∷ 3 ∷ []) ∷ (0 ∷ 0 ∷ []) ∷ []) ((omega arith, (omega arith, tt)), ((omega arith, (omega arith, tt)), tt)));
    invariants = λ rule member. absurd (omega (arith, member.1));
  };
  assumes = refl;
  broken = refl;
}

pub sized_step_from_three : ¬ ViolatesOperation counter_design (meaning_of counter_set) counter_set 1 (record { rst = false; en = true; q = 3 } ∷ record { rst = false; en = false; q = 0 } ∷ [])
sized_step_from_three v = let e : true ≡ false = v.broken in cc

-- `hand hold step` and `determine hold` where `hold` hands nothing over: q differs from the start on

pub hand_hold_step : ViolatesHand (meaning_of hold_without_hand) hold_without_hand 2 1 1 ((0 ∷ 0 ∷ []) ∷ (1 ∷ 0 ∷ []) ∷ (0 ∷ 1 ∷ []) ∷ []) ((0 ∷ 1 ∷ []) ∷ (1 ∷ 1 ∷ []) ∷ (0 ∷ 2 ∷ []) ∷ [])
hand_hold_step = record {
  pair = record {
    pair = record {
      first = free_window (meaning_of hold_without_hand) hold_without_hand 2 ((0 ∷ 0 ∷ []) ∷ (1 ∷ 0 ∷ []) ∷ (0 ∷ 1 ∷ []) ∷ []) refl refl (All-from_recursion (IsRow counter_names) ((0 ∷ 0 ∷ []) ∷ (1 ∷ 0 ∷ []) ∷ (0 ∷ 1 ∷ []) ∷ []) ((omega arith, (omega arith, tt)), ((omega arith, (omega arith, tt)), ((omega arith, (omega arith, tt)), tt))));
      second = free_window (meaning_of hold_without_hand) hold_without_hand 2 ((0 ∷ 1 ∷ []) ∷ (1 ∷ 1 ∷ []) ∷ (0 ∷ 2 ∷ []) ∷ []) refl refl (All-from_recursion (IsRow counter_names) ((0 ∷ 1 ∷ []) ∷ (1 ∷ 1 ∷ []) ∷ (0 ∷ 2 ∷ []) ∷ []) ((omega arith, (omega arith, tt)), ((omega arith, (omega arith, tt)), ((omega arith, (omega arith, tt)), tt))));
      inputs = refl;
      first_starts = record { assumes = refl; commits = refl };
      second_starts = record { assumes = refl; commits = refl };
      hands = λ k x at. absurd (omega arith);
    };
    first_ends = refl;
    second_ends = refl;
  };
  first_goes_on = record { assumes = refl; commits = refl };
  second_goes_on = record { assumes = refl; commits = refl };
  differ = λ same. let e : 0 ≡ 1 = same 0 (q 0) (omega arith) in omega arith;
}

pub determine_hold : ViolatesDetermine (meaning_of hold_without_hand) hold_without_hand 2 1 (cover_to 1 1 2) 1 ((0 ∷ 0 ∷ []) ∷ (0 ∷ 0 ∷ []) ∷ []) ((0 ∷ 1 ∷ []) ∷ (0 ∷ 1 ∷ []) ∷ [])
determine_hold = record {
  pair = record {
    pair = record {
      first = free_window (meaning_of hold_without_hand) hold_without_hand 1 ((0 ∷ 0 ∷ []) ∷ (0 ∷ 0 ∷ []) ∷ []) refl refl (All-from_recursion (IsRow counter_names) ((0 ∷ 0 ∷ []) ∷ (0 ∷ 0 ∷ []) ∷ []) ((omega arith, (omega arith, tt)), ((omega arith, (omega arith, tt)), tt)));
      second = free_window (meaning_of hold_without_hand) hold_without_hand 1 ((0 ∷ 1 ∷ []) ∷ (0 ∷ 1 ∷ []) ∷ []) refl refl (All-from_recursion (IsRow counter_names) ((0 ∷ 1 ∷ []) ∷ (0 ∷ 1 ∷ []) ∷ []) ((omega arith, (omega arith, tt)), ((omega arith, (omega arith, tt)), tt)));
      inputs = refl;
      first_starts = record { assumes = refl; commits = refl };
      second_starts = record { assumes = refl; commits = refl };
      hands = λ k x at. absurd (omega arith);
    };
    first_ends = refl;
    second_ends = refl;
  };
  covers = (0, omega arith, refl);
  begun = omega arith;
  not_ended = omega arith;
  differ = λ same. let e : 0 ≡ 1 = same.values refl in omega arith;
}

-- where `hold` hands q over, the windows don't hand over the same

pub hold_hands_over : ¬ ViolatesHand (meaning_of counter_set) counter_set 2 1 1 ((0 ∷ 0 ∷ []) ∷ (1 ∷ 0 ∷ []) ∷ (0 ∷ 1 ∷ []) ∷ []) ((0 ∷ 1 ∷ []) ∷ (1 ∷ 1 ∷ []) ∷ (0 ∷ 2 ∷ []) ∷ [])
hold_hands_over v = apart 0 1 (v.pair.pair.hands 0 (q 0) (omega arith)) refl

pub hold_is_determined : ¬ ViolatesDetermine (meaning_of counter_set) counter_set 2 1 (cover_to 1 1 2) 1 ((0 ∷ 0 ∷ []) ∷ (0 ∷ 0 ∷ []) ∷ []) ((0 ∷ 1 ∷ []) ∷ (0 ∷ 1 ∷ []) ∷ [])
hold_is_determined v = apart 0 1 (v.pair.pair.hands 0 (q 0) (omega arith)) refl
