use Rattle.std.proofs.Common.{◌≡◌, true, false, [], ◌∷◌, refl, arith}
use Rattle.std.proofs.lemmas.List.Elements.{All-from_recursion}
use Rattle.set_tree.specs.Formulas.{meaning_of}
use Rattle.set_tree.specs.Lines.{ViolatesDetermine}
use Rattle.set_tree.specs.Traces.{IsRow}
use Rattle.set_tree_completeness.specs.Pipe.{o, pipe_at_seven, pipe_names, pipe_set}
use Rattle.set_tree_completeness.specs.Terms.{cover_to, equals, sized}
use Rattle.set_tree_completeness.proofs.Free.{free_window}

-- `determine reset` and `determine move` with the domain `o == 8'd7`: o is 7 in one trace and 6 in the other

pub determine_reset : ViolatesDetermine (meaning_of pipe_at_seven) pipe_at_seven 0 0 (cover_to 3 0 1) 0 ((0 ∷ 0 ∷ 0 ∷ 7 ∷ []) ∷ []) ((0 ∷ 0 ∷ 0 ∷ 6 ∷ []) ∷ [])
determine_reset = record {
  pair = record {
    pair = record {
      first = free_window (meaning_of pipe_at_seven) pipe_at_seven 0 ((0 ∷ 0 ∷ 0 ∷ 7 ∷ []) ∷ []) refl refl (All-from_recursion (IsRow (pipe_names (equals (o 0) (sized 8 7)))) ((0 ∷ 0 ∷ 0 ∷ 7 ∷ []) ∷ []) ((omega arith, (omega arith, (omega arith, (omega arith, tt)))), tt));
      second = free_window (meaning_of pipe_at_seven) pipe_at_seven 0 ((0 ∷ 0 ∷ 0 ∷ 6 ∷ []) ∷ []) refl refl (All-from_recursion (IsRow (pipe_names (equals (o 0) (sized 8 7)))) ((0 ∷ 0 ∷ 0 ∷ 6 ∷ []) ∷ []) ((omega arith, (omega arith, (omega arith, (omega arith, tt)))), tt));
      inputs = refl;
      first_starts = record { assumes = refl; commits = refl };
      second_starts = record { assumes = refl; commits = refl };
      hands = λ k x at. absurd (omega arith);
    };
    first_ends = refl;
    second_ends = refl;
  };
  covers = (1, omega arith, refl);
  begun = omega arith;
  not_ended = omega arith;
  differ = λ same. let e : true ≡ false = same.domains in cc;
}

pub determine_move : ViolatesDetermine (meaning_of pipe_at_seven) pipe_at_seven 1 1 (cover_to 3 1 2) 1 ((0 ∷ 0 ∷ 0 ∷ 0 ∷ []) ∷ (0 ∷ 0 ∷ 0 ∷ 7 ∷ []) ∷ []) ((0 ∷ 0 ∷ 0 ∷ 0 ∷ []) ∷ (0 ∷ 0 ∷ 0 ∷ 6 ∷ []) ∷ [])
determine_move = record {
  pair = record {
    pair = record {
      first = free_window (meaning_of pipe_at_seven) pipe_at_seven 1 ((0 ∷ 0 ∷ 0 ∷ 0 ∷ []) ∷ (0 ∷ 0 ∷ 0 ∷ 7 ∷ []) ∷ []) refl refl (All-from_recursion (IsRow (pipe_names (equals (o 0) (sized 8 7)))) ((0 ∷ 0 ∷ 0 ∷ 0 ∷ []) ∷ (0 ∷ 0 ∷ 0 ∷ 7 ∷ []) ∷ []) ((omega arith, (omega arith, (omega arith, (omega arith, tt)))), ((omega arith, (omega arith, (omega arith, (omega arith, tt)))), tt)));
      second = free_window (meaning_of pipe_at_seven) pipe_at_seven 1 ((0 ∷ 0 ∷ 0 ∷ 0 ∷ []) ∷ (0 ∷ 0 ∷ 0 ∷ 6 ∷ []) ∷ []) refl refl (All-from_recursion (IsRow (pipe_names (equals (o 0) (sized 8 7)))) ((0 ∷ 0 ∷ 0 ∷ 0 ∷ []) ∷ (0 ∷ 0 ∷ 0 ∷ 6 ∷ []) ∷ []) ((omega arith, (omega arith, (omega arith, (omega arith, tt)))), ((omega arith, (omega arith, (omega arith, (omega arith, tt)))), tt)));
      inputs = refl;
      first_starts = record { assumes = refl; commits = refl };
      second_starts = record { assumes = refl; commits = refl };
      hands = λ k x at. absurd (omega arith);
    };
    first_ends = refl;
    second_ends = refl;
  };
  covers = (1, omega arith, refl);
  begun = omega arith;
  not_ended = omega arith;
  differ = λ same. let e : true ≡ false = same.domains in cc;
}

-- with the domain `v`, the windows are outside of it

pub reset_is_determined : ¬ ViolatesDetermine (meaning_of pipe_set) pipe_set 0 0 (cover_to 3 0 1) 0 ((0 ∷ 0 ∷ 0 ∷ 7 ∷ []) ∷ []) ((0 ∷ 0 ∷ 0 ∷ 6 ∷ []) ∷ [])
reset_is_determined v = v.differ (record { domains = refl; values = λ within. let never : false ≡ true = within in absurd cc })

pub move_is_determined : ¬ ViolatesDetermine (meaning_of pipe_set) pipe_set 1 1 (cover_to 3 1 2) 1 ((0 ∷ 0 ∷ 0 ∷ 0 ∷ []) ∷ (0 ∷ 0 ∷ 0 ∷ 7 ∷ []) ∷ []) ((0 ∷ 0 ∷ 0 ∷ 0 ∷ []) ∷ (0 ∷ 0 ∷ 0 ∷ 6 ∷ []) ∷ [])
move_is_determined v = v.differ (record { domains = refl; values = λ within. let never : false ≡ true = within in absurd cc })
