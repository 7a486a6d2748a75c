-- A counter modulo 4 that counts where en is 1:
--
--   module counter(input clk, input rst, input en, output reg [1:0] q);
--     always @(posedge clk)
--       if (rst) q <= 2'd0;
--       else if (en) q <= q + 2'd1;
--   endmodule
--
-- and its set:
--
--   block counter; clock clk; reset rst high 1;
--   input en; output [1:0] q;
--   property reset { length 0; commit q@0 == 2'd0; cover q from 0 to 1; next step, hold; }
--   operation step { length 1; assume en@0; commit q@1 == q@0 + 2'd1; hand q@0;
--     cover q from 1 to 2; next step, hold; }
--   operation hold { length 1; assume !en@0; commit q@1 == q@0; hand q@0;
--     cover q from 1 to 2; next step, hold; }
use Rattle.std.specs.Prelude.{◌≡◌, ℕ, true, cond, List, [], ◌∷◌, codes}
use Rattle.vlog_tree.specs.declared.expr.Expr.{Expr}
use Rattle.set_tree.specs.declared.set.Name.{Name}
use Rattle.set_tree.specs.declared.set.Property.{Property}
use Rattle.set_tree.specs.declared.set.Role.TheVariants.{Input, Output}
use Rattle.set_tree.specs.declared.set.Set.{Set}
use Rattle.set_tree.specs.Runs.{Design, design_of}
use Rattle.set_tree_completeness.specs.declared.counter.CounterCycle.{CounterCycle}
use Rattle.set_tree_completeness.specs.NextQ.{next_q}
use Rattle.set_tree_completeness.specs.Terms.{name_at, sized, unsized, negated, equals, plus, declared, fixed, cover_to}

abbrev pub en : ℕ → Expr
en = name_at (codes "en")

abbrev pub q : ℕ → Expr
q = name_at (codes "q")

-- en at 0 and q at 1
abbrev pub counter_names : List Name
counter_names = declared (codes "en") Input 1 ∷ declared (codes "q") Output 2 ∷ []

abbrev pub counter_reset : List ℕ → Property
counter_reset next = record { name = codes "reset"; length = fixed 0; window = 0; assume = []; commit = equals (q 0) (sized 2 0) ∷ []; hand = []; covers = cover_to 1 0 1 ∷ []; next = next }

-- `step`, which adds this number
abbrev pub step_by : Expr → List ℕ → Property
step_by one next = record { name = codes "step"; length = fixed 1; window = 1; assume = en 0 ∷ []; commit = equals (q 1) (plus (q 0) one) ∷ []; hand = q 0 ∷ []; covers = cover_to 1 1 2 ∷ []; next = next }

-- `hold`, which hands these expressions over
abbrev pub hold_handing : List Expr → Property
hold_handing hand = record { name = codes "hold"; length = fixed 1; window = 1; assume = negated (en 0) ∷ []; commit = equals (q 1) (q 0) ∷ []; hand = hand; covers = cover_to 1 1 2 ∷ []; next = 1 ∷ 2 ∷ [] }

-- a set of the counter with these properties
abbrev pub counter_with : Property → List Property → Set
counter_with first operations = record { block = codes "counter"; clock = codes "clk"; reset = codes "rst"; high = true; cycles = 1; names = counter_names; constraints = []; invariants = []; first = first; operations = operations }

-- the set as it stands above
abbrev pub counter_set : Set
counter_set = counter_with (counter_reset (1 ∷ 2 ∷ [])) (step_by (sized 2 1) (1 ∷ 2 ∷ []) ∷ hold_handing (q 0 ∷ []) ∷ [])

-- with `q@0 + 1` in place of `q@0 + 2'd1`
abbrev pub unsized_step : Set
unsized_step = counter_with (counter_reset (1 ∷ 2 ∷ [])) (step_by (unsized 1) (1 ∷ 2 ∷ []) ∷ hold_handing (q 0 ∷ []) ∷ [])

-- without the operation `hold`, and with `next step;` twice
abbrev pub step_alone : Set
step_alone = counter_with (counter_reset (1 ∷ [])) (step_by (sized 2 1) (1 ∷ []) ∷ [])

-- without the `hand` clause of `hold`
abbrev pub hold_without_hand : Set
hold_without_hand = counter_with (counter_reset (1 ∷ 2 ∷ [])) (step_by (sized 2 1) (1 ∷ 2 ∷ []) ∷ hold_handing [] ∷ [])

-- the module, its rows being en and q
abbrev pub counter_design : Design CounterCycle
counter_design = design_of (λ c e. e.q ≡ next_q c.rst c.en c.q) (λ c. c.rst) (λ c. cond c.en 1 0 ∷ c.q ∷ [])
