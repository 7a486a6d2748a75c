-- A counter modulo 3 in three bits:
--
--   module hop(input clk, input rst, output reg [2:0] q);
--     always @(posedge clk)
--       if (rst) q <= 3'd0;
--       else if (q == 3'd2) q <= 3'd0;
--       else q <= q + 3'd1;
--   endmodule
--
-- and its set:
--
--   block hop; clock clk; reset rst high 1;
--   output [2:0] q;
--   property reset { length 0; commit q@0 == 3'd0; cover q from 0 to 1; next tick; }
--   operation tick { length 1; commit q@1 == (q@0 == 3'd2 ? 3'd0 : q@0 + 3'd1); hand q@0;
--     cover q from 1 to 2; next tick; }
use Rattle.std.specs.Prelude.{◌≡◌, ℕ, ◌+◌, ◌%◌, Bool, true, cond, nat_eq, List, [], ◌∷◌, codes}
use Rattle.vlog_tree.specs.declared.expr.Expr.{Expr}
use Rattle.set_tree.specs.declared.set.Name.{Name}
use Rattle.set_tree.specs.declared.set.Role.TheVariants.{Output}
use Rattle.set_tree.specs.declared.set.Rule.{Rule}
use Rattle.set_tree.specs.declared.set.Set.{Set}
use Rattle.set_tree.specs.Runs.{Design, design_of}
use Rattle.set_tree_completeness.specs.Terms.{name_at, sized, equals, differs, plus, paren, choice, declared, fixed, cover_to}

abbrev pub q : ℕ → Expr
q = name_at (codes "q")

abbrev pub hop_names : List Name
hop_names = declared (codes "q") Output 3 ∷ []

-- the set, with these invariants
abbrev pub hop_with : List Rule → Set
hop_with invariants = record {
  block = codes "hop";
  clock = codes "clk";
  reset = codes "rst";
  high = true;
  cycles = 1;
  names = hop_names;
  constraints = [];
  invariants = invariants;
  first = record { name = codes "reset"; length = fixed 0; window = 0; assume = []; commit = equals (q 0) (sized 3 0) ∷ []; hand = []; covers = cover_to 0 0 1 ∷ []; next = 1 ∷ [] };
  operations = record { name = codes "tick"; length = fixed 1; window = 1; assume = []; commit = equals (q 1) (paren (choice (equals (q 0) (sized 3 2)) (sized 3 0) (plus (q 0) (sized 3 1)))) ∷ []; hand = q 0 ∷ []; covers = cover_to 0 1 2 ∷ []; next = 1 ∷ [] } ∷ [];
}

-- `invariant four : q != 3'd4;`
abbrev pub four : Rule
four = record { name = codes "four"; formula = differs (q 0) (sized 3 4) }

-- `invariant three : q != 3'd3;`
abbrev pub three : Rule
three = record { name = codes "three"; formula = differs (q 0) (sized 3 3) }

-- the set with `four` alone, and with both
abbrev pub hop_four : Set
hop_four = hop_with (four ∷ [])

abbrev pub hop_three_four : Set
hop_three_four = hop_with (three ∷ four ∷ [])

-- a cycle of the module
pub record HopCycle : Type 0 where
  pub rst : Bool
  pub q : ℕ

-- the register after a cycle
abbrev pub next_q : HopCycle → ℕ
next_q c = cond c.rst 0 (cond (nat_eq c.q 2) 0 ((c.q + 1) % 8))

-- the module, its rows being q
abbrev pub hop_design : Design HopCycle
hop_design = design_of (λ c e. e.q ≡ next_q c) (λ c. c.rst) (λ c. c.q ∷ [])
