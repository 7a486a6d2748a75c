-- A register that flips where a state m is 1, which never changes:
--
--   module flip(input clk, input rst, output reg q);
--     reg m;
--     always @(posedge clk) begin
--       m <= m;
--       if (rst) q <= 1'b0; else q <= q ^ m;
--     end
--   endmodule
--
-- and its set, whose assumptions read a state that nobody hands over:
--
--   block flip; clock clk; reset rst high 1;
--   output q; state m;
--   property reset { length 0; commit q@0 == 1'b0; cover q from 0 to 1; next on, off; }
--   operation on { length 1; assume m@0; commit q@1 == !q@0; hand q@0;
--     cover q from 1 to 2; next on, off; }
--   operation off { length 1; assume !m@0; commit q@1 == q@0; hand q@0;
--     cover q from 1 to 2; next on, off; }
use Rattle.std.specs.Prelude.{ℕ, true, List, [], ◌∷◌, codes}
use Rattle.vlog_tree.specs.declared.expr.Expr.{Expr}
use Rattle.set_tree.specs.declared.set.Name.{Name}
use Rattle.set_tree.specs.declared.set.Property.{Property}
use Rattle.set_tree.specs.declared.set.Role.{Role}
use Rattle.set_tree.specs.declared.set.Role.TheVariants.{Input, Output, State}
use Rattle.set_tree.specs.declared.set.Set.{Set}
use Rattle.set_tree_completeness.specs.Terms.{name_at, sized, negated, equals, declared, fixed, cover_to}

abbrev pub q : ℕ → Expr
q = name_at (codes "q")

abbrev pub m : ℕ → Expr
m = name_at (codes "m")

-- q at 0 and m at 1
abbrev pub flip_names : Role → List Name
flip_names role = declared (codes "q") Output 1 ∷ declared (codes "m") role 1 ∷ []

-- an operation of length 1 that assumes one formula and commits another
abbrev pub flip_operation : List ℕ → Expr → Expr → Property
flip_operation name assumed committed = record { name = name; length = fixed 1; window = 1; assume = assumed ∷ []; commit = committed ∷ []; hand = q 0 ∷ []; covers = cover_to 0 1 2 ∷ []; next = 1 ∷ 2 ∷ [] }

-- the set, m being declared so
abbrev pub flip_with : Role → Set
flip_with role = record {
  block = codes "flip";
  clock = codes "clk";
  reset = codes "rst";
  high = true;
  cycles = 1;
  names = flip_names role;
  constraints = [];
  invariants = [];
  first = record { name = codes "reset"; length = fixed 0; window = 0; assume = []; commit = equals (q 0) (sized 1 0) ∷ []; hand = []; covers = cover_to 0 0 1 ∷ []; next = 1 ∷ 2 ∷ [] };
  operations = flip_operation (codes "on") (m 0) (equals (q 1) (negated (q 0))) ∷ flip_operation (codes "off") (negated (m 0)) (equals (q 1) (q 0)) ∷ [];
}

-- the set as it stands above
abbrev pub flip_set : Set
flip_set = flip_with State

-- with `input m;` in place of `state m;`
abbrev pub flip_of_input : Set
flip_of_input = flip_with Input
