-- A stage of a pipeline, whose data register isn't reset:
--
--   module pipe1(input clk, input rst, input iv, input [7:0] d,
--                output reg v, output reg [7:0] o);
--     always @(posedge clk) begin
--       if (rst) v <= 1'b0; else v <= iv;
--       o <= d;
--     end
--   endmodule
--
-- and its set:
--
--   block pipe1; clock clk; reset rst high 1;
--   input iv; input [7:0] d; output v; output [7:0] o when v;
--   property reset { length 0; commit !v@0; cover v from 0 to 1; cover o from 0 to 1; next move; }
--   operation move { length 1; commit v@1 == iv@0; commit !iv@0 || o@1 == d@0;
--     cover v from 1 to 2; cover o from 1 to 2; next move; }
use Rattle.std.specs.Prelude.{ℕ, true, false, List, [], ◌∷◌, Some, codes}
use Rattle.vlog_tree.specs.declared.expr.Expr.{Expr}
use Rattle.set_tree.specs.declared.set.Name.{Name}
use Rattle.set_tree.specs.declared.set.Role.TheVariants.{Input, Output}
use Rattle.set_tree.specs.declared.set.Set.{Set}
use Rattle.set_tree_completeness.specs.Terms.{name_at, sized, negated, equals, or_else, declared, fixed, cover_to}

abbrev pub iv : ℕ → Expr
iv = name_at (codes "iv")

abbrev pub d : ℕ → Expr
d = name_at (codes "d")

abbrev pub v : ℕ → Expr
v = name_at (codes "v")

abbrev pub o : ℕ → Expr
o = name_at (codes "o")

-- iv at 0, d at 1, v at 2 and o at 3, with the domain of o
abbrev pub pipe_names : Expr → List Name
pipe_names domain = declared (codes "iv") Input 1 ∷ declared (codes "d") Input 8 ∷ declared (codes "v") Output 1 ∷ record { name = codes "o"; role = Output; width = 8; low = 0; signed = false; domain = Some domain } ∷ []

-- the set, `o` having this domain
abbrev pub pipe_with : Expr → Set
pipe_with domain = record {
  block = codes "pipe1";
  clock = codes "clk";
  reset = codes "rst";
  high = true;
  cycles = 1;
  names = pipe_names domain;
  constraints = [];
  invariants = [];
  first = record {
    name = codes "reset";
    length = fixed 0;
    window = 0;
    assume = [];
    commit = negated (v 0) ∷ [];
    hand = [];
    covers = cover_to 2 0 1 ∷ cover_to 3 0 1 ∷ [];
    next = 1 ∷ [];
  };
  operations = record {
    name = codes "move";
    length = fixed 1;
    window = 1;
    assume = [];
    commit = equals (v 1) (iv 0) ∷ or_else (negated (iv 0)) (equals (o 1) (d 0)) ∷ [];
    hand = [];
    covers = cover_to 2 1 2 ∷ cover_to 3 1 2 ∷ [];
    next = 1 ∷ [];
  } ∷ [];
}

-- the set as it stands above
abbrev pub pipe_set : Set
pipe_set = pipe_with (v 0)

-- with `when o == 8'd7` in place of `when v`
abbrev pub pipe_at_seven : Set
pipe_at_seven = pipe_with (equals (o 0) (sized 8 7))
