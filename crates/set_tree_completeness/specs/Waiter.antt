-- A server that is busy until an answer comes:
--
--   module waiter(input clk, input rst, input go, input ok, output reg busy);
--     always @(posedge clk)
--       if (rst) busy <= 1'b0;
--       else if (!busy) busy <= go;
--       else if (ok) busy <= 1'b0;
--   endmodule
--
-- and its set, whose constraint says that the answer comes soon:
--
--   block waiter; clock clk; reset rst high 1;
--   input go; input ok; output busy;
--   constraint soon : ok@0 || ok@1 || ok@2;
--   property reset { length 0; commit !busy@0; cover busy from 0 to 1; next idle, serve; }
--   operation idle { length 1; assume !busy@0 && !go@0; commit !busy@1;
--     cover busy from 1 to 2; next idle, serve; }
--   operation serve { length 2 to 4 until !busy; assume !busy@0 && go@0;
--     commit busy@1; commit busy@2 == !ok@1;
--     commit !busy@2 || busy@3 == !ok@2;
--     commit !busy@2 || !busy@3 || busy@4 == !ok@3;
--     cover busy from 1 to end + 1; next idle, serve; }
use Rattle.std.specs.Prelude.{ℕ, true, List, [], ◌∷◌, Some, codes}
use Rattle.vlog_tree.specs.declared.expr.Expr.{Expr}
use Rattle.set_tree.specs.declared.set.Name.{Name}
use Rattle.set_tree.specs.declared.set.Property.{Property}
use Rattle.set_tree.specs.declared.set.Role.TheVariants.{Input, Output}
use Rattle.set_tree.specs.declared.set.Rule.{Rule}
use Rattle.set_tree.specs.declared.set.Set.{Set}
use Rattle.set_tree.specs.declared.set.To.TheVariants.{AfterEnd}
use Rattle.set_tree_completeness.specs.Terms.{name_at, negated, equals, and_also, or_else, declared, fixed, cover_to}

abbrev pub go : ℕ → Expr
go = name_at (codes "go")

abbrev pub ok : ℕ → Expr
ok = name_at (codes "ok")

abbrev pub busy : ℕ → Expr
busy = name_at (codes "busy")

-- go at 0, ok at 1 and busy at 2
abbrev pub waiter_names : List Name
waiter_names = declared (codes "go") Input 1 ∷ declared (codes "ok") Input 1 ∷ declared (codes "busy") Output 1 ∷ []

abbrev pub soon : Rule
soon = record { name = codes "soon"; formula = or_else (or_else (ok 0) (ok 1)) (ok 2) }

abbrev pub serve : Property
serve = record {
  name = codes "serve";
  length = record { low = 2; high = 4; until = Some (negated (busy 0)) };
  window = 4;
  assume = and_also (negated (busy 0)) (go 0) ∷ [];
  commit =
      busy 1 ∷ equals (busy 2) (negated (ok 1)) ∷ or_else (negated (busy 2)) (equals (busy 3) (negated (ok 2)))
      ∷ or_else (or_else (negated (busy 2)) (negated (busy 3))) (equals (busy 4) (negated (ok 3))) ∷ [];
  hand = [];
  covers = record { output = 2; from = 1; to = AfterEnd 1 } ∷ [];
  next = 1 ∷ 2 ∷ [];
}

-- the set, with these constraints
abbrev pub waiter_with : List Rule → Set
waiter_with constraints = record {
  block = codes "waiter";
  clock = codes "clk";
  reset = codes "rst";
  high = true;
  cycles = 1;
  names = waiter_names;
  constraints = constraints;
  invariants = [];
  first = record { name = codes "reset"; length = fixed 0; window = 0; assume = []; commit = negated (busy 0) ∷ []; hand = []; covers = cover_to 2 0 1 ∷ []; next = 1 ∷ 2 ∷ [] };
  operations =
      record { name = codes "idle"; length = fixed 1; window = 1; assume = and_also (negated (busy 0)) (negated (go 0)) ∷ []; commit = negated (busy 1) ∷ []; hand = []; covers = cover_to 2 1 2 ∷ []; next = 1 ∷ 2 ∷ [] }
      ∷ serve ∷ [];
}

-- the set as it stands above, and without its constraint
abbrev pub waiter_set : Set
waiter_set = waiter_with (soon ∷ [])

abbrev pub waiter_unconstrained : Set
waiter_unconstrained = waiter_with []
