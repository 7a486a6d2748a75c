-- The generated block: a chain of stages, each with a valid bit and 8 data bits, and the set that says what comes out of it.
use Rattle.std.specs.Prelude.{ℕ, zero, suc, ◌+◌, ◌-◌, nat_eq, List, [], ◌++◌, codes, decimal, if◌then◌else◌}

-- a word and a number in decimal
unfoldable pub numbered : List ℕ → ℕ → List ℕ
numbered word n = word ++ decimal n

-- the texts of 0 to n - 1
abbrev pub each : (ℕ → List ℕ) → ℕ → List ℕ
each text zero = []
each text (suc n) = each text n ++ text n

-- the signal of stage k, counted from 1; the first stage is fed by the block's input
abbrev pub signal : List ℕ → List ℕ → ℕ → List ℕ
signal input name k = if nat_eq k 0 then input else numbered name k

-- the registers of the stage after k others
abbrev pub registers : ℕ → List ℕ
registers k = numbered (codes "reg v") (k + 1) ++ numbered (codes "; reg [7:0] d") (k + 1) ++ codes ";\n"

-- what this stage does at an edge of the clock
abbrev pub step : ℕ → List ℕ
step k =
    numbered (codes "always @(posedge clk) begin if (rst) v") (k + 1) ++ numbered (codes " <= 1'b0; else v") (k + 1) ++ codes " <= "
    ++ signal (codes "iv") (codes "v") k ++ numbered (codes "; d") (k + 1) ++ codes " <= " ++ signal (codes "d") (codes "d") k ++ codes "; end\n"

-- a chain of n stages
abbrev pub module_text : ℕ → List ℕ
module_text n =
    codes "module chain(input clk, input rst, input iv, input [7:0] d, output v, output [7:0] o);\n" ++ each registers n
    ++ numbered (codes "assign v = v") n ++ numbered (codes ";\nassign o = d") n ++ codes ";\n" ++ each step n ++ codes "endmodule\n"

-- nothing valid comes out in cycle k
abbrev pub silent : ℕ → List ℕ
silent k = numbered (codes "commit !v@") k ++ codes ";\n"

-- the covers of both outputs from one cycle to another, and the successor
abbrev pub covers : ℕ → ℕ → List ℕ
covers from to =
    numbered (codes "cover v from ") from ++ numbered (codes " to ") to ++ numbered (codes "; cover o from ") from ++ numbered (codes " to ") to
    ++ codes "; next pass; }\n"

-- after reset nothing valid comes out for n cycles
abbrev pub reset_text : ℕ → List ℕ
reset_text n = numbered (codes "property reset { length 0; window ") (n - 1) ++ codes ";\n" ++ each silent n ++ covers 0 n

-- what goes in comes out n cycles later
abbrev pub pass_text : ℕ → List ℕ
pass_text n =
    numbered (codes "operation pass { length 1; window ") n ++ numbered (codes ";\ncommit v@") n ++ numbered (codes " == iv@0; commit !iv@0 || o@") n
    ++ codes " == d@0;\n" ++ covers n (n + 1)

-- the set of a chain of n stages, n from 1 on
abbrev pub set_text : ℕ → List ℕ
set_text n =
    codes "block chain; clock clk; reset rst high 1;\ninput iv; input [7:0] d; output v; output [7:0] o when v;\n" ++ reset_text n ++ pass_text n
