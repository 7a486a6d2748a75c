-- The bits that a part of a signal names, and bits that parts have in common (IEEE 1364-2005, section 5.2.1).
use Rattle.std.specs.Prelude.{ℕ, ◌≡◌, Bool, false, ◌-◌, ◌^◌, min, suc, ℤ, pos, negsuc, ◌≤ℤ◌, ◌<ℤ◌, ◌+ℤ◌, ◌-ℤ◌, List, [], ◌∷◌, Option, Some, None, if◌then◌else◌}
use Rattle.std.specs.Int.{bit_at}
use Rattle.std.specs.Str.{bytes_eq}
use Rattle.vlog_tree.specs.declared.expr.Expr.{Expr}
use Rattle.vlog_tree.specs.declared.expr.Span.{Span}
use Rattle.vlog_tree.specs.declared.stmt.Lval.{Lval}
use Rattle.vlog_tree.specs.declared.stmt.Lval.TheVariants as l
use Rattle.vlog_tree.specs.Value.{operand_of, own_integer, natural, part_low, part_width, width_of, sign_of, IsFormed, IsDefined, NamesOnly}
use Rattle.vlog_tree_runs.specs.declared.flat.Signal.{Signal}
use Rattle.vlog_tree_runs.specs.Places.{Name, Among}
use Rattle.elab_flat_drivers.specs.declared.claims.Claim.{Claim}
use Rattle.elab_flat_drivers.specs.declared.claims.Run.{Run}
use Rattle.elab_flat_drivers.specs.declared.claims.Spot.{Spot}
use Rattle.elab_flat_drivers.specs.Parts.{reads_of}

-- ---- expressions without names

-- no name is a parameter's: in a module without instances a parameter is a number
abbrev pub nothing : Name → Bool
nothing x = false

-- an expression without names has a value by itself
abbrev pub IsEvaluable : Expr → Type 0
IsEvaluable a = NamesOnly nothing a → IsFormed [] a × IsDefined [] a (width_of [] a) (sign_of [] a)

-- its integer; none where it reads something
abbrev pub known_if : List Lval → ℤ → Option ℤ
known_if [] i = Some i
known_if (q ∷ qs) i = None

abbrev pub known : Expr → Option ℤ
known a = known_if (reads_of a) (own_integer (operand_of [] a))

-- ---- parts of signals

-- the numbers of a part without names have values
abbrev pub IsPartReady : Lval → Type 0
IsPartReady (l.Name x) = Unit {0}
IsPartReady (l.Select x a) = IsEvaluable a
IsPartReady (l.Part x span a b) = IsEvaluable a × IsEvaluable b
IsPartReady (l.Concat' h row) = ⊥

abbrev pub bit_run : Option ℤ → Option Run
bit_run None = None
bit_run (Some i) = Some (record { from = i; to = i +ℤ pos 1 })

abbrev pub span_run : Span → Option ℤ → Option ℤ → Option Run
span_run span None j = None
span_run span (Some i) None = None
span_run span (Some i) (Some j) = Some (record { from = part_low span i j; to = part_low span i j +ℤ pos (part_width span i j) })

-- the numbers of the bits that a part names; none where they aren't constant, or all are meant
abbrev pub part_run : Lval → Option Run
part_run (l.Name x) = None
part_run (l.Select x a) = bit_run (known a)
part_run (l.Part x span a b) = span_run span (known a) (known b)
part_run (l.Concat' h row) = None

abbrev pub part_name : Lval → Name
part_name (l.Name x) = x
part_name (l.Select x a) = x
part_name (l.Part x span a b) = x
part_name (l.Concat' h row) = []

-- integers that stay far from the ends of their type
abbrev pub IsNear : ℤ → Type 0
IsNear i = (negsuc (2 ^ 64) ≤ℤ i) × (i <ℤ pos (2 ^ 64))

abbrev pub IsSmall : Run → Type 0
IsSmall r = (negsuc (2 ^ 70) ≤ℤ r.from) × (r.from <ℤ pos (2 ^ 70)) × (negsuc (2 ^ 70) ≤ℤ r.to) × (r.to <ℤ pos (2 ^ 70))

-- ---- bits

-- a 1 for each bit from `from` on, below `to`
abbrev pub ones : ℕ → ℕ → ℕ
ones from to = 2 ^ to - 2 ^ from

-- the bits of a signal with these numbers; without numbers all of them
abbrev pub claim_at : Spot → Option Run → Claim
claim_at s None = record { place = s.place; bits = ones 0 s.width }
claim_at s (Some r) = record { place = s.place; bits = ones (min s.width (natural (r.from -ℤ pos s.low))) (min s.width (natural (r.to -ℤ pos s.low))) }

-- the first signal of a name
abbrev pub spot_from : ℕ → List Signal → Name → Option Spot
spot_from i [] x = None
spot_from i (g ∷ gs) x = if bytes_eq g.name x then Some (record { place = i; width = g.width; low = g.low }) else spot_from (suc i) gs x

abbrev pub spot_in : List Signal → Name → Option Spot
spot_in gs x = spot_from 0 gs x

abbrev pub claims_at : Option Spot → Option Run → List Claim
claims_at None r = []
claims_at (Some s) r = claim_at s r ∷ []

-- the bits that a part names
abbrev pub part_claims : List Signal → Lval → List Claim
part_claims gs q = claims_at (spot_in gs (part_name q)) (part_run q)

-- bit b of the signal at place i is among those claimed
pub record IsClaimed (cs : List Claim) (i b : ℕ) : Type 0 where
  pub claim : Claim
  pub among : Among cs claim
  pub at : claim.place ≡ i
  pub set : bit_at claim.bits b ≡ 1
