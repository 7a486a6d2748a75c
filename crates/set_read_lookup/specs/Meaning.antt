-- The set that a text means: its names looked up, and its numbers in the sizes that a set has for them.
use Rattle.std.specs.Prelude.{ℕ, ◌+◌, ◌-◌, ◌^◌, ◌≡◌, ◌&&◌, List, [], ◌∷◌, Option, Some, None, Bool, true, false, codes, nat_le, nat_lt, if◌then◌else◌}
use Rattle.std.specs.Option.{option_map}
use Rattle.std.specs.Str.{bytes_eq}
use Rattle.set_tree.specs.declared.set.Cover.{Cover}
use Rattle.set_tree.specs.declared.set.Name.{Name}
use Rattle.set_tree.specs.declared.set.Property.{Property}
use Rattle.set_tree.specs.declared.set.Role.{Role}
use Rattle.set_tree.specs.declared.set.Role.TheVariants as role
use Rattle.set_tree.specs.declared.set.Rule.{Rule}
use Rattle.set_tree.specs.declared.set.Set.{Set}
use Rattle.set_tree.specs.declared.set.To.{To}
use Rattle.set_tree.specs.declared.set.To.TheVariants as to
use Rattle.set_tree.specs.declared.text.Bits.{Bits}
use Rattle.set_tree.specs.declared.text.CoverText.{CoverText}
use Rattle.set_tree.specs.declared.text.Declaration.{Declaration}
use Rattle.set_tree.specs.declared.text.EndText.{EndText}
use Rattle.set_tree.specs.declared.text.EndText.TheVariants as end
use Rattle.set_tree.specs.declared.text.PropertyText.{PropertyText}
use Rattle.set_tree.specs.declared.text.RuleKind.{RuleKind}
use Rattle.set_tree.specs.declared.text.RuleKind.TheVariants as rule
use Rattle.set_tree.specs.declared.text.RuleText.{RuleText}
use Rattle.set_tree.specs.declared.text.SetText.{SetText}
use Rattle.set_tree.specs.declared.text.Until.{Until}
use Rattle.set_read_lookup.specs.declared.looked.Looked.{Looked}
use Rattle.set_read_lookup.specs.declared.looked.Sizes.{Sizes}

-- an element in front of a list, where there are both
abbrev pub joined : {B : Type 0} → Option B → Option (List B) → Option (List B)
joined (Some y) (Some ys) = Some (y ∷ ys)
joined None ys = None
joined (Some y) None = None

-- what each element becomes, where each becomes something
abbrev pub each : {A B : Type 0} → (A → Option B) → List A → Option (List B)
each f [] = Some []
each f (x ∷ xs) = joined (f x) (each f xs)

abbrev pub within : ℕ → ℕ → Option ℕ
within bound n = if nat_lt n bound then Some n else None

-- a declared length in bits, from 1 to 64
abbrev pub width_of : Option Bits → Option ℕ
width_of None = Some 1
width_of (Some b) = if nat_le b.low b.high && nat_lt (b.high - b.low) 64 then Some (b.high - b.low + 1) else None

abbrev pub low_of : Option Bits → ℕ
low_of None = 0
low_of (Some b) = b.low

abbrev pub name_with : Declaration → Option ℕ → Option ℕ → Option Name
name_with d (Some w) (Some l) = Some (record { name = d.name; role = d.role; width = w; low = l; signed = d.signed; domain = d.domain })
name_with d None l = None
name_with d (Some w) None = None

abbrev pub name_of : Declaration → Option Name
name_of d = name_with d (width_of d.bits) (within (2 ^ 32) (low_of d.bits))

-- the rules of a kind, in order
abbrev pub is_constraint : RuleKind → Bool
is_constraint rule.Constraint = true
is_constraint rule.Invariant = false

abbrev pub rule_of : RuleText → Rule
rule_of r = record { name = r.name; formula = r.formula }

abbrev pub constraints_of : List RuleText → List Rule
constraints_of [] = []
constraints_of (r ∷ rs) = if is_constraint r.kind then rule_of r ∷ constraints_of rs else constraints_of rs

abbrev pub invariants_of : List RuleText → List Rule
invariants_of [] = []
invariants_of (r ∷ rs) = if is_constraint r.kind then invariants_of rs else rule_of r ∷ invariants_of rs

abbrev pub is_output : Role → Bool
is_output role.Output = true
is_output role.Input = false
is_output role.State = false

-- the place of the first output of a name
abbrev pub output_from : List Declaration → List ℕ → ℕ → Option ℕ
output_from [] x i = None
output_from (d ∷ ds) x i = if is_output d.role && bytes_eq d.name x then Some i else output_from ds x (i + 1)

abbrev pub end_of : EndText → Option To
end_of (end.At r) = option_map to.At (within (2 ^ 32) r)
end_of (end.AfterEnd d) = option_map to.AfterEnd (within (2 ^ 32) d)

abbrev pub cover_with : Option ℕ → Option ℕ → Option To → Option Cover
cover_with (Some o) (Some f) (Some t) = Some (record { output = o; from = f; to = t })
cover_with (Some o) (Some f) None = None
cover_with (Some o) None t = None
cover_with None f t = None

abbrev pub cover_of : List Declaration → CoverText → Option Cover
cover_of ds c = cover_with (output_from ds c.output 0) (within (2 ^ 32) c.from) (end_of c.to)

-- the successor of a name: 0 for reset, i + 1 for the first operation of that name, i being its place
abbrev pub operation_from : List PropertyText → List ℕ → ℕ → Option ℕ
operation_from [] x i = None
operation_from (p ∷ ps) x i = if bytes_eq p.name x then Some i else operation_from ps x (i + 1)

abbrev pub successor_of : List PropertyText → List ℕ → Option ℕ
successor_of ps x = if bytes_eq x (codes "reset") then Some 0 else operation_from ps x 1

-- what a property's names and numbers come to
abbrev pub high_from : ℕ → Option Until → ℕ
high_from l None = l
high_from l (Some u) = u.high

abbrev pub window_from : ℕ → Option ℕ → ℕ
window_from high None = high
window_from high (Some w) = w

abbrev pub sizes_with : Option ℕ → Option ℕ → Option ℕ → Option Sizes
sizes_with (Some l) (Some h) (Some w) = Some (record { low = l; high = h; window = w })
sizes_with (Some l) (Some h) None = None
sizes_with (Some l) None w = None
sizes_with None h w = None

abbrev pub sizes_of : PropertyText → Option Sizes
sizes_of p =
    let high = high_from p.length.low p.length.until in
    sizes_with (within 256 p.length.low) (within 256 high) (within 256 (window_from high p.window))

abbrev pub looked_with : Option Sizes → Option (List Cover) → Option (List ℕ) → Option Looked
looked_with (Some s) (Some c) (Some n) = Some (record { sizes = s; covers = c; next = n })
looked_with (Some s) (Some c) None = None
looked_with (Some s) None n = None
looked_with None c n = None

abbrev pub looked_of : List Declaration → List PropertyText → PropertyText → Option Looked
looked_of ds ps p = looked_with (sizes_of p) (each (cover_of ds) p.covers) (each (successor_of ps) p.next)

-- the property of a text, with what was looked up for it
abbrev pub property_of : PropertyText → Looked → Property
property_of p l = record {
  name = p.name;
  length = record { low = l.sizes.low; high = l.sizes.high; until = option_map (λ u. u.condition) p.length.until };
  window = l.sizes.window;
  assume = p.assume;
  commit = p.commit;
  hand = p.hand;
  covers = l.covers;
  next = l.next;
}

abbrev pub properties_of : List Looked → List PropertyText → List Property
properties_of [] ps = []
properties_of (l ∷ ls) [] = []
properties_of (l ∷ ls) (p ∷ ps) = property_of p l ∷ properties_of ls ps

-- ---- sets

-- the property that a property's text means among these declarations and operations
abbrev pub IsProperty : List Declaration → List PropertyText → PropertyText → Property → Type 0
IsProperty ds ps p q = (l : Looked) × (looked_of ds ps p ≡ Some l) × (q ≡ property_of p l)

abbrev pub AreProperties : List Declaration → List PropertyText → List Property → Type 0
AreProperties ds ps qs = (ls : List Looked) × (each (looked_of ds ps) ps ≡ Some ls) × (qs ≡ properties_of ls ps)

-- the set that a text means: each name that it uses is declared, and each number fits its place
pub record Means (t : SetText) (s : Set) : Type 0 where
  pub block : s.block ≡ t.block
  pub clock : s.clock ≡ t.clock
  pub reset : s.reset ≡ t.reset
  pub high : s.high ≡ t.high
  pub cycles : s.cycles ≡ t.cycles
  pub names : each name_of t.declarations ≡ Some s.names
  pub constraints : s.constraints ≡ constraints_of t.rules
  pub invariants : s.invariants ≡ invariants_of t.rules
  pub first : IsProperty t.declarations t.operations t.first s.first
  pub operations : AreProperties t.declarations t.operations s.operations

-- the text means no set
abbrev pub MeansNothing : SetText → Type 0
MeansNothing t = (s : Set) → Means t s → ⊥
