-- What a set's text may have against it once it is spelt: names that aren't declared, names that are declared twice, and
-- quantities that leave their bounds.
use Rattle.std.specs.Prelude.{ℕ, ◌≡◌, ◌⊎◌, ◌++◌, ◌&&◌, ◌||◌, not, List, [], ◌∷◌, length, map, Option, Some, None, Bool, true, false, IsTrue, nat_lt, is_some, codes, if◌then◌else◌, ◌^◌}
use Rattle.std.specs.List.{list_any, list_all, find, flat_map}
use Rattle.std.specs.Option.{option_to_list, option_map, option_or}
use Rattle.std.specs.Str.{bytes_eq}
use Rattle.vlog_tree.specs.declared.expr.Name.{Name}
use Rattle.vlog_tree.specs.declared.expr.Expr.{Expr, Row_of-Expr, end_of-Expr, more_of-Expr}
use Rattle.vlog_tree.specs.declared.expr.Expr.TheVariants as e
use Rattle.set_tree.specs.declared.text.Declaration.{Declaration}
use Rattle.set_tree.specs.declared.text.CoverText.{CoverText}
use Rattle.set_tree.specs.declared.text.EndText.{EndText}
use Rattle.set_tree.specs.declared.text.EndText.TheVariants as to
use Rattle.set_tree.specs.declared.text.PropertyText.{PropertyText}
use Rattle.set_tree.specs.declared.text.RuleText.{RuleText}
use Rattle.set_tree.specs.declared.text.SetText.{SetText}
use Rattle.set_read_lookup.specs.declared.names.Wanted.{Wanted}
use Rattle.set_read_lookup.specs.declared.names.Wanted.TheVariants as w
use Rattle.set_read_lookup.specs.declared.wrong.Wrong.{Wrong}
use Rattle.set_read_lookup.specs.declared.wrong.Wrong.TheVariants as wrong
use Rattle.set_read_lookup.specs.declared.quantity.Quantity.{Quantity}
use Rattle.set_read_lookup.specs.declared.quantity.Quantity.TheVariants as q
use Rattle.set_tree.specs.declared.set.Name.{Name as Signal}
use Rattle.set_read_lookup.specs.Formed.{IsFormedOver, formulas_in}
use Rattle.set_read_lookup.specs.Meaning.{each, name_of, width_of, low_of, is_constraint, constraints_of, invariants_of, output_from, successor_of, high_from, window_from}

-- ---- names

-- the names in a formula
abbrev mutual
  pub names_in : Expr → List Name
  names_in (e.Number n) = []
  names_in (e.Name x) = x ∷ []
  names_in (e.Select' x h (more_of-Expr a end_of-Expr)) = x ∷ names_in a
  names_in (e.Part' x span h (more_of-Expr a end_of-Expr) g (more_of-Expr b end_of-Expr)) = x ∷ (names_in a ++ names_in b)
  names_in (e.ConstantSelect' k h (more_of-Expr a end_of-Expr)) = names_in a
  names_in (e.ConstantPart' k span h (more_of-Expr a end_of-Expr) g (more_of-Expr b end_of-Expr)) = names_in a ++ names_in b
  names_in (e.Cast' cast h (more_of-Expr a end_of-Expr)) = names_in a
  names_in (e.Paren' h (more_of-Expr a end_of-Expr)) = names_in a
  names_in (e.Concat' h row) = names_in_row row
  names_in (e.Repeat' h (more_of-Expr a end_of-Expr) g row) = names_in a ++ names_in_row row
  names_in (e.Unary' op h (more_of-Expr a end_of-Expr)) = names_in a
  names_in (e.Binary' op h (more_of-Expr a end_of-Expr) g (more_of-Expr b end_of-Expr)) = names_in a ++ names_in b
  names_in (e.Choice' h (more_of-Expr c end_of-Expr) g (more_of-Expr a end_of-Expr) i (more_of-Expr b end_of-Expr)) = names_in c ++ (names_in a ++ names_in b)

  pub names_in_row : {m : _} → Row_of-Expr m → List Name
  names_in_row end_of-Expr = []
  names_in_row (more_of-Expr a rest) = names_in a ++ names_in_row rest

-- what is looked for in formulas: a name that isn't declared, one with an offset above a bound, or any name
abbrev pub is_declared : List Declaration → List ℕ → Bool
is_declared ds n = list_any (λ d. bytes_eq d.name n) ds

abbrev pub is_wanted : Wanted → Name → Bool
is_wanted (w.Undeclared ds) x = not (is_declared ds.now x.text)
is_wanted (w.Beyond bound) x = nat_lt bound x.offset
is_wanted w.Any x = true

-- the reset property and the operations
abbrev pub properties_in : SetText → List PropertyText
properties_in t = t.first ∷ t.operations

-- the names that the formulas of a set use, those that its covers name, and those that its properties lead to
abbrev pub names_of : PropertyText → List Name
names_of p =
    flat_map names_in (option_to_list (option_map (λ u. u.condition) p.length.until))
    ++ (flat_map names_in p.assume ++ (flat_map names_in p.commit ++ flat_map names_in p.hand))

abbrev pub names_used : SetText → List Name
names_used t = flat_map (λ d. flat_map names_in (option_to_list d.domain)) t.declarations ++ (flat_map (λ r. names_in r.formula) t.rules ++ flat_map names_of (properties_in t))

abbrev pub outputs_of : PropertyText → List (List ℕ)
outputs_of p = map (λ c. c.output) p.covers

abbrev pub outputs_used : SetText → List (List ℕ)
outputs_used t = flat_map outputs_of (properties_in t)

abbrev pub successors_used : SetText → List (List ℕ)
successors_used t = flat_map (λ p. p.next) (properties_in t)

-- x is an element of a list, and two elements of it
abbrev pub Has : {A : Type 0} → List A → A → Type 0
Has [] x = ⊥
Has (y ∷ ys) x = (y ≡ x) ⊎ Has ys x

abbrev pub HasTwice : {A : Type 0} → List A → A → Type 0
HasTwice [] x = ⊥
HasTwice (y ∷ ys) x = ((y ≡ x) × Has ys x) ⊎ HasTwice ys x

-- ---- Unknown: a name that is used as what it isn't declared as

-- a formula uses a name that isn't declared
abbrev pub UsesUndeclared : SetText → List ℕ → Type 0
UsesUndeclared t n = (x : Name) × Has (names_used t) x × (x.text ≡ n) × (is_declared t.declarations n ≡ false)

-- a cover names n, which is no output
abbrev pub is_no_output : List Declaration → List ℕ → Bool
is_no_output ds n = not (is_some (output_from ds n 0))

abbrev pub CoversNoOutput : SetText → List ℕ → Type 0
CoversNoOutput t n = Has (outputs_used t) n × IsTrue (is_no_output t.declarations n)

-- a property leads to n, which is no property
abbrev pub is_no_property : List PropertyText → List ℕ → Bool
is_no_property ps n = not (is_some (successor_of ps n))

abbrev pub LeadsNowhere : SetText → List ℕ → Type 0
LeadsNowhere t n = Has (successors_used t) n × IsTrue (is_no_property t.operations n)

abbrev pub StandsUnknown : SetText → List ℕ → Type 0
StandsUnknown t n = UsesUndeclared t n ⊎ (CoversNoOutput t n ⊎ LeadsNowhere t n)

-- ---- Twice: a name that two signals have, or two of the properties, constraints and invariants, or that stands twice in
-- one list of successors

abbrev pub signal_names : SetText → List (List ℕ)
signal_names t = map (λ d. d.name) t.declarations

abbrev pub property_names : SetText → List (List ℕ)
property_names t = t.first.name ∷ (map (λ p. p.name) t.operations ++ map (λ r. r.name) t.rules)

abbrev pub LeadsTwice : List PropertyText → List ℕ → Type 0
LeadsTwice [] n = ⊥
LeadsTwice (p ∷ ps) n = HasTwice p.next n ⊎ LeadsTwice ps n

abbrev pub StandsTwice : SetText → List ℕ → Type 0
StandsTwice t n = HasTwice (signal_names t) n ⊎ (HasTwice (property_names t) n ⊎ LeadsTwice (properties_in t) n)

-- ---- Limit: a quantity that leaves its bounds

abbrev pub is_outside : ℕ → ℕ → ℕ → Bool
is_outside low high n = nat_lt n low || nat_lt high n

-- `[high:low]` has high at least low, and 1 to 64 bits
abbrev pub leaves_width : Declaration → Bool
leaves_width d = not (is_some (width_of d.bits))

-- an operation is 1 to 64 cycles long; its longest length is at least its shortest
abbrev pub leaves_length : PropertyText → Bool
leaves_length p = is_outside 1 64 p.length.low || is_outside p.length.low 64 (high_from p.length.low p.length.until)

-- a window reaches to the end at least, and to 64 at most
abbrev pub leaves_window : PropertyText → Bool
leaves_window p = let high = high_from p.length.low p.length.until in is_outside high 64 (window_from high p.window)

-- a constraint looks no further than 64 cycles
abbrev pub leaves_offset : RuleText → Bool
leaves_offset r = is_constraint r.kind && is_some (find (λ x. nat_lt 64 x.offset) (names_in r.formula))

abbrev pub leaves_hands : PropertyText → Bool
leaves_hands p = nat_lt 64 (length p.hand)

-- a quantity of a set leaves its bounds; those of the reset property's length are 0 to 64
abbrev pub leaves : SetText → Quantity → Bool
leaves t q.Width = list_any leaves_width t.declarations
leaves t q.Cycles = is_outside 1 16 t.cycles
leaves t q.Length = nat_lt 64 t.first.length.low || list_any leaves_length t.operations
leaves t q.Window = list_any leaves_window (properties_in t) || list_any leaves_offset t.rules
leaves t q.Operations = is_outside 1 64 (length t.operations)
leaves t q.Invariants = nat_lt 64 (length (invariants_of t.rules))
leaves t q.Constraints = nat_lt 64 (length (constraints_of t.rules))
leaves t q.Names = is_outside 1 256 (length t.declarations)
leaves t q.Hands = list_any leaves_hands t.operations

abbrev pub Leaves : SetText → Quantity → Type 0
Leaves t quantity = IsTrue (leaves t quantity)

-- a formula isn't well formed, its names being declared and all declared lengths good
pub record IsIllFormed (t : SetText) (f : Expr) : Type 0 where
  pub names : List Signal
  pub lengths : each name_of t.declarations ≡ Some names
  pub declared : (x : Name) → Has (names_in f) x → is_declared t.declarations x.text ≡ true
  pub faulty : IsFormedOver names f → ⊥

abbrev pub HasIllFormed : SetText → Type 0
HasIllFormed t = (f : Expr) × Has (formulas_in t) f × IsIllFormed t f

-- a length isn't from 1 to 64 bits where it is declared or in a formula, or a quantity leaves its bounds
abbrev pub StandsLimit : SetText → Quantity → Type 0
StandsLimit t q.Width = Leaves t q.Width ⊎ HasIllFormed t
StandsLimit t quantity = Leaves t quantity

-- its word in a message
abbrev pub word_of : Quantity → List ℕ
word_of q.Width = codes "width"
word_of q.Cycles = codes "cycles"
word_of q.Length = codes "length"
word_of q.Window = codes "window"
word_of q.Operations = codes "operations"
word_of q.Invariants = codes "invariants"
word_of q.Constraints = codes "constraints"
word_of q.Names = codes "names"
word_of q.Hands = codes "hands"

-- ---- texts without these faults

-- what a search for what P says answers: nothing, where P holds of nothing
abbrev pub Finds : {A : Type 0} → (A → Type 0) → Option A → Type 0
Finds P None = (a : _) → P a → ⊥
Finds P (Some a) = P a

-- the first name that stands again behind its place in a list, and in a list of successors
abbrev pub first_twice : List (List ℕ) → Option (List ℕ)
first_twice [] = None
first_twice (n ∷ ns) = if list_any (λ m. bytes_eq m n) ns then Some n else first_twice ns

abbrev pub first_next_twice : List PropertyText → Option (List ℕ)
first_next_twice [] = None
first_next_twice (p ∷ ps) = option_or (first_twice p.next) (first_next_twice ps)

-- every name is declared, none twice, every quantity keeps its bounds, and every formula is well formed
pub record IsValid (t : SetText) : Type 0 where
  pub known : (n : List ℕ) → StandsUnknown t n → ⊥
  pub once : (n : List ℕ) → StandsTwice t n → ⊥
  pub kept : (quantity : Quantity) → StandsLimit t quantity → ⊥
  pub formed : (names : List Signal) → each name_of t.declarations ≡ Some names → (f : Expr) → Has (formulas_in t) f → IsFormedOver names f

-- the numbers of bits and of offsets are below 2^32, as those of a text are
abbrev pub is_small_end : EndText → Bool
is_small_end (to.At r) = nat_lt r (2 ^ 32)
is_small_end (to.AfterEnd d) = nat_lt d (2 ^ 32)

abbrev pub is_small_cover : CoverText → Bool
is_small_cover c = nat_lt c.from (2 ^ 32) && is_small_end c.to

pub record HasSmallNumbers (t : SetText) : Type 0 where
  pub names : IsTrue (list_all (λ d. nat_lt (low_of d.bits) (2 ^ 32)) t.declarations)
  pub covers : IsTrue (list_all (λ p. list_all is_small_cover p.covers) (properties_in t))

-- what a text has against it
abbrev pub Stands : SetText → Wrong → Type 0
Stands t (wrong.Unknown n) = StandsUnknown t n
Stands t (wrong.Twice n) = StandsTwice t n
Stands t (wrong.Limit quantity) = StandsLimit t quantity
Stands t wrong.Memory = Unit {0}
