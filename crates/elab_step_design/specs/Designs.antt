-- What a block is as functions of words: its cycles, and which cycles follow.
use Rattle.std.specs.Prelude.{ℕ, ℤ, pos, ◌≡◌, ◌≢◌, ◌^◌, ◌%◌, ◌<◌, ◌↔◌, ◌++◌, List, [], length, map, slice_index, Option}
use Rattle.std.specs.List.{AllPairs}
use Rattle.word_core.specs.Words.{Bits}
use Rattle.word_dag.specs.declared.node.Node.{Node}
use Rattle.word_dag.specs.declared.node.Node.TheVariants.{Free}
use Rattle.word_dag.specs.Adding.{IsAt}
use Rattle.word_dag.specs.Nodes.{FitFrom, Naming, dag_values, width_of, word_at}
use Rattle.vlog_tree_runs.specs.declared.flat.Async.{Async}
use Rattle.vlog_tree_runs.specs.declared.flat.Flat.{Flat}
use Rattle.vlog_tree_runs.specs.Places.{Name, Cycle, Among}
use Rattle.vlog_tree_runs.specs.Cycles.{IsCycle, Follows}
use Rattle.elab_step_design.specs.declared.design.Net.{Net}
use Rattle.elab_step_design.specs.declared.design.Register.{Register}

-- the parts of a design
pub record Parts : Type 0 where
  pub nodes : List Node
  pub registers : List Register
  pub inputs : List Net
  pub nets : List Net
  pub outputs : List Name
  pub clock : Option Name
  pub asyncs : List Async

-- node i is one of n bits
abbrev pub IsNode : List Node → ℕ → ℕ → Type 0
IsNode ns i n = (i < length ns) × (slice_index (map width_of ns) i ≡ n)

-- the free word of a name
abbrev pub free : Name → ℕ → Node
free x n = Free x n 0 (pos 0)

-- the registers and the inputs: what a cycle's values follow from
abbrev pub source : Register → Net
source r = record { name = r.name; width = r.width; node = r.node }

abbrev pub sources : Parts → List Net
sources d = map source d.registers ++ d.inputs

-- what is true of every design
pub record IsDesign (d : Parts) : Type 0 where
  pub fit : FitFrom [] d.nodes
  -- registers and inputs are free words, one each, and no other word is free
  pub free_words : (s : Net) → Among (sources d) s → IsAt d.nodes s.node (free s.name s.width)
  pub no_other : (x : Name) (n side i : ℕ) (t : ℤ) → IsAt d.nodes i (Free x n side t) → (s : Net) × Among (sources d) s × (s.name ≡ x) × (s.node ≡ i)
  pub next : (r : Register) → Among d.registers r → IsNode d.nodes r.next r.width
  pub net : (n : Net) → Among d.nets n → IsNode d.nodes n.node n.width
  -- no two of them have one name, and no two signals
  pub distinct_sources : AllPairs (λ x y. x ≢ y) (map (λ s. s.name) (sources d))
  pub distinct_nets : AllPairs (λ x y. x ≢ y) (map (λ n. n.name) d.nets)
  -- registers and inputs are signals too
  pub among : (s : Net) → Among (sources d) s → Among d.nets s

-- values by name, as those of free words
abbrev pub naming_of : Cycle → Naming
naming_of c x side t = c x

-- the word of a node in a cycle
abbrev pub word_in : Parts → Cycle → ℕ → Bits
word_in d c i = word_at (dag_values (naming_of c) [] d.nodes) i

-- in a cycle each signal has the value of its node
abbrev pub IsCycleOf : Parts → Cycle → Type 0
IsCycleOf d c = (n : Net) → Among d.nets n → word_in d c n.node ≡ record { width = n.width; value = c n.name }

-- in the next cycle each register has the value of its next node
abbrev pub FollowsIn : Parts → Cycle → Cycle → Type 0
FollowsIn d c e = (r : Register) → Among d.registers r → word_in d c r.next ≡ record { width = r.width; value = e r.name }

-- the design has the cycles of a module without instances, and the same cycles follow
pub record HasRunsOf (f : Flat) (d : Parts) : Type 0 where
  pub cycle : (c : Cycle) → IsCycle f c ↔ IsCycleOf d c
  pub follows : (c e : Cycle) → IsCycle f c → IsCycle f e → Follows f c e ↔ FollowsIn d c e

-- a cycle has these values of the registers and inputs, each cut to its length
abbrev pub BeginsAs : Parts → Cycle → Cycle → Type 0
BeginsAs d start c = (s : Net) → Among (sources d) s → c s.name ≡ start s.name % 2 ^ s.width

-- two cycles have the same values of all signals
abbrev pub AgreeOn : Parts → Cycle → Cycle → Type 0
AgreeOn d c e = (n : Net) → Among d.nets n → c n.name ≡ e n.name

-- for all values of the registers and inputs there is exactly one cycle
pub record HasOneCycle (d : Parts) : Type 0 where
  pub some : (start : Cycle) → (c : Cycle) × IsCycleOf d c × BeginsAs d start c
  pub only : (start c e : Cycle) → IsCycleOf d c → IsCycleOf d e → BeginsAs d start c → BeginsAs d start e → AgreeOn d c e
