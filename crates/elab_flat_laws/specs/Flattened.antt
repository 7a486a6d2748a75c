-- The module without instances that scopes give, and what it keeps.
use Rattle.std.specs.Prelude.{◌≤◌, false, ◌≡◌, ◌↔◌, List, ◌++◌, Option, Some, None, map}
use Rattle.std.specs.List.{flat_map}
use Rattle.vlog_tree.specs.declared.item.Assign.{Assign}
use Rattle.vlog_tree.specs.declared.module.Module.{Module}
use Rattle.vlog_tree.specs.declared.stmt.Events.{Events}
use Rattle.vlog_tree.specs.declared.stmt.Events.TheVariants as v
use Rattle.vlog_tree.specs.Valuation.{entry_at}
use Rattle.vlog_tree_runs.specs.declared.flat.Always.{Always}
use Rattle.vlog_tree_runs.specs.declared.flat.Flat.{Flat}
use Rattle.vlog_tree_runs.specs.declared.flat.Signal.{Signal}
use Rattle.vlog_tree_runs.specs.Places.{Name, Cycle, Among, Place}
use Rattle.vlog_tree_runs.specs.Contents.{Block, blocks_in, is_clocked, Inner, instances_in, Decl, signals_in}
use Rattle.vlog_tree_runs.specs.Scopes.{Scope, IsScope, place_of, Link, links_of, child}
use Rattle.vlog_tree_runs.specs.Cycles.{IsInputFrom, IsCycleFrom, FollowsFrom, IsInput, IsCycle, Follows}
use Rattle.elab_flat_laws.specs.Moved.{moved, moved_left, moved_stmt, moved_signal}
use Rattle.elab_flat_laws.specs.Uses.{UsesDeclared, AssignsSignals, IsDeclared, known, AreConstants, has_dot}

abbrev pub moved_link : Link → Assign
moved_link k = record { left = moved_left k.into.prefix k.into.params k.left; right = moved k.from.prefix k.from.params k.right }

abbrev pub moved_names : Name → Events → Option (List Name)
moved_names pre v.All = None
moved_names pre (v.Edges xs) = None
moved_names pre (v.Names xs) = Some (map (λ x. pre ++ x) xs)

abbrev pub moved_block : Place → Block → Always
moved_block p b = record { clocked = is_clocked b.events; names = moved_names p.prefix b.events; body = moved_stmt p.prefix p.params b.body }

abbrev pub flat_signals : Scope → List Signal
flat_signals s = map (moved_signal s.prefix) (place_of s).signals

abbrev pub flat_assigns : List Module → Scope → List Assign
flat_assigns ms s = map moved_link (links_of ms s)

abbrev pub flat_blocks : Scope → List Always
flat_blocks s = map (moved_block (place_of s)) (blocks_in s.module')

-- the texts of the scopes one after another, and the inputs of the top
pub record IsFlatOf (ms : List Module) (top : Name) (ss : List Scope) (f : Flat) : Type 0 where
  pub signals : f.signals ≡ flat_map flat_signals ss
  pub assigns : f.assigns ≡ flat_map (flat_assigns ms) ss
  pub blocks : f.blocks ≡ flat_map flat_blocks ss
  pub inputs : (x : Name) → IsInput f x ↔ IsInputFrom ms top x

-- the scopes of a list of modules from its top, each of them and no other
pub record AreScopes (ms : List Module) (top : Name) (ss : List Scope) : Type 0 where
  pub each : (s : Scope) → IsScope ms top s → Among ss s
  pub only : (s : Scope) → Among ss s → IsScope ms top s
  pub inner : (s t : Scope) (i : Inner) → Among ss s → Among (instances_in s.module') i → child ms s i ≡ Some t → Among ss t

-- different scopes have different full names
abbrev pub AreApart : List Scope → Type 0
AreApart ss =
    (s t : Scope) → Among ss s → Among ss t → (x y : Name) → Among (known (place_of s).signals) x → Among (known (place_of t).signals) y →
    t.prefix ++ y ≡ s.prefix ++ x → t ≡ s

-- no name of an instance or a signal has a dot, as no identifier has
pub record HasSimpleNames (m : Module) : Type 0 where
  pub instances : (i : Inner) → Among (instances_in m) i → has_dot i.name ≡ false
  pub signals : (d : Decl) → Among (signals_in m) d → has_dot d.name ≡ false

abbrev pub HaveSimpleNames : List Module → Type 0
HaveSimpleNames ms = (m : Module) → Among ms m → HasSimpleNames m

-- a memory has at most 64 words
abbrev pub AreShallow : List Scope → Type 0
AreShallow ss = (s : Scope) (g : Signal) → Among ss s → Among (place_of s).signals g → g.depth ≤ 64

-- both sides of a link use declared names of their texts
pub record IsLinkDeclared (k : Link) : Type 0 where
  pub left : AssignsSignals k.into k.left
  pub right : UsesDeclared k.from k.right

-- the text of a scope uses declared names, and its parameters are numbers with names of their own
pub record IsUsable (ms : List Module) (s : Scope) : Type 0 where
  pub links : (k : Link) → Among (links_of ms s) k → IsLinkDeclared k
  pub blocks : (b : Block) → Among (blocks_in s.module') b → IsDeclared (place_of s) b.body
  pub constants : AreConstants s.params
  pub distinct : (x : Name) → Among (known (place_of s).signals) x → entry_at s.params x 0 ≡ None

pub record CanFlatten (ms : List Module) (ss : List Scope) : Type 0 where
  pub apart : AreApart ss
  pub usable : (s : Scope) → Among ss s → IsUsable ms s

-- the same functions are cycles, and the same cycles follow
pub record KeepsRuns (ms : List Module) (top : Name) (f : Flat) : Type 0 where
  pub cycle : (c : Cycle) → IsCycle f c ↔ IsCycleFrom ms top c
  pub follows : (c d : Cycle) → Follows f c d ↔ FollowsFrom ms top c d
