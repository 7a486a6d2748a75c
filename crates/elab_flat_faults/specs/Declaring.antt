-- What may be declared, used and connected in a module (IEEE 1364-2005, sections 4.2, 4.10, 12.2 and 12.3).
use Rattle.std.specs.Prelude.{◌≡◌, ◌⊎◌, ◌<◌, Bool, true, false, ◌&&◌, ◌||◌, not, List, [], ◌∷◌, ◌++◌, length, Option, Some, None, map, filter}
use Rattle.std.specs.List.{flat_map}
use Rattle.std.specs.Str.{bytes_eq}
use Rattle.vlog_tree.specs.declared.expr.Expr.{Expr, Row_of-Expr, end_of-Expr, more_of-Expr}
use Rattle.vlog_tree.specs.declared.expr.Expr.TheVariants as e
use Rattle.vlog_tree.specs.declared.item.Args.{Args}
use Rattle.vlog_tree.specs.declared.item.Args.TheVariants as g
use Rattle.vlog_tree.specs.declared.module.Module.{Module}
use Rattle.vlog_tree.specs.declared.valuation.Entry.{Entry}
use Rattle.vlog_tree_runs.specs.declared.flat.Signal.{Signal}
use Rattle.vlog_tree_runs.specs.Places.{Name, Among, Place, words_from}
use Rattle.vlog_tree_runs.specs.Contents.{params_in, is_open, Decl, ports_decls, item_decls, decls_in, signals_in, port_names, instances_in}
use Rattle.vlog_tree_runs.specs.Scopes.{width_in, lowest_in, Scope, place_of}
use Rattle.elab_flat_laws.specs.Uses.{has_signal}

-- x stands twice in a list
abbrev pub Repeats : List Name → Name → Type 0
Repeats [] x = ⊥
Repeats (y ∷ ys) x = ((y ≡ x) × Among ys x) ⊎ Repeats ys x

-- ---- declarations

abbrev pub is_port : Decl → Bool
is_port d = d.input || d.output

abbrev pub decls_of : Module → Name → List Decl
decls_of m x = filter (λ d. bytes_eq d.name x) (decls_in m)

-- two declarations have one sign, length and lowest bit
pub record SameShape (v : List Entry) (d e : Decl) : Type 0 where
  pub sign : d.shape.signed ≡ e.shape.signed
  pub width : width_in d.shape.range 1 v ≡ width_in e.shape.range 1 v
  pub low : lowest_in d.shape.range v ≡ lowest_in e.shape.range v

-- a port that is declared in the body, and once more there as `wire` or `reg` of the same shape
pub record IsDeclaredAgain (m : Module) (v : List Entry) (x : Name) : Type 0 where
  pub first : Decl
  pub second : Decl
  pub both : decls_of m x ≡ first ∷ second ∷ []
  pub in_body : Among (map (λ d. d.name) (ports_decls m.ports)) x → ⊥
  pub one_port : (is_port first && is_port second) || not (is_port first || is_port second) ≡ false
  pub no_words : (first.words ≡ None) × (second.words ≡ None)
  pub same : SameShape v first second

-- all names that a module declares, a port's second declaration apart
abbrev pub declared_names : Module → List Name
declared_names m = map (λ p. p.name) (params_in m) ++ map (λ i. i.name) (instances_in m) ++ map (λ d. d.name) (signals_in m)

-- the words of the memories of a scope
abbrev pub words_of : Signal → List Name
words_of s = map (λ w. w.name) (words_from s 0 s.depth)

-- a name is declared twice in the module of a scope: a header names it twice, two things have it, a signal is declared again, or a parameter has the
-- name of a memory's word
abbrev pub IsDeclaredTwice : Scope → Name → Type 0
IsDeclaredTwice s x =
    Repeats (port_names s.module') x
    ⊎ (Repeats (declared_names s.module') x
    ⊎ ((Repeats (map (λ d. d.name) (decls_in s.module')) x × (IsDeclaredAgain s.module' s.params x → ⊥))
    ⊎ (Among (map (λ p. p.name) (params_in s.module')) x × Among (flat_map words_of (place_of s).signals) x)))

-- ---- ports

-- a name of the header that no declaration gives a direction
abbrev pub LacksDirection : Module → Name → Type 0
LacksDirection m x = Among (port_names m) x × ((d : Decl) → Among (decls_in m) d → d.name ≡ x → is_port d ≡ true → ⊥)

-- a port of the body that the header doesn't list
abbrev pub IsUnlisted : Module → Name → Type 0
IsUnlisted m x = (d : Decl) × Among (flat_map item_decls m.items) d × (is_port d ≡ true) × (d.name ≡ x) × (Among (port_names m) x → ⊥)

-- connections by position that are more or fewer than the ports
abbrev pub MissesPorts : List Name → Option Args → Type 0
MissesPorts ports None = ⊥
MissesPorts ports (Some (g.Named ns)) = ⊥
MissesPorts ports (Some (g.Exprs as')) = length as' ≡ length ports → ⊥

-- an expression that can be assigned: a signal, a select of one, or a concatenation of such
abbrev mutual
  pub IsAssignable : Place → Expr → Type 0
  IsAssignable p (e.Name x) = has_signal p.signals x.text ≡ true
  IsAssignable p (e.Select' x h a) = has_signal p.signals x.text ≡ true
  IsAssignable p (e.Part' x span h a g b) = has_signal p.signals x.text ≡ true
  IsAssignable p (e.Concat' h row) = AreAssignable p row
  IsAssignable p a = ⊥

  pub AreAssignable : {m : _} → Place → Row_of-Expr m → Type 0
  AreAssignable p end_of-Expr = Unit {0}
  AreAssignable p (more_of-Expr a rest) = IsAssignable p a × AreAssignable p rest

-- ---- overrides

abbrev pub open_params : Module → List Name
open_params m = map (λ p. p.name) (filter (is_open m) (params_in m))

-- more overrides by position than parameters that can be overridden
abbrev pub Overshoots : List Name → Option Args → Type 0
Overshoots names None = ⊥
Overshoots names (Some (g.Named ns)) = ⊥
Overshoots names (Some (g.Exprs as')) = length names < length as'
