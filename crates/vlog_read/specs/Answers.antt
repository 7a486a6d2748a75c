-- What the readers of items and modules answer: what is read, or why there is none.
use Rattle.std.specs.Prelude.{Bool, ℕ, ◌<◌, ◌≤◌, ◌≡◌, ◌⊎◌, max, List, length, Result, Ok, Err, codes}
use Rattle.vlog_tree.specs.declared.token.Token.{Token}
use Rattle.vlog_tree.specs.declared.item.Item.{Item}
use Rattle.vlog_tree.specs.declared.item.PortKind.{PortKind}
use Rattle.vlog_tree.specs.Modules.{SpellsKind, SpellsItem, item_height, SpellsModule, module_height}
use Rattle.vlog_tree.specs.declared.module.Module.{Module}
use Rattle.vlog_tree.specs.Signs.{IsSign, IsWord}
use Rattle.vlog_tree.specs.Lists.{Sequence, Flag}
use Rattle.vlog_read_lex.specs.declared.error.ReadFault.{ReadFault}
use Rattle.vlog_read_expr.specs.Answers.{Refusal}
use Rattle.vlog_read_expr.specs.Names.{Lacks}
use Rattle.vlog_read.specs.declared.part.Found.{Found}

-- what P says is spelt at i, with its height; what Q says ends at the same place
pub record IsFound {A : Type 0} (ts : List Token) (h : A → ℕ) (P Q : ℕ → A → ℕ → Type 0) (i depth : ℕ) (p : Found A) : Type 0 where
  pub spelt : P i p.tree p.end
  pub only : (b : A) (k : ℕ) → Q i b k → k ≡ p.end
  pub height_is : p.height ≡ h p.tree
  pub low : p.height ≤ depth
  pub past : i ≤ p.end
  pub within : p.end ≤ max i (length ts)

-- what P spells is found, or there is none of Q: a reader may look only at what can follow in a whole text
abbrev pub Finds : {A : Type 0} → List Token → (A → ℕ) → (P Q : ℕ → A → ℕ → Type 0) → ℕ → ℕ → Result (Found A) ReadFault → Type 0
Finds ts h P Q i depth (Ok p) = IsFound ts h P Q i depth p
Finds ts h P Q i depth (Err fault) = Refusal h (Q i) ts i depth fault

-- what P spells, and then F
abbrev pub Before : {A : Type 0} → (ℕ → A → ℕ → Type 0) → (ℕ → Type 0) → ℕ → A → ℕ → Type 0
Before P F i x j = P i x j × F j

-- what ends a list
abbrev pub Closes : List Token → ℕ → Type 0
Closes ts j = IsSign ts j (codes ")") ⊎ IsSign ts j (codes ";")

-- what follows a part of a list
abbrev pub Follows : List Token → ℕ → Type 0
Follows ts j = IsSign ts j (codes ",") ⊎ (IsWord ts j (codes "or") ⊎ Closes ts j)

abbrev pub NoSign : List ℕ → List Token → ℕ → Type 0
NoSign sign ts j = IsSign ts j sign → ⊥

-- the word of an edge
abbrev pub IsEdge : List Token → ℕ → Type 0
IsEdge ts j = IsWord ts j (codes "posedge") ⊎ IsWord ts j (codes "negedge")

-- neither `signed` nor a range
pub record Plain (ts : List Token) (j : ℕ) : Type 0 where
  pub no_signed : IsWord ts j (codes "signed") → ⊥
  pub no_open : IsSign ts j (codes "[") → ⊥

-- neither `wire` nor `reg`
pub record NoNet (ts : List Token) (j : ℕ) : Type 0 where
  pub no_wire : IsWord ts j (codes "wire") → ⊥
  pub no_reg : IsWord ts j (codes "reg") → ⊥

-- the direction of a port, or none is there
abbrev pub FindsKind : List Token → ℕ → Result (Found PortKind) ReadFault → Type 0
FindsKind ts i (Ok p) = IsFound ts (λ _. 0) (SpellsKind ts) (Before (SpellsKind ts) (NoNet ts)) i 0 p
FindsKind ts i (Err fault) = Lacks (Before (SpellsKind ts) (NoNet ts) i) fault

-- an item to which no `else` after it belongs
abbrev pub ReadsItem : List Token → ℕ → Item → ℕ → Type 0
ReadsItem ts = Before (SpellsItem ts) (λ j. IsWord ts j (codes "else") → ⊥)

abbrev pub FindsItem : List Token → ℕ → ℕ → Result (Found Item) ReadFault → Type 0
FindsItem ts i depth (Ok p) = IsFound ts item_height (SpellsItem ts) (ReadsItem ts) i depth p × (i < p.end)
FindsItem ts i depth (Err fault) = Refusal item_height (ReadsItem ts i) ts i depth fault

-- none of the words stands there with which an item begins that is no instance
pub record NamesModule (ts : List Token) (i : ℕ) : Type 0 where
  pub no_input : IsWord ts i (codes "input") → ⊥
  pub no_output : IsWord ts i (codes "output") → ⊥
  pub no_wire : IsWord ts i (codes "wire") → ⊥
  pub no_reg : IsWord ts i (codes "reg") → ⊥
  pub no_parameter : IsWord ts i (codes "parameter") → ⊥
  pub no_localparam : IsWord ts i (codes "localparam") → ⊥
  pub no_assign : IsWord ts i (codes "assign") → ⊥
  pub no_always : IsWord ts i (codes "always") → ⊥

-- items, and then an `endmodule`
abbrev pub ReadsItems : List Token → ℕ → List Item → ℕ → Type 0
ReadsItems ts = Before (Sequence (SpellsItem ts)) (λ j. IsWord ts j (codes "endmodule"))

abbrev pub FindsModule : List Token → ℕ → Result (Found Module) ReadFault → Type 0
FindsModule ts i (Ok p) = IsFound ts module_height (SpellsModule ts) (SpellsModule ts) i 500 p × (i < p.end)
FindsModule ts i (Err fault) = Refusal module_height (SpellsModule ts i) ts i 500 fault

-- past a `wire` that may stand
pub record SkipsWire (ts : List Token) (i j : ℕ) : Type 0 where
  pub stands : Bool
  pub flag : Flag ts (codes "wire") i stands j
  pub only : (b : Bool) (k : ℕ) → Flag ts (codes "wire") i b k → NoNet ts k → k ≡ j
  pub past : i ≤ j
  pub within : j ≤ max i (length ts)
