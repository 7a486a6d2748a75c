-- The free words of an obligation, by name, side and cycle.
use Rattle.std.specs.Prelude.{◌≡◌, ℕ, ℤ, Bool, false, ◌&&◌, nat_eq, if◌then◌else◌, List, [], ◌∷◌, slice_index}
use Rattle.std.specs.Ordering.{int_eq}
use Rattle.std.specs.Str.{bytes_eq}
use Rattle.word_dag.specs.declared.node.Node.{Node}
use Rattle.word_dag.specs.declared.node.Node.TheVariants.{Free}
use Rattle.word_dag.specs.Adding.{HasDistinctFrees, IsAt, Keeps}
use Rattle.word_dag.specs.Nodes.{Naming, Parts, dag_values, left_after, root_value, word_at}
use Rattle.word_dag.specs.Order.{taken_out}

-- no two free words have one name, side and cycle
abbrev pub HasOneWordEach : List Node → Type 0
HasOneWordEach nodes =
    (x : List ℕ) (n m side i j : ℕ) (t : ℤ) → IsAt nodes i (Free x n side t) → IsAt nodes j (Free x m side t) → i ≡ j

-- free words of one name, side and cycle have one length
abbrev pub HasOneWidthEach : List Node → Type 0
HasOneWidthEach nodes =
    (x : List ℕ) (n m side i j : ℕ) (t : ℤ) → IsAt nodes i (Free x n side t) → IsAt nodes j (Free x m side t) → n ≡ m

-- a node is the free word of this name, side and cycle
abbrev pub is_word : Node → List ℕ → ℕ → ℤ → Bool
is_word (Free y n s c) x side t = bytes_eq y x && (nat_eq s side && int_eq c t)
is_word node x side t = false

-- the values that free nodes take in turn, by name, side and cycle; every other word is 0
abbrev pub naming_from : List Node → List ℕ → Naming
naming_from [] us x side t = 0
naming_from (n ∷ ns) us x side t = if is_word n x side t then slice_index us 0 else naming_from ns (left_after n us) x side t

-- at this naming each node has the word that it has at the values
abbrev pub ValuesHaveNamings : Type 0
ValuesHaveNamings =
    (nodes : List Node) (us : List ℕ) → HasOneWordEach nodes → (root : ℕ) → word_at (dag_values (naming_from nodes us) [] nodes) root ≡ root_value us nodes root

-- an obligation of a dag whose words have one length each has each word once
abbrev pub ObligationsHaveOneWordEach : Type 0
ObligationsHaveOneWordEach =
    (dag : List Node) (root : ℕ) (ob : Parts) → ob ≡ taken_out dag root → HasDistinctFrees ob.nodes → HasOneWidthEach dag → HasOneWordEach ob.nodes

-- no free word is added, so that words still have one length each
abbrev pub WidthsAreKept : Type 0
WidthsAreKept = (old new : List Node) → Keeps old new → HasOneWidthEach old → HasOneWidthEach new
