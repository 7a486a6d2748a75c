-- Values of free words, found by name, side and cycle.
use Rattle.std.specs.Prelude.{◌≡◌, Bool, ◌&&◌, nat_eq, unwrap_or}
use Rattle.std.specs.HashMap.{get}
use Rattle.std.specs.Ordering.{int_eq}
use Rattle.std.specs.Str.{bytes_eq}
use Rattle.word_dag.specs.Nodes.{Naming}
use Rattle.replay.specs.declared.values.Word.{Word}
use Rattle.replay.specs.declared.values.Values.{Values}

-- two words have one name, side and cycle
abbrev pub same_word : Word → Word → Bool
same_word a b = bytes_eq a.name.now b.name.now && (nat_eq a.side b.side && int_eq a.cycle b.cycle)

-- what is found of each word is its value in the naming
abbrev pub AreOf : Naming → Values → Type 0
AreOf e values = (q : Word) → unwrap_or (get same_word values.words q) 0 ≡ e q.name.now q.side q.cycle
