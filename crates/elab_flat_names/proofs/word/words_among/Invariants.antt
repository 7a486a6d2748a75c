use Rattle.std.proofs.Common.{map, drop}
use Rattle.std.specs.List.{flat_map}
use Rattle.vlog_tree_runs.specs.Places.{Name, Among}
use Rattle.vlog_tree_runs.specs.Scopes.{signal_of}
use Rattle.elab_flat_faults.specs.Declaring.{words_of}
use Rattle.elab_flat_scopes.specs.Borrowed.{decl_meant}
use Rattle.elab_flat_names.proofs.word.words_among.Given as goal

abbrev pub invariant-loop-decl : goal.invariant-loop-decl
invariant-loop-decl l =
    (x : Name) → Among l.names x → Among (flat_map words_of (map (signal_of l.scope.params) (map decl_meant l.signals))) x →
    Among (flat_map words_of (map (signal_of l.scope.params) (map decl_meant (drop l.decl-index l.signals)))) x
