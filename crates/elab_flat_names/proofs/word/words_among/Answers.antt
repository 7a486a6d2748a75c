use Rattle.std.proofs.Common.{map, subst, sym}
use Rattle.vlog_tree_runs.specs.Places.{Among}
use Rattle.vlog_tree_runs.specs.Scopes.{signal_of}
use Rattle.elab_flat_laws.proofs.Lists.{map_among, flat_among}
use Rattle.elab_flat_faults.specs.Declaring.{words_of}
use Rattle.elab_flat_scopes.specs.Borrowed.{decl_meant}
use Rattle.elab_flat_names.specs.Searching.{Finds}
use Rattle.elab_flat_names.proofs.Searches.{among_here, nothing_found}
use Rattle.elab_flat_names.proofs.Words.{past_words}
use Rattle.elab_flat_names.proofs.word.words_among.Goals as goal

pub declared_signal-requires : goal.declared_signal-requires
declared_signal-requires c =
    c.requires (decl_meant c.decl-item.result) (among_here decl_meant c.args.signals.now c.loop-decl.decl-index c.decl-item.result c.loop-decl-test.true c.decl-item.is)

pub returns-in-Some-clause-ok : goal.returns-in-Some-clause-ok
returns-in-Some-clause-ok c =
    let v = c.args.scope.now.params in
    let d = decl_meant c.decl-item.result in
    let g = c.in-Ok.signal in
    let name = c.in-Some.name in
    let found = subst (Finds (λ x. Among c.args.names.now x × Among (words_of g) x)) c.in-Some.is c.in_ok-name.ensures in
    let here = among_here decl_meant c.args.signals.now c.loop-decl.decl-index c.decl-item.result c.loop-decl-test.true c.decl-item.is in (
      found.0,
      flat_among words_of (map (signal_of v) (map decl_meant c.args.signals.now)) (signal_of v d) name (map_among (signal_of v) (map decl_meant c.args.signals.now) d here)
          (subst (λ z. Among (words_of z) name) c.in-Ok.ensures.ok found.1),
    )

pub loop-decl-preserved : goal.loop-decl-preserved
loop-decl-preserved c = λ x a among.
    let g = c.in-Ok.signal in
    let none = nothing_found (λ x. Among c.args.names.now x × Among (words_of g) x) c.in_ok-name.field-0 c.in_ok-name.ensures c.in_default.not-Some in
    past_words c.args.scope.now.params c.args.signals.now c.loop-decl.decl-index c.decl-item.result c.loop-decl-test.true c.decl-item.is x (c.loop-decl.invariant x a among)
    (λ h. none x (a, subst (λ z. Among (words_of z) x) (sym c.in-Ok.ensures.ok) h))
