use Rattle.std.proofs.Common.{◌≡◌, sym, ap, ◌∙◌, subst}
use Rattle.std.proofs.lemmas.Result.{IfOk-weaker}
use Rattle.std.specs.List.{flat_map}
use Rattle.vlog_tree_runs.specs.Places.{Among}
use Rattle.elab_flat_faults.specs.Declaring.{words_of}
use Rattle.elab_flat_drivers.proofs.Kinding.{some_then, none_then}
use Rattle.mem_faults.proofs.Repeating.{twice_by, by_twice}
use Rattle.mem_faults.proofs.twice.declared_twice.Goals as goal

pub returns-clause-some : goal.returns-clause-some
returns-clause-some c =
    IfOk-weaker c.word_among.result _ _
    (λ o h. some_then o _ _ h
    (λ x k. (
      subst (λ z. Among (flat_map words_of z) x) c.as_slice.ensures k.0,
      twice_by c.args.flat.now x _ _ (c.entries.ensures.same ∙ c.in_ok-rest.ensures) c.in_ok-repeated.ensures k.1,
    ))) c.word_among.ensures.some

pub returns-clause-none : goal.returns-clause-none
returns-clause-none c =
    IfOk-weaker c.word_among.result _ _
    (λ o h. none_then o _ _ h
    (λ k x d. k x (subst (λ z. Among (flat_map words_of z) x) (sym c.as_slice.ensures) d.0) (by_twice c.args.flat.now x _ _ (c.entries.ensures.same ∙ c.in_ok-rest.ensures) c.in_ok-repeated.ensures d.1))) c.word_among.ensures.none
