use Rattle.std.proofs.Common.{◌≡◌, true, false, sym, ap, subst, ◌∙◌}
use Rattle.vlog_tree_runs.specs.Places.{Among}
use Rattle.vlog_tree_runs.specs.Contents.{is_among}
use Rattle.elab_flat_drivers.proofs.Naming.{among_of, here, passed, dropped}
use Rattle.elab_flat_names.proofs.Searches.{not_among}
use Rattle.elab_flat_names.proofs.search.absent.Goals as goal

pub returns-then-not-has : goal.returns-then-not-has
returns-then-not-has c =
    let lacks : is_among c.args.others.now c.name-item.result.now ≡ false = ap (is_among c.args.others.now) (sym c.bytes.ensures) ∙ (sym c.has.ensures ∙ c.if-not-has.true) in (
      dropped c.args.names.now c.loop-name.name-index c.name-item.result.now (here c.args.names.now c.loop-name.name-index c.name-item.result c.loop-name-test.true c.name-item.is),
      not_among c.args.others.now c.name-item.result.now lacks,
    )

pub loop-name-preserved : goal.loop-name-preserved
loop-name-preserved c =
    let has : is_among c.args.others.now c.name-item.result.now ≡ true = ap (is_among c.args.others.now) (sym c.bytes.ensures) ∙ (sym c.has.ensures ∙ c.if-not-has.false) in
    λ x h.
    passed c.args.names.now c.loop-name.name-index c.name-item.result c.loop-name-test.true c.name-item.is x (c.loop-name.invariant x h)
    (λ e. h.1 (subst (Among c.args.others.now) e (among_of c.args.others.now c.name-item.result.now has)))
