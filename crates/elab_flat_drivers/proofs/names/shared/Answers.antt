use Rattle.std.proofs.Common.{◌≡◌, true, sym, ap, ◌∙◌}
use Rattle.vlog_tree_runs.specs.Contents.{is_among}
use Rattle.elab_flat_drivers.proofs.Naming.{among_of, of_among, here, passed, dropped}
use Rattle.elab_flat_drivers.proofs.names.shared.Goals as goal

pub returns-then-has-clause-some : goal.returns-then-has-clause-some
returns-then-has-clause-some c =
    let same : is_among c.args.others.now c.name-item.result.now ≡ true = ap (is_among c.args.others.now) (sym c.bytes.ensures) ∙ (sym c.has.ensures ∙ c.if-has.true) in (
      dropped c.args.names.now c.loop-name.name-index c.name-item.result.now (here c.args.names.now c.loop-name.name-index c.name-item.result c.loop-name-test.true c.name-item.is),
      among_of c.args.others.now c.name-item.result.now same,
    )

pub loop-name-preserved : goal.loop-name-preserved
loop-name-preserved c = λ x h g.
    passed c.args.names.now c.loop-name.name-index c.name-item.result c.loop-name-test.true c.name-item.is x (c.loop-name.invariant x h g)
    (λ e. let z = sym (of_among c.args.others.now x g) ∙ (ap (is_among c.args.others.now) (sym e ∙ sym c.bytes.ensures) ∙ (sym c.has.ensures ∙ c.if-has.false)) in cc)
