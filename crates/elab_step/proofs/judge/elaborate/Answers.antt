use Rattle.elab_flat_drivers.proofs.Kinding.{none_is}
use Rattle.elab_step.proofs.Judging.{faultless, fault_free}
use Rattle.elab_step.proofs.judge.elaborate.Goals as goal

pub returns-clause-runs : goal.returns-clause-runs
returns-clause-runs c =
    let clean = none_is c.in_ok-fault.field-0 _ c.in_default.not-Some c.in_ok-fault.ensures.clean in
    c.in_ok-design.ensures.runs (faultless c.args.flat.now clean c.in_ok-design.ensures.acyclic)

pub returns-clause-clean : goal.returns-clause-clean
returns-clause-clean c =
    let clean = none_is c.in_ok-fault.field-0 _ c.in_default.not-Some c.in_ok-fault.ensures.clean in
    let apart = none_is c.in_ok-fault.field-0 _ c.in_default.not-Some c.in_ok-fault.ensures.apart in
    fault_free c.args.flat.now (faultless c.args.flat.now clean c.in_ok-design.ensures.acyclic) apart
