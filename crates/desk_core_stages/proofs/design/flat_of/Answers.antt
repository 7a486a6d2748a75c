use Rattle.desk_core_stage_laws.proofs.Asking.{can_spread, is_ready}
use Rattle.desk_core_stages.proofs.Designing.{plain_elaborates, plain_numbered, plain_of, whole_sized}
use Rattle.desk_core_stages.proofs.design.flat_of.Goals as goal

pub spread-requires-clause-can : goal.spread-requires-clause-can
spread-requires-clause-can c =
    can_spread c.in_ok-whole.whole (whole_sized c.args.modules.now c.args.top.now c.in_ok-whole.whole c.requires c.in_ok-whole.ensures.ok c.in_ok-whole.ensures.ports)

pub spread-requires-clause-ready : goal.spread-requires-clause-ready
spread-requires-clause-ready c =
    is_ready c.in_ok-whole.whole (whole_sized c.args.modules.now c.args.top.now c.in_ok-whole.whole c.requires c.in_ok-whole.ensures.ok c.in_ok-whole.ensures.ports)

pub returns-in-Ok-clause-ok : goal.returns-in-Ok-clause-ok
returns-in-Ok-clause-ok c =
    plain_of c.args.modules.now c.args.top.now c.in_ok-whole.whole c.in-Ok.flat c.in_ok-whole.ensures.ok c.in-Ok.ensures.spread c.in-Ok.ensures.none c.in_ok-whole.ensures.runs
    c.in_ok-whole.ensures.ports c.in_ok-whole.ensures.clocks c.in-Ok.ensures.runs c.in-Ok.ensures.words

pub returns-in-Ok-clause-numbers : goal.returns-in-Ok-clause-numbers
returns-in-Ok-clause-numbers c =
    plain_numbered c.args.modules.now c.args.top.now c.in_ok-whole.whole c.in-Ok.flat c.in_ok-whole.ensures.ok c.in-Ok.ensures.spread c.requires c.in_ok-whole.ensures.ports

pub returns-in-Ok-clause-can : goal.returns-in-Ok-clause-can
returns-in-Ok-clause-can c =
    plain_elaborates c.args.modules.now c.args.top.now c.in_ok-whole.whole c.in-Ok.flat c.in_ok-whole.ensures.ok c.in-Ok.ensures.spread c.requires c.in_ok-whole.ensures.ports
    c.in-Ok.ensures.none
