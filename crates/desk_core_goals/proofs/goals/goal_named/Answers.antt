use Rattle.std.proofs.Common.{◌<◌, ◌∙◌, List, length, sym, subst}
use Rattle.set_tree.specs.declared.line.Line.{Line}
use Rattle.desk_core_goals.specs.Asked.{has_name}
use Rattle.desk_core_goals.proofs.Finding.{asked_so, found, none_found, within}
use Rattle.desk_core_goals.proofs.goals.goal_named.Goals as goal

pub ob_of_line-requires : goal.ob_of_line-requires
ob_of_line-requires c =
    let b = c.args.bound.now in
    let first = asked_so _ b.set _ c.args.name.now _ c.in_ok-lines.lines.items _ (c.set-2.ensures.value ∙ c.set.ensures) c.bytes.ensures c.as_slice.ensures.value c.in_ok-number.ensures in
    subst (λ (ls : List Line). c.in-Some.number < length ls) c.in_ok-lines.ensures (within (has_name b.set c.args.name.now) c.in_ok-lines.lines.items c.in-Some.number (sym c.in-Some.is ∙ first))

pub returns-in-Some-clause-ok : goal.returns-in-Some-clause-ok
returns-in-Some-clause-ok c =
    let b = c.args.bound.now in
    let first = asked_so _ b.set _ c.args.name.now _ c.in_ok-lines.lines.items _ (c.set-2.ensures.value ∙ c.set.ensures) c.bytes.ensures c.as_slice.ensures.value c.in_ok-number.ensures in
    found b c.args.name.now c.in_ok-lines.lines.items c.in-Some.number c.index-line.result.now _ c.in_ok-lines.ensures (sym c.in-Some.is ∙ first) c.index-line.ensures c.in_ok-ob-in-Some.ensures

pub returns-clause-err : goal.returns-clause-err
returns-clause-err c =
    let b = c.args.bound.now in
    let first = asked_so _ b.set _ c.args.name.now _ c.in_ok-lines.lines.items _ (c.set-2.ensures.value ∙ c.set.ensures) c.bytes.ensures c.as_slice.ensures.value c.in_ok-number.ensures in
    none_found b.set c.args.name.now c.in_ok-lines.lines.items c.in_ok-lines.ensures (sym c.in-None.is ∙ first)
