use Rattle.std.proofs.Common.{◌≡◌, ℕ, List, subst, arith}
use Rattle.std.proofs.lemmas.Result.{IfOk-weaker}
use Rattle.elab_step_design.specs.Designs.{source}
use Rattle.unroll_laws.specs.Segments.{cycle_number}
use Rattle.unroll_laws.proofs.Holding.{register_source}
use Rattle.unroll.specs.Copies.{IsWordAt}
use Rattle.unroll.proofs.Leaving.{register_begun, register_stepped, source_wide}
use Rattle.unroll.proofs.leaves.register_node.Goals as goal

pub returns-then-moment-gt0-clause-node : goal.returns-then-moment-gt0-clause-node
returns-then-moment-gt0-clause-node c =
    let b = c.args.bound.now in
    (register_stepped b.design c.requires.design b.set c.requires.fits c.args.moment.resets c.args.moment.position c.args.dag.now c.args.copies.now c.args.register.now c.requires.among (λ none. let past = c.if-moment-gt0.true in omega (arith, past, none)) c.requires.before).1

pub returns-then-moment-gt0-clause-word : goal.returns-then-moment-gt0-clause-word
returns-then-moment-gt0-clause-word c =
    let b = c.args.bound.now in
    (register_stepped b.design c.requires.design b.set c.requires.fits c.args.moment.resets c.args.moment.position c.args.dag.now c.args.copies.now c.args.register.now c.requires.among (λ none. let past = c.if-moment-gt0.true in omega (arith, past, none)) c.requires.before).2

pub free_node-requires-clause-some : goal.free_node-requires-clause-some
free_node-requires-clause-some c =
    let r = c.args.register.now in
    (source_wide c.args.bound.now.design c.requires.design (source r) (register_source c.args.bound.now.design r c.requires.among)).0

pub free_node-requires-clause-most : goal.free_node-requires-clause-most
free_node-requires-clause-most c =
    let r = c.args.register.now in
    (source_wide c.args.bound.now.design c.requires.design (source r) (register_source c.args.bound.now.design r c.requires.among)).1

pub returns-clause-word : goal.returns-clause-word
returns-clause-word c =
    IfOk-weaker c.free_node.result _ _ (λ i made.
    let b = c.args.bound.now in
    let r = c.args.register.now in
    let m = c.args.moment in
    let start : m.position ≡ 0 = let not = c.if-moment-gt0.false in omega (arith, not) in
    let free = subst (λ (x : List ℕ). IsWordAt c.free_node.new.dag i r.width (λ e. e x 0 (cycle_number m.resets m.position))) c.bytes.ensures made in
    register_begun b.design c.requires.design b.set m.resets m.position c.requires.fits c.free_node.new.dag i r c.requires.among start free) c.free_node.ensures.word
