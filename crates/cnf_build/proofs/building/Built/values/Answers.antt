use Rattle.std.proofs.Common.{rules, ◌≡◌, ◌∙◌, ◌<◌, ◌++◌, ◌∷◌, [], get_or, length, sym, ap}
use Rattle.cnf_build.specs.Meaning.{read_word}
use Rattle.cnf_build.specs.Built.{at}
use Rattle.cnf_build.proofs.Carrying.{reads_step}
use Rattle.cnf_build.proofs.building.Built.values.Goals as goal

pub loop-vars-preserved : goal.loop-vars-preserved
loop-vars-preserved c =
    let s = at c.args.assignment.now in
    let bits = c.args.self.now.bits.items in
    let i = c.loop-vars.vars-index in
    let lt : i < length bits = search rules in
    let item : c.vars-item.result ≡ get_or bits i c.vars-item.result = search rules in
    let word = c.read.ensures.value ∙ ap (read_word s) c.list.ensures in
    c.in_ok-push.ensures.items ∙ ap (λ k. c.loop-vars.values.items ++ k ∷ []) word ∙ ap (λ k. k ++ read_word s c.vars-item.result ∷ []) c.loop-vars.invariant ∙ sym (reads_step s bits i c.vars-item.result c.vars-item.result lt item)
