use Rattle.std.proofs.Common.{◌≡◌, ◌∙◌, ◌+◌, ◌<◌, ◌++◌, ◌∷◌, [], List, ap, sym, subst, length, arith, ℕ}
use Rattle.clause_check.specs.declared.literal.Lit.{Lit}
use Rattle.cnf_build.specs.Building.{Makes}
use Rattle.cnf_build.specs.Lower.{node_made, free_vars}
use Rattle.cnf_build.proofs.LowerLoop.{LowerLoop, lower_step}
use Rattle.cnf_build.proofs.building.lower.Goals as goal

pub loop-i-preserved : goal.loop-i-preserved
loop-i-preserved c =
    let gates = c.loop-i.gates.items in
    let table = c.loop-i.table.items in
    let more = c.node_lits.new.gates.items in
    let nodes = c.args.nodes.now in
    let lt : c.loop-i.i < length nodes = omega arith in
    let made : Makes gates more c.in_ok-lits.lits.items (node_made (length gates) table c.index-nodes-i.result) = subst (λ (k : List (List Lit)). Makes gates more c.in_ok-lits.lits.items (node_made (length gates) k c.index-nodes-i.result)) c.deref.ensures.value c.in_ok-lits.ensures in
    let pushed : c.push.new.self.items ≡ table ++ c.in_ok-lits.lits.items ∷ [] = c.in_ok-push.ensures.items ∙ ap (λ k. table ++ k ∷ []) c.new.ensures in
    let start : c.len.result ≡ length gates = omega (arith, c.len.ensures, c.loop-i.gates.ok) in
    let bits : c.add_bits.new.bits.items ≡ c.loop-i.bits.items ++ free_vars (length gates) c.index-nodes-i.result = c.in_ok-add_bits.ensures ∙ ap (λ (k : ℕ). c.loop-i.bits.items ++ free_vars k c.index-nodes-i.result) start in
    subst (λ (k : List (List Lit)). LowerLoop more k c.add_bits.new.bits.items nodes (c.loop-i.i + 1)) (sym pushed) (lower_step gates more table c.loop-i.bits.items c.add_bits.new.bits.items nodes c.loop-i.i c.index-nodes-i.result c.in_ok-lits.lits.items lt c.index-nodes-i.is made bits c.loop-i.invariant)
