use Rattle.std.proofs.Common.{rules, ◌≡◌, ◌∙◌, ap, length, [], arith}
use Rattle.cnf_build.specs.Lower.{lowered, netlist, ob_clauses, ob_bits}
use Rattle.cnf_build.proofs.LowerLoop.{length-lower}
use Rattle.cnf_build.proofs.BitLists.{cnf_in_range, built_in_range}
use Rattle.cnf_build.proofs.Carrying.{carries}
use Rattle.cnf_build.proofs.building.build.Goals as goal

pub operand-requires : goal.operand-requires
operand-requires c =
    let nodes = c.args.ob.now.nodes in
    let long : length c.deref-2.result.now ≡ length (lowered nodes).table = ap length c.deref-2.ensures.value ∙ ap length c.in_ok-gates.ensures.table ∙ ap (λ k. length (lowered k).table) c.nodes.ensures.nodes in
    omega (arith, c.root-number.ensures.root, c.nodes.ensures.ob.root_in, long, length-lower 1 [] nodes)

pub invariant_of-result : goal.invariant_of-result
invariant_of-result c =
    let nodes = c.args.ob.now.nodes in
    let ec : c.add_clause.new.clauses ≡ ob_clauses nodes c.args.ob.now.root = search rules in
    let ev : c.in_ok-vars.vars ≡ length (netlist nodes) = search rules in
    record { in_range = cnf_in_range nodes c.args.ob.now.root c.in_ok-vars.vars c.add_clause.new.clauses ec ev }

pub invariant_of-result-2 : goal.invariant_of-result-2
invariant_of-result-2 c =
    let nodes = c.args.ob.now.nodes in
    let eb : c.in_ok-gates.field-0.bits.items ≡ ob_bits nodes = search rules in
    let ev : c.in_ok-vars.vars ≡ length (netlist nodes) = search rules in
    record { in_range = built_in_range nodes c.in_ok-vars.vars c.in_ok-gates.field-0.bits.items c.nodes.ensures.ob.fit eb ev }

pub returns-clause-carries : goal.returns-clause-carries
returns-clause-carries c =
    let nodes = c.args.ob.now.nodes in
    let ec : c.add_clause.new.clauses ≡ ob_clauses nodes c.args.ob.now.root = search rules in
    let ev : c.in_ok-vars.vars ≡ length (netlist nodes) = search rules in
    let eb : c.in_ok-gates.field-0.bits.items ≡ ob_bits nodes = search rules in
    carries nodes c.args.ob.now.root _ c.in_ok-gates.field-0.bits.items c.nodes.ensures.ob ec ev eb
