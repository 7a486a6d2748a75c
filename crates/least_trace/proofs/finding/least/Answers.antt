use Rattle.std.proofs.Common.{◌≡◌, ◌+◌, ◌<◌, ◌≤◌, List, length, map, take, Option, Some, None, Vec, Global, ◌^◌, sym, ap, ◌∙◌, subst, arith, append-nil, take_all}
use Rattle.std.specs.List.{All}
use Rattle.std.proofs.lemmas.List.Elements.{All-nil}
use Rattle.clause_check.specs.declared.formula.Step.{Step}
use Rattle.word_dag.specs.Given.{free_count}
use Rattle.cnf_build.specs.Lower.{ob_clauses}
use Rattle.cnf_build.specs.Built.{Carries}
use Rattle.cnf_build.proofs.BitLists.{bits_in_range}
use Rattle.least_trace.specs.declared.bits.Bit.{Bit}
use Rattle.least_trace.specs.declared.ends.Excluded.{Excluded}
use Rattle.least_trace.specs.Bits.{InOrder}
use Rattle.least_trace.specs.Least.{NoneBefore, Excludes, number_of, ones_from}
use Rattle.least_trace.specs.Walks.{IsWalk, IsNext}
use Rattle.least_trace.proofs.Reading.{bits_many}
use Rattle.least_trace.proofs.Starting.{all_known, padded_witness}
use Rattle.least_trace.proofs.finding.least.Goals as goal

pub loop-number-init : goal.loop-number-init
loop-number-init c =
    let ob = c.args.ob.now in
    let built = c.in_ok-built.built in
    let bits = c.in_ok-bits.bits.items in
    let us = c.in_ok-values.values.items in
    let order = subst (λ ns. InOrder ns bits) c.nodes.ensures.nodes c.in_ok-bits.ensures in
    let many : c.len.result ≡ free_count ob.nodes = omega (arith, c.len.ensures, built.bits.ok, ap length c.in_ok-built.ensures.bits, bits_many ob.nodes) in
    record {
      carried = record {
        formula = built.cnf;
        vars = c.in_ok-built.ensures.vars;
        clauses = c.in_ok-built.ensures.clauses;
        in_range = bits_in_range ob.nodes c.nodes.ensures.ob.fit;
        carries = subst (λ fs. Carries ob.nodes ob.root built.cnf fs) c.in_ok-built.ensures.bits c.in_ok-built.ensures.carries;
      };
      known = all_known ob.nodes bits order;
      vars_are = c.in_ok-built.ensures.bits;
      fixed = record {
        vars = c.in_ok-built.ensures.vars;
        clauses = c.in_ok-built.ensures.clauses ∙ sym (append-nil (ob_clauses ob.nodes ob.root));
        witness = padded_witness ob c.args.values.now us c.len.result c.requires.fit c.requires.root many c.in_ok-values.ensures;
        none_before = λ vs theirs h. h;
        entries = ap (map number_of) c.new.ensures.items;
        before = subst (λ es. All (λ (e : Excluded). e.bit < 0) es) (sym c.new.ensures.items) (All-nil (λ (e : Excluded). e.bit < 0));
        each = subst (λ es. All (Excludes ob bits us) es) (sym c.new.ensures.items) (All-nil (Excludes ob bits us));
      };
    }

pub loop-number-preserved : goal.loop-number-preserved
loop-number-preserved c =
    let ob = c.args.ob.now in
    let i = c.loop-number.number in
    let e = c.deref.ensures.value in
    let walk = subst (λ (bs : List Bit). IsWalk ob bs i c.loop-number.walk) (sym e) c.loop-number.invariant in
    let decided = c.in_ok-chain.ensures.next ob walk in
    let d = subst (λ (o : Option (Vec Step Global)). IsNext c.args.budget ob c.deref.result.now i c.decide.new.self o) c.in_default.is decided in
    subst (λ (bs : List Bit). IsWalk ob bs (i + 1) c.decide.new.self) e d

pub returns-in-Some-clause-end : goal.returns-in-Some-clause-end
returns-in-Some-clause-end c =
    let ob = c.args.ob.now in
    let i = c.loop-number.number in
    let bits = c.in_ok-bits.bits.items in
    let e = c.deref.ensures.value in
    let walk = subst (λ (bs : List Bit). IsWalk ob bs i c.loop-number.walk) (sym e) c.loop-number.invariant in
    let decided = subst (λ (bs : List Bit). IsNext c.args.budget ob bs i c.decide.new.self c.in_ok-chain.field-0) e (c.in_ok-chain.ensures.next ob walk) in
    let d = subst (λ (o : Option (Vec Step Global)). IsNext c.args.budget ob bits i c.decide.new.self o) c.in-Some.is decided in
    record {
      bits = bits;
      order = subst (λ ns. InOrder ns bits) c.nodes.ensures.nodes c.in_ok-bits.ensures;
      witness = d.witness;
      one = d.one;
      none_before = d.none_before;
      spent = d.spent;
    }

pub returns-clause-end : goal.returns-clause-end
returns-clause-end c =
    let ob = c.args.ob.now in
    let bits = c.in_ok-bits.bits.items in
    let i = c.loop-number.number in
    let us = c.loop-number.walk.values.items in
    let f = c.loop-number.invariant.fixed in
    let long : length bits ≤ i = omega (arith, c.len-number-end.ensures, c.in_ok-bits.bits.ok, c.loop-number-test.false) in
    let all : take i bits ≡ bits = take_all i bits long in
    record {
      bits = bits;
      order = subst (λ ns. InOrder ns bits) c.nodes.ensures.nodes c.in_ok-bits.ensures;
      witness = f.witness;
      least = subst (λ bs. NoneBefore ob bs us) all f.none_before;
      entries = f.entries ∙ ap (ones_from 0 us) all;
      each = f.each;
    }

pub returns-in-Some-clause-ample : goal.returns-in-Some-clause-ample
returns-in-Some-clause-ample c = λ ample.
    let enough = subst (λ v. 3 ^ v ≤ c.args.budget) (sym c.loop-number.invariant.fixed.vars) ample in
    let none = c.in_ok-chain.ensures.ample enough in
    let some : Some c.in-Some.chain ≡ None = sym c.in-Some.is ∙ none in
    cc
