use Rattle.std.proofs.Common.{List, ℕ, Bool, Bor, subst, arith}
use Rattle.std.specs.Prelude.{Option, option_map}
use Rattle.clause_check_texts.specs.Reading.{Comes}
use Rattle.clause_check_texts.proofs.ReadLemmas.{Reached, closed_read, closed_refutes, number_most, reached_more, reached_none}
use Rattle.clause_check_texts.proofs.read.read_lines.Goals as goal

pub loop-left-init : goal.loop-left-init
loop-left-init c = rw (c.new.ensures.items, c.new-2.ensures.items) (record { reached = reached_none c.args.cnf.now c.args.text.now; blank = c.requires.blank })

pub overflow_add-number : goal.overflow_add-number
overflow_add-number c =
    let cnf = c.args.cnf.now in
    let text = c.args.text.now in
    let ids = c.loop-left.past.ids.items in
    let steps = c.loop-left.past.steps.items in
    let r = subst (λ (o : Option (Bor (List ℕ))). Reached cnf text c.loop-left.number (option_map (λ (t : Bor (List ℕ)). t.now) o) ids steps) c.in-Some.is c.loop-left.invariant.reached in
    omega (arith, number_most cnf text c.loop-left.number ids steps c.in-Some.rest.now r, c.requires.short)

pub returns-in-Ok-true-clause-ok : goal.returns-in-Ok-true-clause-ok
returns-in-Ok-true-clause-ok c =
    let cnf = c.args.cnf.now in
    let text = c.args.text.now in
    let ids = c.loop-left.past.ids.items in
    let steps = c.loop-left.past.steps.items in
    let left = option_map (λ (t : Bor (List ℕ)). t.now) c.first_line-split.result.left in
    let r = subst (λ (o : Option (Bor (List ℕ))). Reached cnf text c.loop-left.number (option_map (λ (t : Bor (List ℕ)). t.now) o) ids steps) c.in-Some.is c.loop-left.invariant.reached in
    let comes = subst (λ (b : Bool). Comes cnf ids steps c.first_line-split.result.front.now b c.read_line.new.past.ids.items c.read_line.new.past.steps.items) c.in-Ok-true.field-0-test c.in-Ok-true.ensures.step in
    closed_refutes cnf text c.loop-left.number ids steps c.in-Some.rest.now r c.first_line-split.result.front.now left c.first_line-split.ensures.lines c.read_line.new.past.ids.items c.read_line.new.past.steps.items comes

pub returns-in-Ok-true-clause-read : goal.returns-in-Ok-true-clause-read
returns-in-Ok-true-clause-read c =
    let cnf = c.args.cnf.now in
    let text = c.args.text.now in
    let ids = c.loop-left.past.ids.items in
    let steps = c.loop-left.past.steps.items in
    let left = option_map (λ (t : Bor (List ℕ)). t.now) c.first_line-split.result.left in
    let r = subst (λ (o : Option (Bor (List ℕ))). Reached cnf text c.loop-left.number (option_map (λ (t : Bor (List ℕ)). t.now) o) ids steps) c.in-Some.is c.loop-left.invariant.reached in
    let comes = subst (λ (b : Bool). Comes cnf ids steps c.first_line-split.result.front.now b c.read_line.new.past.ids.items c.read_line.new.past.steps.items) c.in-Ok-true.field-0-test c.in-Ok-true.ensures.step in
    closed_read cnf text c.loop-left.number ids steps c.in-Some.rest.now r c.first_line-split.result.front.now left c.first_line-split.ensures.lines c.read_line.new.past.ids.items c.read_line.new.past.steps.items comes

pub loop-left-preserved : goal.loop-left-preserved
loop-left-preserved c =
    let cnf = c.args.cnf.now in
    let text = c.args.text.now in
    let ids = c.loop-left.past.ids.items in
    let steps = c.loop-left.past.steps.items in
    let left = option_map (λ (t : Bor (List ℕ)). t.now) c.first_line-split.result.left in
    let r = subst (λ (o : Option (Bor (List ℕ))). Reached cnf text c.loop-left.number (option_map (λ (t : Bor (List ℕ)). t.now) o) ids steps) c.in-Some.is c.loop-left.invariant.reached in
    let comes = subst (λ (b : Bool). Comes cnf ids steps c.first_line-split.result.front.now b c.read_line.new.past.ids.items c.read_line.new.past.steps.items) c.in-Ok-false.field-0-test c.in-Ok-false.ensures.step in
    record {
      reached = reached_more cnf text c.loop-left.number ids steps c.in-Some.rest.now r c.first_line-split.result.front.now left c.first_line-split.ensures.lines c.read_line.new.past.ids.items c.read_line.new.past.steps.items comes;
      blank = c.in-Ok-false.ensures.blank;
    }
