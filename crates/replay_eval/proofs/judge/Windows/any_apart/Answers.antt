use Rattle.std.proofs.Common.{◌≡◌, ◌∙◌, ℕ, true, false, sym, arith, drop}
use Rattle.std.specs.Prelude.{not}
use Rattle.set_tree.specs.Formulas.{meaning_of}
use Rattle.twin_tests_laws.specs.Tests.{determined}
use Rattle.replay_eval.proofs.Properties.{any_here, any_later, apart_is}
use Rattle.replay_eval.proofs.judge.Windows.any_apart.Goals as goal

pub returns-then-not-determined : goal.returns-then-not-determined
returns-then-not-determined c =
    let said : c.in_ok-determined.determined ≡ false = cc in
    let apart = apart_is (meaning_of c.args.self.now.set.now) c.args.self.now.set.now c.args.output c.loop-at.at c.args.self.now.one.now c.args.self.now.other.now c.rows_from-first.result.now c.rows_from-second.result.now _ false c.rows_from-first.ensures c.rows_from-second.ensures c.in_ok-determined.ensures said in
    sym (any_here c.loop-at.at c.args.to (λ (t : ℕ). not (determined (meaning_of c.args.self.now.set.now) c.args.self.now.set.now c.args.output (drop t c.args.self.now.one.now) (drop t c.args.self.now.other.now))) (omega arith) apart) ∙ c.loop-at.invariant

pub loop-at-preserved : goal.loop-at-preserved
loop-at-preserved c =
    let said : c.in_ok-determined.determined ≡ true = cc in
    let apart = apart_is (meaning_of c.args.self.now.set.now) c.args.self.now.set.now c.args.output c.loop-at.at c.args.self.now.one.now c.args.self.now.other.now c.rows_from-first.result.now c.rows_from-second.result.now _ true c.rows_from-first.ensures c.rows_from-second.ensures c.in_ok-determined.ensures said in
    sym (any_later c.loop-at.at c.args.to (λ (t : ℕ). not (determined (meaning_of c.args.self.now.set.now) c.args.self.now.set.now c.args.output (drop t c.args.self.now.one.now) (drop t c.args.self.now.other.now))) (omega arith) apart) ∙ c.loop-at.invariant
