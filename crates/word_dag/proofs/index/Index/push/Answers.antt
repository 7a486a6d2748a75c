use Rattle.std.proofs.Common.{rules, ◌≡◌, ◌≢◌, ℕ, suc, ◌∷◌, ◌++◌, [], length, ap, ◌∙◌, arith, nat_eq, false}
use Rattle.std.specs.Option.{unwrap_or}
use Rattle.std.specs.HashMap.{get}
use Rattle.std.proofs.lemmas.Bool.Decides.{nat_tests}
use Rattle.word_dag.proofs.IndexKeys.{index_pushed}
use Rattle.word_dag.proofs.index.Index.push.Goals as goal

pub invariant_of-self-2 : goal.invariant_of-self-2
invariant_of-self-2 c =
    let key = c.args.key in
    let updates = c.in_ok-insert.ensures.updates in
    let newest = λ (k : ℕ). unwrap_or (get nat_eq c.self.inside.newest k) 0 in
    let newer = λ (k : ℕ). unwrap_or (get nat_eq c.insert.new.self k) 0 in
    let keys = c.in_ok-push-2.ensures.items ∙ ap (λ k. k ++ key ∷ []) c.in_ok-reserve.ensures.items in
    let before = c.in_ok-push.ensures.items ∙ ap (λ k. k ++ c.unwrap_or-last.result ∷ []) c.in_ok-reserve-2.ensures.items in
    let is : c.unwrap_or-last.result ≡ newest key = search rules in
    let long : c.len.result ≡ length c.self.inside.keys.items = omega (arith, c.len.ensures, c.reserve.new.self.ok, ap length c.in_ok-reserve.ensures.items) in
    let own : newer key ≡ suc (length c.self.inside.keys.items) = ap (λ o. unwrap_or o 0) updates.1 ∙ omega (arith, long) in
    let others : (q : ℕ) → q ≢ key → newer q ≡ newest q = λ q ne. ap (λ o. unwrap_or o 0) (updates.2 q (let t : nat_eq key q ≡ false = grind (arith, nat_tests) in t)) in
    index_pushed c.self.inside.keys.items c.self.inside.before.items c.push-2.new.self.items c.push.new.self.items newest newer key c.unwrap_or-last.result keys before is own others c.self.invariant
