use Rattle.std.proofs.Common.{ℕ, ◌∷◌, refl}
use Rattle.twin_tests_laws.specs.Names.{property_name}
use Rattle.replay.proofs.Putting.{done_in_loop, spaced_each, stopped_in_loop}
use Rattle.path_machine.proofs.texts.put_names.Goals as goal

pub returns-in_err-put_word : goal.returns-in_err-put_word
returns-in_err-put_word g c =
    stopped_in_loop c.from_residual.result (λ (q : ℕ). 32 ∷ property_name c.args.set.now q) c.args.next.now c.loop-at.at-index 0 _ (spaced_each (property_name c.args.set.now) c.args.next.now) c.loop-at-test.true refl c.from_residual.ensures.1 c.loop-at.invariant (rw c.property_name.ensures at c.in_err-put_word.ensures)

pub returns : goal.returns
returns g c = done_in_loop (λ (q : ℕ). 32 ∷ property_name c.args.set.now q) c.args.next.now c.loop-at.at-index (spaced_each (property_name c.args.set.now) c.args.next.now) c.loop-at-test.false c.loop-at.invariant
