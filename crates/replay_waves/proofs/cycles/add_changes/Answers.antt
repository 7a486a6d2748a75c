use Rattle.std.proofs.Common.{◌≡◌, ℕ, ◌+◌, [], ◌++◌, Vec, Global, sym, ap, ◌∙◌}
use Rattle.std.specs.Prelude.{if◌then◌else◌}
use Rattle.replay_waves.specs.declared.wave.Signal.{Signal}
use Rattle.replay_waves.specs.Parts.{value_text}
use Rattle.replay_waves.specs.Waves.{is_new, value_at}
use Rattle.replay_waves.proofs.Numbering.{one_more, where_false, where_true}
use Rattle.replay_waves.proofs.cycles.add_changes.Goals as goal
use Rattle.replay_waves.proofs.cycles.add_changes.Goals.{then-is_new+in_ok-add_value, else-is_new}

pub loop-k-preserved : goal.loop-k-preserved
loop-k-preserved c =
    let rows = c.args.window.now.rows.now in
    let text = value_text c.index-signals-k.result.width (c.args.window.now.number + 2 + c.loop-k.k) (value_at rows c.args.i c.loop-k.k) in
    let b = is_new rows c.args.i c.loop-k.k in
    let step : c.if-is_new.out.items ≡ c.loop-k.out.items ++ (if b then text else []) = elim c.if-is_new.branch [
      | then-is_new+in_ok-add_value w ↦ where_true b text c.loop-k.out.items c.if-is_new.out.items (sym c.is_new.ensures ∙ w.if-is_new.true)
          (ap (λ (v : Vec ℕ Global). v.items) w.out-is ∙ (w.in_ok-add_value.ensures ∙ ap (λ (v : ℕ). c.loop-k.out.items ++ value_text c.index-signals-k.result.width (c.args.window.now.number + 2 + c.loop-k.k) v) w.value_at-value.ensures))
      | else-is_new w ↦ where_false b text c.loop-k.out.items c.if-is_new.out.items (sym c.is_new.ensures ∙ w.if-is_new.false) (ap (λ (v : Vec ℕ Global). v.items) w.out-is)
    ] in
    one_more (λ (p : ℕ × Signal). if is_new rows c.args.i p.0 then value_text p.1.width (c.args.window.now.number + 2 + p.0) (value_at rows c.args.i p.0) else []) c.args.signals.now c.loop-k.k c.index-signals-k.result c.args.out.now.items c.loop-k.out.items c.if-is_new.out.items c.loop-k-test.true c.index-signals-k.is c.loop-k.invariant step
