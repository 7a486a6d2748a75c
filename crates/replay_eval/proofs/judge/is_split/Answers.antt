use Rattle.std.proofs.Common.{◌≡◌, ◌∙◌, ℕ, drop, length, ap, arith}
use Rattle.set_tree.specs.declared.set.Property.{Property}
use Rattle.set_tree.specs.Parts.{property_at, window_of}
use Rattle.twin_tests.proofs.Readings.{split_window, split_follow}
use Rattle.replay_eval.proofs.Properties.{follow_listed}
use Rattle.replay_eval.proofs.judge.is_split.Goals as goal

pub opens-requires-clause-window : goal.opens-requires-clause-window
opens-requires-clause-window c = let le = split_window c.args.set.now c.args.at c.args.n in omega (arith, le, c.requires.size)

pub end_of-requires-clause-window : goal.end_of-requires-clause-window
end_of-requires-clause-window c = let le = split_window c.args.set.now c.args.at c.args.n in omega (arith, le, c.requires.size)

pub any_assumed-requires-clause-follow : goal.any_assumed-requires-clause-follow
any_assumed-requires-clause-follow c =
    follow_listed c.args.set.now c.property_at-property.result.now c.args.at (length c.rows_from-later.result.now) c.as_slice.result.now c.property_at-property.ensures.same c.as_slice.ensures
    (split_follow c.args.set.now c.args.at c.args.n c.args.rows.now c.rows_from-later.result.now c.property_at-property.ensures.structure c.requires.position (c.rows_from-later.ensures ∙ ap (λ (k : ℕ). drop k c.args.rows.now) c.from.ensures) (omega (arith, c.requires.size)))

pub rows_from-later-requires : goal.rows_from-later-requires
rows_from-later-requires c =
    let le = split_window c.args.set.now c.args.at c.args.n in
    let high : c.property_at-property.result.now.length.high ≡ (property_at c.args.set.now c.args.at).length.high = ap (λ (p : Property). p.length.high) c.property_at-property.ensures.same in
    let window : c.property_at-property.result.now.window ≡ window_of c.args.set.now c.args.at = ap (λ (p : Property). p.window) c.property_at-property.ensures.same in
    omega (arith, le, high, window, c.property_at-property.ensures.length.fits, c.requires.size, c.requires.end, c.from.ensures)
