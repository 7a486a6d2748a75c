use Rattle.std.proofs.Common.{length, arith}
use Rattle.replay_eval.proofs.Properties.{cover_fits}
use Rattle.replay_eval.proofs.judge.Windows.any_covered_apart.Goals as goal

pub any_apart-requires-clause-within : goal.any_apart-requires-clause-within
any_apart-requires-clause-within c =
    cover_fits c.args.self.now.set.now c.property_at-property.result.now c.args.at c.args.n (length c.args.self.now.one.now) c.loop-cover.cover-index c.cover_end-end.result c.as_slice-cover-items.result.now _
    c.property_at-property.ensures.structure c.requires.position c.property_at-property.ensures.same c.as_slice-cover-items.ensures (omega arith) c.requires.end c.requires.window c.cover_end-end.ensures.end

pub any_apart-requires-clause-other_within : goal.any_apart-requires-clause-other_within
any_apart-requires-clause-other_within c =
    cover_fits c.args.self.now.set.now c.property_at-property.result.now c.args.at c.args.n (length c.args.self.now.other.now) c.loop-cover.cover-index c.cover_end-end.result c.as_slice-cover-items.result.now _
    c.property_at-property.ensures.structure c.requires.position c.property_at-property.ensures.same c.as_slice-cover-items.ensures (omega arith) c.requires.end c.requires.other_window c.cover_end-end.ensures.end
