use Rattle.std.proofs.Common.{inl, arith, refl, sym, ◌∙◌}
use Rattle.vlog_read_spelling.proofs.Tokens.{kind_within}
use Rattle.vlog_read_expr.proofs.SignTests.{yes_by, no_by}
use Rattle.vlog_read.proofs.EventSteps.{star_only, events_shut}
use Rattle.vlog_read.proofs.events.read_events.Goals as goal

pub after-requires : goal.after-requires
after-requires c = kind_within _ _ _ (yes_by _ c.is_sign.ensures c.if-is_sign.true)

pub returns-then-is_sign : goal.returns-then-is_sign
returns-then-is_sign c = record {
  spelt = inl (yes_by _ c.is_sign.ensures c.if-is_sign.true, c.after.ensures);
  only = λ x k q. star_only _ _ (yes_by _ c.is_sign.ensures c.if-is_sign.true) x k q ∙ sym c.after.ensures;
  height_is = refl;
  low = omega arith;
  past = omega (arith, c.after.ensures);
  within = omega (arith, c.after.ensures, kind_within _ _ _ (yes_by _ c.is_sign.ensures c.if-is_sign.true));
}

pub after-open-requires : goal.after-open-requires
after-open-requires c = kind_within _ _ _ (yes_by _ c.is_sign-2.ensures c.if-not-is_sign.false)

pub all_events-requires : goal.all_events-requires
all_events-requires c = record { opens = yes_by _ c.is_sign-2.ensures c.if-not-is_sign.false; star = rw c.after-open.ensures at (yes_by _ c.is_sign-3.ensures c.if-is_sign-2.true) }

pub edges-requires : goal.edges-requires
edges-requires c = record { opens = yes_by _ c.is_sign-2.ensures c.if-not-is_sign.false; edge = rw c.after-open.ensures at (yes_by _ c.is_edge.ensures c.if-is_edge.true); low = c.requires }

pub names-requires : goal.names-requires
names-requires c = record {
  opens = yes_by _ c.is_sign-2.ensures c.if-not-is_sign.false;
  no_star = rw c.after-open.ensures at (no_by _ c.is_sign-3.ensures c.if-is_sign-2.false);
  no_edge = rw c.after-open.ensures at (no_by _ c.is_edge.ensures c.if-is_edge.false);
  low = c.requires;
}

pub returns-then-not-is_sign : goal.returns-then-not-is_sign
returns-then-not-is_sign c = events_shut _ _ (no_by _ c.is_sign.ensures c.if-is_sign.false) (no_by _ c.is_sign-2.ensures c.if-not-is_sign.true)
