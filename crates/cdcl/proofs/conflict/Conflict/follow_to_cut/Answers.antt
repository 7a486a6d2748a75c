use Rattle.std.proofs.Common.{◌≡◌, ◌<◌, ◌≤◌, ◌+◌, ◌-◌, ℕ, List, true, false, None, length, subst, sym, ap, ◌∙◌, arith, get_or}
use Rattle.std.proofs.lemmas.List.{get_or_read}
use Rattle.cdcl.specs.declared.trail.Entry.{Entry}
use Rattle.cdcl.specs.Reasons.{clauses_in}
use Rattle.cdcl.specs.Marking.{IsSeen, open_count}
use Rattle.cdcl.specs.Conflicts.{IsFollowed}
use Rattle.cdcl.proofs.ConflictLemmas.{alone, not_first, none_left, followed_past}
use Rattle.cdcl.proofs.conflict.Conflict.follow_to_cut.Goals as goal

pub returns-then-self-eq1 : goal.returns-then-self-eq1
returns-then-self-eq1 c =
    let p = c.loop-place.place - 1 in
    let s = c.loop-place.self in
    let f = c.loop-place.invariant.followed in
    let within : p < length c.args.reasons.now.trail.now.entries = omega arith in
    let seen : IsSeen s.seen.items p = sym (get_or_read s.seen.items p c.index.result.now (omega (arith, f.len)) c.index.ensures false) ∙ c.if-index.true in
    let next : c.loop-place.place ≡ p + 1 = omega arith in
    let level : c.args.start ≤ p = omega arith in
    record {
      level = level;
      within = within;
      seen = seen;
      followed = subst (λ n. IsFollowed (clauses_in c.args.reasons.now) c.args.reasons.now.trail.now.entries c.args.start n s) next f;
      alone = alone c.args.start s.seen.items p level seen (sym f.counted ∙ c.if-self-eq1.true);
    }

pub unreachable-requires : goal.unreachable-requires
unreachable-requires c =
    let p = c.loop-place.place - 1 in
    let s = c.loop-place.self in
    let f = c.loop-place.invariant.followed in
    let next : c.loop-place.place ≡ p + 1 = omega arith in
    let below : (q : ℕ) → IsSeen s.seen.items q → q < p + 1 = λ q h. subst (λ n. q < n) next (f.below q h) in
    let two : 2 ≤ open_count c.args.start s.seen.items = omega (arith, f.counted, c.loop-place.invariant.pending, c.if-self-eq1.false) in
    let z : Entry = record { lit = record { var = 0; negative = false }; reason = None } in
    c.requires.chosen p z (not_first c.args.start s.seen.items p below two) (omega arith)
    (ap (λ (es : List Entry). (get_or es p z).reason) (sym c.entries.ensures.entries) ∙ c.in-None.is)

pub loop-place-preserved : goal.loop-place-preserved
loop-place-preserved c =
    let p = c.loop-place.place - 1 in
    let s = c.loop-place.self in
    let f = c.loop-place.invariant.followed in
    let next : c.loop-place.place ≡ p + 1 = omega arith in
    let unseen : IsSeen s.seen.items p → ⊥ = λ h.
    let was : c.index.result.now ≡ true = get_or_read s.seen.items p c.index.result.now (omega (arith, f.len)) c.index.ensures false ∙ h in
    let bad : false ≡ true = sym c.if-index.false ∙ was in cc in
    record {
      followed =
          followed_past (clauses_in c.args.reasons.now) c.args.reasons.now.trail.now.entries c.args.start p s
          (subst (λ n. IsFollowed (clauses_in c.args.reasons.now) c.args.reasons.now.trail.now.entries c.args.start n s) next f) (omega arith) unseen;
      pending = c.loop-place.invariant.pending;
    }

pub unreachable-requires-2 : goal.unreachable-requires-2
unreachable-requires-2 c =
    let f = c.loop-place.invariant.followed in
    omega (arith, f.counted, none_left c.args.start c.loop-place.self.seen.items c.loop-place.place c.loop-place-test.false f.below, c.loop-place.invariant.pending)
