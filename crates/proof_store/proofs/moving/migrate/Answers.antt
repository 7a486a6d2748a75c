use Rattle.std.proofs.Common.{◌≡◌, ℕ, Bool, cond, refl, ap, arith}
use Rattle.std.specs.Prelude.{false}
use Rattle.proof_store.proofs.Walking.{ends, ends_whole, goes_on}
use Rattle.proof_store.proofs.moving.migrate.Goals as goal
use Rattle.proof_store.proofs.moving.migrate.Goals.{then-branch, else-branch}

pub returns-in_default-clause-walks : goal.returns-in_default-clause-walks
returns-in_default-clause-walks g c =
    ends c.loop.counter c.loop.moved c.loop.left c.args.most _ c.loop.last c.in_ok-key.field-0 (record { moved = c.loop.moved; left = c.loop.left; more = false })
    (g.K.Keeper.tables c.args.keeper.now) (g.K.Keeper.tables c.loop.keeper) (g.K.Keeper.tables c.proof_key_after.new.self)
    c.loop.invariant.walk c.bytes_of.ensures c.in_ok-key.ensures.key c.in_default.is c.in_ok-key.ensures.same c.loop.invariant.counted refl refl (omega arith)

pub returns-in_default-clause-whole : goal.returns-in_default-clause-whole
returns-in_default-clause-whole g c = λ _.
    ends_whole c.loop.counter c.loop.moved _ c.loop.last c.in_ok-key.field-0
    (g.K.Keeper.tables c.args.keeper.now) (g.K.Keeper.tables c.loop.keeper) (g.K.Keeper.tables c.proof_key_after.new.self)
    c.loop.invariant.walk c.bytes_of.ensures c.in_ok-key.ensures.key c.in_default.is c.in_ok-key.ensures.same

pub loop-preserved : goal.loop-preserved
loop-preserved g c =
    let flag = c.in_ok-move_row.field-0 in
    let later = c.loop.invariant.later in
    let asked = c.in_ok-key.ensures.cause.later in
    let put = c.in_ok-move_row.ensures.later in
    let counted = c.loop.invariant.counted in
    elim c.if-branch.branch [
      | then-branch w ↦ record {
        counted = omega (arith, w.moved-is, w.left-is, counted);
        walk = goes_on c.loop.counter c.loop.moved c.if-branch.moved _ c.loop.last c.in_ok-key.field-0 c.in-Some.key c.bytes.result.now flag
            (g.K.Keeper.tables c.args.keeper.now) (g.K.Keeper.tables c.loop.keeper) (g.K.Keeper.tables c.proof_key_after.new.self) (g.K.Keeper.tables c.move_row.new.keeper)
            c.loop.invariant.walk c.bytes_of.ensures c.in_ok-key.ensures.key c.in-Some.is c.in_ok-key.ensures.same c.in_ok-move_row.ensures.ok c.bytes.ensures
            (let one : cond flag 1 0 ≡ 1 = ap {B = ℕ} (λ (b : Bool). cond b 1 0) w.if-branch.true in omega (arith, w.moved-is, one));
        later = omega (arith, later, asked, put);
      }
      | else-branch w ↦ record {
        counted = omega (arith, w.moved-is, w.left-is, counted);
        walk = goes_on c.loop.counter c.loop.moved c.if-branch.moved _ c.loop.last c.in_ok-key.field-0 c.in-Some.key c.bytes.result.now flag
            (g.K.Keeper.tables c.args.keeper.now) (g.K.Keeper.tables c.loop.keeper) (g.K.Keeper.tables c.proof_key_after.new.self) (g.K.Keeper.tables c.move_row.new.keeper)
            c.loop.invariant.walk c.bytes_of.ensures c.in_ok-key.ensures.key c.in-Some.is c.in_ok-key.ensures.same c.in_ok-move_row.ensures.ok c.bytes.ensures
            (let none : cond flag 1 0 ≡ 0 = ap {B = ℕ} (λ (b : Bool). cond b 1 0) w.if-branch.false in omega (arith, w.moved-is, none));
        later = omega (arith, later, asked, put);
      }
    ]
