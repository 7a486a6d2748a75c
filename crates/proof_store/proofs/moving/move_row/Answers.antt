use Rattle.proof_store.proofs.Walking.{cant_move, none_made, row_stays}
use Rattle.proof_store.proofs.moving.move_row.Goals as goal

pub returns-in_default-2-clause-ok : goal.returns-in_default-2-clause-ok
returns-in_default-2-clause-ok g c =
    row_stays c.args.key.now (g.K.Keeper.tables c.args.keeper.now) (g.K.Keeper.tables c.proof.new.self) c.in_ok-bytes.ensures.same
    (cant_move (g.K.Keeper.tables c.args.keeper.now) c.args.key.now c.in_ok-bytes.field-0 c.in-Some.bytes c.in-Some.is c.in_ok-bytes.ensures.row
    (none_made c.in-Some.bytes.items c.as_slice.result.now c.in_ok-second.field-0 c.as_slice.ensures.value c.in_ok-second.ensures c.in_default-2.is))
