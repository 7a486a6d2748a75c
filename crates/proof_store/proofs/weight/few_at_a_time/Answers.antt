use Rattle.std.proofs.Common.{◌≤◌, arith, drop}
use Rattle.std.proofs.lemmas.List.{drop_all}
use Rattle.std.proofs.lemmas.List.Folds.{drop_split}
use Rattle.proof_store.proofs.Pieces.{all_pieces, piece_more}
use Rattle.proof_store.proofs.weight.few_at_a_time.Goals as goal

pub loop-at-preserved : goal.loop-at-preserved
loop-at-preserved g c =
    let all = c.args.all.now in
    let further : c.loop-at.at ≤ c.end_of_few-end.result = omega (arith, c.end_of_few-end.ensures.more, c.end_of_few-end.ensures.within) in record {
      within = omega (arith, c.end_of_few-end.ensures.more, c.end_of_few-end.ensures.within);
      cut = piece_more all (drop c.loop-at.at all) (drop c.end_of_few-end.result all) c.loop-at.pieces.items c.push.new.self.items _ c.loop-at.invariant.cut (drop_split all c.loop-at.at c.end_of_few-end.result further) c.in_ok-push.ensures.items;
    }

pub returns : goal.returns
returns g c = all_pieces c.args.all.now (drop c.loop-at.at c.args.all.now) c.loop-at.pieces.items c.loop-at.invariant.cut (drop_all c.loop-at.at c.args.all.now c.loop-at-test.false)
