use Rattle.clause_check_texts.proofs.FollowLemmas.{covers_start}
use Rattle.clause_check_texts.proofs.follow.forget.Goals as goal

pub loop-lit-init : goal.loop-lit-init
loop-lit-init c = covers_start c.args.known.now c.args.values.now c.requires.shows
