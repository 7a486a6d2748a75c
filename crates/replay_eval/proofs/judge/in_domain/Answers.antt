use Rattle.std.proofs.Common.{sym}
use Rattle.replay_eval.proofs.Properties.{domain_known}
use Rattle.replay_eval.proofs.judge.in_domain.Goals as goal

pub holds-requires-clause-readable : goal.holds-requires-clause-readable
holds-requires-clause-readable c = domain_known c.args.set.now c.set.result.now c.args.output _ c.in-Some.name.now c.in-Some-domain.domain c.set.ensures.value (sym c.in-Some.ensures.value) c.in-Some-domain.is c.set.ensures.sound c.set.ensures.formed c.requires.some
