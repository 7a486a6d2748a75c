use Rattle.std.proofs.Common.{ap, ◌∙◌}
use Rattle.std.specs.Hash.{u32}
use Rattle.std.specs.Hash.FoldHasher.{write, finish}
use Rattle.std.specs.List.{fold}
use Rattle.vlog_tree.specs.Fingerprints.{fingerprint}
use Rattle.vlog_tree.proofs.valuation.fingerprint.Goals as goal

pub returns : goal.returns
unfolding fingerprint
returns c =
    c.finish.ensures ∙ ap finish (c.write_u32.ensures ∙ ap (λ s. fold write s (u32 c.args.offset)) (c.write.ensures ∙ ap (λ s. write s c.args.name.now) c.default-state.ensures))
