use Rattle.std.proofs.Common.{◌∙◌}
use Rattle.mem_faults.proofs.Keeping.{wide_words}
use Rattle.mem_faults.proofs.rest.add_signal.Goals as goal

pub add_words-requires : goal.add_words-requires
add_words-requires c = wide_words c.args.signal.now _ (c.as_slice.ensures ∙ c.in_ok-words.ensures) c.requires
