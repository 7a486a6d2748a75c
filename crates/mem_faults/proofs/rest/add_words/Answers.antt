use Rattle.mem_faults.proofs.Keeping.{among_at}
use Rattle.mem_faults.proofs.rest.add_words.Goals as goal

pub add_entry-requires : goal.add_entry-requires
add_entry-requires c = c.requires c.word-item.result (among_at c.args.words.now c.loop-word.word-index c.word-item.result _ c.loop-word-test.true c.word-item.is)
