use Rattle.clause_check_texts.proofs.WordLemmas.{no_words, word_is, word_most, word_shorter}
use Rattle.clause_check_texts.proofs.words.first_word.Goals as goal

pub returns-then-start-bytes-clause-words : goal.returns-then-start-bytes-clause-words
returns-then-start-bytes-clause-words c = no_words c.args.bytes.now c.blanks_len-start.result c.blanks_len-start.ensures c.if-start-bytes.true

pub returns-then-start-bytes-clause-shorter : goal.returns-then-start-bytes-clause-shorter
returns-then-start-bytes-clause-shorter c = no_words c.args.bytes.now c.blanks_len-start.result c.blanks_len-start.ensures c.if-start-bytes.true

pub slice_bounds-result-count : goal.slice_bounds-result-count
slice_bounds-result-count c = word_most c.args.bytes.now c.blanks_len-start.result c.blanks_len-start.ensures c.if-start-bytes.false c.word_len-end.result c.word_len-end.ensures

pub slice_bounds-result-start : goal.slice_bounds-result-start
slice_bounds-result-start c = word_most c.args.bytes.now c.blanks_len-start.result c.blanks_len-start.ensures c.if-start-bytes.false c.word_len-end.result c.word_len-end.ensures

pub returns-clause-words : goal.returns-clause-words
returns-clause-words c = word_is c.args.bytes.now c.blanks_len-start.result c.blanks_len-start.ensures c.if-start-bytes.false c.word_len-end.result c.word_len-end.ensures

pub returns-clause-shorter : goal.returns-clause-shorter
returns-clause-shorter c = word_shorter c.args.bytes.now c.blanks_len-start.result c.blanks_len-start.ensures c.if-start-bytes.false c.word_len-end.result c.word_len-end.ensures
