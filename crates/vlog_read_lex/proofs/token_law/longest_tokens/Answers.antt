use Rattle.vlog_read_lex.proofs.TokenLemmas.{tokens_are_longest}
use Rattle.vlog_read_lex.proofs.token_law.longest_tokens.Goals as goal

pub returns : goal.returns
returns c = tokens_are_longest
