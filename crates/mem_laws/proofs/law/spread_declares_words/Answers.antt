use Rattle.mem_laws.proofs.Keeps.{declares}
use Rattle.mem_laws.proofs.law.spread_declares_words.Goals as goal

pub returns : goal.returns
returns c = declares
