use Rattle.mem_laws.proofs.Forming.{formed_after, constants_kept, fixed_after}
use Rattle.mem_laws.proofs.law.spread_texts_stay_ready.Goals as goal

pub returns-clause-formed : goal.returns-clause-formed
returns-clause-formed c = formed_after

pub returns-clause-constants : goal.returns-clause-constants
returns-clause-constants c = constants_kept

pub returns-clause-fixed : goal.returns-clause-fixed
returns-clause-fixed c = fixed_after
