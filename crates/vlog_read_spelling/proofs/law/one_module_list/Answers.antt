use Rattle.vlog_read_spelling.proofs.Modules.{one_file}
use Rattle.vlog_read_spelling.proofs.law.one_module_list.Goals as goal

pub returns : goal.returns
returns c = one_file
