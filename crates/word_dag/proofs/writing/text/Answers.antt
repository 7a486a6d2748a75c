use Rattle.word_dag.proofs.Telling.{tells, ends_in_root}
use Rattle.word_dag.proofs.writing.text.Goals as goal

pub returns-clause-tells : goal.returns-clause-tells
returns-clause-tells c =
    tells c.args.ob.now c.put_root.new.out.items c.nodes.ensures.ob (ends_in_root c.args.ob.now.nodes c.nodes.result.now c.args.ob.now.root c.root.result c.new-out.result.items c.put_nodes.new.out.items c.put_root.new.out.items c.new-out.ensures.items c.in_ok-put_nodes.ensures c.in_ok-put_root.ensures c.nodes.ensures.nodes c.root.ensures.root)
