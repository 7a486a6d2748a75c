use Rattle.elab_flat.proofs.hierarchy.joined.Goals as goal

pub returns-clause-texts : goal.returns-clause-texts
returns-clause-texts c = λ ms h. record {
  signals = c.in-Ok.ensures.ok;
  assigns = c.in_ok-assigns_of.ensures ms h;
  blocks = c.in_ok-blocks_of.ensures;
  ports = c.in_ok-ports_of.ensures;
}
