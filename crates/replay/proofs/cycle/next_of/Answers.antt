use Rattle.replay.proofs.Cycling.{next_nowhere, next_past, next_there}
use Rattle.replay.proofs.cycle.next_of.Goals as goal

pub returns-in-Some-get : goal.returns-in-Some-get
returns-in-Some-get c =
    next_there c.args.design.now.registers c.registers.result.now c.args.registers.now c.args.name.now c.place.result c.in-Some.at c.get.result c.in-Some-get.register c.registers.ensures c.requires c.place.ensures c.in-Some.is c.get.ensures.lookup c.in-Some-get.is

pub returns-in-None-get : goal.returns-in-None-get
returns-in-None-get c =
    next_past c.args.design.now.registers c.registers.result.now c.args.registers.now c.args.name.now c.place.result c.in-Some.at c.get.result c.registers.ensures c.requires c.place.ensures c.in-Some.is c.get.ensures.lookup c.in-None-get.is

pub returns-in-None : goal.returns-in-None
returns-in-None c = next_nowhere c.args.design.now.registers c.args.registers.now c.args.name.now c.place.result c.requires c.place.ensures c.in-None.is
