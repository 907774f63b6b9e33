use Rattle.command_line.proofs.Supplying.{GivenSoFar}
use Rattle.command_line.proofs.making.give_adapters.Given as goal

abbrev pub invariant-loop-adapter : goal.invariant-loop-adapter
invariant-loop-adapter g l = GivenSoFar g.L.Lower l.fn.encoder l.encoder l.fn.adapters l.adapter-iterator.rest.items
