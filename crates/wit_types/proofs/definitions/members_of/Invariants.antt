use Rattle.std.proofs.Common.{◌≡◌, ◌++◌, drop}
use Rattle.wit_types.specs.Definitions.{members_of}
use Rattle.wit_types.proofs.definitions.members_of.Given as goal

abbrev pub invariant-loop-part : goal.invariant-loop-part
invariant-loop-part l = l.made ++ members_of (drop l.part-index l.parts) ≡ members_of l.parts
