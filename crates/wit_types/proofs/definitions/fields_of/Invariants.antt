use Rattle.std.proofs.Common.{◌≡◌, ◌++◌, drop}
use Rattle.wit_types.specs.Definitions.{fields_of}
use Rattle.wit_types.proofs.definitions.fields_of.Given as goal

abbrev pub invariant-loop-field : goal.invariant-loop-field
invariant-loop-field l = l.made ++ fields_of (drop l.field-index l.fields) l.rest ≡ fields_of l.fields l.parts
