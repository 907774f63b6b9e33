-- When interfaces are equal: where all their parts are.
use Rattle.std.specs.Prelude.{Bool}
use Rattle.record_values.specs.declared.types.Interface.{Interface}
use Rattle.record_values.specs.contracts.types.InterfacePartialEq.TheImpl as interfaces

abbrev pub same_interface : Interface → Interface → Bool
same_interface = interfaces.eq-value.it
