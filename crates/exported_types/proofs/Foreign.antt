-- The types of other interfaces of which an exported one is made.
use Rattle.std.proofs.Common.{◌<◌, List, [], ◌∷◌, ◌++◌, length}
use Rattle.std.specs.List.{AllByRecursion}
use Rattle.wit_data.specs.declared.ids.InterfaceId.{InterfaceId}
use Rattle.wit_data.specs.declared.ids.TypeId.{TypeId}
use Rattle.wit_data.specs.declared.types.TypeDef.{TypeDef}
use Rattle.foreign_types.specs.Foreign.{AreReadyAfter}

-- each of them is among the types
pub each_within : (types : List TypeDef) (here : InterfaceId) (before ids : List TypeId) → AreReadyAfter types here before ids → AllByRecursion (λ id. id.index < length types) ids
each_within types here before [] h = tt
each_within types here before (id ∷ ids) h = (h.0.within, each_within types here (before ++ id ∷ []) ids h.1)
