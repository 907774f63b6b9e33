-- What was defined stays in a longer list.
use Rattle.std.proofs.Common.{List}
use Rattle.comp_bytes.specs.declared.def.Def.{Def}
use Rattle.wit_data.specs.declared.ids.TypeId.{TypeId}
use Rattle.comp_worlds.specs.declared.world.ComponentWorld.{ComponentWorld}
use Rattle.comp_items.proofs.Kept.{Longer, denotes-kept}
use Rattle.exported_types.specs.ExportedTypes.{IsDefinedType}

pub defined-kept : {w : ComponentWorld} {old new : List Def} → Longer old new → (t : TypeId) → IsDefinedType w old t → IsDefinedType w new t
defined-kept g t h = record { index = h.index; denotes = denotes-kept g h.denotes }
