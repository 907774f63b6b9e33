-- What becomes of the tables of the root when a type is forgotten. (The rules are this project's own.)
use Rattle.std.specs.Prelude.{◌≡◌, ◌<◌, false, length, List, None, if◌then◌else◌}
use Rattle.std.specs.Map.{lookup}
use Rattle.indexmap.specs.IndexMap.{swap_remove_entry}
use Rattle.wit_data.specs.contracts.ids.TypeIdPartialEq.TheImpl as same_id
use Rattle.wit_data.specs.contracts.types.TypeDefKindPartialEq.TheImpl as same_kind
use Rattle.wit_data.specs.declared.ids.TypeId.{TypeId}
use Rattle.wit_data.specs.declared.types.TypeDef.{TypeDef}
use Rattle.wit_data.specs.declared.types.TypeDefKind.{TypeDefKind}
use Rattle.wit_data.specs.Values.{kind_at}
use Rattle.wit_types.specs.declared.maps.TypeEncodingMaps.{TypeEncodingMaps}
use Rattle.comp_worlds.specs.declared.world.ComponentWorld.{ComponentWorld}
use Rattle.root_imports.specs.Met.{is_met}
use Rattle.root_imports.specs.declared.met_types.MetTypes.{MetTypes}

-- a type of the resolve of which it isn't known that it is in the tables
pub record IsForgettable (w : ComponentWorld) (met : MetTypes) (id : TypeId) : Type 0 where
  pub present : id.index < length w.resolve.types
  pub other : is_met w met id ≡ false

-- the type has no index any more, nor have the types without names of its kind; all others have what they had
pub record Forgets (types : List TypeDef) (id : TypeId) (old new : TypeEncodingMaps) : Type 0 where
  pub ids : (q : TypeId) → lookup (same_id.eq-value.it q) new.id_to_index ≡ (if same_id.eq-value.it id q then None else lookup (same_id.eq-value.it q) old.id_to_index)
  pub kinds : (q : TypeDefKind) → lookup (same_kind.eq-value.it q) new.def_to_index ≡ (if same_kind.eq-value.it (kind_at types id.index) q then None else lookup (same_kind.eq-value.it q) old.def_to_index)

-- the tables without the entries of a type and of its kind
abbrev pub without : TypeId → TypeDefKind → TypeEncodingMaps → TypeEncodingMaps
without id kind maps = record maps { id_to_index = swap_remove_entry (same_id.eq-value.it id) maps.id_to_index; def_to_index = swap_remove_entry (same_kind.eq-value.it kind) maps.def_to_index }
