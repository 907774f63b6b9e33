-- What two modules, or two records, say of their world together.
--
-- Interfaces of one name must be equal. Imports are merged by key, in order, and equal keys must be
-- equal items. No export may be in both.
use Rattle.std.specs.Prelude.{◌≡◌, Bool, List, Result, Ok, map}
use Rattle.std.specs.Map.{lookup}
use Rattle.world_values.specs.declared.gathered.ExportKey.{ExportKey}
use Rattle.world_values.specs.declared.gathered.ExportKey.TheVariants as export_keys
use Rattle.world_values.specs.declared.gathered.Merged.{Merged}
use Rattle.json_paths.specs.declared.fault.Failure.{Failure}
use Rattle.json_paths.specs.Faults.{◌>>=◌}
use Rattle.record_values.specs.declared.names.InterfaceName.{InterfaceName}
use Rattle.record_values.specs.declared.types.Interface.{Interface}
use Rattle.record_values.specs.declared.world.Item.{Item}
use Rattle.record_values.specs.declared.world.ItemKey.{ItemKey}
use Rattle.record_values.specs.declared.world.ItemKey.TheVariants as keys
use Rattle.record_values.specs.declared.world.Wit.{Wit}
use Rattle.record_values.specs.Names.{is_same_interface, is_same_item, name_text, key_text}
use Rattle.record_merge.specs.declared.bindgen.Bindgen.{Bindgen}
use Rattle.record_merge.specs.Said.{no_roles}
use Rattle.record_merge.specs.Tables.{merged_entries, apart, or_else}

-- when interfaces are equal, and when items are
pub record Tests : Type 0 where
  pub interface : Interface → Interface → Bool
  pub item : Item → Item → Bool

abbrev pub exports_apart : List (ItemKey × Item) → List (ItemKey × Item) → Result (List (ItemKey × Item)) Failure
exports_apart = apart is_same_item (λ e. key_text e.0)

unfoldable pub merged_wit : Tests → Wit → Wit → Result Wit Failure
merged_wit t a b = do
  interfaces ← merged_entries is_same_interface t.interface name_text a.interfaces b.interfaces
  imports ← merged_entries is_same_item t.item key_text a.imports b.imports
  exports ← exports_apart a.exports b.exports
  Ok (record { interfaces = interfaces; imports = imports; exports = exports })

-- a merged world has for each name and key what the first has, or else what the second has
pub record Says (a b combined : Wit) : Type 0 where
  pub interfaces : (k : InterfaceName) → lookup (is_same_interface k) combined.interfaces ≡ or_else (lookup (is_same_interface k) a.interfaces) (lookup (is_same_interface k) b.interfaces)
  pub imports : (k : ItemKey) → lookup (is_same_item k) combined.imports ≡ or_else (lookup (is_same_item k) a.imports) (lookup (is_same_item k) b.imports)
  pub exports : (k : ItemKey) → lookup (is_same_item k) combined.exports ≡ or_else (lookup (is_same_item k) a.exports) (lookup (is_same_item k) b.exports)

abbrev pub export_key : ItemKey → ExportKey
export_key (keys.Name text) = export_keys.Name text
export_key (keys.Interface text) = export_keys.Interface text

abbrev pub keys_of_exports : List (ItemKey × Item) → List ExportKey
keys_of_exports es = map (λ e. export_key e.0) es

-- what two modules say of their world together, without any roles, and the keys of what the second exports
unfoldable pub merged : Tests → Bindgen → Bindgen → Result (Merged Bindgen) Failure
merged t a b = do
  w ← merged_wit t a.wit b.wit
  Ok (record { combined = record { wit = w; roles = no_roles }; exports = keys_of_exports b.wit.exports })
