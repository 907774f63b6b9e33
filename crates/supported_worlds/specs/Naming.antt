-- Whether the interfaces that a world exports have names that tell them apart (component model,
-- explainer: names of imports and exports).
use Rattle.std.specs.Prelude.{◌≡◌, ℕ, Bool, true, not, ◌&&◌, ◌==◌, List, map, is_some}
use Rattle.std.specs.List.{AllByRecursion, IsDistinct, list_all, list_any, flat_map}
use Rattle.std.specs.Str.{bytes_eq}
use Rattle.wit_data.specs.Names.{id_name_of}
use Rattle.wit_data.specs.declared.resolve.Resolve.{Resolve}
use Rattle.wit_data.specs.declared.worlds.WorldItem.{WorldItem}
use Rattle.wit_data.specs.declared.worlds.WorldItem.TheVariants as items
use Rattle.wit_data.specs.declared.worlds.WorldKey.{WorldKey}
use Rattle.wit_data.specs.declared.worlds.WorldKey.TheVariants as keys
use Rattle.comp_worlds.specs.Encodable.{Entries}
use Rattle.comp_worlds.specs.Worlds.{IsExportNamed, interface_text}
use Rattle.world_values.specs.Tables.{with_all}
use Rattle.supported_worlds.specs.Distinct.{are_apart, are_new}

abbrev pub has_colon : List ℕ → Bool
has_colon text = list_any (λ c. c == 0x3a) text

-- whether an exported interface has a name without a colon, or an id
abbrev pub is_export_named : Resolve → WorldKey × WorldItem → Bool
is_export_named r (keys.Name text, items.Interface id) = not (has_colon text)
is_export_named r (keys.Interface other, items.Interface id) = is_some (id_name_of r other)
is_export_named r entry = true

-- whether all of them have, and no two the same
abbrev pub are_exports_named : Resolve → Entries → Bool
are_exports_named r es = list_all (is_export_named r) es && are_apart bytes_eq (flat_map (interface_text r) es)

-- the texts of exported interfaces
abbrev pub Texts : Type 0
Texts = List (List ℕ × Unit {0})

-- an export has no text that is in a table, and the other table has its text too
pub record AddsText (r : Resolve) (entry : WorldKey × WorldItem) (old new : Texts) (fresh : Bool) : Type 0 where
  pub is : fresh ≡ are_new bytes_eq old (interface_text r entry)
  pub put : fresh ≡ true → new ≡ with_all bytes_eq old (map (λ t. (t, tt)) (interface_text r entry))

-- all of them have, and no two the same
pub record AreExportsNamed (r : Resolve) (es : Entries) : Type 0 where
  pub each : AllByRecursion (IsExportNamed r) es
  pub apart : IsDistinct bytes_eq (flat_map (interface_text r) es)
