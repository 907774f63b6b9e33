-- Interfaces that became others keep their old names too, so that roles which use an old name refer
-- to what the interface became.
use Rattle.std.specs.Prelude.{[], ◌∷◌}
use Rattle.std.specs.Map.{lookup}
use Rattle.std.specs.Option.{option_map_or}
use Rattle.comp_lists.specs.Tables.{with_first}
use Rattle.record_values.specs.declared.names.InterfaceName.{InterfaceName}
use Rattle.record_values.specs.Names.{is_same_interface}
use Rattle.record_values.specs.Renaming.{Renames}
use Rattle.record_resolve.specs.declared.resolving.Resolved.{Resolved}
use Rattle.record_resolve.specs.Worlds.{Ids}

-- an old name, added where the new one exists
abbrev pub with_other_name : Ids → InterfaceName → InterfaceName → Ids
with_other_name ids old new = option_map_or (λ id. with_first is_same_interface ids old id) (lookup (is_same_interface new) ids) ids

abbrev pub with_other_names : Ids → Renames → Ids
with_other_names ids [] = ids
with_other_names ids (e ∷ es) = with_other_names (with_other_name ids e.0 e.1) es

abbrev pub also_named : Renames → Resolved → Resolved
also_named rs r = record { resolve = r.resolve; imported = with_other_names r.imported rs; exported = r.exported; imported_keys = r.imported_keys; exported_keys = r.exported_keys }
