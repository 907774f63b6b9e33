-- The options that a core import's call of a function of the world needs, as the world's table of
-- lowerings has them (Canonical ABI: `canon lower`).
use Rattle.std.specs.Prelude.{◌≡◌, ℕ, false, Option, Some, None}
use Rattle.std.specs.Map.{lookup}
use Rattle.std.specs.Option.{option_and_then}
use Rattle.comp_options.specs.Options.{needs}
use Rattle.comp_options.specs.declared.required.RequiredOptions.{RequiredOptions}
use Rattle.comp_roles.specs.declared.imports.Import.{Import}
use Rattle.comp_roles.specs.declared.imports.Import.TheVariants as imports
use Rattle.comp_worlds.specs.Imported.{is_same_import_key}
use Rattle.comp_worlds.specs.Lowerings.{is_same_lowering}
use Rattle.comp_worlds.specs.declared.lowerings.ImportedInterface.{ImportedInterface}
use Rattle.comp_worlds.specs.declared.lowerings.LoweringKey.{LoweringKey}
use Rattle.comp_worlds.specs.declared.lowerings.Lowering.{Lowering}
use Rattle.comp_worlds.specs.declared.lowerings.Lowering.TheVariants as lowerings
use Rattle.comp_worlds.specs.declared.world.ComponentWorld.{ComponentWorld}
use Rattle.wit_data.specs.declared.worlds.WorldKey.{WorldKey}
use Rattle.shim_plan.specs.Needed.{no_options}

abbrev pub options_of_lowering : Option Lowering → RequiredOptions
options_of_lowering (Some (lowerings.Direct options)) = options
options_of_lowering (Some (lowerings.Indirect sig options)) = options
options_of_lowering lowering = no_options

-- how a function is lowered in one form, by the key of its interface, none at the root
abbrev pub lowering_at : ComponentWorld → Option WorldKey → LoweringKey → Option Lowering
lowering_at w interface function = option_and_then (λ (i : ImportedInterface). lookup (is_same_lowering function) i.lowerings) (lookup (is_same_import_key interface) w.import_map)

-- how the function is lowered that is the role of an import, if it is one
abbrev pub lowering_of_import : ComponentWorld → Import → Option Lowering
lowering_of_import w (imports.WorldFunc key name abi) = lowering_at w None (record { name = name; abi = abi })
lowering_of_import w (imports.InterfaceFunc key id name abi) = lowering_at w (Some key) (record { name = name; abi = abi })
lowering_of_import w role = None

-- the options of a set name nothing that a module exports: no memory and no realloc
pub record NamesNoExport (set : ℕ) : Type 0 where
  pub memory : needs set 1 ≡ false
  pub realloc : needs set 2 ≡ false
