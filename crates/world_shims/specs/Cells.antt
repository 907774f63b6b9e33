-- The first base of thread-local data among the imports of modules, and the first of another type than a given one.
-- (This project's own: `cell_type` of `comp_worlds` says what the cell holds.)
use Rattle.std.specs.Prelude.{ℕ, Bool, false, if◌then◌else◌, List, Option, Some, None}
use Rattle.std.specs.Option.{option_and_then, option_or}
use Rattle.core_types.specs.declared.types.ValType.{ValType}
use Rattle.core_types.specs.contracts.types.ValTypePartialEq.TheImpl as same
use Rattle.comp_roles.specs.CoreImports.{fields_of}
use Rattle.comp_roles.specs.Lookups.{first_some}
use Rattle.comp_roles.specs.declared.imports.Import.{Import}
use Rattle.comp_roles.specs.declared.imports.ImportInstance.{ImportInstance}
use Rattle.comp_worlds.specs.Bases.{base_of_role}
use Rattle.comp_worlds.specs.declared.world.ComponentWorld.{ComponentWorld}
use Rattle.comp_worlds.specs.declared.world.WorldAdapter.{WorldAdapter}

-- whether a base has this type, where there is one to compare with
abbrev pub is_base : Option ValType → ValType → Bool
is_base None type = false
is_base (Some known) type = same.eq-value.it known type

-- the type of a base, unless it is this one
abbrev pub unless_base : Option ValType → ValType → Option ValType
unless_base known type = if is_base known type then None else Some type

-- the type of the base that an import reads or sets, unless it is this one
abbrev pub other_base : Option ValType → Import → Option ValType
other_base known role = option_and_then (unless_base known) (base_of_role role)

-- the first such type among the fields that are imported from one module, and from several
abbrev pub base_in_fields : Option ValType → List (List ℕ × Import) → Option ValType
base_in_fields known fields = first_some (λ f. other_base known f.1) fields

abbrev pub base_in_groups : Option ValType → List (List ℕ × ImportInstance) → Option ValType
base_in_groups known groups = first_some (λ g. base_in_fields known (fields_of g.1)) groups

-- and of adapters, and of the whole world: of main first
abbrev pub base_in_adapters : Option ValType → List (List ℕ × WorldAdapter) → Option ValType
base_in_adapters known adapters = first_some (λ a. base_in_groups known a.1.info.imports.modules) adapters

abbrev pub base_in_world : Option ValType → ComponentWorld → Option ValType
base_in_world known w = option_or (base_in_groups known w.main.imports.modules) (base_in_adapters known w.adapters)
