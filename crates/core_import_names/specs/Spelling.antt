-- The names that roles of core imports have in the older form, as generators of bindings write them
-- (component model, Canonical ABI), and the law that such a name is read as its role, if it is not
-- refused: so the names of two roles differ.
use Rattle.std.specs.Prelude.{◌≡◌, ◌⊎◌, ℕ, List, [], codes, ◌++◌, true, Some}
use Rattle.std.specs.Map.{lookup}
use Rattle.wit_data.specs.declared.functions.AbiVariant.{AbiVariant}
use Rattle.wit_data.specs.declared.functions.AbiVariant.TheVariants as abis
use Rattle.record_values.specs.declared.names.Owner.{Owner}
use Rattle.record_values.specs.declared.names.Owner.TheVariants as owners
use Rattle.record_values.specs.declared.names.TypeName.{TypeName}
use Rattle.record_values.specs.declared.roles.ImportRole.{ImportRole}
use Rattle.record_values.specs.declared.roles.ImportRole.TheVariants as roles
use Rattle.record_values.specs.declared.world.Item.TheVariants as items
use Rattle.record_values.specs.declared.world.ItemKey.TheVariants as keys
use Rattle.record_values.specs.Names.{name_text, is_same_item}
use Rattle.world_names.specs.declared.labels.Side.{Side}
use Rattle.world_names.specs.declared.labels.Side.TheVariants as sides
use Rattle.name_parts.specs.declared.reading.Reading.{Reading}
use Rattle.name_parts.specs.declared.reading.Reading.TheVariants as readings
use Rattle.name_parts.specs.declared.reading.Refusal.{Refusal}
use Rattle.world_names.specs.declared.scopes.Scope.{Scope}
use Rattle.world_names.specs.declared.tables.WorldNames.{WorldNames}
use Rattle.world_names.specs.Labels.{items_of}
use Rattle.world_names.specs.Scopes.{has_function, resource, is_own_resource}
use Rattle.core_import_names.specs.ImportNames.{older_import}

-- ---- what a side of the world has

abbrev pub scope : Side → Owner → Scope
scope side owner = record { side = side; owner = owner }

-- an interface stands on a side of the world under its own name, which is plain or an id
abbrev pub HasOwner : WorldNames → Side → Owner → Type 0
HasOwner n side owners.World = Unit {0}
HasOwner n side (owners.Interface i) =
    (lookup (is_same_item (keys.Name (name_text i))) (items_of n side) ≡ Some (items.Interface i))
    ⊎ (lookup (is_same_item (keys.Interface (name_text i))) (items_of n side) ≡ Some (items.Interface i))

abbrev pub HasFunction : WorldNames → Side → Owner → List ℕ → Type 0
HasFunction n side owner f = HasOwner n side owner × (has_function n (scope side owner) f ≡ true)

-- ---- core imports

-- the module of what is of the world itself, or of an interface
abbrev pub module_name : Side → Owner → List ℕ
module_name sides.Imported owners.World = codes "$root"
module_name sides.Imported (owners.Interface i) = name_text i
module_name sides.Exported owners.World = codes "[export]$root"
module_name sides.Exported (owners.Interface i) = codes "[export]" ++ name_text i

-- the core import of these is of this module, and has this field
abbrev pub IsNamed : Side → Owner → List ℕ → List ℕ → List ℕ → Type 0
IsNamed side owner field m f = (m ≡ module_name side owner) × (f ≡ field)

abbrev pub IsOwnResource : WorldNames → TypeName → Type 0
IsOwnResource n t = HasOwner n sides.Exported t.owner × (is_own_resource n (scope sides.Exported t.owner) t.name ≡ true)

abbrev pub form_prefix : AbiVariant → List ℕ
form_prefix abis.GuestImportAsync = codes "[async-lower]"
form_prefix abis.GuestExportAsync = codes "[async-lift]"
form_prefix abis.GuestExportAsyncStackful = codes "[async-lift-stackful]"
form_prefix abis.GuestImport = []
form_prefix abis.GuestExport = []

abbrev pub IsImportForm : AbiVariant → Type 0
IsImportForm abis.GuestImport = Unit {0}
IsImportForm abis.GuestImportAsync = Unit {0}
IsImportForm abi = ⊥

-- A role of the world has this module and field as its name. The built-in functions and the
-- operations on streams and futures are not among these.
abbrev pub NamesImport : WorldNames → ImportRole → List ℕ → List ℕ → Type 0
NamesImport n (roles.Function owner name abi) m f =
    HasFunction n sides.Imported owner name × IsImportForm abi × IsNamed sides.Imported owner (form_prefix abi ++ name) m f
NamesImport n (roles.ImportedDrop t) m f =
    HasOwner n sides.Imported t.owner × (resource n (scope sides.Imported t.owner) t.name ≡ Some t) × IsNamed sides.Imported t.owner (codes "[resource-drop]" ++ t.name) m f
NamesImport n (roles.ExportedNew t) m f = IsOwnResource n t × IsNamed sides.Exported t.owner (codes "[resource-new]" ++ t.name) m f
NamesImport n (roles.ExportedRep t) m f = IsOwnResource n t × IsNamed sides.Exported t.owner (codes "[resource-rep]" ++ t.name) m f
NamesImport n (roles.ExportedDrop t) m f = IsOwnResource n t × IsNamed sides.Exported t.owner (codes "[resource-drop]" ++ t.name) m f
NamesImport n (roles.TaskReturn owner name) m f = HasFunction n sides.Exported owner name × IsNamed sides.Exported owner (codes "[task-return]" ++ name) m f
NamesImport n role m f = ⊥

-- ---- the laws

abbrev pub IsRefused : {R : Type 0} → Reading R → Type 0
IsRefused reading = (r : Refusal) × (reading ≡ readings.Refused r)

-- The name of a role of a world is read as that role, or it is refused.
abbrev pub ImportsAreReadBack : Type 0
ImportsAreReadBack = (n : WorldNames) (role : ImportRole) (m f : List ℕ) → NamesImport n role m f
    → (older_import n m f ≡ readings.Means role) ⊎ IsRefused (older_import n m f)

-- Two roles of a world that have one name are one role, or the name is refused.
abbrev pub ImportNamesDiffer : Type 0
ImportNamesDiffer = (n : WorldNames) (one other : ImportRole) (m f : List ℕ) → NamesImport n one m f → NamesImport n other m f
    → (one ≡ other) ⊎ IsRefused (older_import n m f)
