-- The roles of the imports of small modules, worked: a world that imports one function "f", with no
-- parameter and no result.
use Rattle.std.proofs.Common.{◌≡◌, ℕ, List, [], ◌∷◌, Option, Some, None, Result, Ok, refl, true, false}
use Rattle.std.specs.Prelude.{codes, ⊤}
use Rattle.core_sections.specs.Entries.{no_entries}
use Rattle.core_sections.specs.declared.core_module.CoreModule.{CoreModule}
use Rattle.core_sections.specs.declared.entries.CoreImport.{CoreImport}
use Rattle.core_sections.specs.declared.entries.EntityType.{EntityType}
use Rattle.core_sections.specs.declared.entries.EntityType.TheVariants as entities
use Rattle.core_sections.specs.declared.entries.ValType.TheVariants as values
use Rattle.core_types.specs.declared.types.ValType.TheVariants as numbers
use Rattle.wit_data.specs.Values.{values_from}
use Rattle.wit_data.specs.declared.functions.AbiVariant.TheVariants.{GuestImport}
use Rattle.wit_data.specs.declared.functions.FunctionKind.TheVariants as forms
use Rattle.wit_data.specs.declared.worlds.WorldItem.TheVariants as items
use Rattle.wit_data.specs.declared.worlds.WorldKey.TheVariants as keys
use Rattle.comp_roles.specs.declared.imports.Import.{Import}
use Rattle.comp_roles.specs.declared.imports.Import.TheVariants as imports
use Rattle.comp_roles.specs.declared.imports.ImportInstance.{ImportInstance}
use Rattle.comp_roles.specs.declared.imports.ImportInstance.TheVariants as instances
use Rattle.record_values.specs.declared.names.Owner.TheVariants as owners
use Rattle.record_values.specs.declared.record.ImportName.{ImportName}
use Rattle.record_values.specs.declared.roles.ImportRole.{ImportRole}
use Rattle.record_values.specs.declared.roles.ImportRole.TheVariants as roles
use Rattle.record_resolve.specs.declared.resolving.Resolved.{Resolved}
use Rattle.record_faults.specs.declared.fault.Failure.{Failure}
use Rattle.record_faults.specs.declared.fault.Refusal.TheVariants as refusals
use Rattle.record_faults.proofs.Chains.{refused}
use Rattle.record_imports.specs.declared.others.OtherModules.{OtherModules}
use Rattle.record_imports.specs.Meaning.{Roles, by_record, import_of}
use Rattle.record_imports.specs.Grouping.{group_after}
use Rattle.record_imports.specs.Memories.{memories_fit}
use Rattle.record_imports.specs.Importing.{imports_of}

abbrev small : Resolved
small = record {
  resolve = record {
    interfaces = [];
    types = [];
    worlds = record {
      imports = (keys.Name (codes "f"), items.Function (record { name = codes "f"; kind = forms.Freestanding; params = []; result = None })) ∷ [];
      exports = [];
    } ∷ [];
  };
  imported = [];
  exported = [];
  imported_keys = [];
  exported_keys = [];
}

-- a main module with no adapter, and an adapter or a library beside one of these
abbrev alone : OtherModules
alone = record { has_main = false; adapters = [] }

abbrev beside : List ℕ → OtherModules
beside name = record { has_main = true; adapters = (name, tt) ∷ [] }

-- the roles of the imports of fields of one module
abbrev of : List ℕ → ImportRole → ImportName × ImportRole
of field role = (record { «module» = codes "m"; field = field }, role)

abbrev calls : List ℕ → ImportRole
calls name = roles.Function owners.World name GuestImport

-- type 0 has no parameters and no results, type 1 has one parameter
abbrev importing : List CoreImport → CoreModule
importing is = record no_entries { types = record { params = []; results = [] } ∷ record { params = values.I32 ∷ []; results = [] } ∷ []; imports = is }

abbrev import : List ℕ → EntityType → CoreImport
import field entity = record { «module» = codes "m"; field = field; entity = entity }

abbrev memory : ℕ → Option ℕ → EntityType
memory least most = entities.Memory (record { minimum = least; maximum = most; is_wide = false })

abbrev Answer : Type 0
Answer = Result (List (List ℕ × ImportInstance)) Failure

abbrev answered : Roles → List CoreImport → Answer
answered table is = imports_of small alone [] table (importing is)

calls_f : answered (of (codes "a") (calls (codes "f")) ∷ []) (import (codes "a") (entities.Function 0) ∷ [])
    ≡ Ok ((codes "m", instances.Names ((codes "a", imports.WorldFunc (keys.Name (codes "f")) (codes "f") GuestImport) ∷ [])) ∷ [])
unfolding imports_of group_after import_of by_record values_from
calls_f = refl

has_no_role : answered (of (codes "a") (calls (codes "f")) ∷ []) (import (codes "b") (entities.Function 0) ∷ []) ≡ refused (refusals.RoleMissing (codes "m") (codes "b"))
unfolding imports_of group_after import_of by_record
has_no_role = refl

calls_nothing : answered (of (codes "a") (calls (codes "g")) ∷ []) (import (codes "a") (entities.Function 0) ∷ []) ≡ refused (refusals.RoleMissing (codes "m") (codes "a"))
unfolding imports_of group_after import_of by_record
calls_nothing = refl

of_no_adapter : answered (of (codes "a") (roles.AdapterExport (codes "x") (codes "f")) ∷ []) (import (codes "a") (entities.Function 0) ∷ []) ≡ refused (refusals.RoleMissing (codes "m") (codes "a"))
unfolding imports_of group_after import_of by_record
of_no_adapter = refl

abbrev answered_beside : Roles → List CoreImport → Answer
answered_beside table is = imports_of small (beside (codes "x")) [] table (importing is)

of_an_adapter : answered_beside (of (codes "a") (roles.AdapterExport (codes "x") (codes "f")) ∷ []) (import (codes "a") (entities.Function 1) ∷ [])
    ≡ Ok ((codes "m", instances.Names ((codes "a", imports.AdapterExport (codes "x") (codes "f") (record { params = numbers.I32 ∷ []; results = [] })) ∷ [])) ∷ [])
unfolding imports_of group_after import_of by_record
of_an_adapter = refl

no_function : answered_beside (of (codes "a") (roles.AdapterExport (codes "x") (codes "f")) ∷ []) (import (codes "a") (memory 1 None) ∷ []) ≡ refused (refusals.CoreType (codes "a"))
unfolding imports_of group_after import_of by_record
no_function = refl

twice_there : answered (of (codes "a") (calls (codes "f")) ∷ []) (import (codes "a") (entities.Function 0) ∷ import (codes "a") (entities.Function 0) ∷ [])
    ≡ refused (refusals.ImportTwice (codes "m") (codes "a"))
unfolding imports_of group_after import_of by_record values_from
twice_there = refl

of_another_type : answered (of (codes "a") (calls (codes "f")) ∷ []) (import (codes "a") (entities.Function 1) ∷ []) ≡ refused (refusals.CoreType (codes "a"))
unfolding imports_of group_after import_of by_record values_from
of_another_type = refl

is_no_memory : answered (of (codes "a") roles.Memory ∷ []) (import (codes "a") (entities.Function 0) ∷ []) ≡ refused (refusals.CoreType (codes "a"))
unfolding imports_of group_after import_of by_record
is_no_memory = refl

-- ---- memories

abbrev importing_memory : List ℕ → ℕ → Option ℕ → List ℕ × Import
importing_memory field least most = (field, imports.MainModuleMemory (record { minimum = least; maximum = most }))

abbrev both : List ℕ × Import → List ℕ × Import → Result ⊤ Failure
both first second = memories_fit ((codes "m", instances.Names (first ∷ second ∷ [])) ∷ [])

-- the first memory has one page at least and two at most
takes_more : both (importing_memory (codes "a") 1 (Some 2)) (importing_memory (codes "b") 1 (Some 3)) ≡ Ok tt
unfolding memories_fit
takes_more = refl

needs_more : both (importing_memory (codes "a") 1 (Some 2)) (importing_memory (codes "b") 2 None) ≡ refused (refusals.CoreType (codes "b"))
unfolding memories_fit
needs_more = refl

takes_less : both (importing_memory (codes "a") 1 (Some 2)) (importing_memory (codes "b") 0 (Some 1)) ≡ refused (refusals.CoreType (codes "b"))
unfolding memories_fit
takes_less = refl

has_no_greatest : both (importing_memory (codes "a") 1 None) (importing_memory (codes "b") 0 (Some 9)) ≡ refused (refusals.CoreType (codes "b"))
unfolding memories_fit
has_no_greatest = refl
