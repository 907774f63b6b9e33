-- The imports of core modules (WebAssembly core: an import has a module and a field).
use Rattle.std.specs.Prelude.{ℕ, List, [], map, Option}
use Rattle.std.specs.Option.{option_and_then}
use Rattle.comp_lists.specs.Found.{found}
use Rattle.comp_roles.specs.declared.imports.Import.{Import}
use Rattle.comp_roles.specs.declared.imports.ImportInstance.{ImportInstance}
use Rattle.comp_roles.specs.declared.imports.ImportInstance.TheVariants as instances

-- an import of a core module: its module, its field, and its role
pub record CoreImport : Type 0 where
  pub module_name : List ℕ
  pub field : List ℕ
  pub role : Import

-- the fields that a module imports from one other, each with its role
abbrev pub fields_of : ImportInstance → List (List ℕ × Import)
fields_of (instances.Names fields) = fields
fields_of (instances.Whole which) = []

abbrev pub imports_from : List ℕ × ImportInstance → List CoreImport
imports_from group = map (λ f. record { module_name = group.0; field = f.0; role = f.1 }) (fields_of group.1)

-- the role of the import of this module and field
abbrev pub role_at : List (List ℕ × ImportInstance) → List ℕ → List ℕ → Option Import
role_at roles module_name field = option_and_then (λ (i : ImportInstance). found field (fields_of i)) (found module_name roles)
