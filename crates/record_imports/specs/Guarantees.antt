-- What holds of the imports of a module that were read.
use Rattle.std.specs.Prelude.{ℕ, List, map}
use Rattle.std.specs.List.{AllByRecursion, IsDistinct, flat_map}
use Rattle.std.specs.Map.{keys_of}
use Rattle.std.specs.Str.{bytes_eq}
use Rattle.wit_data.specs.declared.resolve.Resolve.{Resolve}
use Rattle.comp_roles.specs.CoreImports.{imports_from}
use Rattle.comp_roles.specs.declared.imports.Import.{Import}
use Rattle.comp_roles.specs.declared.imports.ImportInstance.{ImportInstance}
use Rattle.comp_roles.specs.declared.imports.ImportInstance.TheVariants as instances
use Rattle.world_values.specs.Mentions.{HasRole}
use Rattle.record_core_types.specs.Guarantees.{IsCalled}
use Rattle.record_imports.specs.declared.grouping.Group.{Group}
use Rattle.record_imports.specs.Meaning.{world_id}

-- what an import names exists in the resolve, and the function of its role is the world's
pub record IsChecked (r : Resolve) (import : Import) : Type 0 where
  pub present : HasRole r import
  pub called : IsCalled r world_id import

-- no field of a module occurs twice, and each import is checked
pub record IsGood (r : Resolve) (g : Group) : Type 0 where
  pub apart : IsDistinct bytes_eq (keys_of g.fields)
  pub checks : AllByRecursion (λ f. IsChecked r f.1) g.fields

pub record AreGood (r : Resolve) (gs : List Group) : Type 0 where
  pub each : AllByRecursion (IsGood r) gs

-- the fields of a module, where they are listed one by one, and none occurs twice
abbrev pub HasDistinctFields : List ℕ × ImportInstance → Type 0
HasDistinctFields (name, instances.Names fields) = IsDistinct bytes_eq (map (λ f. f.0) fields)
HasDistinctFields (name, instances.Whole which) = Unit {0}

-- what holds of all imports, module by module
pub record AreChecked (r : Resolve) (modules : List (List ℕ × ImportInstance)) : Type 0 where
  pub present : AllByRecursion (λ i. HasRole r i.role) (flat_map imports_from modules)
  pub called : AllByRecursion (λ i. IsCalled r world_id i.role) (flat_map imports_from modules)
  pub apart : IsDistinct bytes_eq (keys_of modules)
  pub fields : AllByRecursion HasDistinctFields modules
