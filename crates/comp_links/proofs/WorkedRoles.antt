-- Worked examples: which roles of imports are called with a string encoding.
use Rattle.std.proofs.Common.{◌≡◌, List, ℕ, [], refl, true, false, None}
use Rattle.standard_kinds.specs.declared.kinds.ExportKind.TheVariants as kinds
use Rattle.wit_data.specs.declared.functions.AbiVariant.TheVariants.{GuestImport}
use Rattle.wit_data.specs.declared.ids.TypeId.{TypeId}
use Rattle.wit_data.specs.declared.worlds.WorldKey.{WorldKey}
use Rattle.wit_data.specs.declared.worlds.WorldKey.TheVariants as keys
use Rattle.comp_roles.specs.declared.imports.Import.TheVariants as imports
use Rattle.comp_links.specs.Roles.{needs_encoding}

pub functions_need_one : needs_encoding (imports.WorldFunc (keys.Name []) [] GuestImport) ≡ true
functions_need_one = refl

-- the drop of a resource, and a core item of another module, are given without one
pub drops_need_none : (resource : TypeId) → needs_encoding (imports.ImportedResourceDrop (keys.Name []) None resource) ≡ false
drops_need_none resource = refl

-- so are the functions of the handles of a resource that the component defines
pub own_handles_need_none : (key : WorldKey) (resource : TypeId) → needs_encoding (imports.ExportedResourceNew key resource) ≡ false
own_handles_need_none key resource = refl

pub main_exports_need_none : (name : List ℕ) → needs_encoding (imports.MainModuleExport name kinds.Func) ≡ false
main_exports_need_none name = refl
