-- The first import of a user module that needs a string encoding and has none.
use Rattle.std.proofs.Common.{◌≡◌, ◌∙◌, ℕ, Bool, true, false, List, [], Contains, Option, Some, None, if◌then◌else◌, refl, sym, ap, append_assoc}
use Rattle.std.specs.Prelude.{IsTrue, codes}
use Rattle.std.specs.List.{slice_get, flat_map}
use Rattle.std.specs.Option.{option_and_then}
use Rattle.std.proofs.lemmas.Option.{none-some, same_Some}
use Rattle.standard_kinds.specs.declared.kinds.StringEncoding.{StringEncoding}
use Rattle.wit_data.specs.declared.worlds.WorldKey.{WorldKey}
use Rattle.comp_roles.specs.CoreImports.{CoreImport}
use Rattle.comp_roles.specs.Functions.{of_function}
use Rattle.comp_roles.specs.declared.imports.Import.{Import}
use Rattle.comp_roles.specs.declared.imports.Import.TheVariants as imports
use Rattle.comp_worlds.specs.Encodable.{IsEncodable}
use Rattle.comp_worlds.specs.Uses.{imports_of}
use Rattle.comp_worlds.specs.declared.lowerings.Lowering.{Lowering}
use Rattle.comp_worlds.specs.declared.lowerings.Lowering.TheVariants as lowerings
use Rattle.comp_worlds.specs.declared.lowerings.LoweringKey.{LoweringKey}
use Rattle.comp_worlds.specs.declared.world.ComponentWorld.{ComponentWorld}
use Rattle.comp_worlds.specs.declared.world.ValidatedModule.{ValidatedModule}
use Rattle.shim_plan.specs.Encodings.{place_of, unencoded_if, unencoded_lowering, unencoded_import, unencoded_in, unencoded}
use Rattle.comp_worlds.specs.Lookups.{found_module}
use Rattle.shim_plan.specs.Needed.{lowering_of_call, returns_through}
use Rattle.world_shims.specs.WorldShims.{modules_in}
use Rattle.comp_links.specs.Links.{module_of}
use Rattle.comp_links.specs.Modules.{UserImport, module_found, user_imports}
use Rattle.comp_links.specs.Roles.{needs_encoding, encoding_in, import_encoding, field_path}
use Rattle.comp_links.specs.Targets.{UserModule}
use Rattle.shim_targets.proofs.Lists.{IsFirstOf, first_of_flat}
use Rattle.comp_links.proofs.Named.{same_found}
use Rattle.shim_targets.proofs.Users.{of_module}

missing : (i : CoreImport) (o : Option StringEncoding) (place : List ℕ) → slice_get (unencoded_if i o) 0 ≡ Some place → (o ≡ None) × (place ≡ field_path i.module_name i.field)
missing i None place e = (refl, sym (same_Some (place_of i) place e) ∙ append_assoc i.module_name (codes "::") i.field)
missing i (Some encoding) place e = absurd (none-some place e)

-- a call that is looked at is one through a table
at_call : (m : ValidatedModule) (i : CoreImport) (interface : Option WorldKey) (key : WorldKey) (function : LoweringKey) (o : Option Lowering) (place : List ℕ) →
    slice_get (unencoded_lowering m i (record { interface = interface; key = key; function = function }) o) 0 ≡ Some place →
    (of_function key function.name m.metadata.import_encodings ≡ None) × (place ≡ field_path i.module_name i.field)
at_call m i interface key function (Some (lowerings.Indirect sig options)) place e = missing i (of_function key function.name m.metadata.import_encodings) place e
at_call m i interface key function o place e = absurd (none-some place e)

-- what is so of an import whose place is returned
record IsUnencoded (m : ValidatedModule) (name field : List ℕ) (role : Import) (place : List ℕ) : Type 0 where
  needed : IsTrue (needs_encoding role)
  none : encoding_in role m ≡ None
  is : place ≡ field_path name field

at_import : (w : ComponentWorld) (m : ValidatedModule) (name field : List ℕ) (role : Import) (place : List ℕ) → slice_get (unencoded_import w m (record { module_name = name; field = field; role = role })) 0 ≡ Some place → IsUnencoded m name field role place
at_import w m name field (imports.WorldFunc key function abi) place e =
    let is = at_call m (record { module_name = name; field = field; role = imports.WorldFunc key function abi }) None key (record { name = function; abi = abi }) (lowering_of_call w (record { interface = None; key = key; function = record { name = function; abi = abi } })) place e in
    record { needed = refl; none = is.0; is = is.1 }
at_import w m name field (imports.InterfaceFunc key id function abi) place e =
    let is = at_call m (record { module_name = name; field = field; role = imports.InterfaceFunc key id function abi }) (Some key) key (record { name = function; abi = abi }) (lowering_of_call w (record { interface = Some key; key = key; function = record { name = function; abi = abi } })) place e in
    record { needed = refl; none = is.0; is = is.1 }
at_import w m name field (imports.ExportedTaskReturn key interface f) place e = by (returns_through w (record { key = key; interface = interface; function = f })) e
  where
    i : CoreImport
    i = record { module_name = name; field = field; role = imports.ExportedTaskReturn key interface f }

    by : (b : Bool) → slice_get (if b then unencoded_if i (of_function key f.name m.metadata.export_encodings) else []) 0 ≡ Some place → IsUnencoded m name field (imports.ExportedTaskReturn key interface f) place
    by true e = let is = missing i (of_function key f.name m.metadata.export_encodings) place e in record { needed = refl; none = is.0; is = is.1 }
    by false e = absurd (none-some place e)
at_import w m name field role place e = absurd (none-some place e)

-- the first of a module that is found
record IsFirstIn (w : ComponentWorld) (of : UserModule) (place : List ℕ) : Type 0 where
  found : ValidatedModule
  at : module_found w of ≡ Some found
  core : CoreImport
  there : Contains (imports_of found) core
  first : slice_get (unencoded_import w found core) 0 ≡ Some place

in_module : (w : ComponentWorld) (of : UserModule) (o : Option ValidatedModule) (place : List ℕ) → module_found w of ≡ o → slice_get (unencoded_in w o) 0 ≡ Some place → IsFirstIn w of place
in_module w of None place at e = absurd (none-some place e)
in_module w of (Some m) place at e =
    let first : IsFirstOf (unencoded_import w m) (imports_of m) place = first_of_flat (unencoded_import w m) (imports_of m) place e in
    record { found = m; at = at; core = first.x; there = first.there; first = first.first }

pub unencoded_is : (w : ComponentWorld) → IsEncodable w → (place : List ℕ) → slice_get (flat_map (unencoded w) (modules_in w)) 0 ≡ Some place →
    (i : UserImport) × Contains (user_imports w) i × IsTrue (needs_encoding i.core.role) × (import_encoding w i.of i.core.role ≡ None) × (place ≡ field_path i.core.module_name i.core.field)
unencoded_is w ok place e =
    let which : IsFirstOf (unencoded w) (modules_in w) place = first_of_flat (unencoded w) (modules_in w) place e in
    let of : UserModule = module_of which.x in
    let first : IsFirstIn w of place = in_module w of (found_module w which.x) place (same_found w which.x) which.first in
    let i : UserImport = record { of = of; core = first.core } in
    let is : IsUnencoded first.found i.core.module_name i.core.field i.core.role place = at_import w first.found i.core.module_name i.core.field i.core.role place first.first in
    (i, of_module w of first.found first.core first.at first.there, is.needed, ap (option_and_then (encoding_in i.core.role)) first.at ∙ is.none, is.is)
