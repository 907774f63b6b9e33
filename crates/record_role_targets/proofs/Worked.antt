-- What roles and keys of a small world resolve to, worked: an interface that is imported as "i" and
-- exported as "j", where it is a copy of its own.
use Rattle.std.proofs.Common.{◌≡◌, ℕ, ◌+◌, List, [], ◌∷◌, ◌++◌, Some, None, refl, true, false}
use Rattle.std.specs.Prelude.{codes}
use Rattle.standard_kinds.specs.declared.kinds.Primitive.TheVariants as prims
use Rattle.wit_data.specs.Values.{values_from}
use Rattle.wit_data.specs.declared.functions.AbiVariant.TheVariants as abis
use Rattle.wit_data.specs.declared.functions.Function.{Function}
use Rattle.wit_data.specs.declared.functions.FunctionKind.TheVariants as forms
use Rattle.wit_data.specs.declared.ids.InterfaceId.{InterfaceId}
use Rattle.wit_data.specs.declared.ids.TypeId.{TypeId}
use Rattle.wit_data.specs.declared.resolve.Interface.{Interface}
use Rattle.wit_data.specs.declared.types.Type.TheVariants as types
use Rattle.wit_data.specs.declared.types.TypeDef.{TypeDef}
use Rattle.wit_data.specs.declared.types.TypeDefKind.{TypeDefKind}
use Rattle.wit_data.specs.declared.types.TypeDefKind.TheVariants as kinds
use Rattle.wit_data.specs.declared.types.TypeOwner.TheVariants as positions
use Rattle.wit_data.specs.declared.worlds.WorldItem.TheVariants as items
use Rattle.wit_data.specs.declared.worlds.WorldKey.TheVariants as keys
use Rattle.comp_roles.specs.declared.exports.Export.TheVariants as exports
use Rattle.comp_roles.specs.declared.imports.Import.TheVariants as imports
use Rattle.comp_roles.specs.declared.payloads.PayloadType.TheVariants as types_of
use Rattle.record_values.specs.declared.names.InterfaceName.{InterfaceName}
use Rattle.record_values.specs.declared.names.InterfaceName.TheVariants as names
use Rattle.record_values.specs.declared.names.Owner.{Owner}
use Rattle.record_values.specs.declared.names.Owner.TheVariants as owners
use Rattle.record_values.specs.declared.names.TypeName.{TypeName}
use Rattle.record_values.specs.declared.roles.ExportRole.TheVariants as export_roles
use Rattle.record_values.specs.declared.roles.ImportRole.TheVariants as import_roles
use Rattle.record_values.specs.declared.roles.Payload.TheVariants as payloads
use Rattle.record_values.specs.declared.roles.PayloadKind.TheVariants as payload_kinds
use Rattle.record_values.specs.declared.roles.PayloadOperation.TheVariants as operations
use Rattle.record_values.specs.declared.world.ItemKey.TheVariants as item_keys
use Rattle.record_resolve.specs.declared.resolving.Resolved.{Resolved}
use Rattle.record_role_targets.specs.declared.sides.Side.TheVariants as sides
use Rattle.record_role_targets.specs.Keys.{resolved_key}
use Rattle.record_role_targets.specs.Payloads.{met_in_function}
use Rattle.record_role_targets.specs.Imports.{resolved_import}
use Rattle.record_role_targets.specs.Exports.{resolved_export}

abbrev type_id : ℕ → TypeId
type_id n = record { index = n }

abbrev interface_id : ℕ → InterfaceId
interface_id n = record { index = n }

abbrev unnamed : TypeDefKind → TypeDef
unnamed kind = record { name = None; kind = kind; owner = positions.«None» }

-- a resource r, a stream of bytes, an owned r, a future of such a stream, and another name t for a pair of the two
abbrev copy_from : ℕ → ℕ → List TypeDef
copy_from n interface =
    record { name = Some (codes "r"); kind = kinds.Resource; owner = positions.Interface (interface_id interface) }
    ∷ unnamed (kinds.Stream (Some (types.Primitive prims.U8)))
    ∷ unnamed (kinds.Own (type_id n))
    ∷ unnamed (kinds.Future (Some (types.Id (type_id (n + 1)))))
    ∷ record { name = Some (codes "t"); kind = kinds.Tuple (types.Id (type_id (n + 3)) ∷ types.Id (type_id (n + 1)) ∷ []); owner = positions.Interface (interface_id interface) }
    ∷ []

-- a function that takes a t and an owned r, and returns a stream of bytes
abbrev f_from : ℕ → Function
f_from n = record {
  name = codes "f";
  kind = forms.Freestanding;
  params = record { name = codes "a"; ty = types.Id (type_id (n + 4)) } ∷ record { name = codes "b"; ty = types.Id (type_id (n + 2)) } ∷ [];
  result = Some (types.Id (type_id (n + 1)));
}

abbrev interface_from : ℕ → Interface
interface_from n = record { id = None; types = (codes "r", type_id n) ∷ (codes "t", type_id (n + 4)) ∷ []; functions = (codes "f", f_from n) ∷ [] }

abbrev i : InterfaceName
i = names.Imported (codes "i")

abbrev small : Resolved
small = record {
  resolve = record {
    interfaces = interface_from 0 ∷ interface_from 5 ∷ [];
    types = copy_from 0 0 ++ copy_from 5 1;
    worlds = record {
      imports = (keys.Name (codes "i"), items.Interface (interface_id 0)) ∷ [];
      exports = (keys.Name (codes "j"), items.Interface (interface_id 1)) ∷ [];
    } ∷ [];
  };
  imported = (i, interface_id 0) ∷ [];
  exported = (i, interface_id 1) ∷ [];
  imported_keys = (interface_id 0, keys.Name (codes "i")) ∷ [];
  exported_keys = (interface_id 1, keys.Name (codes "j")) ∷ [];
}

abbrev of_i : Owner
of_i = owners.Interface i

abbrev r_of_i : TypeName
r_of_i = record { owner = of_i; name = codes "r" }

-- the stream in the future, the future, the stream again, nothing for the handle, and the stream of the result
counted : met_in_function small.resolve.types (f_from 0) ≡ type_id 1 ∷ type_id 3 ∷ type_id 1 ∷ type_id 1 ∷ []
unfolding values_from
counted = refl

-- a read of the future, which is the second
a_read : resolved_import small (codes "x") (import_roles.Payload payload_kinds.Future operations.Read (payloads.Met true of_i (codes "f") 1) true) None
    ≡ Some (imports.FutureRead (record { name = codes "x"; ty = types_of.Typed (type_id 3) (codes "f"); key = Some (keys.Name (codes "i")); interface = Some (interface_id 0); imported = true }) true)
unfolding values_from
a_read = refl

-- the last stream of the exported copy, and none after it
the_last : resolved_import small (codes "x") (import_roles.Payload payload_kinds.Stream operations.New (payloads.Met false of_i (codes "f") 3) false) None
    ≡ Some (imports.StreamNew (record { name = codes "x"; ty = types_of.Typed (type_id 6) (codes "f"); key = Some (keys.Name (codes "j")); interface = Some (interface_id 1); imported = false }))
unfolding values_from
the_last = refl

none_after : resolved_import small (codes "x") (import_roles.Payload payload_kinds.Stream operations.New (payloads.Met false of_i (codes "f") 4) false) None ≡ None
unfolding values_from
none_after = refl

-- resources of either side
imported_drops : resolved_import small (codes "x") (import_roles.ImportedDrop r_of_i) None ≡ Some (imports.ImportedResourceDrop (keys.Name (codes "i")) (Some (interface_id 0)) (type_id 0))
imported_drops = refl

exported_reps : resolved_import small (codes "x") (import_roles.ExportedRep r_of_i) None ≡ Some (imports.ExportedResourceRep (keys.Name (codes "j")) (type_id 5))
exported_reps = refl

-- a function that the interface does not have
lacks_g : resolved_import small (codes "x") (import_roles.Function of_i (codes "g") abis.GuestImport) None ≡ None
lacks_g = refl

-- exports have the name of the exported side
exports_f : resolved_export small (export_roles.Function of_i (codes "f") abis.GuestExport) None ≡ Some (exports.InterfaceFunc (keys.Name (codes "j")) (interface_id 1) (codes "f") abis.GuestExport)
exports_f = refl

-- a key exists on one side
has_j : resolved_key sides.Exported small (item_keys.Name (codes "j")) ≡ Some (keys.Name (codes "j"))
has_j = refl

lacks_i : resolved_key sides.Exported small (item_keys.Name (codes "i")) ≡ None
lacks_i = refl
