-- What holds of the roles of a main module: the world has the function that the role of a root
-- function, or of an interface's function, names, under the role's key, and an exported function that
-- has a stream or a future is made of it; and each function that must be exported has a core export,
-- and the callback that its form asks for.
use Rattle.std.specs.Prelude.{◌≡◌, ℕ, true, false, List, [], ◌∷◌, Option, Some, None, Contains, IsSome, get_or, map}
use Rattle.std.specs.List.{AllByRecursion}
use Rattle.wit_data.specs.Live.{is_live}
use Rattle.wit_data.specs.declared.functions.Function.{Function}
use Rattle.wit_data.specs.declared.ids.InterfaceId.{InterfaceId}
use Rattle.wit_data.specs.declared.ids.TypeId.{TypeId}
use Rattle.wit_data.specs.declared.ids.WorldId.{WorldId}
use Rattle.wit_data.specs.declared.resolve.Resolve.{Resolve}
use Rattle.wit_data.specs.declared.worlds.WorldItem.{WorldItem}
use Rattle.wit_data.specs.declared.worlds.WorldItem.TheVariants as items
use Rattle.wit_data.specs.declared.worlds.WorldKey.{WorldKey}
use Rattle.wit_data.specs.declared.worlds.WorldKey.TheVariants as keys
use Rattle.comp_roles.specs.Functions.{of_function}
use Rattle.comp_roles.specs.Lookups.{Exports}
use Rattle.comp_roles.specs.declared.exports.Export.{Export}
use Rattle.comp_roles.specs.declared.exports.Export.TheVariants as exports
use Rattle.comp_roles.specs.declared.imports.Import.{Import}
use Rattle.comp_roles.specs.declared.imports.Import.TheVariants as imports
use Rattle.comp_roles.specs.declared.payloads.PayloadInfo.{PayloadInfo}
use Rattle.comp_roles.specs.declared.payloads.PayloadType.TheVariants as payloads
use Rattle.world_values.specs.CoreExports.{implementations}
use Rattle.world_values.specs.ExportForms.{IsFormed}
use Rattle.world_values.specs.Items.{no_items, functions_of}
use Rattle.world_values.specs.Mentions.{passed_types, payload_in}
use Rattle.record_core_types.specs.Asked.{imported_function, exported_function, exported_item, function_of, imported_interface, exported_interface}

-- the function of this name that the world exports at a key: at its root, or in this interface
abbrev pub exported_in : Resolve → WorldId → WorldKey → Option InterfaceId → List ℕ → Option Function
exported_in r w key None name = exported_function r w key
exported_in r w key (Some id) name = function_of r id name

-- the exported function of which a stream or a future is, where there is one, is made of it
pub record IsPayloadMet (r : Resolve) (w : WorldId) (p : PayloadInfo) : Type 0 where
  pub reached : (key : WorldKey) (id : TypeId) (name : List ℕ) (f : Function) → p.imported ≡ false → p.key ≡ Some key → p.ty ≡ payloads.Typed id name → exported_in r w key p.interface name ≡ Some f → is_live r.types (passed_types f) id.index ≡ true

abbrev pub IsMetIf : Resolve → WorldId → Option PayloadInfo → Type 0
IsMetIf r w None = Unit {0}
IsMetIf r w (Some p) = IsPayloadMet r w p

-- the world imports the root function of an import's role, under its own name, or the interface of
-- its role, which has the function; and a stream or a future of an exported function is met there
abbrev pub IsCalled : Resolve → WorldId → Import → Type 0
IsCalled r w (imports.WorldFunc (keys.Name text) function abi) = (function ≡ text) × IsSome (imported_function r w (keys.Name text))
IsCalled r w (imports.InterfaceFunc key id function abi) = (imported_interface r w key ≡ Some id) × IsSome (function_of r id function)
IsCalled r w role = IsMetIf r w (payload_in role)

-- the world exports the root function of an export's role, under its own name, and that of a
-- post-return or a callback; or the interface of the role, which has the function
abbrev pub IsLifted : Resolve → WorldId → Export → Type 0
IsLifted r w (exports.WorldFunc (keys.Name text) function abi) = (function ≡ text) × IsSome (exported_function r w (keys.Name text))
IsLifted r w (exports.InterfaceFunc key id function abi) = (exported_interface r w key ≡ Some id) × IsSome (function_of r id function)
IsLifted r w (exports.WorldFuncPostReturn (keys.Name text)) = IsSome (exported_function r w (keys.Name text))
IsLifted r w (exports.InterfaceFuncPostReturn key function) = (id : InterfaceId) × (exported_interface r w key ≡ Some id) × IsSome (function_of r id function)
IsLifted r w (exports.WorldFuncCallback (keys.Name text)) = IsSome (exported_function r w (keys.Name text))
IsLifted r w (exports.InterfaceFuncCallback key function) = (id : InterfaceId) × (exported_interface r w key ≡ Some id) × IsSome (function_of r id function)
IsLifted r w role = Unit {0}

-- the names that the functions of an item have themselves
abbrev pub own_names : Resolve → Option WorldItem → List (List ℕ)
own_names r (Some (items.Function f)) = f.name ∷ []
own_names r (Some (items.Interface id)) = map (λ e. e.1.name) (functions_of r id)
own_names r item = []

-- the world exports something at a key, and some core export implements each function there, with a
-- callback where its form asks for one
pub record IsKept (r : Resolve) (w : WorldId) (all : Exports) (key : WorldKey) : Type 0 where
  pub exported : Contains (map (λ e. e.0) (get_or r.worlds w.index no_items).exports) key
  pub present : AllByRecursion (λ name. IsSome (of_function key name (implementations all))) (own_names r (exported_item r w key))
  pub formed : AllByRecursion (IsFormed all key) (own_names r (exported_item r w key))
