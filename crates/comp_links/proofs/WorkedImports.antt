-- A worked example: a world that imports two interfaces, of which the second has a function of a record of the first.
use Rattle.std.proofs.Common.{◌≡◌, ◌++◌, ℕ, false, List, [], ◌∷◌, refl, Some, None}
use Rattle.std.specs.Prelude.{codes}
use Rattle.standard_kinds.specs.declared.kinds.Primitive.TheVariants as primitives
use Rattle.standard_kinds.specs.declared.kinds.StringEncoding.TheVariants as encodings
use Rattle.core_types.specs.Core.{core_preamble}
use Rattle.core_types.specs.declared.types.FuncType.{FuncType}
use Rattle.core_types.specs.declared.types.ValType.TheVariants.{I32}
use Rattle.wit_data.specs.Values.{values_from}
use Rattle.wit_data.specs.declared.ids.InterfaceId.{InterfaceId}
use Rattle.wit_data.specs.declared.ids.TypeId.{TypeId}
use Rattle.wit_data.specs.declared.resolve.Interface.{Interface}
use Rattle.wit_data.specs.declared.types.Type.TheVariants.{Primitive as Simple, Id}
use Rattle.wit_data.specs.declared.types.TypeDef.{TypeDef}
use Rattle.wit_data.specs.declared.types.TypeDefKind.TheVariants as wit_kinds
use Rattle.wit_data.specs.declared.types.TypeOwner.TheVariants as owners
use Rattle.wit_data.specs.declared.functions.AbiVariant.TheVariants.{GuestImport}
use Rattle.wit_data.specs.declared.functions.Function.{Function}
use Rattle.wit_data.specs.declared.functions.FunctionKind.TheVariants.{Freestanding}
use Rattle.wit_data.specs.declared.worlds.WorldItem.{WorldItem}
use Rattle.wit_data.specs.declared.worlds.WorldItem.TheVariants as world_items
use Rattle.wit_data.specs.declared.worlds.WorldKey.{WorldKey}
use Rattle.wit_data.specs.declared.worlds.WorldKey.TheVariants as keys
use Rattle.comp_roles.specs.CoreTypes.{function_type}
use Rattle.comp_roles.specs.declared.imports.Import.{Import}
use Rattle.comp_roles.specs.declared.imports.Import.TheVariants as imports
use Rattle.comp_roles.specs.declared.imports.ImportInstance.TheVariants as instances
use Rattle.comp_roles.specs.declared.offered.ExternType.TheVariants as externs
use Rattle.comp_worlds.specs.WorldTables.{whole_of}
use Rattle.comp_worlds.specs.declared.world.ComponentWorld.{ComponentWorld}
use Rattle.comp_links.specs.Lists.{ImportedInterface, WorldType, import_entries, names_of_interface, number_of_type, origin_of_type, component_types}

-- ---- the world

-- an interface a:b/NAME, its types and its functions
abbrev pub interface_of : List ℕ → List (List ℕ × TypeId) → List (List ℕ × Function) → Interface
interface_of name types functions = record { id = Some (record { namespace = codes "a"; «package» = codes "b"; interface = name; version = None }); types = types; functions = functions }

abbrev pub interface_id : ℕ → InterfaceId
interface_id number = record { index = number }

abbrev pub type_id : ℕ → TypeId
type_id number = record { index = number }

-- an interface that a world imports under its name
abbrev pub import_of_interface : ℕ → WorldKey × WorldItem
import_of_interface number = (keys.Interface (interface_id number), world_items.Interface (interface_id number))

abbrev pub f : List ℕ
f = codes "f"

abbrev pub p : List ℕ
p = codes "p"

abbrev pub v : List ℕ
v = codes "v"

abbrev pub x : List ℕ
x = codes "x"

-- the module name of the imports from the second interface
abbrev pub from_u : List ℕ
from_u = codes "a:b/u"

-- a record of one u32, of the first interface
abbrev record_of : List ℕ → List ℕ → TypeDef
record_of name field = record { name = Some name; kind = wit_kinds.Record (record { name = field; ty = Simple primitives.U32 } ∷ []); owner = owners.Interface (interface_id 0) }

abbrev pub wit_types : List TypeDef
wit_types = record_of p x ∷ record_of (codes "q") (codes "y") ∷ []

abbrev pub wit_f : Function
wit_f = record { name = f; kind = Freestanding; params = record { name = v; ty = Id (type_id 0) } ∷ []; result = Some (Simple primitives.U32) }

abbrev pub f_core : FuncType
f_core = function_type (I32 ∷ []) (I32 ∷ [])

abbrev pub f_role : Import
f_role = imports.InterfaceFunc (keys.Interface (interface_id 1)) (interface_id 1) f GuestImport

-- a module that imports f
abbrev pub core : List ℕ
core = core_preamble ++ (0x01 ∷ 0x06 ∷ 0x01 ∷ 0x60 ∷ 0x01 ∷ 0x7f ∷ 0x01 ∷ 0x7f ∷ 0x02 ∷ 0x0b ∷ 0x01 ∷ 0x05 ∷ from_u) ++ (0x01 ∷ f) ++ (0x00 ∷ 0x00 ∷ [])

-- a:b/t has the records p and q, and a:b/u the function f of p; main imports f
abbrev pub world : ComponentWorld
world = whole_of (record {
  resolve = record {
    interfaces = interface_of (codes "t") ((p, type_id 0) ∷ (codes "q", type_id 1) ∷ []) [] ∷ interface_of (codes "u") [] ((f, wit_f) ∷ []) ∷ [];
    types = wit_types;
    worlds = record { imports = import_of_interface 0 ∷ import_of_interface 1 ∷ []; exports = [] } ∷ [];
  };
  world = record { index = 0 };
  main = record {
    bytes = core;
    imports = record { modules = (from_u, instances.Names ((f, f_role) ∷ [])) ∷ [] };
    exports = record { exports = [] };
    imported = record { module_name = from_u; field = f; ty = externs.Func f_core } ∷ [];
    offered = [];
    metadata = record { import_encodings = (record { key = keys.Interface (interface_id 1); function = f }, encodings.UTF8) ∷ []; export_encodings = [] };
  };
  main_exports = [];
  adapters = [];
  can_use_context_slot_1 = false;
})

-- ---- what a component for it imports

-- of the first interface the record that f takes, and not the other one; of the second the function
pub names_of_t : names_of_interface world (interface_id 0) ≡ p ∷ []
unfolding values_from
names_of_t = refl

pub names_of_u : names_of_interface world (interface_id 1) ≡ f ∷ []
unfolding values_from
names_of_u = refl

pub both_imported : import_entries world ≡ ImportedInterface (keys.Interface (interface_id 0)) (interface_id 0) ∷ ImportedInterface (keys.Interface (interface_id 1)) (interface_id 1) ∷ []
unfolding values_from
both_imported = refl

pub record_imported : component_types world ≡ type_id 0 ∷ []
unfolding values_from
record_imported = refl

-- it is imported in the instance of the first interface, under its name
pub record_origin : origin_of_type world (type_id 0) ≡ record { number = 0; inner = Some p }
unfolding values_from
record_origin = refl

-- a type at the root has the number of an import behind those of the interfaces
pub root_type_behind : number_of_type (type_id 2) (import_entries world ++ WorldType x (type_id 2) ∷ []) ≡ 2
unfolding values_from
root_type_behind = refl
