-- A worked example: a world that imports a record and a function of it, and exports a function of a tuple.
use Rattle.std.specs.List.{IsDistinct}
use Rattle.comp_worlds.specs.WorldContents.{items_of}
use Rattle.wit_data.specs.Keys.{is_same_key}
use Rattle.std.specs.Map.{keys_of}
use Rattle.std.proofs.Common.{inl, ◌≡◌, ℕ, zero, suc, false, List, [], ◌∷◌, ◌++◌, refl, Some, None, map, arith}
use Rattle.std.specs.Prelude.{codes, Contains}
use Rattle.standard_kinds.specs.declared.kinds.ExportKind.TheVariants as kinds
use Rattle.standard_kinds.specs.declared.kinds.Primitive.{Primitive}
use Rattle.standard_kinds.specs.declared.kinds.Primitive.TheVariants as primitives
use Rattle.standard_kinds.specs.declared.kinds.StringEncoding.TheVariants as encodings
use Rattle.comp_bytes.proofs.Worked.{plain, f, g, root}
use Rattle.comp_bytes.specs.declared.space.Sort.TheVariants as sorts
use Rattle.comp_bytes.specs.declared.space.Space.TheVariants as spaces
use Rattle.comp_bytes.specs.declared.types.TypeDef.TheVariants as types
use Rattle.comp_bytes.specs.declared.types.DefinedType.TheVariants as defined
use Rattle.comp_bytes.specs.declared.types.ComponentValType.TheVariants as values
use Rattle.comp_bytes.specs.declared.types.Description.TheVariants as descriptions
use Rattle.comp_bytes.specs.declared.types.Alias.TheVariants as aliases
use Rattle.comp_bytes.specs.declared.def.Item.{Item}
use Rattle.comp_bytes.specs.declared.def.Item.TheVariants as items
use Rattle.comp_bytes.specs.declared.def.Def.{Def}
use Rattle.comp_bytes.specs.declared.def.Def.TheVariants as defs
use Rattle.core_types.specs.declared.types.FuncType.{FuncType}
use Rattle.core_types.specs.declared.types.ValType.TheVariants.{I32, I64}
use Rattle.core_runs.specs.Store.{Opaque, Instantiated}
use Rattle.wit_data.specs.Values.{values_from}
use Rattle.wit_data.specs.declared.types.Type.TheVariants.{Primitive as Simple, Id}
use Rattle.wit_data.specs.declared.types.TypeDef.{TypeDef}
use Rattle.wit_data.specs.declared.types.TypeDefKind.TheVariants as wit_kinds
use Rattle.wit_data.specs.declared.types.TypeOwner.TheVariants as owners
use Rattle.wit_data.specs.declared.functions.AbiVariant.TheVariants.{GuestImport, GuestExport}
use Rattle.wit_data.specs.declared.functions.Function.{Function}
use Rattle.wit_data.specs.declared.functions.FunctionKind.TheVariants.{Freestanding}
use Rattle.wit_data.specs.declared.worlds.WorldItem.TheVariants as world_items
use Rattle.wit_data.specs.declared.worlds.WorldKey.TheVariants as keys
use Rattle.comp_roles.specs.CoreTypes.{function_type}
use Rattle.comp_roles.specs.declared.exports.Export.TheVariants as exports
use Rattle.comp_roles.specs.declared.imports.Import.TheVariants as imports
use Rattle.comp_roles.specs.declared.imports.ImportInstance.TheVariants as instances
use Rattle.comp_roles.specs.declared.offered.ExternType.TheVariants as externs
use Rattle.comp_worlds.specs.WorldTables.{whole_of}
use Rattle.comp_worlds.specs.Worlds.{IsResource, IsWorld}
use Rattle.comp_worlds.specs.declared.world.ComponentWorld.{ComponentWorld}
use Rattle.comp_trees.specs.Trees.{PrimitiveOf, RecordOf, TupleOf, Nil, Cons, FunctionTree}
use Rattle.comp_runs.specs.Store.{Lowering, ExportedBy, Imported, Lifting}
use Rattle.link_laws.specs.Linking.{outcome}
use Rattle.link_laws.proofs.Steps.{no_modules}
use Rattle.link_laws.proofs.Worked.{Ended, ended, root_import, core_function, core_export, made, a, one_apart}
use Rattle.link_laws.proofs.WorkedApart.{one_key_apart}
use Rattle.link_laws.proofs.WorkedDrops.{none_apart}

-- ---- the world

abbrev pub p : List ℕ
p = codes "p"

-- a record of a u32 and a u8, and a tuple of two u32
abbrev wit_types : List TypeDef
wit_types =
    record {
      name = Some p;
      kind = wit_kinds.Record (record { name = codes "x"; ty = Simple primitives.U32 } ∷ record { name = codes "y"; ty = Simple primitives.U8 } ∷ []);
      owner = owners.World (record { index = 0 });
    }
    ∷ record { name = None; kind = wit_kinds.Tuple (Simple primitives.U32 ∷ Simple primitives.U32 ∷ []); owner = owners.«None» }
    ∷ []

-- f takes the record, and g the tuple
abbrev pub wit_f : Function
wit_f = record { name = f; kind = Freestanding; params = record { name = a; ty = Id (record { index = 0 }) } ∷ []; result = Some (Simple primitives.U8) }

abbrev pub wit_g : Function
wit_g = record { name = g; kind = Freestanding; params = record { name = a; ty = Id (record { index = 1 }) } ∷ []; result = Some (Simple primitives.U64) }

-- their core types
abbrev pub f_core : FuncType
f_core = function_type (I32 ∷ I32 ∷ []) (I32 ∷ [])

abbrev pub g_core : FuncType
g_core = function_type (I32 ∷ I32 ∷ []) (I64 ∷ [])

-- a module that imports f and exports g, which returns 0
abbrev core : List ℕ
core = 0x00 ∷ 0x61 ∷ 0x73 ∷ 0x6d ∷ 0x01 ∷ 0x00 ∷ 0x00 ∷ 0x00 ∷ 0x01 ∷ 0x0d ∷ 0x02 ∷ 0x60 ∷ 0x02 ∷ 0x7f ∷ 0x7f ∷ 0x01 ∷ 0x7f ∷ 0x60 ∷ 0x02 ∷ 0x7f ∷ 0x7f ∷ 0x01 ∷ 0x7e ∷ 0x02 ∷ 0x0b ∷ 0x01 ∷ 0x05 ∷ 0x24 ∷ 0x72 ∷ 0x6f ∷ 0x6f ∷ 0x74 ∷ 0x01 ∷ 0x66 ∷ 0x00 ∷ 0x00 ∷ 0x03 ∷ 0x02 ∷ 0x01 ∷ 0x01 ∷ 0x07 ∷ 0x05 ∷ 0x01 ∷ 0x01 ∷ 0x67 ∷ 0x00 ∷ 0x01 ∷ 0x0a ∷ 0x06 ∷ 0x01 ∷ 0x04 ∷ 0x00 ∷ 0x42 ∷ 0x00 ∷ 0x0b ∷ []

abbrev pub world : ComponentWorld
world = whole_of (record {
  resolve = record {
    interfaces = [];
    types = wit_types;
    worlds = record {
      imports = (keys.Name p, world_items.NamedType (record { index = 0 })) ∷ (keys.Name f, world_items.Function wit_f) ∷ [];
      exports = (keys.Name g, world_items.Function wit_g) ∷ [];
    } ∷ [];
  };
  world = record { index = 0 };
  main = record {
    bytes = core;
    imports = record { modules = (root, instances.Names ((f, imports.WorldFunc (keys.Name f) f GuestImport) ∷ [])) ∷ [] };
    exports = record { exports = (g, exports.WorldFunc (keys.Name g) g GuestExport) ∷ [] };
    imported = record { module_name = root; field = f; ty = externs.Func f_core } ∷ [];
    offered = (g, externs.Func g_core) ∷ [];
    metadata = record { import_encodings = (record { key = keys.Name f; function = f }, encodings.UTF8) ∷ []; export_encodings = [] };
  };
  main_exports = keys.Name g ∷ [];
  adapters = [];
  can_use_context_slot_1 = false;
})

-- no call of them needs an option
-- none of the types is a resource
no_resource : (n : ℕ) → IsResource wit_types n → Contains (0 ∷ []) n
no_resource zero h = let k = h.kind in cc
no_resource (suc zero) h = let k = h.kind in cc
no_resource (suc (suc n)) h = let l = h.present in absurd (omega (arith, l))

keys_apart : IsDistinct is_same_key (keys_of (items_of world).imports)
unfolding IsDistinct
keys_apart = ((refl, tt), (tt, tt))

pub is_world : IsWorld world
unfolding values_from
is_world = record {
  present = omega arith;
  imports = (tt, (refl, tt));
  exports = (refl, tt);
  import_keys_apart = keys_apart;
  import_names_apart = one_apart f;
  export_keys_apart = one_key_apart (keys.Name g);
  export_names_apart = one_apart g;
  exports_named = (tt, tt);
  exported_interfaces_apart = none_apart;
  main = record {
    core = refl;
    modules_apart = one_apart root;
    import_roles = ((one_apart f, (((0, omega arith, refl), refl, tt), tt)), tt);
    own_keys = (tt, tt);
    imported = (inl (record { role = imports.WorldFunc (keys.Name f) f GuestImport; has_role = refl; fits = refl }), tt);
    export_roles = (((0, omega arith, refl), refl, tt), tt);
    exported = (record { type = externs.Func g_core; offered = refl; fits = refl }, tt);
    required = (record { exported = (0, omega arith, refl); present = (refl, tt); formed = (tt, tt) }, tt);
  };
  main_first = ((tt, tt), tt);
  adapters = tt;
  adapters_apart = none_apart;
  keys_apart = one_key_apart (keys.Name g);
}

-- ---- a list for it

abbrev record_type : Item
record_type = items.Type (types.Defined (defined.Record (record { name = codes "x"; ty = values.Primitive primitives.U32 } ∷ record { name = codes "y"; ty = values.Primitive primitives.U8 } ∷ [])))

-- a type of functions from the type of this index to a number
abbrev from_type : ℕ → Primitive → Item
from_type index to = items.Type (types.Func (record { async_ = false; params = record { name = a; ty = values.Defined index } ∷ []; result = Some (values.Primitive to) }))

-- the list that begins with these definitions, where f has the type of one index, this many types
-- come before the tuple, and the lift is of the type of another index
abbrev list_from : List Item → ℕ → ℕ → ℕ → List Def
list_from front f_kind before g_kind = map defs.Item (
    front
    ++ items.Import (plain f) (descriptions.Func f_kind)
    ∷ items.CoreModule core
    ∷ items.Lower 0 []
    ∷ items.CoreExports (record { name = f; kind = kinds.Func; index = 0 } ∷ [])
    ∷ items.CoreInstantiate 0 (record { name = root; instance = 0 } ∷ [])
    ∷ items.Alias (aliases.CoreExport kinds.Func 1 g)
    ∷ items.Type (types.Defined (defined.Tuple (values.Primitive primitives.U32 ∷ values.Primitive primitives.U32 ∷ [])))
    ∷ from_type before primitives.U64
    ∷ items.Lift 1 [] g_kind
    ∷ items.Export (plain g) sorts.Func 1 None
    ∷ [])

-- the list, where the lift is of the type of this index
abbrev pub typed_list : ℕ → List Def
typed_list = list_from (record_type ∷ items.Import (plain p) (descriptions.TypeEqual 0) ∷ from_type 1 primitives.U8 ∷ []) 2 3

-- the list that imports a u8 under the name of the record
abbrev pub misnamed : List Def
misnamed = list_from (record_type ∷ items.Type (types.Defined (defined.Primitive primitives.U8)) ∷ items.Import (plain p) (descriptions.TypeEqual 1) ∷ from_type 0 primitives.U8 ∷ []) 3 4 5

-- the types of f and g
abbrev pub f_tree : FunctionTree
f_tree = record {
  is_async = false;
  params = record { name = a; tree = RecordOf (codes "x" ∷ codes "y" ∷ []) (Cons (PrimitiveOf primitives.U32) (Cons (PrimitiveOf primitives.U8) Nil)) } ∷ [];
  result = Some (PrimitiveOf primitives.U8);
}

abbrev pub g_tree : FunctionTree
g_tree = record {
  is_async = false;
  params = record { name = a; tree = TupleOf (Cons (PrimitiveOf primitives.U32) (Cons (PrimitiveOf primitives.U32) Nil)) } ∷ [];
  result = Some (PrimitiveOf primitives.U64);
}

-- how running it ends, where the lift is of this type
abbrev end_with : FunctionTree → Ended
end_with type = record {
  code = Opaque 0 f_core ∷ Opaque 1 g_core ∷ [];
  known = Lowering 0 [] ∷ ExportedBy 0 g ∷ [];
  functions = Imported (root_import 1) f_tree ∷ Lifting 1 [] type ∷ [];
  users = record { module_number = 0; given = core_function 0 ∷ []; exports = core_export g 1 ∷ [] } ∷ [];
  exported = record { space = spaces.Func; name = g; address = 1 } ∷ [];
  events = Instantiated 0 ∷ [];
}

pub typed_list_ends : ended (outcome world no_modules (typed_list 4) made) ≡ Some (end_with g_tree)
typed_list_ends = refl

-- ---- where the lift is of the type of f, the run ends, but it isn't linked

pub exchanged_ends : ended (outcome world no_modules (typed_list 2) made) ≡ Some (end_with f_tree)
exchanged_ends = refl

-- the list that imports another type ends in the same way: no function is of a wrong type
pub misnamed_ends : ended (outcome world no_modules misnamed made) ≡ Some (end_with g_tree)
misnamed_ends = refl
