-- A worked example: a world that exports a function of a text, with a post-return. Its lift has a
-- memory, a realloc, a string encoding and the post-return; with the realloc and the post-return
-- crossed the list runs to its end, but it isn't linked.
use Rattle.comp_worlds.specs.WorldContents.{items_of}
use Rattle.wit_data.specs.Keys.{is_same_key}
use Rattle.std.specs.Map.{keys_of}
use Rattle.comp_links.specs.Naming.{own_names}
use Rattle.std.proofs.Common.{inl, ◌≡◌, ℕ, false, true, List, [], ◌∷◌, refl, subst, Some, None, map, take, arith}
use Rattle.std.specs.Prelude.{codes}
use Rattle.std.specs.List.{slice_get, IsDistinct}
use Rattle.standard_kinds.specs.declared.kinds.ExportKind.{ExportKind}
use Rattle.standard_kinds.specs.declared.kinds.ExportKind.TheVariants as kinds
use Rattle.standard_kinds.specs.declared.kinds.Primitive.TheVariants as primitives
use Rattle.standard_kinds.specs.declared.kinds.StringEncoding.TheVariants as encodings
use Rattle.comp_bytes.proofs.Worked.{plain, g}
use Rattle.comp_bytes.specs.ItemIndices.{in_space}
use Rattle.comp_bytes.specs.declared.canon.CanonicalOption.{CanonicalOption}
use Rattle.comp_bytes.specs.declared.canon.CanonicalOption.TheVariants as canonical
use Rattle.comp_bytes.specs.declared.space.Sort.TheVariants as sorts
use Rattle.comp_bytes.specs.declared.space.Space.TheVariants as spaces
use Rattle.comp_bytes.specs.declared.types.TypeDef.TheVariants as types
use Rattle.comp_bytes.specs.declared.types.FuncTypeDef.{FuncTypeDef}
use Rattle.comp_bytes.specs.declared.types.ComponentValType.TheVariants as values
use Rattle.comp_bytes.specs.declared.types.Alias.TheVariants as aliases
use Rattle.comp_bytes.specs.declared.def.Item.TheVariants as items
use Rattle.comp_bytes.specs.declared.def.Def.{Def}
use Rattle.comp_bytes.specs.declared.def.Def.TheVariants as defs
use Rattle.core_types.specs.declared.types.FuncType.{FuncType}
use Rattle.core_types.specs.declared.types.MemoryType.{MemoryType}
use Rattle.core_types.specs.declared.types.ValType.TheVariants.{I32}
use Rattle.wit_data.specs.Values.{values_from}
use Rattle.wit_data.specs.declared.types.Type.TheVariants.{Primitive as Simple}
use Rattle.wit_data.specs.declared.functions.AbiVariant.TheVariants.{GuestExport}
use Rattle.wit_data.specs.declared.functions.Function.{Function}
use Rattle.wit_data.specs.declared.functions.FunctionKind.TheVariants.{Freestanding}
use Rattle.wit_data.specs.declared.worlds.WorldItem.TheVariants as world_items
use Rattle.wit_data.specs.declared.worlds.WorldKey.TheVariants as keys
use Rattle.comp_roles.specs.CoreTypes.{function_type}
use Rattle.comp_roles.specs.declared.exports.Export.TheVariants as exports
use Rattle.comp_roles.specs.declared.offered.ExternType.TheVariants as externs
use Rattle.comp_worlds.specs.WorldTables.{whole_of}
use Rattle.comp_worlds.specs.Worlds.{IsWorld}
use Rattle.comp_worlds.specs.declared.world.ComponentWorld.{ComponentWorld}
use Rattle.comp_trees.specs.Trees.{PrimitiveOf, FunctionTree, is_known_function}
use Rattle.comp_trees.specs.DefinedTrees.{function_tree}
use Rattle.comp_inventories.specs.Inventories.{inventory, scope_of}
use Rattle.comp_links.specs.Links.{lift_of}
use Rattle.comp_links.specs.Targets.{Main, TargetOption, Lifted}
use Rattle.comp_links.specs.Targets as targets
use Rattle.comp_terms.specs.Terms.{CoreExport, IsInstanceOf, IsExported, IsFunctionType}
use Rattle.comp_terms.specs.Terms as terms
use Rattle.comp_terms.specs.Planned.{type_of_function, IsExportFor, IsLiftFor}
use Rattle.comp_terms.specs.Rules.{IsBuilt}
use Rattle.comp_terms.specs.Exports.{ExportsFunction}
use Rattle.link_laws.specs.Linking.{outcome, IsLinked, Links}
use Rattle.link_laws.proofs.BaseRoles.{no_bases}
use Rattle.link_laws.proofs.Stores.{main_module}
use Rattle.link_laws.proofs.Steps.{no_modules}
use Rattle.link_laws.proofs.Runs.{links}
use Rattle.link_laws.proofs.Worked.{made, machine_of, one_apart}
use Rattle.link_laws.proofs.WorkedDrops.{none_apart}
use Rattle.link_laws.proofs.WorkedApart.{one_key_apart, functions_apart}

-- ---- the world

abbrev r : List ℕ
r = codes "r"

abbrev p : List ℕ
p = codes "p"

abbrev memory : List ℕ
memory = codes "memory"

abbrev s : List ℕ
s = codes "s"

-- g takes a text
abbrev wit_g : Function
wit_g = record { name = g; kind = Freestanding; params = record { name = s; ty = Simple primitives.«String» } ∷ []; result = None }

abbrev g_core : FuncType
g_core = function_type (I32 ∷ I32 ∷ []) []

abbrev r_core : FuncType
r_core = function_type (I32 ∷ I32 ∷ I32 ∷ I32 ∷ []) (I32 ∷ [])

abbrev p_core : FuncType
p_core = function_type [] []

abbrev memory_type : MemoryType
memory_type = record { minimum = 1; maximum = None }

-- a module that exports a memory, the realloc r, g, and its post-return p
abbrev core : List ℕ
core = 0x00 ∷ 0x61 ∷ 0x73 ∷ 0x6d ∷ 0x01 ∷ 0x00 ∷ 0x00 ∷ 0x00 ∷ 0x01 ∷ 0x11 ∷ 0x03 ∷ 0x60 ∷ 0x04 ∷ 0x7f ∷ 0x7f ∷ 0x7f ∷ 0x7f ∷ 0x01 ∷ 0x7f ∷ 0x60 ∷ 0x02 ∷ 0x7f ∷ 0x7f ∷ 0x00 ∷ 0x60 ∷ 0x00 ∷ 0x00 ∷ 0x03 ∷ 0x04 ∷ 0x03 ∷ 0x00 ∷ 0x01 ∷ 0x02 ∷ 0x05 ∷ 0x03 ∷ 0x01 ∷ 0x00 ∷ 0x01 ∷ 0x07 ∷ 0x16 ∷ 0x04 ∷ 0x06 ∷ 0x6d ∷ 0x65 ∷ 0x6d ∷ 0x6f ∷ 0x72 ∷ 0x79 ∷ 0x02 ∷ 0x00 ∷ 0x01 ∷ 0x72 ∷ 0x00 ∷ 0x00 ∷ 0x01 ∷ 0x67 ∷ 0x00 ∷ 0x01 ∷ 0x01 ∷ 0x70 ∷ 0x00 ∷ 0x02 ∷ 0x0a ∷ 0x0d ∷ 0x03 ∷ 0x03 ∷ 0x00 ∷ 0x00 ∷ 0x0b ∷ 0x03 ∷ 0x00 ∷ 0x00 ∷ 0x0b ∷ 0x03 ∷ 0x00 ∷ 0x00 ∷ 0x0b ∷ []

abbrev world : ComponentWorld
world = whole_of (record {
  resolve = record {
    interfaces = [];
    types = [];
    worlds = record { imports = []; exports = (keys.Name g, world_items.Function wit_g) ∷ [] } ∷ [];
  };
  world = record { index = 0 };
  main = record {
    bytes = core;
    imports = record { modules = [] };
    exports = record {
      exports = (g, exports.WorldFunc (keys.Name g) g GuestExport) ∷ (r, exports.GeneralPurposeRealloc) ∷ (memory, exports.Memory memory_type) ∷ (p, exports.WorldFuncPostReturn (keys.Name g)) ∷ [];
    };
    imported = [];
    offered = (memory, externs.Memory memory_type) ∷ (r, externs.Func r_core) ∷ (g, externs.Func g_core) ∷ (p, externs.Func p_core) ∷ [];
    metadata = record { import_encodings = []; export_encodings = (record { key = keys.Name g; function = g }, encodings.UTF8) ∷ [] };
  };
  main_exports = keys.Name g ∷ [];
  adapters = [];
  can_use_context_slot_1 = false;
})

keys_apart : IsDistinct is_same_key (keys_of (items_of world).imports)
unfolding IsDistinct
keys_apart = tt

is_world : IsWorld world
unfolding values_from
is_world = record {
  present = omega arith;
  imports = tt;
  exports = (refl, tt);
  import_keys_apart = keys_apart;
  import_names_apart = none_apart;
  export_keys_apart = one_key_apart (keys.Name g);
  export_names_apart = one_apart g;
  exports_named = (tt, tt);
  exported_interfaces_apart = none_apart;
  main = record {
    core = refl;
    modules_apart = none_apart;
    import_roles = tt;
    own_keys = tt;
    imported = tt;
    export_roles = (((0, omega arith, refl), refl, tt), (tt, (tt, ((0, omega arith, refl), tt))));
    exported = (record { type = externs.Func g_core; offered = refl; fits = refl }, (record { type = externs.Func r_core; offered = refl; fits = refl }, (record { type = externs.Memory memory_type; offered = refl; fits = refl }, (record { type = externs.Func p_core; offered = refl; fits = refl }, tt))));
    required = (record { exported = (0, omega arith, refl); present = (refl, tt); formed = (tt, tt) }, tt);
  };
  main_first = tt;
  adapters = tt;
  adapters_apart = none_apart;
  keys_apart = one_key_apart (keys.Name g);
}

-- the options that the link table names
abbrev named_options : List TargetOption
named_options = targets.Memory ∷ targets.Realloc (record { of = Main; name = r }) ∷ targets.Encoding encodings.UTF8 ∷ targets.PostReturn (record { of = Main; name = p }) ∷ []

table_names_them : lift_of world (record { of = Main; key = keys.Name g; function = g }) ≡ Some (Lifted (record { of = Main; name = g }) named_options)
unfolding values_from
table_names_them = refl

-- ---- a list for it

abbrev text_type : FuncTypeDef
text_type = record { async_ = false; params = record { name = s; ty = values.Primitive primitives.«String» } ∷ []; result = None }

-- the list, where the lift has these options
abbrev lifting : List CanonicalOption → List Def
lifting options = map defs.Item (
    items.CoreModule core
    ∷ items.CoreInstantiate 0 []
    ∷ items.Alias (aliases.CoreExport kinds.Memory 0 memory)
    ∷ items.Type (types.Func text_type)
    ∷ items.Alias (aliases.CoreExport kinds.Func 0 g)
    ∷ items.Alias (aliases.CoreExport kinds.Func 0 r)
    ∷ items.Alias (aliases.CoreExport kinds.Func 0 p)
    ∷ items.Lift 0 options 0
    ∷ items.Export (plain g) sorts.Func 0 None
    ∷ [])

abbrev right_options : List CanonicalOption
right_options = canonical.Memory 0 ∷ canonical.Realloc 1 ∷ canonical.Utf8 ∷ canonical.PostReturn 2 ∷ []

-- ---- it keeps the rules

abbrev ds : ℕ → List Def
ds n = take n (lifting right_options)

abbrev g_tree : FunctionTree
g_tree = record { is_async = false; params = record { name = s; tree = PrimitiveOf primitives.«String» } ∷ []; result = None }

main_made : (n : ℕ) → slice_get (in_space spaces.CoreInstance (ds n)) 0 ≡ Some (defs.Item (items.CoreInstantiate 0 [])) → IsInstanceOf (ds n) 0 0
main_made n at = record { arguments = []; made = record { made = at } }

abbrev of_main : ExportKind → List ℕ → CoreExport
of_main kind name = record { of = 0; kind = kind; name = name }

memory_is : IsExported (ds 8) 0 (of_main kinds.Memory memory)
memory_is = record { instance = 0; made = record { made = refl }; of = main_made 8 refl }

g_is : IsExported (ds 8) 0 (of_main kinds.Func g)
g_is = record { instance = 0; made = record { made = refl }; of = main_made 8 refl }

r_is : IsExported (ds 8) 1 (of_main kinds.Func r)
r_is = record { instance = 0; made = record { made = refl }; of = main_made 8 refl }

p_is : IsExported (ds 8) 2 (of_main kinds.Func p)
p_is = record { instance = 0; made = record { made = refl }; of = main_made 8 refl }

main_export : (kind : ExportKind) (name : List ℕ) → IsExportFor world (of_main kind name) (record { of = Main; name = name })
main_export kind name = record { of = record { world_module = main_module world; listed = refl; same = refl }; named = refl }

type_known : is_known_function (function_tree (scope_of (ds 3)) text_type) ≡ true
unfolding inventory
type_known = refl

typed_before : IsFunctionType (ds 7) 0 g_tree
unfolding inventory
typed_before = record { denotes = record { within = omega arith; tree = refl } }

typed_after : IsFunctionType (ds 8) 0 g_tree
unfolding inventory
typed_after = record { denotes = record { within = omega arith; tree = refl } }

g_as_said : g_tree ≡ type_of_function world wit_g
unfolding values_from
g_as_said = refl

g_lifted : IsLiftFor world (ds 8) 0 (Lifted (record { of = Main; name = g }) named_options) g_tree
g_lifted = record {
  entry = of_main kinds.Func g;
  options = terms.Memory (of_main kinds.Memory memory) ∷ terms.Realloc (of_main kinds.Func r) ∷ terms.Encoding encodings.UTF8 ∷ terms.PostReturn (of_main kinds.Func p) ∷ [];
  is = record {
    core = 0;
    kind = 0;
    written = right_options;
    made = record { made = refl };
    of = g_is;
    function = refl;
    with_options = ((refl, memory_is), ((refl, r_is), (refl, ((refl, p_is), tt))));
    typed = typed_after;
  };
  asked = (
    main_export kinds.Func g,
    (refl, (inl (main_export kinds.Func r), (refl, (main_export kinds.Func p, tt)))),
  );
}

g_required : ExportsFunction world (ds 8) 0
unfolding values_from
g_required = record {
  required = record { of = Main; key = keys.Name g };
  function = wit_g;
  next = refl;
  item = refl;
  lifted = record {
    target = Lifted (record { of = Main; name = g }) named_options;
    wit = wit_g;
    said = refl;
    exported = refl;
    is = subst (IsLiftFor world (ds 8) 0 (Lifted (record { of = Main; name = g }) named_options)) g_as_said g_lifted;
  };
}

keeps_the_rules : IsBuilt own_names world (lifting right_options)
keeps_the_rules = record {
  generated = record { shims = None; fixup = None };
  are_generated = record { shims = refl; fixup = refl; room = omega arith; alike = no_bases world refl };
  front = lifting right_options;
  names = [];
  whole = refl;
  right = (
    tt,
    (
      inl (record { of = main_module world; listed = refl; scoped = omega arith; each = tt }),
      (
        inl (record { number = 0; of = main_module world; type = externs.Memory memory_type; is = main_made 2 refl; listed = refl; offered = refl; of_kind = refl }),
        (
          type_known,
          (
            inl (record { number = 0; of = main_module world; type = externs.Func g_core; is = main_made 4 refl; listed = refl; offered = refl; of_kind = refl }),
            (
              inl (record { number = 0; of = main_module world; type = externs.Func r_core; is = main_made 5 refl; listed = refl; offered = refl; of_kind = refl }),
              (
                inl (record { number = 0; of = main_module world; type = externs.Func p_core; is = main_made 6 refl; listed = refl; offered = refl; of_kind = refl }),
                (
                  (omega arith, (omega arith, (omega arith, (tt, (omega arith, tt)))), record { type = g_tree; is = typed_before }),
                  (g_required, tt),
                ),
              ),
            ),
          ),
        ),
      ),
    ),
  );
  marked = refl;
  named = tt;
}

pub list_links : Links own_names world no_modules (lifting right_options)
unfolding keeps_the_rules
list_links = links own_names world (lifting right_options) is_world (functions_apart own_names world (refl, tt)) keeps_the_rules

pub list_is_linked : IsLinked own_names world no_modules (machine_of (outcome world no_modules (lifting right_options) made))
list_is_linked = list_links.linked made (machine_of (outcome world no_modules (lifting right_options) made)) refl
