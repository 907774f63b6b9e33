-- A worked example: a validated world of main and an adapter, each of which has to export a
-- function; the adapter imports one. Its list keeps the rules, and so it links.
use Rattle.comp_links.specs.Naming.{own_names}
use Rattle.std.proofs.Common.{inl, ◌≡◌, ℕ, List, [], ◌∷◌, refl, true, false, Some, None, map, take, arith}
use Rattle.std.specs.List.{IsDistinct, slice_get}
use Rattle.std.specs.Map.{keys_of}
use Rattle.standard_kinds.specs.declared.kinds.ExportKind.TheVariants as kinds
use Rattle.standard_kinds.specs.declared.kinds.StringEncoding.TheVariants as encodings
use Rattle.comp_bytes.proofs.Worked.{plain, f, g, root, core, function}
use Rattle.comp_bytes.specs.ItemIndices.{in_space}
use Rattle.comp_bytes.specs.declared.space.Sort.TheVariants as sorts
use Rattle.comp_bytes.specs.declared.space.Space.TheVariants as spaces
use Rattle.comp_bytes.specs.declared.types.Alias.TheVariants as aliases
use Rattle.comp_bytes.specs.declared.types.Description.TheVariants as descriptions
use Rattle.comp_bytes.specs.declared.def.Item.TheVariants as items
use Rattle.comp_bytes.specs.declared.def.Def.{Def}
use Rattle.comp_bytes.specs.declared.def.Def.TheVariants as defs
use Rattle.core_types.specs.Core.{core_preamble}
use Rattle.core_runs.specs.Store.{Opaque, Answer, Gives, Instantiated}
use Rattle.wit_data.specs.Keys.{is_same_key}
use Rattle.wit_data.specs.declared.functions.AbiVariant.TheVariants.{GuestImport, GuestExport}
use Rattle.wit_data.specs.declared.functions.Function.{Function}
use Rattle.wit_data.specs.declared.functions.FunctionKind.TheVariants.{Freestanding}
use Rattle.wit_data.specs.declared.worlds.WorldKey.{WorldKey}
use Rattle.wit_data.specs.declared.worlds.WorldKey.TheVariants as keys
use Rattle.wit_data.specs.declared.worlds.WorldItem.{WorldItem}
use Rattle.wit_data.specs.declared.worlds.WorldItem.TheVariants as world_items
use Rattle.comp_roles.specs.declared.imports.Import.TheVariants as imports
use Rattle.comp_roles.specs.declared.imports.ImportInstance.TheVariants as instances
use Rattle.comp_roles.specs.declared.exports.Export.TheVariants as exports
use Rattle.comp_roles.specs.declared.offered.ExternType.TheVariants as externs
use Rattle.comp_worlds.specs.WorldContents.{items_of, keys_required}
use Rattle.comp_worlds.specs.WorldTables.{whole_of}
use Rattle.comp_worlds.specs.Worlds.{IsWorld}
use Rattle.comp_worlds.specs.declared.world.ComponentWorld.{ComponentWorld}
use Rattle.comp_worlds.specs.declared.world.ValidatedModule.{ValidatedModule}
use Rattle.comp_worlds.specs.declared.world.WorldAdapter.{WorldAdapter}
use Rattle.comp_inventories.specs.Inventories.{inventory, scope_of}
use Rattle.comp_trees.specs.Trees.{is_known_function}
use Rattle.comp_trees.specs.DefinedTrees.{function_tree}
use Rattle.comp_links.specs.Modules.{WorldModule, adapter_module}
use Rattle.comp_links.specs.Targets.{UserModule, Main, Adapter, ExportRef, OfRoot, Lifted as LiftedFrom}
use Rattle.comp_runs.specs.Store.{Lowering, ExportedBy, Imported, Lifting}
use Rattle.comp_terms.specs.Terms.{IsFunctionType, IsImportedFunction, IsInstanceOf}
use Rattle.comp_terms.specs.Terms as terms
use Rattle.comp_terms.specs.Planned.{IsTypeOf, IsLiftFor, IsArgumentFor}
use Rattle.comp_terms.specs.Rules.{IsBuilt}
use Rattle.comp_terms.specs.Exports.{ExportsFunction}
use Rattle.link_laws.specs.Composition.{IsComposed}
use Rattle.link_laws.specs.Linking.{outcome, Links, IsLinked}
use Rattle.link_laws.proofs.BaseRoles.{no_bases}
use Rattle.link_laws.proofs.Stores.{main_module}
use Rattle.link_laws.proofs.Steps.{no_modules}
use Rattle.link_laws.proofs.Runs.{composed, links}
use Rattle.link_laws.proofs.Worked.{ended, root_import, core_function, core_export, machine_of, plain_tree, plain_core, a, h, one_apart}
use Rattle.link_laws.proofs.WorkedApart.{functions_apart, one_key_apart}
use Rattle.link_laws.proofs.WorkedDrops.{none_apart}

-- ---- the world

abbrev wit_of : List ℕ → Function
wit_of name = record { name = name; kind = Freestanding; params = []; result = None }

-- main has to export the function g
abbrev main : ValidatedModule
main = record {
  bytes = core;
  imports = record { modules = [] };
  exports = record { exports = (g, exports.WorldFunc (keys.Name g) g GuestExport) ∷ [] };
  imported = [];
  offered = (g, externs.Func plain_core) ∷ (h, externs.Func plain_core) ∷ [];
  metadata = record { import_encodings = []; export_encodings = (record { key = keys.Name g; function = g }, encodings.UTF8) ∷ [] };
}

-- the adapter imports the function f, and has to export the function h
abbrev pub adapter : WorldAdapter
adapter = record {
  info = record {
    bytes = core_preamble;
    imports = record { modules = (root, instances.Names ((f, imports.WorldFunc (keys.Name f) f GuestImport) ∷ [])) ∷ [] };
    exports = record { exports = (h, exports.WorldFunc (keys.Name h) h GuestExport) ∷ [] };
    imported = record { module_name = root; field = f; ty = externs.Func plain_core } ∷ [];
    offered = (h, externs.Func plain_core) ∷ [];
    metadata = record { import_encodings = (record { key = keys.Name f; function = f }, encodings.UTF8) ∷ []; export_encodings = (record { key = keys.Name h; function = h }, encodings.UTF8) ∷ [] };
  };
  required_exports = keys.Name h ∷ [];
  library_info = None;
}

abbrev exported : List ℕ → WorldKey × WorldItem
exported name = (keys.Name name, world_items.Function (wit_of name))

abbrev pub world : ComponentWorld
world = whole_of (record {
  resolve = record { interfaces = []; types = []; worlds = record { imports = exported f ∷ []; exports = exported g ∷ exported h ∷ [] } ∷ [] };
  world = record { index = 0 };
  main = main;
  main_exports = keys.Name g ∷ [];
  adapters = (a, adapter) ∷ [];
  can_use_context_slot_1 = false;
})

two_keys_apart : IsDistinct is_same_key (keys_required world)
unfolding IsDistinct
two_keys_apart = ((refl, tt), (tt, tt))

two_exports_apart : IsDistinct is_same_key (keys_of (items_of world).exports)
unfolding IsDistinct
two_exports_apart = ((refl, tt), (tt, tt))

two_names_apart : IsDistinct Rattle.std.specs.Str.bytes_eq (g ∷ h ∷ [])
unfolding IsDistinct
two_names_apart = ((refl, tt), (tt, tt))

pub is_world : IsWorld world
is_world = record {
  present = omega arith;
  imports = (refl, tt);
  exports = (refl, (refl, tt));
  import_keys_apart = one_key_apart (keys.Name f);
  import_names_apart = one_apart f;
  export_keys_apart = two_exports_apart;
  export_names_apart = two_names_apart;
  exports_named = (tt, (tt, tt));
  exported_interfaces_apart = none_apart;
  main = record {
    core = refl;
    modules_apart = none_apart;
    import_roles = tt;
    own_keys = tt;
    imported = tt;
    export_roles = (((0, omega arith, refl), refl, tt), tt);
    exported = (record { type = externs.Func plain_core; offered = refl; fits = refl }, tt);
    required = (record { exported = (0, omega arith, refl); present = (refl, tt); formed = (tt, tt) }, tt);
  };
  main_first = tt;
  adapters = (
    record {
      core = refl;
      modules_apart = one_apart root;
      import_roles = ((one_apart f, (((0, omega arith, refl), refl, tt), tt)), tt);
      own_keys = (tt, tt);
      imported = (inl (record { role = imports.WorldFunc (keys.Name f) f GuestImport; has_role = refl; fits = refl }), tt);
      export_roles = (((1, omega arith, refl), refl, tt), tt);
      exported = (record { type = externs.Func plain_core; offered = refl; fits = refl }, tt);
      required = (record { exported = (1, omega arith, refl); present = (refl, tt); formed = (tt, tt) }, tt);
    },
    tt,
  );
  adapters_apart = one_apart a;
  keys_apart = two_keys_apart;
}

-- ---- a list for it

-- the list, with h taken from this core instance
abbrev pub taking_h : ℕ → List Def
taking_h instance = map defs.Item (
    function
    ∷ items.Import (plain f) (descriptions.Func 0)
    ∷ items.CoreModule core
    ∷ items.CoreModule core_preamble
    ∷ items.CoreInstantiate 0 []
    ∷ items.Lower 0 []
    ∷ items.CoreExports (record { name = f; kind = kinds.Func; index = 0 } ∷ [])
    ∷ items.CoreInstantiate 1 (record { name = root; instance = 1 } ∷ [])
    ∷ items.Alias (aliases.CoreExport kinds.Func 0 g)
    ∷ items.Lift 1 [] 0
    ∷ items.Export (plain g) sorts.Func 1 None
    ∷ items.Alias (aliases.CoreExport kinds.Func instance h)
    ∷ items.Lift 2 [] 0
    ∷ items.Export (plain h) sorts.Func 3 None
    ∷ [])

-- the adapter is core instance 2
abbrev pub definitions : List Def
definitions = taking_h 2

abbrev both_made : List Answer
both_made = Gives [] 0 ∷ Gives [] 0 ∷ []

-- how it ends: f is lowered for the adapter, and g and h are lifted from what main and the adapter export
pub definitions_end : ended (outcome world no_modules definitions both_made) ≡ Some (record {
  code = Opaque 0 plain_core ∷ Opaque 1 plain_core ∷ Opaque 2 plain_core ∷ Opaque 3 plain_core ∷ [];
  known = ExportedBy 0 g ∷ ExportedBy 0 h ∷ Lowering 0 [] ∷ ExportedBy 1 h ∷ [];
  functions = Imported (root_import 0) plain_tree ∷ Lifting 0 [] plain_tree ∷ Lifting 3 [] plain_tree ∷ [];
  users = record { module_number = 0; given = []; exports = core_export g 0 ∷ core_export h 1 ∷ [] } ∷ record { module_number = 1; given = core_function 2 ∷ []; exports = core_export h 3 ∷ [] } ∷ [];
  exported = record { space = spaces.Func; name = g; address = 1 } ∷ record { space = spaces.Func; name = h; address = 2 } ∷ [];
  events = Instantiated 0 ∷ Instantiated 1 ∷ [];
})
definitions_end = refl

-- ---- it keeps the rules

abbrev ds : ℕ → List Def
ds n = take n definitions

abbrev adapter_user : WorldModule
adapter_user = adapter_module (a, adapter)

known : is_known_function (function_tree (scope_of (ds 0)) (record { async_ = false; params = []; result = None })) ≡ true
unfolding inventory
known = refl

typed_1 : IsFunctionType (ds 1) 0 plain_tree
unfolding inventory
typed_1 = record { denotes = record { within = omega arith; tree = refl } }

typed_9 : IsFunctionType (ds 9) 0 plain_tree
unfolding inventory
typed_9 = record { denotes = record { within = omega arith; tree = refl } }

typed_10 : IsFunctionType (ds 10) 0 plain_tree
unfolding inventory
typed_10 = record { denotes = record { within = omega arith; tree = refl } }

typed_12 : IsFunctionType (ds 12) 0 plain_tree
unfolding inventory
typed_12 = record { denotes = record { within = omega arith; tree = refl } }

typed_13 : IsFunctionType (ds 13) 0 plain_tree
unfolding inventory
typed_13 = record { denotes = record { within = omega arith; tree = refl } }

f_imported : IsImportedFunction (ds 5) 0 (root_import 0) plain_tree
unfolding inventory
f_imported = record { is = refl }

f_imported_later : IsImportedFunction (ds 7) 0 (root_import 0) plain_tree
unfolding inventory
f_imported_later = record { is = refl }

f_as_said : IsTypeOf world (OfRoot f) plain_tree
f_as_said = record { wit = wit_of f; imported = refl; typed = refl }

f_offered : IsArgumentFor world (Adapter a) (ds 7) (record { name = root; instance = 1 }) (root, instances.Names ((f, imports.WorldFunc (keys.Name f) f GuestImport) ∷ []))
f_offered = record {
  named = refl;
  serves = record {
    entries = record { name = f; kind = kinds.Func; index = 0 } ∷ [];
    made = record { made = refl };
    each = (
      record {
        named = refl;
        serves = inl (record { term = terms.Lowering (root_import 0) plain_tree []; is = record { function = 0; written = []; made = record { made = refl }; of = f_imported_later; with_options = tt }; asked = ((refl, refl), f_as_said, tt) });
        supplied = record { encoding = λ e. refl; memory = λ e. cc; realloc = λ shared needed. cc };
      },
      tt,
    );
  };
}

main_made : (n : ℕ) → slice_get (in_space spaces.CoreInstance (ds n)) 0 ≡ Some (defs.Item (items.CoreInstantiate 0 [])) → IsInstanceOf (ds n) 0 0
main_made n at = record { arguments = []; made = record { made = at } }

adapter_made : (n : ℕ) → slice_get (in_space spaces.CoreInstance (ds n)) 2 ≡ Some (defs.Item (items.CoreInstantiate 1 (record { name = root; instance = 1 } ∷ []))) → IsInstanceOf (ds n) 2 1
adapter_made n at = record { arguments = record { name = root; instance = 1 } ∷ []; made = record { made = at } }

abbrev lifted_from : UserModule → List ℕ → ExportRef
lifted_from of name = record { of = of; name = name }

g_lifted : IsLiftFor world (ds 10) 1 (LiftedFrom (lifted_from Main g) []) plain_tree
g_lifted = record {
  entry = record { of = 0; kind = kinds.Func; name = g };
  options = [];
  is = record {
    core = 1;
    kind = 0;
    written = [];
    made = record { made = refl };
    of = record { instance = 0; made = record { made = refl }; of = main_made 10 refl };
    function = refl;
    with_options = tt;
    typed = typed_10;
  };
  asked = (record { of = record { world_module = main_module world; listed = refl; same = refl }; named = refl }, tt);
}

h_lifted : IsLiftFor world (ds 13) 3 (LiftedFrom (lifted_from (Adapter a) h) []) plain_tree
h_lifted = record {
  entry = record { of = 1; kind = kinds.Func; name = h };
  options = [];
  is = record {
    core = 2;
    kind = 0;
    written = [];
    made = record { made = refl };
    of = record { instance = 2; made = record { made = refl }; of = adapter_made 13 refl };
    function = refl;
    with_options = tt;
    typed = typed_13;
  };
  asked = (record { of = record { world_module = adapter_user; listed = refl; same = refl }; named = refl }, tt);
}

g_required : ExportsFunction world (ds 10) 1
g_required = record {
  required = record { of = Main; key = keys.Name g };
  function = wit_of g;
  next = refl;
  item = refl;
  lifted = record { target = LiftedFrom (lifted_from Main g) []; wit = wit_of g; said = refl; exported = refl; is = g_lifted };
}

h_required : ExportsFunction world (ds 13) 3
h_required = record {
  required = record { of = Adapter a; key = keys.Name h };
  function = wit_of h;
  next = refl;
  item = refl;
  lifted = record { target = LiftedFrom (lifted_from (Adapter a) h) []; wit = wit_of h; said = refl; exported = refl; is = h_lifted };
}

keeps_the_rules : IsBuilt own_names world definitions
keeps_the_rules = record {
  generated = record { shims = None; fixup = None };
  are_generated = record { shims = refl; fixup = refl; room = omega arith; alike = no_bases world refl };
  front = definitions;
  names = [];
  whole = refl;
  right = (known, (record { type = plain_tree; is = typed_1 }, (tt, (tt, (inl (record { of = main_module world; listed = refl; scoped = omega arith; each = tt }), ((record { origin = root_import 0; type = plain_tree; is = f_imported }, tt), (record { each = (record { scoped = omega arith }, tt); apart = one_apart f }, (inl (record { of = adapter_user; listed = refl; scoped = omega arith; each = (f_offered, tt) }), (inl (record { number = 0; of = main_module world; type = externs.Func plain_core; is = main_made 8 refl; listed = refl; offered = refl; of_kind = refl }), ((omega arith, tt, record { type = plain_tree; is = typed_9 }), (g_required, (inl (record { number = 1; of = adapter_user; type = externs.Func plain_core; is = adapter_made 11 refl; listed = refl; offered = refl; of_kind = refl }), ((omega arith, tt, record { type = plain_tree; is = typed_12 }), (h_required, tt))))))))))))));
  marked = refl;
  named = tt;
}

-- so it is composed as the world says, and linked at its end
pub definitions_are_composed : IsComposed own_names world no_modules definitions
unfolding keeps_the_rules
definitions_are_composed = composed own_names world definitions keeps_the_rules

pub definitions_link : Links own_names world no_modules definitions
unfolding keeps_the_rules
definitions_link = links own_names world definitions is_world (functions_apart own_names world (refl, (refl, tt))) keeps_the_rules

pub definitions_are_linked : IsLinked own_names world no_modules (machine_of (outcome world no_modules definitions both_made))
definitions_are_linked = definitions_link.linked both_made (machine_of (outcome world no_modules definitions both_made)) refl
