-- A worked example: a world that imports two interfaces, of which the second uses a resource of the
-- first. Its list links, and where the second instance has a resource of its own under that name it
-- isn't linked.
use Rattle.comp_worlds.specs.WorldContents.{items_of}
use Rattle.wit_data.specs.Keys.{is_same_key}
use Rattle.std.specs.Map.{keys_of}
use Rattle.comp_links.specs.Naming.{own_names}
use Rattle.std.proofs.Common.{inl, ◌≡◌, ◌∙◌, ◌++◌, ℕ, suc, false, List, [], ◌∷◌, refl, sym, ap, subst, Option, Some, None, map, take, arith}
use Rattle.std.proofs.lemmas.Option.{same_Some}
use Rattle.std.specs.Prelude.{codes}
use Rattle.std.specs.List.{IsDistinct}
use Rattle.std.specs.Str.{bytes_eq}
use Rattle.standard_kinds.specs.declared.kinds.ExportKind.TheVariants as kinds
use Rattle.standard_kinds.specs.declared.kinds.StringEncoding.TheVariants as encodings
use Rattle.comp_bytes.proofs.Worked.{plain}
use Rattle.comp_bytes.specs.declared.canon.Intrinsic.TheVariants as intrinsics
use Rattle.comp_bytes.specs.declared.space.ComponentExportKind.TheVariants as exports
use Rattle.comp_bytes.specs.declared.space.Space.TheVariants as spaces
use Rattle.comp_bytes.specs.declared.types.Alias.TheVariants as aliases
use Rattle.comp_bytes.specs.declared.types.ComponentValType.TheVariants as values
use Rattle.comp_bytes.specs.declared.types.DefinedType.TheVariants as defined
use Rattle.comp_bytes.specs.declared.types.Description.TheVariants as descriptions
use Rattle.comp_bytes.specs.declared.types.Member.{Member}
use Rattle.comp_bytes.specs.declared.types.Member.TheVariants as members
use Rattle.comp_bytes.specs.declared.types.TypeDef.TheVariants as types
use Rattle.comp_bytes.specs.declared.def.CoreInlineExport.{CoreInlineExport}
use Rattle.comp_bytes.specs.declared.def.Item.TheVariants as items
use Rattle.comp_bytes.specs.declared.def.Def.{Def}
use Rattle.comp_bytes.specs.declared.def.Def.TheVariants as defs
use Rattle.core_types.specs.Core.{core_preamble}
use Rattle.core_runs.specs.Store.{Opaque, Instantiated}
use Rattle.wit_data.specs.Values.{values_from}
use Rattle.wit_data.specs.declared.ids.TypeId.{TypeId}
use Rattle.wit_data.specs.declared.types.Type.TheVariants.{Id}
use Rattle.wit_data.specs.declared.types.TypeDef.{TypeDef}
use Rattle.wit_data.specs.declared.types.TypeDefKind.TheVariants as wit_kinds
use Rattle.wit_data.specs.declared.types.TypeOwner.TheVariants as owners
use Rattle.wit_data.specs.declared.functions.AbiVariant.TheVariants.{GuestImport}
use Rattle.wit_data.specs.declared.functions.Function.{Function as WitFunction}
use Rattle.wit_data.specs.declared.functions.FunctionKind.TheVariants.{Freestanding}
use Rattle.wit_data.specs.declared.worlds.WorldKey.TheVariants as keys
use Rattle.comp_roles.specs.declared.imports.Import.{Import}
use Rattle.comp_roles.specs.declared.imports.Import.TheVariants as imports
use Rattle.comp_roles.specs.declared.imports.ImportInstance.TheVariants as instances
use Rattle.comp_roles.specs.declared.offered.ExternType.TheVariants as externs
use Rattle.comp_roles.specs.declared.offered.ImportType.{ImportType}
use Rattle.comp_worlds.specs.Typed.{drop_type}
use Rattle.comp_worlds.specs.WorldTables.{whole_of}
use Rattle.comp_worlds.specs.Worlds.{IsWorld}
use Rattle.comp_worlds.specs.declared.world.ComponentWorld.{ComponentWorld}
use Rattle.comp_trees.specs.Trees.{Origin, Resource, ImportedAt, Tree, BorrowOf, ResourceAt, ParamTree, FunctionTree}
use Rattle.comp_trees.specs.DefinedTrees.{TypeTree, OfValues, OfOthers}
use Rattle.comp_inventories.specs.Inventories.{inventory, surroundings_of}
use Rattle.comp_trees.specs.Members.{AreMembersRight}
use Rattle.comp_trees.specs.WitTrees.{wit_function_tree}
use Rattle.comp_links.proofs.WorkedImports.{interface_of, interface_id, type_id, import_of_interface, f, v, from_u}
use Rattle.comp_links.specs.Targets.{Main, OfInterface, Drop, Lowered}
use Rattle.comp_terms.specs.Terms.{IsResource as IsResourceAt, IsOfResource, IsImportedFunction, IsLowering}
use Rattle.comp_terms.specs.Terms as terms
use Rattle.comp_terms.specs.Planned.{IsTypeOf, IsEntryFor, IsArgumentFor}
use Rattle.comp_terms.specs.Instances.{ImportsInterface}
use Rattle.comp_terms.specs.Rules.{AliasesImported, IsBuilt}
use Rattle.comp_runs.specs.Store.{Lowering, IntrinsicOf, Function, Imported}
use Rattle.comp_runs.specs.Machine.{Machine}
use Rattle.link_laws.specs.Meeting.{CoreMeets, ItemIsLowering, IsImport, Meets}
use Rattle.link_laws.specs.Linking.{outcome, IsServed, UsersServed, IsLinked, Links}
use Rattle.link_laws.proofs.BaseRoles.{no_bases}
use Rattle.link_laws.proofs.Stores.{drop_core, main_module}
use Rattle.link_laws.proofs.Steps.{no_modules}
use Rattle.link_laws.proofs.Runs.{links}
use Rattle.link_laws.proofs.Worked.{Ended, ended, core_function, made, machine_of, one_apart}
use Rattle.link_laws.proofs.WorkedDrops.{r, drop_r, none_apart, not_true}
use Rattle.link_laws.proofs.NamedItem.{own_item}
use Rattle.link_laws.proofs.WorkedApart.{no_keys_apart, functions_apart}

-- ---- the world

abbrev from_t : List ℕ
from_t = codes "a:b/t"

-- a resource, its name in the second interface, and a borrowed handle of it
abbrev wit_types : List TypeDef
wit_types =
    record { name = Some r; kind = wit_kinds.Resource; owner = owners.Interface (interface_id 0) }
    ∷ record { name = Some r; kind = wit_kinds.Alias (Id (type_id 0)); owner = owners.Interface (interface_id 1) }
    ∷ record { name = None; kind = wit_kinds.Borrow (type_id 1); owner = owners.«None» }
    ∷ []

abbrev wit_f : WitFunction
wit_f = record { name = f; kind = Freestanding; params = record { name = v; ty = Id (type_id 2) } ∷ []; result = None }

abbrev drop_role : Import
drop_role = imports.ImportedResourceDrop (keys.Interface (interface_id 0)) (Some (interface_id 0)) (type_id 0)

abbrev f_role : Import
f_role = imports.InterfaceFunc (keys.Interface (interface_id 1)) (interface_id 1) f GuestImport

-- a module that imports the drop, and f, which have one core type
abbrev core : List ℕ
core = core_preamble ++ (0x01 ∷ 0x05 ∷ 0x01 ∷ 0x60 ∷ 0x01 ∷ 0x7f ∷ 0x00 ∷ 0x02 ∷ 0x24 ∷ 0x02 ∷ []) ++ (0x05 ∷ from_t) ++ (0x10 ∷ drop_r) ++ (0x00 ∷ 0x00 ∷ 0x05 ∷ from_u) ++ (0x01 ∷ f) ++ (0x00 ∷ 0x00 ∷ [])

-- a:b/t has the resource, and a:b/u uses it, and has the function f of a borrowed handle
abbrev world : ComponentWorld
world = whole_of (record {
  resolve = record {
    interfaces = interface_of (codes "t") ((r, type_id 0) ∷ []) [] ∷ interface_of (codes "u") ((r, type_id 1) ∷ []) ((f, wit_f) ∷ []) ∷ [];
    types = wit_types;
    worlds = record { imports = import_of_interface 0 ∷ import_of_interface 1 ∷ []; exports = [] } ∷ [];
  };
  world = record { index = 0 };
  main = record {
    bytes = core;
    imports = record { modules = (from_t, instances.Names ((drop_r, drop_role) ∷ [])) ∷ (from_u, instances.Names ((f, f_role) ∷ [])) ∷ [] };
    exports = record { exports = [] };
    imported = record { module_name = from_t; field = drop_r; ty = drop_type } ∷ record { module_name = from_u; field = f; ty = externs.Func drop_core } ∷ [];
    offered = [];
    metadata = record { import_encodings = (record { key = keys.Interface (interface_id 1); function = f }, encodings.UTF8) ∷ []; export_encodings = [] };
  };
  main_exports = [];
  adapters = [];
  can_use_context_slot_1 = false;
})

modules_apart : IsDistinct bytes_eq (from_t ∷ from_u ∷ [])
unfolding IsDistinct
modules_apart = ((refl, tt), (tt, tt))

keys_apart : IsDistinct is_same_key (keys_of (items_of world).imports)
unfolding IsDistinct
keys_apart = ((refl, tt), (tt, tt))

is_world : IsWorld world
unfolding values_from
is_world = record {
  present = omega arith;
  imports = (tt, ((refl, tt), tt));
  exports = tt;
  import_keys_apart = keys_apart;
  import_names_apart = none_apart;
  export_keys_apart = no_keys_apart;
  export_names_apart = none_apart;
  exports_named = tt;
  exported_interfaces_apart = none_apart;
  main = record {
    core = refl;
    modules_apart = modules_apart;
    import_roles = ((one_apart drop_r, (record { present = omega arith; kind = refl }, tt)), ((one_apart f, (((1, omega arith, refl), (0, omega arith, refl), tt), tt)), tt));
    own_keys = (tt, (tt, tt));
    imported = (inl (record { role = drop_role; has_role = refl; fits = refl }), (inl (record { role = f_role; has_role = refl; fits = refl }), tt));
    export_roles = tt;
    exported = tt;
    required = tt;
  };
  main_first = ((tt, tt), ((tt, tt), tt));
  adapters = tt;
  adapters_apart = none_apart;
  keys_apart = no_keys_apart;
}

-- ---- a list for it

abbrev exports_resource : List Member
exports_resource = members.Export (plain r) descriptions.SubResource ∷ []

-- behind members that export the resource, of this index, a function of a borrowed handle
abbrev takes_handle : List Member → ℕ → List Member
takes_handle front index =
    front
    ++ members.Type (types.Defined (defined.Borrow index))
    ∷ members.Type (types.Func (record { async_ = false; params = record { name = v; ty = values.Defined (suc index) } ∷ []; result = None }))
    ∷ members.Export (plain f) (descriptions.Func (suc (suc index)))
    ∷ []

-- the resource of the first instance under its name, or a resource of the second one's own
abbrev shared : List Member
shared = takes_handle (members.Alias (aliases.Outer 1 1) ∷ members.Export (plain r) (descriptions.TypeEqual 0) ∷ []) 1

abbrev separate : List Member
separate = takes_handle exports_resource 0

abbrev one_function : List ℕ → ℕ → List CoreInlineExport
one_function name index = record { name = name; kind = kinds.Func; index = index } ∷ []

-- the list, where the second instance type has these members
abbrev list_of : List Member → List Def
list_of second = map defs.Item (
    items.InstanceType (record { members = exports_resource })
    ∷ items.Import (plain from_t) (descriptions.Instance 0)
    ∷ items.Alias (aliases.Export exports.Type 0 r)
    ∷ items.InstanceType (record { members = second })
    ∷ items.Import (plain from_u) (descriptions.Instance 2)
    ∷ items.CoreModule core
    ∷ items.Intrinsic (intrinsics.ResourceDrop 1)
    ∷ items.Alias (aliases.Export exports.Func 1 f)
    ∷ items.Lower 0 []
    ∷ items.CoreExports (one_function drop_r 0)
    ∷ items.CoreExports (one_function f 1)
    ∷ items.CoreInstantiate 0 (record { name = from_t; instance = 0 } ∷ record { name = from_u; instance = 1 } ∷ [])
    ∷ [])

-- the resource that the import of this number exports, and the type of f where its handle is of that one
abbrev resource : ℕ → Resource
resource number = ImportedAt (record { number = number; inner = Some r })

abbrev f_origin : Origin
f_origin = record { number = 1; inner = Some f }

abbrev f_tree : ℕ → FunctionTree
f_tree number = record { is_async = false; params = record { name = v; tree = BorrowOf (ResourceAt (resource number)) } ∷ []; result = None }

-- how running it ends, where the handle is of the resource of this import
abbrev end_with : ℕ → Ended
end_with number = record {
  code = Opaque 0 drop_core ∷ Opaque 1 drop_core ∷ [];
  known = IntrinsicOf (intrinsics.ResourceDrop 0) (Some (ResourceAt (resource 0))) [] ∷ Lowering 0 [] ∷ [];
  functions = Imported f_origin (f_tree number) ∷ [];
  users = record { module_number = 0; given = core_function 0 ∷ core_function 1 ∷ []; exports = [] } ∷ [];
  exported = [];
  events = Instantiated 0 ∷ [];
}

pub shared_ends : ended (outcome world no_modules (list_of shared) made) ≡ Some (end_with 0)
shared_ends = refl

-- ---- it keeps the rules, and so links

abbrev ds : ℕ → List Def
ds n = take n (list_of shared)

-- what the types of the component denote before the second instance type: an instance type, and the resource
abbrev outer : List TypeTree
outer = OfOthers ∷ OfValues (ResourceAt (resource 0)) ∷ []

resource_right : AreMembersRight (surroundings_of 0 []) [] exports_resource
resource_right = (tt, tt)

shared_right : AreMembersRight (surroundings_of 1 outer) [] shared
shared_right = ((refl, omega arith), (omega arith, (refl, (refl, (record { type = f_tree 0; tree = refl }, tt)))))

t_imported : ImportsInterface world (ds 1) 0
unfolding inventory values_from
t_imported = record { key = keys.Interface (interface_id 0); id = interface_id 0; stated = refl; outer = []; members = exports_resource; is = refl; right = resource_right; types = (refl, tt) }

r_aliased : AliasesImported (ds 2) spaces.Type 0 r
unfolding inventory
r_aliased = record { number = 0; outer = []; members = exports_resource; imported = refl; exported = refl }

u_imported : ImportsInterface world (ds 4) 2
unfolding inventory values_from
u_imported = record { key = keys.Interface (interface_id 1); id = interface_id 1; stated = refl; outer = outer; members = shared; is = refl; right = shared_right; types = (refl, tt) }

r_there : IsResourceAt (ds 6) 1 (resource 0)
unfolding inventory
r_there = record { denotes = record { within = omega arith; tree = refl } }

f_aliased : AliasesImported (ds 7) spaces.Func 1 f
unfolding inventory
f_aliased = record { number = 1; outer = outer; members = shared; imported = refl; exported = refl }

f_imported : IsImportedFunction (ds 8) 0 f_origin (f_tree 0)
unfolding inventory
f_imported = record { is = refl }

r_dropped : IsOfResource (ds 11) 0 Drop (resource 0)
unfolding inventory
r_dropped = record { type = 1; made = record { made = refl }; of = record { denotes = record { within = omega arith; tree = refl } } }

f_lowered : IsLowering (ds 11) 1 f_origin (f_tree 0) []
unfolding inventory
f_lowered = record { function = 0; written = []; made = record { made = refl }; of = record { is = refl }; with_options = tt }

f_as_said : IsTypeOf world (OfInterface (interface_id 1) f) (f_tree 0)
unfolding values_from
f_as_said = record { wit = wit_f; imported = refl; typed = refl }

drop_given : IsEntryFor world Main (ds 11) (record { name = drop_r; kind = kinds.Func; index = 0 }) (drop_r, drop_role)
unfolding values_from
drop_given = record { named = refl; serves = inl (record { term = terms.OfResource Drop (resource 0); is = r_dropped; asked = (refl, refl) }); supplied = record { encoding = not_true; memory = not_true; realloc = λ shared needed. cc } }

f_given : IsEntryFor world Main (ds 11) (record { name = f; kind = kinds.Func; index = 1 }) (f, f_role)
unfolding values_from
f_given = record {
  named = refl;
  serves = inl (record { term = terms.Lowering f_origin (f_tree 0) []; is = f_lowered; asked = ((keys.Interface (interface_id 1), refl, refl), f_as_said, tt) });
  supplied = record { encoding = λ e. refl; memory = λ e. cc; realloc = λ shared needed. cc };
}

from_t_given : IsArgumentFor world Main (ds 11) (record { name = from_t; instance = 0 }) (from_t, instances.Names ((drop_r, drop_role) ∷ []))
from_t_given = record { named = refl; serves = record { entries = one_function drop_r 0; made = record { made = refl }; each = (drop_given, tt) } }

from_u_given : IsArgumentFor world Main (ds 11) (record { name = from_u; instance = 1 }) (from_u, instances.Names ((f, f_role) ∷ []))
from_u_given = record { named = refl; serves = record { entries = one_function f 1; made = record { made = refl }; each = (f_given, tt) } }

keeps_the_rules : IsBuilt own_names world (list_of shared)
unfolding inventory values_from
keeps_the_rules = record {
  generated = record { shims = None; fixup = None };
  are_generated = record { shims = refl; fixup = refl; room = omega arith; alike = no_bases world refl };
  front = list_of shared;
  names = [];
  whole = refl;
  right = (record { number = 0; right = resource_right }, (t_imported, (inl r_aliased, (record { number = 1; right = shared_right }, (u_imported, (tt, (record { resource = resource 0; is = r_there }, (f_aliased, ((record { origin = f_origin; type = f_tree 0; is = f_imported }, tt), (record { each = (record { scoped = omega arith }, tt); apart = one_apart drop_r }, (record { each = (record { scoped = omega arith }, tt); apart = one_apart f }, (inl (record { of = main_module world; listed = refl; scoped = omega arith; each = (from_t_given, (from_u_given, tt)) }), tt))))))))))));
  marked = refl;
  named = tt;
}

pub shared_links : Links own_names world no_modules (list_of shared)
unfolding keeps_the_rules
shared_links = links own_names world (list_of shared) is_world (functions_apart own_names world tt) keeps_the_rules

pub shared_is_linked : IsLinked own_names world no_modules (machine_of (outcome world no_modules (list_of shared) made))
shared_is_linked = shared_links.linked made (machine_of (outcome world no_modules (list_of shared) made)) refl

-- ---- where the second instance has a resource of its own, the run ends, but it isn't linked

pub separate_ends : ended (outcome world no_modules (list_of separate) made) ≡ Some (end_with 1)
separate_ends = refl

abbrev m : Machine
m = machine_of (outcome world no_modules (list_of separate) made)

-- the number of the import that has the resource of a handle
abbrev number_of : Tree → ℕ
number_of (BorrowOf (ResourceAt (ImportedAt origin))) = origin.number
number_of tree = 2

abbrev number_in : List ParamTree → ℕ
number_in [] = 2
number_in (p ∷ ps) = number_of p.tree

abbrev number_of_handle : Option Function → ℕ
number_of_handle (Some (Imported origin type)) = number_in type.params
number_of_handle function = 2

-- in the world, f is of a handle of the first interface's resource
first_of_f : (origins : TypeId → Resource) → UsersServed world m origins → number_in (wit_function_tree origins world.resolve.types wit_f).params ≡ 0
unfolding values_from
first_of_f origins served = ap (λ resource. number_of (BorrowOf (ResourceAt resource))) served.resources.0

-- function 0 is of a handle of the second one's
not_of_f : (origins : TypeId → Resource) → UsersServed world m origins → IsImport world m origins 0 (OfInterface (interface_id 1) f) → ⊥
not_of_f origins served i =
    let wit : i.wit ≡ wit_f = same_Some i.wit wit_f (sym i.type_of) in
    let number : 1 ≡ number_in (wit_function_tree origins world.resolve.types i.wit).params = ap number_of_handle i.is in
    let same : 1 ≡ 0 = number ∙ (ap (λ (w : WitFunction). number_in (wit_function_tree origins world.resolve.types w).params) wit ∙ first_of_f origins served) in
    absurd (omega (arith, same))

no_lowering_of_f : (origins : TypeId → Resource) → UsersServed world m origins → CoreMeets world m None 1 (ItemIsLowering world m origins (OfInterface (interface_id 1) f) []) → ⊥
no_lowering_of_f origins served c = not_of_f origins served (own_item world m 1 (ItemIsLowering world m origins (OfInterface (interface_id 1) f) []) c 1 drop_core (Lowering 0 []) refl refl).0

abbrev second_import : ImportType
second_import = record { module_name = from_u; field = f; ty = externs.Func drop_core }

second_meets : (origins : TypeId → Resource) → IsServed world m origins (main_module world) (core_function 1) second_import →
    CoreMeets world m None 1 (ItemIsLowering world m origins (OfInterface (interface_id 1) f) [])
unfolding values_from
second_meets origins s = subst (Meets world m origins (core_function 1)) (same_Some s.target (Lowered (OfInterface (interface_id 1) f) []) (sym s.said)) s.meets

pub separate_is_not_linked : IsLinked own_names world no_modules m → ⊥
separate_is_not_linked l = no_lowering_of_f l.origins l.imports (second_meets l.origins (l.imports.each 0 _ _ refl refl).1.0)
