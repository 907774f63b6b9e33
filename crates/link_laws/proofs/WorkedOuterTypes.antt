-- A worked example: a world that imports two interfaces, of which the second has a function of a
-- record of the first. Its list, in which the second instance type has an outer alias of the
-- record, links.
use Rattle.std.specs.List.{IsDistinct}
use Rattle.comp_worlds.specs.WorldContents.{items_of}
use Rattle.wit_data.specs.Keys.{is_same_key}
use Rattle.std.specs.Map.{keys_of}
use Rattle.comp_links.specs.Naming.{own_names}
use Rattle.std.proofs.Common.{None, inl, ◌≡◌, ◌+◌, ◌++◌, ℕ, false, List, [], ◌∷◌, refl, Some, map, length, take, arith}
use Rattle.std.specs.Prelude.{codes}
use Rattle.standard_kinds.specs.declared.kinds.ExportKind.TheVariants as kinds
use Rattle.standard_kinds.specs.declared.kinds.Primitive.TheVariants as primitives
use Rattle.comp_bytes.proofs.Worked.{plain}
use Rattle.comp_bytes.specs.declared.space.ComponentExportKind.TheVariants as exports
use Rattle.comp_bytes.specs.declared.space.Space.TheVariants as spaces
use Rattle.comp_bytes.specs.declared.types.Alias.TheVariants as aliases
use Rattle.comp_bytes.specs.declared.types.ComponentValType.TheVariants as values
use Rattle.comp_bytes.specs.declared.types.DefinedType.TheVariants as defined
use Rattle.comp_bytes.specs.declared.types.Description.TheVariants as descriptions
use Rattle.comp_bytes.specs.declared.types.Member.{Member}
use Rattle.comp_bytes.specs.declared.types.Member.TheVariants as members
use Rattle.comp_bytes.specs.declared.types.TypeDef.{TypeDef}
use Rattle.comp_bytes.specs.declared.types.TypeDef.TheVariants as types
use Rattle.comp_bytes.specs.declared.def.Item.{Item}
use Rattle.comp_bytes.specs.declared.def.Item.TheVariants as items
use Rattle.comp_bytes.specs.declared.def.Def.{Def}
use Rattle.comp_bytes.specs.declared.def.Def.TheVariants as defs
use Rattle.core_runs.specs.Store.{Opaque, Instantiated}
use Rattle.wit_data.specs.Values.{values_from}
use Rattle.wit_data.specs.declared.worlds.WorldKey.TheVariants as keys
use Rattle.comp_roles.specs.declared.imports.ImportInstance.TheVariants as instances
use Rattle.comp_worlds.specs.Worlds.{IsWorld}
use Rattle.comp_trees.specs.Trees.{Origin, Tree, PrimitiveOf, RecordOf, Nil, Cons, FunctionTree}
use Rattle.comp_trees.specs.DefinedTrees.{TypeTree, OfValues, OfOthers}
use Rattle.comp_inventories.specs.Inventories.{inventory, surroundings_of}
use Rattle.comp_trees.specs.Members.{AreMembersRight}
use Rattle.comp_links.proofs.WorkedImports.{interface_id, f, p, v, x, from_u, wit_f, f_core, f_role, core, world}
use Rattle.comp_links.specs.Targets.{Main, OfInterface}
use Rattle.comp_terms.specs.Terms.{IsImportedFunction, IsLowering}
use Rattle.comp_terms.specs.Terms as terms
use Rattle.comp_terms.specs.Planned.{IsTypeOf, IsEntryFor, IsArgumentFor}
use Rattle.comp_terms.specs.Instances.{ImportsInterface}
use Rattle.comp_terms.specs.Rules.{AliasesImported, IsBuilt}
use Rattle.comp_runs.specs.Store.{Lowering, Imported}
use Rattle.link_laws.specs.Linking.{outcome, IsLinked, Links}
use Rattle.link_laws.proofs.BaseRoles.{no_bases}
use Rattle.link_laws.proofs.Stores.{main_module}
use Rattle.link_laws.proofs.Steps.{no_modules}
use Rattle.link_laws.proofs.Runs.{links}
use Rattle.link_laws.proofs.Worked.{Ended, ended, core_function, made, machine_of, one_apart}
use Rattle.link_laws.proofs.WorkedDrops.{none_apart}
use Rattle.link_laws.proofs.WorkedApart.{no_keys_apart, functions_apart}

-- ---- the world is one

keys_apart : IsDistinct is_same_key (keys_of (items_of world).imports)
unfolding IsDistinct
keys_apart = ((refl, tt), (tt, tt))

is_world : IsWorld world
unfolding values_from
is_world = record {
  present = omega arith;
  imports = (tt, ((refl, tt), tt));
  exports = tt;
  import_keys_apart = keys_apart;
  import_names_apart = none_apart;
  export_keys_apart = no_keys_apart;
  export_names_apart = none_apart;
  exports_named = tt;
  exported_interfaces_apart = none_apart;
  main = record {
    core = refl;
    modules_apart = one_apart from_u;
    import_roles = ((one_apart f, (((1, omega arith, refl), (0, omega arith, refl), tt), tt)), tt);
    own_keys = (tt, tt);
    imported = (inl (record { role = f_role; has_role = refl; fits = refl }), tt);
    export_roles = tt;
    exported = tt;
    required = tt;
  };
  main_first = ((tt, tt), tt);
  adapters = tt;
  adapters_apart = none_apart;
  keys_apart = no_keys_apart;
}

-- ---- a list for it

-- a record of one u32
abbrev pub record_type : List ℕ → TypeDef
record_type field = types.Defined (defined.Record (record { name = field; ty = values.Primitive primitives.U32 } ∷ []))

-- the first instance type exports the record
abbrev exports_record : List Member
exports_record = members.Type (record_type x) ∷ members.Export (plain p) (descriptions.TypeEqual 0) ∷ []

-- the second exports a function of the type of this index of the component
abbrev exports_function : ℕ → List Member
exports_function index =
    members.Alias (aliases.Outer 1 index)
    ∷ members.Type (types.Func (record { async_ = false; params = record { name = v; ty = values.Defined 0 } ∷ []; result = Some (values.Primitive primitives.U32) }))
    ∷ members.Export (plain f) (descriptions.Func 1)
    ∷ []

-- the list, where the function is of the type of this index, and these definitions make types between the two imports
abbrev pub list_of : List Item → ℕ → List Def
list_of between index = map defs.Item (
    items.InstanceType (record { members = exports_record })
    ∷ items.Import (plain (codes "a:b/t")) (descriptions.Instance 0)
    ∷ items.Alias (aliases.Export exports.Type 0 p)
    ∷ between
    ++ items.InstanceType (record { members = exports_function index })
    ∷ items.Import (plain from_u) (descriptions.Instance (2 + length between))
    ∷ items.CoreModule core
    ∷ items.Alias (aliases.Export exports.Func 1 f)
    ∷ items.Lower 0 []
    ∷ items.CoreExports (record { name = f; kind = kinds.Func; index = 0 } ∷ [])
    ∷ items.CoreInstantiate 0 (record { name = from_u; instance = 0 } ∷ [])
    ∷ [])

-- where f is imported, and its type where that of its parameter is a record with this field
abbrev f_origin : Origin
f_origin = record { number = 1; inner = Some f }

abbrev record_tree : List ℕ → Tree
record_tree field = RecordOf (field ∷ []) (Cons (PrimitiveOf primitives.U32) Nil)

abbrev f_tree : List ℕ → FunctionTree
f_tree field = record { is_async = false; params = record { name = v; tree = record_tree field } ∷ []; result = Some (PrimitiveOf primitives.U32) }

-- how running it ends
abbrev pub end_with : List ℕ → Ended
end_with field = record {
  code = Opaque 0 f_core ∷ [];
  known = Lowering 0 [] ∷ [];
  functions = Imported f_origin (f_tree field) ∷ [];
  users = record { module_number = 0; given = core_function 0 ∷ []; exports = [] } ∷ [];
  exported = [];
  events = Instantiated 0 ∷ [];
}

pub list_ends : ended (outcome world no_modules (list_of [] 1) made) ≡ Some (end_with x)
list_ends = refl

-- ---- it keeps the rules, and so links

abbrev ds : ℕ → List Def
ds n = take n (list_of [] 1)

-- what the types of the component denote before the second instance type: an instance type, and the record
abbrev outer : List TypeTree
outer = OfOthers ∷ OfValues (record_tree x) ∷ []

record_right : AreMembersRight (surroundings_of 0 []) [] exports_record
record_right = (refl, (omega arith, tt))

function_right : AreMembersRight (surroundings_of 1 outer) [] (exports_function 1)
function_right = ((refl, omega arith), (refl, (record { type = f_tree x; tree = refl }, tt)))

t_imported : ImportsInterface world (ds 1) 0
unfolding inventory values_from
t_imported = record { key = keys.Interface (interface_id 0); id = interface_id 0; stated = refl; outer = []; members = exports_record; is = refl; right = record_right; types = (refl, tt) }

p_aliased : AliasesImported (ds 2) spaces.Type 0 p
unfolding inventory
p_aliased = record { number = 0; outer = []; members = exports_record; imported = refl; exported = refl }

u_imported : ImportsInterface world (ds 4) 2
unfolding inventory values_from
u_imported = record { key = keys.Interface (interface_id 1); id = interface_id 1; stated = refl; outer = outer; members = exports_function 1; is = refl; right = function_right; types = tt }

f_aliased : AliasesImported (ds 6) spaces.Func 1 f
unfolding inventory
f_aliased = record { number = 1; outer = outer; members = exports_function 1; imported = refl; exported = refl }

f_imported : IsImportedFunction (ds 7) 0 f_origin (f_tree x)
unfolding inventory
f_imported = record { is = refl }

f_imported_later : IsImportedFunction (ds 9) 0 f_origin (f_tree x)
unfolding inventory
f_imported_later = record { is = refl }

f_lowered : IsLowering (ds 9) 0 f_origin (f_tree x) []
f_lowered = record { function = 0; written = []; made = record { made = refl }; of = f_imported_later; with_options = tt }

f_as_said : IsTypeOf world (OfInterface (interface_id 1) f) (f_tree x)
unfolding values_from
f_as_said = record { wit = wit_f; imported = refl; typed = refl }

f_given : IsEntryFor world Main (ds 9) (record { name = f; kind = kinds.Func; index = 0 }) (f, f_role)
unfolding values_from
f_given = record {
  named = refl;
  serves = inl (record { term = terms.Lowering f_origin (f_tree x) []; is = f_lowered; asked = ((keys.Interface (interface_id 1), refl, refl), f_as_said, tt) });
  supplied = record { encoding = λ e. refl; memory = λ e. cc; realloc = λ shared needed. cc };
}

f_offered : IsArgumentFor world Main (ds 9) (record { name = from_u; instance = 0 }) (from_u, instances.Names ((f, f_role) ∷ []))
f_offered = record { named = refl; serves = record { entries = record { name = f; kind = kinds.Func; index = 0 } ∷ []; made = record { made = refl }; each = (f_given, tt) } }

keeps_the_rules : IsBuilt own_names world (list_of [] 1)
unfolding inventory values_from
keeps_the_rules = record {
  generated = record { shims = None; fixup = None };
  are_generated = record { shims = refl; fixup = refl; room = omega arith; alike = no_bases world refl };
  front = list_of [] 1;
  names = [];
  whole = refl;
  right = (
    record { number = 0; right = record_right },
    (
      t_imported,
      (
        inl p_aliased,
        (
          record { number = 1; right = function_right },
          (
            u_imported,
            (
              tt,
              (
                f_aliased,
                (
                  (record { origin = f_origin; type = f_tree x; is = f_imported }, tt),
                  (
                    record { each = (record { scoped = omega arith }, tt); apart = one_apart f },
                    (inl (record { of = main_module world; listed = refl; scoped = omega arith; each = (f_offered, tt) }), tt),
                  ),
                ),
              ),
            ),
          ),
        ),
      ),
    ),
  );
  marked = refl;
  named = tt;
}

pub list_links : Links own_names world no_modules (list_of [] 1)
unfolding keeps_the_rules
list_links = links own_names world (list_of [] 1) is_world (functions_apart own_names world tt) keeps_the_rules

pub list_is_linked : IsLinked own_names world no_modules (machine_of (outcome world no_modules (list_of [] 1) made))
list_is_linked = list_links.linked made (machine_of (outcome world no_modules (list_of [] 1) made)) refl
