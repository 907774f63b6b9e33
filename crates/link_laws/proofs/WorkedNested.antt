-- A worked example: a world that exports an interface with two functions f and h of one type, which
-- main exports as g and k. Its list has a nested component that imports both and exports them
-- again, an instance of it, and an export of that instance.
use Rattle.std.proofs.Common.{inl, ◌≡◌, ◌∙◌, ◌++◌, ℕ, Bool, true, false, List, [], ◌∷◌, refl, sym, Some, None, cond, map, take, arith, Option}
use Rattle.std.proofs.lemmas.Option.{none-some}
use Rattle.std.specs.Prelude.{codes}
use Rattle.std.specs.List.{slice_get, IsDistinct, flat_map}
use Rattle.comp_bytes.specs.ScopeNames.{item_import}
use Rattle.std.specs.Map.{lookup}
use Rattle.std.specs.Str.{bytes_eq}
use Rattle.standard_kinds.specs.declared.kinds.ExportKind.TheVariants as kinds
use Rattle.comp_bytes.proofs.Worked.{plain, f, g}
use Rattle.comp_bytes.specs.ItemIndices.{in_space}
use Rattle.comp_bytes.specs.declared.space.Sort.TheVariants as sorts
use Rattle.comp_bytes.specs.declared.space.Space.TheVariants as spaces
use Rattle.comp_bytes.specs.declared.types.Alias.TheVariants as aliases
use Rattle.comp_bytes.specs.declared.types.Description.TheVariants as descriptions
use Rattle.comp_bytes.specs.declared.types.TypeDef.TheVariants as types
use Rattle.comp_bytes.specs.declared.def.Argument.{Argument}
use Rattle.comp_bytes.specs.declared.def.Item.{Item}
use Rattle.comp_bytes.specs.declared.def.Item.TheVariants as items
use Rattle.comp_bytes.specs.declared.def.Def.{Def}
use Rattle.comp_bytes.specs.declared.def.Def.TheVariants as defs
use Rattle.core_types.specs.Core.{core_preamble}
use Rattle.wit_data.specs.Keys.{is_same_key}
use Rattle.wit_data.specs.Values.{values_from}
use Rattle.wit_data.specs.declared.functions.AbiVariant.TheVariants.{GuestExport}
use Rattle.wit_data.specs.declared.functions.Function.{Function}
use Rattle.wit_data.specs.declared.functions.FunctionKind.TheVariants.{Freestanding}
use Rattle.wit_data.specs.declared.worlds.WorldItem.{WorldItem}
use Rattle.wit_data.specs.declared.worlds.WorldItem.TheVariants as world_items
use Rattle.wit_data.specs.declared.worlds.WorldKey.{WorldKey}
use Rattle.wit_data.specs.declared.worlds.WorldKey.TheVariants as keys
use Rattle.comp_roles.specs.declared.exports.Export.{Export as WorldExport}
use Rattle.comp_roles.specs.declared.exports.Export.TheVariants as exports
use Rattle.comp_roles.specs.declared.offered.ExternType.TheVariants as externs
use Rattle.comp_worlds.specs.WorldContents.{items_of}
use Rattle.comp_worlds.specs.WorldTables.{whole_of}
use Rattle.comp_worlds.specs.Worlds.{IsWorld}
use Rattle.comp_worlds.specs.declared.world.ComponentWorld.{ComponentWorld}
use Rattle.comp_trees.specs.Trees.{is_known_function}
use Rattle.comp_trees.specs.DefinedTrees.{TypeTree, OfFunctions, OfOthers, function_tree}
use Rattle.comp_inventories.specs.Inventories.{inventory, scope_of}
use Rattle.comp_trees.specs.Members.{IsOfFunctions}
use Rattle.nested_terms.specs.Nested.{empty_scope, AreItemsRight}
use Rattle.comp_links.proofs.WorkedImports.{interface_of, interface_id, import_of_interface}
use Rattle.comp_links.specs.Lists.{RequiredKey, AreExportsApart}
use Rattle.comp_links.specs.Naming.{own_names}
use Rattle.comp_links.specs.Targets.{Main, Lifted as LiftedFrom}
use Rattle.comp_terms.specs.Terms.{IsInstanceOf, IsFunctionType}
use Rattle.comp_terms.specs.Planned.{IsLiftFor}
use Rattle.comp_terms.specs.Instances.{InstantiatesNested}
use Rattle.comp_terms.specs.Exports.{IsNestedFor, IsRequiredLift, ExportsInterface}
use Rattle.comp_terms.specs.Rules.{IsBuilt}
use Rattle.comp_runs.specs.Store.{ExportedBy, Lifting, Export}
use Rattle.comp_runs.specs.Machine.{Outcome, Done}
use Rattle.core_runs.specs.Store.{Opaque, Instantiated}
use Rattle.link_laws.specs.Linking.{outcome, IsLinked, Links}
use Rattle.link_laws.proofs.BaseRoles.{no_bases}
use Rattle.link_laws.proofs.Stores.{main_module, function_at_key}
use Rattle.link_laws.proofs.Steps.{no_modules}
use Rattle.link_laws.proofs.Plain.{key_same}
use Rattle.link_laws.proofs.Runs.{links}
use Rattle.link_laws.proofs.Worked.{plain_tree, plain_core, ended, core_export, made, machine_of, one_apart}
use Rattle.link_laws.proofs.WorkedDrops.{none_apart}
use Rattle.link_laws.proofs.WorkedApart.{no_keys_apart, one_key_apart}

-- ---- the world

abbrev pub h : List ℕ
h = codes "h"

abbrev pub k : List ℕ
k = codes "k"

abbrev pub key : WorldKey
key = keys.Interface (interface_id 0)

-- the name of the interface
abbrev pub name : List ℕ
name = codes "a:b/i"

-- a function without parameters
abbrev pub plain_function : List ℕ → Function
plain_function text = record { name = text; kind = Freestanding; params = []; result = None }

abbrev role_of : List ℕ → WorldExport
role_of function = exports.InterfaceFunc key (interface_id 0) function GuestExport

-- a module that exports g and k, of no parameter and no result
abbrev core : List ℕ
core = core_preamble ++ 0x01 ∷ 0x04 ∷ 0x01 ∷ 0x60 ∷ 0x00 ∷ 0x00 ∷ 0x03 ∷ 0x03 ∷ 0x02 ∷ 0x00 ∷ 0x00 ∷ 0x07 ∷ 0x09 ∷ 0x02 ∷ 0x01 ∷ 0x67 ∷ 0x00 ∷ 0x00 ∷ 0x01 ∷ 0x6b ∷ 0x00 ∷ 0x01 ∷ 0x0a ∷ 0x07 ∷ 0x02 ∷ 0x02 ∷ 0x00 ∷ 0x0b ∷ 0x02 ∷ 0x00 ∷ 0x0b ∷ []

abbrev pub world : ComponentWorld
world = whole_of (record {
  resolve = record {
    interfaces = interface_of (codes "i") [] ((f, plain_function f) ∷ (h, plain_function h) ∷ []) ∷ [];
    types = [];
    worlds = record { imports = []; exports = import_of_interface 0 ∷ [] } ∷ [];
  };
  world = record { index = 0 };
  main = record {
    bytes = core;
    imports = record { modules = [] };
    exports = record { exports = (g, role_of f) ∷ (k, role_of h) ∷ [] };
    imported = [];
    offered = (g, externs.Func plain_core) ∷ (k, externs.Func plain_core) ∷ [];
    metadata = record { import_encodings = []; export_encodings = [] };
  };
  main_exports = key ∷ [];
  adapters = [];
  can_use_context_slot_1 = false;
})

is_world : IsWorld world
unfolding values_from
is_world = record {
  present = omega arith;
  imports = tt;
  exports = ((refl, (refl, tt)), tt);
  import_keys_apart = no_keys_apart;
  import_names_apart = none_apart;
  export_keys_apart = one_key_apart key;
  export_names_apart = none_apart;
  exports_named = (refl, tt);
  exported_interfaces_apart = one_apart name;
  main = record {
    core = refl;
    modules_apart = none_apart;
    import_roles = tt;
    own_keys = tt;
    imported = tt;
    export_roles = ((record { exported = refl; has = (0, omega arith, refl) }, tt), ((record { exported = refl; has = (1, omega arith, refl) }, tt), tt));
    exported = (record { type = externs.Func plain_core; offered = refl; fits = refl }, (record { type = externs.Func plain_core; offered = refl; fits = refl }, tt));
    required = (record { exported = (0, omega arith, refl); present = (refl, (refl, tt)); formed = (tt, (tt, tt)) }, tt);
  };
  main_first = tt;
  adapters = tt;
  adapters_apart = none_apart;
  keys_apart = one_key_apart key;
}

-- it exports one interface
only_key : (other : WorldKey) (item : WorldItem) → lookup (is_same_key other) (items_of world).exports ≡ Some item → other ≡ key
only_key other item e = by (is_same_key other key) refl e
  where
    by : (b : Bool) → is_same_key other key ≡ b → cond b (Some (world_items.Interface (interface_id 0))) None ≡ Some item → other ≡ key
    by true same e = key_same other key same
    by false same e = absurd (none-some item e)

exports_apart : AreExportsApart own_names world
exports_apart a b x y same = only_key a (world_items.Interface x.0) x.1 ∙ sym (only_key b (world_items.Interface y.0) y.1)

-- ---- a list for it

abbrev type_of_both : Item
type_of_both = items.Type (types.Func (record { async_ = false; params = []; result = None }))

-- the nested component, where f and h are the functions of these indices
abbrev pub passing_on : ℕ → ℕ → List Item
passing_on for_f for_h =
    type_of_both
    ∷ items.Import (plain (codes "import-func-f")) (descriptions.Func 0)
    ∷ items.Import (plain (codes "import-func-h")) (descriptions.Func 0)
    ∷ type_of_both
    ∷ items.Export (plain f) sorts.Func for_f (Some (descriptions.Func 1))
    ∷ items.Export (plain h) sorts.Func for_h (Some (descriptions.Func 1))
    ∷ []

-- its arguments, where those of f and h have these indices
abbrev pub given_as : ℕ → ℕ → List Argument
given_as for_f for_h = record { name = codes "import-func-f"; sort = sorts.Func; index = for_f } ∷ record { name = codes "import-func-h"; sort = sorts.Func; index = for_h } ∷ []

abbrev pub list_of : List Item → List Argument → List Def
list_of nested arguments =
    map defs.Item (
    items.CoreModule core
    ∷ items.CoreInstantiate 0 []
    ∷ items.Alias (aliases.CoreExport kinds.Func 0 g)
    ∷ items.Alias (aliases.CoreExport kinds.Func 0 k)
    ∷ type_of_both
    ∷ items.Lift 0 [] 0
    ∷ items.Lift 1 [] 0
    ∷ [])
    ++ defs.Component nested
    ∷ defs.Item (items.Instantiate 0 arguments)
    ∷ defs.Item (items.Export (plain name) sorts.Instance 0 None)
    ∷ []

abbrev pub straight : List Def
straight = list_of (passing_on 0 1) (given_as 0 1)

-- the lifts are functions 0 and 1, and the instance exports both
pub straight_ends : ended (outcome world no_modules straight made) ≡ Some (record {
  code = Opaque 0 plain_core ∷ Opaque 1 plain_core ∷ [];
  known = ExportedBy 0 g ∷ ExportedBy 0 k ∷ [];
  functions = Lifting 0 [] plain_tree ∷ Lifting 1 [] plain_tree ∷ [];
  users = record { module_number = 0; given = []; exports = core_export g 0 ∷ core_export k 1 ∷ [] } ∷ [];
  exported = record { space = spaces.Instance; name = name; address = 0 } ∷ [];
  events = Instantiated 0 ∷ [];
})
straight_ends = refl

-- what the instances of a run export
abbrev pub instances_of : Outcome → Option (List (List Export))
instances_of (Done m) = Some m.store.instances
instances_of o = None

abbrev export_at : List ℕ → ℕ → Export
export_at text address = record { space = spaces.Func; name = text; address = address }

pub both_exported : instances_of (outcome world no_modules (list_of (passing_on 0 1) (given_as 0 1)) made) ≡ Some ((export_at f 0 ∷ export_at h 1 ∷ []) ∷ [])
both_exported = refl

-- ---- it keeps the rules

abbrev ds : ℕ → List Def
ds n = take n straight

main_made : (n : ℕ) → slice_get (in_space spaces.CoreInstance (ds n)) 0 ≡ Some (defs.Item (items.CoreInstantiate 0 [])) → IsInstanceOf (ds n) 0 0
main_made n at = record { arguments = []; made = record { made = at } }

type_known : is_known_function (function_tree (scope_of (ds 4)) (record { async_ = false; params = []; result = None })) ≡ true
unfolding inventory
type_known = refl

typed_5 : IsFunctionType (ds 5) 0 plain_tree
unfolding inventory
typed_5 = record { denotes = record { within = omega arith; tree = refl } }

typed_6 : IsFunctionType (ds 6) 0 plain_tree
unfolding inventory
typed_6 = record { denotes = record { within = omega arith; tree = refl } }

typed_9 : IsFunctionType (ds 9) 0 plain_tree
unfolding inventory
typed_9 = record { denotes = record { within = omega arith; tree = refl } }

f_lifted : IsLiftFor world (ds 9) 0 (LiftedFrom (record { of = Main; name = g }) []) plain_tree
f_lifted = record {
  entry = record { of = 0; kind = kinds.Func; name = g };
  options = [];
  is = record {
    core = 0;
    kind = 0;
    written = [];
    made = record { made = refl };
    of = record { instance = 0; made = record { made = refl }; of = main_made 9 refl };
    function = refl;
    with_options = tt;
    typed = typed_9;
  };
  asked = (record { of = record { world_module = main_module world; listed = refl; same = refl }; named = refl }, tt);
}

h_lifted : IsLiftFor world (ds 9) 1 (LiftedFrom (record { of = Main; name = k }) []) plain_tree
h_lifted = record {
  entry = record { of = 0; kind = kinds.Func; name = k };
  options = [];
  is = record {
    core = 1;
    kind = 0;
    written = [];
    made = record { made = refl };
    of = record { instance = 0; made = record { made = refl }; of = main_made 9 refl };
    function = refl;
    with_options = tt;
    typed = typed_9;
  };
  asked = (record { of = record { world_module = main_module world; listed = refl; same = refl }; named = refl }, tt);
}

-- what main has to provide
abbrev pub required : RequiredKey
required = record { of = Main; key = key }

f_required : IsRequiredLift world (ds 9) (function_at_key required f) 0
unfolding values_from
f_required = record { target = LiftedFrom (record { of = Main; name = g }) []; wit = plain_function f; said = refl; exported = refl; is = f_lifted }

h_required : IsRequiredLift world (ds 9) (function_at_key required h) 1
unfolding values_from
h_required = record { target = LiftedFrom (record { of = Main; name = k }) []; wit = plain_function h; said = refl; exported = refl; is = h_lifted }

-- the nested component is right, with no types given
abbrev no_types : List ℕ → TypeTree
no_types text = OfOthers

of_functions : IsOfFunctions (OfFunctions plain_tree ∷ []) 0
of_functions = record { type = plain_tree; tree = refl }

nested_right : AreItemsRight no_types empty_scope (passing_on 0 1)
nested_right = (refl, (of_functions, (of_functions, (refl, ((omega arith, omega arith, refl), ((omega arith, omega arith, refl), tt))))))

arguments_apart : IsDistinct bytes_eq (map (λ (a : Argument). a.name) (given_as 0 1))
unfolding IsDistinct
arguments_apart = ((refl, tt), (tt, tt))

imports_apart : IsDistinct bytes_eq (flat_map item_import (passing_on 0 1))
unfolding IsDistinct
imports_apart = ((refl, tt), (tt, tt))

nested_for : IsNestedFor world (passing_on 0 1)
nested_for = record { key = key; id = interface_id 0; item = refl; types = tt; apart = imports_apart }

instantiated_8 : InstantiatesNested (ds 8) 0 (given_as 0 1)
unfolding inventory
instantiated_8 = record {
  definitions = passing_on 0 1;
  given = no_types;
  made = record { made = refl };
  scoped = (omega arith, (omega arith, tt));
  apart = arguments_apart;
  exact = refl;
  right = nested_right;
  each = (record { argument = _; named = refl; typed = refl }, (record { argument = _; named = refl; typed = refl }, tt));
}

instantiated_9 : InstantiatesNested (ds 9) 0 (given_as 0 1)
unfolding inventory
instantiated_9 = record {
  definitions = passing_on 0 1;
  given = no_types;
  made = record { made = refl };
  scoped = (omega arith, (omega arith, tt));
  apart = arguments_apart;
  exact = refl;
  right = nested_right;
  each = (record { argument = _; named = refl; typed = refl }, (record { argument = _; named = refl; typed = refl }, tt));
}

exported : ExportsInterface world (ds 9) 0
unfolding instantiated_9
exported = record {
  required = required;
  id = interface_id 0;
  next = refl;
  item = refl;
  component = 0;
  arguments = given_as 0 1;
  instance = record { made = refl };
  nested = instantiated_9;
  types = tt;
  each = (record { function = _; argument = _; found = refl; named = refl; lifted = f_required }, (record { function = _; argument = _; found = refl; named = refl; lifted = h_required }, tt));
}

keeps_the_rules : IsBuilt own_names world straight
keeps_the_rules = record {
  generated = record { shims = None; fixup = None };
  are_generated = record { shims = refl; fixup = refl; room = omega arith; alike = no_bases world refl };
  front = straight;
  names = [];
  whole = refl;
  right = (
    tt,
    (
      inl (record { of = main_module world; listed = refl; scoped = omega arith; each = tt }),
      (
        inl (record { number = 0; of = main_module world; type = externs.Func plain_core; is = main_made 2 refl; listed = refl; offered = refl; of_kind = refl }),
        (
          inl (record { number = 0; of = main_module world; type = externs.Func plain_core; is = main_made 3 refl; listed = refl; offered = refl; of_kind = refl }),
          (
            type_known,
            (
              (omega arith, tt, record { type = plain_tree; is = typed_5 }),
              ((omega arith, tt, record { type = plain_tree; is = typed_6 }), ((record { given = no_types; right = nested_right }, nested_for), (instantiated_8, (exported, tt)))),
            ),
          ),
        ),
      ),
    ),
  );
  marked = refl;
  named = tt;
}

pub straight_links : Links own_names world no_modules straight
unfolding keeps_the_rules
straight_links = links own_names world straight is_world exports_apart keeps_the_rules

pub straight_is_linked : IsLinked own_names world no_modules (machine_of (outcome world no_modules straight made))
straight_is_linked = straight_links.linked made (machine_of (outcome world no_modules straight made)) refl
