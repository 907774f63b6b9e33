-- A worked example: a world that exports an interface with two resources r and s, and whose main
-- imports `resource.new`, `resource.rep` and `resource.drop` of r. Its list defines both resources,
-- gives main these functions of r, and links. Where main is given the `resource.rep` of s the run
-- ends too, but the list isn't linked. Of an imported resource neither `resource.new` nor
-- `resource.rep` can be made.
use Rattle.std.proofs.Common.{inl, ◌≡◌, ◌∙◌, ◌++◌, ℕ, Bool, true, false, List, [], ◌∷◌, refl, sym, ap, subst, Option, Some, None, cond, map, take, arith}
use Rattle.std.proofs.lemmas.Option.{none-some, same_Some}
use Rattle.std.specs.Prelude.{codes}
use Rattle.std.specs.List.{AllByRecursion, IsDistinct}
use Rattle.std.specs.Map.{lookup}
use Rattle.std.specs.Str.{bytes_eq}
use Rattle.standard_kinds.specs.declared.kinds.ExportKind.TheVariants as kinds
use Rattle.comp_bytes.proofs.Worked.{plain}
use Rattle.comp_bytes.specs.declared.space.Sort.TheVariants as sorts
use Rattle.comp_bytes.specs.declared.space.Space.TheVariants as spaces
use Rattle.comp_bytes.specs.declared.canon.Intrinsic.TheVariants as intrinsics
use Rattle.comp_bytes.specs.declared.types.Description.TheVariants as descriptions
use Rattle.comp_bytes.specs.declared.types.TypeDef.TheVariants as types
use Rattle.comp_bytes.specs.declared.def.CoreInlineExport.{CoreInlineExport}
use Rattle.comp_bytes.specs.declared.def.Item.TheVariants as items
use Rattle.comp_bytes.specs.declared.def.Def.{Def}
use Rattle.comp_bytes.specs.declared.def.Def.TheVariants as defs
use Rattle.core_types.specs.Core.{core_preamble}
use Rattle.core_runs.specs.Store.{Opaque, Instantiated}
use Rattle.wit_data.specs.Keys.{is_same_key}
use Rattle.wit_data.specs.Values.{values_from}
use Rattle.wit_data.specs.declared.ids.TypeId.{TypeId}
use Rattle.wit_data.specs.declared.worlds.WorldItem.{WorldItem}
use Rattle.wit_data.specs.declared.worlds.WorldItem.TheVariants as world_items
use Rattle.wit_data.specs.declared.worlds.WorldKey.{WorldKey}
use Rattle.comp_roles.specs.declared.imports.Import.{Import}
use Rattle.comp_roles.specs.declared.imports.Import.TheVariants as imports
use Rattle.comp_roles.specs.declared.imports.ImportInstance.TheVariants as instances
use Rattle.comp_roles.specs.declared.offered.ImportType.{ImportType}
use Rattle.comp_worlds.specs.Typed.{drop_type, handle_type}
use Rattle.comp_worlds.specs.WorldContents.{items_of}
use Rattle.comp_worlds.specs.WorldTables.{whole_of}
use Rattle.comp_worlds.specs.Worlds.{IsOwnResource, IsWorld}
use Rattle.comp_worlds.specs.declared.world.ComponentWorld.{ComponentWorld}
use Rattle.comp_trees.specs.Trees.{Tree, Resource, DefinedAt, ResourceAt}
use Rattle.comp_inventories.specs.Inventories.{inventory}
use Rattle.comp_links.proofs.WorkedImports.{interface_of, interface_id, type_id, import_of_interface}
use Rattle.comp_links.specs.Lists.{AreExportsApart, component_types, own_resources, resource_of}
use Rattle.comp_links.specs.Naming.{own_names}
use Rattle.comp_links.specs.Targets.{Main, ResourceFunction, New, Rep, Drop, OfResource}
use Rattle.comp_terms.specs.Terms.{IsResource as IsResourceAt, intrinsic_of}
use Rattle.comp_terms.specs.Terms as terms
use Rattle.comp_terms.specs.Planned.{IsEntryFor, IsArgumentFor}
use Rattle.comp_terms.specs.Instances.{InstantiatesNested}
use Rattle.comp_terms.specs.Exports.{IsNestedFor, ExportsInterface}
use Rattle.comp_terms.specs.Rules.{DefinesResource, IsBuilt}
use Rattle.comp_runs.specs.Store.{IntrinsicOf}
use Rattle.comp_runs.specs.Machine.{Machine, Outcome, Stuck}
use Rattle.link_laws.specs.Meeting.{CoreMeets, ItemIsOfResource, Meets}
use Rattle.link_laws.specs.Linking.{outcome, IsServed, IsLinked, Links}
use Rattle.link_laws.proofs.BaseRoles.{no_bases}
use Rattle.link_laws.proofs.Stores.{resource_core, main_module}
use Rattle.link_laws.proofs.Plain.{key_same}
use Rattle.link_laws.proofs.Steps.{no_modules}
use Rattle.link_laws.proofs.Runs.{links}
use Rattle.link_laws.proofs.Worked.{Ended, ended, core_function, made, machine_of, one_apart}
use Rattle.link_laws.proofs.NamedItem.{own_item}
use Rattle.link_laws.proofs.WorkedApart.{no_keys_apart, one_key_apart}
use Rattle.link_laws.proofs.WorkedDrops.{none_apart, not_true}
use Rattle.link_laws.proofs.WorkedOwnResource.{r, key, name}
use Rattle.link_laws.proofs.CrossedDestructors.{s, resource_type, passing_on, given_as, resources_given, nested_right, imports_apart}

-- ---- the world

abbrev exported_i : List ℕ
exported_i = codes "[export]a:b/i"

abbrev new_r : List ℕ
new_r = codes "[resource-new]r"

abbrev rep_r : List ℕ
rep_r = codes "[resource-rep]r"

abbrev drop_r : List ℕ
drop_r = codes "[resource-drop]r"

abbrev fields : List (List ℕ × Import)
fields = (new_r, imports.ExportedResourceNew key (type_id 0)) ∷ (rep_r, imports.ExportedResourceRep key (type_id 0)) ∷ (drop_r, imports.ExportedResourceDrop key (type_id 0)) ∷ []

-- a module that imports the three: the first two of a number and with one as the result, the last of a number
abbrev import_of : ℕ → List ℕ → ℕ → List ℕ
import_of size field type = 0x0d ∷ exported_i ++ size ∷ field ++ 0x00 ∷ type ∷ []

abbrev core : List ℕ
core =
    core_preamble ++ (0x01 ∷ 0x0a ∷ 0x02 ∷ 0x60 ∷ 0x01 ∷ 0x7f ∷ 0x01 ∷ 0x7f ∷ 0x60 ∷ 0x01 ∷ 0x7f ∷ 0x00 ∷ 0x02 ∷ 0x62 ∷ 0x03 ∷ []) ++ import_of 0x0f new_r 0 ++ import_of 0x0f rep_r 0
    ++ import_of 0x10 drop_r 1

abbrev world : ComponentWorld
world = whole_of (record {
  resolve = record {
    interfaces = interface_of (codes "i") ((r, type_id 0) ∷ (s, type_id 1) ∷ []) [] ∷ [];
    types = resource_type r ∷ resource_type s ∷ [];
    worlds = record { imports = []; exports = import_of_interface 0 ∷ [] } ∷ [];
  };
  world = record { index = 0 };
  main = record {
    bytes = core;
    imports = record { modules = (exported_i, instances.Names fields) ∷ [] };
    exports = record { exports = [] };
    imported =
        record { module_name = exported_i; field = new_r; ty = handle_type }
        ∷ record { module_name = exported_i; field = rep_r; ty = handle_type }
        ∷ record { module_name = exported_i; field = drop_r; ty = drop_type }
        ∷ [];
    offered = [];
    metadata = record { import_encodings = []; export_encodings = [] };
  };
  main_exports = key ∷ [];
  adapters = [];
  can_use_context_slot_1 = false;
})

r_is_own : IsOwnResource world key (type_id 0)
r_is_own = record { resource = record { present = omega arith; kind = refl }; interface = interface_id 0; owner = refl; exported = refl; required = (0, omega arith, refl) }

fields_apart : IsDistinct bytes_eq (new_r ∷ rep_r ∷ drop_r ∷ [])
unfolding IsDistinct
fields_apart = ((refl, (refl, tt)), ((refl, tt), (tt, tt)))

is_world : IsWorld world
unfolding values_from
is_world = record {
  present = omega arith;
  imports = tt;
  exports = (tt, tt);
  import_keys_apart = no_keys_apart;
  import_names_apart = none_apart;
  export_keys_apart = one_key_apart key;
  export_names_apart = none_apart;
  exports_named = (refl, tt);
  exported_interfaces_apart = one_apart name;
  main = record {
    core = refl;
    modules_apart = one_apart exported_i;
    import_roles = ((fields_apart, (r_is_own, (r_is_own, (r_is_own, tt)))), tt);
    own_keys = ((0, omega arith, refl), ((0, omega arith, refl), ((0, omega arith, refl), tt)));
    imported = (
      inl (record { role = imports.ExportedResourceNew key (type_id 0); has_role = refl; fits = refl }),
      (inl (record { role = imports.ExportedResourceRep key (type_id 0); has_role = refl; fits = refl }), (inl (record { role = imports.ExportedResourceDrop key (type_id 0); has_role = refl; fits = refl }), tt)),
    );
    export_roles = tt;
    exported = tt;
    required = (record { exported = (0, omega arith, refl); present = tt; formed = tt }, tt);
  };
  main_first = ((tt, (tt, (tt, tt))), tt);
  adapters = tt;
  adapters_apart = none_apart;
  keys_apart = one_key_apart key;
}

-- it exports one interface
only_key : (other : WorldKey) (item : WorldItem) → lookup (is_same_key other) (items_of world).exports ≡ Some item → other ≡ key
only_key other item found = by (is_same_key other key) refl found
  where
    by : (b : Bool) → is_same_key other key ≡ b → cond b (Some (world_items.Interface (interface_id 0))) None ≡ Some item → other ≡ key
    by true same h = key_same other key same
    by false same h = absurd (none-some item h)

exports_apart : AreExportsApart own_names world
exports_apart a b x y same = only_key a (world_items.Interface x.0) x.1 ∙ sym (only_key b (world_items.Interface y.0) y.1)

-- ---- a list for it, where main is given the functions of these two types

abbrev entries : List CoreInlineExport
entries = record { name = new_r; kind = kinds.Func; index = 0 } ∷ record { name = rep_r; kind = kinds.Func; index = 1 } ∷ record { name = drop_r; kind = kinds.Func; index = 2 } ∷ []

abbrev list_of : ℕ → List Def
list_of rep =
    map defs.Item (
    items.CoreModule core
    ∷ items.Type (types.Resource None)
    ∷ items.Type (types.Resource None)
    ∷ items.Intrinsic (intrinsics.ResourceNew 0)
    ∷ items.Intrinsic (intrinsics.ResourceRep rep)
    ∷ items.Intrinsic (intrinsics.ResourceDrop 0)
    ∷ items.CoreExports entries
    ∷ items.CoreInstantiate 0 (record { name = exported_i; instance = 0 } ∷ [])
    ∷ [])
    ++ defs.Component passing_on
    ∷ defs.Item (items.Instantiate 0 (given_as 0 1))
    ∷ defs.Item (items.Export (plain name) sorts.Instance 0 None)
    ∷ []

-- how running it ends
abbrev end_of : ℕ → Ended
end_of rep = record {
  code = Opaque 0 (resource_core New) ∷ Opaque 1 (resource_core Rep) ∷ Opaque 2 (resource_core Drop) ∷ [];
  known =
      IntrinsicOf (intrinsics.ResourceNew 0) (Some (ResourceAt (DefinedAt 0))) []
      ∷ IntrinsicOf (intrinsics.ResourceRep 0) (Some (ResourceAt (DefinedAt rep))) []
      ∷ IntrinsicOf (intrinsics.ResourceDrop 0) (Some (ResourceAt (DefinedAt 0))) []
      ∷ [];
  functions = [];
  users = record { module_number = 0; given = core_function 0 ∷ core_function 1 ∷ core_function 2 ∷ []; exports = [] } ∷ [];
  exported = record { space = spaces.Instance; name = name; address = 0 } ∷ [];
  events = Instantiated 0 ∷ [];
}

pub handles_end : ended (outcome world no_modules (list_of 0) made) ≡ Some (end_of 0)
handles_end = refl

-- ---- it keeps the rules, and so links

abbrev ds : ℕ → List Def
ds n = take n (list_of 0)

r_defined : DefinesResource world (ds 1) None
unfolding values_from inventory
r_defined = record { provided = record { of = Main; id = type_id 0 }; next = refl; destructed = tt }

s_defined : DefinesResource world (ds 2) None
unfolding values_from inventory
s_defined = record { provided = record { of = Main; id = type_id 1 }; next = refl; destructed = tt }

r_at_3 : IsResourceAt (ds 3) 0 (DefinedAt 0)
unfolding inventory
r_at_3 = record { denotes = record { within = omega arith; tree = refl } }

r_at_4 : IsResourceAt (ds 4) 0 (DefinedAt 0)
unfolding inventory
r_at_4 = record { denotes = record { within = omega arith; tree = refl } }

r_at_5 : IsResourceAt (ds 5) 0 (DefinedAt 0)
unfolding inventory
r_at_5 = record { denotes = record { within = omega arith; tree = refl } }

r_at_7 : IsResourceAt (ds 7) 0 (DefinedAt 0)
unfolding inventory
r_at_7 = record { denotes = record { within = omega arith; tree = refl } }

-- what r is
r_is_first : resource_of world (type_id 0) ≡ DefinedAt 0
unfolding values_from
r_is_first = refl

new_given : IsEntryFor world Main (ds 7) (record { name = new_r; kind = kinds.Func; index = 0 }) (new_r, imports.ExportedResourceNew key (type_id 0))
new_given = record {
  named = refl;
  serves = inl (record { term = terms.OfResource New (DefinedAt 0); is = record { type = 0; made = record { made = refl }; of = r_at_7 }; asked = (refl, sym r_is_first) });
  supplied = record { encoding = not_true; memory = not_true; realloc = λ shared needed. cc };
}

rep_given : IsEntryFor world Main (ds 7) (record { name = rep_r; kind = kinds.Func; index = 1 }) (rep_r, imports.ExportedResourceRep key (type_id 0))
rep_given = record {
  named = refl;
  serves = inl (record { term = terms.OfResource Rep (DefinedAt 0); is = record { type = 0; made = record { made = refl }; of = r_at_7 }; asked = (refl, sym r_is_first) });
  supplied = record { encoding = not_true; memory = not_true; realloc = λ shared needed. cc };
}

drop_given : IsEntryFor world Main (ds 7) (record { name = drop_r; kind = kinds.Func; index = 2 }) (drop_r, imports.ExportedResourceDrop key (type_id 0))
drop_given = record {
  named = refl;
  serves = inl (record { term = terms.OfResource Drop (DefinedAt 0); is = record { type = 0; made = record { made = refl }; of = r_at_7 }; asked = (refl, sym r_is_first) });
  supplied = record { encoding = not_true; memory = not_true; realloc = λ shared needed. cc };
}

all_given : IsArgumentFor world Main (ds 7) (record { name = exported_i; instance = 0 }) (exported_i, instances.Names fields)
all_given = record { named = refl; serves = record { entries = entries; made = record { made = refl }; each = (new_given, (rep_given, (drop_given, tt))) } }

nested_for : IsNestedFor world passing_on
unfolding values_from
nested_for = record {
  key = key;
  id = interface_id 0;
  item = refl;
  types = (record { type = type_id 0; of = r; titled = refl; from = inl refl; count = 0; same = refl }, (record { type = type_id 1; of = s; titled = refl; from = inl refl; count = 0; same = refl }, tt));
  apart = imports_apart;
}

instantiated_9 : InstantiatesNested (ds 9) 0 (given_as 0 1)
unfolding inventory
instantiated_9 = record {
  definitions = passing_on;
  given = resources_given;
  made = record { made = refl };
  scoped = (omega arith, (omega arith, tt));
  apart = imports_apart;
  exact = refl;
  right = nested_right;
  each = (record { argument = _; named = refl; denotes = record { within = omega arith; tree = refl } }, (record { argument = _; named = refl; denotes = record { within = omega arith; tree = refl } }, tt));
}

instantiated_10 : InstantiatesNested (ds 10) 0 (given_as 0 1)
unfolding inventory
instantiated_10 = record {
  definitions = passing_on;
  given = resources_given;
  made = record { made = refl };
  scoped = (omega arith, (omega arith, tt));
  apart = imports_apart;
  exact = refl;
  right = nested_right;
  each = (record { argument = _; named = refl; denotes = record { within = omega arith; tree = refl } }, (record { argument = _; named = refl; denotes = record { within = omega arith; tree = refl } }, tt));
}

exported : ExportsInterface world (ds 10) 0
unfolding values_from instantiated_10
exported = record { required = record { of = Main; key = key }; id = interface_id 0; next = refl; item = refl; component = 0; arguments = given_as 0 1; instance = record { made = refl }; nested = instantiated_10; types = (refl, (refl, tt)); each = tt }

keeps_the_rules : IsBuilt own_names world (list_of 0)
unfolding values_from
keeps_the_rules = record {
  generated = record { shims = None; fixup = None };
  are_generated = record { shims = refl; fixup = refl; room = omega arith; alike = no_bases world refl };
  front = list_of 0;
  names = [];
  whole = refl;
  right = (
    tt,
    (
      r_defined,
      (
        s_defined,
        (
          record { number = 0; is = r_at_3 },
          (
            record { number = 0; is = r_at_4 },
            (
              record { resource = DefinedAt 0; is = r_at_5 },
              (
                record { each = (record { scoped = omega arith }, (record { scoped = omega arith }, (record { scoped = omega arith }, tt))); apart = fields_apart },
                (
                  inl (record { of = main_module world; listed = refl; scoped = omega arith; each = (all_given, tt) }),
                  ((record { given = resources_given; right = nested_right }, nested_for), (instantiated_9, (exported, tt))),
                ),
              ),
            ),
          ),
        ),
      ),
    ),
  );
  marked = refl;
  named = tt;
}

pub handles_link : Links own_names world no_modules (list_of 0)
unfolding keeps_the_rules
handles_link = links own_names world (list_of 0) is_world exports_apart keeps_the_rules

pub handles_are_linked : IsLinked own_names world no_modules (machine_of (outcome world no_modules (list_of 0) made))
handles_are_linked = handles_link.linked made (machine_of (outcome world no_modules (list_of 0) made)) refl

-- ---- where main is given the representation of handles of s, the run ends, but it isn't linked

abbrev other : Outcome
other = outcome world no_modules (list_of 1) made

pub other_ends : ended other ≡ Some (end_of 1)
other_ends = refl

abbrev m : Machine
m = machine_of other

-- the number of the resource of the component that a type is
abbrev number_of : Option Tree → ℕ
number_of (Some (ResourceAt (DefinedAt number))) = number
number_of tree = 0

no_rep_of_r : CoreMeets world m None 1 (ItemIsOfResource Rep (DefinedAt 0)) → ⊥
no_rep_of_r c =
    let second : 1 ≡ 0 = ap number_of (own_item world m 1 (ItemIsOfResource Rep (DefinedAt 0)) c 1 (resource_core Rep) (IntrinsicOf (intrinsics.ResourceRep 0) (Some (ResourceAt (DefinedAt 1))) []) refl refl) in absurd (omega (arith, second))

abbrev second_import : ImportType
second_import = record { module_name = exported_i; field = rep_r; ty = handle_type }

second_meets : (origins : TypeId → Resource) → origins (type_id 0) ≡ DefinedAt 0 → IsServed world m origins (main_module world) (core_function 1) second_import → CoreMeets world m None 1 (ItemIsOfResource Rep (DefinedAt 0))
second_meets origins is served =
    subst (λ o. CoreMeets world m None 1 (ItemIsOfResource Rep o)) is (subst (Meets world m origins (core_function 1)) (same_Some served.target (OfResource Rep (type_id 0)) (sym served.said)) served.meets)

first_is : (origins : TypeId → Resource) → AllByRecursion (λ id. origins id ≡ resource_of world id) (component_types world ++ own_resources world) → origins (type_id 0) ≡ DefinedAt 0
unfolding values_from
first_is origins h = h.0

pub other_is_not_linked : IsLinked own_names world no_modules m → ⊥
other_is_not_linked l = no_rep_of_r (second_meets l.origins (first_is l.origins l.imports.resources) (l.imports.each 0 _ _ refl refl).1.0)

pub other_does_not_link : Links own_names world no_modules (list_of 1) → ⊥
other_does_not_link l = other_is_not_linked (l.linked made m refl)

-- ---- of an imported resource there is no such function

abbrev of_imported : ResourceFunction → List Def
of_imported function = map defs.Item (items.Import (plain r) descriptions.SubResource ∷ items.Intrinsic (intrinsic_of function 0) ∷ [])

pub no_new_of_imported : outcome world no_modules (of_imported New) [] ≡ Stuck
no_new_of_imported = refl

pub no_rep_of_imported : outcome world no_modules (of_imported Rep) [] ≡ Stuck
no_rep_of_imported = refl
