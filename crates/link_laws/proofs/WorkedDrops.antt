-- A worked example: a world that imports two resources, of which main drops handles. Its list
-- links, and with the two drops crossed it isn't linked.
use Rattle.comp_worlds.specs.WorldContents.{items_of}
use Rattle.wit_data.specs.Keys.{is_same_key}
use Rattle.std.specs.Map.{keys_of}
use Rattle.comp_links.specs.Naming.{own_names}
use Rattle.std.proofs.Common.{inl, ◌≡◌, ℕ, zero, suc, false, List, [], ◌∷◌, ◌++◌, refl, sym, ap, subst, Option, Some, None, map, take, IsTrue, arith}
use Rattle.std.proofs.lemmas.Option.{same_Some}
use Rattle.std.specs.Prelude.{codes, Contains}
use Rattle.std.specs.List.{IsDistinct}
use Rattle.std.specs.Str.{bytes_eq}
use Rattle.standard_kinds.specs.declared.kinds.ExportKind.TheVariants as kinds
use Rattle.comp_bytes.proofs.Worked.{plain, root}
use Rattle.comp_bytes.specs.declared.canon.Intrinsic.TheVariants as intrinsics
use Rattle.comp_bytes.specs.declared.types.Description.TheVariants as descriptions
use Rattle.comp_bytes.specs.declared.def.CoreInlineExport.{CoreInlineExport}
use Rattle.comp_bytes.specs.declared.def.Item.TheVariants as items
use Rattle.comp_bytes.specs.declared.def.Def.{Def}
use Rattle.comp_bytes.specs.declared.def.Def.TheVariants as defs
use Rattle.core_types.specs.Core.{core_preamble}
use Rattle.core_runs.specs.Store.{Opaque, Instantiated}
use Rattle.wit_data.specs.Values.{values_from}
use Rattle.wit_data.specs.declared.ids.TypeId.{TypeId}
use Rattle.wit_data.specs.declared.types.TypeDef.{TypeDef}
use Rattle.wit_data.specs.declared.types.TypeDefKind.TheVariants as wit_kinds
use Rattle.wit_data.specs.declared.types.TypeOwner.TheVariants as owners
use Rattle.wit_data.specs.declared.worlds.WorldItem.TheVariants as world_items
use Rattle.wit_data.specs.declared.worlds.WorldKey.TheVariants as keys
use Rattle.comp_roles.specs.declared.imports.Import.{Import}
use Rattle.comp_roles.specs.declared.imports.Import.TheVariants as imports
use Rattle.comp_roles.specs.declared.imports.ImportInstance.TheVariants as instances
use Rattle.comp_roles.specs.declared.offered.ImportType.{ImportType}
use Rattle.comp_worlds.specs.Typed.{drop_type}
use Rattle.comp_worlds.specs.WorldTables.{whole_of}
use Rattle.comp_worlds.specs.Worlds.{IsResource, IsWorld}
use Rattle.comp_worlds.specs.declared.world.ComponentWorld.{ComponentWorld}
use Rattle.comp_trees.specs.Trees.{Tree, Resource, ImportedAt, ResourceAt}
use Rattle.comp_inventories.specs.Inventories.{inventory}
use Rattle.comp_links.specs.Lists.{resource_of}
use Rattle.comp_links.specs.Targets.{Main, Drop, OfResource}
use Rattle.comp_terms.specs.Terms.{IsResource as IsResourceAt, IsOfResource}
use Rattle.comp_terms.specs.Terms as terms
use Rattle.comp_terms.specs.Planned.{IsEntryFor, IsArgumentFor}
use Rattle.comp_terms.specs.Rules.{IsDescriptionRight, IsBuilt}
use Rattle.comp_runs.specs.Store.{IntrinsicOf}
use Rattle.comp_runs.specs.Machine.{Machine, Outcome}
use Rattle.link_laws.specs.Meeting.{CoreMeets, ItemIsOfResource, Meets}
use Rattle.link_laws.specs.Linking.{outcome, IsServed, IsLinked, Links}
use Rattle.link_laws.proofs.BaseRoles.{no_bases}
use Rattle.link_laws.proofs.Stores.{drop_core, main_module}
use Rattle.link_laws.proofs.Steps.{no_modules}
use Rattle.link_laws.proofs.Runs.{links}
use Rattle.link_laws.proofs.Worked.{root_import, Ended, ended, core_function, made, machine_of, one_apart}
use Rattle.link_laws.proofs.NamedItem.{own_item}
use Rattle.link_laws.proofs.WorkedApart.{no_keys_apart, functions_apart}

-- ---- the world

abbrev pub r : List ℕ
r = codes "r"

abbrev pub s : List ℕ
s = codes "s"

abbrev pub drop_r : List ℕ
drop_r = codes "[resource-drop]r"

abbrev drop_s : List ℕ
drop_s = codes "[resource-drop]s"

abbrev wit_types : List TypeDef
wit_types =
    record { name = Some r; kind = wit_kinds.Resource; owner = owners.World (record { index = 0 }) }
    ∷ record { name = Some s; kind = wit_kinds.Resource; owner = owners.World (record { index = 0 }) }
    ∷ []

-- the drop of the type of this number
abbrev drop_of : List ℕ → ℕ → Import
drop_of name number = imports.ImportedResourceDrop (keys.Name name) None (record { index = number })

abbrev fields : List (List ℕ × Import)
fields = (drop_r, drop_of r 0) ∷ (drop_s, drop_of s 1) ∷ []

-- a module that imports both drops
abbrev import_of : List ℕ → List ℕ
import_of name = 0x05 ∷ root ++ 0x10 ∷ name ++ 0x00 ∷ 0x00 ∷ []

abbrev core : List ℕ
core = core_preamble ++ (0x01 ∷ 0x05 ∷ 0x01 ∷ 0x60 ∷ 0x01 ∷ 0x7f ∷ 0x00 ∷ 0x02 ∷ 0x33 ∷ 0x02 ∷ []) ++ import_of drop_r ++ import_of drop_s

abbrev world : ComponentWorld
world = whole_of (record {
  resolve = record {
    interfaces = [];
    types = wit_types;
    worlds = record {
      imports = (keys.Name r, world_items.NamedType (record { index = 0 })) ∷ (keys.Name s, world_items.NamedType (record { index = 1 })) ∷ [];
      exports = [];
    } ∷ [];
  };
  world = record { index = 0 };
  main = record {
    bytes = core;
    imports = record { modules = (root, instances.Names fields) ∷ [] };
    exports = record { exports = [] };
    imported = record { module_name = root; field = drop_r; ty = drop_type } ∷ record { module_name = root; field = drop_s; ty = drop_type } ∷ [];
    offered = [];
    metadata = record { import_encodings = []; export_encodings = [] };
  };
  main_exports = [];
  adapters = [];
  can_use_context_slot_1 = false;
})

pub none_apart : IsDistinct bytes_eq []
unfolding IsDistinct
none_apart = tt

fields_apart : IsDistinct bytes_eq (drop_r ∷ drop_s ∷ [])
unfolding IsDistinct
fields_apart = ((refl, tt), (tt, tt))

each_imported : (n : ℕ) → IsResource wit_types n → Contains (0 ∷ 1 ∷ []) n
each_imported zero h = (0, omega arith, refl)
each_imported (suc zero) h = (1, omega arith, refl)
each_imported (suc (suc n)) h = let l = h.present in absurd (omega (arith, l))

keys_apart : IsDistinct is_same_key (keys_of (items_of world).imports)
unfolding IsDistinct
keys_apart = ((refl, tt), (tt, tt))

is_world : IsWorld world
unfolding values_from
is_world = record {
  present = omega arith;
  imports = (tt, (tt, tt));
  exports = tt;
  import_keys_apart = keys_apart;
  import_names_apart = none_apart;
  export_keys_apart = no_keys_apart;
  export_names_apart = none_apart;
  exports_named = tt;
  exported_interfaces_apart = none_apart;
  main = record {
    core = refl;
    modules_apart = one_apart root;
    import_roles = ((fields_apart, (record { present = omega arith; kind = refl }, (record { present = omega arith; kind = refl }, tt))), tt);
    own_keys = (tt, (tt, tt));
    imported = (inl (record { role = drop_of r 0; has_role = refl; fits = refl }), (inl (record { role = drop_of s 1; has_role = refl; fits = refl }), tt));
    export_roles = tt;
    exported = tt;
    required = tt;
  };
  main_first = ((tt, (tt, tt)), tt);
  adapters = tt;
  adapters_apart = none_apart;
  keys_apart = no_keys_apart;
}

-- ---- a list for it, where the two imports of main are given the drops of these types

abbrev entries : List CoreInlineExport
entries = record { name = drop_r; kind = kinds.Func; index = 0 } ∷ record { name = drop_s; kind = kinds.Func; index = 1 } ∷ []

abbrev list_of : ℕ → ℕ → List Def
list_of first second = map defs.Item (
    items.Import (plain r) descriptions.SubResource
    ∷ items.Import (plain s) descriptions.SubResource
    ∷ items.CoreModule core
    ∷ items.Intrinsic (intrinsics.ResourceDrop first)
    ∷ items.Intrinsic (intrinsics.ResourceDrop second)
    ∷ items.CoreExports entries
    ∷ items.CoreInstantiate 0 (record { name = root; instance = 0 } ∷ [])
    ∷ [])

abbrev resource : ℕ → Resource
resource number = ImportedAt (root_import number)

-- how running it ends
abbrev end_of : ℕ → ℕ → Ended
end_of first second = record {
  code = Opaque 0 drop_core ∷ Opaque 1 drop_core ∷ [];
  known = IntrinsicOf (intrinsics.ResourceDrop 0) (Some (ResourceAt (resource first))) [] ∷ IntrinsicOf (intrinsics.ResourceDrop 0) (Some (ResourceAt (resource second))) [] ∷ [];
  functions = [];
  users = record { module_number = 0; given = core_function 0 ∷ core_function 1 ∷ []; exports = [] } ∷ [];
  exported = [];
  events = Instantiated 0 ∷ [];
}

pub drops_end : ended (outcome world no_modules (list_of 0 1) made) ≡ Some (end_of 0 1)
drops_end = refl

-- ---- it keeps the rules, and so links

abbrev ds : ℕ → List Def
ds n = take n (list_of 0 1)

r_imported : IsDescriptionRight world [] r descriptions.SubResource
unfolding inventory values_from
r_imported = record { id = record { index = 0 }; stated = refl; same = refl }

s_imported : IsDescriptionRight world (ds 1) s descriptions.SubResource
unfolding inventory values_from
s_imported = record { id = record { index = 1 }; stated = refl; same = refl }

r_there : IsResourceAt (ds 3) 0 (resource 0)
unfolding inventory
r_there = record { denotes = record { within = omega arith; tree = refl } }

s_there : IsResourceAt (ds 4) 1 (resource 1)
unfolding inventory
s_there = record { denotes = record { within = omega arith; tree = refl } }

r_dropped : IsOfResource (ds 6) 0 Drop (resource 0)
unfolding inventory
r_dropped = record { type = 0; made = record { made = refl }; of = record { denotes = record { within = omega arith; tree = refl } } }

s_dropped : IsOfResource (ds 6) 1 Drop (resource 1)
unfolding inventory
s_dropped = record { type = 1; made = record { made = refl }; of = record { denotes = record { within = omega arith; tree = refl } } }

pub not_true : {P : Type 0} → IsTrue false → P
not_true e = cc

r_given : IsEntryFor world Main (ds 6) (record { name = drop_r; kind = kinds.Func; index = 0 }) (drop_r, drop_of r 0)
r_given = record { named = refl; serves = inl (record { term = terms.OfResource Drop (resource 0); is = r_dropped; asked = (refl, refl) }); supplied = record { encoding = not_true; memory = not_true; realloc = λ shared needed. cc } }

s_given : IsEntryFor world Main (ds 6) (record { name = drop_s; kind = kinds.Func; index = 1 }) (drop_s, drop_of s 1)
s_given = record { named = refl; serves = inl (record { term = terms.OfResource Drop (resource 1); is = s_dropped; asked = (refl, refl) }); supplied = record { encoding = not_true; memory = not_true; realloc = λ shared needed. cc } }

both_given : IsArgumentFor world Main (ds 6) (record { name = root; instance = 0 }) (root, instances.Names fields)
both_given = record { named = refl; serves = record { entries = entries; made = record { made = refl }; each = (r_given, (s_given, tt)) } }

keeps_the_rules : IsBuilt own_names world (list_of 0 1)
keeps_the_rules = record {
  generated = record { shims = None; fixup = None };
  are_generated = record { shims = refl; fixup = refl; room = omega arith; alike = no_bases world refl };
  front = list_of 0 1;
  names = [];
  whole = refl;
  right = (
    r_imported,
    (
      s_imported,
      (
        tt,
        (
          record { resource = resource 0; is = r_there },
          (
            record { resource = resource 1; is = s_there },
            (
              record { each = (record { scoped = omega arith }, (record { scoped = omega arith }, tt)); apart = fields_apart },
              (inl (record { of = main_module world; listed = refl; scoped = omega arith; each = (both_given, tt) }), tt),
            ),
          ),
        ),
      ),
    ),
  );
  marked = refl;
  named = tt;
}

pub drops_link : Links own_names world no_modules (list_of 0 1)
unfolding keeps_the_rules
drops_link = links own_names world (list_of 0 1) is_world (functions_apart own_names world tt) keeps_the_rules

pub drops_are_linked : IsLinked own_names world no_modules (machine_of (outcome world no_modules (list_of 0 1) made))
drops_are_linked = drops_link.linked made (machine_of (outcome world no_modules (list_of 0 1) made)) refl

-- ---- where the drops are crossed, the run ends, but it isn't linked

abbrev crossed : Outcome
crossed = outcome world no_modules (list_of 1 0) made

pub crossed_ends : ended crossed ≡ Some (end_of 1 0)
crossed_ends = refl

abbrev m : Machine
m = machine_of crossed

-- the number of the import that a resource is
abbrev number_of : Option Tree → ℕ
number_of (Some (ResourceAt (ImportedAt origin))) = origin.number
number_of tree = 0

-- function 0 drops the second resource
no_drop_of_r : CoreMeets world m None 0 (ItemIsOfResource Drop (resource 0)) → ⊥
no_drop_of_r c =
    let other : 1 ≡ 0 = ap number_of (own_item world m 0 (ItemIsOfResource Drop (resource 0)) c 0 drop_core (IntrinsicOf (intrinsics.ResourceDrop 0) (Some (ResourceAt (resource 1))) []) refl refl) in absurd (omega (arith, other))

abbrev first_import : ImportType
first_import = record { module_name = root; field = drop_r; ty = drop_type }

first_meets : (origins : TypeId → Resource) → origins (record { index = 0 }) ≡ resource_of world (record { index = 0 }) → IsServed world m origins (main_module world) (core_function 0) first_import →
    CoreMeets world m None 0 (ItemIsOfResource Drop (resource 0))
first_meets origins is served =
    subst (λ o. CoreMeets world m None 0 (ItemIsOfResource Drop o)) is (subst (Meets world m origins (core_function 0)) (same_Some served.target (OfResource Drop (record { index = 0 })) (sym served.said)) served.meets)

pub crossed_is_not_linked : IsLinked own_names world no_modules m → ⊥
crossed_is_not_linked l = no_drop_of_r (first_meets l.origins l.imports.resources.0 (l.imports.each 0 _ _ refl refl).0)
