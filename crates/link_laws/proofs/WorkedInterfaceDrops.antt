-- A worked example: a world that imports an interface of two resources, of which main drops
-- handles. Its list links, and with the two aliases crossed it isn't linked.
use Rattle.comp_worlds.specs.WorldContents.{items_of}
use Rattle.wit_data.specs.Keys.{is_same_key}
use Rattle.std.specs.Map.{keys_of}
use Rattle.comp_links.specs.Naming.{own_names}
use Rattle.std.proofs.Common.{inl, ◌≡◌, ℕ, false, List, [], ◌∷◌, ◌++◌, refl, sym, ap, subst, Option, Some, None, map, take, arith}
use Rattle.std.proofs.lemmas.Option.{same_Some}
use Rattle.std.specs.Prelude.{codes}
use Rattle.std.specs.List.{IsDistinct}
use Rattle.std.specs.Str.{bytes_eq}
use Rattle.standard_kinds.specs.declared.kinds.ExportKind.TheVariants as kinds
use Rattle.comp_bytes.proofs.Worked.{plain}
use Rattle.comp_bytes.specs.declared.canon.Intrinsic.TheVariants as intrinsics
use Rattle.comp_bytes.specs.declared.space.ComponentExportKind.TheVariants as exports
use Rattle.comp_bytes.specs.declared.space.Space.TheVariants as spaces
use Rattle.comp_bytes.specs.declared.types.Alias.TheVariants as aliases
use Rattle.comp_bytes.specs.declared.types.Description.TheVariants as descriptions
use Rattle.comp_bytes.specs.declared.types.Member.{Member}
use Rattle.comp_bytes.specs.declared.types.Member.TheVariants as members
use Rattle.comp_bytes.specs.declared.def.CoreInlineExport.{CoreInlineExport}
use Rattle.comp_bytes.specs.declared.def.Item.TheVariants as items
use Rattle.comp_bytes.specs.declared.def.Def.{Def}
use Rattle.comp_bytes.specs.declared.def.Def.TheVariants as defs
use Rattle.core_types.specs.Core.{core_preamble}
use Rattle.core_runs.specs.Store.{Opaque, Instantiated}
use Rattle.wit_data.specs.Values.{values_from}
use Rattle.wit_data.specs.declared.ids.TypeId.{TypeId}
use Rattle.wit_data.specs.declared.types.TypeDef.{TypeDef}
use Rattle.wit_data.specs.declared.types.TypeDefKind.TheVariants as wit_kinds
use Rattle.wit_data.specs.declared.types.TypeOwner.TheVariants as owners
use Rattle.wit_data.specs.declared.worlds.WorldKey.TheVariants as keys
use Rattle.comp_roles.specs.declared.imports.Import.{Import}
use Rattle.comp_roles.specs.declared.imports.Import.TheVariants as imports
use Rattle.comp_roles.specs.declared.imports.ImportInstance.TheVariants as instances
use Rattle.comp_roles.specs.declared.offered.ImportType.{ImportType}
use Rattle.comp_worlds.specs.Typed.{drop_type}
use Rattle.comp_worlds.specs.WorldTables.{whole_of}
use Rattle.comp_worlds.specs.Worlds.{IsWorld}
use Rattle.comp_worlds.specs.declared.world.ComponentWorld.{ComponentWorld}
use Rattle.comp_trees.specs.Trees.{Tree, Origin, Resource, ImportedAt, ResourceAt}
use Rattle.comp_inventories.specs.Inventories.{inventory, surroundings_of}
use Rattle.comp_trees.specs.Members.{AreMembersRight}
use Rattle.comp_links.proofs.WorkedImports.{interface_of, interface_id, type_id, import_of_interface}
use Rattle.comp_links.specs.Targets.{Main, Drop, OfResource}
use Rattle.comp_terms.specs.Terms.{IsResource as IsResourceAt, IsOfResource}
use Rattle.comp_terms.specs.Terms as terms
use Rattle.comp_terms.specs.Planned.{IsEntryFor, IsArgumentFor}
use Rattle.comp_terms.specs.Instances.{ImportsInterface}
use Rattle.comp_terms.specs.Rules.{AliasesImported, IsBuilt}
use Rattle.comp_runs.specs.Store.{IntrinsicOf}
use Rattle.comp_runs.specs.Machine.{Machine, Outcome}
use Rattle.link_laws.specs.Meeting.{CoreMeets, ItemIsOfResource, Meets}
use Rattle.link_laws.specs.Linking.{outcome, IsServed, UsersServed, IsLinked, Links}
use Rattle.link_laws.proofs.BaseRoles.{no_bases}
use Rattle.link_laws.proofs.Stores.{drop_core, main_module}
use Rattle.link_laws.proofs.Steps.{no_modules}
use Rattle.link_laws.proofs.Runs.{links}
use Rattle.link_laws.proofs.Worked.{Ended, ended, core_function, made, machine_of, one_apart}
use Rattle.link_laws.proofs.WorkedDrops.{r, s, none_apart, not_true}
use Rattle.link_laws.proofs.NamedItem.{own_item}
use Rattle.link_laws.proofs.WorkedApart.{no_keys_apart, functions_apart}

-- ---- the world

abbrev i : List ℕ
i = codes "a:b/i"

abbrev env : List ℕ
env = codes "env"

abbrev drop_r : List ℕ
drop_r = codes "drop-r"

abbrev drop_s : List ℕ
drop_s = codes "drop-s"

abbrev resource_named : List ℕ → TypeDef
resource_named name = record { name = Some name; kind = wit_kinds.Resource; owner = owners.Interface (interface_id 0) }

-- the drop of the type of this number
abbrev drop_of : ℕ → Import
drop_of number = imports.ImportedResourceDrop (keys.Interface (interface_id 0)) (Some (interface_id 0)) (type_id number)

abbrev fields : List (List ℕ × Import)
fields = (drop_s, drop_of 1) ∷ (drop_r, drop_of 0) ∷ []

-- a module that imports both drops
abbrev import_of : List ℕ → List ℕ
import_of name = 0x03 ∷ env ++ 0x06 ∷ name ++ 0x00 ∷ 0x00 ∷ []

abbrev core : List ℕ
core = core_preamble ++ (0x01 ∷ 0x05 ∷ 0x01 ∷ 0x60 ∷ 0x01 ∷ 0x7f ∷ 0x00 ∷ 0x02 ∷ 0x1b ∷ 0x02 ∷ []) ++ import_of drop_s ++ import_of drop_r

abbrev world : ComponentWorld
world = whole_of (record {
  resolve = record {
    interfaces = interface_of (codes "i") ((r, type_id 0) ∷ (s, type_id 1) ∷ []) [] ∷ [];
    types = resource_named r ∷ resource_named s ∷ [];
    worlds = record { imports = import_of_interface 0 ∷ []; exports = [] } ∷ [];
  };
  world = record { index = 0 };
  main = record {
    bytes = core;
    imports = record { modules = (env, instances.Names fields) ∷ [] };
    exports = record { exports = [] };
    imported = record { module_name = env; field = drop_s; ty = drop_type } ∷ record { module_name = env; field = drop_r; ty = drop_type } ∷ [];
    offered = [];
    metadata = record { import_encodings = []; export_encodings = [] };
  };
  main_exports = [];
  adapters = [];
  can_use_context_slot_1 = false;
})

fields_apart : IsDistinct bytes_eq (drop_s ∷ drop_r ∷ [])
unfolding IsDistinct
fields_apart = ((refl, tt), (tt, tt))

keys_apart : IsDistinct is_same_key (keys_of (items_of world).imports)
unfolding IsDistinct
keys_apart = (tt, tt)

is_world : IsWorld world
unfolding values_from
is_world = record {
  present = omega arith;
  imports = (tt, tt);
  exports = tt;
  import_keys_apart = keys_apart;
  import_names_apart = none_apart;
  export_keys_apart = no_keys_apart;
  export_names_apart = none_apart;
  exports_named = tt;
  exported_interfaces_apart = none_apart;
  main = record {
    core = refl;
    modules_apart = one_apart env;
    import_roles = ((fields_apart, (record { present = omega arith; kind = refl }, (record { present = omega arith; kind = refl }, tt))), tt);
    own_keys = (tt, (tt, tt));
    imported = (inl (record { role = drop_of 1; has_role = refl; fits = refl }), (inl (record { role = drop_of 0; has_role = refl; fits = refl }), tt));
    export_roles = tt;
    exported = tt;
    required = tt;
  };
  main_first = ((tt, (tt, tt)), tt);
  adapters = tt;
  adapters_apart = none_apart;
  keys_apart = no_keys_apart;
}

-- ---- a list for it, where the first and the second drop are of the resources that the instance exports under these names

abbrev two_resources : List Member
two_resources = members.Export (plain r) descriptions.SubResource ∷ members.Export (plain s) descriptions.SubResource ∷ []

abbrev entries : List CoreInlineExport
entries = record { name = drop_s; kind = kinds.Func; index = 0 } ∷ record { name = drop_r; kind = kinds.Func; index = 1 } ∷ []

abbrev list_of : List ℕ → List ℕ → List Def
list_of first second = map defs.Item (
    items.InstanceType (record { members = two_resources })
    ∷ items.Import (plain i) (descriptions.Instance 0)
    ∷ items.CoreModule core
    ∷ items.Alias (aliases.Export exports.Type 0 first)
    ∷ items.Intrinsic (intrinsics.ResourceDrop 1)
    ∷ items.Alias (aliases.Export exports.Type 0 second)
    ∷ items.Intrinsic (intrinsics.ResourceDrop 2)
    ∷ items.CoreExports entries
    ∷ items.CoreInstantiate 0 (record { name = env; instance = 0 } ∷ [])
    ∷ [])

-- the resource that the instance exports under a name
abbrev resource : List ℕ → Resource
resource name = ImportedAt (record { number = 0; inner = Some name })

-- how running it ends, where the drops are of these resources
abbrev end_of : List ℕ → List ℕ → Ended
end_of first second = record {
  code = Opaque 0 drop_core ∷ Opaque 1 drop_core ∷ [];
  known = IntrinsicOf (intrinsics.ResourceDrop 0) (Some (ResourceAt (resource first))) [] ∷ IntrinsicOf (intrinsics.ResourceDrop 0) (Some (ResourceAt (resource second))) [] ∷ [];
  functions = [];
  users = record { module_number = 0; given = core_function 0 ∷ core_function 1 ∷ []; exports = [] } ∷ [];
  exported = [];
  events = Instantiated 0 ∷ [];
}

pub drops_end : ended (outcome world no_modules (list_of s r) made) ≡ Some (end_of s r)
drops_end = refl

-- ---- it keeps the rules, and so links

abbrev ds : ℕ → List Def
ds n = take n (list_of s r)

members_right : AreMembersRight (surroundings_of 0 []) [] two_resources
members_right = (tt, (tt, tt))

i_imported : ImportsInterface world (ds 1) 0
unfolding inventory values_from
i_imported = record { key = keys.Interface (interface_id 0); id = interface_id 0; stated = refl; outer = []; members = two_resources; is = refl; right = members_right; types = (refl, (refl, tt)) }

s_aliased : AliasesImported (ds 3) spaces.Type 0 s
unfolding inventory
s_aliased = record { number = 0; outer = []; members = two_resources; imported = refl; exported = refl }

r_aliased : AliasesImported (ds 5) spaces.Type 0 r
unfolding inventory
r_aliased = record { number = 0; outer = []; members = two_resources; imported = refl; exported = refl }

s_there : IsResourceAt (ds 4) 1 (resource s)
unfolding inventory
s_there = record { denotes = record { within = omega arith; tree = refl } }

r_there : IsResourceAt (ds 6) 2 (resource r)
unfolding inventory
r_there = record { denotes = record { within = omega arith; tree = refl } }

s_dropped : IsOfResource (ds 8) 0 Drop (resource s)
unfolding inventory
s_dropped = record { type = 1; made = record { made = refl }; of = record { denotes = record { within = omega arith; tree = refl } } }

r_dropped : IsOfResource (ds 8) 1 Drop (resource r)
unfolding inventory
r_dropped = record { type = 2; made = record { made = refl }; of = record { denotes = record { within = omega arith; tree = refl } } }

s_given : IsEntryFor world Main (ds 8) (record { name = drop_s; kind = kinds.Func; index = 0 }) (drop_s, drop_of 1)
unfolding values_from
s_given = record { named = refl; serves = inl (record { term = terms.OfResource Drop (resource s); is = s_dropped; asked = (refl, refl) }); supplied = record { encoding = not_true; memory = not_true; realloc = λ shared needed. cc } }

r_given : IsEntryFor world Main (ds 8) (record { name = drop_r; kind = kinds.Func; index = 1 }) (drop_r, drop_of 0)
unfolding values_from
r_given = record { named = refl; serves = inl (record { term = terms.OfResource Drop (resource r); is = r_dropped; asked = (refl, refl) }); supplied = record { encoding = not_true; memory = not_true; realloc = λ shared needed. cc } }

both_given : IsArgumentFor world Main (ds 8) (record { name = env; instance = 0 }) (env, instances.Names fields)
both_given = record { named = refl; serves = record { entries = entries; made = record { made = refl }; each = (s_given, (r_given, tt)) } }

keeps_the_rules : IsBuilt own_names world (list_of s r)
unfolding values_from
keeps_the_rules = record {
  generated = record { shims = None; fixup = None };
  are_generated = record { shims = refl; fixup = refl; room = omega arith; alike = no_bases world refl };
  front = list_of s r;
  names = [];
  whole = refl;
  right = (
    record { number = 0; right = members_right },
    (
      i_imported,
      (
        tt,
        (
          inl s_aliased,
          (
            record { resource = resource s; is = s_there },
            (
              inl r_aliased,
              (
                record { resource = resource r; is = r_there },
                (
                  record { each = (record { scoped = omega arith }, (record { scoped = omega arith }, tt)); apart = fields_apart },
                  (inl (record { of = main_module world; listed = refl; scoped = omega arith; each = (both_given, tt) }), tt),
                ),
              ),
            ),
          ),
        ),
      ),
    ),
  );
  marked = refl;
  named = tt;
}

pub drops_link : Links own_names world no_modules (list_of s r)
unfolding keeps_the_rules
drops_link = links own_names world (list_of s r) is_world (functions_apart own_names world tt) keeps_the_rules

pub drops_are_linked : IsLinked own_names world no_modules (machine_of (outcome world no_modules (list_of s r) made))
drops_are_linked = drops_link.linked made (machine_of (outcome world no_modules (list_of s r) made)) refl

-- ---- where the aliases are crossed, the run ends, but it isn't linked

abbrev crossed : Outcome
crossed = outcome world no_modules (list_of r s) made

pub crossed_ends : ended crossed ≡ Some (end_of r s)
crossed_ends = refl

abbrev m : Machine
m = machine_of crossed

-- the first letter of the name under which an instance exports a resource
abbrev first_letter : List ℕ → ℕ
first_letter [] = 0
first_letter (c ∷ cs) = c

abbrev letter_of : Origin → ℕ
letter_of origin = elim origin.inner [ None ↦ 0 | Some name ↦ first_letter name ]

abbrev letter_of_type : Option Tree → ℕ
letter_of_type (Some (ResourceAt (ImportedAt origin))) = letter_of origin
letter_of_type tree = 0

-- function 0 drops r
no_drop_of_s : CoreMeets world m None 0 (ItemIsOfResource Drop (resource s)) → ⊥
no_drop_of_s c =
    let other : 0x72 ≡ 0x73 = ap letter_of_type (own_item world m 0 (ItemIsOfResource Drop (resource s)) c 0 drop_core (IntrinsicOf (intrinsics.ResourceDrop 0) (Some (ResourceAt (resource r))) []) refl refl) in absurd (omega (arith, other))

abbrev first_import : ImportType
first_import = record { module_name = env; field = drop_s; ty = drop_type }

-- the second type that the component imports is s
s_is : (origins : TypeId → Resource) → UsersServed world m origins → origins (type_id 1) ≡ resource s
unfolding values_from
s_is origins served = served.resources.1.0

first_meets : (origins : TypeId → Resource) → origins (type_id 1) ≡ resource s → IsServed world m origins (main_module world) (core_function 0) first_import → CoreMeets world m None 0 (ItemIsOfResource Drop (resource s))
first_meets origins is served =
    subst (λ o. CoreMeets world m None 0 (ItemIsOfResource Drop o)) is (subst (Meets world m origins (core_function 0)) (same_Some served.target (OfResource Drop (type_id 1)) (sym served.said)) served.meets)

pub crossed_is_not_linked : IsLinked own_names world no_modules m → ⊥
crossed_is_not_linked l = no_drop_of_s (first_meets l.origins (s_is l.origins l.imports) (l.imports.each 0 _ _ refl refl).0)
