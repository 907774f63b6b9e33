-- A worked example: a world that exports an interface with a record p and another name q for u8,
-- and no function. Its list has a nested component that exports both, an instance of it, and an
-- export of that instance. Where each is exported under the name of the other the run ends too, but
-- the list isn't linked.
use Rattle.std.proofs.Common.{inl, ◌≡◌, ◌∙◌, ℕ, Bool, true, false, true≢false, List, [], ◌∷◌, refl, sym, ap, subst, Some, None, cond, take, arith}
use Rattle.std.proofs.lemmas.Option.{none-some, same_Some}
use Rattle.std.specs.Prelude.{codes}
use Rattle.std.specs.Map.{lookup}
use Rattle.standard_kinds.specs.declared.kinds.Primitive.TheVariants as primitives
use Rattle.comp_bytes.proofs.Worked.{plain}
use Rattle.comp_bytes.specs.declared.space.Sort.TheVariants as sorts
use Rattle.comp_bytes.specs.declared.space.Space.TheVariants as spaces
use Rattle.comp_bytes.specs.declared.types.TypeDef.TheVariants as types
use Rattle.comp_bytes.specs.declared.types.DefinedType.TheVariants as defined
use Rattle.comp_bytes.specs.declared.types.ComponentValType.TheVariants as values
use Rattle.comp_bytes.specs.declared.def.Item.{Item}
use Rattle.comp_bytes.specs.declared.def.Item.TheVariants as items
use Rattle.comp_bytes.specs.declared.def.Def.{Def}
use Rattle.comp_bytes.specs.declared.def.Def.TheVariants as defs
use Rattle.core_types.specs.Core.{core_preamble}
use Rattle.wit_data.specs.Keys.{is_same_key}
use Rattle.wit_data.specs.Values.{values_from}
use Rattle.wit_data.specs.declared.types.Type.TheVariants.{Primitive as Simple}
use Rattle.wit_data.specs.declared.types.TypeDefKind.TheVariants as wit_kinds
use Rattle.wit_data.specs.declared.types.TypeOwner.TheVariants as owners
use Rattle.wit_data.specs.declared.worlds.WorldItem.{WorldItem}
use Rattle.wit_data.specs.declared.worlds.WorldItem.TheVariants as world_items
use Rattle.wit_data.specs.declared.worlds.WorldKey.{WorldKey}
use Rattle.wit_data.specs.declared.worlds.WorldKey.TheVariants as keys
use Rattle.comp_worlds.specs.WorldContents.{items_of}
use Rattle.comp_worlds.specs.WorldTables.{whole_of}
use Rattle.comp_worlds.specs.Worlds.{IsWorld}
use Rattle.comp_worlds.specs.declared.world.ComponentWorld.{ComponentWorld}
use Rattle.comp_trees.specs.Trees.{RecordOf}
use Rattle.comp_trees.specs.DefinedTrees.{TypeTree, OfValues, OfOthers}
use Rattle.nested_terms.specs.Nested.{empty_scope, AreItemsRight}
use Rattle.comp_links.proofs.WorkedImports.{interface_of, interface_id, type_id, import_of_interface}
use Rattle.comp_links.specs.Lists.{AreExportsApart, type_of_world}
use Rattle.comp_links.specs.Targets.{Main}
use Rattle.comp_links.specs.Naming.{own_names}
use Rattle.comp_terms.specs.Instances.{InstantiatesNested}
use Rattle.comp_terms.specs.Exports.{IsNestedFor, ExportsInterface}
use Rattle.comp_terms.specs.Rules.{IsBuilt}
use Rattle.comp_runs.specs.Store.{Export, tree_held}
use Rattle.comp_runs.specs.Machine.{Machine}
use Rattle.link_laws.specs.Linking.{outcome, IsTypeProvided, IsLinked, Links}
use Rattle.link_laws.proofs.BaseRoles.{no_bases}
use Rattle.link_laws.proofs.Stores.{main_module, type_at_key}
use Rattle.link_laws.proofs.Steps.{no_modules}
use Rattle.link_laws.proofs.Plain.{key_same}
use Rattle.link_laws.proofs.Runs.{links}
use Rattle.link_laws.proofs.Worked.{ended, made, machine_of, one_apart}
use Rattle.link_laws.proofs.WorkedApart.{no_keys_apart, one_key_apart}
use Rattle.link_laws.proofs.WorkedDrops.{none_apart}
use Rattle.link_laws.proofs.WorkedNested.{instances_of}

-- ---- the world

abbrev p : List ℕ
p = codes "p"

abbrev q : List ℕ
q = codes "q"

abbrev x : List ℕ
x = codes "x"

abbrev key : WorldKey
key = keys.Interface (interface_id 0)

-- the name of the interface
abbrev name : List ℕ
name = codes "a:b/i"

-- a module that imports and exports nothing
abbrev world : ComponentWorld
world = whole_of (record {
  resolve = record {
    interfaces = interface_of (codes "i") ((p, type_id 0) ∷ (q, type_id 1) ∷ []) [] ∷ [];
    types = record { name = Some p; kind = wit_kinds.Record (record { name = x; ty = Simple primitives.U32 } ∷ []); owner = owners.Interface (interface_id 0) }
        ∷ record { name = Some q; kind = wit_kinds.Alias (Simple primitives.U8); owner = owners.Interface (interface_id 0) }
        ∷ [];
    worlds = record { imports = []; exports = import_of_interface 0 ∷ [] } ∷ [];
  };
  world = record { index = 0 };
  main = record {
    bytes = core_preamble;
    imports = record { modules = [] };
    exports = record { exports = [] };
    imported = [];
    offered = [];
    metadata = record { import_encodings = []; export_encodings = [] };
  };
  main_exports = key ∷ [];
  adapters = [];
  can_use_context_slot_1 = false;
})

is_world : IsWorld world
unfolding values_from
is_world = record {
  present = omega arith;
  imports = tt;
  exports = (tt, tt);
  import_keys_apart = no_keys_apart;
  import_names_apart = none_apart;
  export_keys_apart = one_key_apart key;
  export_names_apart = none_apart;
  exports_named = (refl, tt);
  exported_interfaces_apart = one_apart name;
  main = record {
    core = refl;
    modules_apart = none_apart;
    import_roles = tt;
    own_keys = tt;
    imported = tt;
    export_roles = tt;
    exported = tt;
    required = (record { exported = (0, omega arith, refl); present = tt; formed = tt }, tt);
  };
  main_first = tt;
  adapters = tt;
  adapters_apart = none_apart;
  keys_apart = one_key_apart key;
}

-- it exports one interface
only_key : (other : WorldKey) (item : WorldItem) → lookup (is_same_key other) (items_of world).exports ≡ Some item → other ≡ key
only_key other item e = by (is_same_key other key) refl e
  where
    by : (b : Bool) → is_same_key other key ≡ b → cond b (Some (world_items.Interface (interface_id 0))) None ≡ Some item → other ≡ key
    by true same e = key_same other key same
    by false same e = absurd (none-some item e)

exports_apart : AreExportsApart own_names world
exports_apart a b h k same = only_key a (world_items.Interface h.0) h.1 ∙ sym (only_key b (world_items.Interface k.0) k.1)

-- ---- a list for it

-- the nested component, where p and q are the types of these indices
abbrev exporting : ℕ → ℕ → List Item
exporting for_p for_q =
    items.Type (types.Defined (defined.Record (record { name = x; ty = values.Primitive primitives.U32 } ∷ [])))
    ∷ items.Type (types.Defined (defined.Primitive primitives.U8))
    ∷ items.Export (plain p) sorts.Type for_p None
    ∷ items.Export (plain q) sorts.Type for_q None
    ∷ []

abbrev list_of : List Item → List Def
list_of nested =
    defs.Item (items.CoreModule core_preamble)
    ∷ defs.Item (items.CoreInstantiate 0 [])
    ∷ defs.Component nested
    ∷ defs.Item (items.Instantiate 0 [])
    ∷ defs.Item (items.Export (plain name) sorts.Instance 0 None)
    ∷ []

abbrev straight : List Def
straight = list_of (exporting 0 1)

abbrev type_exported : List ℕ → ℕ → Export
type_exported text address = record { space = spaces.Type; name = text; address = address }

pub both_exported : instances_of (outcome world no_modules (list_of (exporting 0 1)) made) ≡ Some ((type_exported p 0 ∷ type_exported q 1 ∷ []) ∷ [])
both_exported = refl

-- ---- it keeps the rules

abbrev ds : ℕ → List Def
ds n = take n straight

abbrev no_types : List ℕ → TypeTree
no_types text = OfOthers

nested_right : AreItemsRight no_types empty_scope (exporting 0 1)
nested_right = (refl, (refl, (omega arith, (omega arith, tt))))

nested_for : IsNestedFor world (exporting 0 1)
nested_for = record { key = key; id = interface_id 0; item = refl; types = tt; apart = none_apart }

instantiated_3 : InstantiatesNested (ds 3) 0 []
instantiated_3 = record { definitions = exporting 0 1; given = no_types; made = record { made = refl }; scoped = tt; apart = none_apart; exact = refl; right = nested_right; each = tt }

abbrev instantiated_4 : InstantiatesNested (ds 4) 0 []
instantiated_4 = record { definitions = exporting 0 1; given = no_types; made = record { made = refl }; scoped = tt; apart = none_apart; exact = refl; right = nested_right; each = tt }

exported : ExportsInterface world (ds 4) 0
unfolding values_from
exported = record { required = record { of = Main; key = key }; id = interface_id 0; next = refl; item = refl; component = 0; arguments = []; instance = record { made = refl }; nested = instantiated_4; types = (refl, (refl, tt)); each = tt }

keeps_the_rules : IsBuilt own_names world straight
keeps_the_rules = record {
  generated = record { shims = None; fixup = None };
  are_generated = record { shims = refl; fixup = refl; room = omega arith; alike = no_bases world refl };
  front = straight;
  names = [];
  whole = refl;
  right = (tt, (inl (record { of = main_module world; listed = refl; scoped = omega arith; each = tt }), ((record { given = no_types; right = nested_right }, nested_for), (instantiated_3, (exported, tt)))));
  marked = refl;
  named = tt;
}

pub straight_links : Links own_names world no_modules straight
unfolding keeps_the_rules
straight_links = links own_names world straight is_world exports_apart keeps_the_rules

-- ---- p is exported as q, and q as p

abbrev crossed : Machine
crossed = machine_of (outcome world no_modules (list_of (exporting 1 0)) made)

pub crossed_ends : ended (outcome world no_modules (list_of (exporting 1 0)) made) ≡ ended (outcome world no_modules straight made)
crossed_ends = refl

abbrev is_record : TypeTree → Bool
is_record (OfValues (RecordOf names ts)) = true
is_record tree = false

p_is_record : is_record (type_of_world world (type_id 0)) ≡ true
unfolding values_from
p_is_record = refl

not_provided : IsTypeProvided own_names world crossed (type_at_key key (p, type_id 0)) → ⊥
not_provided t =
    let address : 1 ≡ t.address = ap (λ (e : Export). e.address) (same_Some (type_exported p 1) (type_exported p t.address) t.provided) in
    let tree : tree_held crossed.store.types 1 ≡ type_of_world world (type_id 0) = subst (λ n. tree_held crossed.store.types n ≡ type_of_world world (type_id 0)) (sym address) t.denotes in
    absurd (true≢false (sym (ap is_record tree ∙ p_is_record)))

pub crossed_is_not_linked : IsLinked own_names world no_modules crossed → ⊥
crossed_is_not_linked l = not_provided l.types.0
