-- The root of a component as a scope of types (component model, explainer: type definitions, import definitions).
use Rattle.std.specs.Prelude.{ℕ, ◌+◌, ◌<◌, ◌≤◌, ◌||◌, ◌^◌, ◌≡◌, true, false, List, [], Option, None}
use Rattle.std.specs.List.{AllByRecursion}
use Rattle.byte_encoding.specs.declared.fault.BuildFault.{BuildFault}
use Rattle.byte_encoding.specs.declared.fault.BuildFault.TheVariants.{Memory, TooMany}
use Rattle.comp_bytes.specs.Spaces.{items_in}
use Rattle.comp_bytes.specs.declared.space.Space.TheVariants as spaces
use Rattle.comp_bytes.specs.declared.def.Def.{Def}
use Rattle.comp_builder.specs.Built.{Built}
use Rattle.comp_trees.specs.Trees.{ImportedAt}
use Rattle.comp_inventories.specs.Inventories.{scope_of}
use Rattle.std.specs.Map.{lookup}
use Rattle.wit_data.specs.contracts.ids.TypeIdPartialEq.TheImpl as same_id
use Rattle.wit_data.specs.contracts.types.TypeDefKindPartialEq.TheImpl as same_kind
use Rattle.wit_data.specs.declared.ids.TypeId.{TypeId}
use Rattle.wit_data.specs.declared.types.TypeDef.{TypeDef}
use Rattle.wit_data.specs.Values.{kind_at}
use Rattle.comp_worlds.specs.WorldContents.{imported_types}
use Rattle.comp_worlds.specs.declared.world.ComponentWorld.{ComponentWorld}
use Rattle.comp_links.specs.Lists.{needed_types, resource_of}
use Rattle.type_scopes.specs.Titles.{is_one_of}
use Rattle.wit_data.specs.declared.ids.InterfaceId.{InterfaceId}
use Rattle.root_imports.specs.Interfaces.{AreInterfacesKnown}
use Rattle.root_imports.specs.Met.{is_met, is_exported_type, next_of}
use Rattle.root_imports.specs.declared.met_types.MetTypes.{MetTypes}
use Rattle.comp_terms.specs.Rules.{Grows}
use Rattle.comp_items.specs.Items.{Extends}
use Rattle.wit_types.specs.Settings.{Setting}
use Rattle.wit_types.specs.Maps.{Faithful}
use Rattle.wit_types.specs.declared.maps.TypeEncodingMaps.{TypeEncodingMaps}

-- What definitions of types at the root take as given, where these types are at hand. The types of
-- the world get their names where they are imported, and not while others are defined: so nothing
-- is exported there. What is imported is a type that an instance of an interface exports. The types
-- of one exported interface may be defined, where one is given.
abbrev pub root_setting : ComponentWorld → Option InterfaceId → MetTypes → Setting
root_setting w interface met =
    record {
      types = w.resolve.types;
      interface = interface;
      origin = resource_of w;
      met = is_met w met;
      may_import = λ other id. is_one_of (needed_types w other) id.index || is_exported_type w met other id;
      may_own = λ n. true;
      may_export = λ name. false;
      resource = λ name. ImportedAt (record { number = 0; inner = None });
    }

-- a type has any index under its name: that of its import, or one that was defined before it
abbrev pub any_index : List ℕ → ℕ → Type 0
any_index name index = Unit {0}

-- definitions were added at the end that are right, and import and export nothing
pub record RootGrows (w : ComponentWorld) (old new : Built) : Type 0 where
  pub extends : Extends old new
  pub grows : Grows w old.defs new.defs []

-- the count of type indices with one more, which is more than there can be
abbrev pub is_full : List Def → ℕ → Type 0
is_full ds count = (2 ^ 32 ≤ count) × (count ≡ items_in spaces.Type ds + 1)

-- each index in the tables denotes what it is the index of, and the instances of the interfaces are known
abbrev pub AreTablesRight : ComponentWorld → MetTypes → List (InterfaceId × ℕ) → List Def → TypeEncodingMaps → Type 0
AreTablesRight w met instances ds maps = Faithful (root_setting w None met) (scope_of ds) any_index (AreInterfacesKnown w ds met.exported instances) maps

-- each type that the world imports was imported
abbrev pub ArePassed : ComponentWorld → MetTypes → Type 0
ArePassed w met = AllByRecursion (λ t. t.1.index < next_of met.last) (imported_types w)

-- out of memory, or a count that is more than a space can have
abbrev pub IsRefusal : BuildFault → Type 0
IsRefusal Memory = Unit {0}
IsRefusal (TooMany count) = 2 ^ 32 ≤ count

-- these types are in no table any more: neither by their numbers nor by their kinds
pub record AreForgotten (types : List TypeDef) (gone : List TypeId) (maps : TypeEncodingMaps) : Type 0 where
  pub ids : AllByRecursion (λ id. lookup (same_id.eq-value.it id) maps.id_to_index ≡ None) gone
  pub kinds : AllByRecursion (λ id. lookup (same_kind.eq-value.it (kind_at types id.index)) maps.def_to_index ≡ None) gone
