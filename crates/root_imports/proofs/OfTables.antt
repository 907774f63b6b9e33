-- A resource that is at hand is found in the tables.
use Rattle.std.proofs.Common.{◌≡◌, ◌∙◌, ℕ, true, true≢false, List, Option, Some, None, is_some, refl, ap, sym, subst}
use Rattle.std.specs.Map.{lookup}
use Rattle.std.specs.Option.{IfSome, IsSomeAnd}
use Rattle.comp_bytes.specs.declared.def.Def.{Def}
use Rattle.comp_inventories.specs.Inventories.{scope_of}
use Rattle.comp_links.specs.Lists.{resource_of}
use Rattle.comp_terms.specs.Terms as terms
use Rattle.comp_trees.specs.DefinedScopes.{Denotes}
use Rattle.comp_trees.specs.DefinedTrees.{OfValues}
use Rattle.comp_trees.specs.Trees.{ResourceAt}
use Rattle.comp_worlds.specs.Encodable.{IsEncodable}
use Rattle.comp_worlds.specs.Worlds.{IsResource}
use Rattle.comp_worlds.specs.declared.world.ComponentWorld.{ComponentWorld}
use Rattle.wit_data.specs.contracts.ids.TypeIdPartialEq.TheImpl as same_id
use Rattle.wit_data.specs.declared.ids.InterfaceId.{InterfaceId}
use Rattle.wit_data.specs.declared.ids.TypeId.{TypeId}
use Rattle.wit_data.specs.declared.types.Type.TheVariants.{Id}
use Rattle.wit_types.proofs.Growing.{id_found}
use Rattle.wit_types.proofs.Permitting.{resource_tree}
use Rattle.wit_types.specs.Allowing.{is_resource}
use Rattle.wit_types.specs.Settings.{Setting, tree_in}
use Rattle.wit_types.specs.declared.maps.TypeEncodingMaps.{TypeEncodingMaps}
use Rattle.root_imports.specs.Met.{is_met}
use Rattle.root_imports.specs.RootScopes.{root_setting, AreTablesRight}
use Rattle.root_imports.specs.declared.met_types.MetTypes.{MetTypes}

pub met_resource_found : (w : ComponentWorld) (met : MetTypes) (instances : List (InterfaceId × ℕ)) (ds : List Def) (maps : TypeEncodingMaps) (id : TypeId) (o : Option ℕ) → IsEncodable w → IsResource w.resolve.types id.index → is_met w met id ≡ true → AreTablesRight w met instances ds maps →
    o ≡ lookup (same_id.eq-value.it id) maps.id_to_index → IsSomeAnd o (λ index. terms.IsResource ds index (resource_of w id))
met_resource_found w met instances ds maps id o ok r at_hand h is = by o is (id_found id o h is)
  where
    s : Setting
    s = root_setting w None met

    tree : ResourceAt (resource_of w id) ≡ tree_in s (Some (Id id))
    tree = resource_tree s w.resolve.types id (resource_of w id) refl ok.sound.back r.present (ap is_resource r.kind) refl

    by : (o : Option ℕ) → o ≡ lookup (same_id.eq-value.it id) maps.id_to_index → IfSome o (λ index. Denotes (scope_of ds) index (OfValues (tree_in s (Some (Id id))))) → IsSomeAnd o (λ index. terms.IsResource ds index (resource_of w id))
    by None is d = let there = h.met id at_hand in absurd (true≢false (sym there.there ∙ ap is_some (sym is)))
    by (Some index) is d = record { denotes = subst (λ t. Denotes (scope_of ds) index (OfValues t)) (sym tree) d }
