-- The next resource of the component: it is defined with the shim of its destructor, and recorded.
use Rattle.std.proofs.Common.{◌≡◌, ◌∙◌, ◌<◌, ℕ, true, List, [], ◌∷◌, ◌++◌, length, Option, Some, refl, sym, ap, subst}
use Rattle.std.specs.List.{slice_get}
use Rattle.comp_builder.specs.Built.{Built}
use Rattle.comp_bytes.specs.declared.types.TypeDef.TheVariants as types
use Rattle.comp_bytes.specs.declared.def.Item.TheVariants as items
use Rattle.comp_bytes.specs.declared.def.Def.{Def}
use Rattle.comp_bytes.specs.declared.def.Def.TheVariants as defs
use Rattle.comp_inventories.specs.Inventories.{inventory, scope_of}
use Rattle.comp_items.specs.Items.{Extends}
use Rattle.comp_links.specs.Links.{destructor_of}
use Rattle.std.specs.Option.{option_map}
use Rattle.std.proofs.lemmas.Option.{slice_get-map}
use Rattle.comp_links.specs.Lists.{ProvidedType, own_resources, provided_resources, type_of_world}
use Rattle.comp_links.specs.Targets.{UserModule}
use Rattle.comp_terms.specs.Rules.{Grows, IsDestructorRight, IsRight, ResourceDefined}
use Rattle.comp_terms.specs.Terms.{IsResource}
use Rattle.comp_trees.specs.DefinedScopes.{Denotes}
use Rattle.comp_trees.specs.DefinedTrees.{OfValues}
use Rattle.comp_trees.specs.Trees.{DefinedAt, ResourceAt}
use Rattle.comp_worlds.specs.Encodable.{IsEncodable}
use Rattle.comp_worlds.specs.declared.world.ComponentWorld.{ComponentWorld}
use Rattle.wit_data.specs.Values.{kind_at}
use Rattle.wit_data.specs.declared.ids.TypeId.{TypeId}
use Rattle.wit_types.specs.Allowing.{is_resource}
use Rattle.interface_needs.proofs.OwnResources.{resource_defined}
use Rattle.root_imports.specs.Growing.{Grows-by, Grows-then}
use Rattle.root_imports.specs.Keeping.{Root, RootKept}
use Rattle.root_imports.specs.RootScopes.{AreTablesRight, RootGrows}
use Rattle.root_imports.proofs.Keeping.{kept_items, kept_none, kept_then, kept_typed, moved_kept}
use Rattle.root_imports.proofs.Resources.{kind_is, resource_tree}
use Rattle.exported_types.specs.ExportedTypes.{provided_by}
use Rattle.exported_types.proofs.Resourced.{resources_same}

abbrev pub resource_of : Option ℕ → Def
resource_of destructor = defs.Item (items.Type (types.Resource destructor))

-- ---- the definition

-- the next resource of the component, which the world has for this type
tree_of_next : (w : ComponentWorld) → IsEncodable w → (id : TypeId) → id.index < length w.resolve.types → is_resource (kind_at w.resolve.types id.index) ≡ true → (number : ℕ) → slice_get (own_resources w) number ≡ Some id → OfValues (ResourceAt (DefinedAt number)) ≡ type_of_world w id
tree_of_next w ok id within resource number next =
    sym (resource_tree w ok id within (kind_is (kind_at w.resolve.types id.index) resource) ∙ ap (λ r. OfValues (ResourceAt r)) (resource_defined w ok number id next))

-- by its number among those that user modules have to export
own_next : (w : ComponentWorld) (of : UserModule) (number : ℕ) (id : TypeId) → slice_get (provided_resources w) number ≡ Some (provided_by of id) → slice_get (own_resources w) number ≡ Some id
own_next w of number id next = slice_get-map (λ (p : ProvidedType). p.id) (provided_resources w) number ∙ ap (option_map (λ (p : ProvidedType). p.id)) next

-- the shim of the destructor defines none
still_next : (w : ComponentWorld) (p : ProvidedType) (old mid : List Def) → Grows w old mid [] → slice_get (provided_resources w) (inventory old).resources ≡ Some p → slice_get (provided_resources w) (inventory mid).resources ≡ Some p
still_next w p old mid g next = ap (λ n. slice_get (provided_resources w) n) (resources_same g) ∙ next

pub resource_denotes : (w : ComponentWorld) → IsEncodable w → (of : UserModule) (id : TypeId) → id.index < length w.resolve.types → is_resource (kind_at w.resolve.types id.index) ≡ true →
    (old mid new : List Def) → Grows w old mid [] → slice_get (provided_resources w) (inventory old).resources ≡ Some (provided_by of id) → (index : ℕ) → IsResource new index (DefinedAt (inventory mid).resources) → Denotes (scope_of new) index (type_of_world w id)
resource_denotes w ok of id within resource old mid new g next index h =
    let own = own_next w of (inventory mid).resources id (still_next w (provided_by of id) old mid g next) in
    subst (λ t. Denotes (scope_of new) index t) (tree_of_next w ok id within resource (inventory mid).resources own) h.denotes

pub resource_grows : (w : ComponentWorld) (of : UserModule) (id : TypeId) (old mid new : List Def) (destructor : Option ℕ) → Grows w old mid [] → slice_get (provided_resources w) (inventory old).resources ≡ Some (provided_by of id) → IsDestructorRight w mid destructor (destructor_of w (provided_by of id)) → new ≡ mid ++ resource_of destructor ∷ [] → Grows w old new (ResourceDefined ∷ [])
resource_grows w of id old mid new destructor g next destructed added =
    let right : IsRight w mid (resource_of destructor) = record { provided = provided_by of id; next = still_next w (provided_by of id) old mid g next; destructed = destructed } in
    Grows-then g (Grows-by (resource_of destructor) added right)

-- ---- the root

-- with the shim of the destructor
pub shimmed : (old mid : Root) → AreTablesRight old.world.now old.met old.instances old.items.defs old.maps → mid ≡ record old { items = mid.items } → Extends old.items mid.items → RootKept old.world.now old mid
shimmed old mid tables same g = kept_items old.world.now old old mid (kept_none old.world.now old tables) same g

-- with the resource
pub defined : (old mid : Root) (new : Built) → RootKept old.world.now old mid → Extends mid.items new → RootKept old.world.now old (record mid { items = new })
defined old mid new k g = kept_items old.world.now old mid (record mid { items = new }) k refl g

pub defined_tables : (old mid : Root) (new : Built) → RootKept old.world.now old mid → Extends mid.items new → AreTablesRight mid.world.now mid.met mid.instances new.defs mid.maps
defined_tables old mid new k g =
    let made : Root = record mid { items = new } in
    subst (λ x. AreTablesRight x.now mid.met mid.instances new.defs mid.maps) (sym k.world) (moved_kept old.world.now old made (defined old mid new k g)).tables

-- and recorded
pub recorded : (old mid end : Root) (new : Built) → RootKept old.world.now old mid → Extends mid.items new → end.world ≡ mid.world → end.met ≡ mid.met → end.instances ≡ mid.instances →
    RootGrows mid.world.now new end.items → AreTablesRight mid.world.now mid.met end.instances end.items.defs end.maps → RootKept old.world.now old end
recorded old mid end new k g world met instances grows tables =
    let w = old.world.now in
    let made : Root = record mid { items = new } in
    kept_then w old made end (defined old mid new k g)
    (kept_typed w made end world met instances (subst (λ x. RootGrows x.now new end.items) k.world grows) (subst (λ x. AreTablesRight x.now mid.met end.instances end.items.defs end.maps) k.world tables))
