-- What a resource of the world denotes.
use Rattle.std.proofs.Common.{◌≡◌, ◌∙◌, ◌<◌, ℕ, List, true, true≢false, sym, subst, refl, ap, length, map, Option, Some, None, IsSome, IsSomeAnd, Contains}
use Rattle.comp_lists.proofs.Lists.{AllByRecursion-contains}
use Rattle.wit_data.specs.declared.ids.InterfaceId.{InterfaceId}
use Rattle.wit_data.specs.declared.worlds.WorldItem.TheVariants as items
use Rattle.wit_data.specs.declared.worlds.WorldKey.TheVariants as keys
use Rattle.wit_data.specs.declared.ids.TypeId.{TypeId}
use Rattle.wit_data.specs.declared.types.TypeDefKind.{TypeDefKind}
use Rattle.wit_data.specs.declared.types.TypeDefKind.TheVariants as kinds
use Rattle.wit_data.specs.Parts.{parts}
use Rattle.wit_data.specs.Values.{kind_at, part_value, values}
use Rattle.wit_data.proofs.Values.{made_whole}
use Rattle.wit_types.specs.Allowing.{is_resource}
use Rattle.comp_trees.specs.Trees.{ResourceAt, ImportedAt}
use Rattle.comp_trees.specs.DefinedTrees.{OfValues}
use Rattle.comp_trees.specs.WitTrees.{kind_tree, making_trees}
use Rattle.comp_worlds.specs.Encodable.{IsEncodable, IsItemPlaced, IsRootType}
use Rattle.comp_worlds.specs.WorldContents.{items_of, interface_at}
use Rattle.interface_needs.specs.RootNeeds.{IsWorldType}
use Rattle.interface_needs.proofs.OwnResources.{root_resource}
use Rattle.interface_needs.proofs.RootItems.{root_placed}
use Rattle.comp_worlds.specs.declared.world.ComponentWorld.{ComponentWorld}
use Rattle.comp_links.specs.Lists.{import_entries, number_of_interface, number_of_type, resource_of, type_name, type_of_world}

pub kind_is : (k : TypeDefKind) → is_resource k ≡ true → k ≡ kinds.Resource
kind_is kinds.Resource e = refl
kind_is k e = absurd (true≢false (sym e))

-- a resource is that of its origin
pub resource_tree : (w : ComponentWorld) → IsEncodable w → (id : TypeId) → id.index < length w.resolve.types → kind_at w.resolve.types id.index ≡ kinds.Resource → type_of_world w id ≡ OfValues (ResourceAt (resource_of w id))
resource_tree w ok id l resource =
    ap OfValues
    (made_whole (making_trees (resource_of w)) w.resolve.types id.index ok.sound.back l
    ∙ ap (λ k. kind_tree (resource_of w) id.index k (map (part_value (making_trees (resource_of w)) (values (making_trees (resource_of w)) w.resolve.types)) (parts k))) resource)

-- one of the world's root is known by the number of its import
pub resource_numbered : (w : ComponentWorld) → IsEncodable w → (id : TypeId) (n : ℕ) → id.index < length w.resolve.types → is_resource (kind_at w.resolve.types id.index) ≡ true → interface_at w.resolve.types id.index ≡ None → number_of_type id (import_entries w) ≡ n →
    OfValues (ResourceAt (ImportedAt (record { number = n; inner = None }))) ≡ type_of_world w id
resource_numbered w ok id n l resource own number =
    sym (resource_tree w ok id l (kind_is (kind_at w.resolve.types id.index) resource)
    ∙ (ap (λ r. OfValues (ResourceAt r)) (root_resource w ok id own)
    ∙ ap (λ (o : Option InterfaceId). OfValues (ResourceAt (ImportedAt (elim o [ None ↦ record { number = number_of_type id (import_entries w); inner = None } | Some interface ↦ record { number = number_of_interface interface (import_entries w); inner = Some (type_name w id) } ])))) own
    ∙ ap (λ m. OfValues (ResourceAt (ImportedAt (record { number = m; inner = None })))) number))

-- a type that the world imports is one of its root
pub at_root : (w : ComponentWorld) → IsEncodable w → (name : List ℕ) (id : TypeId) → Contains (items_of w).imports (keys.Name name, items.NamedType id) → IsRootType w.resolve.types id
at_root w ok name id listed = AllByRecursion-contains (λ e. IsItemPlaced w.resolve (items_of w).imports e.1) (items_of w).imports (keys.Name name, items.NamedType id) ok.imports listed

pub world_type_listed : (w : ComponentWorld) → IsEncodable w → {name : List ℕ} (id : TypeId) → id.index < length w.resolve.types → Contains (items_of w).imports (keys.Name name, items.NamedType id) → IsWorldType w id
world_type_listed w ok {name} id within listed =
    let r = at_root w ok name id listed in
    record { key = keys.Name name; there = listed; placed = root_placed w ok id within r.own r.named }

-- what is found has what is known of it
pub is_found : {X : Type 0} (P : X → Type 0) (o : Option X) → IsSomeAnd o P → IsSome o
is_found P None h = absurd h
is_found P (Some x) h = refl

pub found_is : {X : Type 0} (P : X → Type 0) (o : Option X) (x : X) → o ≡ Some x → IsSomeAnd o P → P x
found_is P o x e h = subst (λ p. IsSomeAnd p P) e h
