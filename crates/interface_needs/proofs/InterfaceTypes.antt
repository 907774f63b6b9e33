-- What the types are that an imported interface needs.
use Rattle.std.proofs.Common.{◌≡◌, ◌∙◌, ◌≤◌, ℕ, suc, Bool, true, false, List, [], ◌∷◌, map, filter, Contains, sym, ap, subst, arith, Option, Some, None, if◌then◌else◌}
use Rattle.std.proofs.lemmas.Option.{same_Some}
use Rattle.comp_lists.specs.Found.{found}
use Rattle.comp_trees.specs.Trees.{Origin, ImportedAt}
use Rattle.comp_trees.specs.DefinedTrees.{TypeTree}
use Rattle.comp_inventories.specs.Inventories.{surroundings_of}
use Rattle.wit_data.specs.Names.{text_of}
use Rattle.wit_data.specs.declared.ids.InterfaceId.{InterfaceId}
use Rattle.wit_data.specs.declared.ids.TypeId.{TypeId}
use Rattle.wit_data.specs.Live.{named_types, is_live}
use Rattle.type_scopes.specs.Titles.{HasTitle, IsTitled, AscendFrom, IsKnownByName}
use Rattle.comp_worlds.specs.Encodable.{IsEncodable, IsListedType}
use Rattle.comp_worlds.specs.Encodable as encodable
use Rattle.comp_worlds.specs.WorldContents.{interface_at, name_at}
use Rattle.comp_worlds.specs.declared.world.ComponentWorld.{ComponentWorld}
use Rattle.interface_needs.proofs.OwnResources.{interface_resource}
use Rattle.comp_links.specs.Lists.{needed_types, number_of_type, number_of_interface, import_entries, resource_of, type_name}
use Rattle.interface_needs.specs.Needs.{IsImported, AreTypesKnown}
use Rattle.interface_needs.proofs.Lists.{all_of_each}
use Rattle.interface_needs.proofs.Owners.{owner_of, owned_within, interface_of, same_name}
use Rattle.interface_needs.proofs.Needed.{IsNeededType, used_in, interface_placed, needed_are, needed_has}

-- numbers that ascend from one ascend from a lesser one
from_less : (k m : ℕ) (ids : List TypeId) → k ≤ m → AscendFrom m ids → AscendFrom k ids
from_less k m [] l h = tt
from_less k m (id ∷ ids) l h = let a = h.0 in (omega (arith, l, a), h.1)

ascend_filtered : (test : TypeId → Bool) (k : ℕ) (named : List (List ℕ × TypeId)) → encodable.AscendFrom k (map (λ t. t.1.index) named) → AscendFrom k (filter test (map (λ e. e.1) named))
ascend_filtered test k [] h = tt
ascend_filtered test k (e ∷ es) h = by (test e.1) (ascend_filtered test (suc e.1.index) es h.1)
  where
    by : (b : Bool) → AscendFrom (suc e.1.index) (filter test (map (λ e. e.1) es)) → AscendFrom k (if b then e.1 ∷ filter test (map (λ e. e.1) es) else filter test (map (λ e. e.1) es))
    by true rest = (h.0, rest)
    by false rest = let a = h.0 in from_less k (suc e.1.index) (filter test (map (λ e. e.1) es)) (omega (arith, a)) rest

module _ (w : ComponentWorld) (ok : IsEncodable w) (id : InterfaceId) (imported : IsImported w id) where
  titled : (t : TypeId) → Contains (needed_types w id) t → HasTitle w.resolve.types id t
  titled t c =
      let h : IsNeededType w id t = needed_has w ok id imported t c in
      record {
        name = h.name;
        is = record {
          present = owned_within w.resolve.types t.index id h.own;
          owner = owner_of w.resolve.types t.index id h.own;
          named = same_name w.resolve.types t.index ∙ h.named;
        };
      }

  -- a type of the interface with this name is found under it
  found_titled : (t : TypeId) (name : List ℕ) → IsTitled w.resolve.types id t name → found name (named_types w.resolve id) ≡ Some t
  found_titled t name h =
      let listed : IsListedType w.resolve id t.index = (ok.types t.index h.present).listed id (interface_of w.resolve.types t.index id h.present h.owner) in
      let same : listed.name ≡ name = same_Some listed.name name (sym listed.named ∙ (sym (same_name w.resolve.types t.index) ∙ h.named)) in
      subst (λ n. found n (named_types w.resolve id) ≡ Some t) same listed.listed

  known : (outer : List TypeTree) (t : TypeId) → Contains (needed_types w id) t → IsKnownByName (surroundings_of (number_of_interface id (import_entries w)) outer) (resource_of w) w.resolve.types t
  known outer t c =
      let h : IsNeededType w id t = needed_has w ok id imported t c in
      record { same = λ name resource named. interface_resource w ok t id imported h.own ∙ ap ImportedAt (by name h.own (sym (same_name w.resolve.types t.index) ∙ named)) }
    where
      of : Option InterfaceId → Origin
      of o = elim o [
        | None ↦ record { number = number_of_type t (import_entries w); inner = None }
        | Some interface ↦ record { number = number_of_interface interface (import_entries w); inner = Some (type_name w t) }
      ]

      by : (name : List ℕ) → interface_at w.resolve.types t.index ≡ Some id → name_at w.resolve.types t.index ≡ Some name → of (interface_at w.resolve.types t.index) ≡ record { number = number_of_interface id (import_entries w); inner = Some name }
      by name own named = ap of own ∙ ap (λ n. record { number = number_of_interface id (import_entries w); inner = Some (text_of n) }) named

  pub types_known : AreTypesKnown w id
  types_known = record {
    titled = all_of_each (HasTitle w.resolve.types id) (needed_types w id) titled;
    apart = record { each = λ a b name one other at bt. same_Some a b (sym (found_titled a name at) ∙ found_titled b name bt) };
    ascend = subst (λ ids. AscendFrom 0 ids) (sym (needed_are w ok id imported)) (ascend_filtered (λ t. is_live w.resolve.types (used_in w) t.index) 0 (named_types w.resolve id) (interface_placed w ok id imported).ordered);
    known = λ outer. all_of_each (IsKnownByName (surroundings_of (number_of_interface id (import_entries w)) outer) (resource_of w) w.resolve.types) (needed_types w id) (known outer);
  }
