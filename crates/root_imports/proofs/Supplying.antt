-- Functions that are exported and whose results are returned, and streams and futures of exported
-- functions: the types that they are made of are at hand, once those of all exported interfaces are in
-- the tables.
use Rattle.std.proofs.Common.{◌≡◌, ◌⊎◌, ℕ, suc, zero, Bool, true, false, true≢false, List, [], ◌∷◌, length, take, Option, Some, None, Contains, inl, inr, refl, sym, ap, subst, arith}
use Rattle.std.specs.List.{AllByRecursion, flat_map, list_any, slice_get}
use Rattle.comp_lists.proofs.Lists.{AllByRecursion-contains, AllByRecursion-weaker}
use Rattle.comp_worlds.specs.Encodable.{IsEncodable}
use Rattle.comp_worlds.specs.ExportOrder.{AreExportsInOrder, exported_before, interface_among, required_interfaces, used_exports}
use Rattle.comp_roles.specs.declared.payloads.PayloadInfo.{PayloadInfo}
use Rattle.comp_roles.specs.declared.payloads.PayloadType.{PayloadType}
use Rattle.comp_roles.specs.declared.payloads.PayloadType.TheVariants as payloads
use Rattle.comp_worlds.specs.Payloads.{IsExportedPayload, IsPayloadOf, IsTyped, IsPayload, scope_if, type_scope, payload_scope}
use Rattle.comp_worlds.specs.WorldContents.{exported_item, keys_required, name_at}
use Rattle.comp_worlds.specs.Worlds.{IsOwnFunction}
use Rattle.comp_worlds.specs.declared.world.ComponentWorld.{ComponentWorld}
use Rattle.interface_needs.proofs.Lending.{among}
use Rattle.interface_needs.proofs.Lists.{IsInOne, contains_cons, contains_first, contains_flat, contains_later, contains_none, flat_contains}
use Rattle.interface_needs.proofs.OwnFunctions.{item_of, own_exported, own_sound}
use Rattle.interface_needs.specs.RootNeeds.{IsExportedFunction}
use Rattle.root_imports.proofs.Meeting.{all_types_met, named_whole, or_left, some_is}
use Rattle.root_imports.specs.Imports.{IsNeededFunction, IsResult}
use Rattle.root_imports.specs.Met.{has_instance, has_types, AreExportsMet, IsSupplied, IsSuppliedFor}
use Rattle.root_imports.specs.declared.met_types.MetTypes.{MetTypes}
use Rattle.wit_data.specs.Values.{kind_at}
use Rattle.wit_data.specs.declared.functions.Function.{Function}
use Rattle.wit_data.specs.declared.ids.InterfaceId.{InterfaceId}
use Rattle.wit_data.specs.declared.ids.TypeId.{TypeId}
use Rattle.wit_data.specs.declared.types.TypeDefKind.{TypeDefKind}
use Rattle.wit_data.specs.declared.types.TypeDefKind.TheVariants as shapes
use Rattle.wit_data.specs.declared.worlds.WorldItem.TheVariants as items
use Rattle.wit_data.specs.declared.worlds.WorldKey.{WorldKey}
use Rattle.wit_types.specs.Allowing.{is_resource}
use Rattle.world_values.specs.Mentions.{same_interface}

-- one of the first of a list is one of all
among_first : (keys : List WorldKey) (number : ℕ) (key : WorldKey) → Contains (take number keys) key → Contains keys key
among_first [] zero key c = contains_none key c
among_first [] (suc number) key c = contains_none key c
among_first (k ∷ ks) zero key c = contains_none key c
among_first (k ∷ ks) (suc number) key c = elim (contains_cons k (take number ks) key c) [
  | inl same ↦ (0, omega arith, same)
  | inr later ↦ contains_later k ks key (among_first ks number key later)
]

-- the place of an element
numbered : (keys : List WorldKey) (key : WorldKey) → Contains keys key → (n : ℕ) × (slice_get keys n ≡ Some key)
numbered [] key c = contains_none key c
numbered (k ∷ ks) key c = elim (contains_cons k ks key c) [
  | inl same ↦ (0, ap Some same)
  | inr later ↦ (let e = numbered ks key later in (suc e.0, e.1))
]

resource_is : (k : TypeDefKind) → is_resource k ≡ true → k ≡ shapes.Resource
resource_is shapes.Resource e = refl
resource_is k e = absurd (true≢false (sym e))

module _ (w : ComponentWorld) (ok : IsEncodable w) (met : MetTypes) (all : AreExportsMet w met) (order : AreExportsInOrder w) where
  -- an interface that is exported before another has its types in the tables
  before_there : (number : ℕ) (used : InterfaceId) → list_any (same_interface used) (exported_before w number) ≡ true → has_types met used ≡ true
  before_there number used e =
      let one : IsInOne (λ key. interface_among (exported_item w key)) (take number (keys_required w)) used = flat_contains (λ key. interface_among (exported_item w key)) (take number (keys_required w)) used (among (exported_before w number) used e) in
      AllByRecursion-contains (λ interface. has_types met interface ≡ true) (required_interfaces w) used all
      (contains_flat (λ key. interface_among (exported_item w key)) (keys_required w) one.x used (among_first (keys_required w) number one.x one.one) one.there)

  -- an interface that has to be exported
  pub supplied_there : (key : WorldKey) (id : InterfaceId) → Contains (keys_required w) key → exported_item w key ≡ Some (items.Interface id) → Contains (required_interfaces w) id → IsSupplied w met id (length w.resolve.types)
  supplied_there key id required item there =
      let place = numbered (keys_required w) key required in
      record {
        uses = AllByRecursion-weaker (λ (used : InterfaceId) e. or_left (has_types met used) (has_instance met used) (before_there place.0 used e)) (used_exports w id) (order.each place.0 id (record { key = key; required = place.1; item = item }));
        resources = λ n l own resource.
            all_types_met w met (record { index = n }) id (AllByRecursion-contains (λ interface. has_types met interface ≡ true) (required_interfaces w) id all there)
            (named_whole w.resolve.types id n (some_is (name_at w.resolve.types n) ((ok.types n l).named (resource_is (kind_at w.resolve.types n) resource))) own);
      }

  -- what a function is made of whose result is returned
  pub return_supplied : (key : WorldKey) (interface : Option InterfaceId) (f : Function) → IsOwnFunction w key interface f → IsSuppliedFor w met interface
  return_supplied key None f h = tt
  return_supplied key (Some id) f h =
      let item = item_of (exported_item w key) id h.of in
      supplied_there key id (h.required refl) item
      (contains_flat (λ key. interface_among (exported_item w key)) (keys_required w) key id (h.required refl) (subst (λ o. Contains (interface_among o) id) (sym item) (contains_first id [])))

  -- what the type of a stream or a future is made of
  own_supplied : (key : Option WorldKey) (interface : Option InterfaceId) (name : List ℕ) (id : TypeId) → IsExportedPayload w key interface name id → IsSuppliedFor w met interface
  own_supplied None interface name id h = absurd h
  own_supplied (Some key) None name id h = tt
  own_supplied (Some key) (Some i) name id h =
      let item = item_of (exported_item w key) i h.of in
      supplied_there key i (h.required refl) item
      (contains_flat (λ key. interface_among (exported_item w key)) (keys_required w) key i (h.required refl) (subst (λ o. Contains (interface_among o) i) (sym item) (contains_first i [])))

  of_supplied : (imported : Bool) (key : Option WorldKey) (interface : Option InterfaceId) (name : List ℕ) (id : TypeId) → IsPayloadOf w imported key interface name id → IsSuppliedFor w met (scope_if imported interface)
  of_supplied true key interface name id h = tt
  of_supplied false key interface name id h = own_supplied key interface name id h

  typed_supplied : (p : PayloadInfo) (ty : PayloadType) → IsTyped w p ty → IsSuppliedFor w met (type_scope p ty)
  typed_supplied p (payloads.Typed id name) h = of_supplied p.imported p.key p.interface name id h.1
  typed_supplied p payloads.UnitStream h = tt
  typed_supplied p payloads.UnitFuture h = tt

  pub payload_supplied : (p : PayloadInfo) → IsPayload w p → IsSuppliedFor w met (payload_scope p)
  payload_supplied p h = typed_supplied p p.ty h

needed_as : (w : ComponentWorld) (interface : Option InterfaceId) (f : Function) → IsExportedFunction w interface f → IsNeededFunction w interface f
needed_as w None f h = inr h
needed_as w (Some id) f h = h

-- its result is one of a function that the component needs
pub return_result : (w : ComponentWorld) → IsEncodable w → (key : WorldKey) (interface : Option InterfaceId) (f : Function) → IsOwnFunction w key interface f → IsResult w interface f.result
return_result w ok key interface f h = record { function = f; present = own_sound w ok key interface f h; needed = needed_as w interface f (own_exported w key interface f h); is = refl }
