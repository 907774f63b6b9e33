-- The streams and futures of core imports of which none is left out: each is one that a validated world has.
use Rattle.std.proofs.Common.{arith, ◌≡◌, ◌∙◌, ◌<◌, length, ℕ, zero, suc, Bool, true, false, ◌&&◌, ◌||◌, not, nat_le, List, [], ◌∷◌, Option, Some, None, is_some, refl, sym, ap, true≢false}
use Rattle.std.specs.Prelude.{slice_get, get_or, Contains}
use Rattle.std.specs.Option.{option_and_then, option_map_or}
use Rattle.std.specs.Map.{lookup}
use Rattle.comp_lists.specs.Found.{found}
use Rattle.wit_data.specs.Keys.{is_same_key}
use Rattle.wit_data.specs.Values.{kind_at}
use Rattle.wit_data.specs.declared.functions.Function.{Function}
use Rattle.wit_data.specs.declared.ids.InterfaceId.{InterfaceId}
use Rattle.wit_data.specs.declared.ids.TypeId.{TypeId}
use Rattle.wit_data.specs.declared.types.TypeDef.{TypeDef}
use Rattle.wit_data.specs.declared.worlds.WorldItem.{WorldItem}
use Rattle.wit_data.specs.declared.worlds.WorldItem.TheVariants as items
use Rattle.wit_data.specs.declared.worlds.WorldKey.{WorldKey}
use Rattle.comp_roles.specs.declared.payloads.PayloadInfo.{PayloadInfo}
use Rattle.comp_roles.specs.declared.payloads.PayloadType.{PayloadType}
use Rattle.comp_roles.specs.declared.payloads.PayloadType.TheVariants as payloads
use Rattle.world_values.specs.Items.{functions_of, function_in, function_of_item, root_function_at}
use Rattle.world_values.specs.Mentions.{interface_in}
use Rattle.comp_worlds.specs.Encodable.{Entries}
use Rattle.comp_worlds.specs.Payloads.{is_payload_kind, IsPayloadType, IsOwnPayload, IsExportedPayload, IsPayloadOf, IsTyped, IsPayload}
use Rattle.comp_worlds.specs.WorldContents.{exported_item, keys_required}
use Rattle.comp_worlds.specs.WorldTables.{whole_of}
use Rattle.comp_worlds.specs.declared.world.WorldParts.{WorldParts}
use Rattle.record_core_types.specs.Asked.{exported_function}
use Rattle.record_core_types.specs.Guarantees.{exported_in, IsPayloadMet}
use Rattle.supported_worlds.specs.LeftOut.{items_of}
use Rattle.supported_worlds.specs.Placed.{is_payload, is_payload_at, is_payload_type, is_payload_placed, is_required_at, is_exported_function, is_exported_payload, is_own_payload}
use Rattle.supported_worlds.proofs.InPlace.{both}
use Rattle.supported_worlds.proofs.OwnRoles.{IsRequiredAt, required_at}

-- ---- types

-- a type that passes is a stream or a future, and there
payload_number : (types : List TypeDef) (n : ℕ) → option_map_or is_payload (slice_get types n) false ≡ true → (n < length types) × (is_payload_kind (kind_at types n) ≡ true)
payload_number [] n h = absurd (true≢false (sym h))
payload_number (t ∷ ts) zero h = (omega arith, h)
payload_number (t ∷ ts) (suc n) h = let r = payload_number ts n h in let l = r.0 in (omega (arith, l), r.1)

payload_type_is : (types : List TypeDef) (id : TypeId) → is_payload_at types id ≡ true → IsPayloadType types id
payload_type_is types id h = let r = payload_number types id.index h in record { present = r.0; kind = r.1 }

-- ---- functions

some_of : {X : Type 0} (o : Option X) → is_some o ≡ true → (x : X) × (o ≡ Some x)
some_of (Some x) h = (x, refl)
some_of None h = absurd (true≢false (sym h))

-- the item at a key, where it is this function
function_item : (o : Option WorldItem) (f : Function) → option_and_then function_in o ≡ Some f → o ≡ Some (items.Function f)
function_item (Some (items.Function g)) f e = ap (λ (x : Option Function). elim x [ Some h ↦ Some (items.Function h) | None ↦ Some (items.Function g) ]) e
function_item (Some (items.Interface id)) f e = absurd (true≢false (sym (ap is_some e)))
function_item (Some (items.NamedType id)) f e = absurd (true≢false (sym (ap is_some e)))
function_item None f e = absurd (true≢false (sym (ap is_some e)))

module _ (p : WorldParts) (required : List InterfaceId) (exported_is : (key : WorldKey) → exported_function p.resolve p.world key ≡ root_function_at (items_of p).exports key)
    (known : (key : WorldKey) (id : InterfaceId) → IsRequiredAt (items_of p).exports required key id → Contains (keys_required (whole_of p)) key) (q : PayloadInfo) (met : IsPayloadMet p.resolve p.world q) (unimported : q.imported ≡ false) where
  abbrev es : Entries
  es = (items_of p).exports

  -- of a function at the root
  at_root : (key : WorldKey) (id : TypeId) (name : List ℕ) → q.key ≡ Some key → q.ty ≡ payloads.Typed id name → q.interface ≡ None → is_some (root_function_at es key) ≡ true → IsOwnPayload (whole_of p) key None name id
  at_root key id name keyed typed of h =
      let f = some_of (root_function_at es key) h in
      let item : exported_item (whole_of p) key ≡ Some (items.Function f.0) = function_item (lookup (is_same_key key) es) f.0 f.1 in
      record {
        function = f.0;
        exported = ap (function_of_item p.resolve name) item;
        of = ap (option_and_then interface_in) item;
        required = λ some. absurd (true≢false (sym some));
        reached = met.reached key id name f.0 unimported keyed typed (ap (λ i. exported_in p.resolve p.world key i name) of ∙ (exported_is key ∙ f.1));
      }

  -- of one of an interface
  in_interface : (key : WorldKey) (id : TypeId) (name : List ℕ) (i : InterfaceId) → q.key ≡ Some key → q.ty ≡ payloads.Typed id name → q.interface ≡ Some i → (is_required_at es required key i && is_some (found name (functions_of p.resolve i))) ≡ true →
      IsOwnPayload (whole_of p) key (Some i) name id
  in_interface key id name i keyed typed of h =
      let b = both (is_required_at es required key i) (is_some (found name (functions_of p.resolve i))) h in
      let there : IsRequiredAt es required key i = required_at es required key i b.0 in
      let f = some_of (found name (functions_of p.resolve i)) b.1 in
      record {
        function = f.0;
        exported = ap (function_of_item p.resolve name) there.exported ∙ f.1;
        of = ap (option_and_then interface_in) there.exported;
        required = λ some. known key i there;
        reached = met.reached key id name f.0 unimported keyed typed (ap (λ x. exported_in p.resolve p.world key x name) of ∙ f.1);
      }

  in_scope : (key : WorldKey) (id : TypeId) (name : List ℕ) (interface : Option InterfaceId) → q.key ≡ Some key → q.ty ≡ payloads.Typed id name → q.interface ≡ interface → is_exported_function p.resolve es required key interface name ≡ true →
      IsOwnPayload (whole_of p) key interface name id
  in_scope key id name None keyed typed of h = at_root key id name keyed typed of h
  in_scope key id name (Some i) keyed typed of h = in_interface key id name i keyed typed of h

  at_key : (key : Option WorldKey) (id : TypeId) (name : List ℕ) → q.key ≡ key → q.ty ≡ payloads.Typed id name → option_map_or (λ k. is_exported_function p.resolve es required k q.interface name) key false ≡ true → IsExportedPayload (whole_of p) key q.interface name id
  at_key None id name keyed typed h = absurd (true≢false (sym h))
  at_key (Some key) id name keyed typed h = in_scope key id name q.interface keyed typed refl h

module _ (p : WorldParts) (places : List ℕ) (root : ℕ) (required : List InterfaceId) (exported_is : (key : WorldKey) → exported_function p.resolve p.world key ≡ root_function_at (items_of p).exports key)
    (known : (key : WorldKey) (id : InterfaceId) → IsRequiredAt (items_of p).exports required key id → Contains (keys_required (whole_of p)) key) (q : PayloadInfo) (met : IsPayloadMet p.resolve p.world q) where
  of_function : (imported : Bool) (id : TypeId) (name : List ℕ) → q.imported ≡ imported → q.ty ≡ payloads.Typed id name → (imported || is_exported_payload p.resolve (items_of p).exports required q.key q.interface (payloads.Typed id name)) ≡ true →
      IsPayloadOf (whole_of p) imported q.key q.interface name id
  of_function true id name is typed h = tt
  of_function false id name is typed h = at_key p required exported_is known q met is q.key id name refl typed h

  typed_right : (ty : PayloadType) → q.ty ≡ ty → is_payload_type p.resolve.types places root q.imported ty ≡ true → (q.imported || is_exported_payload p.resolve (items_of p).exports required q.key q.interface ty) ≡ true → IsTyped (whole_of p) q ty
  typed_right (payloads.Typed id name) typed placed own = (
    payload_type_is p.resolve.types id (both (is_payload_at p.resolve.types id) (not q.imported || nat_le (get_or places id.index 0) root) placed).0,
    of_function q.imported id name refl typed own,
  )
  typed_right payloads.UnitStream typed placed own = tt
  typed_right payloads.UnitFuture typed placed own = tt

  -- a stream or a future that passes is one of a validated world
  pub payload_right : is_payload_placed p.resolve.types places root q ≡ true → is_own_payload p.resolve (items_of p).exports required q ≡ true → IsPayload (whole_of p) q
  payload_right placed own = typed_right q.ty refl placed own
