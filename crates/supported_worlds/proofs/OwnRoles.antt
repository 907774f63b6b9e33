-- The roles of resources of exported interfaces: such a resource is one of an interface that main has to export.
use Rattle.std.proofs.Common.{arith, ◌≡◌, ◌⊎◌, inl, inr, ◌∙◌, ℕ, zero, suc, Bool, true, false, true≢false, not, ◌||◌, List, [], ◌∷◌, Option, Some, None, refl, sym, ap, subst}
use Rattle.std.specs.Prelude.{Contains, slice_get}
use Rattle.std.specs.List.{list_any}
use Rattle.std.specs.Map.{lookup}
use Rattle.std.specs.Option.{option_and_then, option_map_or}
use Rattle.std.proofs.lemmas.Bool.{eqb-true, eq-eqb}
use Rattle.std.proofs.lemmas.List.Elements.{Contains-append_cases}
use Rattle.wit_data.specs.Keys.{is_same_key}
use Rattle.wit_data.specs.declared.ids.InterfaceId.{InterfaceId}
use Rattle.wit_data.specs.declared.types.TypeDef.{TypeDef}
use Rattle.wit_data.specs.declared.types.TypeDefKind.TheVariants as kinds
use Rattle.wit_data.specs.declared.worlds.WorldItem.{WorldItem}
use Rattle.wit_data.specs.declared.worlds.WorldItem.TheVariants as items
use Rattle.wit_data.specs.declared.worlds.WorldKey.{WorldKey}
use Rattle.world_values.specs.Mentions.{interface_in, interfaces_of, same_interface}
use Rattle.comp_worlds.specs.Encodable.{Entries}
use Rattle.comp_worlds.specs.ExportOrder.{interface_among}
use Rattle.comp_worlds.specs.WorldContents.{interface_at, interface_of_owner}
use Rattle.comp_worlds.specs.Worlds.{IsResource}
use Rattle.supported_worlds.specs.Distinct.{are_apart}
use Rattle.supported_worlds.specs.LeftOut.{required_of}
use Rattle.supported_worlds.specs.Placed.{is_resource, is_required_at, is_own_at}
use Rattle.supported_worlds.proofs.InPlace.{both, resource_kind}
use Rattle.supported_worlds.proofs.InterfacePlaces.{same_is}
use Rattle.supported_worlds.proofs.Interfaces.{one_found, entry_there}
use Rattle.supported_worlds.proofs.Lists.{at_front, after, not_there}

-- ---- elements

one_interface : (a b : InterfaceId) → same_interface a b ≡ true → a ≡ b
one_interface a b h = ap (λ (n : ℕ). record { index = n }) (eqb-true a.index b.index (sym (same_is a b) ∙ h))

in_front : {X : Type 0} (x : X) (xs : List X) (i : X) → Contains (x ∷ xs) i → (x ≡ i) ⊎ Contains xs i
in_front x xs i (zero, l, same) = inl same
in_front x xs i (suc n, l, same) = inr (n, omega (arith, l), same)

-- an interface among some that passes
any_same : (ids : List InterfaceId) (id : InterfaceId) → list_any (same_interface id) ids ≡ true → Contains ids id
any_same [] id h = absurd (true≢false (sym h))
any_same (x ∷ xs) id h = by (same_interface id x) refl h (any_same xs id)
  where
    by : (b : Bool) → same_interface id x ≡ b → (b || list_any (same_interface id) xs) ≡ true → (list_any (same_interface id) xs ≡ true → Contains xs id) → Contains (x ∷ xs) id
    by true same h rest = subst (λ (y : InterfaceId). Contains (y ∷ xs) id) (one_interface id x same) (at_front id xs)
    by false other h rest = after x xs id (rest h)

item_among : (o : Option WorldItem) (id : InterfaceId) → Contains (interface_among o) id → option_and_then interface_in o ≡ Some id
item_among None id c = not_there id c
item_among (Some (items.Interface other)) id c = elim (in_front other [] id c) [
  | inl same ↦ ap Some same
  | inr later ↦ not_there id later
]
item_among (Some (items.Function f)) id c = not_there id c
item_among (Some (items.NamedType t)) id c = not_there id c

-- a required interface is exported at one of the keys
record HasKey (es : Entries) (keys : List WorldKey) (id : InterfaceId) : Type 0 where
  key : WorldKey
  there : Contains keys key
  entry : Contains es (key, items.Interface id)

key_there : (es : Entries) (keys : List WorldKey) (id : InterfaceId) → Contains (required_of es keys) id → HasKey es keys id
key_there es [] id c = not_there id c
key_there es (k ∷ ks) id c = elim (Contains-append_cases (interface_among (lookup (is_same_key k) es)) (required_of es ks) id c) [
  | inl here ↦ record { key = k; there = at_front k ks; entry = entry_there k id es (item_among (lookup (is_same_key k) es) id here) }
  | inr later ↦ let h = key_there es ks id later in record { key = h.key; there = after k ks h.key h.there; entry = h.entry }
]

key_of : (es : Entries) (keys : List WorldKey) (id : InterfaceId) → list_any (same_interface id) (required_of es keys) ≡ true → HasKey es keys id
key_of es keys id h = key_there es keys id (any_same (required_of es keys) id h)

-- an interface is no entry behind another one of it
self_same : (id : InterfaceId) → same_interface id id ≡ true
self_same id = same_is id id ∙ eq-eqb id.index id.index refl

among_any : (es : Entries) (key : WorldKey) (id : InterfaceId) → Contains es (key, items.Interface id) → list_any (same_interface id) (interfaces_of es) ≡ true
among_any [] key id c = not_there (key, items.Interface id) c
among_any (e ∷ es) key id c = by e (in_front e es (key, items.Interface id) c) (among_any es key id)
  where
    or_after : (b c : Bool) → c ≡ true → (b || c) ≡ true
    or_after true c h = refl
    or_after false c h = h

    by : (e : WorldKey × WorldItem) → (e ≡ (key, items.Interface id)) ⊎ Contains es (key, items.Interface id) → (Contains es (key, items.Interface id) → list_any (same_interface id) (interfaces_of es) ≡ true) → list_any (same_interface id) (interfaces_of (e ∷ es)) ≡ true
    by e (inl same) rest = subst (λ (x : WorldKey × WorldItem). list_any (same_interface id) (interfaces_of (x ∷ es)) ≡ true) (sym same) (ap (λ b. b || list_any (same_interface id) (interfaces_of es)) (self_same id))
    by (k, items.Interface other) (inr later) rest = or_after (same_interface id other) (list_any (same_interface id) (interfaces_of es)) (rest later)
    by (k, items.Function f) (inr later) rest = rest later
    by (k, items.NamedType t) (inr later) rest = rest later

twice_there : (es : Entries) (first key : WorldKey) (id : InterfaceId) → are_apart same_interface (interfaces_of ((first, items.Interface id) ∷ es)) ≡ true → Contains es (key, items.Interface id) → ⊥
twice_there es first key id h c =
    let b = both (not (list_any (same_interface id) (interfaces_of es))) (are_apart same_interface (interfaces_of es)) h in
    true≢false (sym b.0 ∙ ap not (among_any es key id c))

others_apart : (e : WorldKey × WorldItem) (es : Entries) → are_apart same_interface (interfaces_of (e ∷ es)) ≡ true → are_apart same_interface (interfaces_of es) ≡ true
others_apart (k, items.Interface id) es h = (both (not (list_any (same_interface id) (interfaces_of es))) (are_apart same_interface (interfaces_of es)) h).1
others_apart (k, items.Function f) es h = h
others_apart (k, items.NamedType t) es h = h

-- ---- resources

-- a resource of an interface that is exported at a key and required
pub record IsOwnedType (types : List TypeDef) (es : Entries) (required : List InterfaceId) (key : WorldKey) (n : ℕ) : Type 0 where
  pub resource : IsResource types n
  pub interface : InterfaceId
  pub owner : interface_at types n ≡ Some interface
  pub at : is_required_at es required key interface ≡ true

pub owned_type : (types : List TypeDef) (es : Entries) (required : List InterfaceId) (key : WorldKey) (n : ℕ) → option_map_or (is_own_at es required key) (slice_get types n) false ≡ true → IsOwnedType types es required key n
owned_type [] es required key n h = absurd (true≢false (sym h))
owned_type (t ∷ ts) es required key zero h =
    let b = both (is_resource t) (option_map_or (is_required_at es required key) (interface_of_owner t.owner) false) h in
    by (interface_of_owner t.owner) refl b.1 (resource_kind t.kind b.0)
  where
    by : (o : Option InterfaceId) → interface_of_owner t.owner ≡ o → option_map_or (is_required_at es required key) o false ≡ true → t.kind ≡ kinds.Resource → IsOwnedType (t ∷ ts) es required key zero
    by None is e kind = absurd (true≢false (sym e))
    by (Some id) is e kind = record { resource = record { present = omega arith; kind = kind }; interface = id; owner = is; at = e }
owned_type (t ∷ ts) es required key (suc n) h =
    let r = owned_type ts es required key n h in
    let l = r.resource.present in
    record { resource = record { present = omega (arith, l); kind = r.resource.kind }; interface = r.interface; owner = r.owner; at = r.at }

pub record IsRequiredAt (es : Entries) (ids : List InterfaceId) (key : WorldKey) (id : InterfaceId) : Type 0 where
  pub exported : lookup (is_same_key key) es ≡ Some (items.Interface id)
  pub entry : Contains es (key, items.Interface id)
  pub required : list_any (same_interface id) ids ≡ true

pub required_at : (es : Entries) (required : List InterfaceId) (key : WorldKey) (id : InterfaceId) → is_required_at es required key id ≡ true → IsRequiredAt es required key id
required_at es required key id h =
    let b = both (option_map_or (same_interface id) (option_and_then interface_in (lookup (is_same_key key) es)) false) (list_any (same_interface id) required) h in
    by (option_and_then interface_in (lookup (is_same_key key) es)) refl b.0 b.1
  where
    by : (o : Option InterfaceId) → option_and_then interface_in (lookup (is_same_key key) es) ≡ o → option_map_or (same_interface id) o false ≡ true → list_any (same_interface id) required ≡ true → IsRequiredAt es required key id
    by None is e r = absurd (true≢false (sym e))
    by (Some other) is e r =
        let here : option_and_then interface_in (lookup (is_same_key key) es) ≡ Some id = is ∙ ap Some (sym (one_interface id other e)) in
        record { exported = one_found id (lookup (is_same_key key) es) here; entry = entry_there key id es here; required = r }

-- an interface is exported at one key
one_export : (es : Entries) (first second : WorldKey) (id : InterfaceId) → are_apart same_interface (interfaces_of es) ≡ true → Contains es (first, items.Interface id) → Contains es (second, items.Interface id) → first ≡ second
one_export [] first second id h c d = not_there (first, items.Interface id) c
one_export (e ∷ es) first second id h c d = by e (in_front e es (first, items.Interface id) c) (in_front e es (second, items.Interface id) d) h (one_export es first second id)
  where
    by : (e : WorldKey × WorldItem) → (e ≡ (first, items.Interface id)) ⊎ Contains es (first, items.Interface id) → (e ≡ (second, items.Interface id)) ⊎ Contains es (second, items.Interface id) → are_apart same_interface (interfaces_of (e ∷ es)) ≡ true
        → (are_apart same_interface (interfaces_of es) ≡ true → Contains es (first, items.Interface id) → Contains es (second, items.Interface id) → first ≡ second) → first ≡ second
    by e (inl one) (inl two) h rest = ap (λ (x : WorldKey × WorldItem). x.0) (sym one ∙ two)
    by e (inl one) (inr two) h rest = absurd (twice_there es first second id (subst (λ (x : WorldKey × WorldItem). are_apart same_interface (interfaces_of (x ∷ es)) ≡ true) one h) two)
    by e (inr one) (inl two) h rest = absurd (twice_there es second first id (subst (λ (x : WorldKey × WorldItem). are_apart same_interface (interfaces_of (x ∷ es)) ≡ true) two h) one)
    by e (inr one) (inr two) h rest = rest (others_apart e es h) one two

-- so its key is required, where it is
pub required_key : (es : Entries) (keys : List WorldKey) (key : WorldKey) (id : InterfaceId) → are_apart same_interface (interfaces_of es) ≡ true → IsRequiredAt es (required_of es keys) key id → Contains keys key
required_key es keys key id apart h =
    let k = key_of es keys id h.required in
    subst (λ (x : WorldKey). Contains keys x) (one_export es k.key key id apart k.entry h.entry) k.there
