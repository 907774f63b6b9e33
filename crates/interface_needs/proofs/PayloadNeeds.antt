-- The types of streams and futures of core imports: all that they are made of is at hand, at the root
-- or in the scope of an exported interface.
use Rattle.std.proofs.Common.{◌≡◌, ◌∙◌, ◌<◌, ◌≤◌, ℕ, Bool, true, false, true≢false, List, [], ◌∷◌, length, map, inl, inr, Contains, sym, ap, subst, arith, Option, Some, None, refl, if◌then◌else◌}
use Rattle.std.specs.List.{AllByRecursion}
use Rattle.std.specs.Str.{bytes_eq}
use Rattle.std.proofs.lemmas.List.Elements.{Contains-append_right, Contains-append_cases}
use Rattle.std.proofs.lemmas.Option.{none-some}
use Rattle.comp_lists.proofs.Lists.{AllByRecursion-contains}
use Rattle.comp_lists.specs.Found.{found}
use Rattle.wit_data.specs.declared.functions.Function.{Function}
use Rattle.wit_data.specs.declared.functions.Param.{Param}
use Rattle.wit_data.specs.declared.ids.InterfaceId.{InterfaceId}
use Rattle.wit_data.specs.declared.ids.TypeId.{TypeId}
use Rattle.wit_data.specs.declared.resolve.Resolve.{Resolve}
use Rattle.wit_data.specs.declared.types.Type.{«Type» as Ty}
use Rattle.wit_data.specs.declared.types.Type.TheVariants.{Id}
use Rattle.wit_data.specs.declared.worlds.WorldItem.{WorldItem}
use Rattle.wit_data.specs.declared.worlds.WorldItem.TheVariants as items
use Rattle.wit_data.specs.declared.worlds.WorldKey.{WorldKey}
use Rattle.wit_data.specs.Live.{is_live}
use Rattle.wit_data.specs.Parts.{parts}
use Rattle.wit_data.specs.Values.{kind_at}
use Rattle.comp_roles.specs.CoreImports.{CoreImport}
use Rattle.comp_roles.specs.declared.imports.Import.{Import}
use Rattle.comp_roles.specs.declared.imports.Import.TheVariants as imports
use Rattle.comp_roles.specs.declared.payloads.PayloadInfo.{PayloadInfo}
use Rattle.comp_roles.specs.declared.payloads.PayloadType.{PayloadType}
use Rattle.comp_roles.specs.declared.payloads.PayloadType.TheVariants as payloads
use Rattle.world_values.specs.Items.{functions_of, function_of_item}
use Rattle.world_values.specs.Mentions.{at_most_one, resource_of, passed_types, payload_in, payload_type, imported_payload, role_types}
use Rattle.comp_worlds.specs.Encodable.{Entries, IsEncodable, IsTypePlaced, IsFunctionPlaced, IsAtRoot, IsRolePlaced, place}
use Rattle.comp_worlds.specs.Payloads.{IsPayloadType, IsOwnPayload, IsExportedPayload, IsPayloadOf, IsTyped, IsPayload, scope_if, type_scope, payload_scope}
use Rattle.comp_worlds.specs.Uses.{all_imports}
use Rattle.comp_worlds.specs.WorldContents.{items_of, exported_item}
use Rattle.comp_worlds.specs.declared.world.ComponentWorld.{ComponentWorld}
use Rattle.interface_needs.specs.RootNeeds.{IsExportedInterface, IsUsedType, IsTypeFor, IsPayloadFor}
use Rattle.interface_needs.proofs.ExportedInterfaces.{function_reaches_home}
use Rattle.interface_needs.proofs.Lists.{IsImage, contains_first, contains_none, contains_one, map_contains}
use Rattle.interface_needs.proofs.Live.{live_given}
use Rattle.interface_needs.proofs.Needed.{used_in}
use Rattle.interface_needs.proofs.OwnFunctions.{item_of, same_item}
use Rattle.interface_needs.proofs.Reached.{ReachesType, live_from, live_more, reached_holds}
use Rattle.interface_needs.proofs.RootItems.{IsOfExport, export_used, exported_there, exported_placed, exported_types}
use Rattle.interface_needs.proofs.Tables.{lookup_contains}
use Rattle.interface_needs.proofs.Uses.{role_used}

-- ---- roles

-- the types that the role of a stream or a future names
role_payload : (r : Resolve) (es : Entries) (role : Import) (p : PayloadInfo) → payload_in role ≡ Some p → role_types r es role ≡ at_most_one (imported_payload (Some p))
role_payload r es (imports.WorldFunc key name abi) p e = absurd (none-some p e)
role_payload r es (imports.InterfaceFunc key id name abi) p e = absurd (none-some p e)
role_payload r es (imports.ImportedResourceDrop key interface id) p e = absurd (none-some p e)
role_payload r es role p e = ap (λ (o : Option PayloadInfo). at_most_one (imported_payload o)) e

-- and their place
payload_placed : (r : Resolve) (es : Entries) (role : Import) (p : PayloadInfo) → payload_in role ≡ Some p → IsRolePlaced r es role → IsAtRoot r es (imported_payload (Some p))
payload_placed r es (imports.ImportedResourceDrop key interface id) p e h = absurd (none-some p e)
payload_placed r es role p e h = subst (λ (o : Option PayloadInfo). IsAtRoot r es (imported_payload o)) e h

module _ (w : ComponentWorld) (ok : IsEncodable w) where
  -- a type of an imported function
  imported_used : (i : CoreImport) → Contains (all_imports w.main w.adapters) i → (p : PayloadInfo) → payload_in i.role ≡ Some p → p.imported ≡ true → (id : TypeId) (name : List ℕ) → p.ty ≡ payloads.Typed id name → IsPayloadType w.resolve.types id → IsUsedType w id
  imported_used i c p of imported id name typed h =
      let es = (items_of w).imports in
      let is : imported_payload (Some p) ≡ Some (Id id) = ap (λ b. if b then payload_type p.ty else None) imported ∙ ap payload_type typed in
      let used : Contains (used_in w) (Id id) = role_used w i (Id id) c (subst (λ (ts : List Ty). Contains ts (Id id)) (sym (role_payload w.resolve es i.role p of ∙ ap at_most_one is)) (contains_first (Id id) [])) in
      let placed : IsAtRoot w.resolve es (imported_payload (Some p)) =
      payload_placed w.resolve es i.role p of (AllByRecursion-contains (λ (i : CoreImport). IsRolePlaced w.resolve es i.role) (all_imports w.main w.adapters) i ok.roles c) in
      record { live = live_given w.resolve.types ok.sound.back (used_in w) id h.present used; placed = subst (IsAtRoot w.resolve es) is placed }

  -- ---- functions at the root

  part_placed : (n : ℕ) → n < length w.resolve.types → place w.resolve.types (items_of w).imports (Some (Id (record { index = n }))) ≤ length (items_of w).imports → (p : Option Ty) → Contains (parts (kind_at w.resolve.types n)) p →
      place w.resolve.types (items_of w).imports p ≤ length (items_of w).imports
  part_placed n l h p c =
      let es = (items_of w).imports in
      let at : IsTypePlaced w.resolve es n = ok.types n l in
      let no_later = AllByRecursion-contains (λ p. place w.resolve.types es p ≤ place w.resolve.types es (Some (Id (record { index = n })))) (parts (kind_at w.resolve.types n)) p at.parts c in
      omega (arith, no_later, h)

  result_placed : (result : Option Ty) (t : Ty) → place w.resolve.types (items_of w).imports result ≤ length (items_of w).imports → Contains (at_most_one result) t → place w.resolve.types (items_of w).imports (Some t) ≤ length (items_of w).imports
  result_placed None t h c = contains_none t c
  result_placed (Some u) t h c = subst (λ (x : Ty). place w.resolve.types (items_of w).imports (Some x) ≤ length (items_of w).imports) (contains_one u t c) h

  passed_placed : (f : Function) → IsFunctionPlaced w.resolve (items_of w).imports (length (items_of w).imports) f → (t : Ty) → Contains (passed_types f) t → place w.resolve.types (items_of w).imports (Some t) ≤ length (items_of w).imports
  passed_placed f placed t c =
      let es = (items_of w).imports in
      elim (Contains-append_cases (map (λ (p : Param). p.ty) f.params) (at_most_one f.result) t c) [
        | inl param ↦
            let one : IsImage (λ (p : Param). p.ty) f.params t = map_contains (λ (p : Param). p.ty) f.params t param in
            subst (λ (x : Ty). place w.resolve.types es (Some x) ≤ length es) one.same (AllByRecursion-contains (λ (p : Param). place w.resolve.types es (Some p.ty) ≤ length es) f.params one.x placed.params one.there)
        | inr result ↦ result_placed f.result t placed.result result
      ]

  -- a type of which an exported function at the root is made
  function_reaches_used : (f : Function) → IsOfExport w None f → (t : TypeId) → is_live w.resolve.types (passed_types f) t.index ≡ true → IsUsedType w t
  function_reaches_used f e t live =
      let es = (items_of w).imports in
      let one : ReachesType w.resolve.types (passed_types f) t.index = live_from w.resolve.types (passed_types f) t.index live in
      record {
        live = live_more w.resolve.types (passed_types f) (used_in w) t.index
            (λ x c. export_used w (e.key, e.item) x e.there (exported_types w ok f e x (Contains-append_right (at_most_one (resource_of f.kind)) (passed_types f) x c))) live;
        placed = reached_holds w.resolve.types ok.sound.back (λ (p : Option Ty). place w.resolve.types es p ≤ length es) part_placed t.index one.from one.reaches (passed_placed f (exported_placed w ok f e) one.from one.there);
      }

  -- ---- exported functions

  own_type : (key : WorldKey) (interface : Option InterfaceId) (name : List ℕ) (id : TypeId) → IsOwnPayload w key interface name id → IsTypeFor w interface id
  own_type key None name id own =
      function_reaches_used own.function (exported_there w (record { key = key; name = name; exported = own.exported; of = same_item (exported_item w key) ∙ own.of })) id own.reached
  own_type key (Some i) name id own =
      let item : exported_item w key ≡ Some (items.Interface i) = item_of (exported_item w key) i own.of in
      let at : found name (functions_of w.resolve i) ≡ Some own.function = subst (λ (o : Option WorldItem). function_of_item w.resolve name o ≡ Some own.function) item own.exported in
      let there = lookup_contains (bytes_eq name) (functions_of w.resolve i) own.function at in
      let here : IsExportedInterface w i = record { key = key; of = item } in
      function_reaches_home w ok i here (there.0, own.function) there.1 id own.reached

  exported_type : (key : Option WorldKey) (interface : Option InterfaceId) (name : List ℕ) (id : TypeId) → IsExportedPayload w key interface name id → IsTypeFor w interface id
  exported_type None interface name id h = absurd h
  exported_type (Some key) interface name id h = own_type key interface name id h

  -- ---- streams and futures

  module _ (i : CoreImport) (c : Contains (all_imports w.main w.adapters) i) (p : PayloadInfo) (of : payload_in i.role ≡ Some p) where
    scoped : (imported : Bool) → p.imported ≡ imported → (id : TypeId) (name : List ℕ) → p.ty ≡ payloads.Typed id name → IsPayloadType w.resolve.types id → IsPayloadOf w imported p.key p.interface name id → IsTypeFor w (scope_if imported p.interface) id
    scoped true is id name typed h own = imported_used i c p of is id name typed h
    scoped false is id name typed h own = exported_type p.key p.interface name id own

    typed_for : (ty : PayloadType) → p.ty ≡ ty → IsTyped w p ty → IsPayloadFor w (type_scope p ty) ty
    typed_for (payloads.Typed id name) typed h = (h.0, scoped p.imported refl id name typed h.0 h.1)
    typed_for payloads.UnitStream typed h = tt
    typed_for payloads.UnitFuture typed h = tt

    -- the stream or the future of a core import has a type that may be defined
    pub payload_for : IsPayload w p → IsPayloadFor w (payload_scope p) p.ty
    payload_for h = typed_for p.ty refl h
