-- What the tests of a world's order say of it.
use Rattle.std.proofs.Common.{arith, ◌≡◌, ◌<◌, ◌≤◌, ◌==◌, nat_le, ℕ, zero, suc, Bool, true, false, ◌&&◌, List, [], ◌∷◌, length, map, get_or, Option, Some, None, is_none, is_some, if◌then◌else◌, refl, sym, ap, subst, true≢false}
use Rattle.std.specs.Prelude.{IsSome, codes, slice_get}
use Rattle.std.specs.List.{AllByRecursion, list_all}
use Rattle.std.specs.Option.{option_and_then, option_map_or}
use Rattle.std.specs.Str.{bytes_eq}
use Rattle.std.proofs.lemmas.Bool.{leb-true, leb-false, eqb-true}
use Rattle.std.proofs.lemmas.Slice.Eq.{bytes_eq-Decides}
use Rattle.comp_lists.specs.Found.{found}
use Rattle.wit_data.specs.declared.functions.Function.{Function}
use Rattle.wit_data.specs.declared.ids.InterfaceId.{InterfaceId}
use Rattle.wit_data.specs.declared.ids.TypeId.{TypeId}
use Rattle.wit_data.specs.declared.resolve.Resolve.{Resolve}
use Rattle.wit_data.specs.declared.types.Type.{«Type» as Ty}
use Rattle.wit_data.specs.declared.types.Type.TheVariants.{Primitive, Id}
use Rattle.wit_data.specs.declared.types.TypeDef.{TypeDef}
use Rattle.wit_data.specs.declared.types.TypeDefKind.{TypeDefKind}
use Rattle.wit_data.specs.declared.types.TypeDefKind.TheVariants as kinds
use Rattle.wit_data.specs.declared.worlds.World.{World}
use Rattle.wit_data.specs.declared.worlds.WorldItem.{WorldItem}
use Rattle.wit_data.specs.declared.worlds.WorldItem.TheVariants as items
use Rattle.wit_data.specs.declared.worlds.WorldKey.{WorldKey}
use Rattle.wit_data.specs.Live.{named_types}
use Rattle.wit_data.specs.Parts.{parts}
use Rattle.wit_data.specs.Values.{kind_at}
use Rattle.built_ins.specs.BuiltIns.{plain_intrinsic}
use Rattle.built_ins.specs.Payloads.{called_payload}
use Rattle.comp_roles.specs.CoreImports.{CoreImport}
use Rattle.comp_roles.specs.declared.imports.Import.{Import}
use Rattle.comp_roles.specs.declared.imports.Import.TheVariants as imports
use Rattle.comp_roles.specs.declared.payloads.PayloadInfo.{PayloadInfo}
use Rattle.comp_roles.specs.declared.payloads.PayloadType.{PayloadType}
use Rattle.comp_roles.specs.declared.payloads.PayloadType.TheVariants as payloads
use Rattle.world_values.specs.Items.{functions_of}
use Rattle.world_values.specs.Mentions.{interface_types, payload_in, payload_type, imported_payload}
use Rattle.comp_worlds.proofs.PayloadRoles.{called_in, plain_in}
use Rattle.comp_worlds.specs.Encodable.{Entries, place_in, place, IsListedType, IsTypePlaced, IsFunctionPlaced, IsOwnType, IsInterfacePlaced, IsItemPlaced, IsExportPlaced, IsAtRoot, IsRolePlaced, is_lent, stays_in}
use Rattle.comp_worlds.specs.WorldContents.{interface_of_owner, interface_at, name_at}
use Rattle.supported_worlds.specs.Kinds.{import_kind}
use Rattle.supported_worlds.specs.LeftOut.{unless, built_in_left_out, import_left_out}
use Rattle.supported_worlds.specs.Placed.{places_of, place_at, is_by, is_named_as, is_listed_as, is_listed_in, is_type_placed, are_types_placed, is_function_placed, is_owned, is_own_type, ascend_from, lists_own_types, is_interface_placed, is_item_placed, are_imports_placed, is_export_placed, are_exports_placed, is_world_placed, is_resource, is_droppable, is_payload_at, is_payload_type, is_payload_placed}
use Rattle.supported_worlds.proofs.InPlace.{both, ascending}
use Rattle.supported_worlds.proofs.Lists.{nothing}

-- ---- tests of lists

pub passes : (b : Bool) (what : List ℕ) → unless b what ≡ None → b ≡ true
passes true what h = refl
passes false what h = nothing what h

all_pass : {X : Type 0} {P : X → Type 0} (test : X → Bool) → ((x : X) → test x ≡ true → P x) → (xs : List X) → list_all test xs ≡ true → AllByRecursion P xs
all_pass test f [] h = tt
all_pass test f (x ∷ xs) h = let b = both (test x) (list_all test xs) h in (f x b.0, all_pass test f xs b.1)

-- ---- types

module _ (r : Resolve) (es : Entries) where
  here : (part : Option Ty) → place_at (places_of r.types es) part ≡ place r.types es part
  here None = refl
  here (Some (Primitive p)) = refl
  here (Some (Id id)) = refl

  part_by : (last : ℕ) (part : Option Ty) → is_by (places_of r.types es) last part ≡ true → place r.types es part ≤ last
  part_by last part h = subst (λ (k : ℕ). k ≤ last) (here part) (leb-true (place_at (places_of r.types es) part) last h)

  named_at : (kind : TypeDefKind) (name : Option (List ℕ)) → is_named_as kind name ≡ true → kind ≡ kinds.Resource → IsSome name
  named_at kind name h is = subst (λ (k : TypeDefKind). is_named_as k name ≡ true) is h

  same_type : (n : ℕ) (o : Option TypeId) → option_map_or (λ t. t.index == n) o false ≡ true → o ≡ Some (record { index = n })
  same_type n None h = absurd (true≢false (sym h))
  same_type n (Some t) h = ap (λ (k : ℕ). Some (numbered k)) (eqb-true t.index n h)
    where
      numbered : ℕ → TypeId
      numbered k = record { index = k }

  listed_as : (id : InterfaceId) (n : ℕ) (o : Option (List ℕ)) → name_at r.types n ≡ o → option_map_or (is_listed_as (named_types r id) n) o false ≡ true → IsListedType r id n
  listed_as id n None is h = absurd (true≢false (sym h))
  listed_as id n (Some name) is h = record { name = name; named = is; listed = same_type n (found name (named_types r id)) h }

  type_placed : (n : ℕ) → is_type_placed r (places_of r.types es) n ≡ true → IsTypePlaced r es n
  type_placed n h =
      let places = places_of r.types es in
      let b = both (list_all (is_by places (get_or places n 0)) (parts (kind_at r.types n))) (is_named_as (kind_at r.types n) (name_at r.types n) && is_listed_in r n (interface_at r.types n)) h in
      let c = both (is_named_as (kind_at r.types n) (name_at r.types n)) (is_listed_in r n (interface_at r.types n)) b.1 in
      record {
        parts = all_pass (is_by places (get_or places n 0)) (part_by (get_or places n 0)) (parts (kind_at r.types n)) b.0;
        named = named_at (kind_at r.types n) (name_at r.types n) c.0;
        listed = λ id is. listed_as id n (name_at r.types n) refl (subst (λ (o : Option InterfaceId). is_listed_in r n o ≡ true) is c.1);
      }

  one_of_first : (m n : ℕ) → are_types_placed r (places_of r.types es) m ≡ true → n < m → is_type_placed r (places_of r.types es) n ≡ true
  one_of_first zero n h l = absurd (omega (arith, l))
  one_of_first (suc m) n h l = by (nat_le m n) refl (one_of_first m n)
    where
      halves : (are_types_placed r (places_of r.types es) m ≡ true) × (is_type_placed r (places_of r.types es) m ≡ true)
      halves = both (are_types_placed r (places_of r.types es) m) (is_type_placed r (places_of r.types es) m) h

      by : (b : Bool) → nat_le m n ≡ b → (are_types_placed r (places_of r.types es) m ≡ true → n < m → is_type_placed r (places_of r.types es) n ≡ true) → is_type_placed r (places_of r.types es) n ≡ true
      by true last more =
          let same : m ≡ n = let below = leb-true m n last in omega (arith, l, below) in
          subst (λ (k : ℕ). is_type_placed r (places_of r.types es) k ≡ true) same halves.1
      by false other more = more halves.0 (leb-false m n other)

  -- ---- items

  function_placed : (last : ℕ) (f : Function) → is_function_placed (places_of r.types es) last f ≡ true → IsFunctionPlaced r es last f
  function_placed last f h =
      let b = both (list_all (λ p. is_by (places_of r.types es) last (Some p.ty)) f.params) (is_by (places_of r.types es) last f.result) h in
      record {
        params = all_pass (λ p. is_by (places_of r.types es) last (Some p.ty)) (λ p passed. part_by last (Some p.ty) passed) f.params b.0;
        result = part_by last f.result b.1;
      }

  same_owner : (id : InterfaceId) (o : Option InterfaceId) → option_map_or (λ other. other.index == id.index) o false ≡ true → o ≡ Some id
  same_owner id None h = absurd (true≢false (sym h))
  same_owner id (Some other) h = ap (λ (k : ℕ). Some (numbered k)) (eqb-true other.index id.index h)
    where
      numbered : ℕ → InterfaceId
      numbered k = record { index = k }

  same_name : (name : List ℕ) (o : Option (List ℕ)) → option_map_or (λ own. bytes_eq own name) o false ≡ true → o ≡ Some name
  same_name name None h = absurd (true≢false (sym h))
  same_name name (Some own) h = ap Some ((bytes_eq-Decides own name).0 h)

  owned : (id : InterfaceId) (name : List ℕ) (o : Option TypeDef) → option_map_or (is_owned id name) o false ≡ true → (option_and_then (λ t. interface_of_owner t.owner) o ≡ Some id) × (option_and_then (λ t. t.name) o ≡ Some name)
  owned id name None h = absurd (true≢false (sym h))
  owned id name (Some t) h =
      let b = both (option_map_or (λ other. other.index == id.index) (interface_of_owner t.owner) false) (option_map_or (λ own. bytes_eq own name) t.name false) h in
      (same_owner id (interface_of_owner t.owner) b.0, same_name name t.name b.1)

  own_type : (id : InterfaceId) (entry : List ℕ × TypeId) → is_own_type r.types id entry ≡ true → IsOwnType r.types id entry
  own_type id entry h = let o = owned id entry.0 (slice_get r.types entry.1.index) h in record { own = o.0; named = o.1 }

  interface_placed : (id : InterfaceId) → is_interface_placed r (places_of r.types es) (place_in es id) id ≡ true → IsInterfacePlaced r es id
  interface_placed id h =
      let last = place_in es id in
      let b = both (lists_own_types r id) (list_all (λ f. is_function_placed (places_of r.types es) last f.1) (functions_of r id)) h in
      let c = both (list_all (is_own_type r.types id) (named_types r id)) (ascend_from 0 (map (λ t. t.1.index) (named_types r id))) b.0 in
      record {
        own = all_pass (is_own_type r.types id) (own_type id) (named_types r id) c.0;
        ordered = ascending 0 (map (λ t. t.1.index) (named_types r id)) c.1;
        functions = all_pass (λ f. is_function_placed (places_of r.types es) last f.1) (λ f passed. function_placed last f.1 passed) (functions_of r id) b.1;
      }

  item_placed : (item : WorldItem) → is_item_placed r (places_of r.types es) (place_in es) (length es) item ≡ true → IsItemPlaced r es item
  item_placed (items.Interface id) h = interface_placed id h
  item_placed (items.Function f) h = function_placed (length es) f h
  item_placed (items.NamedType id) h =
      let b = both (is_none (interface_at r.types id.index)) (is_some (name_at r.types id.index)) h in
      record { own = absent (interface_at r.types id.index) b.0; named = there (name_at r.types id.index) b.1 }
    where
      absent : {X : Type 0} (o : Option X) → is_none o ≡ true → o ≡ None
      absent None e = refl
      absent (Some x) e = absurd (true≢false (sym e))

      there : {X : Type 0} (o : Option X) → is_some o ≡ true → IsSome o
      there None e = absurd (true≢false (sym e))
      there (Some x) e = refl

  items_placed : (all : Entries) → list_all (λ e. is_item_placed r (places_of r.types es) (place_in es) (length es) e.1) all ≡ true → AllByRecursion (λ e. IsItemPlaced r es e.1) all
  items_placed all h = all_pass (λ e. is_item_placed r (places_of r.types es) (place_in es) (length es) e.1) (λ e passed. item_placed e.1 passed) all h

  -- ---- exports

  export_placed : (w : World) → w.imports ≡ es → (item : WorldItem) → is_export_placed r (places_of r.types es) (place_in es) (length es) (stays_in r.types (is_lent w)) item ≡ true → IsExportPlaced r w item
  export_placed w same (items.Interface id) h =
      let b = both (lists_own_types r id) (list_all (λ t. stays_in r.types (is_lent w) id (Some t)) (interface_types r id)) h in
      let c = both (list_all (is_own_type r.types id) (named_types r id)) (ascend_from 0 (map (λ t. t.1.index) (named_types r id))) b.0 in
      record {
        own = all_pass (is_own_type r.types id) (own_type id) (named_types r id) c.0;
        ordered = ascending 0 (map (λ t. t.1.index) (named_types r id)) c.1;
        closed = all_pass (λ t. stays_in r.types (is_lent w) id (Some t)) (λ t passed. passed) (interface_types r id) b.1;
      }
  export_placed w same (items.Function f) h = subst (λ (imports : Entries). IsItemPlaced r imports (items.Function f)) (sym same) (item_placed (items.Function f) h)
  export_placed w same (items.NamedType id) h = item_placed (items.NamedType id) h

  -- ---- roles

  -- the type of a stream or a future of an imported function
  payload_at_root : (imported : Bool) (ty : PayloadType) → is_payload_type r.types (places_of r.types es) (length es) imported ty ≡ true → IsAtRoot r es (if imported then payload_type ty else None)
  payload_at_root true (payloads.Typed id name) h = leb-true (get_or (places_of r.types es) id.index 0) (length es) (both (is_payload_at r.types id) (nat_le (get_or (places_of r.types es) id.index 0) (length es)) h).1
  payload_at_root true payloads.UnitStream h = tt
  payload_at_root true payloads.UnitFuture h = tt
  payload_at_root false ty h = tt

  built_in_placed : (role : Import) (o : Option PayloadInfo) → called_payload role ≡ o → built_in_left_out r.types (places_of r.types es) (length es) role o ≡ None → IsAtRoot r es (imported_payload (payload_in role))
  built_in_placed role (Some p) is h =
      subst (λ (o : Option PayloadInfo). IsAtRoot r es (imported_payload o)) (sym (called_in role p is))
      (payload_at_root p.imported p.ty (passes (is_payload_placed r.types (places_of r.types es) (length es) p) (import_kind role) h))
  built_in_placed role None is h = subst (λ (o : Option PayloadInfo). IsAtRoot r es (imported_payload o)) (sym (plain_in role (passes (is_some (plain_intrinsic true role)) (import_kind role) h))) tt

  role_placed : (role : Import) → import_left_out r.types (places_of r.types es) (length es) role ≡ None → IsRolePlaced r es role
  role_placed (imports.ImportedResourceDrop key interface id) h =
      let b = both (option_map_or is_resource (slice_get r.types id.index) false) (nat_le (get_or (places_of r.types es) id.index 0) (length es))
      (passes (is_droppable r.types (places_of r.types es) (length es) id) (codes "imported-drop") h) in
      leb-true (get_or (places_of r.types es) id.index 0) (length es) b.1
  role_placed (imports.WorldFunc key name abi) h = tt
  role_placed (imports.InterfaceFunc key id name abi) h = tt
  role_placed (imports.ExportedResourceDrop key id) h = tt
  role_placed (imports.ExportedResourceRep key id) h = tt
  role_placed (imports.ExportedResourceNew key id) h = tt
  role_placed (imports.ExportedTaskReturn key interface f) h = tt
  role_placed imports.WaitableSetWait h = tt
  role_placed imports.WaitableSetPoll h = tt
  role_placed (imports.ErrorContextNew encoding) h = tt
  role_placed (imports.ErrorContextDebugMessage encoding) h = tt
  role_placed (imports.MainModuleMemory type) h = tt
  role_placed (imports.MainModuleExport name kind) h = tt
  role_placed (imports.AdapterExport adapter name type) h = tt
  role_placed (imports.Item item) h = tt
  role_placed role h = built_in_placed role (called_payload role) refl h

  pub roles_placed : (all : List CoreImport) → AllByRecursion (λ i. import_left_out r.types (places_of r.types es) (length es) i.role ≡ None) all → AllByRecursion (λ i. IsRolePlaced r es i.role) all
  roles_placed [] h = tt
  roles_placed (i ∷ all) h = (role_placed i.role h.0, roles_placed all h.1)

-- ---- the world

pub record IsOrdered (r : Resolve) (w : World) : Type 0 where
  pub types : (n : ℕ) → n < length r.types → IsTypePlaced r w.imports n
  pub imports : AllByRecursion (λ e. IsItemPlaced r w.imports e.1) w.imports
  pub exports : AllByRecursion (λ e. IsExportPlaced r w e.1) w.exports

pub ordered : (r : Resolve) (w : World) → is_world_placed r w ≡ true → IsOrdered r w
ordered r w h =
    let places = places_of r.types w.imports in
    let root = length w.imports in
    let placed = λ (e : WorldKey × WorldItem). is_item_placed r places (place_in w.imports) root e.1 in
    let exported = λ (e : WorldKey × WorldItem). is_export_placed r places (place_in w.imports) root (stays_in r.types (is_lent w)) e.1 in
    let b = both (are_imports_placed r places (place_in w.imports) root w) (are_exports_placed r places (place_in w.imports) root (stays_in r.types (is_lent w)) w) h in
    let c = both (are_types_placed r places (length r.types)) (list_all placed w.imports) b.0 in
    record {
      types = λ n l. type_placed r w.imports n (one_of_first r w.imports (length r.types) n c.0 l);
      imports = items_placed r w.imports w.imports c.1;
      exports = all_pass exported (λ e passed. export_placed r w.imports w refl e.1 passed) w.exports b.1;
    }
