-- What an import matches that is to be given what another module exports, and what it finds there.
use Rattle.std.proofs.Common.{◌≡◌, ◌∙◌, ℕ, zero, suc, true, ◌&&◌, List, [], ◌∷◌, length, map, refl, sym, ap, ap₂, subst, Option, Some, None, true≢false, Contains}
use Rattle.std.specs.Prelude.{nat_le}
use Rattle.std.proofs.lemmas.Option.{none-some, same_Some, slice_get-map}
use Rattle.std.specs.List.{slice_get, AllZip, AllByRecursion}
use Rattle.std.specs.Option.{option_map, option_and_then, option_or}
use Rattle.comp_lists.specs.Found.{found}
use Rattle.comp_bytes.specs.declared.space.Space.{Space}
use Rattle.comp_bytes.specs.declared.space.Space.TheVariants as spaces
use Rattle.core_types.specs.contracts.types.RefTypePartialEq.TheImpl as same_reference
use Rattle.core_types.specs.declared.types.GlobalType.{GlobalType}
use Rattle.core_types.specs.declared.types.MemoryType.{MemoryType}
use Rattle.core_types.specs.declared.types.TableType.{TableType}
use Rattle.core_types.specs.declared.types.ValType.{ValType}
use Rattle.core_runs.specs.Instances.{no_larger, type_of}
use Rattle.core_runs.specs.Instances.{at_most as no_more_than}
use Rattle.core_runs.specs.Store.{Opaque, Now}
use Rattle.wit_data.specs.declared.worlds.WorldKey.TheVariants as keys
use Rattle.comp_roles.specs.Lookups.{first_memory}
use Rattle.comp_roles.specs.Matching.{kind_of, bounded_by, at_most, limits_match, matches}
use Rattle.comp_roles.specs.declared.exports.Export.{Export as Role}
use Rattle.comp_roles.specs.declared.exports.Export.TheVariants as exports
use Rattle.comp_roles.specs.declared.imports.Import.{Import}
use Rattle.comp_roles.specs.declared.imports.Import.TheVariants as imports
use Rattle.comp_roles.specs.declared.offered.ExternType.{ExternType}
use Rattle.comp_roles.specs.declared.offered.ExternType.TheVariants as externs
use Rattle.comp_worlds.proofs.Matched.{both, matched_function, matched_value, function_itself}
use Rattle.comp_roles.specs.declared.libraries.MainOrAdapter.{MainOrAdapter}
use Rattle.comp_worlds.specs.Offered.{NamedMatches, memory_of_main, shared_memory}
use Rattle.comp_worlds.specs.Typed.{FitsRole, FitsExport}
use Rattle.comp_worlds.specs.WorldContents.{items_of}
use Rattle.comp_worlds.specs.Worlds.{IsWorld, IsImportRole}
use Rattle.comp_worlds.specs.declared.world.ComponentWorld.{ComponentWorld}
use Rattle.comp_worlds.specs.declared.world.ValidatedModule.{ValidatedModule}
use Rattle.comp_worlds.specs.declared.world.WorldAdapter.{WorldAdapter}
use Rattle.comp_links.proofs.Named.{listed_found, named_found, listed_there}
use Rattle.built_ins.specs.BuiltIns.{plain_intrinsic}
use Rattle.built_ins.specs.Payloads.{PayloadCall, named_call}
use Rattle.comp_bytes.specs.declared.canon.Intrinsic.{Intrinsic}
use Rattle.comp_links.specs.Links.{link_of_intrinsic, link_of_payload, link_of, module_of}
use Rattle.comp_links.specs.Modules.{WorldModule, user_modules, module_found}
use Rattle.comp_links.specs.Targets.{UserModule, Main, Adapter, ExportRef, Target, ExportOf, MainMemory}
use Rattle.standard_kinds.specs.declared.kinds.ExportKind.TheVariants as kinds
use Rattle.comp_terms.specs.Planned.{memory_from}
use Rattle.comp_terms.specs.Terms.{CoreExport}
use Rattle.comp_runs.specs.Store.{Export, ModuleInstance, Store}
use Rattle.comp_runs.specs.Machine.{Machine}
use Rattle.comp_runs.specs.Instances.{matching, of_kind, type_space}
use Rattle.link_laws.proofs.Given.{IsFunctionTyped, table_apart, memory_apart, global_apart}
use Rattle.link_laws.proofs.Plain.{same_value_type-refl, same_signature-refl}
use Rattle.link_laws.proofs.Stores.{HasSlots, IsTypeOfMemory, IsItemTyped, IsItemExported, IsGlobalTyped, HasGlobalType, HasGlobals, IsServedIn}
use Rattle.link_laws.proofs.Zips.{found-zip, mapped_some}

-- ---- what is offered matches

abbrev ref_in : ExportRef → Target → ExportRef
ref_in other (ExportOf e) = e
ref_in other target = other

-- a built-in function is no export, nor is a function of the cell
not_export : (role : Import) (o : Option Intrinsic) (e : ExportRef) → link_of_intrinsic role o ≡ ExportOf e → ⊥
not_export (imports.TlsBaseGet type) None e is = cc
not_export (imports.TlsBaseSet type) None e is = cc
not_export role None e is = cc
not_export role (Some i) e is = cc

-- nor is a function of a stream or a future
payload_no_export : (w : ComponentWorld) (role : Import) (o : Option PayloadCall) (e : ExportRef) → link_of_payload w role o ≡ ExportOf e → ⊥
payload_no_export w role (Some c) e is = cc
payload_no_export w role None e is = not_export role (plain_intrinsic w.can_use_context_slot_1 role) e is

module _ (w : ComponentWorld) (ok : IsWorld w) where
  main_found : (m : WorldModule) → Contains (user_modules w) m → m.of ≡ Main → m.found ≡ w.main
  main_found m listed same = same_Some m.found w.main (sym (listed_found w ok m listed) ∙ ap (module_found w) same)

  adapter_found : (m : WorldModule) → Contains (user_modules w) m → (name : List ℕ) → m.of ≡ Adapter name → (a : WorldAdapter) → found name w.adapters ≡ Some a → m.found ≡ a.info
  adapter_found m listed name same a there =
      same_Some m.found a.info (sym (listed_found w ok m listed) ∙ (ap (module_found w) same ∙ ap (option_map (λ (a : WorldAdapter). a.info)) there))

  -- what the module that a library names offers matches what is to be given it
  pub named_matches : (which : MainOrAdapter) (name : List ℕ) (type : ExternType) → NamedMatches w which name type → (m : WorldModule) → Contains (user_modules w) m → m.of ≡ module_of which → (t : ExternType) → found name m.found.offered ≡ Some t → matches type t ≡ true
  named_matches which name type h m listed same t offered =
      let at : m.found ≡ h.of = named_found w ok m listed which same h.of h.named in
      let there : found name h.of.offered ≡ Some t = ap (λ (o : ValidatedModule). found name o.offered) (sym at) ∙ offered in
      ap (matches type) (same_Some t h.matches.type (sym there ∙ h.matches.offered)) ∙ h.matches.matching

  -- what a module offers matches each import that is to be given it
  pub offered_matches : (of : UserModule) (role : Import) (e : ExportRef) → IsImportRole w role → link_of w of role ≡ ExportOf e → (m : WorldModule) → Contains (user_modules w) m → m.of ≡ e.of → (t : ExternType) → found e.name m.found.offered ≡ Some t →
      (type : ExternType) → FitsRole w role type → matches type t ≡ true
  offered_matches of (imports.MainModuleExport name kind) e right is m listed same t offered type fits =
      let ref : record { of = Main; name = name } ≡ e = ap (ref_in e) is in
      let at : m.found ≡ w.main = main_found m listed (same ∙ sym (ap (λ (e : ExportRef). e.of) ref)) in
      let there : found name w.main.offered ≡ Some t = ap₂ (λ n (o : ValidatedModule). found n o.offered) (ap (λ (e : ExportRef). e.name) ref) (sym at) ∙ offered in
      ap (matches type) (same_Some t fits.type (sym there ∙ fits.offered)) ∙ fits.matching
  offered_matches of (imports.AdapterExport adapter name function) e right is m listed same t offered type fits =
      let ref : record { of = Adapter adapter; name = name } ≡ e = ap (ref_in e) is in
      let at : m.found ≡ right.of.info = adapter_found m listed adapter (same ∙ sym (ap (λ (e : ExportRef). e.of) ref)) right.of right.named in
      let there : found name right.of.info.offered ≡ Some t = ap₂ (λ n (o : ValidatedModule). found n o.offered) (ap (λ (e : ExportRef). e.name) ref) (sym at) ∙ offered in
      let is_function : t ≡ externs.Func function = same_Some t (externs.Func function) (sym there ∙ right.offered) in
      ap₂ matches (sym (same_Some (externs.Func function) type fits)) is_function ∙ function_itself function
  offered_matches of (imports.Item item) e right is m listed same t offered type fits =
      let ref : record { of = module_of item.which; name = item.name } ≡ e = ap (ref_in e) is in
      named_matches item.which item.name type fits m listed (same ∙ sym (ap (λ (e : ExportRef). e.of) ref)) t (ap (λ n. found n m.found.offered) (ap (λ (e : ExportRef). e.name) ref) ∙ offered)
  offered_matches of (imports.WorldFunc (keys.Name text) function abi) e right is m listed same t offered type fits = cc
  offered_matches of (imports.InterfaceFunc key id function abi) e right is m listed same t offered type fits = cc
  offered_matches of (imports.ImportedResourceDrop key interface id) e right is m listed same t offered type fits = cc
  offered_matches of (imports.ExportedResourceDrop key id) e right is m listed same t offered type fits = cc
  offered_matches of (imports.ExportedResourceRep key id) e right is m listed same t offered type fits = cc
  offered_matches of (imports.ExportedResourceNew key id) e right is m listed same t offered type fits = cc
  offered_matches of (imports.ExportedTaskReturn key interface f) e right is m listed same t offered type fits = cc
  offered_matches of imports.WaitableSetWait e right is m listed same t offered type fits = cc
  offered_matches of imports.WaitableSetPoll e right is m listed same t offered type fits = cc
  offered_matches of (imports.ErrorContextNew encoding) e right is m listed same t offered type fits = cc
  offered_matches of (imports.ErrorContextDebugMessage encoding) e right is m listed same t offered type fits = cc
  offered_matches of (imports.StreamRead p is_async) e right is m listed same t offered type fits = cc
  offered_matches of (imports.StreamWrite p is_async) e right is m listed same t offered type fits = cc
  offered_matches of (imports.FutureRead p is_async) e right is m listed same t offered type fits = cc
  offered_matches of (imports.FutureWrite p is_async) e right is m listed same t offered type fits = cc
  offered_matches of (imports.MainModuleMemory memory) e right is m listed same t offered type fits = cc
  offered_matches of role e right is m listed same t offered type fits = absurd (payload_no_export w role (named_call role) e is)

-- ---- types of what is given

-- a table has as many slots as an import of this type takes
pub record IsTableTyped (s : Store) (address : ℕ) (required : TableType) : Type 0 where
  pub slots : List (Option ℕ)
  pub present : slice_get s.code.tables address ≡ Some slots
  pub least : nat_le required.minimum (length slots) ≡ true
  pub most : at_most required.maximum (length slots) ≡ true

-- a memory has a type that an import of this type matches
pub record IsMemoryTyped (s : Store) (address : ℕ) (required : MemoryType) : Type 0 where
  pub offered : MemoryType
  pub present : slice_get s.code.memories address ≡ Some offered
  pub matching : matches (externs.Memory required) (externs.Memory offered) ≡ true

-- the item at this address of a space matches an import of this type
abbrev pub HasType : Store → List ValType → Space → ℕ → ExternType → Type 0
HasType s globals spaces.CoreFunc address (externs.Func type) = IsFunctionTyped s address type
HasType s globals spaces.CoreTable address (externs.Table type) = IsTableTyped s address type
HasType s globals spaces.CoreMemory address (externs.Memory type) = IsMemoryTyped s address type
HasType s globals spaces.CoreGlobal address (externs.Global type) = slice_get globals address ≡ Some type.val_type
HasType s globals space address type = ⊥

-- sizes that match, by their parts
record LimitsMatch (least : ℕ) (most : Option ℕ) (minimum : ℕ) (maximum : Option ℕ) : Type 0 where
  above : nat_le least minimum ≡ true
  bounded : bounded_by most maximum ≡ true
  below : at_most most minimum ≡ true

limits_parts : (least : ℕ) (most : Option ℕ) (minimum : ℕ) (maximum : Option ℕ) → limits_match least most minimum maximum ≡ true → LimitsMatch least most minimum maximum
limits_parts least most minimum maximum e =
    let first = both (nat_le least minimum) (bounded_by most maximum && at_most most minimum) e in
    let second = both (bounded_by most maximum) (at_most most minimum) first.1 in
    record { above = first.0; bounded = second.0; below = second.1 }

-- an export of an instance, next to the type that validation found
exports_named : (globals : List ValType) (es : List Export) (os : List (List ℕ × ExternType)) → AllZip (HasGlobalType globals) es os →
    AllZip (λ (x : List ℕ × Export) (z : List ℕ × ExternType). (x.0 ≡ z.0) × IsGlobalTyped globals x.1.address z.1) (map (λ (e : Export). (e.name, e)) es) os
exports_named globals [] [] k = tt
exports_named globals (e ∷ es) (o ∷ os) k = ((k.0.named, k.0.is), exports_named globals es os k.1)
exports_named globals [] (o ∷ os) k = absurd k
exports_named globals (e ∷ es) [] k = absurd k

at_place : (P : ModuleInstance → Type 0) (us : List ModuleInstance) (n : ℕ) (u : ModuleInstance) → AllByRecursion P us → slice_get us n ≡ Some u → P u
at_place P [] n u h e = absurd (none-some u e)
at_place P (x ∷ us) zero u h e = subst P (same_Some x u e) h.0
at_place P (x ∷ us) (suc n) u h e = at_place P us n u h.1 e

module _ (w : ComponentWorld) (ok : IsWorld w) (s : Store) (globals : List ValType) (typed : AllByRecursion (HasGlobals w globals) s.module_instances) where
  -- a global that a user module exports has the type that validation found
  global_there : {space : Space} {address : ℕ} {e : ExportRef} (h : IsItemExported w s space address e) → IsGlobalTyped globals address h.type
  global_there {space} {address} {e} h =
      let u : ModuleInstance = h.instance.instance in
      let of : WorldModule = h.of.world_module in
      let listed : slice_get (user_modules w) u.module_number ≡ Some of = ap (slice_get (user_modules w)) h.instance.of ∙ h.of.listed in
      let all : AllZip (HasGlobalType globals) u.exports of.found.offered = at_place (HasGlobals w globals) s.module_instances h.user u typed h.instance.present of listed in
      let x = found-zip (λ (y : Export) (t : ExternType). IsGlobalTyped globals y.address t) e.name (map (λ (y : Export). (y.name, y)) u.exports) of.found.offered h.type (exports_named globals u.exports of.found.offered all) h.offered in
      let same : x.0 ≡ record { space = space; name = e.name; address = address } = same_Some x.0 (record { space = space; name = e.name; address = address }) (sym x.1 ∙ h.exported) in
      subst (λ (y : Export). IsGlobalTyped globals y.address h.type) same x.2

  -- what matches a table, a memory or a global is one
  table_typed : (address : ℕ) (type : ExternType) (offered : TableType) → HasSlots s.code.tables address offered.minimum → matches type (externs.Table offered) ≡ true → HasType s globals spaces.CoreTable address type
  table_typed address (externs.Table required) offered h e =
      let parts = both (same_reference.eq-value.it required.element_type offered.element_type) (limits_match required.minimum required.maximum offered.minimum offered.maximum) e in
      let limits : LimitsMatch required.minimum required.maximum offered.minimum offered.maximum = limits_parts required.minimum required.maximum offered.minimum offered.maximum parts.1 in
      record { slots = h.slots; present = h.present; least = ap (nat_le required.minimum) h.counted ∙ limits.above; most = ap (at_most required.maximum) h.counted ∙ limits.below }
  table_typed address (externs.Func f) offered h e = absurd (true≢false (sym e))
  table_typed address (externs.Memory m) offered h e = absurd (true≢false (sym e))
  table_typed address (externs.Global g) offered h e = absurd (true≢false (sym e))

  memory_typed : (address : ℕ) (type : ExternType) (offered : MemoryType) → slice_get s.code.memories address ≡ Some offered → matches type (externs.Memory offered) ≡ true → HasType s globals spaces.CoreMemory address type
  memory_typed address (externs.Memory required) offered present e = record { offered = offered; present = present; matching = e }
  memory_typed address (externs.Func f) offered present e = absurd (true≢false (sym e))
  memory_typed address (externs.Table t) offered present e = absurd (true≢false (sym e))
  memory_typed address (externs.Global g) offered present e = absurd (true≢false (sym e))

  global_typed : (address : ℕ) (type : ExternType) (offered : GlobalType) → slice_get globals address ≡ Some offered.val_type → matches type (externs.Global offered) ≡ true → HasType s globals spaces.CoreGlobal address type
  global_typed address (externs.Global required) offered present e = present ∙ ap (λ (t : ValType). Some t) (sym (matched_value required offered e))
  global_typed address (externs.Func f) offered present e = absurd (true≢false (sym e))
  global_typed address (externs.Table t) offered present e = absurd (true≢false (sym e))
  global_typed address (externs.Memory m) offered present e = absurd (true≢false (sym e))

  -- an item that is no function has the type of each import that it matches
  item_has_type : (space : Space) → (space ≡ spaces.CoreFunc → ⊥) → (address : ℕ) (type offered : ExternType) → type_space offered ≡ space → IsItemTyped s address offered → IsGlobalTyped globals address offered → matches type offered ≡ true → HasType s globals space address type
  item_has_type space other address type (externs.Func f) same item global e = absurd (other (sym same))
  item_has_type space other address type (externs.Table t) same item global e = subst (λ sp. HasType s globals sp address type) same (table_typed address type t item e)
  item_has_type space other address type (externs.Memory m) same item global e = subst (λ sp. HasType s globals sp address type) same (memory_typed address type m item e)
  item_has_type space other address type (externs.Global g) same item global e = subst (λ sp. HasType s globals sp address type) same (global_typed address type g global e)

  -- what another module exports has the type of each import that what validation found matches
  abbrev AllMatch : ExportRef → ExternType → Type 0
  AllMatch e type = (m : WorldModule) → Contains (user_modules w) m → m.of ≡ e.of → (t : ExternType) → found e.name m.found.offered ≡ Some t → matches type t ≡ true

  item_export_typed : (space : Space) → (space ≡ spaces.CoreFunc → ⊥) → (address : ℕ) (e : ExportRef) (type : ExternType) → AllMatch e type → IsItemExported w s space address e → HasType s globals space address type
  item_export_typed space other address e type all h =
      item_has_type space other address type h.type h.in_space h.is (global_there h) (all h.of.world_module (listed_there (user_modules w) h.number h.of.world_module h.of.listed) h.of.same h.type h.offered)

  pub export_typed : (space : Space) (address : ℕ) (e : ExportRef) (type : ExternType) → AllMatch e type → IsServedIn w s space address (ExportOf e) → HasType s globals space address type
  export_typed spaces.CoreFunc address e type all h =
      let from : WorldModule = h.of.world_module in
      let is : type ≡ externs.Func h.type = matched_function type h.type (all from (listed_there (user_modules w) h.number from h.of.listed) h.of.same (externs.Func h.type) h.offered) in
      subst (HasType s globals spaces.CoreFunc address) (sym is) (record { function = Opaque h.is.what h.type; present = h.is.present; typed = refl })
  export_typed spaces.CoreTable address e type all h = item_export_typed spaces.CoreTable table_apart address e type all h
  export_typed spaces.CoreMemory address e type all h = item_export_typed spaces.CoreMemory memory_apart address e type all h
  export_typed spaces.CoreGlobal address e type all h = item_export_typed spaces.CoreGlobal global_apart address e type all h
  export_typed space address e type all h = absurd h

  abbrev memory_in : MemoryType → ExternType → MemoryType
  memory_in other (externs.Memory type) = type
  memory_in other type = other

  -- the memory that main exports first has the type of its role
  memory_offered : (es : List (List ℕ × Role)) (name : List ℕ) (type : MemoryType) → AllByRecursion (FitsExport w.resolve (items_of w) w.main) es → first_memory es ≡ Some (name, type) → found name w.main.offered ≡ Some (externs.Memory type)
  memory_offered [] name type fits e = absurd (none-some (name, type) e)
  memory_offered ((field, exports.Memory other) ∷ es) name type fits e =
      let same : (field, other) ≡ (name, type) = same_Some (field, other) (name, type) e in
      let here : found field w.main.offered ≡ Some (externs.Memory other) = fits.0.offered ∙ sym fits.0.fits in
      subst (λ (p : List ℕ × MemoryType). found p.0 w.main.offered ≡ Some (externs.Memory p.1)) same here
  memory_offered ((field, role) ∷ es) name type fits e = memory_offered es name type fits.1 e

  pub main_memory_typed : (space : Space) (address : ℕ) (required : MemoryType) → IsImportRole w (imports.MainModuleMemory required) → IsServedIn w s space address MainMemory → HasType s globals space address (externs.Memory required)
  main_memory_typed spaces.CoreMemory address required right h =
      record { offered = h.held; present = h.present; matching = right.matching h.held (held_is (shared_memory w) refl (first_memory w.main.exports.exports) refl h.named h.offered) }
    where
      held_is : (imported : Option MemoryType) → shared_memory w ≡ imported → (exported : Option (List ℕ × MemoryType)) → first_memory w.main.exports.exports ≡ exported → memory_from w imported exported ≡ Some h.export → IsTypeOfMemory w imported h.export h.held →
          memory_of_main w.main ≡ Some h.held
      held_is (Some type) imported exported first named offered =
          ap (λ o. option_or o (option_map (λ e. e.1) (first_memory w.main.exports.exports))) imported ∙ ap (λ (t : MemoryType). Some t) (sym offered)
      held_is None imported (Some (name, type)) first named offered =
          let own : CoreExport = record { of = 0; kind = kinds.Memory; name = name } in
          let found_there : found name w.main.offered ≡ Some (externs.Memory type) = memory_offered w.main.exports.exports name type ok.main.exported first in
          let held : found name w.main.offered ≡ Some (externs.Memory h.held) = ap (λ (e : CoreExport). found e.name w.main.offered) (same_Some own h.export named) ∙ offered in
          let same : type ≡ h.held = ap (memory_in h.held) (same_Some (externs.Memory type) (externs.Memory h.held) (sym found_there ∙ held)) in
          ap (λ o. option_or o (option_map (λ e. e.1) (first_memory w.main.exports.exports))) imported ∙ (ap (option_map (λ e. e.1)) first ∙ ap (λ (t : MemoryType). Some t) same)
      held_is None imported None first named offered = absurd (none-some h.export named)
  main_memory_typed spaces.CoreFunc address required right h = absurd h
  main_memory_typed space address required right h = absurd h

-- ---- what an import finds

bounded_same : (a b : Option ℕ) → no_larger a b ≡ bounded_by a b
bounded_same None b = refl
bounded_same (Some m) None = refl
bounded_same (Some m) (Some n) = refl

most_same : (most : Option ℕ) (n : ℕ) → no_more_than most n ≡ at_most most n
most_same None n = refl
most_same (Some m) n = refl

-- the globals of a run have these types
abbrev pub AreTypesOf : List ValType → Now → Type 0
AreTypesOf globals now = map type_of now.globals ≡ globals

-- what a machine has of a type is found for an import of that type
pub finds_given : (m : Machine) (globals : List ValType) → AreTypesOf globals m.now → (e : Export) (type : ExternType) → HasType m.store globals e.space e.address type →
    option_and_then (matching m type) (of_kind (kind_of type) e) ≡ Some (record { space = e.space; address = e.address })
finds_given m globals types e type h = by e.space refl type h
  where
    by : (space : Space) → e.space ≡ space → (type : ExternType) → HasType m.store globals space e.address type → option_and_then (matching m type) (of_kind (kind_of type) e) ≡ Some (record { space = e.space; address = e.address })
    by spaces.CoreFunc same (externs.Func type) h = rw (same, h.present, h.typed, same_signature-refl type) refl
    by spaces.CoreTable same (externs.Table type) h = rw (same, h.present, h.least, most_same type.maximum (length h.slots), h.most) refl
    by spaces.CoreMemory same (externs.Memory type) h =
        let limits : LimitsMatch type.minimum type.maximum h.offered.minimum h.offered.maximum = limits_parts type.minimum type.maximum h.offered.minimum h.offered.maximum h.matching in
        rw (same, h.present, limits.above, bounded_same type.maximum h.offered.maximum, limits.bounded) refl
    by spaces.CoreGlobal same (externs.Global type) h =
        let there : option_map type_of (slice_get m.now.globals e.address) ≡ Some type.val_type = sym (slice_get-map type_of m.now.globals e.address) ∙ (ap (λ l. slice_get l e.address) types ∙ h) in
        let cell = mapped_some type_of (slice_get m.now.globals e.address) type.val_type there in
        rw (same, cell.1, cell.2, same_value_type-refl type.val_type) refl
    by space same type h = absurd h
