-- What an instance of a user module adds to a machine: its exports, each at an address of its own.
use Rattle.std.proofs.Common.{◌≡◌, ◌∙◌, ◌≤◌, ◌+◌, arith, append-nil, append_assoc, length-append, Option, ℕ, List, [], ◌∷◌, ◌++◌, length, map, refl, sym, ap, ap₂, subst, Some, None}
use Rattle.std.proofs.lemmas.List.{map-append, length-map, length-replicate}
use Rattle.std.specs.List.{slice_get, AllZip, AllByRecursion}
use Rattle.comp_bytes.specs.declared.space.Space.TheVariants as spaces
use Rattle.core_types.specs.declared.types.ValType.{ValType}
use Rattle.comp_lists.proofs.Lists.{slice_get-end}
use Rattle.core_runs.specs.Store.{Opaque, Foreign}
use Rattle.core_runs.specs.Instances.{empty_table, type_of}
use Rattle.comp_roles.specs.declared.offered.ExternType.{ExternType}
use Rattle.comp_roles.specs.declared.offered.ExternType.TheVariants as externs
use Rattle.comp_runs.specs.Store.{Export, CoreItem, ExportedBy, Store}
use Rattle.comp_runs.specs.Machine.{Machine, with_opaque}
use Rattle.comp_runs.specs.Instances.{ExportTypes, type_space, next_address, with_export, exported_by, with_exports}
use Rattle.instance_laws.proofs.Held.{KeepsEntries, keeps_same, keeps_more, keeps_then, keeps_grown}
use Rattle.link_laws.proofs.BaseHeld.{IsForeign, HasMore}
use Rattle.link_laws.proofs.Zips.{AllByRecursion-join}
use Rattle.link_laws.proofs.Stores.{IsUserItem, IsUserExport, IsGlobalTyped, HasGlobalType}

-- a machine without its core code, its known items and its globals
abbrev pub beside_code : Machine → Machine
beside_code m = record m { store = record m.store { code = record { functions = []; tables = []; memories = [] }; known = [] }; now = record m.now { globals = [] } }

-- the second machine has all that the first has, with more core functions, tables, memories and known items at the end
pub record Exports (m n : Machine) : Type 0 where
  pub same : beside_code n ≡ beside_code m
  pub code : KeepsEntries m.store.code.functions n.store.code.functions
  pub tables : KeepsEntries m.store.code.tables n.store.code.tables
  pub memories : KeepsEntries m.store.code.memories n.store.code.memories
  pub known : KeepsEntries m.store.known n.store.known

one_export : (item : CoreItem) (type : ExternType) (m : Machine) → Exports m (with_export item type m)
one_export item (externs.Func type) m = record {
  same = refl;
  code = keeps_more m.store.code.functions (Opaque (length m.store.known) type ∷ []);
  tables = keeps_same refl;
  memories = keeps_same refl;
  known = keeps_more m.store.known (item ∷ []);
}
one_export item (externs.Table type) m = record { same = refl; code = keeps_same refl; tables = keeps_more m.store.code.tables (empty_table type.minimum ∷ []); memories = keeps_same refl; known = keeps_same refl }
one_export item (externs.Memory type) m = record { same = refl; code = keeps_same refl; tables = keeps_same refl; memories = keeps_more m.store.code.memories (type ∷ []); known = keeps_same refl }
one_export item (externs.Global type) m = record { same = refl; code = keeps_same refl; tables = keeps_same refl; memories = keeps_same refl; known = keeps_more m.store.known (item ∷ []) }

-- ---- what is added doesn't depend on what a run changes, but for the types of the globals

pub record Alike (m n : Machine) : Type 0 where
  pub store : m.store ≡ n.store
  pub globals : map type_of m.now.globals ≡ map type_of n.now.globals

one_alike : (item : CoreItem) (type : ExternType) (m n : Machine) → Alike m n → Alike (with_export item type m) (with_export item type n)
one_alike item (externs.Func type) m n a = record { store = ap (with_opaque item type) a.store; globals = a.globals }
one_alike item (externs.Table type) m n a = record {
  store = ap (λ (s : Store). record s { code = record s.code { tables = s.code.tables ++ empty_table type.minimum ∷ [] } }) a.store;
  globals = a.globals;
}
one_alike item (externs.Memory type) m n a = record { store = ap (λ (s : Store). record s { code = record s.code { memories = s.code.memories ++ type ∷ [] } }) a.store; globals = a.globals }
one_alike item (externs.Global type) m n a = record {
  store = ap (λ (s : Store). record s { known = s.known ++ item ∷ [] }) a.store;
  globals = map-append type_of m.now.globals (Foreign (length m.store.known) type.val_type ∷ []) ∙ (ap (λ ts. ts ++ type.val_type ∷ []) a.globals ∙ sym (map-append type_of n.now.globals (Foreign (length n.store.known) type.val_type ∷ [])));
}

one_address : (type : ExternType) (m n : Machine) → Alike m n → next_address type m ≡ next_address type n
one_address (externs.Func type) m n a = ap (λ (s : Store). length s.code.functions) a.store
one_address (externs.Table type) m n a = ap (λ (s : Store). length s.code.tables) a.store
one_address (externs.Memory type) m n a = ap (λ (s : Store). length s.code.memories) a.store
one_address (externs.Global type) m n a = sym (length-map m.now.globals type_of) ∙ (ap (λ (ts : List ValType). length ts) a.globals ∙ length-map n.now.globals type_of)

-- an empty table whose address isn't below this one
pub record IsFreshTable (from : ℕ) (tables : List (List (Option ℕ))) (address : ℕ) : Type 0 where
  pub size : ℕ
  pub empty : slice_get tables address ≡ Some (empty_table size)
  pub new : from ≤ address

abbrev pub IsFreshIfTable : ℕ → List (List (Option ℕ)) → Export → Type 0
IsFreshIfTable from tables e = e.space ≡ spaces.CoreTable → IsFreshTable from tables e.address

no_table_func : spaces.CoreFunc ≡ spaces.CoreTable → ⊥
no_table_func e = cc

no_table_memory : spaces.CoreMemory ≡ spaces.CoreTable → ⊥
no_table_memory e = cc

no_table_global : spaces.CoreGlobal ≡ spaces.CoreTable → ⊥
no_table_global e = cc

module _ (user : ℕ) where
  pub all_exports : (es : ExportTypes) (m : Machine) → Exports m (with_exports user es m)
  all_exports [] m = record { same = refl; code = keeps_same refl; tables = keeps_same refl; memories = keeps_same refl; known = keeps_same refl }
  all_exports ((name, type) ∷ es) m =
      let first : Exports m (with_export (ExportedBy user name) type m) = one_export (ExportedBy user name) type m in
      let rest : Exports (with_export (ExportedBy user name) type m) (with_exports user es (with_export (ExportedBy user name) type m)) = all_exports es (with_export (ExportedBy user name) type m) in
      record { same = rest.same ∙ first.same; code = keeps_then first.code rest.code; tables = keeps_then first.tables rest.tables; memories = keeps_then first.memories rest.memories; known = keeps_then first.known rest.known }

  pub all_alike : (es : ExportTypes) (m n : Machine) → Alike m n → Alike (with_exports user es m) (with_exports user es n)
  all_alike [] m n a = a
  all_alike ((name, type) ∷ es) m n a = all_alike es (with_export (ExportedBy user name) type m) (with_export (ExportedBy user name) type n) (one_alike (ExportedBy user name) type m n a)

  pub same_exports : (es : ExportTypes) (m n : Machine) → Alike m n → exported_by user es m ≡ exported_by user es n
  same_exports [] m n a = refl
  same_exports ((name, type) ∷ es) m n a =
      ap₂ (λ address rest. record { space = type_space type; name = name; address = address } ∷ rest) (one_address type m n a)
      (same_exports es (with_export (ExportedBy user name) type m) (with_export (ExportedBy user name) type n) (one_alike (ExportedBy user name) type m n a))

  -- ---- the globals that are added

  one_foreign : (item : CoreItem) (type : ExternType) (m : Machine) → HasMore m.now.globals (with_export item type m).now.globals
  one_foreign item (externs.Func type) m = record { more = []; grew = sym (append-nil m.now.globals); foreign = tt }
  one_foreign item (externs.Table type) m = record { more = []; grew = sym (append-nil m.now.globals); foreign = tt }
  one_foreign item (externs.Memory type) m = record { more = []; grew = sym (append-nil m.now.globals); foreign = tt }
  one_foreign item (externs.Global type) m = record { more = Foreign (length m.store.known) type.val_type ∷ []; grew = refl; foreign = (tt, tt) }

  -- they are the user module's
  pub all_foreign : (es : ExportTypes) (m : Machine) → HasMore m.now.globals (with_exports user es m).now.globals
  all_foreign [] m = record { more = []; grew = sym (append-nil m.now.globals); foreign = tt }
  all_foreign ((name, type) ∷ es) m =
      let next : Machine = with_export (ExportedBy user name) type m in
      let first : HasMore m.now.globals next.now.globals = one_foreign (ExportedBy user name) type m in
      let rest : HasMore next.now.globals (with_exports user es next).now.globals = all_foreign es next in
      record {
        more = first.more ++ rest.more;
        grew = rest.grew ∙ (ap (λ l. l ++ rest.more) first.grew ∙ append_assoc m.now.globals first.more rest.more);
        foreign = AllByRecursion-join IsForeign first.more rest.more first.foreign rest.foreign;
      }

  -- ---- each export is there

  item_added : (name : List ℕ) (type : ExternType) (m : Machine) → IsUserItem (with_export (ExportedBy user name) type m).store user (record { space = type_space type; name = name; address = next_address type m }) type
  item_added name (externs.Func type) m = record {
    what = length m.store.known;
    present = slice_get-end m.store.code.functions (Opaque (length m.store.known) type);
    known = slice_get-end m.store.known (ExportedBy user name);
  }
  item_added name (externs.Table type) m = record { slots = empty_table type.minimum; present = slice_get-end m.store.code.tables (empty_table type.minimum); counted = length-replicate type.minimum None }
  item_added name (externs.Memory type) m = slice_get-end m.store.code.memories type
  item_added name (externs.Global type) m = tt

  item_unchanged : (m n : Machine) → Exports m n → (e : Export) (type : ExternType) → IsUserItem m.store user e type → IsUserItem n.store user e type
  item_unchanged m n u e (externs.Func type) h = record { what = h.what; present = u.code.at e.address (Opaque h.what type) h.present; known = u.known.at h.what (ExportedBy user e.name) h.known }
  item_unchanged m n u e (externs.Table type) h = record { slots = h.slots; present = u.tables.at e.address h.slots h.present; counted = h.counted }
  item_unchanged m n u e (externs.Memory type) h = u.memories.at e.address type h
  item_unchanged m n u e (externs.Global type) h = tt

  pub each_export : (es : ExportTypes) (m : Machine) → AllZip (IsUserExport (with_exports user es m).store user) (exported_by user es m) es
  each_export [] m = tt
  each_export ((name, type) ∷ es) m =
      let next : Machine = with_export (ExportedBy user name) type m in
      let e : Export = record { space = type_space type; name = name; address = next_address type m } in (
        record { named = refl; space = refl; is = item_unchanged next (with_exports user es next) (all_exports es next) e type (item_added name type m) },
        each_export es next,
      )

  -- ---- the tables of the exports

  -- each is new and empty
  pub each_table : (from : ℕ) (es : ExportTypes) (m : Machine) → from ≤ length m.store.code.tables → AllByRecursion (IsFreshIfTable from (with_exports user es m).store.code.tables) (exported_by user es m)
  each_table from [] m l = tt
  each_table from ((name, externs.Table type) ∷ es) m l =
      let next : Machine = with_export (ExportedBy user name) (externs.Table type) m in
      let added : length (m.store.code.tables ++ empty_table type.minimum ∷ []) ≡ length m.store.code.tables + 1 = length-append m.store.code.tables (empty_table type.minimum ∷ []) in (
        λ space. record { size = type.minimum; empty = (all_exports es next).tables.at (length m.store.code.tables) (empty_table type.minimum) (slice_get-end m.store.code.tables (empty_table type.minimum)); new = l },
        each_table from es next (omega (arith, l, added)),
      )
  each_table from ((name, externs.Func type) ∷ es) m l = (λ space. absurd (no_table_func space), each_table from es (with_export (ExportedBy user name) (externs.Func type) m) l)
  each_table from ((name, externs.Memory type) ∷ es) m l = (λ space. absurd (no_table_memory space), each_table from es (with_export (ExportedBy user name) (externs.Memory type) m) l)
  each_table from ((name, externs.Global type) ∷ es) m l = (λ space. absurd (no_table_global space), each_table from es (with_export (ExportedBy user name) (externs.Global type) m) l)

  -- ---- the globals of the exports

  abbrev types_in : Machine → List ValType
  types_in m = map type_of m.now.globals

  -- there are more globals at the end, and no type has changed
  one_global : (item : CoreItem) (type : ExternType) (m : Machine) → KeepsEntries (types_in m) (types_in (with_export item type m))
  one_global item (externs.Func type) m = keeps_same refl
  one_global item (externs.Table type) m = keeps_same refl
  one_global item (externs.Memory type) m = keeps_same refl
  one_global item (externs.Global type) m =
      keeps_grown (types_in m) (types_in (with_export item (externs.Global type) m)) (type.val_type ∷ []) (map-append type_of m.now.globals (Foreign (length m.store.known) type.val_type ∷ []))

  pub all_globals : (es : ExportTypes) (m : Machine) → KeepsEntries (types_in m) (types_in (with_exports user es m))
  all_globals [] m = keeps_same refl
  all_globals ((name, type) ∷ es) m = keeps_then (one_global (ExportedBy user name) type m) (all_globals es (with_export (ExportedBy user name) type m))

  global_added : (item : CoreItem) (type : ExternType) (m : Machine) → IsGlobalTyped (types_in (with_export item type m)) (next_address type m) type
  global_added item (externs.Func type) m = tt
  global_added item (externs.Table type) m = tt
  global_added item (externs.Memory type) m = tt
  global_added item (externs.Global type) m =
      subst (λ (ts : List ValType). slice_get ts (length m.now.globals) ≡ Some type.val_type) (sym (map-append type_of m.now.globals (Foreign (length m.store.known) type.val_type ∷ [])))
      (subst (λ n. slice_get (types_in m ++ type.val_type ∷ []) n ≡ Some type.val_type) (length-map m.now.globals type_of) (slice_get-end (types_in m) type.val_type))

  global_unchanged : (old new : List ValType) → KeepsEntries old new → (address : ℕ) (type : ExternType) → IsGlobalTyped old address type → IsGlobalTyped new address type
  global_unchanged old new k address (externs.Global type) h = k.at address type.val_type h
  global_unchanged old new k address type h = tt

  pub each_global : (es : ExportTypes) (m : Machine) → AllZip (HasGlobalType (types_in (with_exports user es m))) (exported_by user es m) es
  each_global [] m = tt
  each_global ((name, type) ∷ es) m =
      let next : Machine = with_export (ExportedBy user name) type m in (
        record { named = refl; is = global_unchanged (types_in next) (types_in (with_exports user es next)) (all_globals es next) (next_address type m) type (global_added (ExportedBy user name) type m) },
        each_global es next,
      )
