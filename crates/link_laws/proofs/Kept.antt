-- What is kept while a run goes on: what there is stays where it is.
use Rattle.std.proofs.Common.{None, ◌≡◌, ◌∙◌, ◌<◌, ◌==◌, Bool, true, false, true≢false, ◌+◌, arith, zero, suc, inl, inr, ℕ, Option, List, [], ◌∷◌, ◌++◌, length, map, filter, refl, sym, subst, ap, Some}
use Rattle.std.proofs.lemmas.List.Elements.{filter-append, Contains-append_left}
use Rattle.std.proofs.lemmas.Option.{none-some, same_Some}
use Rattle.std.proofs.lemmas.Bool.Decides.{Decides-eqb}
use Rattle.std.specs.Prelude.{Contains}
use Rattle.std.specs.List.{slice_get, slice_set, AllZip, AllByRecursion}
use Rattle.comp_lists.proofs.Lists.{slice_get-append, slice_get-end, AllZip-weaker, AllByRecursion-weaker}
use Rattle.comp_lists.specs.Found.{found}
use Rattle.comp_bytes.specs.Spaces.{kind_space, sort_space}
use Rattle.comp_bytes.specs.declared.space.Space.{Space}
use Rattle.comp_bytes.specs.declared.space.Space.TheVariants as spaces
use Rattle.comp_bytes.specs.declared.canon.CanonicalOption.{CanonicalOption}
use Rattle.comp_bytes.specs.declared.canon.CanonicalOption.TheVariants as options
use Rattle.comp_bytes.specs.declared.types.Alias.TheVariants as aliases
use Rattle.comp_bytes.specs.declared.types.ComponentValType.{ComponentValType}
use Rattle.comp_bytes.specs.declared.types.ComponentValType.TheVariants as values
use Rattle.comp_bytes.specs.declared.def.CoreInlineExport.{CoreInlineExport}
use Rattle.comp_bytes.specs.declared.def.Item.{Item}
use Rattle.comp_bytes.specs.declared.def.Item.TheVariants as items
use Rattle.comp_bytes.specs.declared.def.Def.{Def}
use Rattle.comp_bytes.specs.declared.def.Def.TheVariants as defs
use Rattle.comp_bytes.specs.ItemIndices.{IsAt}
use Rattle.comp_bytes.specs.Parts.{parts_of}
use Rattle.comp_bytes.specs.declared.def.Argument.{Argument}
use Rattle.core_types.specs.declared.types.FuncType.{FuncType}
use Rattle.core_types.specs.declared.types.MemoryType.{MemoryType}
use Rattle.core_types.specs.declared.types.ValType.{ValType}
use Rattle.comp_trees.specs.Trees.{Tree, Origin, FunctionTree}
use Rattle.comp_trees.specs.DefinedTrees.{OfValues, OfFunctions}
use Rattle.comp_inventories.specs.Inventories.{TypeEntry, Denoting, OfInstances, FunctionEntry, InstanceEntry}
use Rattle.comp_roles.specs.declared.offered.ExternType.{ExternType}
use Rattle.comp_roles.specs.declared.offered.ExternType.TheVariants as externs
use Rattle.comp_roles.specs.declared.offered.ImportType.{ImportType}
use Rattle.comp_worlds.specs.Bases.{cell_type}
use Rattle.comp_worlds.specs.WorldContents.{exported_item}
use Rattle.comp_worlds.specs.declared.world.ComponentWorld.{ComponentWorld}
use Rattle.comp_links.specs.Targets.{ExportRef, TargetOption, Target, Lowered, ExportOf, MainMemory, OfResource, BuiltIn, TlsGet, TlsSet}
use Rattle.comp_links.specs.Targets as targets
use Rattle.comp_links.specs.Modules.{WorldModule}
use Rattle.comp_links.specs.Lists.{RequiredKey, RequiredFunction, functions_required, RequiredType, types_required, type_of_world}
use Rattle.comp_links.specs.Links.{destructor_of}
use Rattle.shim_plan.specs.declared.shims.Shim.{Shim}
use Rattle.world_shims.specs.WorldShims.{shims_of}
use Rattle.comp_terms.specs.Generated.{shims_number, fixup_number, target_of}
use Rattle.comp_worlds.specs.Offered.{shared_memory}
use Rattle.core_runs.specs.Store.{Opaque, Event, Instantiated, Called}
use Rattle.core_runs.specs.Instances.{empty_table}
use Rattle.comp_runs.specs.Store.{Thing, Export, HeldOption, HeldMemory, HeldRealloc, HeldPostReturn, HeldCallback, CoreItem, Function, Imported, Lifting, TypeItem, TreeOf, OwnResource, own_resources as resources_among, ModuleInstance, Store, ComponentItem}
use Rattle.comp_runs.specs.Machine.{address_at, is_of, with_opaque}
use Rattle.instance_laws.proofs.Held.{KeepsEntries, keeps_same, keeps_more, IsHeldAs-kept, own_resources-append}
use Rattle.instance_laws.proofs.Importing.{IsInstanceType-kept, IsInstanceEntry-kept}
use Rattle.shim_runs.proofs.Placed.{shims_kept, getter_kept, setter_kept, cell_kept}
use Rattle.nested_terms.specs.Nested.{empty_scope, imports_after, exports_after}
use Rattle.nested_laws.proofs.Kept.{AreGiven-kept, AreNestedExports-kept}
use Rattle.wit_data.specs.declared.worlds.WorldItem.{WorldItem}
use Rattle.wit_data.specs.declared.worlds.WorldItem.TheVariants as world_items
use Rattle.link_laws.proofs.Zips.{mapped_some, AllByRecursion-join}
use Rattle.link_laws.proofs.Stores.{IsHeldOperand, IsOpaqueOf, HasSlots, IsItemTyped, IsUserItem, IsUserExport, IsInstance, ShimsAt, AreShimExports, AreModuleExports, IsModuleInstance, IsNamedEntry, IsTypeAt, IsHeldOption, IsArgumentHeld, ItemIs, DefIs, Means, IsEntryItem, IsTypeEntry, IsFunctionEntry, IsInstanceThing, IsFunctionExported, IsItemExported, HasGlobalType, HasGlobals, IsGlobalTyped, HasTable, IsOwnTable, IsOwnIfTable, HasOwnTables, IsMemoryOfMain, IsShimExported, IsReallocHeld, HasSharedMemory, IsOptionHeld, IsLoweringOf, IsServedAs, IsShimGiven, IsServedIn, Serves, IsPlanned, IsPlannedUser, IsFilledWith, AreFilled, ExportsShims, AreShims, MayHaveShims, Expected, Made, Calls, IsSeen, IsLiftedFrom, function_at_key, IsRequiredAt, IsAmong, IsTypeAmong, IsItemExport, IsKeyExport, AreKeyExports, IsDestroyedBy, IsOwnResource, IsOwnIfDefined, AreResources, HasNumber}

-- a table that is kept has as many slots as before
pub record KeepsSizes (old new : List (List (Option ℕ))) : Type 0 where
  pub at : (address size : ℕ) → HasSlots old address size → HasSlots new address size

pub sizes_kept : {old new : List (List (Option ℕ))} → KeepsEntries old new → KeepsSizes old new
sizes_kept k = record { at = λ address size h. record { slots = h.slots; present = k.at address h.slots h.present; counted = h.counted } }

-- one table may have got other slots, as many as it had
pub sizes_set : (tables : List (List (Option ℕ))) (n : ℕ) (old slots : List (Option ℕ)) → slice_get tables n ≡ Some old → length slots ≡ length old → KeepsSizes tables (slice_set tables n slots)
sizes_set tables n old slots there same = record { at = λ address size h. by tables n there address size h.slots h.present h.counted }
  where
    by : (ts : List (List (Option ℕ))) (n : ℕ) → slice_get ts n ≡ Some old → (address size : ℕ) (own : List (Option ℕ)) → slice_get ts address ≡ Some own → length own ≡ size → HasSlots (slice_set ts n slots) address size
    by [] n there address size own at counted = absurd (none-some own at)
    by (t ∷ ts) zero there zero size own at counted =
        record { slots = slots; present = refl; counted = same ∙ (ap (λ (l : List (Option ℕ)). length l) (same_Some old own (sym there ∙ at)) ∙ counted) }
    by (t ∷ ts) zero there (suc address) size own at counted = record { slots = own; present = at; counted = counted }
    by (t ∷ ts) (suc n) there zero size own at counted = record { slots = own; present = at; counted = counted }
    by (t ∷ ts) (suc n) there (suc address) size own at counted = let h : HasSlots (slice_set ts n slots) address size = by ts n there address size own at counted in record { slots = h.slots; present = h.present; counted = h.counted }

-- every entry of the old scope and store is unchanged in the new ones
pub record Keeps (a b : List Thing) (s t : Store) : Type 0 where
  pub things : (space : Space) (i x : ℕ) → address_at space i a ≡ Some x → address_at space i b ≡ Some x
  pub code : KeepsEntries s.code.functions t.code.functions
  pub tables : KeepsSizes s.code.tables t.code.tables
  pub memories : KeepsEntries s.code.memories t.code.memories
  pub known : KeepsEntries s.known t.known
  pub core_instances : KeepsEntries s.core_instances t.core_instances
  pub functions : KeepsEntries s.functions t.functions
  pub types : KeepsEntries s.types t.types
  pub components : KeepsEntries s.components t.components
  pub instances : KeepsEntries s.instances t.instances
  pub users : KeepsEntries s.module_instances t.module_instances

-- the items of a scope that grew
pub address_at-append : (a more : List Thing) (space : Space) (i x : ℕ) → address_at space i a ≡ Some x → address_at space i (a ++ more) ≡ Some x
address_at-append a more space i x e =
    let m : (t : Thing) × (slice_get (filter (is_of space) a) i ≡ Some t) × (t.address ≡ x) = mapped_some (λ (t : Thing). t.address) (slice_get (filter (is_of space) a) i) x e in
    rw (filter-append (is_of space) a more, slice_get-append (filter (is_of space) a) (filter (is_of space) more) i m.0 m.1) (ap (λ (n : ℕ). Some n) m.2)

-- all stays as it is
pub keeps_all : (items : List Thing) (s : Store) → Keeps items items s s
keeps_all items s = record {
  things = λ space i x e. e;
  code = keeps_same refl;
  tables = sizes_kept (keeps_same refl);
  memories = keeps_same refl;
  known = keeps_same refl;
  core_instances = keeps_same refl;
  functions = keeps_same refl;
  types = keeps_same refl;
  components = keeps_same refl;
  instances = keeps_same refl;
  users = keeps_same refl;
}

-- ---- a scope with one item more, and a store with at most one entry more

module _ (items : List Thing) (t : Thing) (s : Store) where
  pub things_kept : (space : Space) (i x : ℕ) → address_at space i items ≡ Some x → address_at space i (items ++ t ∷ []) ≡ Some x
  things_kept space i x e = address_at-append items (t ∷ []) space i x e

  pub keeps_store : Keeps items (items ++ t ∷ []) s s
  keeps_store = record {
    things = things_kept;
    code = keeps_same refl;
    tables = sizes_kept (keeps_same refl);
    memories = keeps_same refl;
    known = keeps_same refl;
    core_instances = keeps_same refl;
    functions = keeps_same refl;
    types = keeps_same refl;
    components = keeps_same refl;
    instances = keeps_same refl;
    users = keeps_same refl;
  }

  pub keeps_type : (item : TypeItem) → Keeps items (items ++ t ∷ []) s (record s { types = s.types ++ item ∷ [] })
  keeps_type item = record {
    things = things_kept;
    code = keeps_same refl;
    tables = sizes_kept (keeps_same refl);
    memories = keeps_same refl;
    known = keeps_same refl;
    core_instances = keeps_same refl;
    functions = keeps_same refl;
    types = keeps_more s.types (item ∷ []);
    components = keeps_same refl;
    instances = keeps_same refl;
    users = keeps_same refl;
  }

  pub keeps_function : (f : Function) → Keeps items (items ++ t ∷ []) s (record s { functions = s.functions ++ f ∷ [] })
  keeps_function f = record {
    things = things_kept;
    code = keeps_same refl;
    tables = sizes_kept (keeps_same refl);
    memories = keeps_same refl;
    known = keeps_same refl;
    core_instances = keeps_same refl;
    functions = keeps_more s.functions (f ∷ []);
    types = keeps_same refl;
    components = keeps_same refl;
    instances = keeps_same refl;
    users = keeps_same refl;
  }

  pub keeps_opaque : (item : CoreItem) (type : FuncType) → Keeps items (items ++ t ∷ []) s (with_opaque item type s)
  keeps_opaque item type = record {
    things = things_kept;
    code = keeps_more s.code.functions (Opaque (length s.known) type ∷ []);
    tables = sizes_kept (keeps_same refl);
    memories = keeps_same refl;
    known = keeps_more s.known (item ∷ []);
    core_instances = keeps_same refl;
    functions = keeps_same refl;
    types = keeps_same refl;
    components = keeps_same refl;
    instances = keeps_same refl;
    users = keeps_same refl;
  }

  pub keeps_core_instance : (es : List Export) → Keeps items (items ++ t ∷ []) s (record s { core_instances = s.core_instances ++ es ∷ [] })
  keeps_core_instance es = record {
    things = things_kept;
    code = keeps_same refl;
    tables = sizes_kept (keeps_same refl);
    memories = keeps_same refl;
    known = keeps_same refl;
    core_instances = keeps_more s.core_instances (es ∷ []);
    functions = keeps_same refl;
    types = keeps_same refl;
    components = keeps_same refl;
    instances = keeps_same refl;
    users = keeps_same refl;
  }

  pub keeps_component : (component : ComponentItem) → Keeps items (items ++ t ∷ []) s (record s { components = s.components ++ component ∷ [] })
  keeps_component component = record {
    things = things_kept;
    code = keeps_same refl;
    tables = sizes_kept (keeps_same refl);
    memories = keeps_same refl;
    known = keeps_same refl;
    core_instances = keeps_same refl;
    functions = keeps_same refl;
    types = keeps_same refl;
    components = keeps_more s.components (component ∷ []);
    instances = keeps_same refl;
    users = keeps_same refl;
  }

  pub keeps_module : (bytes : List ℕ) → Keeps items (items ++ t ∷ []) s (record s { core_modules = s.core_modules ++ bytes ∷ [] })
  keeps_module bytes = record {
    things = things_kept;
    code = keeps_same refl;
    tables = sizes_kept (keeps_same refl);
    memories = keeps_same refl;
    known = keeps_same refl;
    core_instances = keeps_same refl;
    functions = keeps_same refl;
    types = keeps_same refl;
    components = keeps_same refl;
    instances = keeps_same refl;
    users = keeps_same refl;
  }

-- ---- what is kept

-- the shims are where they were, or there were none
abbrev pub ShimsKept : Option ShimsAt → Option ShimsAt → Type 0
ShimsKept None new = Unit {0}
ShimsKept (Some at) new = new ≡ Some at

pub shims_same : (shims : Option ShimsAt) → ShimsKept shims shims
shims_same None = tt
shims_same (Some at) = refl

IsShimGiven-kept : (w : ComponentWorld) (old new : Option ShimsAt) → ShimsKept old new → (address : ℕ) (target : Target) → IsShimGiven w old address target → IsShimGiven w new address target
IsShimGiven-kept w None new same address target h = absurd h
IsShimGiven-kept w (Some at) new same address target h = subst (λ o. IsShimGiven w o address target) (sym same) h

-- so are those that stand for destructors
IsDestroyedBy-kept : (w : ComponentWorld) (old new : Option ShimsAt) → ShimsKept old new → (destructor : Option ℕ) (e : Option ExportRef) → IsDestroyedBy w old destructor e → IsDestroyedBy w new destructor e
IsDestroyedBy-kept w old new same None None h = tt
IsDestroyedBy-kept w old new same (Some address) (Some e) h = IsShimGiven-kept w old new same address (ExportOf e) h
IsDestroyedBy-kept w old new same None (Some e) h = absurd h
IsDestroyedBy-kept w old new same (Some address) None h = absurd h

IsOwnIfDefined-kept : (w : ComponentWorld) (old new : Option ShimsAt) → ShimsKept old new → (item : TypeItem) → IsOwnIfDefined w old item → IsOwnIfDefined w new item
IsOwnIfDefined-kept w old new same (OwnResource number destructor) h = record { provided = h.provided; is = h.is; destroyed = IsDestroyedBy-kept w old new same destructor (destructor_of w h.provided) h.destroyed }
IsOwnIfDefined-kept w old new same item h = tt

pub AreResources-kept : (w : ComponentWorld) (old new : Option ShimsAt) → ShimsKept old new → (types : List TypeItem) (count : ℕ) → AreResources w old types count → AreResources w new types count
AreResources-kept w old new same types count h = record { counted = h.counted; each = AllByRecursion-weaker (IsOwnIfDefined-kept w old new same) types h.each; numbered = h.numbered }

-- types that define no resource
none_own : (w : ComponentWorld) (shims : Option ShimsAt) (types : List TypeItem) → resources_among types ≡ 0 → AllByRecursion (IsOwnIfDefined w shims) types
none_own w shims [] none = tt
none_own w shims (OwnResource number destructor ∷ types) none = let no : suc (resources_among types) ≡ 0 = none in absurd (omega (arith, no))
none_own w shims (item ∷ types) none = (tt, none_own w shims types none)

-- so no type is one
pub none_at : (types : List TypeItem) → resources_among types ≡ 0 → (address number : ℕ) (destructor : Option ℕ) → slice_get types address ≡ Some (OwnResource number destructor) → ⊥
none_at [] none address number destructor e = none-some (OwnResource number destructor) e
none_at (OwnResource other by ∷ types) none address number destructor e = let no : suc (resources_among types) ≡ 0 = none in absurd (omega (arith, no))
none_at (item ∷ types) none zero number destructor e = cc
none_at (item ∷ types) none (suc n) number destructor e = none_at types none n number destructor e

resource-kept : (types more : List TypeItem) (number : ℕ) → HasNumber types number → HasNumber (types ++ more) number
resource-kept types more number h = record { address = h.address; destructor = h.destructor; is = slice_get-append types more h.address (OwnResource number h.destructor) h.is }

-- with such types the resources are the same
pub AreResources-more : (w : ComponentWorld) (shims : Option ShimsAt) (types more : List TypeItem) (count : ℕ) → AreResources w shims types count → resources_among more ≡ 0 → AreResources w shims (types ++ more) count
AreResources-more w shims types more count h none =
    let all : resources_among (types ++ more) ≡ resources_among types + resources_among more = own_resources-append types more in
    let counted = h.counted in
    record { counted = omega (arith, all, counted, none); each = AllByRecursion-join (IsOwnIfDefined w shims) types more h.each (none_own w shims more none); numbered = λ n less. resource-kept types more n (h.numbered n less) }

-- one resource more
pub AreResources-push : (w : ComponentWorld) (shims : Option ShimsAt) (types : List TypeItem) (number : ℕ) (destructor : Option ℕ) (count : ℕ) → number ≡ count → AreResources w shims types count → IsOwnResource w shims number destructor →
    AreResources w shims (types ++ OwnResource number destructor ∷ []) (suc count)
AreResources-push w shims types number destructor count next h own =
    let item : TypeItem = OwnResource number destructor in
    let all : resources_among (types ++ item ∷ []) ≡ resources_among types + 1 = own_resources-append types (item ∷ []) in
    let counted = h.counted in
    record { counted = omega (arith, all, counted); each = AllByRecursion-join (IsOwnIfDefined w shims) types (item ∷ []) h.each (own, tt); numbered = λ n less. by n less (n == number) refl }
  where
    by : (n : ℕ) → n < suc count → (same : Bool) → n == number ≡ same → HasNumber (types ++ OwnResource number destructor ∷ []) n
    by n less true same = let is : n ≡ number = (Decides-eqb n number).0 same in record { address = length types; destructor = destructor; is = rw is (slice_get-end types (OwnResource number destructor)) }
    by n less false same = let other : n ≡ number → ⊥ = λ e. true≢false (sym ((Decides-eqb n number).1 e) ∙ same) in resource-kept types (OwnResource number destructor ∷ []) n (h.numbered n (omega (arith, less, next, other)))

shim_exports-kept : (w : ComponentWorld) (old new : Option ShimsAt) → ShimsKept old new → (number : ℕ) (exports : List Export) → AreShimExports w old number exports → AreShimExports w new number exports
shim_exports-kept w None new same number exports h = absurd h
shim_exports-kept w (Some at) new same number exports h = subst (λ o. AreShimExports w o number exports) (sym same) h

module _ {a b : List Thing} {s t : Store} (k : Keeps a b s t) where
  pub IsInstance-kept : {user number : ℕ} → IsInstance s user number → IsInstance t user number
  IsInstance-kept {user} h = record { instance = h.instance; present = k.users.at user h.instance h.present; of = h.of }

  pub IsOpaque-kept : {address : ℕ} {type : FuncType} {item : CoreItem} → IsOpaqueOf s address type item → IsOpaqueOf t address type item
  IsOpaque-kept {address} {type} {item} h =
      record { what = h.what; present = k.code.at address (Opaque h.what type) h.present; known = k.known.at h.what item h.known }

  IsEntryItem-kept : (e : TypeEntry) (item : TypeItem) → IsEntryItem s.types e item → IsEntryItem t.types e item
  IsEntryItem-kept (Denoting tree) item h = tt
  IsEntryItem-kept (OfInstances outer members) item h = IsInstanceType-kept k.types outer members item h

  pub IsTypeEntry-kept : (e : TypeEntry) (x : Thing) → IsTypeEntry s e x → IsTypeEntry t e x
  IsTypeEntry-kept e x h = record { item = h.item; present = k.types.at x.address h.item h.present; denotes = h.denotes; is = IsEntryItem-kept e h.item h.is }

  pub IsInstanceThing-kept : (e : InstanceEntry) (x : Thing) → IsInstanceThing s e x → IsInstanceThing t e x
  IsInstanceThing-kept e x h = record { exports = h.exports; present = k.instances.at x.address h.exports h.present; is = IsInstanceEntry-kept k.types k.functions e h.exports h.is }

  pub IsFunctionEntry-kept : (e : FunctionEntry) (x : Thing) → IsFunctionEntry s e x → IsFunctionEntry t e x
  IsFunctionEntry-kept e x h = record { function = h.function; present = k.functions.at x.address h.function h.present; same = h.same }

  IsTypeAt-kept : (kind : ℕ) (type : FunctionTree) → IsTypeAt a s kind type → IsTypeAt b t kind type
  IsTypeAt-kept kind type h = record { address = h.address; at = k.things spaces.Type kind h.address h.at; is = k.types.at h.address (TreeOf (OfFunctions type)) h.is }

  IsItemTyped-kept : (address : ℕ) (type : ExternType) → IsItemTyped s address type → IsItemTyped t address type
  IsItemTyped-kept address (externs.Table type) h = k.tables.at address type.minimum h
  IsItemTyped-kept address (externs.Memory type) h = k.memories.at address type h
  IsItemTyped-kept address type h = tt

  item_of_user-kept : (user : ℕ) (e : Export) (type : ExternType) → IsUserItem s user e type → IsUserItem t user e type
  item_of_user-kept user e (externs.Func type) h = IsOpaque-kept h
  item_of_user-kept user e (externs.Table type) h = IsItemTyped-kept e.address (externs.Table type) h
  item_of_user-kept user e (externs.Memory type) h = IsItemTyped-kept e.address (externs.Memory type) h
  item_of_user-kept user e (externs.Global type) h = tt

  exports-kept : (user : ℕ) (e : Export) (found : List ℕ × ExternType) → IsUserExport s user e found → IsUserExport t user e found
  exports-kept user e found h = record { named = h.named; space = h.space; is = item_of_user-kept user e found.1 h.is }

  entry-kept : (e : CoreInlineExport) (x : Export) → IsNamedEntry a e x → IsNamedEntry b e x
  entry-kept e x h = record { named = h.named; space = h.space; at = k.things (kind_space e.kind) e.index x.address h.at }

  pub argument-kept : (e : Argument) (x : Export) → IsArgumentHeld a e x → IsArgumentHeld b e x
  argument-kept e x h = record { named = h.named; space = h.space; at = k.things (sort_space e.sort) e.index x.address h.at }

  IsLoweringOf-kept : (address : ℕ) (origin : Origin) (type : FunctionTree) (held : List HeldOption) → IsLoweringOf s address origin type held → IsLoweringOf t address origin type held
  IsLoweringOf-kept address origin type held h = record { of = h.of; is = IsOpaque-kept h.is; imported = k.functions.at h.of (Imported origin type) h.imported }

  IsFunctionExported-kept : {w : ComponentWorld} {address : ℕ} {export_ref : ExportRef} → IsFunctionExported w s address export_ref → IsFunctionExported w t address export_ref
  IsFunctionExported-kept h = record { number = h.number; of = h.of; user = h.user; instance = IsInstance-kept h.instance; type = h.type; is = IsOpaque-kept h.is; offered = h.offered }

  IsMemoryOfMain-kept : (w : ComponentWorld) (address : ℕ) → IsMemoryOfMain w s address → IsMemoryOfMain w t address
  IsMemoryOfMain-kept w address h = record { export = h.export; named = h.named; is = record { user = h.is.user; instance = h.is.instance; present = k.users.at h.is.user h.is.instance h.is.present; of = h.is.of; exported = h.is.exported }; held = h.held; present = k.memories.at address h.held h.present; offered = h.offered }

  IsShimExported-kept : {w : ComponentWorld} {address : ℕ} {target : Target} → IsShimExported w s address target → IsShimExported w t address target
  IsShimExported-kept h = record { place = h.place; stands = h.stands; user = h.user; instance = h.instance; present = k.users.at h.user h.instance h.present; of = h.of; exported = h.exported }

  IsReallocHeld-kept : {w : ComponentWorld} {address : ℕ} {export_ref : ExportRef} → IsReallocHeld w s address export_ref → IsReallocHeld w t address export_ref
  IsReallocHeld-kept (inl h) = inl (IsFunctionExported-kept h)
  IsReallocHeld-kept (inr h) = inr (IsShimExported-kept h)

  pub HasSharedMemory-kept : (type : Option MemoryType) (address : Option ℕ) → HasSharedMemory s type address → HasSharedMemory t type address
  HasSharedMemory-kept None None h = tt
  HasSharedMemory-kept (Some type) (Some address) h = k.memories.at address type h
  HasSharedMemory-kept None (Some address) h = absurd h
  HasSharedMemory-kept (Some type) None h = absurd h

  IsItemExported-kept : {w : ComponentWorld} {space : Space} {address : ℕ} {export_ref : ExportRef} → IsItemExported w s space address export_ref → IsItemExported w t space address export_ref
  unfolding IsInstance-kept
  IsItemExported-kept {w} {space} {address} h = record {
    number = h.number;
    of = h.of;
    user = h.user;
    instance = IsInstance-kept h.instance;
    exported = h.exported;
    type = h.type;
    in_space = h.in_space;
    is = IsItemTyped-kept address h.type h.is;
    offered = h.offered;
  }

  IsOptionHeld-kept : (w : ComponentWorld) (held : HeldOption) (o : TargetOption) → IsOptionHeld w s held o → IsOptionHeld w t held o
  IsOptionHeld-kept w (HeldMemory a) targets.Memory h = IsMemoryOfMain-kept w a h
  IsOptionHeld-kept w (HeldRealloc a) (targets.Realloc export_ref) h = IsReallocHeld-kept h
  IsOptionHeld-kept w (HeldPostReturn a) (targets.PostReturn export_ref) h = IsFunctionExported-kept h
  IsOptionHeld-kept w (HeldCallback a) (targets.Callback export_ref) h = IsFunctionExported-kept h
  IsOptionHeld-kept w held o h = h

  pub IsServedAs-kept : (w : ComponentWorld) (address : ℕ) (target : Target) → IsServedAs w s address target → IsServedAs w t address target
  IsServedAs-kept w address (Lowered function options) h = record {
    origin = h.origin;
    type = h.type;
    held = h.held;
    from = h.from;
    typed = h.typed;
    lowered = IsLoweringOf-kept address h.origin h.type h.held h.lowered;
    with_options = AllZip-weaker (IsOptionHeld-kept w) h.held options h.with_options;
  }
  IsServedAs-kept w address (OfResource function id) h = record { is = IsOpaque-kept h.is }
  IsServedAs-kept w address (BuiltIn name operand options) h = record { held = h.held; with_options = AllZip-weaker (IsOptionHeld-kept w) h.held options h.with_options; is = IsOpaque-kept h.is }
  IsServedAs-kept w address TlsGet h = record { type = h.type; named = h.named; user = h.user; instance = IsInstance-kept h.instance; is = getter_kept s.code t.code k.code.at h.type 0 address h.is }
  IsServedAs-kept w address TlsSet h = record { type = h.type; named = h.named; user = h.user; instance = IsInstance-kept h.instance; is = setter_kept s.code t.code k.code.at h.type 0 address h.is }
  IsServedAs-kept w address (ExportOf export_ref) h = IsFunctionExported-kept h
  IsServedAs-kept w address target h = absurd h

  IsServedIn-kept : (w : ComponentWorld) (space : Space) (address : ℕ) (target : Target) → IsServedIn w s space address target → IsServedIn w t space address target
  IsServedIn-kept w spaces.CoreFunc address target h = IsServedAs-kept w address target h
  IsServedIn-kept w spaces.CoreTable address (ExportOf export_ref) h = IsItemExported-kept h
  IsServedIn-kept w spaces.CoreMemory address (ExportOf export_ref) h = IsItemExported-kept h
  IsServedIn-kept w spaces.CoreGlobal address (ExportOf export_ref) h = IsItemExported-kept h
  IsServedIn-kept w spaces.CoreMemory address MainMemory h = IsMemoryOfMain-kept w address h
  IsServedIn-kept w space address target h = absurd h

  Serves-kept : (w : ComponentWorld) (old new : Option ShimsAt) → ShimsKept old new → (space : Space) (address : ℕ) (target : Target) → Serves w old s space address target → Serves w new t space address target
  Serves-kept w old new same space address target (inl h) = inl (IsServedIn-kept w space address target h)
  Serves-kept w old new same space address target (inr h) = inr (h.0, IsShimGiven-kept w old new same address target h.1)

  pub IsPlanned-kept : (w : ComponentWorld) (old new : Option ShimsAt) → ShimsKept old new → (of : WorldModule) (x : Thing) (i : ImportType) → IsPlanned w old s of x i → IsPlanned w new t of x i
  IsPlanned-kept w old new same of x i h =
      record { target = h.target; said = h.said; serves = Serves-kept w old new same x.space x.address h.target h.serves; direct = λ none. IsServedIn-kept w x.space x.address h.target (h.direct none) }

  pub IsFilledWith-kept : (w : ComponentWorld) (shim : Shim) (function : ℕ) → IsFilledWith w s shim function → IsFilledWith w t shim function
  IsFilledWith-kept w shim function h = record { purpose = h.purpose; stands_for = h.stands_for; serves = IsServedAs-kept w function (target_of w h.purpose) h.serves }

  -- the shims, where the tables are kept too, and no instance is new but those of modules of other numbers
  pub AreShims-kept : (w : ComponentWorld) (numbers more : List ℕ) (at : ShimsAt) → KeepsEntries s.code.tables t.code.tables → (Contains (numbers ++ more) (fixup_number w) → Contains numbers (fixup_number w)) →
      AllByRecursion (ExportsShims w (Some at)) t.module_instances → AreShims w s numbers at → AreShims w t (numbers ++ more) at
  AreShims-kept w numbers more at tables no_fixup exported h = record {
    there = Contains-append_left numbers more (shims_number w) h.there;
    any = h.any;
    room = h.room;
    made = shims_kept s.code t.code k.code.at at.table 0 at.address (shims_of w) h.made;
    of_cell = cell_kept s.code t.code k.code.at (cell_type w) 0 (at.address + length (shims_of w)) h.of_cell;
    exported = exported;
    memory = HasSharedMemory-kept (shared_memory w) at.memory h.memory;
    slotted = λ any. let t : HasTable s.code.tables at.table = h.slotted any in record { slots = t.slots; present = tables.at at.table t.slots t.present };
    unfilled = λ any no. tables.at at.table (empty_table (length (shims_of w))) (h.unfilled any (λ yes. no (Contains-append_left numbers more (fixup_number w) yes)));
    filled = λ any yes.
        let f : AreFilled w s at.table = h.filled any (no_fixup yes) in
        record { functions = f.functions; slots = tables.at at.table (map (λ f. Some f) f.functions) f.slots; each = AllZip-weaker (IsFilledWith-kept w) (shims_of w) f.functions f.each };
  }

  pub MayHaveShims-kept : (w : ComponentWorld) (numbers more : List ℕ) (shims : Option ShimsAt) → KeepsEntries s.code.tables t.code.tables →
      (Contains (numbers ++ more) (fixup_number w) → Contains numbers (fixup_number w)) →
      ((at : Option ShimsAt) → AllByRecursion (ExportsShims w at) s.module_instances → AllByRecursion (ExportsShims w at) t.module_instances) → MayHaveShims w s numbers shims → MayHaveShims w t (numbers ++ more) shims
  MayHaveShims-kept w numbers more None tables no_fixup exported h = exported None h
  MayHaveShims-kept w numbers more (Some at) tables no_fixup exported h = AreShims-kept w numbers more at tables no_fixup (exported (Some at) h.exported) h

  -- what was seen is what it was
  IsSeen-kept : (w : ComponentWorld) (event : Event) (expected : Expected) → IsSeen w s event expected → IsSeen w t event expected
  IsSeen-kept w (Instantiated n) (Made number) h = h
  IsSeen-kept w (Called address arguments) (Calls call) h = (IsFunctionExported-kept h.0, h.1)
  IsSeen-kept w event expected h = absurd h

  pub AreSeen-kept : (w : ComponentWorld) (events : List Event) (expected : List Expected) → AllZip (IsSeen w s) events expected → AllZip (IsSeen w t) events expected
  AreSeen-kept w events expected h = AllZip-weaker (IsSeen-kept w) events expected h

  pub IsLiftedFrom-kept : {w : ComponentWorld} {address : ℕ} {entry : ExportRef} {options : List TargetOption} {type : FunctionTree} → IsLiftedFrom w s address entry options type → IsLiftedFrom w t address entry options type
  IsLiftedFrom-kept {w} {address} {entry} {options} {type} h = record {
    core = h.core;
    held = h.held;
    is = k.functions.at address (Lifting h.core h.held type) h.is;
    of = IsFunctionExported-kept h.of;
    with_options = AllZip-weaker (IsOptionHeld-kept w) h.held options h.with_options;
  }

  pub IsHeldOption-kept : (o : CanonicalOption) (held : HeldOption) → IsHeldOption a o held → IsHeldOption b o held
  IsHeldOption-kept (options.Memory index) (HeldMemory x) h = k.things spaces.CoreMemory index x h
  IsHeldOption-kept (options.Realloc index) (HeldRealloc x) h = k.things spaces.CoreFunc index x h
  IsHeldOption-kept (options.PostReturn index) (HeldPostReturn x) h = k.things spaces.CoreFunc index x h
  IsHeldOption-kept (options.Callback index) (HeldCallback x) h = k.things spaces.CoreFunc index x h
  IsHeldOption-kept o held h = h

  pub IsHeldOperand-kept : (written : Option ComponentValType) (operand : Option Tree) → IsHeldOperand a s written operand → IsHeldOperand b t written operand
  IsHeldOperand-kept None None h = tt
  IsHeldOperand-kept (Some (values.Primitive p)) (Some tree) h = h
  IsHeldOperand-kept (Some (values.Defined index)) (Some tree) h = record { address = h.address; at = k.things spaces.Type index h.address h.at; is = IsHeldAs-kept k.types (OfValues tree) h.address h.is }
  IsHeldOperand-kept None (Some tree) h = absurd h
  IsHeldOperand-kept (Some (values.Primitive p)) None h = absurd h
  IsHeldOperand-kept (Some (values.Defined index)) None h = absurd h

module _ (w : ComponentWorld) (old new : Option ShimsAt) (shims : ShimsKept old new) (ds es : List Def) (defined : (space : Space) (index : ℕ) (d : Def) → IsAt ds space index d → IsAt es space index d) {a b : List Thing} {s t : Store} (k : Keeps a b s t) where
  module_exports-kept : (user number : ℕ) (exports : List Export) → AreModuleExports w old s user number exports → AreModuleExports w new t user number exports
  module_exports-kept user number exports (inl h) = inl (record { of = h.of; listed = h.listed; each = AllZip-weaker (exports-kept k user) exports h.of.found.offered h.each })
  module_exports-kept user number exports (inr (inl h)) = inr (inl (shim_exports-kept w old new shims number exports h))
  module_exports-kept user number exports (inr (inr h)) = inr (inr h)

  instance-kept : (number address : ℕ) → IsModuleInstance w old s number address → IsModuleInstance w new t number address
  instance-kept number address h = record {
    exports = h.exports;
    user = h.user;
    present = k.core_instances.at address h.exports h.present;
    is = record { instance = h.is.instance; present = k.users.at h.user h.is.instance h.is.present; of = h.is.of };
    same = h.same;
    each = module_exports-kept h.user number h.exports h.each;
  }

  item-kept : (i : Item) (x : ℕ) → ItemIs w old ds a s i x → ItemIs w new es b t i x
  item-kept (items.CoreInstantiate number arguments) x h = instance-kept number x h
  item-kept (items.CoreExports entries) x h = record { exports = h.exports; present = k.core_instances.at x h.exports h.present; each = AllZip-weaker (entry-kept k) entries h.exports h.each }
  item-kept (items.Alias (aliases.CoreExport kind instance name)) x h = record {
    number = h.number;
    of = record { arguments = h.of.arguments; made = defined spaces.CoreInstance instance (defs.Item (items.CoreInstantiate h.number h.of.arguments)) h.of.made };
    names = h.names;
    from = h.from;
    exports = h.exports;
    export = h.export;
    at = k.things spaces.CoreInstance instance h.from h.at;
    present = k.core_instances.at h.from h.exports h.present;
    found = h.found;
    is = h.is;
  }
  item-kept (items.Lift core options kind) x h = record {
    of = h.of;
    held = h.held;
    type = h.type;
    at = k.things spaces.CoreFunc core h.of h.at;
    with_options = AllZip-weaker (IsHeldOption-kept k) options h.held h.with_options;
    typed = IsTypeAt-kept k kind h.type h.typed;
    is = k.functions.at x (Lifting h.of h.held h.type) h.is;
  }
  item-kept (items.Lower function options) x h = record {
    of = h.of;
    origin = h.origin;
    held = h.held;
    type = h.type;
    at = k.things spaces.Func function h.of h.at;
    imported = k.functions.at h.of (Imported h.origin h.type) h.imported;
    with_options = AllZip-weaker (IsHeldOption-kept k) options h.held h.with_options;
    is = IsOpaque-kept k h.is;
  }
  item-kept (items.Intrinsic intrinsic) x h = record {
    operand = h.operand;
    held = h.held;
    of = IsHeldOperand-kept k (parts_of intrinsic).operand h.operand h.of;
    with_options = AllZip-weaker (IsHeldOption-kept k) (parts_of intrinsic).options h.held h.with_options;
    is = IsOpaque-kept k h.is;
  }
  item-kept (items.Instantiate component written) x h = record {
    definitions = h.definitions;
    given = h.given;
    arguments = h.arguments;
    exports = h.exports;
    made = defined spaces.Component component (defs.Component h.definitions) h.made;
    held = AllZip-weaker (argument-kept k) written h.arguments h.held;
    present = k.instances.at x h.exports h.present;
    imports = AreGiven-kept k.types h.arguments (imports_after h.given empty_scope h.definitions) h.imports;
    each = AreNestedExports-kept k.types h.arguments (exports_after h.given empty_scope h.definitions) h.exports h.each;
  }
  item-kept _ x h = tt

  def-kept : (d : Def) (x : ℕ) → DefIs w old ds a s d x → DefIs w new es b t d x
  def-kept (defs.Item i) x h = item-kept i x h
  def-kept (defs.Component inner) x h = record { component = h.component; present = k.components.at x h.component h.present; same = h.same }

  pub Means-kept : (d : Def) (x : Thing) → Means w old ds a s d x → Means w new es b t d x
  Means-kept d x h = record { space = h.space; is = def-kept d x.address h.is }

module _ (w : ComponentWorld) {a b : List Thing} {s t : Store} (k : Keeps a b s t) where
  pub IsPlannedUser-kept : (old new : Option ShimsAt) → ShimsKept old new → (u : ModuleInstance) → IsPlannedUser w old s u → IsPlannedUser w new t u
  IsPlannedUser-kept old new same u h of listed = AllZip-weaker (IsPlanned-kept k w old new same of) u.given of.found.imported (h of listed)

  IsRequiredAt-kept : (r : RequiredFunction) (address : ℕ) → IsRequiredAt w s r address → IsRequiredAt w t r address
  IsRequiredAt-kept r address h = record { name = h.name; wit = h.wit; role = h.role; exported = h.exported; is = IsLiftedFrom-kept k h.is }

  IsAmong-kept : (exports : List Export) (r : RequiredFunction) → IsAmong w s exports r → IsAmong w t exports r
  IsAmong-kept exports r h = record { address = h.address; found = h.found; is = IsRequiredAt-kept r h.address h.is }

  IsTypeAmong-kept : (exports : List Export) (r : RequiredType) → IsTypeAmong w s exports r → IsTypeAmong w t exports r
  IsTypeAmong-kept exports r h = record { address = h.address; found = h.found; is = IsHeldAs-kept k.types (type_of_world w r.id) h.address h.is }

  IsItemExport-kept : (r : RequiredKey) (e : Export) (item : Option WorldItem) → IsItemExport w s r e item → IsItemExport w t r e item
  IsItemExport-kept r e (Some (world_items.Function f)) h = record { space = h.space; is = IsRequiredAt-kept (function_at_key r f.name) e.address h.is }
  IsItemExport-kept r e (Some (world_items.Interface id)) h = record {
    space = h.space;
    exports = h.exports;
    present = k.instances.at e.address h.exports h.present;
    each = AllByRecursion-weaker (IsAmong-kept h.exports) (functions_required w r) h.each;
    types = AllByRecursion-weaker (IsTypeAmong-kept h.exports) (types_required w r) h.types;
  }
  IsItemExport-kept r e item h = absurd h

  pub AreKeyExports-kept : (rs : List RequiredKey) (es : List Export) → AreKeyExports w s rs es → AreKeyExports w t rs es
  AreKeyExports-kept rs [] h = tt
  AreKeyExports-kept [] (e ∷ es) h = absurd h
  AreKeyExports-kept (r ∷ rs) (e ∷ es) h = (IsItemExport-kept r e (exported_item w r.key) h.0, AreKeyExports-kept rs es h.1)

-- globals have the types that they had where there are more
HasGlobalType-kept : {old new : List ValType} → KeepsEntries old new → (e : Export) (o : List ℕ × ExternType) → HasGlobalType old e o → HasGlobalType new e o
HasGlobalType-kept {old} {new} k e (name, type) h = record { named = h.named; is = by type h.is }
  where
    by : (type : ExternType) → IsGlobalTyped old e.address type → IsGlobalTyped new e.address type
    by (externs.Global global) h = k.at e.address global.val_type h
    by type h = tt

-- tables of user modules stay what they are where there are more, and the shims are where they were
pub HasOwnTables-kept : (w : ComponentWorld) (shims : Option ShimsAt) {old new : List (List (Option ℕ))} → KeepsEntries old new → (u : ModuleInstance) → HasOwnTables w shims old u → HasOwnTables w shims new u
HasOwnTables-kept w shims {old} {new} k u h of listed = AllByRecursion-weaker by u.exports (h of listed)
  where
    by : (e : Export) → IsOwnIfTable w shims old e → IsOwnIfTable w shims new e
    by e t space = let own : IsOwnTable w shims old e.address = t space in record { size = own.size; empty = k.at e.address (empty_table own.size) own.empty; apart = own.apart }

pub HasGlobals-kept : (w : ComponentWorld) {old new : List ValType} → KeepsEntries old new → (u : ModuleInstance) → HasGlobals w old u → HasGlobals w new u
HasGlobals-kept w k u h of listed = AllZip-weaker (HasGlobalType-kept k) u.exports of.found.offered (h of listed)

-- one more is that of the next key
pub AreKeyExports-push : (w : ComponentWorld) (s : Store) (rs : List RequiredKey) (es : List Export) (r : RequiredKey) (e : Export) → AreKeyExports w s rs es → slice_get rs (length es) ≡ Some r → IsKeyExport w s r e →
    AreKeyExports w s rs (es ++ e ∷ [])
AreKeyExports-push w s [] [] r e h next is = absurd (none-some r next)
AreKeyExports-push w s (x ∷ rs) [] r e h next is = (subst (λ (y : RequiredKey). IsKeyExport w s y e) (sym (same_Some x r next)) is, tt)
AreKeyExports-push w s [] (x ∷ es) r e h next is = absurd h
AreKeyExports-push w s (x ∷ rs) (y ∷ es) r e h next is = (h.0, AreKeyExports-push w s rs es r e h.1 next is)
