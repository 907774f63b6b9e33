-- What the definitions so far have added to the store, and what the imports of user modules find among the arguments.
use Rattle.std.proofs.Common.{◌≡◌, ◌∙◌, ◌⊎◌, inl, inr, ◌+◌, ◌^◌, suc, arith, ℕ, ◌<◌, Bool, true, false, cond, true≢false, List, [], ◌∷◌, length, map, filter, get_or, refl, sym, ap, ap₂, subst, Option, Some, None, is_some}
use Rattle.std.proofs.lemmas.List.{length-map}
use Rattle.std.proofs.lemmas.List.Sums.{length-filter}
use Rattle.std.proofs.lemmas.Option.{same_Some, none-some, get_or_from_slice_get, slice_get_within}
use Rattle.std.specs.Prelude.{IsSome}
use Rattle.std.specs.Fmt.{decimal}
use Rattle.std.specs.List.{slice_get, flat_map, AllZip, AllByRecursion}
use Rattle.std.specs.Option.{option_map, option_and_then}
use Rattle.std.specs.Str.{bytes_eq}
use Rattle.comp_lists.specs.Found.{found}
use Rattle.comp_lists.proofs.Lookups.{some_of}
use Rattle.comp_lists.proofs.Lists.{AllZip-at, AllZip-weaker, there}
use Rattle.comp_bytes.specs.Spaces.{kind_space, is_space, space_of, items_in}
use Rattle.comp_bytes.specs.ItemIndices.{in_space, IsAt}
use Rattle.comp_bytes.specs.Parts.{Parts, parts_of, parts_of_type}
use Rattle.comp_bytes.specs.declared.types.ComponentValType.{ComponentValType}
use Rattle.comp_bytes.specs.declared.types.ComponentValType.TheVariants as values
use Rattle.core_types.specs.declared.types.FuncType.{FuncType}
use Rattle.core_types.specs.declared.types.ValType.{ValType}
use Rattle.core_types.specs.declared.types.MemoryType.{MemoryType}
use Rattle.core_runs.specs.Cells.{IsGetter, IsSetter}
use Rattle.core_runs.specs.Store.{Func, Now, signature_of}
use Rattle.comp_bytes.specs.declared.space.Space.{Space}
use Rattle.comp_bytes.specs.declared.space.Space.TheVariants as spaces
use Rattle.standard_kinds.specs.declared.kinds.ExportKind.{ExportKind}
use Rattle.standard_kinds.specs.declared.kinds.ExportKind.TheVariants as kinds
use Rattle.comp_bytes.specs.declared.types.Member.{Member}
use Rattle.comp_bytes.specs.declared.canon.Intrinsic.{Intrinsic}
use Rattle.comp_bytes.specs.declared.canon.CanonicalOption.{CanonicalOption}
use Rattle.comp_bytes.specs.declared.canon.CanonicalOption.TheVariants as options
use Rattle.standard_kinds.specs.declared.kinds.StringEncoding.{StringEncoding}
use Rattle.comp_bytes.specs.declared.def.Item.TheVariants as items
use Rattle.comp_bytes.specs.declared.def.Def.{Def}
use Rattle.comp_bytes.specs.declared.def.Def.TheVariants as defs
use Rattle.comp_trees.specs.Trees.{Tree, Origin, Resource, ResourceAt, FunctionTree}
use Rattle.comp_trees.specs.DefinedTrees.{TypeTree, OfValues, OfFunctions, values_of}
use Rattle.comp_trees.specs.Operands.{IsOperand}
use Rattle.comp_trees.specs.DefinedScopes.{Denotes}
use Rattle.comp_inventories.specs.Inventories.{TypeEntry, OfInstances, FunctionEntry, InstanceEntry, entry_tree, no_function, inventory, scope_of}
use Rattle.comp_worlds.specs.Bases.{cell_type}
use Rattle.comp_worlds.specs.declared.world.ComponentWorld.{ComponentWorld}
use Rattle.comp_runs.specs.Store.{Thing, Export, HeldOption, HeldEncoding, HeldMemory, HeldRealloc, HeldPostReturn, HeldAsync, HeldCallback, Lowering, IntrinsicOf, ExportedBy, Function, Imported, Lifting, TypeItem, TreeOf, item_tree, tree_held, ModuleInstance, Store}
use Rattle.comp_roles.specs.Matching.{kind_of}
use Rattle.comp_roles.specs.declared.offered.ExternType.{ExternType}
use Rattle.comp_roles.specs.declared.offered.ExternType.TheVariants as externs
use Rattle.wit_data.specs.declared.ids.TypeId.{TypeId}
use Rattle.comp_links.specs.Targets.{WorldFunction, ExportRef, TargetOption, Lowered, ExportOf, MainMemory, Unlinked, OfResource, BuiltIn, TlsGet, TlsSet, ResourceFunction, Operand, operand_tree, Lifted, Target}
use Rattle.comp_links.specs.Targets as targets
use Rattle.comp_links.specs.Modules.{WorldModule, user_modules}
use Rattle.comp_links.specs.Lists.{IsOriginOf, resource_of}
use Rattle.shim_plan.specs.declared.shims.Shim.{Shim}
use Rattle.world_shims.specs.WorldShims.{shims_of, type_of_shim}
use Rattle.comp_roles.specs.Lookups.{first_memory}
use Rattle.shim_modules.specs.Shims.{getter_name, setter_name}
use Rattle.shim_runs.specs.ShimRuns.{IsShimAt, AreOfCell, exported_function, memory_name, memory_at}
use Rattle.shim_runs.proofs.Placed.{shim_at}
use Rattle.shim_runs.proofs.Exported.{shims_found}
use Rattle.link_laws.specs.Composition.{at_root, item_instantiates}
use Rattle.comp_terms.proofs.HasShims.{has_by_place, has_by_memory, has_by_cell}
use Rattle.comp_terms.specs.Generated.{has_shim_module, shims_number, number_behind, fixup_number}
use Rattle.comp_worlds.specs.Offered.{shared_memory}
use Rattle.comp_terms.specs.Terms.{CoreExport, TermOption, Term, Is, IsFunctionType, IsImportedFunction, IsInstanceOf, IsExported, IsOption, IsResource, IsLowering, IsOfResource, intrinsic_of, IsLifting}
use Rattle.comp_terms.specs.Terms as terms
use Rattle.comp_terms.specs.Planned.{IsExportFor, memory_from, IsMemoryFor, IsShimPlace, shim_export, cell_export, IsReallocFor, IsOptionFor, IsTypeOf, IsTermFor, IsItemFor, IsShimFor, IsLiftFor}
use Rattle.comp_runs.specs.Machine.{Scope, address_at, is_of, export_named, export_in, export_of}
use Rattle.comp_runs.specs.Instances.{type_space, type_at}
use Rattle.comp_runs.specs.Signatures.{core_signature, intrinsic_signature}
use Rattle.instance_laws.specs.Instantiated.{IsHeldAs, AreHeldAs}
use Rattle.instance_laws.specs.InstanceEntries.{IsInstanceType, IsInstanceEntry}
use Rattle.instance_laws.proofs.Held.{trees_of_held, held_of_entries, IsTypeThere, type_there as held_at, item_of_functions}
use Rattle.link_laws.proofs.Zips.{AllZip-filter, AllZip-back, mapped_some, filter-both, found-zip, found-each}
use Rattle.link_laws.proofs.BaseRoles.{NeedsCell}
use Rattle.link_laws.proofs.Plain.{named_main}
use Rattle.link_laws.proofs.BuiltIns.{resource_signature, resource_parts}
use Rattle.link_laws.proofs.Stores.{IsOpaqueOf, IsUserItem, IsUserExport, IsUserInstance, ShimsAt, exports_of_shims, AreModuleExports, IsModuleInstance, NamesUser, IsLoweredItem, IsTypeAt, IsHeldOperand, IsIntrinsicItem, IsLiftedItem, IsAliasedItem, DefIs, Means, makes, IsTypeEntry, entry_of, IsFunctionEntry, IsInstanceThing, IsLoweredFor, IsFunctionOf, IsBuiltInAt, IsCellGetter, IsCellSetter, IsFunctionExported, IsItemTyped, IsItemExported, IsServedAs, IsServedIn, main_module, IsShimGivenAt, IsShimGiven, MayHaveShims, AreShims, IsMemoryExported, IsTypeOfMemory, IsMemoryOfMain, IsShimExported, IsReallocHeld, HasSharedMemory, IsHeldOption, IsOptionHeld, IsCoreExportAt, IsLiftedFrom, Agrees}

makes-space : (space : Space) (d : Def) → is_space space (space_of d) ≡ true → makes d ≡ true
makes-space space d e = by (space_of d) e
  where
    by : (o : Option Space) → is_space space o ≡ true → is_some o ≡ true
    by None e = cc
    by (Some t) e = refl

-- an export that is found has the name
pub found_name : (name : List ℕ) (es : List Export) (e : Export) → export_named name es ≡ Some e → e.name ≡ name
found_name name es e h = (found-each (λ (e : Export). e.name) (λ (e : Export). Unit {0}) name es e (all_there es) h).0
  where
    all_there : (es : List Export) → AllByRecursion (λ (e : Export). Unit {0}) es
    all_there [] = tt
    all_there (e ∷ es) = (tt, all_there es)

-- exports of a user instance by their names, with the types that validation found
abbrev pub IsOfType : Store → ℕ → Export → ExternType → Type 0
IsOfType s user e type = (e.space ≡ type_space type) × IsUserItem s user e type

pub exports_named : (s : Store) (user : ℕ) (es : List Export) (os : List (List ℕ × ExternType)) → AllZip (IsUserExport s user) es os →
    AllZip (λ (x : List ℕ × Export) (z : List ℕ × ExternType). (x.0 ≡ z.0) × IsOfType s user x.1 z.1) (map (λ (e : Export). (e.name, e)) es) os
exports_named s user [] [] k = tt
exports_named s user (e ∷ es) (o ∷ os) k = ((k.0.named, (k.0.space, k.0.is)), exports_named s user es os k.1)
exports_named s user [] (o ∷ os) k = absurd k
exports_named s user (e ∷ es) [] k = absurd k

abbrev function_in_tree : FunctionTree → TypeItem → FunctionTree
function_in_tree other (TreeOf (OfFunctions type)) = type
function_in_tree other item = other

abbrev type_in : Function → FunctionTree
type_in (Imported origin type) = type
type_in (Lifting core options type) = type

abbrev tree_in : FunctionTree → TypeTree → FunctionTree
tree_in other (OfFunctions type) = type
tree_in other tree = other

imported_of_entry : (f : Function) (origin : Origin) (type : FunctionTree) → entry_of f ≡ record { origin = Some origin; type = OfFunctions type } → f ≡ Imported origin type
imported_of_entry (Imported o t) origin type e =
    let from : Some o ≡ Some origin = ap (λ (e : FunctionEntry). e.origin) e in
    let typed : OfFunctions t ≡ OfFunctions type = ap (λ (e : FunctionEntry). e.type) e in
    ap₂ (λ (o : Origin) (t : FunctionTree). Imported o t) (same_Some o origin from) (ap (tree_in type) typed)
imported_of_entry (Lifting core options t) origin type e = let no : None ≡ Some origin = ap (λ (e : FunctionEntry). e.origin) e in absurd (none-some origin no)

-- one index names one type
same_type_at : {things : List Thing} {s : Store} {kind : ℕ} {t u : FunctionTree} → IsTypeAt things s kind t → IsTypeAt things s kind u → t ≡ u
same_type_at {things} {s} {kind} {t} {u} h k =
    let same : h.address ≡ k.address = same_Some h.address k.address (sym h.at ∙ k.at) in
    let both : Some (TreeOf (OfFunctions t)) ≡ Some (TreeOf (OfFunctions u)) = sym h.is ∙ (ap (slice_get s.types) same ∙ k.is) in
    ap (function_in_tree u) (same_Some (TreeOf (OfFunctions t)) (TreeOf (OfFunctions u)) both)

-- what validation found of a kind
type_of_function_kind : (type : ExternType) → kind_of type ≡ kinds.Func → (t : FuncType) × (type ≡ externs.Func t)
type_of_function_kind (externs.Func t) e = (t, refl)
type_of_function_kind (externs.Table t) e = cc
type_of_function_kind (externs.Memory t) e = cc
type_of_function_kind (externs.Global t) e = cc

-- the type of an item in the space of memories
memory_of_space : (type : ExternType) → type_space type ≡ spaces.CoreMemory → (t : MemoryType) × (type ≡ externs.Memory t)
memory_of_space (externs.Memory t) e = (t, refl)
memory_of_space (externs.Func t) e = cc
memory_of_space (externs.Table t) e = cc
memory_of_space (externs.Global t) e = cc

pub space_of_kind : (kind : ExportKind) (type : ExternType) → kind_of type ≡ kind → type_space type ≡ kind_space kind
space_of_kind kind (externs.Func t) e = ap kind_space e
space_of_kind kind (externs.Table t) e = ap kind_space e
space_of_kind kind (externs.Memory t) e = ap kind_space e
space_of_kind kind (externs.Global t) e = ap kind_space e

-- what is at the address of an export that is no function
item_typed : (s : Store) (user : ℕ) (e : Export) (type : ExternType) → (kind_of type ≡ kinds.Func → ⊥) → IsUserItem s user e type → IsItemTyped s e.address type
item_typed s user e (externs.Func t) other h = absurd (other refl)
item_typed s user e (externs.Table t) other h = h
item_typed s user e (externs.Memory t) other h = h
item_typed s user e (externs.Global t) other h = h

-- an export is equal to the record of its parts
pub by_parts : (e : Export) (space : Space) (name : List ℕ) → e.space ≡ space → e.name ≡ name → e ≡ record { space = space; name = name; address = e.address }
by_parts e space name same_space same_name = rw (← same_space, ← same_name) refl

-- an export that is found by its name is found among those of its space
pub named_in_space : (space : Space) → is_space space (Some space) ≡ true → (name : List ℕ) (es : List Export) (e : Export) → export_named name es ≡ Some e → e.space ≡ space → export_of space name es ≡ Some e
named_in_space space own name [] e h same = h
named_in_space space own name (x ∷ es) e h same = by (bytes_eq name x.name) (export_in space x) refl refl (λ k. named_in_space space own name es e k same) h
  where
    by : (named inside : Bool) → bytes_eq name x.name ≡ named → export_in space x ≡ inside → (export_named name es ≡ Some e → export_of space name es ≡ Some e) → cond named (Some x) (export_named name es) ≡ Some e → export_of space name (x ∷ es) ≡ Some e
    by true true n i rest k = rw (i, n) k
    by false true n i rest k = rw (i, n) (rest k)
    by false false n i rest k = rw i (rest k)
    by true false n i rest k =
        let is : export_in space x ≡ true = ap (λ (y : Export). export_in space y) (same_Some x e k) ∙ (ap (λ other. is_space space (Some other)) same ∙ own) in
        absurd (true≢false (sym is ∙ i))

-- ---- instances of modules by their numbers

-- one core instance is made of one module
abbrev number_in : ℕ → Def → ℕ
number_in other (defs.Item (items.CoreInstantiate number arguments)) = number
number_in other d = other

one_instance : {ds : List Def} {index m n : ℕ} → IsInstanceOf ds index m → IsInstanceOf ds index n → m ≡ n
one_instance {ds} {index} {m} {n} h k = ap (number_in n) (same_Some (defs.Item (items.CoreInstantiate m h.arguments)) (defs.Item (items.CoreInstantiate n k.arguments)) (sym h.made.made ∙ k.made.made))

-- the number of a user module is none of a generated module
pub user_below : (w : ComponentWorld) (number : ℕ) (of : WorldModule) → slice_get (user_modules w) number ≡ Some of → number < shims_number w
user_below w number of listed = slice_get_within (user_modules w) number of listed

pub apart : (m n : ℕ) → m < n → m ≡ n → ⊥
apart m n l e = omega (arith, l, e)

apart_after : (m n : ℕ) → m < n → m ≡ suc n → ⊥
apart_after m n l e = omega (arith, l, e)

pub not_shims : (w : ComponentWorld) (number : ℕ) → number < shims_number w → number ≡ shims_number w → ⊥
not_shims w number l e = apart number (shims_number w) l e

pub not_fixup : (w : ComponentWorld) (number : ℕ) → number < shims_number w → number ≡ fixup_number w → ⊥
not_fixup w number l e = by (has_shim_module w) e
  where
    by : (b : Bool) → number ≡ number_behind b (shims_number w) → ⊥
    by true e = apart_after number (shims_number w) l e
    by false e = apart number (shims_number w) l e

-- where there is a module of shims, the fixup comes behind it
pub fixup_behind : (w : ComponentWorld) → has_shim_module w ≡ true → fixup_number w ≡ suc (shims_number w)
fixup_behind w has = ap (λ b. number_behind b (shims_number w)) has

-- an instance of the module with the number of a user module is one of that
of_user : (w : ComponentWorld) (shims : Option ShimsAt) (s : Store) (number address : ℕ) (of : WorldModule) → slice_get (user_modules w) number ≡ Some of → IsModuleInstance w shims s number address → IsUserInstance s number of address
of_user w shims s number address of listed h = record { exports = h.exports; user = h.user; present = h.present; is = h.is; same = h.same; each = by shims h.each }
  where
    below : number < shims_number w
    below = user_below w number of listed

    by : (shims : Option ShimsAt) → AreModuleExports w shims s h.user number h.exports → AllZip (IsUserExport s h.user) h.exports of.found.offered
    by shims (inl k) = subst (λ (o : WorldModule). AllZip (IsUserExport s h.user) h.exports o.found.offered) (same_Some k.of of (sym k.listed ∙ listed)) k.each
    by None (inr (inl k)) = absurd k
    by (Some at) (inr (inl k)) = absurd (not_shims w number below k.0)
    by shims (inr (inr e)) = absurd (not_fixup w number below e)

names_user : (w : ComponentWorld) (number : ℕ) (kind : ExportKind) (name : List ℕ) → number < shims_number w → NamesUser w number kind name ⊎ (number ≡ shims_number w) → NamesUser w number kind name
names_user w number kind name below (inl h) = h
names_user w number kind name below (inr e) = absurd (not_shims w number below e)

-- the instance of the shims exports them
pub of_shims : (w : ComponentWorld) (s : Store) (numbers : List ℕ) (user : ℕ) (exports : List Export) (shims : Option ShimsAt) → has_shim_module w ≡ true → MayHaveShims w s numbers shims → AreModuleExports w shims s user (shims_number w) exports →
    (at : ShimsAt) × (shims ≡ Some at) × (exports ≡ exports_of_shims w at) × (length (shims_of w) < 2 ^ 32)
of_shims w s numbers user exports shims has there (inl k) = absurd (not_shims w (shims_number w) (user_below w (shims_number w) k.of k.listed) refl)
of_shims w s numbers user exports None has there (inr (inl k)) = absurd k
of_shims w s numbers user exports (Some at) has there (inr (inl k)) = (at, refl, k.1, there.room)
of_shims w s numbers user exports shims has there (inr (inr e)) = let no : shims_number w ≡ suc (shims_number w) = e ∙ fixup_behind w has in absurd (omega (arith, no))

-- the core function has this core type
pub record IsFunctionTyped (s : Store) (address : ℕ) (type : FuncType) : Type 0 where
  pub function : Func
  pub present : slice_get s.code.functions address ≡ Some function
  pub typed : signature_of function ≡ type

-- a core function is of one kind
pub func_kind : (kind : ExportKind) → kind_space kind ≡ spaces.CoreFunc → kind ≡ kinds.Func
func_kind kinds.Func e = refl
func_kind kinds.Table e = cc
func_kind kinds.Memory e = cc
func_kind kinds.Global e = cc

-- a table is no function, nor is a memory or a global
pub table_apart : spaces.CoreTable ≡ spaces.CoreFunc → ⊥
table_apart e = cc

pub memory_apart : spaces.CoreMemory ≡ spaces.CoreFunc → ⊥
memory_apart e = cc

pub global_apart : spaces.CoreGlobal ≡ spaces.CoreFunc → ⊥
global_apart e = cc

-- a table or a global is no memory
no_table_memory : (kind : ExportKind) → kind ≡ kinds.Memory → spaces.CoreTable ≡ kind_space kind → ⊥
no_table_memory kind same e = let no : spaces.CoreTable ≡ spaces.CoreMemory = e ∙ ap kind_space same in cc

no_global_memory : (kind : ExportKind) → kind ≡ kinds.Memory → spaces.CoreGlobal ≡ kind_space kind → ⊥
no_global_memory kind same e = let no : spaces.CoreGlobal ≡ spaces.CoreMemory = e ∙ ap kind_space same in cc

module _ {w : ComponentWorld} {earlier : List Def} {c : Scope} {s : Store} {g : List ValType} (a : Agrees w earlier c s g) where
  defined_there : (space : Space) (index : ℕ) → index < items_in space earlier → (d : Def) × (slice_get (in_space space earlier) index ≡ Some d)
  defined_there space index l =
      let counted : length (in_space space earlier) ≡ items_in space earlier = length-filter (λ d. is_space space (space_of d)) earlier in
      there (in_space space earlier) index (subst (λ n. index < n) (sym counted) l)

  -- the definitions of a space, and the items that they made
  in_space-along : (space : Space) → AllZip (Means w a.shims earlier c.items s) (in_space space earlier) (filter (is_of space) c.items)
  in_space-along space =
      subst (λ ds. AllZip (Means w a.shims earlier c.items s) ds (filter (is_of space) c.items)) (filter-both (λ d. is_space space (space_of d)) makes (makes-space space) earlier)
      (AllZip-filter (Means w a.shims earlier c.items s) (λ d. is_space space (space_of d)) (is_of space) (λ d t h. ap (is_space space) h.space) (filter makes earlier) c.items a.means)

  -- the item that a definition made has an address
  pub thing_there : {space : Space} {index : ℕ} {d : Def} → IsAt earlier space index d → (x : ℕ) × (address_at space index c.items ≡ Some x) × DefIs w a.shims earlier c.items s d x
  thing_there {space} {index} {d} h =
      let z : (t : Thing) × (slice_get (filter (is_of space) c.items) index ≡ Some t) × Means w a.shims earlier c.items s d t =
      AllZip-at (Means w a.shims earlier c.items s) (in_space space earlier) (filter (is_of space) c.items) index d (in_space-along space) h.made in
      (z.0.address, ap (option_map (λ (t : Thing). t.address)) z.1, z.2.is)

  -- an index below the count of its space names an item
  pub address_there : (space : Space) (index : ℕ) → index < items_in space earlier → (x : ℕ) × (address_at space index c.items ≡ Some x)
  address_there space index l =
      let d : (d : Def) × (slice_get (in_space space earlier) index ≡ Some d) = defined_there space index l in
      let at : IsAt earlier space index d.0 = record { made = d.1 } in
      let x : (x : ℕ) × (address_at space index c.items ≡ Some x) × DefIs w a.shims earlier c.items s d.0 x = thing_there at in
      (x.0, x.1)

  -- the types of the scope denote what the inventory says
  pub all_held : AreHeldAs s.types (scope_of earlier) c.items
  all_held =
      held_of_entries s.types (inventory earlier) c.items
      (AllZip-weaker (λ e (t : Thing) (h : IsTypeEntry s e t). record { item = h.item; present = h.present; denotes = h.denotes }) (inventory earlier).types (filter (is_of spaces.Type) c.items) a.types)

  pub scope_there : map (λ (t : Thing). tree_held s.types t.address) (filter (is_of spaces.Type) c.items) ≡ scope_of earlier
  scope_there = trees_of_held s.types (scope_of earlier) c.items all_held

  -- an index of a type has an entry, and names a type that is what the entry says
  pub entry_there : {index : ℕ} → index < length (scope_of earlier) →
      (e : TypeEntry) × (slice_get (inventory earlier).types index ≡ Some e) × (t : Thing) × (slice_get (filter (is_of spaces.Type) c.items) index ≡ Some t) × IsTypeEntry s e t
  entry_there {index} l =
      let es : List TypeEntry = (inventory earlier).types in
      let e : (e : TypeEntry) × (slice_get es index ≡ Some e) = there es index (subst (λ n. index < n) (length-map es entry_tree) l) in
      let t = AllZip-at (IsTypeEntry s) es (filter (is_of spaces.Type) c.items) index e.0 a.types e.1 in
      (e.0, e.1, t.0, t.1, t.2)

  -- what the type of this index denotes, it denotes in the run
  pub held_there : {index : ℕ} {tree : TypeTree} → Denotes (scope_of earlier) index tree → (x : ℕ) × (address_at spaces.Type index c.items ≡ Some x) × IsHeldAs s.types tree x
  held_there {index} {tree} h =
      let x : IsTypeThere s.types (scope_of earlier) c.items index = held_at s.types (scope_of earlier) c.items index all_held h.within in
      (x.address, x.at, subst (λ tree. IsHeldAs s.types tree x.address) h.tree x.is)

  -- the type of this index is this type of functions
  pub type_there : {index : ℕ} {type : FunctionTree} → IsFunctionType earlier index type → IsTypeAt c.items s index type
  type_there {index} {type} h =
      let x = held_there h.denotes in
      record { address = x.0; at = x.1; is = x.2.present ∙ ap (λ (i : TypeItem). Some i) (item_of_functions x.2.item type x.2.denotes) }

  -- the type of instances of this index
  pub instance_type_there : (index : ℕ) (outer : List TypeTree) (members : List Member) → slice_get (inventory earlier).types index ≡ Some (OfInstances outer members) →
      (item : TypeItem) × ((now : Now) → type_at index (record { scope = c; store = s; now = now }) ≡ Some item) × IsInstanceType s.types outer members item
  instance_type_there index outer members h =
      let t = AllZip-at (IsTypeEntry s) (inventory earlier).types (filter (is_of spaces.Type) c.items) index (OfInstances outer members) a.types h in
      (t.2.item, λ now. ap (λ (o : Option Thing). option_and_then (slice_get s.types) (option_map (λ (t : Thing). t.address) o)) t.1 ∙ t.2.present, t.2.is)

  -- the instance of this index is what the inventory says
  pub instance_there : (index : ℕ) (e : InstanceEntry) → slice_get (inventory earlier).instances index ≡ Some e →
      (x : ℕ) × (address_at spaces.Instance index c.items ≡ Some x) × (exports : List Export) × (slice_get s.instances x ≡ Some exports) × IsInstanceEntry s.types s.functions e exports
  instance_there index e h =
      let t = AllZip-at (IsInstanceThing s) (inventory earlier).instances (filter (is_of spaces.Instance) c.items) index e a.instances h in
      (t.0.address, ap (option_map (λ (t : Thing). t.address)) t.1, t.2.exports, t.2.present, t.2.is)

  -- a function of the inventory
  function_there : (index : ℕ) (e : FunctionEntry) → slice_get (inventory earlier).functions index ≡ Some e → (x : ℕ) × (address_at spaces.Func index c.items ≡ Some x) × IsFunctionEntry s e (record { space = spaces.Func; address = x })
  function_there index e h =
      let t = AllZip-at (IsFunctionEntry s) (inventory earlier).functions (filter (is_of spaces.Func) c.items) index e a.functions h in
      (t.0.address, ap (option_map (λ (t : Thing). t.address)) t.1, record { function = t.2.function; present = t.2.present; same = t.2.same })

  -- the entry of a function of the scope
  pub function_at : (index x : ℕ) → address_at spaces.Func index c.items ≡ Some x → (e : FunctionEntry) × IsFunctionEntry s e (record { space = spaces.Func; address = x }) × (get_or (inventory earlier).functions index no_function ≡ e)
  function_at index x at =
      let things : List Thing = filter (is_of spaces.Func) c.items in
      let t : (t : Thing) × (slice_get things index ≡ Some t) × (t.address ≡ x) = mapped_some (λ (t : Thing). t.address) (slice_get things index) x at in
      let e = AllZip-back (IsFunctionEntry s) (inventory earlier).functions things index t.0 a.functions t.1 in (
        e.0,
        record { function = e.2.function; present = ap (slice_get s.functions) (sym t.2) ∙ e.2.present; same = e.2.same },
        get_or_from_slice_get (inventory earlier).functions index e.0 no_function e.1,
      )

  -- a function that is imported is the import with its number
  pub imported_there : {index : ℕ} {origin : Origin} {type : FunctionTree} → IsImportedFunction earlier index origin type →
      (x : ℕ) × (address_at spaces.Func index c.items ≡ Some x) × (slice_get s.functions x ≡ Some (Imported origin type))
  imported_there {index} {origin} {type} h =
      let x = function_there index (record { origin = Some origin; type = OfFunctions type }) h.is in
      (x.0, x.1, x.2.present ∙ ap (λ (f : Function). Some f) (imported_of_entry x.2.function origin type x.2.same))

  -- the item of an intrinsic
  intrinsic_there : {index : ℕ} (i : Intrinsic) → IsAt earlier spaces.CoreFunc index (defs.Item (items.Intrinsic i)) → (x : ℕ) × (address_at spaces.CoreFunc index c.items ≡ Some x) × IsIntrinsicItem c.items s (parts_of i) x
  intrinsic_there i made = thing_there made

  -- what its operand is held as, it denotes
  operand_there : (written : Option ComponentValType) (held operand : Option Tree) → IsHeldOperand c.items s written held → IsOperand (scope_of earlier) written operand → held ≡ operand
  operand_there None None None h of = refl
  operand_there (Some (values.Primitive p)) (Some t) (Some u) h of = ap (λ (x : Tree). Some x) (sym h ∙ of)
  operand_there (Some (values.Defined index)) (Some t) (Some u) h of =
      let x : (x : ℕ) × (address_at spaces.Type index c.items ≡ Some x) × IsHeldAs s.types (OfValues u) x = held_there of in
      let at : x.0 ≡ h.address = same_Some x.0 h.address (sym x.1 ∙ h.at) in
      let here : IsHeldAs s.types (OfValues u) h.address = subst (IsHeldAs s.types (OfValues u)) at x.2 in
      let item : h.is.item ≡ here.item = same_Some h.is.item here.item (sym h.is.present ∙ here.present) in
      ap (λ (t : TypeTree). Some (values_of t)) (sym h.is.denotes ∙ (ap item_tree item ∙ here.denotes))
  operand_there None None (Some u) h of = absurd of
  operand_there None (Some t) operand h of = absurd h
  operand_there (Some (values.Primitive p)) None operand h of = absurd h
  operand_there (Some (values.Defined index)) None operand h of = absurd h
  operand_there (Some v) (Some t) None h of = absurd of

  -- so a function of a resource's handles is of that resource
  of_resource_at : (function : ResourceFunction) (type : ℕ) (resource : Resource) (x : ℕ) → IsIntrinsicItem c.items s (parts_of_type (intrinsic_of function 0) type) x → IsResource earlier type resource → IsFunctionOf s x function resource
  of_resource_at function type resource x h of =
      let operand : h.operand ≡ Some (ResourceAt resource) = operand_there (Some (values.Defined type)) h.operand (Some (ResourceAt resource)) h.of of.denotes in
      let name : Intrinsic = intrinsic_of function 0 in
      let is : IsOpaqueOf s x (intrinsic_signature name (Some (ResourceAt resource))) (IntrinsicOf name (Some (ResourceAt resource)) []) =
      subst (λ (o : Option Tree). IsOpaqueOf s x (intrinsic_signature name o) (IntrinsicOf name o [])) operand (subst (λ (os : List HeldOption). IsOpaqueOf s x (intrinsic_signature name h.operand) (IntrinsicOf name h.operand os)) (none_held h.held h.with_options) h.is) in
      record { is = subst (λ (t : FuncType). IsOpaqueOf s x t (IntrinsicOf name (Some (ResourceAt resource)) [])) (resource_signature function (Some (ResourceAt resource))) is }
    where
      none_held : (held : List HeldOption) → AllZip (IsHeldOption c.items) [] held → held ≡ []
      none_held [] h = refl
      none_held (o ∷ os) h = absurd h

  pub of_resource_there : {index : ℕ} {function : ResourceFunction} {resource : Resource} → IsOfResource earlier index function resource → (x : ℕ) × (address_at spaces.CoreFunc index c.items ≡ Some x) × IsFunctionOf s x function resource
  of_resource_there {index} {function} {resource} h =
      let l : (x : ℕ) × (address_at spaces.CoreFunc index c.items ≡ Some x) × IsIntrinsicItem c.items s (parts_of (intrinsic_of function h.type)) x = intrinsic_there (intrinsic_of function h.type) h.made in
      (l.0, l.1, of_resource_at function h.type resource l.0 (subst (λ (p : Parts). IsIntrinsicItem c.items s p l.0) (resource_parts function h.type) l.2) h.of)

  -- the instance of a module, and of a user module
  pub module_there : {index number : ℕ} → IsInstanceOf earlier index number → (x : ℕ) × (address_at spaces.CoreInstance index c.items ≡ Some x) × IsModuleInstance w a.shims s number x
  module_there h = let x = thing_there h.made in (x.0, x.1, x.2)

  pub user_there : {index number : ℕ} (of : WorldModule) → slice_get (user_modules w) number ≡ Some of → IsInstanceOf earlier index number → (x : ℕ) × (address_at spaces.CoreInstance index c.items ≡ Some x) × IsUserInstance s number of x
  user_there {index} {number} of listed h =
      let x : (x : ℕ) × (address_at spaces.CoreInstance index c.items ≡ Some x) × IsModuleInstance w a.shims s number x = module_there h in
      (x.0, x.1, of_user w a.shims s number x.0 of listed x.2)

  -- what a user module offers is found among the exports of its instance
  pub offered_there : (number : ℕ) (of : WorldModule) (address : ℕ) (u : IsUserInstance s number of address) (name : List ℕ) (type : ExternType) → found name of.found.offered ≡ Some type →
      (e : Export) × (export_named name u.exports ≡ Some e) × (e.space ≡ type_space type) × IsUserItem s u.user e type
  offered_there number of address u name type h =
      let x = found-zip (IsOfType s u.user) name (map (λ (e : Export). (e.name, e)) u.exports) of.found.offered type (exports_named s u.user u.exports of.found.offered u.each) h in
      (x.0, x.1, x.2.0, x.2.1)

  -- an alias of an export of a user module is that export of an instance of it, of its type
  exported_there : {index : ℕ} {e : CoreExport} (from : WorldModule) → slice_get (user_modules w) e.of ≡ Some from → IsExported earlier index e → IsCoreExportAt from c.items s index e
  exported_there {index} {e} from listed h =
      let l : (x : ℕ) × (address_at (kind_space e.kind) index c.items ≡ Some x) × IsAliasedItem w earlier c.items s e.kind h.instance e.name x = thing_there h.made in
      let m : (x : ℕ) × (address_at spaces.CoreInstance h.instance c.items ≡ Some x) × IsUserInstance s e.of from x = user_there from listed h.of in
      let number : l.2.number ≡ e.of = one_instance l.2.of h.of in
      let names : NamesUser w l.2.number e.kind e.name = names_user w l.2.number e.kind e.name (subst (λ n. n < shims_number w) (sym number) (user_below w e.of from listed)) l.2.names in
      let one_module : names.of ≡ from = same_Some names.of from (sym names.listed ∙ (ap (slice_get (user_modules w)) number ∙ listed)) in
      let offered : found e.name from.found.offered ≡ Some names.type = subst (λ (o : WorldModule). found e.name o.found.offered ≡ Some names.type) one_module names.offered in
      let same : m.0 ≡ l.2.from = same_Some m.0 l.2.from (sym m.1 ∙ l.2.at) in
      let exports : m.2.exports ≡ l.2.exports = same_Some m.2.exports l.2.exports (sym m.2.present ∙ (ap (slice_get s.core_instances) same ∙ l.2.present)) in
      let x = offered_there e.of from m.0 m.2 e.name names.type offered in
      let is : x.0 ≡ l.2.export = same_Some x.0 l.2.export (sym x.1 ∙ (ap (export_named e.name) exports ∙ l.2.found)) in
      record {
        address = l.0;
        at = l.1;
        type = names.type;
        offered = offered;
        of_kind = names.of_kind;
        user = m.2.user;
        of = m.2.is;
        export = x.0;
        found = subst (λ es. export_named e.name es ≡ Some x.0) (sym m.2.same) x.1;
        named = found_name e.name m.2.exports x.0 x.1;
        space = x.2;
        is = ap (λ (y : Export). y.address) is ∙ l.2.is;
        item = x.3;
      }

  -- an alias of what the instance of the module of shims exports
  pub record IsOfShims (name : List ℕ) (address : ℕ) : Type 0 where
    pub at : ShimsAt
    pub made : a.shims ≡ Some at
    pub room : length (shims_of w) < 2 ^ 32
    pub user : ℕ
    pub instance : ModuleInstance
    pub present : slice_get s.module_instances user ≡ Some instance
    pub of : instance.module_number ≡ shims_number w
    pub exports : instance.exports ≡ exports_of_shims w at
    pub export : Export
    pub found : export_named name (exports_of_shims w at) ≡ Some export
    pub is : export.address ≡ address

  shims_aliased : {index : ℕ} → has_shim_module w ≡ true → (kind : ExportKind) (name : List ℕ) → IsExported earlier index (record { of = shims_number w; kind = kind; name = name }) →
      (x : ℕ) × (address_at (kind_space kind) index c.items ≡ Some x) × IsOfShims name x
  shims_aliased {index} has kind name h =
      let l : (x : ℕ) × (address_at (kind_space kind) index c.items ≡ Some x) × IsAliasedItem w earlier c.items s kind h.instance name x = thing_there h.made in
      let m : (x : ℕ) × (address_at spaces.CoreInstance h.instance c.items ≡ Some x) × IsModuleInstance w a.shims s (shims_number w) x = module_there h.of in
      let same : m.0 ≡ l.2.from = same_Some m.0 l.2.from (sym m.1 ∙ l.2.at) in
      let exports : m.2.exports ≡ l.2.exports = same_Some m.2.exports l.2.exports (sym m.2.present ∙ (ap (slice_get s.core_instances) same ∙ l.2.present)) in
      let at : (at : ShimsAt) × (a.shims ≡ Some at) × (m.2.exports ≡ exports_of_shims w at) × (length (shims_of w) < 2 ^ 32) =
      of_shims w s (flat_map (at_root item_instantiates) earlier) m.2.user m.2.exports a.shims has a.with_shims m.2.each in (
        l.0,
        l.1,
        record {
          at = at.0;
          made = at.1;
          room = at.3;
          user = m.2.user;
          instance = m.2.is.instance;
          present = m.2.is.present;
          of = m.2.is.of;
          exports = m.2.same ∙ at.2;
          export = l.2.export;
          found = ap (export_named name) (sym at.2 ∙ exports) ∙ l.2.found;
          is = l.2.is;
        },
      )

  -- under the digits of its place, that is the shim of the place
  shim_found : (place address : ℕ) → place < length (shims_of w) → (own : IsOfShims (decimal place) address) →
      (export_named (decimal place) (exports_of_shims w own.at) ≡ Some (record { space = spaces.CoreFunc; name = decimal place; address = address })) × (address ≡ own.at.address + place)
  shim_found place address listed own =
      let shim : ℕ → Export = λ n. record { space = spaces.CoreFunc; name = decimal place; address = n } in
      let found : export_named (decimal place) (exports_of_shims w own.at) ≡ Some (shim (own.at.address + place)) = (shims_found (shims_of w) own.at.address own.at.table own.at.memory (cell_type w)).found place listed own.room in
      let is : own.export ≡ shim (own.at.address + place) = same_Some own.export (shim (own.at.address + place)) (sym own.found ∙ found) in
      let same : address ≡ own.at.address + place = sym own.is ∙ ap (λ (y : Export). y.address) is in
      (found ∙ ap (λ n. Some (shim n)) (sym same), same)

  -- an alias of a shim is that shim
  shim_exported : {index place : ℕ} → place < length (shims_of w) → IsExported earlier index (shim_export w place) →
      (x : ℕ) × (address_at spaces.CoreFunc index c.items ≡ Some x) × (at : ShimsAt) × (a.shims ≡ Some at) × (x ≡ at.address + place)
  shim_exported {index} {place} listed h =
      let x : (x : ℕ) × (address_at spaces.CoreFunc index c.items ≡ Some x) × IsOfShims (decimal place) x = shims_aliased (has_by_place w place listed) kinds.Func (decimal place) h in
      (x.0, x.1, x.2.at, x.2.made, (shim_found place x.0 listed x.2).1)

  shim_held : {index place : ℕ} {target : Target} → IsShimPlace w place target → IsExported earlier index (shim_export w place) →
      (x : ℕ) × (address_at spaces.CoreFunc index c.items ≡ Some x) × IsShimExported w s x target
  shim_held {index} {place} {target} stands h =
      let listed : place < length (shims_of w) = slice_get_within (shims_of w) place stands.shim stands.listed in
      let x : (x : ℕ) × (address_at spaces.CoreFunc index c.items ≡ Some x) × IsOfShims (decimal place) x = shims_aliased (has_by_place w place listed) kinds.Func (decimal place) h in (
        x.0,
        x.1,
        record {
          place = place;
          stands = stands;
          user = x.2.user;
          instance = x.2.instance;
          present = x.2.present;
          of = x.2.of;
          exported = ap (export_named (decimal place)) x.2.exports ∙ (shim_found place x.0 listed x.2).0;
        },
      )

  -- an alias of the function that reads the cell is that function, and so is one of the function that sets it
  getter_there : {index : ℕ} (type : ValType) → cell_type w ≡ Some type → IsExported earlier index (cell_export w getter_name) → (x : ℕ) × (address_at spaces.CoreFunc index c.items ≡ Some x) × IsCellGetter w s x
  getter_there {index} type named h =
      let x : (x : ℕ) × (address_at spaces.CoreFunc index c.items ≡ Some x) × IsOfShims getter_name x = shims_aliased (has_by_cell w (ap is_some named)) kinds.Func getter_name h in
      let own : IsOfShims getter_name x.0 = x.2 in
      let there : AreShims w s (flat_map (at_root item_instantiates) earlier) own.at = subst (MayHaveShims w s (flat_map (at_root item_instantiates) earlier)) own.made a.with_shims in
      let first : ℕ = own.at.address + length (shims_of w) in
      let both : AreOfCell s.code (Some type) 0 first = subst (λ o. AreOfCell s.code o 0 first) named there.of_cell in
      let found : export_named getter_name (exports_of_shims w own.at) ≡ Some (exported_function getter_name first) = (shims_found (shims_of w) own.at.address own.at.table own.at.memory (cell_type w)).getter_named own.room type named in
      let is : own.export ≡ exported_function getter_name first = same_Some own.export (exported_function getter_name first) (sym own.found ∙ found) in
      let same : first ≡ x.0 = sym (ap (λ (y : Export). y.address) is) ∙ own.is in
      (x.0, x.1, record { type = type; named = named; user = own.user; instance = record { instance = own.instance; present = own.present; of = own.of }; is = subst (IsGetter s.code type 0) same both.0 })

  setter_there : {index : ℕ} (type : ValType) → cell_type w ≡ Some type → IsExported earlier index (cell_export w setter_name) → (x : ℕ) × (address_at spaces.CoreFunc index c.items ≡ Some x) × IsCellSetter w s x
  setter_there {index} type named h =
      let x : (x : ℕ) × (address_at spaces.CoreFunc index c.items ≡ Some x) × IsOfShims setter_name x = shims_aliased (has_by_cell w (ap is_some named)) kinds.Func setter_name h in
      let own : IsOfShims setter_name x.0 = x.2 in
      let there : AreShims w s (flat_map (at_root item_instantiates) earlier) own.at = subst (MayHaveShims w s (flat_map (at_root item_instantiates) earlier)) own.made a.with_shims in
      let first : ℕ = own.at.address + length (shims_of w) in
      let both : AreOfCell s.code (Some type) 0 first = subst (λ o. AreOfCell s.code o 0 first) named there.of_cell in
      let found : export_named setter_name (exports_of_shims w own.at) ≡ Some (exported_function setter_name (first + 1)) = (shims_found (shims_of w) own.at.address own.at.table own.at.memory (cell_type w)).setter_named own.room type named in
      let is : own.export ≡ exported_function setter_name (first + 1) = same_Some own.export (exported_function setter_name (first + 1)) (sym own.found ∙ found) in
      let same : first + 1 ≡ x.0 = sym (ap (λ (y : Export). y.address) is) ∙ own.is in
      (x.0, x.1, record { type = type; named = named; user = own.user; instance = record { instance = own.instance; present = own.present; of = own.of }; is = subst (IsSetter s.code type 0) same both.1 })

  -- an alias of a function that a user module exports is that function
  pub function_exported : {index : ℕ} {e : CoreExport} {export_ref : ExportRef} → e.kind ≡ kinds.Func → IsExportFor w e export_ref → IsExported earlier index e →
      (x : ℕ) × (address_at spaces.CoreFunc index c.items ≡ Some x) × IsFunctionExported w s x export_ref
  function_exported {index} {e} {export_ref} function asked h =
      let from : WorldModule = asked.of.world_module in
      let x : IsCoreExportAt from c.items s index e = exported_there from asked.of.listed h in
      let type : (t : FuncType) × (x.type ≡ externs.Func t) = type_of_function_kind x.type (x.of_kind ∙ function) in
      let opaque : IsOpaqueOf s x.export.address type.0 (ExportedBy x.user x.export.name) = subst (IsUserItem s x.user x.export) type.1 x.item in
      let renamed : IsOpaqueOf s x.export.address type.0 (ExportedBy x.user export_ref.name) = subst (λ t. IsOpaqueOf s x.export.address type.0 (ExportedBy x.user t)) (x.named ∙ asked.named) opaque in (
        x.address,
        subst (λ kind. address_at (kind_space kind) index c.items ≡ Some x.address) function x.at,
        record {
          number = e.of;
          of = asked.of;
          user = x.user;
          instance = x.of;
          type = type.0;
          is = subst (λ n. IsOpaqueOf s n type.0 (ExportedBy x.user export_ref.name)) x.is renamed;
          offered = ap (λ n. found n from.found.offered) (sym asked.named) ∙ x.offered ∙ ap Some type.1;
        },
      )

  -- an alias of an export of a user module that is no function is that item
  item_aliased : {index : ℕ} {e : CoreExport} {export_ref : ExportRef} → (e.kind ≡ kinds.Func → ⊥) → IsExportFor w e export_ref → IsExported earlier index e →
      (x : ℕ) × (address_at (kind_space e.kind) index c.items ≡ Some x) × IsItemExported w s (kind_space e.kind) x export_ref
  item_aliased {index} {e} {export_ref} other asked h =
      let from : WorldModule = asked.of.world_module in
      let space : Space = kind_space e.kind in
      let x : IsCoreExportAt from c.items s index e = exported_there from asked.of.listed h in
      let in_space : type_space x.type ≡ space = space_of_kind e.kind x.type x.of_kind in
      let exported : Export = record { space = space; name = export_ref.name; address = x.address } in
      let whole : x.export ≡ exported =
      by_parts x.export space export_ref.name (x.space ∙ in_space) (x.named ∙ asked.named) ∙ ap (λ n. record { space = space; name = export_ref.name; address = n }) x.is in (
        x.address,
        x.at,
        record {
          number = e.of;
          of = asked.of;
          user = x.user;
          instance = x.of;
          exported = ap (λ n. export_named n x.of.instance.exports) (sym asked.named) ∙ (x.found ∙ ap (λ (y : Export). Some y) whole);
          type = x.type;
          in_space = in_space;
          is = subst (λ n. IsItemTyped s n x.type) x.is (item_typed s x.user x.export x.type (λ f. other (sym x.of_kind ∙ f)) x.item);
          offered = ap (λ n. found n from.found.offered) (sym asked.named) ∙ x.offered;
        },
      )

  item_in : (space : Space) {index : ℕ} {e : CoreExport} {export_ref : ExportRef} → (space ≡ spaces.CoreFunc → ⊥) → space ≡ kind_space e.kind → IsExportFor w e export_ref → IsExported earlier index e →
      (x : ℕ) × (address_at space index c.items ≡ Some x) × IsItemExported w s space x export_ref
  item_in space {index} {e} {export_ref} other same asked h =
      subst (λ in_space. (x : ℕ) × (address_at in_space index c.items ≡ Some x) × IsItemExported w s in_space x export_ref) (sym same) (item_aliased (λ f. other (same ∙ ap kind_space f)) asked h)

  -- an alias of the first memory that main exports is that memory
  own_memory : {index : ℕ} (name : List ℕ) → IsExported earlier index (record { of = 0; kind = kinds.Memory; name = name }) →
      (x : ℕ) × (address_at spaces.CoreMemory index c.items ≡ Some x) × IsMemoryExported s x (record { of = 0; kind = kinds.Memory; name = name })
      × (type : MemoryType) × (slice_get s.code.memories x ≡ Some type) × (found name w.main.offered ≡ Some (externs.Memory type))
  own_memory {index} name h =
      let ref : ExportRef = record { of = targets.Main; name = name } in
      let named : IsExportFor w (record { of = 0; kind = kinds.Memory; name = name }) ref = record { of = record { world_module = main_module w; listed = refl; same = refl }; named = refl } in
      let x : (x : ℕ) × (address_at spaces.CoreMemory index c.items ≡ Some x) × IsItemExported w s spaces.CoreMemory x ref = item_in spaces.CoreMemory memory_apart refl named h in
      let m = x.2 in
      let is_main : (m.number ≡ 0) × (main_module w ≡ m.of.world_module) = named_main w m.number m.of in
      let type : (t : MemoryType) × (m.type ≡ externs.Memory t) = memory_of_space m.type m.in_space in (
        x.0,
        x.1,
        record {
          user = m.user;
          instance = m.instance.instance;
          present = m.instance.present;
          of = m.instance.of ∙ is_main.0;
          exported = named_in_space spaces.CoreMemory refl name m.instance.instance.exports (record { space = spaces.CoreMemory; name = name; address = x.0 }) m.exported refl;
        },
        type.0,
        subst (IsItemTyped s x.0) type.1 m.is,
        ap (λ (o : WorldModule). found name o.found.offered) is_main.1 ∙ (m.offered ∙ ap (λ (t : ExternType). Some t) type.1),
      )

  -- an alias of the memory that the module of shims exports is that memory
  shared_there : {index : ℕ} (type : MemoryType) → shared_memory w ≡ Some type → IsExported earlier index (record { of = shims_number w; kind = kinds.Memory; name = memory_name }) →
      (x : ℕ) × (address_at spaces.CoreMemory index c.items ≡ Some x) × IsMemoryExported s x (record { of = shims_number w; kind = kinds.Memory; name = memory_name }) × (slice_get s.code.memories x ≡ Some type)
  shared_there {index} type imported h =
      let x : (x : ℕ) × (address_at spaces.CoreMemory index c.items ≡ Some x) × IsOfShims memory_name x = shims_aliased (has_by_memory w type imported) kinds.Memory memory_name h in
      let own : IsOfShims memory_name x.0 = x.2 in
      let there : AreShims w s (flat_map (at_root item_instantiates) earlier) own.at = subst (MayHaveShims w s (flat_map (at_root item_instantiates) earlier)) own.made a.with_shims in
      let made : (y : ℕ) × (own.at.memory ≡ Some y) × (slice_get s.code.memories y ≡ Some type) = by own.at.memory (subst (λ o. HasSharedMemory s o own.at.memory) imported there.memory) in
      let all = shims_found (shims_of w) own.at.address own.at.table own.at.memory (cell_type w) in
      let found : export_named memory_name (exports_of_shims w own.at) ≡ Some (memory_at made.0) = all.memory_named own.room ∙ ap (option_map memory_at) made.1 in
      let is : own.export ≡ memory_at made.0 = same_Some own.export (memory_at made.0) (sym own.found ∙ found) in
      let same : made.0 ≡ x.0 = sym (ap (λ (y : Export). y.address) is) ∙ own.is in (
        x.0,
        x.1,
        record {
          user = own.user;
          instance = own.instance;
          present = own.present;
          of = own.of;
          exported = ap (export_of spaces.CoreMemory memory_name) own.exports ∙ (all.memory_found ∙ (ap (option_map memory_at) made.1 ∙ ap (λ n. Some (memory_at n)) same));
        },
        ap (slice_get s.code.memories) (sym same) ∙ made.2,
      )
    where
      by : (memory : Option ℕ) → HasSharedMemory s (Some type) memory → (y : ℕ) × (memory ≡ Some y) × (slice_get s.code.memories y ≡ Some type)
      by (Some y) held = (y, refl, held)
      by None held = absurd held

  -- an alias of main's memory is that memory
  memory_exported : {index : ℕ} {e : CoreExport} → IsMemoryFor w e → IsExported earlier index e → (x : ℕ) × (address_at spaces.CoreMemory index c.items ≡ Some x) × IsMemoryOfMain w s x
  memory_exported {index} {e} asked h = by (shared_memory w) refl (first_memory w.main.exports.exports) refl asked
    where
      by : (imported : Option MemoryType) → shared_memory w ≡ imported → (exported : Option (List ℕ × MemoryType)) → first_memory w.main.exports.exports ≡ exported → memory_from w imported exported ≡ Some e →
          (x : ℕ) × (address_at spaces.CoreMemory index c.items ≡ Some x) × IsMemoryOfMain w s x
      by (Some type) imported exported first is =
          let own : CoreExport = record { of = shims_number w; kind = kinds.Memory; name = memory_name } in
          let x = shared_there type imported (subst (IsExported earlier index) (sym (same_Some own e is)) h) in
          (x.0, x.1, record { export = own; named = asked ∙ sym is; is = x.2; held = type; present = x.3; offered = subst (λ o. IsTypeOfMemory w o own type) (sym imported) refl })
      by None imported (Some (name, type)) first is =
          let own : CoreExport = record { of = 0; kind = kinds.Memory; name = name } in
          let x = own_memory name (subst (IsExported earlier index) (sym (same_Some own e is)) h) in
          (x.0, x.1, record { export = own; named = asked ∙ sym is; is = x.2; held = x.3; present = x.4; offered = subst (λ o. IsTypeOfMemory w o own x.3) (sym imported) x.5 })
      by None imported None first is = absurd (none-some e is)

  -- ---- options

  encoding_there : (o : CanonicalOption) (x : HeldOption) (e : StringEncoding) (target : TargetOption) → IsHeldOption c.items o x → IsOption earlier o (terms.Encoding e) → IsOptionFor w (terms.Encoding e) target → IsOptionHeld w s x target
  encoding_there options.Utf8 (HeldEncoding e') e (targets.Encoding t) h is asked = h ∙ sym is ∙ asked
  encoding_there options.Utf16 (HeldEncoding e') e (targets.Encoding t) h is asked = h ∙ sym is ∙ asked
  encoding_there options.CompactUtf16 (HeldEncoding e') e (targets.Encoding t) h is asked = h ∙ sym is ∙ asked
  encoding_there options.Utf8 x e (targets.Encoding t) h is asked = absurd h
  encoding_there options.Utf16 x e (targets.Encoding t) h is asked = absurd h
  encoding_there options.CompactUtf16 x e (targets.Encoding t) h is asked = absurd h
  encoding_there o x e (targets.Encoding t) h is asked = absurd is
  encoding_there o x e target h is asked = absurd asked

  memory_there : (o : CanonicalOption) (x : HeldOption) (e : CoreExport) (target : TargetOption) → IsHeldOption c.items o x → IsOption earlier o (terms.Memory e) → IsOptionFor w (terms.Memory e) target → IsOptionHeld w s x target
  memory_there (options.Memory index) (HeldMemory a) e targets.Memory h is asked =
      let f = memory_exported asked is.1 in subst (IsMemoryOfMain w s) (same_Some f.0 a (sym f.1 ∙ h)) f.2
  memory_there (options.Memory index) x e targets.Memory h is asked = absurd h
  memory_there o x e targets.Memory h is asked = absurd is
  memory_there o x e target h is asked = absurd asked

  -- the function that an option names
  function_named : {index a : ℕ} {e : CoreExport} {export_ref : ExportRef} → e.kind ≡ kinds.Func → IsExported earlier index e → IsExportFor w e export_ref → address_at spaces.CoreFunc index c.items ≡ Some a → IsFunctionExported w s a export_ref
  function_named {index} {a} {e} {export_ref} function is asked at =
      let f = function_exported function asked is in
      subst (λ n. IsFunctionExported w s n export_ref) (same_Some f.0 a (sym f.1 ∙ at)) f.2

  realloc_named : {index a : ℕ} {e : CoreExport} {export_ref : ExportRef} → e.kind ≡ kinds.Func → IsExported earlier index e → IsReallocFor w e export_ref → address_at spaces.CoreFunc index c.items ≡ Some a → IsReallocHeld w s a export_ref
  realloc_named function is (inl asked) at = inl (function_named function is asked at)
  realloc_named {index} {a} {e} {export_ref} function is (inr asked) at =
      let x = shim_held asked.stands (subst (IsExported earlier index) asked.is is) in
      inr (subst (λ n. IsShimExported w s n (ExportOf export_ref)) (same_Some x.0 a (sym x.1 ∙ at)) x.2)

  realloc_there : (o : CanonicalOption) (x : HeldOption) (e : CoreExport) (target : TargetOption) → IsHeldOption c.items o x → IsOption earlier o (terms.Realloc e) → IsOptionFor w (terms.Realloc e) target → IsOptionHeld w s x target
  realloc_there (options.Realloc index) (HeldRealloc a) e (targets.Realloc export_ref) h is asked = realloc_named is.0 is.1 asked h
  realloc_there (options.Realloc index) x e (targets.Realloc export_ref) h is asked = absurd h
  realloc_there o x e (targets.Realloc export_ref) h is asked = absurd is
  realloc_there o x e target h is asked = absurd asked

  post_return_there : (o : CanonicalOption) (x : HeldOption) (e : CoreExport) (target : TargetOption) → IsHeldOption c.items o x → IsOption earlier o (terms.PostReturn e) → IsOptionFor w (terms.PostReturn e) target → IsOptionHeld w s x target
  post_return_there (options.PostReturn index) (HeldPostReturn a) e (targets.PostReturn export_ref) h is asked = function_named is.0 is.1 asked h
  post_return_there (options.PostReturn index) x e (targets.PostReturn export_ref) h is asked = absurd h
  post_return_there o x e (targets.PostReturn export_ref) h is asked = absurd is
  post_return_there o x e target h is asked = absurd asked

  callback_there : (o : CanonicalOption) (x : HeldOption) (e : CoreExport) (target : TargetOption) → IsHeldOption c.items o x → IsOption earlier o (terms.Callback e) → IsOptionFor w (terms.Callback e) target → IsOptionHeld w s x target
  callback_there (options.Callback index) (HeldCallback a) e (targets.Callback export_ref) h is asked = function_named is.0 is.1 asked h
  callback_there (options.Callback index) x e (targets.Callback export_ref) h is asked = absurd h
  callback_there o x e (targets.Callback export_ref) h is asked = absurd is
  callback_there o x e target h is asked = absurd asked

  async_there : (o : CanonicalOption) (x : HeldOption) (target : TargetOption) → IsHeldOption c.items o x → IsOption earlier o terms.Async → IsOptionFor w terms.Async target → IsOptionHeld w s x target
  async_there options.Async HeldAsync targets.Async h is asked = tt
  async_there options.Async x targets.Async h is asked = absurd h
  async_there o x targets.Async h is asked = absurd is
  async_there o x target h is asked = absurd asked

  -- an option is what the target names
  option_there : (o : CanonicalOption) (x : HeldOption) (term : TermOption) (target : TargetOption) → IsHeldOption c.items o x → IsOption earlier o term → IsOptionFor w term target → IsOptionHeld w s x target
  option_there o x (terms.Encoding e) target h is asked = encoding_there o x e target h is asked
  option_there o x (terms.Memory e) target h is asked = memory_there o x e target h is asked
  option_there o x (terms.Realloc e) target h is asked = realloc_there o x e target h is asked
  option_there o x (terms.PostReturn e) target h is asked = post_return_there o x e target h is asked
  option_there o x (terms.Callback e) target h is asked = callback_there o x e target h is asked
  option_there o x terms.Async target h is asked = async_there o x target h is asked

  options_there : (os : List CanonicalOption) (xs : List HeldOption) (ts : List TermOption) (gs : List TargetOption) → AllZip (IsHeldOption c.items) os xs → AllZip (IsOption earlier) os ts → AllZip (IsOptionFor w) ts gs →
      AllZip (IsOptionHeld w s) xs gs
  options_there [] [] [] [] h is asked = tt
  options_there (o ∷ os) (x ∷ xs) (t ∷ ts) (g ∷ gs) h is asked = (option_there o x t g h.0 is.0 asked.0, options_there os xs ts gs h.1 is.1 asked.1)
  options_there [] (x ∷ xs) ts gs h is asked = absurd h
  options_there (o ∷ os) [] ts gs h is asked = absurd h
  options_there [] [] (t ∷ ts) gs h is asked = absurd is
  options_there (o ∷ os) (x ∷ xs) [] gs h is asked = absurd is
  options_there [] [] [] (g ∷ gs) h is asked = absurd asked
  options_there (o ∷ os) (x ∷ xs) (t ∷ ts) [] h is asked = absurd asked

  pub lowered_there : {index : ℕ} (function : WorldFunction) (options : List TargetOption) {origin : Origin} {type : FunctionTree} {written : List TermOption} → IsLowering earlier index origin type written →
      IsOriginOf w function origin → IsTypeOf w function type → AllZip (IsOptionFor w) written options → (x : ℕ) × (address_at spaces.CoreFunc index c.items ≡ Some x) × IsLoweredFor w s x function options
  lowered_there {index} function options {origin} {type} {written} h from typed_as asked =
      let l : (x : ℕ) × (address_at spaces.CoreFunc index c.items ≡ Some x) × IsLoweredItem c.items s h.function h.written x = thing_there h.made in
      let f : (x : ℕ) × (address_at spaces.Func h.function c.items ≡ Some x) × (slice_get s.functions x ≡ Some (Imported origin type)) = imported_there h.of in
      let same : f.0 ≡ l.2.of = same_Some f.0 l.2.of (sym f.1 ∙ l.2.at) in
      let imported : slice_get s.functions l.2.of ≡ Some (Imported origin type) = subst (λ n. slice_get s.functions n ≡ Some (Imported origin type)) same f.2 in
      let typed : l.2.type ≡ type = ap type_in (same_Some (Imported l.2.origin l.2.type) (Imported origin type) (sym l.2.imported ∙ imported)) in (
        l.0,
        l.1,
        record {
          origin = origin;
          type = type;
          held = l.2.held;
          from = from;
          typed = typed_as;
          lowered = record { of = l.2.of; is = subst (λ t. IsOpaqueOf s l.0 (core_signature t l.2.held) (Lowering l.2.of l.2.held)) typed l.2.is; imported = imported };
          with_options = options_there h.written l.2.held written options l.2.with_options h.with_options asked;
        },
      )

  -- the lift of a required function
  pub lift_there : {index : ℕ} (entry : ExportRef) (options : List TargetOption) (type : FunctionTree) → IsLiftFor w earlier index (Lifted entry options) type →
      (x : ℕ) × (address_at spaces.Func index c.items ≡ Some x) × IsLiftedFrom w s x entry options type
  lift_there {index} entry options type h =
      let is : IsLifting earlier index h.entry h.options type = h.is in
      let l : (x : ℕ) × (address_at spaces.Func index c.items ≡ Some x) × IsLiftedItem c.items s is.core is.written is.kind x = thing_there is.made in
      let f = function_exported is.function h.asked.0 is.of in
      let same : f.0 ≡ l.2.of = same_Some f.0 l.2.of (sym f.1 ∙ l.2.at) in
      let typed : l.2.type ≡ type = same_type_at l.2.typed (type_there is.typed) in (
        l.0,
        l.1,
        record {
          core = l.2.of;
          held = l.2.held;
          is = l.2.is ∙ ap (λ t. Some (Lifting l.2.of l.2.held t)) typed;
          of = subst (λ n. IsFunctionExported w s n entry) same f.2;
          with_options = options_there is.written l.2.held h.options options l.2.with_options is.with_options h.asked.1;
        },
      )

  -- ---- the core functions that targets name

  lowering_there : (index : ℕ) (function : WorldFunction) (options : List TargetOption) (term : Term) → Is earlier spaces.CoreFunc index term → IsTermFor w (Lowered function options) term →
      (x : ℕ) × (address_at spaces.CoreFunc index c.items ≡ Some x) × IsLoweredFor w s x function options
  lowering_there index function options (terms.Lowering origin type written) is asked = lowered_there function options is asked.0 asked.1 asked.2
  lowering_there index function options term is asked = absurd asked

  resource_function_there : (index : ℕ) (function : ResourceFunction) (id : TypeId) (term : Term) → Is earlier spaces.CoreFunc index term → IsTermFor w (OfResource function id) term →
      (x : ℕ) × (address_at spaces.CoreFunc index c.items ≡ Some x) × IsFunctionOf s x function (resource_of w id)
  resource_function_there index function id (terms.OfResource same resource) is asked =
      let l : (x : ℕ) × (address_at spaces.CoreFunc index c.items ≡ Some x) × IsFunctionOf s x same resource = of_resource_there is in
      (l.0, l.1, subst (λ f. IsFunctionOf s l.0 f (resource_of w id)) asked.0 (subst (IsFunctionOf s l.0 same) asked.1 l.2))
  resource_function_there index function id term is asked = absurd asked

  built_in_there : (index : ℕ) (name : Intrinsic) (operand : Operand) (options : List TargetOption) (term : Term) → Is earlier spaces.CoreFunc index term → IsTermFor w (BuiltIn name operand options) term →
      (x : ℕ) × (address_at spaces.CoreFunc index c.items ≡ Some x) × IsBuiltInAt w s x name (operand_tree (resource_of w) w.resolve.types operand) options
  built_in_there index name operand options (terms.BuiltIn same tree written) is asked =
      let parts : Parts = parts_of is.intrinsic in
      let l : (x : ℕ) × (address_at spaces.CoreFunc index c.items ≡ Some x) × IsIntrinsicItem c.items s parts x = intrinsic_there is.intrinsic is.made in
      let denoted : l.2.operand ≡ operand_tree (resource_of w) w.resolve.types operand = operand_there parts.operand l.2.operand tree l.2.of is.of ∙ asked.1 in
      let named : parts.name ≡ name = is.named ∙ asked.0 in
      let here : IsOpaqueOf s l.0 (intrinsic_signature name l.2.operand) (IntrinsicOf name l.2.operand l.2.held) = subst (λ (n : Intrinsic). IsOpaqueOf s l.0 (intrinsic_signature n l.2.operand) (IntrinsicOf n l.2.operand l.2.held)) named l.2.is in (
        l.0,
        l.1,
        record {
          held = l.2.held;
          with_options = options_there parts.options l.2.held written options l.2.with_options is.with_options asked.2;
          is = subst (λ (o : Option Tree). IsOpaqueOf s l.0 (intrinsic_signature name o) (IntrinsicOf name o l.2.held)) denoted here;
        },
      )
  built_in_there index name operand options term is asked = absurd asked

  getter_target : (index : ℕ) → IsSome (cell_type w) → (term : Term) → Is earlier spaces.CoreFunc index term → IsTermFor w TlsGet term → (x : ℕ) × (address_at spaces.CoreFunc index c.items ≡ Some x) × IsCellGetter w s x
  getter_target index needed (terms.Exported e) is asked =
      let type : (t : ValType) × (cell_type w ≡ Some t) = some_of (cell_type w) needed in
      getter_there type.0 type.1 (subst (IsExported earlier index) asked is.1)
  getter_target index needed term is asked = absurd asked

  setter_target : (index : ℕ) → IsSome (cell_type w) → (term : Term) → Is earlier spaces.CoreFunc index term → IsTermFor w TlsSet term → (x : ℕ) × (address_at spaces.CoreFunc index c.items ≡ Some x) × IsCellSetter w s x
  setter_target index needed (terms.Exported e) is asked =
      let type : (t : ValType) × (cell_type w ≡ Some t) = some_of (cell_type w) needed in
      setter_there type.0 type.1 (subst (IsExported earlier index) asked is.1)
  setter_target index needed term is asked = absurd asked

  export_there : (index : ℕ) (export_ref : ExportRef) (term : Term) → Is earlier spaces.CoreFunc index term → IsTermFor w (ExportOf export_ref) term →
      (x : ℕ) × (address_at spaces.CoreFunc index c.items ≡ Some x) × IsFunctionExported w s x export_ref
  export_there index export_ref (terms.Exported e) is asked = function_exported (func_kind e.kind (sym is.0)) asked is.1
  export_there index export_ref term is asked = absurd asked

  -- no core function is a lift
  no_lift : (index : ℕ) (entry : ExportRef) (options : List TargetOption) (term : Term) → Is earlier spaces.CoreFunc index term → IsTermFor w (Lifted entry options) term → ⊥
  no_lift index entry options (terms.Lifting e written type) is asked = is
  no_lift index entry options term is asked = asked

  -- nor is one a memory
  no_memory : (index : ℕ) (term : Term) → Is earlier spaces.CoreFunc index term → IsTermFor w MainMemory term → ⊥
  no_memory index (terms.Exported e) is asked = not_function e.kind asked.1 is.0
    where
      not_function : (kind : ExportKind) → kind ≡ kinds.Memory → spaces.CoreFunc ≡ kind_space kind → ⊥
      not_function kinds.Memory memory e = cc
      not_function kinds.Func memory e = cc
      not_function kinds.Table memory e = cc
      not_function kinds.Global memory e = cc
  no_memory index term is asked = absurd asked

  -- the core function that a target names has an address
  pub target_there : (index : ℕ) (target : Target) → NeedsCell w target → IsItemFor w earlier spaces.CoreFunc index target → (x : ℕ) × (address_at spaces.CoreFunc index c.items ≡ Some x) × IsServedAs w s x target
  target_there index (Lowered function options) needed h = lowering_there index function options h.term h.is h.asked
  target_there index (OfResource function id) needed h = resource_function_there index function id h.term h.is h.asked
  target_there index (BuiltIn name operand options) needed h = built_in_there index name operand options h.term h.is h.asked
  target_there index TlsGet needed h = getter_target index needed h.term h.is h.asked
  target_there index TlsSet needed h = setter_target index needed h.term h.is h.asked
  target_there index (ExportOf export_ref) needed h = export_there index export_ref h.term h.is h.asked
  target_there index (Lifted entry options) needed h = absurd (no_lift index entry options h.term h.is h.asked)
  target_there index MainMemory needed h = absurd (no_memory index h.term h.is h.asked)
  target_there index Unlinked needed h = absurd h.asked

  -- so has the memory, the table or the global
  memory_target_there : (index : ℕ) (target : Target) (term : Term) → Is earlier spaces.CoreMemory index term → IsTermFor w target term → (x : ℕ) × (address_at spaces.CoreMemory index c.items ≡ Some x) × IsServedIn w s spaces.CoreMemory x target
  memory_target_there index (ExportOf export_ref) (terms.Exported e) is asked = item_in spaces.CoreMemory memory_apart is.0 asked is.1
  memory_target_there index MainMemory (terms.Exported e) is asked = memory_exported asked.0 is.1
  memory_target_there index (Lowered function options) (terms.Lowering origin type written) is asked = absurd is
  memory_target_there index (OfResource function id) (terms.OfResource same resource) is asked = absurd is
  memory_target_there index (BuiltIn name operand options) (terms.BuiltIn same tree written) is asked = absurd is
  memory_target_there index (Lifted entry options) (terms.Lifting e written type) is asked = absurd is
  memory_target_there index TlsGet (terms.Exported e) is asked = absurd (memory_apart (is.0 ∙ ap (λ (e : CoreExport). kind_space e.kind) asked))
  memory_target_there index TlsSet (terms.Exported e) is asked = absurd (memory_apart (is.0 ∙ ap (λ (e : CoreExport). kind_space e.kind) asked))
  memory_target_there index target term is asked = absurd asked

  table_target_there : (index : ℕ) (target : Target) (term : Term) → Is earlier spaces.CoreTable index term → IsTermFor w target term → (x : ℕ) × (address_at spaces.CoreTable index c.items ≡ Some x) × IsServedIn w s spaces.CoreTable x target
  table_target_there index (ExportOf export_ref) (terms.Exported e) is asked = item_in spaces.CoreTable table_apart is.0 asked is.1
  table_target_there index MainMemory (terms.Exported e) is asked = absurd (no_table_memory e.kind asked.1 is.0)
  table_target_there index (Lowered function options) (terms.Lowering origin type written) is asked = absurd is
  table_target_there index (OfResource function id) (terms.OfResource same resource) is asked = absurd is
  table_target_there index (BuiltIn name operand options) (terms.BuiltIn same tree written) is asked = absurd is
  table_target_there index (Lifted entry options) (terms.Lifting e written type) is asked = absurd is
  table_target_there index TlsGet (terms.Exported e) is asked = absurd (table_apart (is.0 ∙ ap (λ (e : CoreExport). kind_space e.kind) asked))
  table_target_there index TlsSet (terms.Exported e) is asked = absurd (table_apart (is.0 ∙ ap (λ (e : CoreExport). kind_space e.kind) asked))
  table_target_there index target term is asked = absurd asked

  global_target_there : (index : ℕ) (target : Target) (term : Term) → Is earlier spaces.CoreGlobal index term → IsTermFor w target term → (x : ℕ) × (address_at spaces.CoreGlobal index c.items ≡ Some x) × IsServedIn w s spaces.CoreGlobal x target
  global_target_there index (ExportOf export_ref) (terms.Exported e) is asked = item_in spaces.CoreGlobal global_apart is.0 asked is.1
  global_target_there index MainMemory (terms.Exported e) is asked = absurd (no_global_memory e.kind asked.1 is.0)
  global_target_there index (Lowered function options) (terms.Lowering origin type written) is asked = absurd is
  global_target_there index (OfResource function id) (terms.OfResource same resource) is asked = absurd is
  global_target_there index (BuiltIn name operand options) (terms.BuiltIn same tree written) is asked = absurd is
  global_target_there index (Lifted entry options) (terms.Lifting e written type) is asked = absurd is
  global_target_there index TlsGet (terms.Exported e) is asked = absurd (global_apart (is.0 ∙ ap (λ (e : CoreExport). kind_space e.kind) asked))
  global_target_there index TlsSet (terms.Exported e) is asked = absurd (global_apart (is.0 ∙ ap (λ (e : CoreExport). kind_space e.kind) asked))
  global_target_there index target term is asked = absurd asked

  -- the item that a target names has an address, in the space of its kind
  pub item_there : (kind : ExportKind) (index : ℕ) (target : Target) → NeedsCell w target → IsItemFor w earlier (kind_space kind) index target → (x : ℕ) × (address_at (kind_space kind) index c.items ≡ Some x) × IsServedIn w s (kind_space kind) x target
  item_there kinds.Func index target needed h = target_there index target needed h
  item_there kinds.Memory index target needed h = memory_target_there index target h.term h.is h.asked
  item_there kinds.Table index target needed h = table_target_there index target h.term h.is h.asked
  item_there kinds.Global index target needed h = global_target_there index target h.term h.is h.asked

  -- so has a shim for what the target names
  pub shim_there : {space : Space} {index : ℕ} {target : Target} (h : IsShimFor w earlier space index target) → (x : ℕ) × (address_at spaces.CoreFunc index c.items ≡ Some x) × IsShimGiven w a.shims x target
  shim_there {space} {index} {target} h =
      let x = shim_exported (slice_get_within (shims_of w) h.place h.stands.shim h.stands.listed) h.is in
      let given : IsShimGivenAt w x.2 x.0 target = record { place = h.place; stands = h.stands; is = x.4 } in
      (x.0, x.1, subst (λ o. IsShimGiven w o x.0 target) (sym x.3) given)

  -- and it is a function of its core type
  pub shim_typed : {index : ℕ} (place : ℕ) (shim : Shim) → slice_get (shims_of w) place ≡ Some shim → IsExported earlier index (shim_export w place) →
      (x : ℕ) × (address_at spaces.CoreFunc index c.items ≡ Some x) × IsFunctionTyped s x (type_of_shim shim)
  shim_typed {index} place shim listed h =
      let x = shim_exported (slice_get_within (shims_of w) place shim listed) h in
      let at : ShimsAt = x.2 in
      let there : AreShims w s (flat_map (at_root item_instantiates) earlier) at = subst (MayHaveShims w s (flat_map (at_root item_instantiates) earlier)) x.3 a.with_shims in
      let is : IsShimAt s.code at.table (at.address + place) (0 + place) (type_of_shim shim) = shim_at s.code at.table 0 at.address (shims_of w) place shim there.made listed in
      (x.0, x.1, record { function = _; present = ap (slice_get s.code.functions) x.4 ∙ is.body; typed = refl })
