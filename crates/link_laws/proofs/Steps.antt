-- A definition that keeps its rule runs, and the store agrees with the longer list.
use Rattle.std.proofs.Common.{arith, ◌+◌, ◌^◌, ◌⊎◌, inl, inr, ◌≡◌, ◌∙◌, ℕ, zero, suc, ◌<◌, Bool, true, false, List, [], ◌∷◌, ◌++◌, length, map, filter, get_or, refl, sym, ap, ap₂, subst, append-nil, add-one, length-append, Option, Some, None, is_some, if◌then◌else◌}
use Rattle.std.proofs.lemmas.List.Elements.{filter-append, Contains-append_cases}
use Rattle.std.proofs.lemmas.Grind.{flat_map-append}
use Rattle.std.proofs.lemmas.Option.{none-some, get_or_from_slice_get}
use Rattle.std.specs.Prelude.{Contains}
use Rattle.std.specs.Fmt.{decimal}
use Rattle.std.specs.List.{slice_get, flat_map, list_any, AllZip, AllByRecursion}
use Rattle.std.specs.Prelude.{IsSome}
use Rattle.std.specs.Option.{option_map, option_and_then}
use Rattle.comp_lists.specs.Found.{found}
use Rattle.comp_lists.proofs.Lookups.{some_of}
use Rattle.comp_lists.proofs.Lists.{slice_get-end, AllZip-weaker, AllZip-end, AllByRecursion-weaker}
use Rattle.comp_bytes.proofs.ItemIndices.{IsAt-append}
use Rattle.comp_bytes.specs.Parts.{Parts, parts_of}
use Rattle.comp_bytes.specs.Spaces.{kind_space, space_of, items_in}
use Rattle.comp_bytes.specs.ScopeNames.{def_export}
use Rattle.comp_bytes.specs.declared.space.Space.{Space}
use Rattle.comp_bytes.specs.declared.space.Space.TheVariants as spaces
use Rattle.standard_kinds.specs.declared.kinds.ExportKind.{ExportKind}
use Rattle.standard_kinds.specs.declared.kinds.ExportKind.TheVariants as kinds
use Rattle.standard_kinds.specs.declared.kinds.StringEncoding.TheVariants as encodings
use Rattle.comp_bytes.specs.declared.canon.CanonicalOption.{CanonicalOption}
use Rattle.comp_bytes.specs.declared.canon.CanonicalOption.TheVariants as options
use Rattle.comp_bytes.specs.declared.space.ComponentExportKind.TheVariants as exports
use Rattle.comp_bytes.specs.declared.types.ExternName.{ExternName}
use Rattle.comp_bytes.specs.declared.types.TypeDef.{TypeDef}
use Rattle.comp_bytes.specs.declared.types.TypeDef.TheVariants as types
use Rattle.comp_bytes.specs.declared.types.Alias.TheVariants as aliases
use Rattle.comp_bytes.specs.declared.types.Member.{Member}
use Rattle.comp_bytes.specs.declared.types.InstanceType.{InstanceType as InstanceTypeDef}
use Rattle.comp_bytes.specs.declared.types.Description.TheVariants as descriptions
use Rattle.comp_bytes.specs.declared.canon.Intrinsic.{Intrinsic}
use Rattle.comp_bytes.specs.declared.canon.Intrinsic.TheVariants as intrinsics
use Rattle.comp_bytes.specs.declared.types.ComponentValType.{ComponentValType}
use Rattle.comp_bytes.specs.declared.types.ComponentValType.TheVariants as values
use Rattle.comp_trees.proofs.KnownScopes.{operand_is}
use Rattle.comp_trees.specs.Operands.{known_tree, operand_in, may_be_of, operand_if, operand_of, IsOperand}
use Rattle.comp_bytes.specs.declared.def.CoreInlineExport.{CoreInlineExport}
use Rattle.comp_bytes.specs.declared.def.Item.TheVariants as items
use Rattle.comp_bytes.specs.declared.def.Def.{Def}
use Rattle.comp_bytes.specs.declared.def.Def.TheVariants as defs
use Rattle.comp_trees.specs.Trees.{Origin, Resource, ImportedAt, DefinedAt, ResourceAt, Tree, FunctionTree, is_known}
use Rattle.comp_trees.specs.DefinedTrees.{TypeTree, OfValues, OfFunctions, OfOthers, values_of, function_tree, defined_tree}
use Rattle.comp_trees.specs.DefinedScopes.{type_tree}
use Rattle.nested_terms.specs.Nested.{type_named}
use Rattle.comp_inventories.specs.Inventories.{Inventory, OfInstances, InstanceEntry, Denoting, ImportedInstance, NestedInstance, OtherInstance, entry_tree, no_type, type_if_named, type_of_instance, function_of_instance, instance_imported, types_made, functions_made, instances_made, imports_made, resources_made, surroundings_of, inventory, scope_of}
use Rattle.comp_trees.specs.Members.{AreMembersRight}
use Rattle.core_types.specs.declared.types.MemoryType.{MemoryType}
use Rattle.comp_terms.proofs.HasShims.{has_by_place, has_by_shared, has_by_cell}
use Rattle.comp_terms.specs.Generated.{shims_number}
use Rattle.comp_worlds.specs.Offered.{shared_memory}
use Rattle.comp_terms.specs.Terms.{IsInstanceOf, IsResource, imports_in}
use Rattle.world_shims.specs.WorldShims.{shims_of}
use Rattle.shim_modules.specs.Shims.{getter_name, setter_name}
use Rattle.shim_runs.specs.ShimRuns.{exported_function, memory_at}
use Rattle.shim_runs.proofs.Exported.{shims_found}
use Rattle.comp_roles.specs.CoreTypes.{core_type}
use Rattle.comp_trees.specs.Flattening.{tree_signature}
use Rattle.wit_data.specs.declared.functions.AbiVariant.TheVariants.{GuestImport, GuestImportAsync}
use Rattle.comp_inventories.proofs.Inventories.{inventory-push}
use Rattle.core_types.specs.declared.types.FuncType.{FuncType}
use Rattle.core_types.specs.declared.types.GlobalType.{GlobalType}
use Rattle.core_types.specs.declared.types.ValType.{ValType}
use Rattle.comp_worlds.specs.Bases.{cell_type}
use Rattle.comp_worlds.specs.declared.world.ComponentWorld.{ComponentWorld}
use Rattle.core_runs.specs.Instances.{there_is, type_of}
use Rattle.core_runs.specs.Store.{Opaque, Event, Cell, Now}
use Rattle.core_runs.specs.Values.{same_value_type}
use Rattle.comp_runs.specs.Store.{Thing, Export, HeldOption, HeldEncoding, HeldMemory, HeldRealloc, HeldPostReturn, HeldAsync, HeldCallback, CoreItem, Lowering, IntrinsicOf, Function, Imported, Lifting, TypeItem, TreeOf, ImportedResource, OwnResource, item_tree, own_resources as resources_among, InstanceTypeOf, ModuleInstance, Store}
use Rattle.comp_links.specs.Targets.{ExportRef, ExportOf, ResourceFunction, New, Rep, Drop}
use Rattle.comp_links.specs.Lists.{required_keys, provided_resources}
use Rattle.comp_links.specs.Links.{destructor_of}
use Rattle.comp_roles.specs.Matching.{kind_of}
use Rattle.comp_roles.specs.declared.offered.ExternType.{ExternType}
use Rattle.comp_roles.specs.declared.offered.ExternType.TheVariants as externs
use Rattle.comp_roles.specs.declared.offered.ImportType.{ImportType}
use Rattle.comp_terms.specs.Rules.{AliasesUser, AliasesShim, AliasesMemory, AliasesCell, IsEntry, AreEntries, AliasesImported, AliasesNested, AliasesType as MayAliasType, HasFunctionType, HasResource, HasOwnResource, HasImportedFunction, IsOptionRight, ArePartsRight, IsTypeRight, IsDestructorRight, DefinesResource, IsItemRight}
use Rattle.comp_runs.specs.Machine.{Scope, Machine, with_some, address_at, is_of, export_named, all_some, with_opaque}
use Rattle.comp_runs.specs.Instances.{matching, argument_for, given_to, type_scope, known_function, type_item}
use Rattle.comp_runs.specs.Signatures.{is_async, core_signature, intrinsic_signature}
use Rattle.comp_runs.specs.Running.{core_entry, held, options_held, type_of_function as function_type_of, lowered_signature, run}
use Rattle.instance_laws.specs.Instantiated.{IsHeldAs}
use Rattle.instance_laws.specs.InstanceEntries.{IsInstanceType, IsInstanceEntry, RunsImport, AliasesFunction, AliasesType}
use Rattle.instance_laws.proofs.Held.{keeps_same, keeps_more, keeps_grown, AreHeldAs-kept}
use Rattle.instance_laws.proofs.Members.{each_joined}
use Rattle.instance_laws.proofs.Importing.{instance_type_made, import_runs, aliases_function, aliases_type, aliases_nested_type}
use Rattle.link_laws.specs.Composition.{GeneratedModules, at_root, item_instantiates}
use Rattle.link_laws.specs.Linking.{module_meanings}
use Rattle.link_laws.proofs.Zips.{all_some-self}
use Rattle.link_laws.proofs.Outcomes.{AgreesWith, machine, no_answers, quiet, Steps}
use Rattle.link_laws.proofs.Stores.{IsSeen, expected_of, expects, IsOpaqueOf, IsUserItem, IsUserExport, IsUserInstance, ShimsAt, exports_of_shims, HasSharedMemory, IsModuleInstance, IsNamedEntry, ExportsShims, AreShims, MayHaveShims, IsTypeAt, IsHeldOperand, DefIs, Means, makes, IsTypeEntry, entry_of, IsFunctionEntry, IsInstanceThing, IsPlannedUser, IsAliasedItem, IsHeldOption, NumberedFrom, HasGlobals, HasOwnTables, Agrees, AreKeyExports, IsShimGiven, IsDestroyedBy, IsOwnResource, AreResources}
use Rattle.link_laws.proofs.Given.{of_shims, module_there, address_there, all_held, scope_there, entry_there, held_there, type_there, instance_type_there, instance_there, imported_there, user_there, space_of_kind, offered_there, shim_there}
use Rattle.link_laws.proofs.Plain.{only}
use Rattle.link_laws.proofs.Kept.{AreSeen-kept, sizes_kept, ShimsKept, shims_same, MayHaveShims-kept, keeps_all, IsHeldOption-kept, IsHeldOperand-kept, Keeps, address_at-append, things_kept, keeps_store, keeps_type, keeps_function, keeps_opaque, keeps_core_instance, keeps_module, Means-kept, IsTypeEntry-kept, IsFunctionEntry-kept, IsInstanceThing-kept, IsPlannedUser-kept, AreKeyExports-kept, AreResources-more, AreResources-push}

-- a list without generated modules
abbrev pub no_modules : GeneratedModules
no_modules = record { shims = None; fixup = None }

pub filter-push : {X : Type 0} (p : X → Bool) (b : Bool) (xs : List X) (x : X) → p x ≡ b → filter p (xs ++ x ∷ []) ≡ (if b then filter p xs ++ x ∷ [] else filter p xs)
filter-push p true xs x e = rw (filter-append p xs (x ∷ []), e) refl
filter-push p false xs x e = rw (filter-append p xs (x ∷ []), e) (append-nil (filter p xs))

made-push : (earlier : List Def) (d : Def) (space : Space) → space_of d ≡ Some space → filter makes (earlier ++ d ∷ []) ≡ filter makes earlier ++ d ∷ []
made-push earlier d space e = filter-push makes true earlier d (ap is_some e)

flat-push : {X A : Type 0} (f : X → List A) (xs : List X) (x : X) → flat_map f (xs ++ x ∷ []) ≡ flat_map f xs ++ f x
flat-push f xs x = rw (flat_map-append f xs (x ∷ [])) (ap (λ l. flat_map f xs ++ l) (append-nil (f x)))

-- a scope with one item more, where there have been this many imports
abbrev pub with_thing : Scope → Thing → ℕ → Scope
with_thing c t count = record c { items = c.items ++ t ∷ []; imports = count }

-- the item of an index has the address of that number
pub numbered_at : (k : ℕ) (ts : List Thing) (count number : ℕ) → NumberedFrom k ts count → (x : ℕ) × (option_map (λ (t : Thing). t.address) (slice_get ts number) ≡ Some x) → option_map (λ (t : Thing). t.address) (slice_get ts number) ≡ Some (k + number)
numbered_at k [] count number h x = absurd (none-some x.0 x.1)
numbered_at k (t ∷ ts) count zero h x = let same : k + 0 ≡ k = omega arith in ap (λ (n : ℕ). Some n) (h.0 ∙ sym same)
numbered_at k (t ∷ ts) count (suc number) h x = let same : suc k + number ≡ k + suc number = omega arith in numbered_at (suc k) ts count number h.1 x ∙ ap (λ (n : ℕ). Some n) same

consecutive-push : (k : ℕ) (ts : List Thing) (n : ℕ) (t : Thing) → NumberedFrom k ts n → t.address ≡ n → NumberedFrom k (ts ++ t ∷ []) (suc n)
consecutive-push k [] n t h e = (e ∙ sym h, ap suc h)
consecutive-push k (x ∷ ts) n t h e = (h.0, consecutive-push (suc k) ts n t h.1 e)

-- a number that is none of a new one's is an old one
pub not_last : (numbers : List ℕ) (new n : ℕ) → (new ≡ n → ⊥) → Contains (numbers ++ new ∷ []) n → Contains numbers n
not_last numbers new n other h = by (Contains-append_cases numbers (new ∷ []) n h)
  where
    by : Contains numbers n ⊎ Contains (new ∷ []) n → Contains numbers n
    by (inl k) = k
    by (inr k) = absurd (other (only new n k))

-- an opaque function is at the address at which it was added, and its known item is the one given
opaque_there : (item : CoreItem) (type : FuncType) (s : Store) → IsOpaqueOf (with_opaque item type s) (length s.code.functions) type item
opaque_there item type s = record { what = length s.known; present = slice_get-end s.code.functions (Opaque (length s.known) type); known = slice_get-end s.known item }

-- a lowering of an import has the core type of the import's type
import_lowered : (m : Machine) (x : ℕ) (origin : Origin) (type : FunctionTree) (held : List HeldOption) → slice_get m.store.functions x ≡ Some (Imported origin type) → lowered_signature m x held ≡ Some (core_signature type held)
import_lowered m x origin type held h = ap (option_map (λ f. core_signature (function_type_of f) held)) h

-- a type that keeps its rule is held as what it denotes
type_made : (scope : List TypeTree) (resource : Resource) (t : TypeDef) → IsTypeRight scope t → (m : Machine) → type_scope m ≡ scope → type_item t m ≡ Some (TreeOf (type_tree scope resource t))
type_made scope resource (types.Func f) h m e =
    ap (λ sc. option_map (λ tree. TreeOf tree) (known_function (function_tree sc f))) e
    ∙ ap (λ b. option_map (λ tree. TreeOf tree) (if b then Some (OfFunctions (function_tree scope f)) else None)) h
type_made scope resource (types.Defined t) h m e =
    ap (λ sc. if is_known (defined_tree sc t) then Some (TreeOf (OfValues (defined_tree sc t))) else None) e
    ∙ ap (λ b. if b then Some (TreeOf (OfValues (defined_tree scope t))) else None) h
type_made scope resource (types.Resource destructor) h m e = absurd h

-- what an option names doesn't depend on what a run changes
held_same : (c : Scope) (s : Store) (now : Now) (o : CanonicalOption) → held (machine c s now) o ≡ held (machine c s no_answers) o
held_same c s now options.Utf8 = refl
held_same c s now o = refl

options_same : (c : Scope) (s : Store) (now : Now) (os : List CanonicalOption) → map (held (machine c s now)) os ≡ map (held (machine c s no_answers)) os
options_same c s now [] = refl
options_same c s now (o ∷ os) = ap₂ (λ x xs. x ∷ xs) (held_same c s now o) (options_same c s now os)

-- a test of the type of a global
test_of_type : (test : ValType → Bool) (cells : List Cell) (address : ℕ) → there_is (slice_get cells address) (λ cell. test (type_of cell)) ≡ there_is (slice_get (map type_of cells) address) test
test_of_type test [] address = refl
test_of_type test (cell ∷ cells) zero = refl
test_of_type test (cell ∷ cells) (suc n) = test_of_type test cells n

-- what an import is given doesn't depend on what a run changes, where the globals have the same types
module _ (c : Scope) (s : Store) (now after : Now) (same : map type_of now.globals ≡ map type_of after.globals) where
  global_same : (type : GlobalType) (address : ℕ) → matching (machine c s now) (externs.Global type) (record { space = spaces.CoreGlobal; address = address }) ≡ matching (machine c s after) (externs.Global type) (record { space = spaces.CoreGlobal; address = address })
  global_same type address =
      let test : ValType → Bool = λ t. same_value_type type.val_type t in
      let thing : Thing = record { space = spaces.CoreGlobal; address = address } in
      ap (λ b. if b then Some thing else None)
      (test_of_type test now.globals address ∙ (ap (λ ts. there_is (slice_get ts address) test) same ∙ sym (test_of_type test after.globals address)))

  matching_same : (type : ExternType) (space : Space) (address : ℕ) → matching (machine c s now) type (record { space = space; address = address }) ≡ matching (machine c s after) type (record { space = space; address = address })
  matching_same (externs.Global type) spaces.CoreGlobal address = global_same type address
  matching_same (externs.Global type) spaces.CoreFunc address = refl
  matching_same (externs.Global type) spaces.CoreTable address = refl
  matching_same (externs.Global type) spaces.CoreMemory address = refl
  matching_same (externs.Global type) space address = refl
  matching_same (externs.Func type) spaces.CoreFunc address = refl
  matching_same (externs.Func type) spaces.CoreTable address = refl
  matching_same (externs.Func type) spaces.CoreMemory address = refl
  matching_same (externs.Func type) spaces.CoreGlobal address = refl
  matching_same (externs.Func type) space address = refl
  matching_same (externs.Table type) spaces.CoreFunc address = refl
  matching_same (externs.Table type) spaces.CoreTable address = refl
  matching_same (externs.Table type) spaces.CoreMemory address = refl
  matching_same (externs.Table type) spaces.CoreGlobal address = refl
  matching_same (externs.Table type) space address = refl
  matching_same (externs.Memory type) spaces.CoreFunc address = refl
  matching_same (externs.Memory type) spaces.CoreTable address = refl
  matching_same (externs.Memory type) spaces.CoreMemory address = refl
  matching_same (externs.Memory type) spaces.CoreGlobal address = refl
  matching_same (externs.Memory type) space address = refl

  given_one : (type : ExternType) (o : Option Thing) → option_and_then (matching (machine c s now) type) o ≡ option_and_then (matching (machine c s after) type) o
  given_one type None = refl
  given_one type (Some t) = matching_same type t.space t.address

  pub given_same : (arguments : List (List ℕ × List Export)) (is : List ImportType) → map (given_to (machine c s now) arguments) is ≡ map (given_to (machine c s after) arguments) is
  given_same arguments [] = refl
  given_same arguments (i ∷ is) = ap₂ (λ x xs. x ∷ xs) (given_one i.ty (argument_for arguments (kind_of i.ty) i.module_name i.field)) (given_same arguments is)

-- the exports of an instance in a store with other instances
module _ (s : Store) (core_instances : List (List Export)) (module_instances : List ModuleInstance) (user : ℕ) where
  abbrev with_instances : Store
  with_instances = record s { core_instances = core_instances; module_instances = module_instances }

  item_beside : (e : Export) (type : ExternType) → IsUserItem s user e type → IsUserItem with_instances user e type
  item_beside e (externs.Func type) h = record { what = h.what; present = h.present; known = h.known }
  item_beside e (externs.Table type) h = record { slots = h.slots; present = h.present; counted = h.counted }
  item_beside e (externs.Memory type) h = h
  item_beside e (externs.Global type) h = tt

  pub export_beside : (e : Export) (found : List ℕ × ExternType) → IsUserExport s user e found → IsUserExport with_instances user e found
  export_beside e found h = record { named = h.named; space = h.space; is = item_beside e found.1 h.is }

-- the instance of a module is one after a further definition
pub instance_kept : (earlier : List Def) (d : Def) {index number : ℕ} → IsInstanceOf earlier index number → IsInstanceOf (earlier ++ d ∷ []) index number
instance_kept earlier d h = record { arguments = h.arguments; made = IsAt-append (d ∷ []) h.made }

-- the export that an alias finds
record FindsExport (w : ComponentWorld) (ds : List Def) (c : Scope) (s : Store) (kind : ExportKind) (instance : ℕ) (name : List ℕ) : Type 0 where
  pub export : Export
  pub space : export.space ≡ kind_space kind
  pub is : IsAliasedItem w ds c.items s kind instance name export.address
  pub found : export_named name is.exports ≡ Some export

-- where main imports a memory, one is made with the shims
shared_address : (s : Store) (type : Option MemoryType) (address : Option ℕ) → IsSome type → HasSharedMemory s type address → (y : ℕ) × (address ≡ Some y)
shared_address s (Some type) (Some y) some there = (y, refl)
shared_address s (Some type) None some there = absurd there
shared_address s None address some there = cc

-- the type that an alias finds in an instance
record FindsAliasIn (earlier : List Def) (m : Machine) (instance : ℕ) (name : List ℕ) : Type 0 where
  pub of : InstanceEntry
  pub listed : slice_get (inventory earlier).instances instance ≡ Some of
  pub is : AliasesType m instance name (entry_tree (type_of_instance name of))

-- an alias of a type denotes something, or nothing that is known
denotes_alone : (name : List ℕ) (e : InstanceEntry) → type_of_instance name e ≡ Denoting (entry_tree (type_of_instance name e))
denotes_alone name (ImportedInstance number outer members) = refl
denotes_alone name (NestedInstance exported) = by (type_named name exported)
  where
    by : (o : Option TypeTree) → type_if_named o ≡ Denoting (entry_tree (type_if_named o))
    by None = refl
    by (Some tree) = refl
denotes_alone name OtherInstance = refl

-- the type of a resource that is defined, with the address of its destructor
record HoldsResource (w : ComponentWorld) (shims : Option ShimsAt) (c : Scope) (s : Store) (destructor : Option ℕ) (e : Option ExportRef) : Type 0 where
  pub held : Option ℕ
  pub made : (now : Now) → type_item (types.Resource destructor) (machine c s now) ≡ Some (OwnResource (resources_among s.types) held)
  pub destroyed : IsDestroyedBy w shims held e

module _ {w : ComponentWorld} {earlier : List Def} {c : Scope} {s : Store} {g : List ValType} (a : Agrees w earlier c s g) (gen : GeneratedModules) where
  abbrev FindsAlias : ℕ → List ℕ → Type 0
  FindsAlias instance name = FindsAliasIn earlier (machine c s no_answers) instance name

  -- the types, functions and instances that this definition makes are those of this item
  abbrev pub Makes : Def → Store → Thing → Type 0
  Makes d s' t =
      AllZip (IsTypeEntry s') (types_made (inventory earlier) d) (filter (is_of spaces.Type) (t ∷ []))
      × AllZip (IsFunctionEntry s') (functions_made (inventory earlier) d) (filter (is_of spaces.Func) (t ∷ []))
      × AllZip (IsInstanceThing s') (instances_made (inventory earlier) d) (filter (is_of spaces.Instance) (t ∷ []))

  -- the step of a definition that makes an item
  pub agrees_with : (d : Def) (c' : Scope) (s' : Store) (g' : List ValType) (t : Thing) (shims : Option ShimsAt) → ShimsKept a.shims shims → c'.items ≡ c.items ++ t ∷ [] → Keeps c.items c'.items s s' →
      Means w shims (earlier ++ d ∷ []) c'.items s' d t → Makes d s' t → NumberedFrom 0 (filter (is_of spaces.CoreModule) c'.items) (length s'.core_modules) →
      map (λ (u : ModuleInstance). u.module_number) s'.module_instances ≡ map (λ (u : ModuleInstance). u.module_number) s.module_instances ++ at_root item_instantiates d →
      AllByRecursion (IsPlannedUser w shims s') s'.module_instances → AllByRecursion (HasGlobals w g') s'.module_instances → AllByRecursion (HasOwnTables w shims s'.code.tables) s'.module_instances → MayHaveShims w s' (flat_map (at_root item_instantiates) earlier ++ at_root item_instantiates d) shims → map (λ (e : Export). e.name) c'.exports ≡ map (λ (e : Export). e.name) c.exports ++ def_export d → AreKeyExports w s' (required_keys w) c'.exports →
      c'.imports ≡ imports_made (inventory earlier) d → AreResources w shims s'.types (resources_made (inventory earlier) d) → (seen : List Event) → AllZip (IsSeen w s') seen (expects w d) → AgreesWith w (earlier ++ d ∷ []) c' s' g' a.events seen
  agrees_with d c' s' g' t shims same grew keeps means made modules instantiated served with_globals with_tables with_shims exports lifted imports resources seen are_seen =
      let before : List Def = filter makes earlier in
      let old : Inventory = inventory earlier in
      let Meaning : Def → Thing → Type 0 = Means w shims (earlier ++ d ∷ []) c'.items s' in
      let kept : AllZip Meaning before c.items = AllZip-weaker (Means-kept w a.shims shims same earlier (earlier ++ d ∷ []) (λ space index e i. IsAt-append (d ∷ []) i) keeps) before c.items a.means in
      let pushed : AllZip Meaning (before ++ d ∷ []) (c.items ++ t ∷ []) = AllZip-end Meaning before c.items d t kept means in
      let of : (space : Space) → filter (is_of space) c'.items ≡ filter (is_of space) c.items ++ filter (is_of space) (t ∷ []) = λ space. ap (filter (is_of space)) grew ∙ filter-append (is_of space) c.items (t ∷ []) in
      let more_types : AllZip (IsTypeEntry s') (old.types ++ types_made old d) (filter (is_of spaces.Type) c.items ++ filter (is_of spaces.Type) (t ∷ [])) =
      each_joined (IsTypeEntry s') old.types (types_made old d) (filter (is_of spaces.Type) c.items) (filter (is_of spaces.Type) (t ∷ [])) (AllZip-weaker (IsTypeEntry-kept keeps) old.types (filter (is_of spaces.Type) c.items) a.types) made.0 in
      let more_functions : AllZip (IsFunctionEntry s') (old.functions ++ functions_made old d) (filter (is_of spaces.Func) c.items ++ filter (is_of spaces.Func) (t ∷ [])) =
      each_joined (IsFunctionEntry s') old.functions (functions_made old d) (filter (is_of spaces.Func) c.items) (filter (is_of spaces.Func) (t ∷ [])) (AllZip-weaker (IsFunctionEntry-kept keeps) old.functions (filter (is_of spaces.Func) c.items) a.functions) made.1 in
      let more_instances : AllZip (IsInstanceThing s') (old.instances ++ instances_made old d) (filter (is_of spaces.Instance) c.items ++ filter (is_of spaces.Instance) (t ∷ [])) =
      each_joined (IsInstanceThing s') old.instances (instances_made old d) (filter (is_of spaces.Instance) c.items) (filter (is_of spaces.Instance) (t ∷ [])) (AllZip-weaker (IsInstanceThing-kept keeps) old.instances (filter (is_of spaces.Instance) c.items) a.instances) made.2 in
      let all_seen : AllZip (IsSeen w s') (a.events ++ seen) (flat_map (expects w) earlier ++ expects w d) =
      each_joined (IsSeen w s') a.events seen (flat_map (expects w) earlier) (expects w d) (AreSeen-kept keeps w a.events (flat_map (expects w) earlier) a.seen) are_seen in
      record {
        events = refl;
        agrees = record {
          shims = shims;
          events = a.events ++ seen;
          seen = subst (AllZip (IsSeen w s') (a.events ++ seen)) (sym (flat-push (expects w) earlier d)) all_seen;
          means = subst (λ ds. AllZip Meaning ds c'.items) (sym (made-push earlier d t.space means.space)) (subst (λ ts. AllZip Meaning (before ++ d ∷ []) ts) (sym grew) pushed);
          types = subst (λ (v : Inventory). AllZip (IsTypeEntry s') v.types (filter (is_of spaces.Type) c'.items)) (sym (inventory-push earlier d))
              (subst (λ ts. AllZip (IsTypeEntry s') (old.types ++ types_made old d) ts) (sym (of spaces.Type)) more_types);
          functions = subst (λ (v : Inventory). AllZip (IsFunctionEntry s') v.functions (filter (is_of spaces.Func) c'.items)) (sym (inventory-push earlier d))
              (subst (λ ts. AllZip (IsFunctionEntry s') (old.functions ++ functions_made old d) ts) (sym (of spaces.Func)) more_functions);
          instances = subst (λ (v : Inventory). AllZip (IsInstanceThing s') v.instances (filter (is_of spaces.Instance) c'.items)) (sym (inventory-push earlier d))
              (subst (λ ts. AllZip (IsInstanceThing s') (old.instances ++ instances_made old d) ts) (sym (of spaces.Instance)) more_instances);
          resources = subst (λ (v : Inventory). AreResources w shims s'.types v.resources) (sym (inventory-push earlier d)) resources;
          modules = modules;
          instantiated = instantiated ∙ (ap (λ l. l ++ at_root item_instantiates d) a.instantiated ∙ sym (flat-push (at_root item_instantiates) earlier d));
          served = served;
          with_globals = with_globals;
          with_tables = with_tables;
          with_shims = subst (λ l. MayHaveShims w s' l shims) (sym (flat-push (at_root item_instantiates) earlier d)) with_shims;
          exports = exports ∙ (ap (λ l. l ++ def_export d) a.exports ∙ sym (flat-push def_export earlier d));
          lifted = lifted;
          imports = imports ∙ sym (ap (λ (v : Inventory). v.imports) (inventory-push earlier d));
        };
      }

  -- the shims after a definition that makes no instance
  pub shims_beside : {b : List Thing} {s' : Store} → Keeps c.items b s s' → (more : List ℕ) → more ≡ [] → s'.module_instances ≡ s.module_instances → s'.code.tables ≡ s.code.tables →
      MayHaveShims w s' (flat_map (at_root item_instantiates) earlier ++ more) a.shims
  shims_beside {b} {s'} keeps more none users tables =
      MayHaveShims-kept keeps w (flat_map (at_root item_instantiates) earlier) more a.shims (keeps_same tables) (λ yes. among more none yes)
      (λ at h. subst (AllByRecursion (ExportsShims w at)) (sym users) h) a.with_shims
    where
      numbers : List ℕ
      numbers = flat_map (at_root item_instantiates) earlier

      among : {x : ℕ} (more : List ℕ) → more ≡ [] → Contains (numbers ++ more) x → Contains numbers x
      among {x} more none h = subst (λ l. Contains l x) (ap (λ l. numbers ++ l) none ∙ append-nil numbers) h

  -- The step of a definition that calls nothing outside, and is no module and no export: it makes
  -- this item, and there have been this many imports after it.
  pub quiet_step : (d : Def) (count : ℕ) (s' : Store) (t : Thing) → ((rest : List Def) (now : Now) → run (module_meanings w gen) (d ∷ rest) (machine c s now) ≡ run (module_meanings w gen) rest (machine (with_thing c t count) s' now)) →
      Keeps c.items (c.items ++ t ∷ []) s s' → Means w a.shims (earlier ++ d ∷ []) (c.items ++ t ∷ []) s' d t → Makes d s' t → is_of spaces.CoreModule t ≡ false → s'.core_modules ≡ s.core_modules → s'.module_instances ≡ s.module_instances →
      s'.code.tables ≡ s.code.tables → at_root item_instantiates d ≡ [] → def_export d ≡ [] → count ≡ imports_made (inventory earlier) d → AreResources w a.shims s'.types (resources_made (inventory earlier) d) → Steps w gen earlier c s g a.events d
  quiet_step d count s' t same keeps means made other modules users tables none no_export imports resources = (
    with_thing c t count,
    s',
    g,
    quiet w gen d c s g (with_thing c t count) s' (sym users) same,
    agrees_with d (with_thing c t count) s' g t a.shims (shims_same a.shims) refl keeps means made
        (rw (filter-push (is_of spaces.CoreModule) false c.items t other, modules) a.modules)
        (rw (users, none) (sym (append-nil (map (λ (u : ModuleInstance). u.module_number) s.module_instances))))
        (subst (AllByRecursion (IsPlannedUser w a.shims s')) (sym users) (AllByRecursion-weaker (IsPlannedUser-kept w keeps a.shims a.shims (shims_same a.shims)) s.module_instances a.served))
        (subst (AllByRecursion (HasGlobals w g)) (sym users) a.with_globals)
        (subst (λ ts. AllByRecursion (HasOwnTables w a.shims ts) s'.module_instances) (sym tables) (subst (AllByRecursion (HasOwnTables w a.shims s.code.tables)) (sym users) a.with_tables))
        (shims_beside keeps (at_root item_instantiates d) none users tables)
        (rw no_export (sym (append-nil (map (λ (e : Export). e.name) c.exports))))
        (AreKeyExports-kept w keeps (required_keys w) c.exports a.lifted)
        imports
        resources
        []
        (subst (λ ns. AllZip (IsSeen w s') [] (flat_map (expected_of w) ns)) (sym none) tt),
  )

  -- the step of a type of values or functions
  step_type_made : (type : TypeDef) → IsTypeRight (scope_of earlier) type → resources_made (inventory earlier) (defs.Item (items.Type type)) ≡ (inventory earlier).resources → Steps w gen earlier c s g a.events (defs.Item (items.Type type))
  step_type_made type h none =
      let d : Def = defs.Item (items.Type type) in
      let t : Thing = record { space = spaces.Type; address = length s.types } in
      let resource : Resource = DefinedAt (inventory earlier).resources in
      let item : TypeItem = TreeOf (type_tree (scope_of earlier) resource type) in
      let s' : Store = record s { types = s.types ++ item ∷ [] } in
      quiet_step d c.imports s' t (λ rest now. rw (type_made (scope_of earlier) resource type h (machine c s now) (scope_there a)) refl) (keeps_type c.items t s item)
      (record { space = refl; is = tt }) ((record { item = item; present = slice_get-end s.types item; denotes = refl; is = tt }, tt), tt, tt) refl refl refl refl refl refl a.imports
      (subst (AreResources w a.shims (s.types ++ item ∷ [])) (sym none) (AreResources-more w a.shims s.types (item ∷ []) (inventory earlier).resources a.resources refl))

  -- a resource is held with the address of its destructor, where it has one
  resource_held : (destructor : Option ℕ) (e : Option ExportRef) → IsDestructorRight w earlier destructor e → HoldsResource w a.shims c s destructor e
  resource_held None None h = record { held = None; made = λ now. refl; destroyed = tt }
  resource_held (Some index) (Some e) h =
      let x : (x : ℕ) × (address_at spaces.CoreFunc index c.items ≡ Some x) × IsShimGiven w a.shims x (ExportOf e) = shim_there a h in
      record { held = Some x.0; made = λ now. ap (option_map (λ (n : ℕ). OwnResource (resources_among s.types) (Some n))) x.1; destroyed = x.2 }
  resource_held None (Some e) h = absurd h
  resource_held (Some index) None h = absurd h

  step_resource : (destructor : Option ℕ) → DefinesResource w earlier destructor → Steps w gen earlier c s g a.events (defs.Item (items.Type (types.Resource destructor)))
  step_resource destructor h =
      let d : Def = defs.Item (items.Type (types.Resource destructor)) in
      let t : Thing = record { space = spaces.Type; address = length s.types } in
      let number : ℕ = resources_among s.types in
      let x : HoldsResource w a.shims c s destructor (destructor_of w h.provided) = resource_held destructor (destructor_of w h.provided) h.destructed in
      let item : TypeItem = OwnResource number x.held in
      let s' : Store = record s { types = s.types ++ item ∷ [] } in
      let own : IsOwnResource w a.shims number x.held = record { provided = h.provided; is = ap (slice_get (provided_resources w)) a.resources.counted ∙ h.next; destroyed = x.destroyed } in
      quiet_step d c.imports s' t (λ rest now. rw (x.made now) refl) (keeps_type c.items t s item)
      (record { space = refl; is = tt }) ((record { item = item; present = slice_get-end s.types item; denotes = ap (λ n. OfValues (ResourceAt (DefinedAt n))) a.resources.counted; is = tt }, tt), tt, tt) refl refl refl refl refl refl a.imports
      (AreResources-push w a.shims s.types number x.held (inventory earlier).resources a.resources.counted a.resources own)

  pub step_type : (t : TypeDef) → IsItemRight w earlier (items.Type t) → Steps w gen earlier c s g a.events (defs.Item (items.Type t))
  step_type (types.Func f) h = step_type_made (types.Func f) h refl
  step_type (types.Defined t) h = step_type_made (types.Defined t) h refl
  step_type (types.Resource destructor) h = step_resource destructor h

  pub step_import : (name : ExternName) (kind : ℕ) → HasFunctionType earlier kind → Steps w gen earlier c s g a.events (defs.Item (items.Import name (descriptions.Func kind)))
  step_import name kind h =
      let d : Def = defs.Item (items.Import name (descriptions.Func kind)) in
      let t : Thing = record { space = spaces.Func; address = length s.functions } in
      let f : Function = Imported (record { number = c.imports; inner = None }) h.type in
      let s' : Store = record s { functions = s.functions ++ f ∷ [] } in
      let y : IsTypeAt c.items s kind h.type = type_there a h.is in
      let entry : entry_of f ≡ record { origin = Some (record { number = (inventory earlier).imports; inner = None }); type = get_or (scope_of earlier) kind OfOthers } =
      ap₂ (λ n tree. record { origin = Some (record { number = n; inner = None }); type = tree }) a.imports (sym h.is.denotes.tree) in
      quiet_step d (suc c.imports) s' t (λ rest now. rw (y.at, y.is) refl) (keeps_function c.items t s f)
      (record { space = refl; is = tt }) (tt, (record { function = f; present = slice_get-end s.functions f; same = entry }, tt), tt) refl refl refl refl refl refl (ap suc a.imports) a.resources

  -- a type that equals another is that one
  pub step_import_type : (name : ExternName) (index : ℕ) → index < length (scope_of earlier) → Steps w gen earlier c s g a.events (defs.Item (items.Import name (descriptions.TypeEqual index)))
  step_import_type name index l =
      let d : Def = defs.Item (items.Import name (descriptions.TypeEqual index)) in
      let x = entry_there a l in
      let t : Thing = record { space = spaces.Type; address = x.2.address } in
      let at : address_at spaces.Type index c.items ≡ Some x.2.address = ap (option_map (λ (t : Thing). t.address)) x.3 in
      let entry : get_or (inventory earlier).types index no_type ≡ x.0 = get_or_from_slice_get (inventory earlier).types index x.0 no_type x.1 in
      quiet_step d (suc c.imports) s t (λ rest now. rw at refl) (keeps_store c.items t s)
      (record { space = refl; is = tt }) ((subst (λ e. IsTypeEntry s e t) (sym entry) (record { item = x.4.item; present = x.4.present; denotes = x.4.denotes; is = x.4.is }), tt), tt, tt) refl refl refl refl refl refl (ap suc a.imports) a.resources

  -- a resource is a new type, known by the number of the import
  pub step_import_resource : (name : ExternName) → Steps w gen earlier c s g a.events (defs.Item (items.Import name descriptions.SubResource))
  step_import_resource name =
      let d : Def = defs.Item (items.Import name descriptions.SubResource) in
      let t : Thing = record { space = spaces.Type; address = length s.types } in
      let item : TypeItem = ImportedResource (record { number = c.imports; inner = None }) in
      let s' : Store = record s { types = s.types ++ item ∷ [] } in
      quiet_step d (suc c.imports) s' t (λ rest now. refl) (keeps_type c.items t s item)
      (record { space = refl; is = tt }) ((record { item = item; present = slice_get-end s.types item; denotes = ap (λ n. OfValues (ResourceAt (ImportedAt (record { number = n; inner = None })))) a.imports; is = tt }, tt), tt, tt) refl refl refl refl refl refl (ap suc a.imports) (AreResources-more w a.shims s.types (item ∷ []) (inventory earlier).resources a.resources refl)

  -- a type of instances has the members that the inventory says
  pub step_instance_type : (type : InstanceTypeDef) → Steps w gen earlier c s g a.events (defs.Item (items.InstanceType type))
  step_instance_type type =
      let d : Def = defs.Item (items.InstanceType type) in
      let t : Thing = record { space = spaces.Type; address = length s.types } in
      let item : TypeItem = InstanceTypeOf type.members (c.items ∷ c.around) in
      let s' : Store = record s { types = s.types ++ item ∷ [] } in
      let is : IsInstanceType s'.types (scope_of earlier) type.members item =
      instance_type_made s'.types (inventory earlier) type.members c.items c.around (AreHeldAs-kept (keeps_more s.types (item ∷ [])) (scope_of earlier) c.items (all_held a)) in
      quiet_step d c.imports s' t (λ rest now. refl) (keeps_type c.items t s item)
      (record { space = refl; is = tt }) ((record { item = item; present = slice_get-end s.types item; denotes = refl; is = is }, tt), tt, tt) refl refl refl refl refl refl a.imports (AreResources-more w a.shims s.types (item ∷ []) (inventory earlier).resources a.resources refl)

  -- An import of a type of instances makes types and functions, and one item: the instance.
  pub step_import_instance : (name : ExternName) (index : ℕ) (outer : List TypeTree) (members : List Member) → slice_get (inventory earlier).types index ≡ Some (OfInstances outer members) → AreMembersRight (surroundings_of (imports_in earlier) outer) [] members →
      Steps w gen earlier c s g a.events (defs.Item (items.Import name (descriptions.Instance index)))
  step_import_instance name index outer members h right =
      let d : Def = defs.Item (items.Import name (descriptions.Instance index)) in
      let origin : Origin = record { number = c.imports; inner = None } in
      let x = instance_type_there a index outer members h in
      let m : Machine = machine (record c { imports = suc c.imports }) s no_answers in
      let r : RunsImport origin outer members index m = import_runs origin outer members index x.0 m (x.1 no_answers) x.2 (subst (λ (n : ℕ). AreMembersRight (surroundings_of n outer) [] members) (sym a.imports) right) in
      let t : Thing = record { space = spaces.Instance; address = length s.instances } in
      let s' : Store = record s { types = r.types; functions = r.functions; instances = s.instances ++ r.exports ∷ [] } in
      let k : Keeps c.items (c.items ++ t ∷ []) s s' = record {
        things = things_kept c.items t s;
        code = keeps_same refl;
        tables = sizes_kept (keeps_same refl);
        memories = keeps_same refl;
        known = keeps_same refl;
        core_instances = keeps_same refl;
        functions = keeps_grown s.functions r.functions r.more_functions r.functions_grew;
        types = keeps_grown s.types r.types r.more_types r.types_grew;
        components = keeps_same refl;
        instances = keeps_more s.instances (r.exports ∷ []);
        users = keeps_same refl;
      } in
      let entry : ImportedInstance c.imports outer members ≡ instance_imported (inventory earlier).imports (get_or (inventory earlier).types index no_type) =
      ap₂ (λ n e. instance_imported n e) a.imports (sym (get_or_from_slice_get (inventory earlier).types index (OfInstances outer members) no_type h)) in
      quiet_step d (suc c.imports) s' t (λ rest now. r.runs now (λ address after. run (module_meanings w gen) rest after)) k
      (record { space = refl; is = tt }) (tt, tt, (record { exports = r.exports; present = slice_get-end s.instances r.exports; is = subst (λ e. IsInstanceEntry r.types r.functions e r.exports) entry r.is }, tt)) refl refl refl refl refl refl (ap suc a.imports) (subst (λ l. AreResources w a.shims l (inventory earlier).resources) (sym r.types_grew) (AreResources-more w a.shims s.types r.more_types (inventory earlier).resources a.resources r.none_defined))

  -- an alias of what an imported instance exports is that item
  pub step_alias_function : (instance : ℕ) (name : List ℕ) → AliasesImported earlier spaces.Func instance name → Steps w gen earlier c s g a.events (defs.Item (items.Alias (aliases.Export exports.Func instance name)))
  step_alias_function instance name h =
      let d : Def = defs.Item (items.Alias (aliases.Export exports.Func instance name)) in
      let of : InstanceEntry = ImportedInstance h.number h.outer h.members in
      let x = instance_there a instance of h.imported in
      let entry : get_or (inventory earlier).instances instance OtherInstance ≡ of = get_or_from_slice_get (inventory earlier).instances instance of OtherInstance h.imported in
      let f : AliasesFunction (machine c s no_answers) instance name (function_of_instance name of) =
      aliases_function (machine c s no_answers) instance x.0 x.2 name h.number h.outer h.members x.1 x.3 x.4 h.exported in
      let t : Thing = record { space = spaces.Func; address = f.address } in
      quiet_step d c.imports s t (λ rest now. ap (λ o. with_some o (λ (x : Thing). run (module_meanings w gen) rest (machine (with_thing c x c.imports) s now))) f.at) (keeps_store c.items t s)
      (record { space = refl; is = tt }) (tt, (record { function = Imported f.origin f.type; present = f.present; same = f.same ∙ ap (function_of_instance name) (sym entry) }, tt), tt) refl refl refl refl refl refl a.imports a.resources

  -- a type that an imported instance exports, and one that an instance of a nested component does
  alias_of_imported : (instance : ℕ) (name : List ℕ) → AliasesImported earlier spaces.Type instance name → FindsAlias instance name
  alias_of_imported instance name h =
      let of : InstanceEntry = ImportedInstance h.number h.outer h.members in
      let x = instance_there a instance of h.imported in
      record {
        of = of;
        listed = h.imported;
        is = aliases_type (machine c s no_answers) instance x.0 x.2 name h.number h.outer h.members x.1 x.3 x.4 h.exported;
      }

  alias_of_nested : (instance : ℕ) (name : List ℕ) → AliasesNested earlier instance name → FindsAlias instance name
  alias_of_nested instance name h =
      let of : InstanceEntry = NestedInstance h.exported in
      let x = instance_there a instance of h.nested in
      record {
        of = of;
        listed = h.nested;
        is = subst (AliasesType (machine c s no_answers) instance name) (sym (ap (λ o. entry_tree (type_if_named o)) h.named))
            (aliases_nested_type (machine c s no_answers) instance x.0 x.2 name h.exported h.tree x.1 x.3 x.4 h.named);
      }

  step_alias_found : (instance : ℕ) (name : List ℕ) → FindsAlias instance name → Steps w gen earlier c s g a.events (defs.Item (items.Alias (aliases.Export exports.Type instance name)))
  step_alias_found instance name f =
      let d : Def = defs.Item (items.Alias (aliases.Export exports.Type instance name)) in
      let entry : get_or (inventory earlier).instances instance OtherInstance ≡ f.of = get_or_from_slice_get (inventory earlier).instances instance f.of OtherInstance f.listed in
      let t : Thing = record { space = spaces.Type; address = f.is.address } in
      let tree = type_of_instance name f.of in
      let denoting : type_of_instance name f.of ≡ Denoting (entry_tree tree) = denotes_alone name f.of in
      let is : IsTypeEntry s tree t = subst (λ e. IsTypeEntry s e t) (sym denoting) (record { item = f.is.is.item; present = f.is.is.present; denotes = f.is.is.denotes; is = tt }) in
      quiet_step d c.imports s t (λ rest now. ap (λ o. with_some o (λ (x : Thing). run (module_meanings w gen) rest (machine (with_thing c x c.imports) s now))) f.is.at) (keeps_store c.items t s)
      (record { space = refl; is = tt }) ((subst (λ e. IsTypeEntry s (type_of_instance name e) t) (sym entry) is, tt), tt, tt) refl refl refl refl refl refl a.imports a.resources

  pub step_alias_type : (instance : ℕ) (name : List ℕ) → MayAliasType earlier instance name → Steps w gen earlier c s g a.events (defs.Item (items.Alias (aliases.Export exports.Type instance name)))
  step_alias_type instance name (inl h) = step_alias_found instance name (alias_of_imported instance name h)
  step_alias_type instance name (inr h) = step_alias_found instance name (alias_of_nested instance name h)

  -- an option that names an earlier item has its address
  option_addressed : (o : CanonicalOption) → IsOptionRight earlier o → (x : HeldOption) × (held (machine c s no_answers) o ≡ Some x) × IsHeldOption c.items o x
  option_addressed options.Utf8 h = (HeldEncoding encodings.UTF8, refl, refl)
  option_addressed options.Utf16 h = (HeldEncoding encodings.UTF16, refl, refl)
  option_addressed options.CompactUtf16 h = (HeldEncoding encodings.CompactUTF16, refl, refl)
  option_addressed (options.Memory index) h = let x = address_there a spaces.CoreMemory index h in (HeldMemory x.0, ap (option_map (λ n. HeldMemory n)) x.1, x.1)
  option_addressed (options.Realloc index) h = let x = address_there a spaces.CoreFunc index h in (HeldRealloc x.0, ap (option_map (λ n. HeldRealloc n)) x.1, x.1)
  option_addressed (options.PostReturn index) h = let x = address_there a spaces.CoreFunc index h in (HeldPostReturn x.0, ap (option_map (λ n. HeldPostReturn n)) x.1, x.1)
  option_addressed options.Async h = (HeldAsync, refl, tt)
  option_addressed (options.Callback index) h = let x = address_there a spaces.CoreFunc index h in (HeldCallback x.0, ap (option_map (λ n. HeldCallback n)) x.1, x.1)

  -- an intrinsic is a new core function
  -- the operand of an intrinsic, where it denotes this, is held as this
  operand_held : (written : Option ComponentValType) (operand : Option Tree) → IsOperand (scope_of earlier) written operand → IsHeldOperand c.items s written operand
  operand_held None None h = tt
  operand_held (Some (values.Primitive p)) (Some tree) h = h
  operand_held (Some (values.Defined index)) (Some tree) h =
      let x : (x : ℕ) × (address_at spaces.Type index c.items ≡ Some x) × IsHeldAs s.types (OfValues tree) x = held_there a h in
      record { address = x.0; at = x.1; is = x.2 }
  operand_held None (Some tree) h = absurd h
  operand_held (Some v) None h = absurd h

  step_intrinsic : (i : Intrinsic) (operand : Option Tree) → operand_of (scope_of earlier) i ≡ Some operand → IsOperand (scope_of earlier) (parts_of i).operand operand → AllByRecursion (IsOptionRight earlier) (parts_of i).options →
      Steps w gen earlier c s g a.events (defs.Item (items.Intrinsic i))
  step_intrinsic i operand known of right =
      let d : Def = defs.Item (items.Intrinsic i) in
      let parts : Parts = parts_of i in
      let os : (xs : List HeldOption) × (options_held (machine c s no_answers) parts.options ≡ Some xs) × AllZip (IsHeldOption c.items) parts.options xs =
      all_some-self (IsHeldOption c.items) (held (machine c s no_answers)) (IsOptionRight earlier) option_addressed parts.options right in
      let t : Thing = record { space = spaces.CoreFunc; address = length s.code.functions } in
      let item : CoreItem = IntrinsicOf parts.name operand os.0 in
      let type : FuncType = intrinsic_signature parts.name operand in
      let s' : Store = with_opaque item type s in
      let k : Keeps c.items (c.items ++ t ∷ []) s s' = keeps_opaque c.items t s item type in
      let found : (now : Now) → operand_of (type_scope (machine c s now)) i ≡ Some operand = λ now. ap (λ l. operand_of l i) (scope_there a) ∙ known in
      let addressed : (now : Now) → options_held (machine c s now) parts.options ≡ Some os.0 = λ now. ap (λ l. all_some l) (options_same c s now parts.options) ∙ os.1 in
      quiet_step d c.imports s' t (λ rest now. rw (found now, addressed now) refl) k
      (record {
        space = refl;
        is = record {
          operand = operand;
          held = os.0;
          of = IsHeldOperand-kept k parts.operand operand (operand_held parts.operand operand of);
          with_options = AllZip-weaker (λ o y p. IsHeldOption-kept k o y p) parts.options os.0 os.2;
          is = opaque_there item type s;
        };
      })
      (tt, tt, tt) refl refl refl refl refl refl a.imports a.resources

  -- the operand of a function of a resource's handles is that resource
  resource_operand : (type : ℕ) (resource : Resource) → IsResource earlier type resource → operand_in (scope_of earlier) (Some (values.Defined type)) ≡ Some (Some (ResourceAt resource))
  resource_operand type resource h = ap (λ t. known_tree (values_of t)) h.denotes.tree

  pub step_new : (type : ℕ) → HasOwnResource earlier type → Steps w gen earlier c s g a.events (defs.Item (items.Intrinsic (intrinsics.ResourceNew type)))
  step_new type h =
      let i : Intrinsic = intrinsics.ResourceNew type in
      step_intrinsic i (Some (ResourceAt (DefinedAt h.number))) (ap (option_and_then (operand_if i)) (resource_operand type (DefinedAt h.number) h.is)) h.is.denotes tt

  pub step_rep : (type : ℕ) → HasOwnResource earlier type → Steps w gen earlier c s g a.events (defs.Item (items.Intrinsic (intrinsics.ResourceRep type)))
  step_rep type h =
      let i : Intrinsic = intrinsics.ResourceRep type in
      step_intrinsic i (Some (ResourceAt (DefinedAt h.number))) (ap (option_and_then (operand_if i)) (resource_operand type (DefinedAt h.number) h.is)) h.is.denotes tt

  pub step_drop : (type : ℕ) → HasResource earlier type → Steps w gen earlier c s g a.events (defs.Item (items.Intrinsic (intrinsics.ResourceDrop type)))
  step_drop type h =
      let i : Intrinsic = intrinsics.ResourceDrop type in
      step_intrinsic i (Some (ResourceAt h.resource)) (ap (option_and_then (operand_if i)) (resource_operand type h.resource h.is)) h.is.denotes tt

  -- so is another one, which may be of any operand
  pub step_built_in : (i : Intrinsic) → ((operand : Option Tree) → may_be_of i operand ≡ true) → ArePartsRight earlier (parts_of i) → Steps w gen earlier c s g a.events (defs.Item (items.Intrinsic i))
  step_built_in i any h =
      let x : (x : Option Tree) × (operand_in (scope_of earlier) (parts_of i).operand ≡ Some x) = some_of (operand_in (scope_of earlier) (parts_of i).operand) h.operand in
      let known : operand_of (scope_of earlier) i ≡ Some x.0 = ap (option_and_then (operand_if i)) x.1 ∙ ap (λ b. if b then Some x.0 else None) (any x.0) in
      step_intrinsic i x.0 known (operand_is (scope_of earlier) (parts_of i).operand x.0 x.1) h.options

  pub step_lower : (function : ℕ) (written : List CanonicalOption) → HasImportedFunction earlier function → AllByRecursion (IsOptionRight earlier) written → Steps w gen earlier c s g a.events (defs.Item (items.Lower function written))
  step_lower function written h right =
      let d : Def = defs.Item (items.Lower function written) in
      let x : (x : ℕ) × (address_at spaces.Func function c.items ≡ Some x) × (slice_get s.functions x ≡ Some (Imported h.origin h.type)) = imported_there a h.is in
      let os : (xs : List HeldOption) × (options_held (machine c s no_answers) written ≡ Some xs) × AllZip (IsHeldOption c.items) written xs =
      all_some-self (IsHeldOption c.items) (held (machine c s no_answers)) (IsOptionRight earlier) option_addressed written right in
      let t : Thing = record { space = spaces.CoreFunc; address = length s.code.functions } in
      let item : CoreItem = Lowering x.0 os.0 in
      let type : FuncType = core_signature h.type os.0 in
      let s' : Store = with_opaque item type s in
      let k : Keeps c.items (c.items ++ t ∷ []) s s' = keeps_opaque c.items t s item type in
      let addressed : (now : Now) → options_held (machine c s now) written ≡ Some os.0 = λ now. ap (λ l. all_some l) (options_same c s now written) ∙ os.1 in
      quiet_step d c.imports s' t (λ rest now. rw (x.1, addressed now, import_lowered (machine c s now) x.0 h.origin h.type os.0 x.2) refl) k
      (record {
        space = refl;
        is = record {
          of = x.0;
          origin = h.origin;
          held = os.0;
          type = h.type;
          at = address_at-append c.items (t ∷ []) spaces.Func function x.0 x.1;
          imported = x.2;
          with_options = AllZip-weaker (λ o y p. IsHeldOption-kept k o y p) written os.0 os.2;
          is = opaque_there item type s;
        };
      })
      (tt, tt, tt) refl refl refl refl refl refl a.imports a.resources

  pub step_lift : (core : ℕ) (written : List CanonicalOption) (kind : ℕ) → core < items_in spaces.CoreFunc earlier → AllByRecursion (IsOptionRight earlier) written → HasFunctionType earlier kind → Steps w gen earlier c s g a.events (defs.Item (items.Lift core written kind))
  step_lift core written kind l right h =
      let d : Def = defs.Item (items.Lift core written kind) in
      let x : (x : ℕ) × (address_at spaces.CoreFunc core c.items ≡ Some x) = address_there a spaces.CoreFunc core l in
      let os : (xs : List HeldOption) × (options_held (machine c s no_answers) written ≡ Some xs) × AllZip (IsHeldOption c.items) written xs =
      all_some-self (IsHeldOption c.items) (held (machine c s no_answers)) (IsOptionRight earlier) option_addressed written right in
      let y : IsTypeAt c.items s kind h.type = type_there a h.is in
      let t : Thing = record { space = spaces.Func; address = length s.functions } in
      let f : Function = Lifting x.0 os.0 h.type in
      let s' : Store = record s { functions = s.functions ++ f ∷ [] } in
      let k : Keeps c.items (c.items ++ t ∷ []) s s' = keeps_function c.items t s f in
      let addressed : (now : Now) → options_held (machine c s now) written ≡ Some os.0 = λ now. ap (λ l. all_some l) (options_same c s now written) ∙ os.1 in
      quiet_step d c.imports s' t (λ rest now. rw (x.1, addressed now, y.at, y.is) refl) k
      (record {
        space = refl;
        is = record {
          of = x.0;
          held = os.0;
          type = h.type;
          at = address_at-append c.items (t ∷ []) spaces.CoreFunc core x.0 x.1;
          with_options = AllZip-weaker (IsHeldOption-kept k) written os.0 os.2;
          typed = record { address = y.address; at = address_at-append c.items (t ∷ []) spaces.Type kind y.address y.at; is = y.is };
          is = slice_get-end s.functions f;
        };
      })
      (tt, (record { function = f; present = slice_get-end s.functions f; same = ap (λ tree. record { origin = None; type = tree }) (sym h.is.denotes.tree) }, tt), tt) refl refl refl refl refl refl a.imports a.resources

  pub step_inline_instance : (entries : List CoreInlineExport) → AreEntries earlier entries → Steps w gen earlier c s g a.events (defs.Item (items.CoreExports entries))
  step_inline_instance entries h =
      let d : Def = defs.Item (items.CoreExports entries) in
      let t : Thing = record { space = spaces.CoreInstance; address = length s.core_instances } in
      let found : (xs : List Export) × (all_some (map (core_entry (machine c s no_answers)) entries) ≡ Some xs) × AllZip (IsNamedEntry c.items) entries xs =
      all_some-self (IsNamedEntry c.items) (core_entry (machine c s no_answers)) (IsEntry earlier)
      (λ e k.
      let at : (x : ℕ) × (address_at (kind_space e.kind) e.index c.items ≡ Some x) = address_there a (kind_space e.kind) e.index k.scoped in
      (record { space = kind_space e.kind; name = e.name; address = at.0 }, rw at.1 refl, record { named = refl; space = refl; at = at.1 }))
      entries h.each in
      let s' : Store = record s { core_instances = s.core_instances ++ found.0 ∷ [] } in
      quiet_step d c.imports s' t (λ rest now. rw found.1 refl) (keeps_core_instance c.items t s found.0)
      (record {
        space = refl;
        is = record {
          exports = found.0;
          present = slice_get-end s.core_instances found.0;
          each = AllZip-weaker (λ e x n. record { named = n.named; space = n.space; at = address_at-append c.items (t ∷ []) (kind_space e.kind) e.index x.address n.at }) entries found.0 found.2;
        };
      })
      (tt, tt, tt) refl refl refl refl refl refl a.imports a.resources

  -- what an alias of an export of a user module finds
  user_found : (kind : ExportKind) (instance : ℕ) (name : List ℕ) → AliasesUser w earlier kind instance name → FindsExport w earlier c s kind instance name
  user_found kind instance name h =
      let m : (x : ℕ) × (address_at spaces.CoreInstance instance c.items ≡ Some x) × IsUserInstance s h.number h.of x = user_there a h.of h.listed h.is in
      let x = offered_there a h.number h.of m.0 m.2 name h.type h.offered in
      record {
        export = x.0;
        space = x.2 ∙ space_of_kind kind h.type h.of_kind;
        is = record {
          number = h.number;
          of = h.is;
          names = inl (record { of = h.of; listed = h.listed; type = h.type; offered = h.offered; of_kind = h.of_kind });
          from = m.0;
          exports = m.2.exports;
          export = x.0;
          at = m.1;
          present = m.2.present;
          found = x.1;
          is = refl;
        };
        found = x.1;
      }

  -- and one of a shim
  shim_found : (instance : ℕ) (name : List ℕ) → AliasesShim w earlier kinds.Func instance name → FindsExport w earlier c s kinds.Func instance name
  shim_found instance name h =
      let m : (x : ℕ) × (address_at spaces.CoreInstance instance c.items ≡ Some x) × IsModuleInstance w a.shims s (shims_number w) x = module_there a h.is in
      let at : (at : ShimsAt) × (a.shims ≡ Some at) × (m.2.exports ≡ exports_of_shims w at) × (length (shims_of w) < 2 ^ 32) =
      of_shims w s (flat_map (at_root item_instantiates) earlier) m.2.user m.2.exports a.shims (has_by_place w h.place h.listed) a.with_shims m.2.each in
      let shim : Export = record { space = spaces.CoreFunc; name = decimal h.place; address = at.0.address + h.place } in
      let there : export_named name m.2.exports ≡ Some shim = ap₂ export_named h.named at.2 ∙ (shims_found (shims_of w) at.0.address at.0.table at.0.memory (cell_type w)).found h.place h.listed at.3 in
      record {
        export = shim;
        space = refl;
        is = record { number = shims_number w; of = h.is; names = inr refl; from = m.0; exports = m.2.exports; export = shim; at = m.1; present = m.2.present; found = there; is = refl };
        found = there;
      }

  -- and one of the memory that is made with the shims
  memory_found : (instance : ℕ) (name : List ℕ) → AliasesMemory w earlier kinds.Memory instance name → FindsExport w earlier c s kinds.Memory instance name
  memory_found instance name h =
      let numbers : List ℕ = flat_map (at_root item_instantiates) earlier in
      let m : (x : ℕ) × (address_at spaces.CoreInstance instance c.items ≡ Some x) × IsModuleInstance w a.shims s (shims_number w) x = module_there a h.is in
      let at : (at : ShimsAt) × (a.shims ≡ Some at) × (m.2.exports ≡ exports_of_shims w at) × (length (shims_of w) < 2 ^ 32) = of_shims w s numbers m.2.user m.2.exports a.shims (has_by_shared w h.shared) a.with_shims m.2.each in
      let made : AreShims w s numbers at.0 = subst (MayHaveShims w s numbers) at.1 a.with_shims in
      let held : (y : ℕ) × (at.0.memory ≡ Some y) = shared_address s (shared_memory w) at.0.memory h.shared made.memory in
      let there : export_named name m.2.exports ≡ Some (memory_at held.0) =
      ap₂ export_named h.named at.2 ∙ ((shims_found (shims_of w) at.0.address at.0.table at.0.memory (cell_type w)).memory_named at.3 ∙ ap (option_map memory_at) held.1) in
      record {
        export = memory_at held.0;
        space = refl;
        is = record { number = shims_number w; of = h.is; names = inr refl; from = m.0; exports = m.2.exports; export = memory_at held.0; at = m.1; present = m.2.present; found = there; is = refl };
        found = there;
      }

  -- and one of a function of the cell
  cell_found : (instance : ℕ) (name : List ℕ) → AliasesCell w earlier kinds.Func instance name → FindsExport w earlier c s kinds.Func instance name
  cell_found instance name h =
      let m : (x : ℕ) × (address_at spaces.CoreInstance instance c.items ≡ Some x) × IsModuleInstance w a.shims s (shims_number w) x = module_there a h.is in
      let at : (at : ShimsAt) × (a.shims ≡ Some at) × (m.2.exports ≡ exports_of_shims w at) × (length (shims_of w) < 2 ^ 32) =
      of_shims w s (flat_map (at_root item_instantiates) earlier) m.2.user m.2.exports a.shims (has_by_cell w h.there) a.with_shims m.2.each in
      let type : (t : ValType) × (cell_type w ≡ Some t) = some_of (cell_type w) h.there in
      let f : (address : ℕ) × (export_named name (exports_of_shims w at.0) ≡ Some (exported_function name address)) = by at.0 type.0 type.1 at.3 name h.named in
      let there : export_named name m.2.exports ≡ Some (exported_function name f.0) = ap (export_named name) at.2 ∙ f.1 in
      record {
        export = exported_function name f.0;
        space = refl;
        is = record { number = shims_number w; of = h.is; names = inr refl; from = m.0; exports = m.2.exports; export = exported_function name f.0; at = m.1; present = m.2.present; found = there; is = refl };
        found = there;
      }
    where
      by : (at : ShimsAt) (type : ValType) → cell_type w ≡ Some type → length (shims_of w) < 2 ^ 32 → (name : List ℕ) → (name ≡ getter_name) ⊎ (name ≡ setter_name) → (address : ℕ) × (export_named name (exports_of_shims w at) ≡ Some (exported_function name address))
      by at type is room name (inl named) =
          let first : ℕ = at.address + length (shims_of w) in
          (first, subst (λ n. export_named n (exports_of_shims w at) ≡ Some (exported_function n first)) (sym named) ((shims_found (shims_of w) at.address at.table at.memory (cell_type w)).getter_named room type is))
      by at type is room name (inr named) =
          let first : ℕ = at.address + length (shims_of w) in
          (first + 1, subst (λ n. export_named n (exports_of_shims w at) ≡ Some (exported_function n (first + 1))) (sym named) ((shims_found (shims_of w) at.address at.table at.memory (cell_type w)).setter_named room type is))

  -- an alias of what the module of shims exports
  abbrev pub AliasesGenerated : ExportKind → ℕ → List ℕ → Type 0
  AliasesGenerated kind instance name = AliasesShim w earlier kind instance name ⊎ AliasesMemory w earlier kind instance name ⊎ AliasesCell w earlier kind instance name

  alias_found : (kind : ExportKind) (instance : ℕ) (name : List ℕ) → AliasesUser w earlier kind instance name ⊎ AliasesGenerated kind instance name → FindsExport w earlier c s kind instance name
  alias_found kind instance name (inl h) = user_found kind instance name h
  alias_found kind instance name (inr (inl h)) = subst (λ k. FindsExport w earlier c s k instance name) (sym h.function) (shim_found instance name (subst (λ k. AliasesShim w earlier k instance name) h.function h))
  alias_found kind instance name (inr (inr (inl h))) = subst (λ k. FindsExport w earlier c s k instance name) (sym h.memory) (memory_found instance name (subst (λ k. AliasesMemory w earlier k instance name) h.memory h))
  alias_found kind instance name (inr (inr (inr h))) = subst (λ k. FindsExport w earlier c s k instance name) (sym h.function) (cell_found instance name (subst (λ k. AliasesCell w earlier k instance name) h.function h))

  -- the same, in a scope with one item more
  aliased_item : (kind : ExportKind) (instance : ℕ) (name : List ℕ) (f : FindsExport w earlier c s kind instance name) (d : Def) (t : Thing) → IsAliasedItem w (earlier ++ d ∷ []) (c.items ++ t ∷ []) s kind instance name f.export.address
  aliased_item kind instance name f d t = record {
    number = f.is.number;
    of = instance_kept earlier d f.is.of;
    names = f.is.names;
    from = f.is.from;
    exports = f.is.exports;
    export = f.is.export;
    at = address_at-append c.items (t ∷ []) spaces.CoreInstance instance f.is.from f.is.at;
    present = f.is.present;
    found = f.is.found;
    is = f.is.is;
  }

  pub step_alias : (kind : ExportKind) (instance : ℕ) (name : List ℕ) → AliasesUser w earlier kind instance name ⊎ AliasesGenerated kind instance name → Steps w gen earlier c s g a.events (defs.Item (items.Alias (aliases.CoreExport kind instance name)))
  step_alias kinds.Func instance name h =
      let d : Def = defs.Item (items.Alias (aliases.CoreExport kinds.Func instance name)) in
      let f : FindsExport w earlier c s kinds.Func instance name = alias_found kinds.Func instance name h in
      let t : Thing = record { space = spaces.CoreFunc; address = f.export.address } in
      quiet_step d c.imports s t (λ rest now. rw (f.is.at, f.is.present, f.found, f.space) refl) (keeps_store c.items t s)
      (record { space = refl; is = aliased_item kinds.Func instance name f d t }) (tt, tt, tt) refl refl refl refl refl refl a.imports a.resources
  step_alias kinds.Table instance name h =
      let d : Def = defs.Item (items.Alias (aliases.CoreExport kinds.Table instance name)) in
      let f : FindsExport w earlier c s kinds.Table instance name = alias_found kinds.Table instance name h in
      let t : Thing = record { space = spaces.CoreTable; address = f.export.address } in
      quiet_step d c.imports s t (λ rest now. rw (f.is.at, f.is.present, f.found, f.space) refl) (keeps_store c.items t s)
      (record { space = refl; is = aliased_item kinds.Table instance name f d t }) (tt, tt, tt) refl refl refl refl refl refl a.imports a.resources
  step_alias kinds.Memory instance name h =
      let d : Def = defs.Item (items.Alias (aliases.CoreExport kinds.Memory instance name)) in
      let f : FindsExport w earlier c s kinds.Memory instance name = alias_found kinds.Memory instance name h in
      let t : Thing = record { space = spaces.CoreMemory; address = f.export.address } in
      quiet_step d c.imports s t (λ rest now. rw (f.is.at, f.is.present, f.found, f.space) refl) (keeps_store c.items t s)
      (record { space = refl; is = aliased_item kinds.Memory instance name f d t }) (tt, tt, tt) refl refl refl refl refl refl a.imports a.resources
  step_alias kinds.Global instance name h =
      let d : Def = defs.Item (items.Alias (aliases.CoreExport kinds.Global instance name)) in
      let f : FindsExport w earlier c s kinds.Global instance name = alias_found kinds.Global instance name h in
      let t : Thing = record { space = spaces.CoreGlobal; address = f.export.address } in
      quiet_step d c.imports s t (λ rest now. rw (f.is.at, f.is.present, f.found, f.space) refl) (keeps_store c.items t s)
      (record { space = refl; is = aliased_item kinds.Global instance name f d t }) (tt, tt, tt) refl refl refl refl refl refl a.imports a.resources

  pub step_module : (bytes : List ℕ) → Steps w gen earlier c s g a.events (defs.Item (items.CoreModule bytes))
  step_module bytes =
      let d : Def = defs.Item (items.CoreModule bytes) in
      let t : Thing = record { space = spaces.CoreModule; address = length s.core_modules } in
      let s' : Store = record s { core_modules = s.core_modules ++ bytes ∷ [] } in
      let k : Keeps c.items (c.items ++ t ∷ []) s s' = keeps_module c.items t s bytes in (
        with_thing c t c.imports,
        s',
        g,
        quiet w gen d c s g (with_thing c t c.imports) s' refl (λ rest now. refl),
        agrees_with d (with_thing c t c.imports) s' g t a.shims (shims_same a.shims) refl k (record { space = refl; is = tt }) (tt, tt, tt)
            (rw (filter-push (is_of spaces.CoreModule) true c.items t refl, length-append s.core_modules (bytes ∷ []), add-one (length s.core_modules)) (consecutive-push 0 (filter (is_of spaces.CoreModule) c.items) (length s.core_modules) t a.modules refl))
            (sym (append-nil (map (λ (u : ModuleInstance). u.module_number) s.module_instances)))
            (AllByRecursion-weaker (IsPlannedUser-kept w k a.shims a.shims (shims_same a.shims)) s.module_instances a.served)
            a.with_globals
            a.with_tables
            (shims_beside k [] refl refl refl)
            (sym (append-nil (map (λ (e : Export). e.name) c.exports)))
            (AreKeyExports-kept w k (required_keys w) c.exports a.lifted)
            a.imports
            a.resources
            []
            tt,
      )

  pub step_custom : (name contents : List ℕ) → Steps w gen earlier c s g a.events (defs.Item (items.Custom name contents))
  step_custom name contents =
      let d : Def = defs.Item (items.Custom name contents) in
      let same : filter makes (earlier ++ d ∷ []) ≡ filter makes earlier = filter-push makes false earlier d refl in
      let old : Inventory = inventory earlier in (
        c,
        s,
        g,
        quiet w gen d c s g c s refl (λ rest now. refl),
        record {
          events = sym (append-nil a.events);
          agrees = record {
            shims = a.shims;
            events = a.events;
            seen = subst (AllZip (IsSeen w s) a.events) (sym (flat-push (expects w) earlier d ∙ append-nil (flat_map (expects w) earlier))) a.seen;
            means = subst (λ ds. AllZip (Means w a.shims (earlier ++ d ∷ []) c.items s) ds c.items) (sym same)
                (AllZip-weaker (Means-kept w a.shims a.shims (shims_same a.shims) earlier (earlier ++ d ∷ []) (λ space index e i. IsAt-append (d ∷ []) i) (keeps_all c.items s)) (filter makes earlier) c.items a.means);
            types = subst (λ (v : Inventory). AllZip (IsTypeEntry s) v.types (filter (is_of spaces.Type) c.items)) (sym (inventory-push earlier d))
                (subst (λ es. AllZip (IsTypeEntry s) es (filter (is_of spaces.Type) c.items)) (sym (append-nil old.types)) a.types);
            functions = subst (λ (v : Inventory). AllZip (IsFunctionEntry s) v.functions (filter (is_of spaces.Func) c.items)) (sym (inventory-push earlier d))
                (subst (λ es. AllZip (IsFunctionEntry s) es (filter (is_of spaces.Func) c.items)) (sym (append-nil old.functions)) a.functions);
            instances = subst (λ (v : Inventory). AllZip (IsInstanceThing s) v.instances (filter (is_of spaces.Instance) c.items)) (sym (inventory-push earlier d))
                (subst (λ es. AllZip (IsInstanceThing s) es (filter (is_of spaces.Instance) c.items)) (sym (append-nil old.instances)) a.instances);
            resources = subst (λ (v : Inventory). AreResources w a.shims s.types v.resources) (sym (inventory-push earlier d)) a.resources;
            modules = a.modules;
            instantiated = a.instantiated ∙ sym (flat-push (at_root item_instantiates) earlier d ∙ append-nil (flat_map (at_root item_instantiates) earlier));
            served = a.served;
            with_globals = a.with_globals;
            with_tables = a.with_tables;
            with_shims = subst (λ l. MayHaveShims w s l a.shims) (sym (flat-push (at_root item_instantiates) earlier d ∙ append-nil (flat_map (at_root item_instantiates) earlier))) a.with_shims;
            exports = a.exports ∙ sym (flat-push def_export earlier d ∙ append-nil (flat_map def_export earlier));
            lifted = a.lifted;
            imports = a.imports ∙ sym (ap (λ (v : Inventory). v.imports) (inventory-push earlier d));
          };
        },
      )
