-- A list that keeps the rules names earlier items, each by its index and space.
use Rattle.comp_links.specs.Naming.{Naming}
use Rattle.std.proofs.Common.{ℕ, ◌<◌, length, List, [], ◌∷◌, ◌++◌, sym, subst, append-nil, Option, Some, None, inl, inr, IsSome}
use Rattle.std.specs.List.{AllByRecursion, AllZip, flat_map}
use Rattle.std.proofs.lemmas.List.{length-map}
use Rattle.std.proofs.lemmas.Option.{slice_get_within}
use Rattle.comp_bytes.specs.Spaces.{items_in, space_of, kind_space, sort_space}
use Rattle.comp_bytes.specs.References.{Reference, own, type_references, options_references, intrinsic_references, type_at}
use Rattle.comp_bytes.specs.declared.canon.Intrinsic.{Intrinsic}
use Rattle.comp_bytes.specs.declared.canon.Intrinsic.TheVariants as intrinsics
use Rattle.comp_bytes.specs.Scopes.{InScope, EachIn, DefScoped, Scoped, scope_of}
use Rattle.comp_bytes.proofs.ItemIndices.{in_range}
use Rattle.comp_bytes.specs.declared.canon.CanonicalOption.{CanonicalOption}
use Rattle.comp_bytes.specs.declared.canon.CanonicalOption.TheVariants as canonical
use Rattle.comp_bytes.specs.declared.space.Space.{Space}
use Rattle.comp_bytes.specs.declared.space.Space.TheVariants as spaces
use Rattle.comp_bytes.specs.declared.space.ComponentExportKind.TheVariants as exports
use Rattle.comp_bytes.specs.declared.space.Sort.{Sort}
use Rattle.comp_bytes.specs.declared.space.Sort.TheVariants as sorts
use Rattle.comp_bytes.specs.declared.types.ComponentValType.TheVariants as values
use Rattle.comp_bytes.specs.declared.types.TypeDef.{TypeDef}
use Rattle.comp_bytes.specs.declared.types.TypeDef.TheVariants as types
use Rattle.comp_bytes.specs.declared.types.Alias.TheVariants as aliases
use Rattle.comp_bytes.specs.declared.types.Description.TheVariants as descriptions
use Rattle.comp_bytes.specs.declared.def.Argument.{Argument}
use Rattle.comp_bytes.specs.declared.def.CoreArgument.{CoreArgument}
use Rattle.comp_bytes.specs.declared.def.CoreInlineExport.{CoreInlineExport}
use Rattle.comp_bytes.specs.declared.def.Def.{Def}
use Rattle.comp_bytes.specs.declared.def.Def.TheVariants as defs
use Rattle.comp_bytes.specs.declared.def.Item.TheVariants as items
use Rattle.comp_roles.specs.declared.imports.ImportInstance.{ImportInstance}
use Rattle.comp_roles.specs.declared.imports.ImportInstance.TheVariants as instances
use Rattle.comp_worlds.specs.declared.world.ComponentWorld.{ComponentWorld}
use Rattle.comp_links.specs.Targets.{UserModule, ExportRef}
use Rattle.comp_links.specs.Links.{destructor_of}
use Rattle.comp_terms.specs.Instances.{IsArgumentIn, IsArgumentRight}
use Rattle.comp_terms.specs.Planned.{IsArgumentFor}
use Rattle.comp_inventories.specs.Inventories as inventories
use Rattle.comp_inventories.specs.Inventories.{surroundings_of}
use Rattle.comp_inventories.proofs.Counting.{instances-counted}
use Rattle.comp_inventories.proofs.InventoryGrowth.{scope_counted}
use Rattle.comp_trees.proofs.KnownScopes.{known_in_range, operand_known, known_defined, known_function_names}
use Rattle.comp_trees.specs.DefinedTrees.{tree_at}
use Rattle.comp_trees.specs.Operands.{operand_in}
use Rattle.comp_trees.proofs.MemberScopes.{members_scoped}
use Rattle.comp_items.proofs.Kept.{function_in_range}
use Rattle.comp_state.proofs.Nesting.{nested_scoped}
use Rattle.comp_terms.specs.Instances.{ImportsInterface}
use Rattle.comp_terms.specs.Rules.{AliasesImported, AliasesType, InstantiatesModule, IsOptionRight, IsTypeRight, IsDestructorRight, IsIntrinsicRight, IsRight, RightAfter, IsEntry, IsFixupSource, IsFixupArgument, IsBuilt}
use Rattle.fixup_modules.specs.declared.instances.ImportedInstance.{ImportedInstance as FixupInstance}
use Rattle.fixup_modules.specs.declared.instances.ImportedInstance.TheVariants as sources

abbrev Within : List Def → Reference → Type 0
Within earlier = InScope (scope_of space_of earlier ∷ [])

arguments_within : (w : ComponentWorld) (of : UserModule) (earlier : List Def) (as' : List CoreArgument) (gs : List (List ℕ × ImportInstance)) → AllZip (IsArgumentFor w of earlier) as' gs →
    AllByRecursion (Within earlier) (flat_map (λ a. own spaces.CoreInstance a.instance ∷ []) as')
arguments_within w of earlier [] [] h = tt
arguments_within w of earlier (a ∷ as') (g ∷ gs) h = (argument_in_range g h.0, arguments_within w of earlier as' gs h.1)
  where
    argument_in_range : (g : List ℕ × ImportInstance) → IsArgumentFor w of earlier a g → Within earlier (own spaces.CoreInstance a.instance)
    argument_in_range (name, instances.Names fields) k = in_range k.serves.made
    argument_in_range (name, instances.Whole which) k = in_range k.serves.is.made
arguments_within w of earlier [] (g ∷ gs) h = absurd h
arguments_within w of earlier (a ∷ as') [] h = absurd h

-- an argument of an instance of a nested component is an item of the list
argument_within : (earlier : List Def) (sort : Sort) (index : ℕ) → IsArgumentIn earlier sort index → Within earlier (own (sort_space sort) index)
argument_within earlier sorts.Func index h = h
argument_within earlier sorts.Type index h = h
argument_within earlier sort index h = absurd h

given_within : (earlier : List Def) (as' : List Argument) → AllByRecursion (IsArgumentRight earlier) as' → AllByRecursion (Within earlier) (flat_map (λ a. own (sort_space a.sort) a.index ∷ []) as')
given_within earlier [] h = tt
given_within earlier (a ∷ as') h = (argument_within earlier a.sort a.index h.0, given_within earlier as' h.1)

entries_within : (earlier : List Def) (es : List CoreInlineExport) → AllByRecursion (IsEntry earlier) es → AllByRecursion (Within earlier) (flat_map (λ e. own (kind_space e.kind) e.index ∷ []) es)
entries_within earlier [] h = tt
entries_within earlier (e ∷ es) h = (h.0.scoped, entries_within earlier es h.1)

-- options name items of the list
options_within : (earlier : List Def) (os : List CanonicalOption) (rest : List Reference) → AllByRecursion (IsOptionRight earlier) os → AllByRecursion (Within earlier) rest → AllByRecursion (Within earlier) (options_references os ++ rest)
options_within earlier [] rest h k = k
options_within earlier (canonical.Memory index ∷ os) rest h k = (h.0, options_within earlier os rest h.1 k)
options_within earlier (canonical.Realloc index ∷ os) rest h k = (h.0, options_within earlier os rest h.1 k)
options_within earlier (canonical.PostReturn index ∷ os) rest h k = (h.0, options_within earlier os rest h.1 k)
options_within earlier (canonical.Callback index ∷ os) rest h k = (h.0, options_within earlier os rest h.1 k)
options_within earlier (o ∷ os) rest h k = options_within earlier os rest h.1 k

-- so do those of a lowering
lower_within : (earlier : List Def) (os : List CanonicalOption) → AllByRecursion (IsOptionRight earlier) os → AllByRecursion (Within earlier) (options_references os)
lower_within earlier os h = subst (AllByRecursion (Within earlier)) (append-nil (options_references os)) (options_within earlier os [] h tt)

-- what the fixup imports from is there
source_within : (w : ComponentWorld) (earlier : List Def) (index : ℕ) (source : FixupInstance) → IsFixupSource w earlier index source → Within earlier (own spaces.CoreInstance index)
source_within w earlier index sources.Actual h = in_range h.made
source_within w earlier index sources.Main h = in_range h.made
source_within w earlier index sources.Shim h = in_range h.made
source_within w earlier index (sources.Adapter name) h = absurd h

fixup_within : (w : ComponentWorld) (earlier : List Def) (as' : List CoreArgument) (ss : List (List ℕ × FixupInstance)) → AllZip (IsFixupArgument w earlier) as' ss → AllByRecursion (Within earlier) (flat_map (λ a. own spaces.CoreInstance a.instance ∷ []) as')
fixup_within w earlier [] [] h = tt
fixup_within w earlier (a ∷ as') (s ∷ ss) h = (source_within w earlier a.instance s.1 h.0.serves, fixup_within w earlier as' ss h.1)
fixup_within w earlier [] (s ∷ ss) h = absurd h
fixup_within w earlier (a ∷ as') [] h = absurd h

-- the module that is instantiated and its arguments are there
module_within : (w : ComponentWorld) (earlier : List Def) (number : ℕ) (arguments : List CoreArgument) → InstantiatesModule w earlier number arguments →
    AllByRecursion (Within earlier) (own spaces.CoreModule number ∷ flat_map (λ a. own spaces.CoreInstance a.instance ∷ []) arguments)
module_within w earlier number arguments (inl h) = (h.scoped, arguments_within w h.of.of earlier arguments h.of.found.imports.modules h.each)
module_within w earlier number arguments (inr (inl h)) = (h.scoped, subst (λ (as' : List CoreArgument). AllByRecursion (Within earlier) (flat_map (λ a. own spaces.CoreInstance a.instance ∷ []) as')) (sym h.closed) tt)
module_within w earlier number arguments (inr (inr h)) = (h.scoped, fixup_within w earlier arguments _ h.given)

type_named : (earlier : List Def) (index : ℕ) → index < length (inventories.scope_of earlier) → Within earlier (own spaces.Type index)
type_named earlier index l = subst (λ n. index < n) (scope_counted earlier) l

-- a type names types of the list, since nothing in it is unknown
type_within : (earlier : List Def) (t : TypeDef) → IsTypeRight (inventories.scope_of earlier) t → AllByRecursion (Within earlier) (type_references t)
type_within earlier (types.Func f) h = known_function_names (Within earlier) (inventories.scope_of earlier) (type_named earlier) f h
type_within earlier (types.Defined t) h = known_defined (Within earlier) (inventories.scope_of earlier) (type_named earlier) t h
type_within earlier (types.Resource destructor) h = absurd h

-- the destructor of a resource is a core function of the list
destructor_within : (w : ComponentWorld) (earlier : List Def) (destructor : Option ℕ) (e : Option ExportRef) → IsDestructorRight w earlier destructor e → AllByRecursion (Within earlier) (type_references (types.Resource destructor))
destructor_within w earlier None None h = tt
destructor_within w earlier (Some index) (Some name) h = (in_range h.is.made, tt)
destructor_within w earlier None (Some name) h = absurd h
destructor_within w earlier (Some index) None h = absurd h

-- the operand of an intrinsic is a type of the list, since it is known
operand_named : (earlier : List Def) (type : ℕ) → IsSome (operand_in (inventories.scope_of earlier) (Some (values.Defined type))) → Within earlier (own spaces.Type type)
operand_named earlier type h =
    let scope = inventories.scope_of earlier in type_named earlier type (known_in_range scope type (operand_known (tree_at scope type) h))

intrinsic_within : (earlier : List Def) (i : Intrinsic) → IsIntrinsicRight earlier i → AllByRecursion (Within earlier) (intrinsic_references i)
intrinsic_within earlier (intrinsics.ResourceNew type) h = (type_named earlier type h.is.denotes.within, tt)
intrinsic_within earlier (intrinsics.ResourceRep type) h = (type_named earlier type h.is.denotes.within, tt)
intrinsic_within earlier (intrinsics.ResourceDrop type) h = (type_named earlier type h.is.denotes.within, tt)
intrinsic_within earlier (intrinsics.TaskReturn None options) h = lower_within earlier options h.options
intrinsic_within earlier (intrinsics.TaskReturn (Some (values.Primitive p)) options) h = lower_within earlier options h.options
intrinsic_within earlier (intrinsics.TaskReturn (Some (values.Defined type)) options) h = (operand_named earlier type h.operand, lower_within earlier options h.options)
intrinsic_within earlier (intrinsics.StreamNew type) h = (operand_named earlier type h.operand, tt)
intrinsic_within earlier (intrinsics.StreamRead type options) h = (operand_named earlier type h.operand, lower_within earlier options h.options)
intrinsic_within earlier (intrinsics.StreamWrite type options) h = (operand_named earlier type h.operand, lower_within earlier options h.options)
intrinsic_within earlier (intrinsics.StreamCancelRead type is_async) h = (operand_named earlier type h.operand, tt)
intrinsic_within earlier (intrinsics.StreamCancelWrite type is_async) h = (operand_named earlier type h.operand, tt)
intrinsic_within earlier (intrinsics.StreamDropReadable type) h = (operand_named earlier type h.operand, tt)
intrinsic_within earlier (intrinsics.StreamDropWritable type) h = (operand_named earlier type h.operand, tt)
intrinsic_within earlier (intrinsics.FutureNew type) h = (operand_named earlier type h.operand, tt)
intrinsic_within earlier (intrinsics.FutureRead type options) h = (operand_named earlier type h.operand, lower_within earlier options h.options)
intrinsic_within earlier (intrinsics.FutureWrite type options) h = (operand_named earlier type h.operand, lower_within earlier options h.options)
intrinsic_within earlier (intrinsics.FutureCancelRead type is_async) h = (operand_named earlier type h.operand, tt)
intrinsic_within earlier (intrinsics.FutureCancelWrite type is_async) h = (operand_named earlier type h.operand, tt)
intrinsic_within earlier (intrinsics.FutureDropReadable type) h = (operand_named earlier type h.operand, tt)
intrinsic_within earlier (intrinsics.FutureDropWritable type) h = (operand_named earlier type h.operand, tt)
intrinsic_within earlier (intrinsics.ErrorContextNew options) h = lower_within earlier options h.options
intrinsic_within earlier (intrinsics.ErrorContextDebugMessage options) h = lower_within earlier options h.options
intrinsic_within earlier (intrinsics.WaitableSetWait memory) h = (h.options.0, tt)
intrinsic_within earlier (intrinsics.WaitableSetPoll memory) h = (h.options.0, tt)
intrinsic_within earlier i h = tt

-- an alias names an instance of the list, since one is imported there
instance_in_range : (earlier : List Def) (space : Space) (instance : ℕ) (name : List ℕ) → AliasesImported earlier space instance name → instance < items_in spaces.Instance earlier
instance_in_range earlier space instance name h =
    subst (λ n. instance < n) (instances-counted earlier) (slice_get_within (inventories.inventory earlier).instances instance (inventories.ImportedInstance h.number h.outer h.members) h.imported)

type_alias_in_range : (earlier : List Def) (instance : ℕ) (name : List ℕ) → AliasesType earlier instance name → instance < items_in spaces.Instance earlier
type_alias_in_range earlier instance name (inl h) = instance_in_range earlier spaces.Type instance name h
type_alias_in_range earlier instance name (inr h) =
    subst (λ n. instance < n) (instances-counted earlier) (slice_get_within (inventories.inventory earlier).instances instance (inventories.NestedInstance h.exported) h.nested)

-- the import of an instance names a type of the list
instance_type_there : (w : ComponentWorld) (earlier : List Def) (index : ℕ) → ImportsInterface w earlier index → index < length (inventories.scope_of earlier)
instance_type_there w earlier index h =
    subst (λ n. index < n) (sym (length-map (inventories.inventory earlier).types inventories.entry_tree)) (slice_get_within (inventories.inventory earlier).types index (inventories.OfInstances h.outer h.members) h.is)

within : (w : ComponentWorld) (earlier : List Def) (d : Def) → IsRight w earlier d → DefScoped (scope_of space_of earlier) d
within w earlier (defs.Component inner) h = nested_scoped h.0.given (scope_of space_of earlier) inner h.0.right
within w earlier (defs.Item (items.CoreModule bytes)) h = (tt, tt)
within w earlier (defs.Item (items.CoreInstantiate number arguments)) h = (module_within w earlier number arguments h, tt)
within w earlier (defs.Item (items.CoreExports entries)) h = (entries_within earlier entries h.each, tt)
within w earlier (defs.Item (items.Instantiate component arguments)) h = ((in_range h.made, given_within earlier arguments h.scoped), tt)
within w earlier (defs.Item (items.Alias (aliases.Export exports.Func instance name))) h = ((instance_in_range earlier spaces.Func instance name h, tt), tt)
within w earlier (defs.Item (items.Alias (aliases.Export exports.Type instance name))) h = ((type_alias_in_range earlier instance name h, tt), tt)
within w earlier (defs.Item (items.Alias (aliases.Export exports.Component instance name))) h = absurd h
within w earlier (defs.Item (items.Alias (aliases.Export exports.Instance instance name))) h = absurd h
within w earlier (defs.Item (items.Alias (aliases.CoreExport kind instance name))) (inl h) = ((in_range h.is.made, tt), tt)
within w earlier (defs.Item (items.Alias (aliases.CoreExport kind instance name))) (inr (inl h)) = ((in_range h.is.made, tt), tt)
within w earlier (defs.Item (items.Alias (aliases.CoreExport kind instance name))) (inr (inr (inl h))) = ((in_range h.is.made, tt), tt)
within w earlier (defs.Item (items.Alias (aliases.CoreExport kind instance name))) (inr (inr (inr h))) = ((in_range h.is.made, tt), tt)
within w earlier (defs.Item (items.Alias (aliases.Outer count index))) h = absurd h
within w earlier (defs.Item (items.Type (types.Func f))) h = (type_within earlier (types.Func f) h, tt)
within w earlier (defs.Item (items.Type (types.Defined t))) h = (type_within earlier (types.Defined t) h, tt)
within w earlier (defs.Item (items.Type (types.Resource destructor))) h = (destructor_within w earlier destructor (destructor_of w h.provided) h.destructed, tt)
within w earlier (defs.Item (items.InstanceType t)) h = (tt, members_scoped (surroundings_of h.number (inventories.scope_of earlier)) (scope_of space_of earlier) (scope_counted earlier) t.members h.right)
within w earlier (defs.Item (items.Lift core options kind)) h = ((h.0, options_within earlier options (type_at kind) h.1 (type_named earlier kind h.2.is.denotes.within, tt)), tt)
within w earlier (defs.Item (items.Lower function options)) h = ((function_in_range h.0.is, lower_within earlier options h.1), tt)
within w earlier (defs.Item (items.Intrinsic i)) h = (intrinsic_within earlier i h, tt)
within w earlier (defs.Item (items.Import name (descriptions.Func kind))) h = ((type_named earlier kind h.is.denotes.within, tt), tt)
within w earlier (defs.Item (items.Import name (descriptions.TypeEqual index))) h = ((type_named earlier index h.0, tt), tt)
within w earlier (defs.Item (items.Import name descriptions.SubResource)) h = (tt, tt)
within w earlier (defs.Item (items.Import name (descriptions.Instance index))) h = ((type_named earlier index (instance_type_there w earlier index h), tt), tt)
within w earlier (defs.Item (items.Export name sorts.Func index None)) h = ((in_range h.lifted.is.is.made, tt), tt)
within w earlier (defs.Item (items.Export name sorts.Func index (Some d))) h = absurd h
within w earlier (defs.Item (items.Export name (sorts.Core kind) index None)) h = absurd h
within w earlier (defs.Item (items.Export name (sorts.Core kind) index (Some d))) h = absurd h
within w earlier (defs.Item (items.Export name sorts.Type index None)) h = absurd h
within w earlier (defs.Item (items.Export name sorts.Type index (Some d))) h = absurd h
within w earlier (defs.Item (items.Export name sorts.Component index None)) h = absurd h
within w earlier (defs.Item (items.Export name sorts.Component index (Some d))) h = absurd h
within w earlier (defs.Item (items.Export name sorts.Instance index None)) h = ((in_range h.instance, tt), tt)
within w earlier (defs.Item (items.Export name sorts.Instance index (Some d))) h = absurd h
within w earlier (defs.Item (items.Custom name contents)) h = (tt, tt)

each_within : (w : ComponentWorld) (earlier ds : List Def) → RightAfter w earlier ds → EachIn space_of DefScoped earlier ds
each_within w earlier [] h = tt
each_within w earlier (d ∷ ds) h = (within w earlier d h.0, each_within w (earlier ++ d ∷ []) ds h.1)

-- each index of a whole component names an earlier item of its space
pub built_scoped : (n : Naming) (w : ComponentWorld) (ds : List Def) → IsBuilt n w ds → Scoped ds
built_scoped n w ds h = each_within w [] ds h.right
