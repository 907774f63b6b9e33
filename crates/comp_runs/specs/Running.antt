-- What running a list of definitions does (component model, explainer: component definitions; Canonical ABI:
-- `canon lift`, `canon lower`). One definition is run after the other; each adds the item that it defines.
use Rattle.std.specs.Prelude.{ℕ, suc, List, [], ◌∷◌, Option, Some, None, map, slice_get}
use Rattle.std.specs.Option.{option_map, option_and_then}
use Rattle.comp_bytes.specs.Spaces.{kind_space, sort_space, description_space}
use Rattle.comp_bytes.specs.References.{Reference, where_some, description_references}
use Rattle.comp_bytes.specs.Parts.{parts_of}
use Rattle.comp_bytes.specs.declared.space.Space.TheVariants as spaces
use Rattle.comp_bytes.specs.declared.types.Description.{Description}
use Rattle.comp_bytes.specs.declared.canon.CanonicalOption.{CanonicalOption}
use Rattle.comp_bytes.specs.declared.canon.CanonicalOption.TheVariants as canonical
use Rattle.comp_bytes.specs.declared.def.Argument.{Argument}
use Rattle.comp_bytes.specs.declared.def.CoreArgument.{CoreArgument}
use Rattle.comp_bytes.specs.declared.def.CoreInlineExport.{CoreInlineExport}
use Rattle.comp_bytes.specs.declared.def.Item.{Item}
use Rattle.comp_bytes.specs.declared.def.Item.TheVariants as items
use Rattle.comp_bytes.specs.declared.def.Def.{Def}
use Rattle.comp_bytes.specs.declared.def.Def.TheVariants as defs
use Rattle.standard_kinds.specs.declared.kinds.StringEncoding.TheVariants as encodings
use Rattle.core_types.specs.declared.types.FuncType.{FuncType}
use Rattle.core_runs.specs.Store.{Answer}
use Rattle.comp_trees.specs.Trees.{FunctionTree}
use Rattle.comp_trees.specs.Operands.{operand_of}
use Rattle.comp_runs.specs.Store.{Thing, Export, HeldOption, HeldEncoding, HeldMemory, HeldRealloc, HeldPostReturn, HeldAsync, HeldCallback, Lowering, IntrinsicOf, Function, Imported, Lifting, InstanceTypeOf, ComponentItem}
use Rattle.comp_runs.specs.Machine.{Machine, Outcome, Done, Stuck, Next, with_some, all_some, address_at, export_of, with_item, new_core_module, new_core_instance, new_core_function, new_function, new_type, new_component, new_instance}
use Rattle.comp_runs.specs.Instances.{ModuleMeaning, instantiate_module, aliased, type_scope, type_item, with_function_type, announced, described, instance_of_type}
use Rattle.comp_runs.specs.Signatures.{core_signature, intrinsic_signature}

-- an argument of a core instantiation, and an entry of an inline core instance
abbrev pub core_argument : Machine → CoreArgument → Option (List ℕ × List Export)
core_argument m a = option_map (λ (es : List Export). (a.name, es)) (option_and_then (slice_get m.store.core_instances) (address_at spaces.CoreInstance a.instance m.scope.items))

abbrev pub core_entry : Machine → CoreInlineExport → Option Export
core_entry m e = option_map (λ (a : ℕ). record { space = kind_space e.kind; name = e.name; address = a }) (address_at (kind_space e.kind) e.index m.scope.items)

abbrev pub argument : Machine → Argument → Option Export
argument m a = option_map (λ (x : ℕ). record { space = sort_space a.sort; name = a.name; address = x }) (address_at (sort_space a.sort) a.index m.scope.items)

-- an option, with the addresses of what it names
abbrev pub held : Machine → CanonicalOption → Option HeldOption
held m canonical.Utf8 = Some (HeldEncoding encodings.UTF8)
held m canonical.Utf16 = Some (HeldEncoding encodings.UTF16)
held m canonical.CompactUtf16 = Some (HeldEncoding encodings.CompactUTF16)
held m (canonical.Memory index) = option_map (λ a. HeldMemory a) (address_at spaces.CoreMemory index m.scope.items)
held m (canonical.Realloc index) = option_map (λ a. HeldRealloc a) (address_at spaces.CoreFunc index m.scope.items)
held m (canonical.PostReturn index) = option_map (λ a. HeldPostReturn a) (address_at spaces.CoreFunc index m.scope.items)
held m canonical.Async = Some HeldAsync
held m (canonical.Callback index) = option_map (λ a. HeldCallback a) (address_at spaces.CoreFunc index m.scope.items)

abbrev pub options_held : Machine → List CanonicalOption → Option (List HeldOption)
options_held m options = all_some (map (held m) options)

-- the type of a function, and the core type of a lowering of the one at an address
abbrev pub type_of_function : Function → FunctionTree
type_of_function (Imported origin type) = type
type_of_function (Lifting core options type) = type

abbrev pub lowered_signature : Machine → ℕ → List HeldOption → Option FuncType
lowered_signature m function options = option_map (λ f. core_signature (type_of_function f) options) (slice_get m.store.functions function)

-- what a reference to the own scope names
abbrev pub named : Machine → Reference → Option Thing
named m r = option_map (λ (a : ℕ). record { space = r.space; address = a }) (address_at r.space r.index m.scope.items)

module _ (modules : List ModuleMeaning) (met : List ℕ → Description → Machine → Next → Outcome) (made : ComponentItem → List Export → Machine → Next → Outcome) where
  -- the effect of an item, where `met` says how imports are resolved and `made` how components are instantiated
  abbrev pub item_effect : Item → Machine → Next → Outcome
  item_effect (items.CoreModule bytes) m next = next (new_core_module bytes m)
  item_effect (items.CoreInstantiate index args) m next =
      with_some (address_at spaces.CoreModule index m.scope.items)
      (λ number. with_some (slice_get modules number) (λ meaning. with_some (all_some (map (core_argument m) args)) (λ arguments. instantiate_module meaning number arguments m next)))
  item_effect (items.CoreExports entries) m next = with_some (all_some (map (core_entry m) entries)) (λ exports. next (new_core_instance exports m))
  item_effect (items.Instantiate index args) m next =
      with_some (option_and_then (slice_get m.store.components) (address_at spaces.Component index m.scope.items))
      (λ component. with_some (all_some (map (argument m) args)) (λ arguments. made component arguments m next))
  item_effect (items.Alias a) m next = with_some (aliased a m) (λ thing. next (with_item thing.space thing.address m))
  item_effect (items.Type t) m next = with_some (type_item t m) (λ item. next (new_type item m))
  item_effect (items.InstanceType t) m next = next (new_type (InstanceTypeOf t.members (m.scope.items ∷ m.scope.around)) m)
  item_effect (items.Lift index options type) m next =
      with_some (address_at spaces.CoreFunc index m.scope.items)
      (λ core. with_some (options_held m options) (λ os. with_function_type type m (λ f. next (new_function (Lifting core os f) m))))
  item_effect (items.Lower index options) m next =
      with_some (address_at spaces.Func index m.scope.items)
      (λ function. with_some (options_held m options) (λ os. with_some (lowered_signature m function os) (λ signature. next (new_core_function (Lowering function os) signature m))))
  item_effect (items.Intrinsic i) m next =
      with_some (operand_of (type_scope m) i)
      (λ operand. with_some (options_held m (parts_of i).options)
      (λ os. next (new_core_function (IntrinsicOf (parts_of i).name operand os) (intrinsic_signature (parts_of i).name operand) m)))
  item_effect (items.Import name description) m next = met name.name description m next
  item_effect (items.Export name sort index description) m next =
      with_some (address_at (sort_space sort) index m.scope.items)
      (λ a. with_some (all_some (map (named m) (where_some description_references description)))
      (λ described_by. next (with_item (sort_space sort) a (announced (sort_space sort) name.name a m))))
  item_effect (items.Custom name contents) m next = next m

  -- one item after the other
  abbrev pub items_run : List Item → Machine → Next → Outcome
  items_run [] m next = next m
  items_run (i ∷ is) m next = item_effect i m (λ after. items_run is after next)

-- an import of a nested component is the argument of its name, and components nest one deep
abbrev pub met_by_argument : List Export → List ℕ → Description → Machine → Next → Outcome
met_by_argument arguments name description m next =
    with_some (export_of (description_space description) name arguments) (λ (e : Export). next (with_item e.space e.address m))

abbrev pub made_by_none : ComponentItem → List Export → Machine → Next → Outcome
made_by_none component arguments m next = Stuck

-- a nested component is run in a scope of its own; its instance has what it exported
abbrev pub instantiate_component : List ModuleMeaning → ComponentItem → List Export → Machine → Next → Outcome
instantiate_component modules component arguments m next =
    items_run modules (met_by_argument arguments) made_by_none component.definitions (record m { scope = record { items = []; around = component.around; exports = []; imports = 0 } })
    (λ inner. next (new_instance inner.scope.exports (record inner { scope = m.scope })))

-- an import of the whole component is a new item of its own, known by the number of the import
abbrev pub met_by_itself : List ℕ → Description → Machine → Next → Outcome
met_by_itself name description m next =
    described instance_of_type (record { number = m.scope.imports; inner = None }) description (record m { scope = record m.scope { imports = suc m.scope.imports } })
    (λ address after. next after)

-- the effect of a definition of the whole component
abbrev pub effect : List ModuleMeaning → Def → Machine → Next → Outcome
effect modules (defs.Item i) m next = item_effect modules met_by_itself (instantiate_component modules) i m next
effect modules (defs.Component inner) m next = next (new_component (record { definitions = inner; around = m.scope.items ∷ m.scope.around }) m)

-- one definition after the other; `modules` says what each core module is
abbrev pub run : List ModuleMeaning → List Def → Next
run modules [] m = Done m
run modules (d ∷ ds) m = effect modules d m (run modules ds)

-- the empty machine, with these answers of the outside to come
abbrev pub fresh_machine : List Answer → Machine
fresh_machine answers = record {
  scope = record { items = []; around = []; exports = []; imports = 0 };
  store = record {
    core_modules = [];
    code = record { functions = []; tables = []; memories = [] };
    known = [];
    core_instances = [];
    functions = [];
    types = [];
    components = [];
    instances = [];
    module_instances = [];
  };
  now = record { globals = []; answers = answers; events = []; moments = [] };
}
