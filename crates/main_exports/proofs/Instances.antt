-- A nested component and its instance, and the export of the instance.
use Rattle.std.proofs.Common.{arith, ◌≡◌, ◌∙◌, ◌<◌, ◌&&◌, ℕ, Bool, true, false, true≢false, if◌then◌else◌, List, [], ◌∷◌, ◌++◌, refl, ap, ap₂, sym, subst, Some}
use Rattle.std.specs.Prelude.{length, map, get_or}
use Rattle.std.proofs.lemmas.List.Sums.{sum_by-append}
use Rattle.std.proofs.lemmas.Option.{get_or_from_slice_get, none-some, same_Some, slice_get-get_or}
use Rattle.std.specs.List.{AllByRecursion, AllZip, IsDistinct, flat_map, slice_get}
use Rattle.std.proofs.lemmas.List.{map-append}
use Rattle.std.specs.Map.{keys_of}
use Rattle.std.specs.Str.{bytes_eq}
use Rattle.comp_lists.proofs.Lists.{AllByRecursion-weaker, AllByRecursion-front, AllByRecursion-back}
use Rattle.comp_bytes.specs.ItemIndices.{IsAt}
use Rattle.comp_bytes.specs.ScopeNames.{item_export}
use Rattle.comp_bytes.specs.Spaces.{is_space, items_in, sort_space, space_of}
use Rattle.comp_bytes.proofs.ItemIndices.{in_range}
use Rattle.comp_bytes.specs.declared.def.Argument.{Argument}
use Rattle.comp_bytes.specs.declared.def.Def.{Def}
use Rattle.comp_bytes.specs.declared.def.Def.TheVariants as defs
use Rattle.comp_bytes.specs.declared.def.Item.{Item}
use Rattle.comp_bytes.specs.declared.def.Item.TheVariants as items
use Rattle.comp_bytes.specs.declared.space.Sort.{Sort}
use Rattle.comp_bytes.specs.declared.space.Sort.TheVariants as sorts
use Rattle.comp_bytes.specs.declared.space.Space.{Space}
use Rattle.comp_bytes.specs.declared.space.Space.TheVariants as spaces
use Rattle.standard_kinds.specs.declared.kinds.ExportKind.TheVariants as kinds
use Rattle.wit_data.specs.declared.functions.Function.{Function}
use Rattle.wit_data.specs.Live.{named_types}
use Rattle.wit_data.specs.declared.ids.InterfaceId.{InterfaceId}
use Rattle.wit_data.specs.declared.ids.TypeId.{TypeId}
use Rattle.wit_data.specs.declared.types.TypeDef.{TypeDef}
use Rattle.wit_data.specs.declared.worlds.WorldItem.TheVariants as world_items
use Rattle.wit_data.specs.declared.worlds.WorldKey.{WorldKey}
use Rattle.comp_inventories.specs.Inventories.{argument_named, FunctionEntry, inventory, no_function as no_entry}
use Rattle.comp_inventories.proofs.Counting.{functions-counted}
use Rattle.comp_inventories.proofs.InventoryGrowth.{function_kept, scope_counted}
use Rattle.comp_trees.specs.Trees.{Resource}
use Rattle.comp_trees.specs.DefinedTrees.{TypeTree}
use Rattle.nested_terms.specs.Naming.{import_names}
use Rattle.nested_terms.specs.Nested.{NestedFunction, NestedImport, ImportedFunction, ImportedType, function_import, type_import, empty_scope, imports_after, exports_after}
use Rattle.nested_terms.proofs.Numbering.{names_are}
use Rattle.nested_components.specs.Functions.{functions_of as functions_among, nested_functions, exported}
use Rattle.nested_components.specs.Types.{exported_type, IsImportOf}
use Rattle.nested_components.specs.declared.component.NestedComponent.{NestedComponent}
use Rattle.nested_components.specs.declared.type_import.TypeImport.{TypeImport}
use Rattle.world_values.specs.Items.{functions_of}
use Rattle.comp_worlds.specs.Encodable.{IsEncodable}
use Rattle.comp_worlds.specs.WorldContents.{exported_item}
use Rattle.comp_worlds.specs.declared.world.ComponentWorld.{ComponentWorld}
use Rattle.comp_links.specs.Lists.{required_keys, resource_of, IsTypeImport}
use Rattle.comp_links.specs.Targets.{UserModule as User}
use Rattle.interface_needs.proofs.Lists.{all_both}
use Rattle.comp_terms.specs.Instances.{IsNestedRight, IsArgumentIn, IsArgumentRight, IsFunctionGiven, IsTypeGiven, IsImportGiven, InstantiatesNested}
use Rattle.comp_terms.specs.Exports.{IsNestedFor, PassesOn, ExportsInterface, exports_in}
use Rattle.comp_terms.specs.Rules.{Grows, NestedOf, nested_marked}
use Rattle.comp_items.proofs.Kept.{Longer, denotes-kept}
use Rattle.root_imports.specs.Growing.{Grows-by, Grows-then}
use Rattle.root_imports.proofs.ExportedTypes.{same_name}
use Rattle.interface_needs.proofs.Usable.{usable_from}
use Rattle.comp_inventories.specs.Inventories.{NestedInstance, given_by, scope_of}
use Rattle.root_imports.specs.Interfaces.{ExportsListed}
use Rattle.main_exports.proofs.GivenTypes.{exported_entry, same_given}
use Rattle.main_exports.proofs.TypeArguments.{usable_import}
use Rattle.main_exports.specs.Exports.{IsExportAdded, IsNestedOf, nested_mark, functions_at, functions_of_key, key_for, AreLiftArguments, IsTypeArgument, AreArgumentsOf, AreArgumentsFor, IsInstantiated}
use Rattle.main_exports.proofs.Exporting.{own_names, interface_functions}
use Rattle.main_exports.proofs.Growth.{all_arguments-kept}
use Rattle.main_exports.proofs.Nested.{AreFound, Finds, IsOfSort, all_found, all_given, types_given, imports_given, all_passed, arguments_named, types_named, lifts_sorted, types_sorted, exports_found, past_types, IsTypeFound, types_found, functions_named, import_types_named, functions_then_types, exports_named, imported_names, given_names, listed_names, exported_names, export_name}

-- ---- arguments

function_given : (ds : List Def) (a : Argument) → a.sort ≡ sorts.Func → a.index < items_in spaces.Func ds → IsArgumentRight ds a
function_given ds a same l = subst (λ s. IsArgumentIn ds s a.index) (sym same) l

lifts_scoped : (w : ComponentWorld) (of : User) (ds : List Def) (key : WorldKey) (es : List (List ℕ × Function)) (names : List (List ℕ)) (as' : List Argument) → AreLiftArguments w of ds key es names as' → AllByRecursion (IsArgumentRight ds) as'
lifts_scoped w of ds key [] [] [] h = tt
lifts_scoped w of ds key (e ∷ es) (name ∷ names) (a ∷ as') h = (function_given ds a h.0.sort (in_range h.0.lifted.lifted.is.is.made), lifts_scoped w of ds key es names as' h.1)
lifts_scoped w of ds key [] [] (a ∷ as') h = absurd h
lifts_scoped w of ds key [] (name ∷ names) as' h = absurd h
lifts_scoped w of ds key (e ∷ es) [] as' h = absurd h
lifts_scoped w of ds key (e ∷ es) (name ∷ names) [] h = absurd h

types_scoped : (w : ComponentWorld) (ds : List Def) (is : List TypeImport) (as' : List Argument) → AllZip (IsTypeArgument w ds) is as' → AllByRecursion (IsArgumentRight ds) as'
types_scoped w ds [] [] h = tt
types_scoped w ds (i ∷ is) (a ∷ as') h = (subst (λ s. IsArgumentIn ds s a.index) (sym h.0.sort) (subst (λ n. a.index < n) (scope_counted ds) h.0.denotes.within), types_scoped w ds is as' h.1)
types_scoped w ds [] (a ∷ as') h = absurd h
types_scoped w ds (i ∷ is) [] h = absurd h

items_more : (old new : List Def) → Longer old new → (space : Space) (index : ℕ) → index < items_in space old → index < items_in space new
items_more old new g space index l =
    let grown = ap (items_in space) g.grown ∙ sum_by-append (λ d. if is_space space (space_of d) then 1 else 0) old g.more in
    omega (arith, grown, l)

-- they stay what they are
module _ (old new : List Def) (g : Longer old new) where
  in_range-kept : (s : Sort) (index : ℕ) → IsArgumentIn old s index → IsArgumentIn new s index
  in_range-kept sorts.Func index l = items_more old new g spaces.Func index l
  in_range-kept sorts.Type index l = items_more old new g spaces.Type index l
  in_range-kept s index h = absurd h

  given-kept : (arguments : List Argument) (i : NestedImport) → AllByRecursion (IsArgumentRight old) arguments → IsImportGiven old arguments i → IsImportGiven new arguments i
  given-kept arguments (ImportedFunction name type) right h = record { argument = h.argument; named = h.named; typed = type-kept h.argument.index (function_in_scope arguments h.argument name right h.named) ∙ h.typed }
    where
      type-kept : (index : ℕ) → index < length (inventory old).functions → (get_or (inventory new).functions index no_entry).type ≡ (get_or (inventory old).functions index no_entry).type
      type-kept index l =
          let f : FunctionEntry = get_or (inventory old).functions index no_entry in
          let at : slice_get (inventory old).functions index ≡ Some f = slice_get-get_or (inventory old).functions index no_entry l in
          let later : slice_get (inventory new).functions index ≡ Some f = ap (λ l. slice_get (inventory l).functions index) g.grown ∙ function_kept old g.more index f at in
          ap (λ (e : FunctionEntry). e.type) (get_or_from_slice_get (inventory new).functions index f no_entry later)

      function_in_scope : (as' : List Argument) (a : Argument) (name : List ℕ) → AllByRecursion (IsArgumentRight old) as' → argument_named sorts.Func name as' ≡ Some a → a.index < length (inventory old).functions
      function_in_scope [] a name r e = absurd (none-some a e)
      function_in_scope (b ∷ bs) a name r e = by (is_space (sort_space sorts.Func) (Some (sort_space b.sort)) && bytes_eq name b.name) refl e (λ k. function_in_scope bs a name r.1 k)
        where
          of_function : (s : Sort) (t : Bool) → (is_space (sort_space sorts.Func) (Some (sort_space s)) && t) ≡ true → s ≡ sorts.Func
          of_function sorts.Func t k = refl
          of_function (sorts.Core kinds.Func) t h = absurd (true≢false (sym h))
          of_function (sorts.Core kinds.Table) t h = absurd (true≢false (sym h))
          of_function (sorts.Core kinds.Memory) t h = absurd (true≢false (sym h))
          of_function (sorts.Core kinds.Global) t h = absurd (true≢false (sym h))
          of_function sorts.Type t h = absurd (true≢false (sym h))
          of_function sorts.Component t h = absurd (true≢false (sym h))
          of_function sorts.Instance t h = absurd (true≢false (sym h))

          by : (t : Bool) → (is_space (sort_space sorts.Func) (Some (sort_space b.sort)) && bytes_eq name b.name) ≡ t → (if t then Some b else argument_named sorts.Func name bs) ≡ Some a → (argument_named sorts.Func name bs ≡ Some a → a.index < length (inventory old).functions) → a.index < length (inventory old).functions
          by true is k rest =
              let own : b.index < items_in spaces.Func old = subst (λ s. IsArgumentIn old s b.index) (of_function b.sort (bytes_eq name b.name) is) r.0 in
              subst (λ (x : Argument). x.index < length (inventory old).functions) (same_Some b a k) (subst (λ n. b.index < n) (sym (functions-counted old)) own)
          by false is k rest = rest k
  given-kept arguments (ImportedType name tree) right h = record { argument = h.argument; named = h.named; denotes = denotes-kept g h.denotes }

  pub arguments_after : (definitions : List Item) (arguments : List Argument) → AreArgumentsFor old definitions arguments → AreArgumentsFor new definitions arguments
  arguments_after definitions arguments h = record {
    given = h.given;
    scoped = AllByRecursion-weaker (λ (a : Argument) r. in_range-kept a.sort a.index r) arguments h.scoped;
    apart = h.apart;
    exact = h.exact;
    right = h.right;
    each = AllByRecursion-weaker (λ (i : NestedImport) k. given-kept arguments i h.scoped k) (imports_after h.given empty_scope definitions) h.each;
  }

-- ---- a component and its instance

pub adds_instance : (w : ComponentWorld) (old mid new : List Def) (definitions : List Item) (arguments : List Argument) (component : ℕ) → IsNestedRight definitions → IsNestedFor w definitions → AreArgumentsFor old definitions arguments →
    mid ≡ old ++ defs.Component definitions ∷ [] → IsAt mid spaces.Component component (defs.Component definitions) → new ≡ mid ++ defs.Item (items.Instantiate component arguments) ∷ [] → Grows w old new (nested_mark definitions ∷ [])
adds_instance w old mid new definitions arguments component right of given first at second =
    let kept : AreArgumentsFor mid definitions arguments = arguments_after old mid (record { more = defs.Component definitions ∷ []; grown = first }) definitions arguments given in
    Grows-then (Grows-by (defs.Component definitions) first (right, of))
    (Grows-by (defs.Item (items.Instantiate component arguments)) second
    (record { definitions = definitions; given = kept.given; made = at; scoped = kept.scoped; apart = kept.apart; exact = kept.exact; right = kept.right; each = kept.each }))

-- ---- what is known of the nested component of an interface

module _ (w : ComponentWorld) (key : WorldKey) (listed : List (List ℕ × TypeId)) (entries : List (List ℕ × Function)) (c : NestedComponent) (n : IsNestedOf w listed entries c) where
  abbrev origin : TypeId → Resource
  origin = resource_of w

  abbrev all_types : List TypeDef
  all_types = w.resolve.types

  function_names : flat_map function_import c.items ≡ c.names
  function_names = functions_named n.given empty_scope c.items ∙ (ap (map (λ (f : NestedFunction). f.argument)) n.passes.functions ∙ imported_names origin all_types [] (functions_among entries) c.names n.names)

  type_names_are : flat_map type_import c.items ≡ map (λ (i : TypeImport). i.name) c.types
  type_names_are = import_types_named n.given empty_scope c.items ∙ (ap (map (λ (t : List ℕ × TypeTree). t.0)) n.passes.types ∙ given_names origin all_types c.types)

  module _ (of : User) (ds : List Def) (arguments : List Argument) (h : AreArgumentsOf w of ds key entries c arguments) where
    both_named : map (λ (a : Argument). a.name) (h.lifts ++ h.types) ≡ flat_map function_import c.items ++ flat_map type_import c.items
    both_named =
        map-append (λ (a : Argument). a.name) h.lifts h.types
        ∙ ap₂ (λ xs ys. xs ++ ys) (arguments_named w of ds key entries c.names h.lifts h.lifted ∙ sym function_names) (types_named w ds c.types h.types h.given ∙ sym type_names_are)

    distinct : IsDistinct bytes_eq (map (λ (a : Argument). a.name) (h.lifts ++ h.types))
    distinct = subst (IsDistinct bytes_eq) (sym both_named) (functions_then_types c.items n.apart)

    finds : AllByRecursion (Finds (h.lifts ++ h.types)) (h.lifts ++ h.types)
    finds =
        all_found (h.lifts ++ h.types) (all_both IsOfSort h.lifts h.types (lifts_sorted w of ds key entries c.names h.lifts h.lifted) (types_sorted w ds c.types h.types h.given)) distinct

    finds_lifts : AllByRecursion (Finds (h.lifts ++ h.types)) h.lifts
    finds_lifts = AllByRecursion-front (Finds (h.lifts ++ h.types)) h.lifts h.types finds

    -- each import is given one
    given : AllByRecursion (IsImportGiven ds (h.lifts ++ h.types)) (imports_after n.given empty_scope c.items)
    given =
        let all : List Argument = h.lifts ++ h.types in
        imports_given w of ds key all (imports_after n.given empty_scope c.items)
        (subst (AllByRecursion (λ (g : NestedFunction). IsFunctionGiven ds all g.argument g.type)) (sym n.passes.functions) (all_given w of ds key all [] entries c.names h.lifts n.names h.lifted finds_lifts))
        (subst (AllByRecursion (λ (t : List ℕ × TypeTree). IsTypeGiven ds all t.0 t.1)) (sym n.passes.types)
        (types_given w of ds key all c.types h.types h.given (AllByRecursion-back (Finds all) h.lifts h.types finds)))

    pub all_scoped : AllByRecursion (IsArgumentRight ds) arguments
    all_scoped =
        subst (AllByRecursion (IsArgumentRight ds)) (sym h.both)
        (all_both (IsArgumentRight ds) h.lifts h.types (lifts_scoped w of ds key entries c.names h.lifts h.lifted) (types_scoped w ds c.types h.types h.given))

    pub names_apart : IsDistinct bytes_eq (map (λ (a : Argument). a.name) arguments)
    names_apart = subst (λ as'. IsDistinct bytes_eq (map (λ (a : Argument). a.name) as')) (sym h.both) distinct

    pub names_exact : map (λ (a : Argument). a.name) arguments ≡ flat_map function_import c.items ++ flat_map type_import c.items
    names_exact = ap (map (λ (a : Argument). a.name)) h.both ∙ both_named

    pub each_given : AllByRecursion (IsImportGiven ds arguments) (imports_after n.given empty_scope c.items)
    each_given = subst (λ as'. AllByRecursion (IsImportGiven ds as') (imports_after n.given empty_scope c.items)) (sym h.both) given

    -- the arguments are those of the component
    abbrev pub arguments_for : AreArgumentsFor ds c.items arguments
    arguments_for = record { given = n.given; scoped = all_scoped; apart = names_apart; exact = names_exact; right = n.passes.right; each = each_given }

    -- an instance that is given them is one of it
    abbrev pub instantiates : (component : ℕ) → IsAt ds spaces.Component component (defs.Component c.items) → InstantiatesNested ds component arguments
    instantiates component made = record { definitions = c.items; given = n.given; made = made; scoped = all_scoped; apart = names_apart; exact = names_exact; right = n.passes.right; each = each_given }

    -- and the lifts are passed on
    pub lifts_passed : AllByRecursion (λ (e : List ℕ × Function). e.0 ≡ e.1.name) entries → IsDistinct bytes_eq (keys_of entries) → AllByRecursion (PassesOn w ds arguments (exports_after n.given empty_scope c.items)) (functions_at of key entries)
    lifts_passed own apart =
        let xs = exported (functions_among entries) (nested_functions origin all_types (functions_among entries) c.names) in
        let found : AreFound origin all_types (map (exported_type origin all_types) listed ++ xs) entries c.names =
        past_types origin all_types listed xs entries c.names (exports_found origin all_types [] entries c.names n.names own apart) in
        subst (λ as'. AllByRecursion (PassesOn w ds as' (exports_after n.given empty_scope c.items)) (functions_at of key entries)) (sym h.both)
        (subst (λ l. AllByRecursion (PassesOn w ds (h.lifts ++ h.types) l) (functions_at of key entries)) (sym n.passes.exports)
        (all_passed w of ds key (h.lifts ++ h.types) (map (exported_type origin all_types) listed ++ xs) entries c.names h.lifts found h.lifted finds_lifts))

  -- the types that are listed are exported
  pub types_exported : IsDistinct bytes_eq (keys_of listed) → AllByRecursion (IsTypeFound origin all_types (exports_after n.given empty_scope c.items)) listed
  types_exported apart =
      let xs = exported (functions_among entries) (nested_functions origin all_types (functions_among entries) c.names) in
      subst (λ l. AllByRecursion (IsTypeFound origin all_types l) listed) (sym n.passes.exports) (types_found origin all_types xs listed apart)

  -- its landmark
  pub nested_marked_as : nested_mark c.items ≡ NestedOf (import_names (functions_among entries)) (map (λ (t : List ℕ × TypeId). t.0) listed ++ map (λ (f : Function). f.name) (functions_among entries))
  nested_marked_as =
      let fs = functions_among entries in
      let exports : flat_map item_export c.items ≡ map (λ (t : List ℕ × TypeId). t.0) listed ++ map (λ (f : Function). f.name) fs =
      exports_named n.given empty_scope c.items n.passes.right
      ∙ (ap (map export_name) n.passes.exports
      ∙ (listed_names origin all_types listed (exported fs (nested_functions origin all_types fs c.names))
      ∙ ap (λ l. map (λ (t : List ℕ × TypeId). t.0) listed ++ l) (exported_names origin all_types [] fs c.names n.names))) in
      ap₂ NestedOf (function_names ∙ names_are [] fs c.names n.names) exports

-- it is one of an exported interface
import_of : (w : ComponentWorld) → IsEncodable w → (key : WorldKey) (id : InterfaceId) → exported_item w key ≡ Some (world_items.Interface id) → (i : TypeImport) → IsImportOf w.resolve.types (named_types w.resolve id) (functions_of w.resolve id) i → IsTypeImport w id i.name
import_of w ok key id is i h =
    record { type = i.id; of = h.text; titled = sym (same_name w.resolve.types i.id.index) ∙ h.titled; from = usable_from w ok id i.id (usable_import w ok key id is i h); count = h.count; same = h.same }

pub nested_for : (w : ComponentWorld) → IsEncodable w → (key : WorldKey) (id : InterfaceId) → exported_item w key ≡ Some (world_items.Interface id) → (c : NestedComponent) → IsNestedOf w (named_types w.resolve id) (functions_of w.resolve id) c → IsNestedFor w c.items
nested_for w ok key id is c n = record {
  key = key;
  id = id;
  item = is;
  types = subst (AllByRecursion (IsTypeImport w id)) (sym (type_names_are w key (named_types w.resolve id) (functions_of w.resolve id) c n)) (named c.types n.passes.own);
  apart = n.apart;
}
  where
    named : (is : List TypeImport) → AllByRecursion (IsImportOf w.resolve.types (named_types w.resolve id) (functions_of w.resolve id)) is → AllByRecursion (IsTypeImport w id) (map (λ (i : TypeImport). i.name) is)
    named [] h = tt
    named (i ∷ more) h = (import_of w ok key id is i h.0, named more h.1)

-- an instance of it is what an interface is exported as
pub exports_interface : (w : ComponentWorld) → IsEncodable w → (key : WorldKey) (id : InterfaceId) → exported_item w key ≡ Some (world_items.Interface id) → (c : NestedComponent) → IsNestedOf w (named_types w.resolve id) (functions_of w.resolve id) c →
    (of : User) (arguments : List Argument) (ds : List Def) (index : ℕ) → slice_get (required_keys w) (exports_in ds) ≡ Some (key_for of key) → AreArgumentsOf w of ds key (functions_of w.resolve id) c arguments → IsDistinct bytes_eq (keys_of (functions_of w.resolve id)) →
    IsDistinct bytes_eq (keys_of (named_types w.resolve id)) → IsInstantiated ds c.items arguments index → ExportsInterface w ds index
exports_interface w ok key id is c n of arguments ds index next h apart types_apart made = record {
  required = key_for of key;
  id = id;
  next = next;
  item = is;
  component = made.component;
  arguments = arguments;
  instance = made.instance;
  nested = instantiates w key (named_types w.resolve id) (functions_of w.resolve id) c n of ds arguments h made.component made.made;
  types = types_exported w key (named_types w.resolve id) (functions_of w.resolve id) c n types_apart;
  each = subst (AllByRecursion (PassesOn w ds arguments (exports_after n.given empty_scope c.items))) (sym (interface_functions w ok key id is of))
      (lifts_passed w key (named_types w.resolve id) (functions_of w.resolve id) c n of ds arguments h (own_names w ok key id is) apart);
}

-- its functions are those of the key
pub functions_as : (w : ComponentWorld) → IsEncodable w → (of : User) (key : WorldKey) (id : InterfaceId) → exported_item w key ≡ Some (world_items.Interface id) → (es : List (List ℕ × Function)) → es ≡ functions_of w.resolve id →
    functions_of_key w of key ≡ functions_at of key es
functions_as w ok of key id is es same = interface_functions w ok key id is of ∙ ap (functions_at of key) (sym same)

-- the instance that was made last is exported
pub instance_exported : (w : ComponentWorld) → IsEncodable w → (key : WorldKey) (id : InterfaceId) → exported_item w key ≡ Some (world_items.Interface id) → (es : List (List ℕ × Function)) → es ≡ functions_of w.resolve id → IsDistinct bytes_eq (keys_of es) →
    IsDistinct bytes_eq (keys_of (named_types w.resolve id)) → (c : NestedComponent) → IsNestedOf w (named_types w.resolve id) es c → (of : User) (arguments : List Argument) (mid new : List Def) → Longer mid new → AreArgumentsOf w of mid key es c arguments →
    (index : ℕ) → slice_get (required_keys w) (exports_in new) ≡ Some (key_for of key) → IsInstantiated new c.items arguments index → ExportsInterface w new index
instance_exported w ok key id is es same apart types_apart c n of arguments mid new g given index next made =
    let later : AreArgumentsOf w of new key es c arguments = all_arguments-kept w of mid new g key es c arguments given in
    exports_interface w ok key id is c (subst (λ l. IsNestedOf w (named_types w.resolve id) l c) same n) of arguments new index next (subst (λ l. AreArgumentsOf w of new key l c arguments) same later)
    (subst (λ (l : List (List ℕ × Function)). IsDistinct bytes_eq (keys_of l)) same apart) types_apart made

-- the landmark of its nested component is the one that is expected
pub mark_expected : (w : ComponentWorld) (key : WorldKey) (id : InterfaceId) (es : List (List ℕ × Function)) → es ≡ functions_of w.resolve id → (c : NestedComponent) → IsNestedOf w (named_types w.resolve id) es c →
    nested_mark c.items ∷ [] ≡ nested_marked w (Some (world_items.Interface id))
mark_expected w key id es same c n =
    ap (λ m. m ∷ []) (nested_marked_as w key (named_types w.resolve id) (functions_of w.resolve id) c (subst (λ l. IsNestedOf w (named_types w.resolve id) l c) same n))

-- the instance that is exported has each type of the interface
pub listed_exported : (w : ComponentWorld) (key : WorldKey) (id : InterfaceId) (c : NestedComponent) (n : IsNestedOf w (named_types w.resolve id) (functions_of w.resolve id) c) (of : User) (arguments : List Argument) (mid new end : List Def) → AreArgumentsOf w of mid key (functions_of w.resolve id) c arguments →
    IsDistinct bytes_eq (keys_of (named_types w.resolve id)) → (definitions : List Item) → definitions ≡ c.items → (instance exported : ℕ) →
    slice_get (inventory new).instances instance ≡ Some (NestedInstance (exports_after (given_by (scope_of mid) arguments) empty_scope definitions)) → IsExportAdded new end sorts.Instance instance exported → ExportsListed w end id exported
listed_exported w key id c n of arguments mid new end given apart definitions same instance exported there added =
    let a : AreArgumentsFor mid c.items arguments = arguments_for w key (named_types w.resolve id) (functions_of w.resolve id) c n of mid arguments given in
    let exports : exports_after n.given empty_scope c.items ≡ exports_after (given_by (scope_of mid) arguments) empty_scope c.items = same_given mid arguments n.given empty_scope c.items a.each in
    let entry : slice_get (inventory new).instances instance ≡ Some (NestedInstance (exports_after n.given empty_scope c.items)) =
    there ∙ (ap (λ is. Some (NestedInstance (exports_after (given_by (scope_of mid) arguments) empty_scope is))) same ∙ ap (λ es. Some (NestedInstance es)) (sym exports)) in
    record {
      exported = exports_after n.given empty_scope c.items;
      nested = exported_entry new end added.name instance exported (NestedInstance (exports_after n.given empty_scope c.items)) entry added.added added.at;
      types = types_exported w key (named_types w.resolve id) (functions_of w.resolve id) c n apart;
    }
