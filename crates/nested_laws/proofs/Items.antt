-- One item of a right nested component runs: a type is made, an import is its argument, and an
-- export is an item that is there.
use Rattle.std.proofs.Common.{◌≡◌, ◌∙◌, ℕ, ◌<◌, true, List, [], ◌∷◌, ◌++◌, length, get_or, append-nil, refl, sym, ap, Some, None, if◌then◌else◌}
use Rattle.std.specs.Option.{option_map}
use Rattle.comp_bytes.specs.declared.space.Space.TheVariants as spaces
use Rattle.comp_bytes.specs.declared.space.Sort.TheVariants as sorts
use Rattle.comp_bytes.specs.declared.types.ExternName.{ExternName}
use Rattle.comp_bytes.specs.declared.types.FuncTypeDef.{FuncTypeDef}
use Rattle.comp_bytes.specs.declared.types.DefinedType.{DefinedType}
use Rattle.comp_bytes.specs.declared.types.TypeDef.TheVariants as types
use Rattle.comp_bytes.specs.declared.types.Description.TheVariants as descriptions
use Rattle.comp_bytes.specs.declared.def.Item.{Item}
use Rattle.comp_bytes.specs.declared.def.Item.TheVariants as items
use Rattle.comp_trees.specs.Trees.{is_known, is_known_function}
use Rattle.comp_trees.specs.DefinedTrees.{TypeTree, OfValues, OfFunctions, OfOthers, function_tree, defined_tree}
use Rattle.nested_terms.specs.Nested.{NestedFunction, NestedScope, no_function, import_made, NestedExport, ExportedFunction, ExportedType, IsItemRight}
use Rattle.comp_runs.specs.Store.{Export, TypeItem, TreeOf, own_resources}
use Rattle.comp_runs.specs.Machine.{Machine, with_some, with_item}
use Rattle.comp_runs.specs.Instances.{ModuleMeaning, type_scope, known_function, type_item}
use Rattle.instance_laws.specs.Instantiated.{IsHeldAs, with_now}
use Rattle.instance_laws.proofs.Held.{trees_of_held, keeps_more, AreHeldAs-kept, AreHeldAs-push, new_held, IsTypeThere, type_there}
use Rattle.nested_laws.specs.NestedRuns.{GivesFunction, GivesType, AreGiven, IsArgument, IsNestedExport, IsNestedScope, GrownNested, RunsItem}
use Rattle.nested_laws.proofs.Kept.{AreArguments-push, AreArguments-beside, types_beside, IsFunctionThere, function_there, function_found, type_found}

module _ (modules : List ModuleMeaning) (given : List ℕ → TypeTree) (arguments : List Export) (s : NestedScope) {m : Machine} (a : IsNestedScope arguments s m) where
  scoped : type_scope m ≡ s.types
  scoped = trees_of_held m.store.types s.types m.scope.items a.types

  -- the machine with a type that is made, and with a type or a function that is there already
  abbrev type_growth : (item : TypeItem) (tree : TypeTree) → own_resources (item ∷ []) ≡ 0 → IsHeldAs (m.store.types ++ item ∷ []) tree (length m.store.types) →
      GrownNested arguments (record { types = s.types ++ tree ∷ []; functions = s.functions ++ [] }) [] m
  type_growth item tree none h = record {
    items = m.scope.items ++ record { space = spaces.Type; address = length m.store.types } ∷ [];
    types = m.store.types ++ item ∷ [];
    exports = m.scope.exports;
    more_types = item ∷ [];
    more_exports = [];
    types_grew = refl;
    none_defined = none;
    exports_grew = sym (append-nil m.scope.exports);
    held = AreHeldAs-push (m.store.types ++ item ∷ []) s.types m.scope.items tree (length m.store.types) (AreHeldAs-kept (keeps_more m.store.types (item ∷ [])) s.types m.scope.items a.types) h;
    functions = AreArguments-beside arguments s.functions m.scope.items (length m.store.types) a.functions;
    each = tt;
  }

  abbrev known_type_growth : (tree : TypeTree) (address : ℕ) → IsHeldAs m.store.types tree address → GrownNested arguments (record { types = s.types ++ tree ∷ []; functions = s.functions ++ [] }) [] m
  known_type_growth tree address h = record {
    items = m.scope.items ++ record { space = spaces.Type; address = address } ∷ [];
    types = m.store.types;
    exports = m.scope.exports;
    more_types = [];
    more_exports = [];
    types_grew = sym (append-nil m.store.types);
    none_defined = refl;
    exports_grew = sym (append-nil m.scope.exports);
    held = AreHeldAs-push m.store.types s.types m.scope.items tree address a.types h;
    functions = AreArguments-beside arguments s.functions m.scope.items address a.functions;
    each = tt;
  }

  abbrev function_growth : (function : NestedFunction) (address : ℕ) → IsArgument arguments function.argument address →
      GrownNested arguments (record { types = s.types ++ []; functions = s.functions ++ function ∷ [] }) [] m
  function_growth function address h = record {
    items = m.scope.items ++ record { space = spaces.Func; address = address } ∷ [];
    types = m.store.types;
    exports = m.scope.exports;
    more_types = [];
    more_exports = [];
    types_grew = sym (append-nil m.store.types);
    none_defined = refl;
    exports_grew = sym (append-nil m.scope.exports);
    held = types_beside m.store.types s.types m.scope.items address a.types;
    functions = AreArguments-push arguments s.functions m.scope.items function address a.functions h;
    each = tt;
  }

  -- that machine, with an export
  abbrev exporting : (after : NestedScope) (x : NestedExport) (e : Export) (g : GrownNested arguments after [] m) → IsNestedExport g.types arguments x e → GrownNested arguments after (x ∷ []) m
  exporting after x e g h = record {
    items = g.items;
    types = g.types;
    exports = m.scope.exports ++ e ∷ [];
    more_types = g.more_types;
    more_exports = e ∷ [];
    types_grew = g.types_grew;
    none_defined = g.none_defined;
    exports_grew = refl;
    held = g.held;
    functions = g.functions;
    each = (h, tt);
  }

  function_type : (f : FuncTypeDef) → is_known_function (function_tree s.types f) ≡ true → RunsItem modules given arguments s (items.Type (types.Func f)) m
  function_type f h =
      let tree : TypeTree = OfFunctions (function_tree s.types f) in
      let e : type_item (types.Func f) m ≡ Some (TreeOf tree) =
      ap (λ sc. option_map (λ tree. TreeOf tree) (known_function (function_tree sc f))) scoped
      ∙ ap (λ b. option_map (λ tree. TreeOf tree) (if b then Some tree else None)) h in
      record { growth = type_growth (TreeOf tree) tree refl (new_held m.store.types (TreeOf tree) tree refl); runs = λ now next. rw e refl }

  value_type : (t : DefinedType) → is_known (defined_tree s.types t) ≡ true → RunsItem modules given arguments s (items.Type (types.Defined t)) m
  value_type t h =
      let tree : TypeTree = OfValues (defined_tree s.types t) in
      let e : type_item (types.Defined t) m ≡ Some (TreeOf tree) =
      ap (λ sc. if is_known (defined_tree sc t) then Some (TreeOf (OfValues (defined_tree sc t))) else None) scoped
      ∙ ap (λ b. if b then Some (TreeOf tree) else None) h in
      record { growth = type_growth (TreeOf tree) tree refl (new_held m.store.types (TreeOf tree) tree refl); runs = λ now next. rw e refl }

  -- an import of a function is the argument of its name
  function_import : (name : ExternName) (kind : ℕ) → GivesFunction arguments name.name → RunsItem modules given arguments s (items.Import name (descriptions.Func kind)) m
  function_import name kind g =
      let function : NestedFunction = record { argument = name.name; type = get_or s.types kind OfOthers } in
      record {
        growth = function_growth function g.export.address (record { export = g.export; found = g.found; same = refl });
        runs = λ now next.
            ap (λ o. with_some o (λ (e : Export). next (with_item e.space e.address (with_now m now)))) g.found
            ∙ ap (λ space. next (with_item space g.export.address (with_now m now))) (function_found name.name arguments g.export g.found);
      }

  -- and so is one of a type that equals an earlier one, which denotes what that does
  equal_import : (name : ExternName) (index : ℕ) → GivesType m.store.types arguments name.name (get_or s.types index OfOthers) → RunsItem modules given arguments s (items.Import name (descriptions.TypeEqual index)) m
  equal_import name index g = record {
    growth = known_type_growth (get_or s.types index OfOthers) g.export.address g.is;
    runs = λ now next.
        ap (λ o. with_some o (λ (e : Export). next (with_item e.space e.address (with_now m now)))) g.found
        ∙ ap (λ space. next (with_item space g.export.address (with_now m now))) (type_found name.name arguments g.export g.found);
  }

  -- and so is one of a resource
  resource_import : (name : ExternName) → GivesType m.store.types arguments name.name (given name.name) → RunsItem modules given arguments s (items.Import name descriptions.SubResource) m
  resource_import name g = record {
    growth = known_type_growth (given name.name) g.export.address g.is;
    runs = λ now next.
        ap (λ o. with_some o (λ (e : Export). next (with_item e.space e.address (with_now m now)))) g.found
        ∙ ap (λ space. next (with_item space g.export.address (with_now m now))) (type_found name.name arguments g.export g.found);
  }

  -- an export of a function is a function of the scope, which is an argument; it names its type, which is there
  function_export : (name : ExternName) (index kind : ℕ) → index < length s.functions → kind < length s.types →
      RunsItem modules given arguments s (items.Export name sorts.Func index (Some (descriptions.Func kind))) m
  function_export name index kind l k =
      let function : NestedFunction = get_or s.functions index no_function in
      let x : IsFunctionThere arguments s.functions m.scope.items index = function_there arguments s.functions m.scope.items index a.functions l in
      let t : IsTypeThere m.store.types s.types m.scope.items kind = type_there m.store.types s.types m.scope.items kind a.types k in
      record {
        growth = exporting (record { types = s.types ++ []; functions = s.functions ++ function ∷ [] }) (ExportedFunction name.name function)
            (record { space = spaces.Func; name = name.name; address = x.address }) (function_growth function x.address x.is) (record { named = refl; space = refl; is = x.is });
        runs = λ now next. rw (x.at, t.at) refl;
      }

  -- an export of a type is a type of the scope
  type_export : (name : ExternName) (index : ℕ) → index < length s.types → RunsItem modules given arguments s (items.Export name sorts.Type index None) m
  type_export name index l =
      let tree : TypeTree = get_or s.types index OfOthers in
      let x : IsTypeThere m.store.types s.types m.scope.items index = type_there m.store.types s.types m.scope.items index a.types l in
      record {
        growth = exporting (record { types = s.types ++ tree ∷ []; functions = s.functions ++ [] }) (ExportedType name.name tree)
            (record { space = spaces.Type; name = name.name; address = x.address }) (known_type_growth tree x.address x.is) (record { named = refl; space = refl; is = x.is });
        runs = λ now next. rw x.at refl;
      }

  -- a right item runs, where its import has an argument
  pub item_runs : (i : Item) → IsItemRight given s i → AreGiven m.store.types arguments (import_made given s i) → RunsItem modules given arguments s i m
  item_runs (items.Type (types.Func f)) h g = function_type f h
  item_runs (items.Type (types.Defined t)) h g = value_type t h
  item_runs (items.Import name (descriptions.Func kind)) h g = function_import name kind g.0
  item_runs (items.Import name (descriptions.TypeEqual index)) h g = equal_import name index g.0
  item_runs (items.Import name descriptions.SubResource) h g = resource_import name g.0
  item_runs (items.Export name sorts.Func index (Some (descriptions.Func kind))) h g = function_export name index kind h.0 h.1
  item_runs (items.Export name sorts.Type index None) h g = type_export name index h
  item_runs _ h g = absurd h
