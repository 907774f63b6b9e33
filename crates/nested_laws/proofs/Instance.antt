-- The items of a right nested component run, one after the other, and an instance is made.
use Rattle.std.proofs.Common.{◌≡◌, ◌∙◌, ℕ, List, [], ◌∷◌, ◌++◌, append-nil, append_assoc, refl, sym, ap, subst}
use Rattle.comp_lists.proofs.Lists.{AllByRecursion-front, AllByRecursion-back}
use Rattle.comp_bytes.specs.declared.def.Item.{Item}
use Rattle.comp_trees.specs.DefinedTrees.{TypeTree}
use Rattle.nested_terms.specs.Nested.{NestedScope, NestedExport, empty_scope, with_item, scope_after, import_made, imports_after, export_made, exports_after, AreItemsRight}
use Rattle.comp_runs.specs.Store.{Export, ComponentItem}
use Rattle.comp_runs.specs.Machine.{Machine, new_instance}
use Rattle.comp_runs.specs.Instances.{ModuleMeaning}
use Rattle.comp_runs.specs.Running.{items_run, met_by_argument, made_by_none}
use Rattle.instance_laws.proofs.Held.{keeps_grown, none_twice}
use Rattle.instance_laws.proofs.Members.{each_joined}
use Rattle.nested_laws.specs.NestedRuns.{IsGiven, AreGiven, IsNestedExport, AreNestedExports, IsNestedScope, GrownNested, grown_nested, RunsItem, RunsItems, RunsNested}
use Rattle.nested_laws.proofs.Kept.{AreGiven-kept, AreNestedExports-kept}
use Rattle.nested_laws.proofs.Items.{item_runs}

-- ---- one after the other

-- a list that grew twice
grew_twice : {X : Type 0} (old new newest more others : List X) → new ≡ old ++ more → newest ≡ new ++ others → newest ≡ old ++ (more ++ others)
grew_twice old new newest more others first second = second ∙ (ap (λ l. l ++ others) first ∙ append_assoc old more others)

module _ (arguments : List Export) where
  -- the scope of the next item
  scope_of_growth : (s : NestedScope) (exported : List NestedExport) (m : Machine) (g : GrownNested arguments s exported m) → IsNestedScope arguments s (grown_nested m g)
  scope_of_growth s exported m g = record { types = g.held; functions = g.functions }

  abbrev grown_twice : (s s' : NestedScope) (first second : List NestedExport) (m : Machine) (g : GrownNested arguments s first m) (k : GrownNested arguments s' second (grown_nested m g)) →
      GrownNested arguments s' (first ++ second) m
  grown_twice s s' first second m g k = record {
    items = k.items;
    types = k.types;
    exports = k.exports;
    more_types = g.more_types ++ k.more_types;
    more_exports = g.more_exports ++ k.more_exports;
    types_grew = grew_twice m.store.types g.types k.types g.more_types k.more_types g.types_grew k.types_grew;
    none_defined = none_twice g.more_types k.more_types g.none_defined k.none_defined;
    exports_grew = grew_twice m.scope.exports g.exports k.exports g.more_exports k.more_exports g.exports_grew k.exports_grew;
    held = k.held;
    functions = k.functions;
    each = each_joined (IsNestedExport k.types arguments) first second g.more_exports k.more_exports
        (AreNestedExports-kept (keeps_grown g.types k.types k.more_types k.types_grew) arguments first g.more_exports g.each) k.each;
  }

  abbrev not_grown : (s : NestedScope) (m : Machine) → IsNestedScope arguments s m → GrownNested arguments s [] m
  not_grown s m a = record {
    items = m.scope.items;
    types = m.store.types;
    exports = m.scope.exports;
    more_types = [];
    more_exports = [];
    types_grew = sym (append-nil m.store.types);
    none_defined = refl;
    exports_grew = sym (append-nil m.scope.exports);
    held = a.types;
    functions = a.functions;
    each = tt;
  }

  module _ (modules : List ModuleMeaning) (given : List ℕ → TypeTree) where
    -- The items of a right nested component run, whatever follows. The types and functions of the
    -- scope are then those that the items say, and each item that exports has made an export that
    -- is what it says.
    pub items_run_right : (s : NestedScope) (all : List Item) (m : Machine) → IsNestedScope arguments s m → AreItemsRight given s all → AreGiven m.store.types arguments (imports_after given s all) →
        RunsItems modules given arguments s all m
    items_run_right s [] m a h g = record { growth = not_grown s m a; runs = λ now next. refl }
    items_run_right s (i ∷ is) m a h g =
        let after : NestedScope = with_item given s i in
        let one : RunsItem modules given arguments s i m =
        item_runs modules given arguments s a i h.0 (AllByRecursion-front (IsGiven m.store.types arguments) (import_made given s i) (imports_after given after is) g) in
        let inner : Machine = grown_nested m one.growth in
        let rest_given : AreGiven one.growth.types arguments (imports_after given after is) =
        AreGiven-kept (keeps_grown m.store.types one.growth.types one.growth.more_types one.growth.types_grew) arguments (imports_after given after is)
        (AllByRecursion-back (IsGiven m.store.types arguments) (import_made given s i) (imports_after given after is) g) in
        let rest : RunsItems modules given arguments after is inner =
        items_run_right after is inner (scope_of_growth after (export_made given s i) m one.growth) h.1 rest_given in
        record {
          growth = grown_twice after (scope_after given after is) (export_made given s i) (exports_after given after is) m one.growth rest.growth;
          runs = λ now next. one.runs now (λ next_machine. items_run modules (met_by_argument arguments) made_by_none is next_machine next) ∙ rest.runs now next;
        }

-- An instantiation of a right nested component, whose imports all have an argument, runs: there is
-- one instance more, with the exports that its items say. A function that it exports is the one
-- that it was given under the name of the import.
pub nested_runs : (modules : List ModuleMeaning) (given : List ℕ → TypeTree) (component : ComponentItem) (arguments : List Export) (m : Machine) → AreItemsRight given empty_scope component.definitions →
    AreGiven m.store.types arguments (imports_after given empty_scope component.definitions) → RunsNested modules given component arguments m
nested_runs modules given component arguments m h g =
    let start : Machine = record m { scope = record { items = []; around = component.around; exports = []; imports = 0 } } in
    let a : IsNestedScope arguments empty_scope start = record { types = tt; functions = tt } in
    let r : RunsItems modules given arguments empty_scope component.definitions start = items_run_right arguments modules given empty_scope component.definitions start a h g in
    let grown = r.growth in
    record {
      types = grown.types;
      exports = grown.exports;
      more_types = grown.more_types;
      types_grew = grown.types_grew;
      none_defined = grown.none_defined;
      each = subst (λ es. AreNestedExports grown.types arguments (exports_after given empty_scope component.definitions) es) (sym grown.exports_grew) grown.each;
      runs = λ now next. r.runs now (λ inner. next (with_instance_of inner));
    }
  where
    with_instance_of : Machine → Machine
    with_instance_of inner = new_instance inner.scope.exports (record inner { scope = m.scope })
