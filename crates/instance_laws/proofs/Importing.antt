-- A type of instances is imported, and the exports of the instance are aliased: the items are those of the inventory.
use Rattle.std.proofs.Common.{◌≡◌, ◌∙◌, ℕ, true, List, [], ◌∷◌, refl, ap, Option, Some}
use Rattle.std.specs.List.{slice_get, list_any}
use Rattle.comp_bytes.specs.declared.space.Space.TheVariants as spaces
use Rattle.comp_bytes.specs.declared.types.Member.{Member}
use Rattle.comp_trees.specs.Trees.{Origin}
use Rattle.comp_trees.specs.DefinedTrees.{TypeTree}
use Rattle.comp_trees.specs.Members.{AreMembersRight, member_trees, exports_name, type_exported, function_exported}
use Rattle.comp_inventories.specs.Inventories.{InstanceEntry, ImportedInstance, NestedInstance, OtherInstance, Inventory, trees_in, entry_tree, surroundings_of, type_of_instance, function_of_instance}
use Rattle.nested_terms.specs.Nested.{NestedExport, type_named}
use Rattle.comp_runs.specs.Store.{Thing, Export, Function, TypeItem, InstanceTypeOf}
use Rattle.comp_runs.specs.Machine.{Machine, with_some, address_at}
use Rattle.comp_runs.specs.Instances.{type_at, instance_of_type}
use Rattle.instance_laws.specs.Instantiated.{AreHeldAs, member_exports, with_now, RunsInstanceType, FindsFunction, FindsType}
use Rattle.instance_laws.specs.InstanceEntries.{IsInstanceType, IsImportedInstance, HasTypesOf, IsInstanceEntry, RunsImport, AliasesFunction, AliasesType}
use Rattle.instance_laws.proofs.Held.{KeepsEntries, IsHeldAs-kept, AreHeldAs-kept, exports_kept}
use Rattle.instance_laws.proofs.Members.{instance_runs}
use Rattle.instance_laws.proofs.Finding.{finds_function, finds_type}

-- a type of instances that a definition makes
pub instance_type_made : (types : List TypeItem) (v : Inventory) (all : List Member) (items : List Thing) (around : List (List Thing)) → AreHeldAs types (trees_in v) items →
    IsInstanceType types (trees_in v) all (InstanceTypeOf all (items ∷ around))
instance_type_made types v all items around h = record { next_out = items; further = around; is = refl; outer_held = h }

pub IsInstanceType-kept : {types types' : List TypeItem} → KeepsEntries types types' → (outer : List TypeTree) (all : List Member) (item : TypeItem) → IsInstanceType types outer all item → IsInstanceType types' outer all item
IsInstanceType-kept k outer all item h = record { next_out = h.next_out; further = h.further; is = h.is; outer_held = AreHeldAs-kept k outer h.next_out h.outer_held }

pub IsInstanceEntry-kept : {types types' : List TypeItem} {functions functions' : List Function} → KeepsEntries types types' → KeepsEntries functions functions' → (entry : InstanceEntry) (es : List Export) →
    IsInstanceEntry types functions entry es → IsInstanceEntry types' functions' entry es
IsInstanceEntry-kept k l (ImportedInstance number outer all) es h = record { right = h.right; each = exports_kept number k l (member_exports (surroundings_of number outer) [] all) es h.each }
IsInstanceEntry-kept k l (NestedInstance exported) es h = record {
  each = λ name tree named. let f = h.each name tree named in record { export = f.export; found = f.found; space = f.space; is = IsHeldAs-kept k tree f.export.address f.is };
}
IsInstanceEntry-kept k l OtherInstance es h = tt

-- An import of a type of instances whose members are right runs, and makes an instance that is what its entry says.
pub import_runs : (origin : Origin) (outer : List TypeTree) (all : List Member) (index : ℕ) (item : TypeItem) (m : Machine) → type_at index m ≡ Some item → IsInstanceType m.store.types outer all item →
    AreMembersRight (surroundings_of origin.number outer) [] all → RunsImport origin outer all index m
import_runs origin outer all index item m at is right =
    let r : RunsInstanceType origin outer all (is.next_out ∷ is.further) m = instance_runs origin outer all is.next_out is.further m is.outer_held right in
    record {
      types = r.types;
      functions = r.functions;
      exports = r.exports;
      more_types = r.more_types;
      more_functions = r.more_functions;
      types_grew = r.types_grew;
      none_defined = r.none_defined;
      functions_grew = r.functions_grew;
      is = record { right = right; each = r.each };
      runs = λ now next.
          ap (λ (o : Option TypeItem). with_some o (λ t. instance_of_type origin t (with_now m now) next)) at
          ∙ (ap (λ (t : TypeItem). instance_of_type origin t (with_now m now) next) is.is ∙ r.runs now next);
    }

module _ (m : Machine) (instance address : ℕ) (es : List Export) (name : List ℕ) (number : ℕ) (outer : List TypeTree) (all : List Member) where
  -- An alias of a function that the type of an imported instance says finds the import, with the type that it says.
  pub aliases_function : address_at spaces.Instance instance m.scope.items ≡ Some address → slice_get m.store.instances address ≡ Some es → IsImportedInstance number outer all m.store.types m.store.functions es →
      list_any (exports_name spaces.Func name) all ≡ true → AliasesFunction m instance name (function_of_instance name (ImportedInstance number outer all))
  aliases_function at present h there =
      let f : FindsFunction number m.store.functions es name (function_exported (member_trees (surroundings_of number outer) [] all) name all) =
      finds_function number m.store.types m.store.functions (surroundings_of number outer) name [] all es h.right h.each there in
      record {
        address = f.export.address;
        origin = record { number = number; inner = Some name };
        type = f.is.type;
        at = rw (at, present, f.found) (ap (λ space. Some (record { space = space; address = f.export.address })) f.space);
        present = f.is.present;
        same = ap (λ tree. record { origin = Some (record { number = number; inner = Some name }); type = tree }) f.is.denotes;
      }

  -- An alias of a type that it says finds a type that denotes what it says.
  pub aliases_type : address_at spaces.Instance instance m.scope.items ≡ Some address → slice_get m.store.instances address ≡ Some es → IsImportedInstance number outer all m.store.types m.store.functions es →
      list_any (exports_name spaces.Type name) all ≡ true → AliasesType m instance name (entry_tree (type_of_instance name (ImportedInstance number outer all)))
  aliases_type at present h there =
      let f : FindsType m.store.types es name (type_exported (surroundings_of number outer) (member_trees (surroundings_of number outer) [] all) name all) =
      finds_type number m.store.types m.store.functions (surroundings_of number outer) name [] all es h.right h.each there in
      record { address = f.export.address; at = rw (at, present, f.found) (ap (λ space. Some (record { space = space; address = f.export.address })) f.space); is = f.is }

-- An alias of a type that a nested component is said to export finds a type that denotes what is said.
pub aliases_nested_type : (m : Machine) (instance address : ℕ) (es : List Export) (name : List ℕ) (exported : List NestedExport) (tree : TypeTree) → address_at spaces.Instance instance m.scope.items ≡ Some address →
    slice_get m.store.instances address ≡ Some es → HasTypesOf exported m.store.types es → type_named name exported ≡ Some tree → AliasesType m instance name tree
aliases_nested_type m instance address es name exported tree at present h named =
    let f : FindsType m.store.types es name tree = h.each name tree named in
    record { address = f.export.address; at = rw (at, present, f.found) (ap (λ space. Some (record { space = space; address = f.export.address })) f.space); is = f.is }
