-- What an inventory has at an index, it has there while definitions are added, and what a call puts behind it.
use Rattle.std.proofs.Common.{◌≡◌, ◌∙◌, ℕ, List, [], ◌∷◌, ◌++◌, refl, sym, ap, subst, append-nil, append_assoc, Option, Some, None}
use Rattle.std.specs.Prelude.{get_or}
use Rattle.std.specs.List.{slice_get}
use Rattle.std.proofs.lemmas.Option.{get_or_from_slice_get}
use Rattle.comp_lists.proofs.Lists.{slice_get-append, slice_get-end}
use Rattle.comp_bytes.specs.Spaces.{items_in}
use Rattle.comp_bytes.specs.declared.space.Space.TheVariants as spaces
use Rattle.comp_bytes.specs.declared.space.ComponentExportKind.TheVariants as exports
use Rattle.comp_bytes.specs.declared.types.Alias.TheVariants as aliases
use Rattle.comp_bytes.specs.declared.types.Description.TheVariants as descriptions
use Rattle.comp_bytes.specs.declared.types.ExternName.{ExternName}
use Rattle.comp_bytes.specs.declared.types.Member.{Member}
use Rattle.comp_bytes.specs.declared.def.Item.TheVariants as items
use Rattle.comp_bytes.specs.declared.def.Def.{Def}
use Rattle.comp_bytes.specs.declared.def.Def.TheVariants as defs
use Rattle.comp_builder.specs.Built.{Built, and_then}
use Rattle.comp_trees.specs.Trees.{Origin, FunctionTree}
use Rattle.comp_trees.specs.DefinedTrees.{TypeTree, OfFunctions}
use Rattle.comp_trees.specs.DefinedScopes.{Denotes}
use Rattle.comp_trees.specs.Members.{member_trees, type_exported, function_exported}
use Rattle.comp_inventories.specs.Inventories.{Inventory, TypeEntry, OfInstances, FunctionEntry, InstanceEntry, ImportedInstance, OtherInstance, surroundings_of, type_of_instance, function_of_instance, instance_imported, types_made, instances_made, with_def, inventory_after, inventory, scope_of, entry_tree, no_type}
use Rattle.comp_inventories.proofs.Inventories.{inventory-append, inventory-push}
use Rattle.comp_inventories.proofs.InventoryGrowth.{Behind, types_grow, function_kept, function_made}
use Rattle.comp_inventories.proofs.Counting.{types-counted, instances-counted}
use Rattle.comp_terms.specs.Terms.{IsImportedFunction, imports_in}
use Rattle.comp_items.proofs.Kept.{Longer, added_type}

-- ---- a longer list

instances_behind : (v : Inventory) (ds : List Def) → Behind v.instances (inventory_after v ds).instances
instances_behind v [] = record { more = []; grown = sym (append-nil v.instances) }
instances_behind v (d ∷ ds) =
    let g = instances_behind (with_def v d) ds in record { more = instances_made v d ++ g.more; grown = g.grown ∙ append_assoc v.instances (instances_made v d) g.more }

instances_grow : (ds es : List Def) → Behind (inventory ds).instances (inventory (ds ++ es)).instances
instances_grow ds es = rw (inventory-append ds es) (instances_behind (inventory ds) es)

behind_kept : {A : Type 0} {xs ys : List A} (i : ℕ) (x : A) → Behind xs ys → slice_get xs i ≡ Some x → slice_get ys i ≡ Some x
behind_kept {A} {xs} {ys} i x g h = ap (λ l. slice_get l i) g.grown ∙ slice_get-append xs g.more i x h

module _ {old new : List Def} (g : Longer old new) where
  pub type_entry-kept : (i : ℕ) (e : TypeEntry) → slice_get (inventory old).types i ≡ Some e → slice_get (inventory new).types i ≡ Some e
  type_entry-kept i e h = ap (λ l. slice_get (inventory l).types i) g.grown ∙ behind_kept i e (types_grow old g.more) h

  pub function_entry-kept : (i : ℕ) (e : FunctionEntry) → slice_get (inventory old).functions i ≡ Some e → slice_get (inventory new).functions i ≡ Some e
  function_entry-kept i e h = ap (λ l. slice_get (inventory l).functions i) g.grown ∙ function_kept old g.more i e h

  pub instance_entry-kept : (i : ℕ) (e : InstanceEntry) → slice_get (inventory old).instances i ≡ Some e → slice_get (inventory new).instances i ≡ Some e
  instance_entry-kept i e h = ap (λ l. slice_get (inventory l).instances i) g.grown ∙ behind_kept i e (instances_grow old g.more) h

-- ---- what one more definition makes

type_made : (ds : List Def) (d : Def) (e : TypeEntry) → types_made (inventory ds) d ≡ e ∷ [] → slice_get (inventory (ds ++ d ∷ [])).types (items_in spaces.Type ds) ≡ Some e
type_made ds d e made =
    ap (λ (v : Inventory). slice_get v.types (items_in spaces.Type ds)) (inventory-push ds d)
    ∙ (ap (λ l. slice_get ((inventory ds).types ++ l) (items_in spaces.Type ds)) made
    ∙ (ap (λ n. slice_get ((inventory ds).types ++ e ∷ []) n) (sym (types-counted ds)) ∙ slice_get-end (inventory ds).types e))

instance_made : (ds : List Def) (d : Def) (e : InstanceEntry) → instances_made (inventory ds) d ≡ e ∷ [] → slice_get (inventory (ds ++ d ∷ [])).instances (items_in spaces.Instance ds) ≡ Some e
instance_made ds d e made =
    ap (λ (v : Inventory). slice_get v.instances (items_in spaces.Instance ds)) (inventory-push ds d)
    ∙ (ap (λ l. slice_get ((inventory ds).instances ++ l) (items_in spaces.Instance ds)) made
    ∙ (ap (λ n. slice_get ((inventory ds).instances ++ e ∷ []) n) (sym (instances-counted ds)) ∙ slice_get-end (inventory ds).instances e))

-- ---- what a builder's call added

-- a type
pub added_type_entry : (old new : Built) (index : ℕ) (d : Def) (debug : Option (List ℕ)) (e : TypeEntry) → types_made (inventory old.defs) d ≡ e ∷ [] → (index ≡ items_in spaces.Type old.defs) × (new ≡ and_then old spaces.Type d debug) →
    slice_get (inventory new.defs).types index ≡ Some e
added_type_entry old new index d debug e made h =
    ap (λ (b : Built). slice_get (inventory b.defs).types index) h.1 ∙ (ap (λ n. slice_get (inventory (old.defs ++ d ∷ [])).types n) h.0 ∙ type_made old.defs d e made)

-- an import of an instance
pub added_instance : (old new : Built) (index kind : ℕ) (name : ExternName) → (index ≡ items_in spaces.Instance old.defs) × (new ≡ and_then old spaces.Instance (defs.Item (items.Import name (descriptions.Instance kind))) None) →
    (outer : List TypeTree) (members : List Member) → slice_get (inventory old.defs).types kind ≡ Some (OfInstances outer members) → slice_get (inventory new.defs).instances index ≡ Some (ImportedInstance (imports_in old.defs) outer members)
added_instance old new index kind name h outer members typed =
    let d : Def = defs.Item (items.Import name (descriptions.Instance kind)) in
    ap (λ (b : Built). slice_get (inventory b.defs).instances index) h.1
    ∙ (ap (λ n. slice_get (inventory (old.defs ++ d ∷ [])).instances n) h.0
    ∙ (instance_made old.defs d (instance_imported (imports_in old.defs) (get_or (inventory old.defs).types kind no_type)) refl
    ∙ ap (λ e. Some (instance_imported (imports_in old.defs) e)) (get_or_from_slice_get (inventory old.defs).types kind (OfInstances outer members) no_type typed)))

-- an alias of the function that an imported instance exports
pub added_function_alias : (old new : Built) (index instance : ℕ) (name : List ℕ) →
    (index ≡ items_in spaces.Func old.defs) × (new ≡ and_then old spaces.Func (defs.Item (items.Alias (aliases.Export exports.Func instance name))) None) →
    (number : ℕ) (outer : List TypeTree) (members : List Member) (type : FunctionTree) → slice_get (inventory old.defs).instances instance ≡ Some (ImportedInstance number outer members) →
    function_exported (member_trees (surroundings_of number outer) [] members) name members ≡ OfFunctions type → IsImportedFunction new.defs index (record { number = number; inner = Some name }) type
added_function_alias old new index instance name h number outer members type imported typed =
    let d : Def = defs.Item (items.Alias (aliases.Export exports.Func instance name)) in
    let origin : Origin = record { number = number; inner = Some name } in
    record {
      is = ap (λ (b : Built). slice_get (inventory b.defs).functions index) h.1
          ∙ (ap (λ n. slice_get (inventory (old.defs ++ d ∷ [])).functions n) h.0
          ∙ (function_made old.defs d (function_of_instance name (get_or (inventory old.defs).instances instance OtherInstance)) refl
          ∙ (ap (λ e. Some (function_of_instance name e)) (get_or_from_slice_get (inventory old.defs).instances instance (ImportedInstance number outer members) OtherInstance imported)
          ∙ ap (λ t. Some (record { origin = Some origin; type = t })) typed)));
    }

-- an alias of the type that an imported instance exports
pub added_type_alias : (old new : Built) (index instance : ℕ) (name : List ℕ) →
    (index ≡ items_in spaces.Type old.defs) × (new ≡ and_then old spaces.Type (defs.Item (items.Alias (aliases.Export exports.Type instance name))) None) →
    (number : ℕ) (outer : List TypeTree) (members : List Member) → slice_get (inventory old.defs).instances instance ≡ Some (ImportedInstance number outer members) →
    Denotes (scope_of new.defs) index (type_exported (surroundings_of number outer) (member_trees (surroundings_of number outer) [] members) name members)
added_type_alias old new index instance name h number outer members imported =
    let d : Def = defs.Item (items.Alias (aliases.Export exports.Type instance name)) in
    let entry = get_or_from_slice_get (inventory old.defs).instances instance (ImportedInstance number outer members) OtherInstance imported in
    subst (λ e. Denotes (scope_of new.defs) index (entry_tree (type_of_instance name e))) entry
    (added_type old new index d None (type_of_instance name (get_or (inventory old.defs).instances instance OtherInstance)) refl h)
