-- The landmarks of a list of definitions, and what they say of it.
use Rattle.std.proofs.Common.{◌≡◌, ◌∙◌, ◌+◌, arith, ℕ, Bool, List, [], ◌∷◌, ◌++◌, length, map, refl, sym, ap, ap₂, append-nil, add-one, add-zero, zero-add, length-append, Option, Some, None}
use Rattle.std.proofs.lemmas.List.{length-map}
use Rattle.std.proofs.lemmas.Grind.{flat_map-append}
use Rattle.std.specs.List.{flat_map, filter_map}
use Rattle.comp_bytes.specs.ScopeNames.{Names, def_export, item_names}
use Rattle.comp_bytes.specs.declared.types.TypeDef.TheVariants as types
use Rattle.comp_bytes.specs.declared.def.Item.{Item}
use Rattle.comp_bytes.specs.declared.def.Item.TheVariants as items
use Rattle.comp_bytes.specs.declared.def.Def.{Def}
use Rattle.comp_bytes.specs.declared.def.Def.TheVariants as defs
use Rattle.comp_worlds.specs.declared.world.ComponentWorld.{ComponentWorld}
use Rattle.comp_worlds.specs.WorldContents.{exported_item}
use Rattle.comp_links.specs.Naming.{Naming, name_of}
use Rattle.comp_links.specs.Lists.{ImportEntry, ImportedInterface, WorldType, RootFunction, Stated, root_function, root_type, import_entries, names_of_interface, stated_import, stated_imports, names_in, instance_type_names, AreNames, stated_export, stated_exports, functions_of_interface, nested_export_names, nested_lists, nested_names, RequiredKey, required_keys, ProvidedType, provided_resources, own_resources}
use Rattle.comp_terms.specs.UserBytes.{user_bytes}
use Rattle.comp_terms.specs.Rules.{Landmark, Imported, ModuleIs, InstanceOf, Exported, CustomNamed, InstanceTypeOf, landmark, import_marked, imports_marked, resources_marked, bytes_marked, users_marked, shims_marked, fixup_marked, modules_marked, exports_marked, IsBuilt, NestedOf, ResourceDefined, nested_marked, export_marked}
use Rattle.comp_terms.specs.Generated.{shims_number, fixup_number, GeneratedBytes}
use Rattle.comp_inventories.specs.Inventories.{Inventory, resources_made, with_def, inventory_after, inventory, empty_inventory}
use Rattle.wit_data.specs.declared.worlds.WorldItem.{WorldItem}
use Rattle.wit_data.specs.declared.worlds.WorldItem.TheVariants as world_items
use Rattle.nested_terms.specs.Naming.{import_names}
use Rattle.nested_terms.specs.Nested.{NestedScope, with_item, IsItemRight, AreItemsRight}
use Rattle.comp_trees.specs.DefinedTrees.{TypeTree}
use Rattle.link_laws.specs.Composition.{at_root, item_module, item_instantiates, item_imports, item_exports, item_customs, item_type_names, names_of_nested}
use Rattle.link_laws.proofs.ModuleMarks.{bytes_if, number_if, bytes_listed, user_range, numbers_listed, mapped_nothing, mapped_each, reads_users}
use Rattle.link_laws.proofs.Zips.{flat_map-marked}

abbrev import_mark : Landmark → List Stated
import_mark (Imported stated) = stated ∷ []
import_mark _ = []

abbrev module_mark : Landmark → List (List ℕ)
module_mark (ModuleIs bytes) = bytes ∷ []
module_mark _ = []

abbrev instance_mark : Landmark → List ℕ
instance_mark (InstanceOf number) = number ∷ []
instance_mark _ = []

abbrev export_mark : Landmark → List Stated
export_mark (Exported stated) = stated ∷ []
export_mark _ = []

abbrev name_mark : Landmark → List (List ℕ)
name_mark (Exported stated) = stated.name.name ∷ []
name_mark _ = []

abbrev custom_mark : Landmark → List (List ℕ)
custom_mark (CustomNamed name) = name ∷ []
custom_mark _ = []

abbrev type_mark : Landmark → List Names
type_mark (InstanceTypeOf names) = names ∷ []
type_mark _ = []

abbrev nested_mark : Landmark → List Names
nested_mark (NestedOf imports exports) = imports ∷ exports ∷ []
nested_mark _ = []

import_is : (d : Def) → at_root item_imports d ≡ flat_map import_mark (filter_map landmark (d ∷ []))
import_is (defs.Item (items.Type (types.Resource destructor))) = refl
import_is d = refl

module_is : (d : Def) → at_root item_module d ≡ flat_map module_mark (filter_map landmark (d ∷ []))
module_is (defs.Item (items.Type (types.Resource destructor))) = refl
module_is d = refl

instance_is : (d : Def) → at_root item_instantiates d ≡ flat_map instance_mark (filter_map landmark (d ∷ []))
instance_is (defs.Item (items.Type (types.Resource destructor))) = refl
instance_is d = refl

export_is : (d : Def) → at_root item_exports d ≡ flat_map export_mark (filter_map landmark (d ∷ []))
export_is (defs.Item (items.Type (types.Resource destructor))) = refl
export_is d = refl

name_is : (d : Def) → def_export d ≡ flat_map name_mark (filter_map landmark (d ∷ []))
name_is (defs.Item (items.Type (types.Resource destructor))) = refl
name_is d = refl

custom_is : (d : Def) → at_root item_customs d ≡ flat_map custom_mark (filter_map landmark (d ∷ []))
custom_is (defs.Item (items.Type (types.Resource destructor))) = refl
custom_is d = refl

type_is : (d : Def) → at_root item_type_names d ≡ flat_map type_mark (filter_map landmark (d ∷ []))
type_is (defs.Item (items.Type (types.Resource destructor))) = refl
type_is d = refl

nested_is : (d : Def) → names_of_nested d ≡ flat_map nested_mark (filter_map landmark (d ∷ []))
nested_is (defs.Item (items.Type (types.Resource destructor))) = refl
nested_is d = refl

-- a resource that is defined
abbrev pub item_resource : Item → List ℕ
item_resource (items.Type (types.Resource destructor)) = 0 ∷ []
item_resource _ = []

abbrev resource_mark : Landmark → List ℕ
resource_mark ResourceDefined = 0 ∷ []
resource_mark _ = []

resource_is : (d : Def) → at_root item_resource d ≡ flat_map resource_mark (filter_map landmark (d ∷ []))
resource_is (defs.Item (items.Type (types.Resource destructor))) = refl
resource_is d = refl

-- these are as many as the inventory counts
one_resource : (v : Inventory) (d : Def) → resources_made v d ≡ v.resources + length (at_root item_resource d)
one_resource v (defs.Item (items.Type (types.Resource destructor))) = sym (add-one v.resources)
one_resource v d = sym (add-zero v.resources)

resources_after : (v : Inventory) (ds : List Def) → (inventory_after v ds).resources ≡ v.resources + length (flat_map (at_root item_resource) ds)
resources_after v [] = sym (add-zero v.resources)
resources_after v (d ∷ ds) =
    let rest : (inventory_after (with_def v d) ds).resources ≡ resources_made v d + length (flat_map (at_root item_resource) ds) = resources_after (with_def v d) ds in
    let here : resources_made v d ≡ v.resources + length (at_root item_resource d) = one_resource v d in
    let all : length (at_root item_resource d ++ flat_map (at_root item_resource) ds) ≡ length (at_root item_resource d) + length (flat_map (at_root item_resource) ds) = length-append (at_root item_resource d) (flat_map (at_root item_resource) ds) in
    rest ∙ omega (arith, here, all)

resources_counted : (ds : List Def) → (inventory ds).resources ≡ length (flat_map (at_root item_resource) ds)
unfolding inventory
resources_counted ds = resources_after empty_inventory ds ∙ zero-add (length (flat_map (at_root item_resource) ds))

-- the section of names has nothing of what others have
names_nothing : {A : Type 0} (f : Def → List A) → ((name contents : List ℕ) → f (defs.Item (items.Custom name contents)) ≡ []) → (ds : List Def) → AreNames ds → flat_map f ds ≡ []
names_nothing f e [] h = refl
names_nothing f e (defs.Item (items.Custom name contents) ∷ []) h = rw (e name contents) refl
names_nothing f e ds h = absurd h

-- the landmarks of the imports, seen through a function
of_entries : {A : Type 0} (n : Naming) (w : ComponentWorld) (f : Landmark → List A) (g : ImportEntry → List A) → ((e : ImportEntry) → flat_map f (import_marked n w e) ≡ g e) → (es : List ImportEntry) →
    flat_map f (flat_map (import_marked n w) es) ≡ flat_map g es
of_entries n w f g same [] = refl
of_entries n w f g same (e ∷ es) = flat_map-append f (import_marked n w e) (flat_map (import_marked n w) es) ∙ ap₂ (λ xs ys. xs ++ ys) (same e) (of_entries n w f g same es)

-- what reads nothing of imports and of types of instances
reads_nothing : {A : Type 0} (n : Naming) (w : ComponentWorld) (f : Landmark → List A) → ((s : Stated) → f (Imported s) ≡ []) → ((names : Names) → f (InstanceTypeOf names) ≡ []) → (es : List ImportEntry) →
    flat_map f (flat_map (import_marked n w) es) ≡ []
reads_nothing n w f i t [] = refl
reads_nothing n w f i t (ImportedInterface key id ∷ es) = rw (t (names_of_interface w id), i (stated_import n w (ImportedInterface key id))) (reads_nothing n w f i t es)
reads_nothing n w f i t (WorldType name id ∷ es) = rw (i (root_type name)) (reads_nothing n w f i t es)
reads_nothing n w f i t (RootFunction name ∷ es) = rw (i (root_function name)) (reads_nothing n w f i t es)

each_of : {A : Type 0} (g : ImportEntry → A) (es : List ImportEntry) → flat_map (λ e. g e ∷ []) es ≡ map g es
each_of g [] = refl
each_of g (e ∷ es) = ap (λ l. g e ∷ l) (each_of g es)

import_of : (n : Naming) (w : ComponentWorld) (e : ImportEntry) → flat_map import_mark (import_marked n w e) ≡ stated_import n w e ∷ []
import_of n w (ImportedInterface key id) = refl
import_of n w (WorldType name id) = refl
import_of n w (RootFunction name) = refl

type_of : (n : Naming) (w : ComponentWorld) (e : ImportEntry) → flat_map type_mark (import_marked n w e) ≡ names_in w e
type_of n w (ImportedInterface key id) = refl
type_of n w (WorldType name id) = refl
type_of n w (RootFunction name) = refl

-- the landmarks of the exports, seen through a function
of_keys : {A : Type 0} (n : Naming) (w : ComponentWorld) (f : Landmark → List A) (g : RequiredKey → List A) → ((r : RequiredKey) → flat_map f (export_marked n w r) ≡ g r) → (rs : List RequiredKey) →
    flat_map f (flat_map (export_marked n w) rs) ≡ flat_map g rs
of_keys n w f g same [] = refl
of_keys n w f g same (r ∷ rs) = flat_map-append f (export_marked n w r) (flat_map (export_marked n w) rs) ∙ ap₂ (λ xs ys. xs ++ ys) (same r) (of_keys n w f g same rs)

-- what is read of one: of its nested component, where it has one, and of the export
of_key : {A : Type 0} (n : Naming) (w : ComponentWorld) (f : Landmark → List A) (nested exported : List A) (r : RequiredKey) → flat_map f (nested_marked w (exported_item w r.key)) ≡ nested →
    f (Exported (stated_export n w r)) ≡ exported → flat_map f (export_marked n w r) ≡ nested ++ exported
of_key n w f nested exported r first second =
    flat_map-append f (nested_marked w (exported_item w r.key)) (Exported (stated_export n w r) ∷ [])
    ∙ ap₂ (λ xs ys. xs ++ ys) first (ap (λ l. l ++ []) second ∙ append-nil exported)

nothing_nested : {A : Type 0} (w : ComponentWorld) (f : Landmark → List A) → ((imports exports : Names) → f (NestedOf imports exports) ≡ []) → (o : Option WorldItem) → flat_map f (nested_marked w o) ≡ []
nothing_nested w f none (Some (world_items.Interface id)) = rw (none (import_names (functions_of_interface w id)) (nested_export_names w id)) refl
nothing_nested w f none o = refl

nested_of : (w : ComponentWorld) (o : Option WorldItem) → flat_map nested_mark (nested_marked w o) ≡ nested_lists w o
nested_of w (Some (world_items.Interface id)) = refl
nested_of w o = refl

none_of_keys : {A : Type 0} (g : RequiredKey → List A) → ((r : RequiredKey) → g r ≡ []) → (rs : List RequiredKey) → flat_map g rs ≡ []
none_of_keys g none [] = refl
none_of_keys g none (r ∷ rs) = ap₂ (λ xs ys. xs ++ ys) (none r) (none_of_keys g none rs)

one_of_keys : {A : Type 0} (g : RequiredKey → A) (rs : List RequiredKey) → flat_map (λ r. g r ∷ []) rs ≡ map g rs
one_of_keys g [] = refl
one_of_keys g (r ∷ rs) = ap (λ l. g r ∷ l) (one_of_keys g rs)

-- what reads nothing of nested components and exports
exports_nothing : {A : Type 0} (n : Naming) (w : ComponentWorld) (f : Landmark → List A) → ((imports exports : Names) → f (NestedOf imports exports) ≡ []) → ((s : Stated) → f (Exported s) ≡ []) → flat_map f (exports_marked n w) ≡ []
exports_nothing n w f nested exported =
    of_keys n w f (λ r. flat_map f (export_marked n w r)) (λ r. refl) (required_keys w)
    ∙ none_of_keys (λ r. flat_map f (export_marked n w r))
    (λ r. of_key n w f [] [] r (nothing_nested w f nested (exported_item w r.key)) (exported (stated_export n w r))) (required_keys w)

-- what reads one thing of each export, and nothing of nested components
exports_each : {A : Type 0} (n : Naming) (w : ComponentWorld) (f : Landmark → List A) (g : Stated → A) → ((imports exports : Names) → f (NestedOf imports exports) ≡ []) → ((s : Stated) → f (Exported s) ≡ g s ∷ []) →
    flat_map f (exports_marked n w) ≡ map (λ r. g (stated_export n w r)) (required_keys w)
exports_each n w f g nested exported =
    of_keys n w f (λ r. g (stated_export n w r) ∷ [])
    (λ r. of_key n w f [] (g (stated_export n w r) ∷ []) r (nothing_nested w f nested (exported_item w r.key)) (exported (stated_export n w r)))
    (required_keys w)
    ∙ one_of_keys (λ r. g (stated_export n w r)) (required_keys w)

-- ---- what is read of core modules

each_resource : (ids : List ProvidedType) (rest : List Landmark) → flat_map resource_mark rest ≡ [] → flat_map resource_mark (map (λ id. ResourceDefined) ids ++ rest) ≡ map (λ id. 0) ids
each_resource [] rest none = none
each_resource (id ∷ ids) rest none = ap (λ l. 0 ∷ l) (each_resource ids rest none)

numbers_read : (ns : List ℕ) → flat_map instance_mark (map InstanceOf ns) ≡ ns
numbers_read [] = refl
numbers_read (n ∷ ns) = ap (λ l. n ∷ l) (numbers_read ns)

all_nothing : {A : Type 0} (bytes shims instances fixup : List A) → bytes ≡ [] → shims ≡ [] → instances ≡ [] → fixup ≡ [] → bytes ++ (shims ++ (instances ++ fixup)) ≡ []
all_nothing bytes shims instances fixup a b c d = rw (a, b, c, d) refl

-- what is read of a generated module and its instance
module _ {A : Type 0} (g : Landmark → List A) (m : (bytes : List ℕ) → g (ModuleIs bytes) ≡ []) (i : (number : ℕ) → g (InstanceOf number) ≡ []) (w : ComponentWorld) where
  shims_nothing : (o : Option (List ℕ)) → flat_map g (shims_marked w o) ≡ []
  shims_nothing None = refl
  shims_nothing (Some bytes) = rw (m bytes, i (shims_number w)) refl

  fixup_nothing : (o : Option (List ℕ)) → flat_map g (fixup_marked w o) ≡ []
  fixup_nothing None = refl
  fixup_nothing (Some bytes) = rw (m bytes, i (fixup_number w)) refl

shims_module : (w : ComponentWorld) (o : Option (List ℕ)) → flat_map module_mark (shims_marked w o) ≡ bytes_if o
shims_module w None = refl
shims_module w (Some bytes) = refl

fixup_module : (w : ComponentWorld) (o : Option (List ℕ)) → flat_map module_mark (fixup_marked w o) ≡ bytes_if o
fixup_module w None = refl
fixup_module w (Some bytes) = refl

shims_instance : (w : ComponentWorld) (o : Option (List ℕ)) → flat_map instance_mark (shims_marked w o) ≡ number_if (shims_number w) o
shims_instance w None = refl
shims_instance w (Some bytes) = refl

fixup_instance : (w : ComponentWorld) (o : Option (List ℕ)) → flat_map instance_mark (fixup_marked w o) ≡ number_if (fixup_number w) o
fixup_instance w None = refl
fixup_instance w (Some bytes) = refl

-- lists that are joined are those that they equal, joined
joined_four : {A : Type 0} {a a' b b' c c' d d' : List A} → a ≡ a' → b ≡ b' → c ≡ c' → d ≡ d' → a ++ (b ++ (c ++ d)) ≡ a' ++ (b' ++ (c' ++ d'))
joined_four a b c d = ap₂ (λ xs ys. xs ++ ys) a (ap₂ (λ xs ys. xs ++ ys) b (ap₂ (λ xs ys. xs ++ ys) c d))

same_bytes : (bytes : List (List ℕ)) → map (λ (b : List ℕ). b) bytes ≡ bytes
same_bytes [] = refl
same_bytes (b ∷ bytes) = ap (λ l. b ∷ l) (same_bytes bytes)

module _ (named : Bool) (w : ComponentWorld) where
  -- nothing
  users_nothing : {A : Type 0} (g : Landmark → List A) → g ResourceDefined ≡ [] → ((bytes : List ℕ) → g (ModuleIs bytes) ≡ []) → ((number : ℕ) → g (InstanceOf number) ≡ []) → (b : GeneratedBytes) → flat_map g (modules_marked named w b) ≡ []
  users_nothing {A} g none m i b =
      reads_users g none named w b
      ∙ all_nothing (flat_map g (bytes_marked named w)) (flat_map g (shims_marked w b.shims)) (flat_map g (users_marked w)) (flat_map g (fixup_marked w b.fixup))
      (mapped_nothing g ModuleIs m (user_bytes named w)) (shims_nothing g m i w b.shims) (mapped_nothing g InstanceOf i (user_range w)) (fixup_nothing g m i w b.fixup)

  -- the modules
  users_modules : (b : GeneratedBytes) → flat_map module_mark (modules_marked named w b) ≡ user_bytes named w ++ bytes_listed b
  users_modules b =
      let own : flat_map module_mark (bytes_marked named w) ≡ user_bytes named w = mapped_each module_mark ModuleIs (λ (x : List ℕ). x) (λ x. refl) (user_bytes named w) ∙ same_bytes (user_bytes named w) in
      let no_numbers : flat_map module_mark (users_marked w) ≡ [] = mapped_nothing module_mark InstanceOf (λ n. refl) (user_range w) in
      reads_users module_mark refl named w b ∙ joined_four own (shims_module w b.shims) no_numbers (fixup_module w b.fixup)

  -- the instances
  users_instances : (b : GeneratedBytes) → flat_map instance_mark (modules_marked named w b) ≡ numbers_listed w b
  users_instances b =
      let no_bytes : flat_map instance_mark (bytes_marked named w) ≡ [] = mapped_nothing instance_mark ModuleIs (λ x. refl) (user_bytes named w) in
      reads_users instance_mark refl named w b ∙ joined_four no_bytes (shims_instance w b.shims) (numbers_read (user_range w)) (fixup_instance w b.fixup)

  -- the resources
  users_resources : (b : GeneratedBytes) → flat_map resource_mark (modules_marked named w b) ≡ map (λ id. 0) (provided_resources w)
  users_resources b =
      let shims : List Landmark = shims_marked w b.shims in
      let fixup : List Landmark = fixup_marked w b.fixup in
      let no_bytes : flat_map resource_mark (bytes_marked named w) ≡ [] = mapped_nothing resource_mark ModuleIs (λ x. refl) (user_bytes named w) in
      let no_numbers : flat_map resource_mark (users_marked w) ≡ [] = mapped_nothing resource_mark InstanceOf (λ n. refl) (user_range w) in
      let behind : flat_map resource_mark (users_marked w ++ fixup) ≡ [] =
      flat_map-append resource_mark (users_marked w) fixup ∙ ap₂ (λ xs ys. xs ++ ys) no_numbers (fixup_nothing resource_mark (λ x. refl) (λ n. refl) w b.fixup) in
      flat_map-append resource_mark (bytes_marked named w) (shims ++ (resources_marked w ++ (users_marked w ++ fixup)))
      ∙ ap₂ (λ xs ys. xs ++ ys) no_bytes
      (flat_map-append resource_mark shims (resources_marked w ++ (users_marked w ++ fixup))
      ∙ ap₂ (λ xs ys. xs ++ ys) (shims_nothing resource_mark (λ x. refl) (λ n. refl) w b.shims) (each_resource (provided_resources w) (users_marked w ++ fixup) behind))

-- ---- the names of nested components

-- a right one has no lists of names but those of its imports and its exports
no_names : (given : List ℕ → TypeTree) (scope : NestedScope) (i : Item) → IsItemRight given scope i → item_names i ≡ []
no_names given scope (items.Type t) h = refl
no_names given scope (items.Import name description) h = refl
no_names given scope (items.Export name sort index description) h = refl
no_names given scope _ h = absurd h

pub no_inner_names : (given : List ℕ → TypeTree) (scope : NestedScope) (is : List Item) → AreItemsRight given scope is → flat_map item_names is ≡ []
no_inner_names given scope [] h = refl
no_inner_names given scope (i ∷ is) h = ap₂ (λ xs ys. xs ++ ys) (no_names given scope i h.0) (no_inner_names given (with_item given scope i) is h.1)

-- ---- what the landmarks say of a list

module _ (n : Naming) (w : ComponentWorld) (ds : List Def) (built : IsBuilt n w ds) where
  -- what the landmarks of the imports say
  said_by : {A : Type 0} (g : Landmark → List A) → ((s : Stated) → g (Imported s) ≡ []) → ((names : Names) → g (InstanceTypeOf names) ≡ []) → flat_map g (imports_marked n w) ≡ []
  said_by g i t = reads_nothing n w g i t (import_entries w)

  imports_said : flat_map import_mark (imports_marked n w) ≡ stated_imports n w
  imports_said = of_entries n w import_mark (λ e. stated_import n w e ∷ []) (import_of n w) (import_entries w) ∙ each_of (stated_import n w) (import_entries w)

  types_said : flat_map type_mark (imports_marked n w) ≡ instance_type_names w
  types_said = of_entries n w type_mark (names_in w) (type_of n w) (import_entries w)

  -- what is read of all definitions but the section of names
  front_marks : {A : Type 0} (f : Def → List A) (g : Landmark → List A) → ((d : Def) → f d ≡ flat_map g (filter_map landmark (d ∷ []))) →
      flat_map f built.front ≡ flat_map g (imports_marked n w) ++ (flat_map g (modules_marked n.debug_names w built.generated) ++ flat_map g (exports_marked n w))
  front_marks f g same =
      flat_map-marked f landmark g same built.front
      ∙ (ap (flat_map g) built.marked
      ∙ (flat_map-append g (imports_marked n w) (modules_marked n.debug_names w built.generated ++ exports_marked n w)
      ∙ ap (λ l. flat_map g (imports_marked n w) ++ l) (flat_map-append g (modules_marked n.debug_names w built.generated) (exports_marked n w))))

  read_marks : {A : Type 0} (f : Def → List A) (g : Landmark → List A) → ((d : Def) → f d ≡ flat_map g (filter_map landmark (d ∷ []))) → ((name contents : List ℕ) → f (defs.Item (items.Custom name contents)) ≡ []) →
      flat_map f ds ≡ flat_map g (imports_marked n w) ++ (flat_map g (modules_marked n.debug_names w built.generated) ++ flat_map g (exports_marked n w))
  read_marks f g same none =
      ap (flat_map f) built.whole
      ∙ (flat_map-append f built.front built.names
      ∙ (ap (λ l. flat_map f built.front ++ l) (names_nothing f none built.names built.named) ∙ (append-nil (flat_map f built.front) ∙ front_marks f g same)))

  -- the modules and their instances have no import, no export, no custom section, and no type of instances
  none_of_modules : {A : Type 0} (g : Landmark → List A) → g ResourceDefined ≡ [] → ((bytes : List ℕ) → g (ModuleIs bytes) ≡ []) → ((number : ℕ) → g (InstanceOf number) ≡ []) → flat_map g (modules_marked n.debug_names w built.generated) ≡ []
  none_of_modules g none m i = users_nothing n.debug_names w g none m i built.generated

  pub root_imports : flat_map (at_root item_imports) ds ≡ stated_imports n w
  root_imports =
      read_marks (at_root item_imports) import_mark import_is (λ n c. refl)
      ∙ rw (imports_said, none_of_modules import_mark refl (λ b. refl) (λ k. refl), exports_nothing n w import_mark (λ i e. refl) (λ s. refl)) (append-nil (stated_imports n w))

  -- the core modules, and their instances
  pub root_modules : flat_map (at_root item_module) ds ≡ user_bytes n.debug_names w ++ bytes_listed built.generated
  root_modules =
      read_marks (at_root item_module) module_mark module_is (λ n c. refl)
      ∙ rw (said_by module_mark (λ s. refl) (λ names. refl), exports_nothing n w module_mark (λ i e. refl) (λ s. refl))
      (append-nil (flat_map module_mark (modules_marked n.debug_names w built.generated)) ∙ users_modules n.debug_names w built.generated)

  pub root_instances : flat_map (at_root item_instantiates) ds ≡ numbers_listed w built.generated
  root_instances =
      read_marks (at_root item_instantiates) instance_mark instance_is (λ n c. refl)
      ∙ rw (said_by instance_mark (λ s. refl) (λ names. refl), exports_nothing n w instance_mark (λ i e. refl) (λ s. refl))
      (append-nil (flat_map instance_mark (modules_marked n.debug_names w built.generated)) ∙ users_instances n.debug_names w built.generated)

  root_resources : flat_map (at_root item_resource) ds ≡ map (λ id. 0) (provided_resources w)
  root_resources =
      read_marks (at_root item_resource) resource_mark resource_is (λ n c. refl)
      ∙ rw (said_by resource_mark (λ s. refl) (λ names. refl), exports_nothing n w resource_mark (λ i e. refl) (λ s. refl))
      (append-nil (flat_map resource_mark (modules_marked n.debug_names w built.generated)) ∙ users_resources n.debug_names w built.generated)

  -- as many resources are defined as the world has
  pub all_resources : (inventory ds).resources ≡ length (own_resources w)
  all_resources =
      resources_counted ds
      ∙ (ap length root_resources
      ∙ (length-map (provided_resources w) (λ (p : ProvidedType). 0)
      ∙ sym (length-map (provided_resources w) (λ (p : ProvidedType). p.id))))

  pub root_exports : flat_map (at_root item_exports) ds ≡ stated_exports n w
  root_exports =
      read_marks (at_root item_exports) export_mark export_is (λ n c. refl)
      ∙ rw (said_by export_mark (λ s. refl) (λ names. refl), none_of_modules export_mark refl (λ b. refl) (λ k. refl), exports_each n w export_mark (λ s. s) (λ i e. refl) (λ s. refl)) refl

  pub root_export_names : flat_map def_export ds ≡ map (λ (r : RequiredKey). (name_of n w.resolve r.key).name) (required_keys w)
  root_export_names =
      read_marks def_export name_mark name_is (λ n c. refl)
      ∙ rw (said_by name_mark (λ s. refl) (λ names. refl), none_of_modules name_mark refl (λ b. refl) (λ k. refl), exports_each n w name_mark (λ (s : Stated). s.name.name) (λ i e. refl) (λ s. refl)) refl

  pub root_type_names : flat_map (at_root item_type_names) ds ≡ instance_type_names w
  root_type_names =
      read_marks (at_root item_type_names) type_mark type_is (λ n c. refl)
      ∙ rw (types_said, none_of_modules type_mark refl (λ b. refl) (λ k. refl), exports_nothing n w type_mark (λ i e. refl) (λ s. refl)) (append-nil (instance_type_names w))

  -- the nested components import the functions, and export what, the world says
  pub root_nested_names : flat_map names_of_nested ds ≡ nested_names w
  root_nested_names =
      read_marks names_of_nested nested_mark nested_is (λ n c. refl)
      ∙ rw (said_by nested_mark (λ s. refl) (λ names. refl), none_of_modules nested_mark refl (λ b. refl) (λ k. refl))
      (of_keys n w nested_mark (λ r. nested_lists w (exported_item w r.key))
      (λ r. of_key n w nested_mark (nested_lists w (exported_item w r.key)) [] r (nested_of w (exported_item w r.key)) refl ∙ append-nil (nested_lists w (exported_item w r.key)))
      (required_keys w))

  pub no_customs : flat_map (at_root item_customs) built.front ≡ []
  no_customs =
      front_marks (at_root item_customs) custom_mark custom_is
      ∙ rw (said_by custom_mark (λ s. refl) (λ names. refl), none_of_modules custom_mark refl (λ b. refl) (λ k. refl), exports_nothing n w custom_mark (λ i e. refl) (λ s. refl)) refl
