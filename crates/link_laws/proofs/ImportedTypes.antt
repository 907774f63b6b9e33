-- The types that a list imports denote what the world's do.
use Rattle.std.proofs.Common.{◌≡◌, ◌∙◌, ◌+◌, ℕ, suc, List, [], ◌∷◌, ◌++◌, map, get_or, refl, sym, ap, ap₂, subst, zero-add, add-zero, append-nil, append_assoc, Some, None, arith}
use Rattle.std.proofs.lemmas.List.{map-append}
use Rattle.std.proofs.lemmas.Grind.{flat_map-append}
use Rattle.std.proofs.Math.ListN.{get_or-map}
use Rattle.std.proofs.lemmas.Option.{same_Some}
use Rattle.std.specs.List.{slice_get, flat_map, AllByRecursion}
use Rattle.comp_bytes.specs.ItemIndices.{in_space}
use Rattle.comp_bytes.specs.declared.space.Space.TheVariants as spaces
use Rattle.comp_bytes.specs.declared.space.ComponentExportKind.TheVariants as exports
use Rattle.standard_kinds.specs.declared.kinds.ExportKind.TheVariants as kinds
use Rattle.comp_bytes.specs.declared.types.Alias.TheVariants as aliases
use Rattle.comp_bytes.specs.declared.space.Sort.{Sort}
use Rattle.comp_bytes.specs.declared.space.Sort.TheVariants as sorts
use Rattle.comp_bytes.specs.declared.types.ExternName.{ExternName}
use Rattle.comp_bytes.specs.declared.types.Description.{Description}
use Rattle.comp_bytes.specs.declared.types.Description.TheVariants as descriptions
use Rattle.comp_bytes.specs.declared.def.Item.TheVariants as items
use Rattle.comp_bytes.specs.declared.def.Def.{Def}
use Rattle.comp_bytes.specs.declared.def.Def.TheVariants as defs
use Rattle.wit_data.specs.declared.ids.InterfaceId.{InterfaceId}
use Rattle.wit_data.specs.declared.ids.TypeId.{TypeId}
use Rattle.wit_data.specs.declared.worlds.WorldItem.{WorldItem}
use Rattle.wit_data.specs.declared.worlds.WorldItem.TheVariants as world_items
use Rattle.wit_data.specs.declared.worlds.WorldKey.{WorldKey}
use Rattle.comp_worlds.specs.WorldContents.{items_of, imported_types}
use Rattle.comp_worlds.specs.declared.world.ComponentWorld.{ComponentWorld}
use Rattle.comp_trees.specs.Trees.{ImportedAt, ResourceAt}
use Rattle.comp_trees.specs.DefinedTrees.{TypeTree, OfValues}
use Rattle.comp_inventories.specs.Inventories.{Inventory, entry_tree, no_type, trees_in, types_made, imported_type, imports_made, with_def, inventory_after, inventory, scope_of, empty_inventory}
use Rattle.comp_inventories.proofs.Inventories.{inventory-push}
use Rattle.comp_links.specs.Naming.{Naming}
use Rattle.comp_links.specs.Lists.{ImportEntry, ImportedInterface, WorldType, RootFunction, import_entries, unless_empty, interface_entry, names_of_interface, type_of_world, Stated, stated_import, stated_imports, stated_types, described_sort}
use Rattle.comp_links.specs.Roles.{used_functions}
use Rattle.comp_terms.specs.Terms.{imports_in}
use Rattle.comp_terms.specs.Rules.{IsDescriptionRight, IsRight, RightAfter}
use Rattle.link_laws.specs.Composition.{at_root, item_imports}
use Rattle.link_laws.specs.Linking.{if_imported, imported_among}

-- what the type denotes that a definition imports, and those of definitions, in order, where the inventory is of the
-- earlier ones
abbrev type_imported : Inventory → Def → List TypeTree
type_imported v (defs.Item (items.Import name description)) = map entry_tree (imported_type v description)
type_imported v d = []

abbrev types_imported : Inventory → List Def → List TypeTree
types_imported v [] = []
types_imported v (d ∷ ds) = type_imported v d ++ types_imported (with_def v d) ds

-- what an import of the component denotes, where it is a type
abbrev trees_of : ComponentWorld → ImportEntry → List TypeTree
trees_of w (ImportedInterface key id) = []
trees_of w (WorldType name id) = type_of_world w id ∷ []
trees_of w (RootFunction name) = []

functions_none : (w : ComponentWorld) (names : List (List ℕ)) → flat_map (trees_of w) (map RootFunction names) ≡ []
functions_none w [] = refl
functions_none w (name ∷ names) = functions_none w names

pub types_first : (w : ComponentWorld) (ts : List (List ℕ × TypeId)) (names : List (List ℕ)) → flat_map (trees_of w) (map (λ t. WorldType t.0 t.1) ts ++ map RootFunction names) ≡ map (λ t. type_of_world w t.1) ts
types_first w [] names = functions_none w names
types_first w (t ∷ ts) names = ap (λ l. type_of_world w t.1 ∷ l) (types_first w ts names)

interface_none : (w : ComponentWorld) (names : List (List ℕ)) (key : WorldKey) (id : InterfaceId) → flat_map (trees_of w) (unless_empty names (ImportedInterface key id)) ≡ []
interface_none w [] key id = refl
interface_none w (name ∷ names) key id = refl

entry_none : (w : ComponentWorld) (entry : WorldKey × WorldItem) → flat_map (trees_of w) (interface_entry w entry) ≡ []
entry_none w (key, world_items.Interface id) = interface_none w (names_of_interface w id) key id
entry_none w (key, world_items.Function f) = refl
entry_none w (key, world_items.NamedType id) = refl

interfaces_none : (w : ComponentWorld) (entries : List (WorldKey × WorldItem)) → flat_map (trees_of w) (flat_map (interface_entry w) entries) ≡ []
interfaces_none w [] = refl
interfaces_none w (x ∷ xs) =
    flat_map-append (trees_of w) (interface_entry w x) (flat_map (interface_entry w) xs) ∙ ap₂ (λ l m. l ++ m) (entry_none w x) (interfaces_none w xs)

-- the types of all imports are those of the world
pub types_of_entries : (w : ComponentWorld) → flat_map (trees_of w) (import_entries w) ≡ stated_types w
types_of_entries w =
    flat_map-append (trees_of w) (flat_map (interface_entry w) (items_of w).imports) (map (λ t. WorldType t.0 t.1) (imported_types w) ++ map RootFunction (used_functions w))
    ∙ ap₂ (λ l m. l ++ m) (interfaces_none w (items_of w).imports) (types_first w (imported_types w) (used_functions w))

-- an import that is said to be a function is none of a type
function_none : (n : Naming) (w : ComponentWorld) (e : ImportEntry) → (stated_import n w e).sort ≡ sorts.Func → [] ≡ trees_of w e
function_none n w (ImportedInterface key id) same = cc
function_none n w (WorldType name id) same = cc
function_none n w (RootFunction name) same = refl

-- the import with the next number
one_import : (n : Naming) (w : ComponentWorld) (earlier : List Def) (name : ExternName) (description : Description) (e : ImportEntry) → IsDescriptionRight w earlier name.name description →
    slice_get (import_entries w) (imports_in earlier) ≡ Some e → (stated_import n w e).sort ≡ described_sort description → map entry_tree (imported_type (inventory earlier) description) ≡ trees_of w e
one_import n w earlier name (descriptions.Func kind) e h at same = function_none n w e same
one_import n w earlier name (descriptions.TypeEqual index) e h at same =
    let is : WorldType name.name h.1.id ≡ e = same_Some (WorldType name.name h.1.id) e (sym h.1.stated ∙ at) in
    let tree : entry_tree (get_or (inventory earlier).types index no_type) ≡ type_of_world w h.1.id = sym (get_or-map entry_tree (inventory earlier).types index no_type) ∙ h.1.same in
    ap (λ t. t ∷ []) tree ∙ ap (trees_of w) is
one_import n w earlier name descriptions.SubResource e h at same =
    let is : WorldType name.name h.id ≡ e = same_Some (WorldType name.name h.id) e (sym h.stated ∙ at) in
    ap (λ t. t ∷ []) h.same ∙ ap (trees_of w) is
one_import n w earlier name (descriptions.Instance index) e h at same = ap (trees_of w) (same_Some (ImportedInterface h.key h.id) e (sym h.stated ∙ at))

-- ---- definition by definition

-- the imports from this number on are these
abbrev Remaining : ComponentWorld → ℕ → List ImportEntry → Type 0
Remaining w n es = (k : ℕ) → slice_get (import_entries w) (n + k) ≡ slice_get es k

imports_after : (earlier : List Def) (d : Def) → imports_in (earlier ++ d ∷ []) ≡ imports_made (inventory earlier) d
imports_after earlier d = ap (λ (v : Inventory). v.imports) (inventory-push earlier d)

-- the types of what follows a definition are those of the entries that remain
abbrev Rest : Naming → ComponentWorld → List Def → Def → List Def → Type 0
Rest n w earlier d ds = (es : List ImportEntry) → Remaining w (imports_in (earlier ++ d ∷ [])) es → flat_map (at_root item_imports) ds ≡ map (stated_import n w) es → types_imported (inventory (earlier ++ d ∷ [])) ds ≡ flat_map (trees_of w) es

module _ (n : Naming) (w : ComponentWorld) (earlier : List Def) (d : Def) (ds : List Def) (rest : Rest n w earlier d ds) where
  -- what follows a definition
  following : (es : List ImportEntry) (number : ℕ) → imports_made (inventory earlier) d ≡ number → Remaining w number es → flat_map (at_root item_imports) ds ≡ map (stated_import n w) es →
      types_imported (with_def (inventory earlier) d) ds ≡ flat_map (trees_of w) es
  following es number count r e =
      subst (λ v. types_imported v ds ≡ flat_map (trees_of w) es) (inventory-push earlier d)
      (rest es (subst (λ number. Remaining w number es) (sym (imports_after earlier d ∙ count)) r) e)

  -- a definition that is no import
  other : (es : List ImportEntry) → type_imported (inventory earlier) d ≡ [] → imports_made (inventory earlier) d ≡ imports_in earlier → Remaining w (imports_in earlier) es → flat_map (at_root item_imports) ds ≡ map (stated_import n w) es →
      type_imported (inventory earlier) d ++ types_imported (with_def (inventory earlier) d) ds ≡ flat_map (trees_of w) es
  other es none count r e = ap (λ l. l ++ types_imported (with_def (inventory earlier) d) ds) none ∙ following es (imports_in earlier) count r e

abbrev first_sort : List Stated → Sort
first_sort [] = sorts.Component
first_sort (s ∷ rest) = s.sort

abbrev all_after : List Stated → List Stated
all_after [] = []
all_after (s ∷ rest) = rest

after_import : (n : Naming) (w : ComponentWorld) (earlier : List Def) (name : ExternName) (description : Description) (ds : List Def) (es : List ImportEntry) → IsDescriptionRight w earlier name.name description → Remaining w (imports_in earlier) es →
    flat_map (at_root item_imports) (defs.Item (items.Import name description) ∷ ds) ≡ map (stated_import n w) es → Rest n w earlier (defs.Item (items.Import name description)) ds →
    types_imported (inventory earlier) (defs.Item (items.Import name description) ∷ ds) ≡ flat_map (trees_of w) es
after_import n w earlier name description ds [] h r e rest = cc
after_import n w earlier name description ds (x ∷ es) h r e rest =
    let at : slice_get (import_entries w) (imports_in earlier) ≡ Some x = ap (slice_get (import_entries w)) (sym (add-zero (imports_in earlier))) ∙ r 0 in
    let next : Remaining w (suc (imports_in earlier)) es = λ k. let same : suc (imports_in earlier) + k ≡ imports_in earlier + suc k = omega arith in ap (slice_get (import_entries w)) same ∙ r (suc k) in
    ap₂ (λ xs ys. xs ++ ys) (one_import n w earlier name description x h at (sym (ap first_sort e)))
    (following n w earlier (defs.Item (items.Import name description)) ds rest es (suc (imports_in earlier)) refl next (ap all_after e))

after_one : (n : Naming) (w : ComponentWorld) (earlier : List Def) (d : Def) (ds : List Def) (es : List ImportEntry) → IsRight w earlier d → Remaining w (imports_in earlier) es → flat_map (at_root item_imports) (d ∷ ds) ≡ map (stated_import n w) es →
    Rest n w earlier d ds → types_imported (inventory earlier) (d ∷ ds) ≡ flat_map (trees_of w) es
after_one n w earlier (defs.Item (items.Import name description)) ds es h r e rest = after_import n w earlier name description ds es h r e rest
after_one n w earlier d ds es h r e rest = other n w earlier d ds rest es refl refl r e

types_after : (n : Naming) (w : ComponentWorld) (earlier rest : List Def) (es : List ImportEntry) → RightAfter w earlier rest → Remaining w (imports_in earlier) es → flat_map (at_root item_imports) rest ≡ map (stated_import n w) es →
    types_imported (inventory earlier) rest ≡ flat_map (trees_of w) es
types_after n w earlier [] [] h r e = refl
types_after n w earlier [] (x ∷ es) h r e = cc
types_after n w earlier (d ∷ ds) es h r e = after_one n w earlier d ds es h.0 r e (λ fs s g. types_after n w (earlier ++ d ∷ []) ds fs h.1 s g)

-- ---- the same in a run

-- what these definitions make of types
abbrev trees_made : Inventory → List Def → List TypeTree
trees_made v [] = []
trees_made v (d ∷ ds) = map entry_tree (types_made v d) ++ trees_made (with_def v d) ds

trees_after : (v : Inventory) (ds : List Def) → trees_in (inventory_after v ds) ≡ trees_in v ++ trees_made v ds
trees_after v [] = sym (append-nil (trees_in v))
trees_after v (d ∷ ds) =
    trees_after (with_def v d) ds
    ∙ (ap (λ l. l ++ trees_made (with_def v d) ds) (map-append entry_tree v.types (types_made v d))
    ∙ append_assoc (trees_in v) (map entry_tree (types_made v d)) (trees_made (with_def v d) ds))

abbrev IsSame : Inventory → List Def → Type 0
IsSame v ds = imported_among (in_space spaces.Type ds) (trees_made v ds) ≡ types_imported v ds

-- one definition more
same_after : (v : Inventory) (d : Def) (ds : List Def) → IsSame (with_def v d) ds → IsSame v (d ∷ ds)
same_after v (defs.Item (items.Import name (descriptions.TypeEqual index))) ds rest = ap (λ l. entry_tree (get_or v.types index no_type) ∷ l) rest
same_after v (defs.Item (items.Import name descriptions.SubResource)) ds rest = ap (λ l. OfValues (ResourceAt (ImportedAt (record { number = v.imports; inner = None }))) ∷ l) rest
same_after v (defs.Item (items.Alias (aliases.Export exports.Func instance name))) ds rest = rest
same_after v (defs.Item (items.Alias (aliases.CoreExport kinds.Func instance name))) ds rest = rest
same_after v (defs.Item (items.Export name (sorts.Core kinds.Func) index description)) ds rest = rest
same_after v d ds rest = rest

same_types : (v : Inventory) (ds : List Def) → IsSame v ds
same_types v [] = refl
same_types v (d ∷ ds) = same_after v d ds (same_types (with_def v d) ds)

-- where the trees of the list are those of the run, each type that is imported denotes what the world's does
pub types_served : (n : Naming) (w : ComponentWorld) (ds : List Def) → RightAfter w [] ds → flat_map (at_root item_imports) ds ≡ stated_imports n w → imported_among (in_space spaces.Type ds) (scope_of ds) ≡ stated_types w
unfolding inventory
types_served n w ds h e =
    let start : Remaining w (imports_in []) (import_entries w) = λ k. ap (slice_get (import_entries w)) (zero-add k) in
    ap (imported_among (in_space spaces.Type ds)) (trees_after empty_inventory ds)
    ∙ (same_types empty_inventory ds
    ∙ (types_after n w [] ds (import_entries w) h start e
    ∙ types_of_entries w))

-- where no type is imported
pub none_imported : (ds : List Def) (trees : List TypeTree) → AllByRecursion (λ d. (tree : TypeTree) → if_imported d tree ≡ []) ds → imported_among ds trees ≡ []
none_imported [] trees h = refl
none_imported (d ∷ ds) [] h = refl
none_imported (d ∷ ds) (tree ∷ trees) h = rw (h.0 tree) (none_imported ds trees h.1)
