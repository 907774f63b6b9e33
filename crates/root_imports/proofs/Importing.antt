-- The types of the world, and the root functions that imports of main use: all of them are
-- imported, in the order of the world.
use Rattle.std.proofs.Common.{if◌then◌else◌, ◌≡◌, ◌∙◌, ◌+◌, ◌<◌, ◌≤◌, ◌==◌, inl, inr, suc, length, length-append, add-zero, arith, zero-add, Some, ℕ, Bool, true, false, ◌||◌, List, [], ◌∷◌, ◌++◌, refl, sym, ap, ap₂, subst, append_assoc, append-nil, map, filter, IsTrue, IsSome, Contains}
use Rattle.std.proofs.lemmas.Slice.Eq.{bytes_eq-Decides}
use Rattle.std.proofs.lemmas.Option.{slice_get-map}
use Rattle.std.proofs.lemmas.List.{length-map, map-append}
use Rattle.std.specs.List.{AllByRecursion, IsDistinct, flat_map, list_any, slice_get}
use Rattle.std.specs.Map.{keys_of}
use Rattle.std.specs.Option.{option_map}
use Rattle.comp_lists.specs.Found.{found}
use Rattle.std.proofs.lemmas.Grind.{flat_map-append}
use Rattle.std.proofs.lemmas.List.Elements.{filter-append}
use Rattle.comp_lists.proofs.Lists.{AllByRecursion-contains, AllByRecursion-weaker, slice_get-append, slice_get-end}
use Rattle.comp_bytes.specs.declared.def.Item.TheVariants as items
use Rattle.comp_bytes.specs.declared.types.TypeDef.TheVariants as types
use Rattle.comp_bytes.specs.declared.def.Def.{Def}
use Rattle.comp_bytes.specs.declared.def.Def.TheVariants as defs
use Rattle.comp_builder.specs.Built.{Built}
use Rattle.comp_inventories.specs.Inventories.{Inventory, with_def, inventory_after, inventory}
use Rattle.comp_inventories.proofs.Inventories.{inventory-append}
use Rattle.wit_data.specs.Keys.{is_same_key}
use Rattle.wit_data.specs.declared.ids.TypeId.{TypeId}
use Rattle.wit_data.specs.declared.worlds.WorldKey.{WorldKey}
use Rattle.wit_data.specs.declared.worlds.WorldKey.TheVariants as keys
use Rattle.wit_data.specs.declared.worlds.WorldItem.{WorldItem}
use Rattle.wit_data.specs.declared.worlds.WorldItem.TheVariants as world_items
use Rattle.world_values.specs.Items.{root_function_at}
use Rattle.comp_roles.specs.declared.imports.Import.{Import}
use Rattle.comp_roles.specs.declared.imports.Import.TheVariants as imports
use Rattle.comp_roles.specs.declared.imports.ImportInstance.{ImportInstance}
use Rattle.comp_roles.specs.declared.imports.ImportInstance.TheVariants as instances
use Rattle.comp_worlds.specs.Encodable.{IsEncodable}
use Rattle.comp_worlds.specs.WorldContents.{items_of, root_function, world_type, imported_functions, imported_types, imported_name}
use Rattle.comp_worlds.specs.Worlds.{IsImportRole, IsImportGroup}
use Rattle.comp_worlds.specs.Encodable.{AscendFrom}
use Rattle.comp_worlds.specs.declared.world.ComponentWorld.{ComponentWorld}
use Rattle.wit_data.specs.declared.ids.InterfaceId.{InterfaceId}
use Rattle.comp_links.specs.Lists.{ImportEntry, ImportedInterface, WorldType, RootFunction, import_entries, interface_entries, interface_entry, unless_empty, names_of_interface, number_of_type, root_type}
use Rattle.root_imports.specs.Imports.{first_imports}
use Rattle.comp_links.specs.Modules.{import_groups}
use Rattle.comp_links.proofs.Groups.{groups_right}
use Rattle.comp_links.specs.Roles.{is_named, is_any_import, uses_from, is_used, used_functions}
use Rattle.comp_terms.specs.Terms.{imports_in}
use Rattle.comp_terms.specs.Rules.{Grows, Landmark, Imported, landmarks, named_import, names_marked}
use Rattle.comp_items.specs.Items.{Extends}
use Rattle.comp_items.proofs.Extending.{extends_none, extends_then}
use Rattle.root_imports.specs.Imports.{FindsImports, FindsMore, FindsUsed, IsNextItem, IsNextType, next_after}
use Rattle.interface_needs.proofs.Lists.{contains_none, contains_cons, all_both}
use Rattle.root_imports.proofs.Allowing.{below_next}
use Rattle.root_imports.specs.Met.{next_of}
use Rattle.root_imports.specs.RootScopes.{ArePassed}
use Rattle.root_imports.specs.declared.met_types.MetTypes.{MetTypes}
use Rattle.std.proofs.lemmas.Bool.Decides.{Decides-eqb}
use Rattle.std.proofs.lemmas.List.Elements.{Contains-append_cases, Contains-append_right}
use Rattle.root_imports.specs.Growing.{Grows-none, Grows-then}
use Rattle.root_imports.proofs.Looking.{function_found, entry_sound}

abbrev IsWorldImport : ComponentWorld → List ℕ → Type 0
IsWorldImport w text = Contains (imported_functions w) text

role_is_imported : (w : ComponentWorld) (text : List ℕ) (role : Import) → is_named text (imported_name role) ≡ true → IsImportRole w role → IsWorldImport w text
role_is_imported w text (imports.WorldFunc (keys.Name name) function abi) same h = subst (IsWorldImport w) (sym ((bytes_eq-Decides text name).0 same)) h.0
role_is_imported w text (imports.ImportedResourceDrop key interface id) same h = cc
role_is_imported w text (imports.InterfaceFunc key interface function abi) same h = cc
role_is_imported w text (imports.ExportedResourceDrop key id) same h = cc
role_is_imported w text (imports.ExportedResourceRep key id) same h = cc
role_is_imported w text (imports.ExportedResourceNew key id) same h = cc
role_is_imported w text (imports.MainModuleMemory type) same h = cc
role_is_imported w text (imports.MainModuleExport name kind) same h = cc
role_is_imported w text (imports.AdapterExport adapter name type) same h = cc
role_is_imported w text (imports.Item item) same h = cc
role_is_imported w text role same h = cc

field_is_imported : (w : ComponentWorld) (text : List ℕ) (fs : List (List ℕ × Import)) → AllByRecursion (λ f. IsImportRole w f.1) fs → is_any_import text fs ≡ true → IsWorldImport w text
field_is_imported w text [] h e = cc
field_is_imported w text (f ∷ fs) h e = by (is_named text (imported_name f.1)) refl e (field_is_imported w text fs h.1)
  where
    by : (b : Bool) → is_named text (imported_name f.1) ≡ b → (b || is_any_import text fs) ≡ true → (is_any_import text fs ≡ true → IsWorldImport w text) → IsWorldImport w text
    by true same u rest = role_is_imported w text f.1 same h.0
    by false apart u rest = rest u

instance_is_imported : (w : ComponentWorld) (text : List ℕ) (g : List ℕ × ImportInstance) → IsImportGroup w g → uses_from text g ≡ true → IsWorldImport w text
instance_is_imported w text (name, instances.Names fields) h e = field_is_imported w text fields h.1 e
instance_is_imported w text (name, instances.Whole which) h e = cc

groups_are_imported : (w : ComponentWorld) (text : List ℕ) (groups : List (List ℕ × ImportInstance)) → AllByRecursion (IsImportGroup w) groups → list_any (uses_from text) groups ≡ true → IsWorldImport w text
groups_are_imported w text [] h e = cc
groups_are_imported w text (g ∷ gs) h e = by (uses_from text g) refl e (groups_are_imported w text gs h.1)
  where
    by : (b : Bool) → uses_from text g ≡ b → (b || list_any (uses_from text) gs) ≡ true → (list_any (uses_from text) gs ≡ true → IsWorldImport w text) → IsWorldImport w text
    by true here u rest = instance_is_imported w text g h.0 here
    by false apart u rest = rest u

-- a root function that an import of a user module uses is one that the world imports
pub used_is_imported : (w : ComponentWorld) → IsEncodable w → (text : List ℕ) → IsTrue (is_used w text) → IsWorldImport w text
used_is_imported w valid text u = groups_are_imported w text (import_groups w) (groups_right w valid.valid) u

-- ---- how many imports there are

abbrev pub is_imported : Landmark → Bool
is_imported (Imported stated) = true
is_imported mark = false

-- each import is a landmark
counted : (v : Inventory) (ds : List Def) → (inventory_after v ds).imports ≡ v.imports + length (filter is_imported (landmarks ds))
counted v [] = sym (add-zero v.imports)
counted v (defs.Component inner ∷ ds) = counted (with_def v (defs.Component inner)) ds
counted v (defs.Item (items.CoreModule bytes) ∷ ds) = counted (with_def v (defs.Item (items.CoreModule bytes))) ds
counted v (defs.Item (items.CoreInstantiate number arguments) ∷ ds) = counted (with_def v (defs.Item (items.CoreInstantiate number arguments))) ds
counted v (defs.Item (items.CoreExports entries) ∷ ds) = counted (with_def v (defs.Item (items.CoreExports entries))) ds
counted v (defs.Item (items.Instantiate component arguments) ∷ ds) = counted (with_def v (defs.Item (items.Instantiate component arguments))) ds
counted v (defs.Item (items.Alias a) ∷ ds) = counted (with_def v (defs.Item (items.Alias a))) ds
counted v (defs.Item (items.Type (types.Resource destructor)) ∷ ds) = counted (with_def v (defs.Item (items.Type (types.Resource destructor)))) ds
counted v (defs.Item (items.Type (types.Func f)) ∷ ds) = counted (with_def v (defs.Item (items.Type (types.Func f)))) ds
counted v (defs.Item (items.Type (types.Defined t)) ∷ ds) = counted (with_def v (defs.Item (items.Type (types.Defined t)))) ds
counted v (defs.Item (items.InstanceType t) ∷ ds) = counted (with_def v (defs.Item (items.InstanceType t))) ds
counted v (defs.Item (items.Lift core options kind) ∷ ds) = counted (with_def v (defs.Item (items.Lift core options kind))) ds
counted v (defs.Item (items.Lower function options) ∷ ds) = counted (with_def v (defs.Item (items.Lower function options))) ds
counted v (defs.Item (items.Intrinsic i) ∷ ds) = counted (with_def v (defs.Item (items.Intrinsic i))) ds
counted v (defs.Item (items.Import name description) ∷ ds) = let rest = counted (with_def v (defs.Item (items.Import name description))) ds in omega (arith, rest)
counted v (defs.Item (items.Export name sort index description) ∷ ds) = counted (with_def v (defs.Item (items.Export name sort index description))) ds
counted v (defs.Item (items.Custom name contents) ∷ ds) = counted (with_def v (defs.Item (items.Custom name contents))) ds

-- a list that grew has as many imports more as its landmarks say
pub grown_imports : {w : ComponentWorld} {old new : List Def} {m : List Landmark} → Grows w old new m → imports_in new ≡ imports_in old + length (filter is_imported m)
grown_imports {w} {old} {new} {m} g =
    ap imports_in g.extended
    ∙ (ap (λ (v : Inventory). v.imports) (inventory-append old g.more)
    ∙ (counted (inventory old) g.more ∙ ap (λ l. imports_in old + length (filter is_imported l)) g.marked))

-- a list that grew by no landmark
pub no_imports : {w : ComponentWorld} {old new : List Def} → Grows w old new [] → imports_in new ≡ imports_in old
no_imports {w} {old} {new} g = grown_imports g ∙ add-zero (imports_in old)

types_counted : (ts : List (List ℕ × TypeId)) → length (filter is_imported (map (λ t. Imported (root_type t.0)) ts)) ≡ length ts
types_counted [] = refl
types_counted (t ∷ ts) = ap suc (types_counted ts)

-- after the types of the world, as many imports are there
pub types_imported : (w : ComponentWorld) (old new : List Def) → imports_in old ≡ length (interface_entries w) → Grows w old new (map (λ t. Imported (root_type t.0)) (imported_types w)) → imports_in new ≡ first_imports w
types_imported w old new none g =
    let more = grown_imports g in
    let count = types_counted (imported_types w) in
    omega (arith, none, more, count)

all_imported : (names : List (List ℕ)) → length (filter is_imported (map named_import names)) ≡ length names
all_imported [] = refl
all_imported (n ∷ ns) = ap suc (all_imported ns)

-- the used ones of more names
used_more : (w : ComponentWorld) (names more : List (List ℕ)) → length (filter (is_used w) names) + length (filter is_imported (names_marked w more)) ≡ length (filter (is_used w) (names ++ more))
used_more w names more =
    ap (λ n. length (filter (is_used w) names) + n) (all_imported (filter (is_used w) more))
    ∙ sym (ap (λ (l : List (List ℕ)). length l) (filter-append (is_used w) names more) ∙ length-append (filter (is_used w) names) (filter (is_used w) more))

-- the next used one
next_in : (p : List ℕ → Bool) (xs ys : List (List ℕ)) (t : List ℕ) → p t ≡ true → slice_get (filter p (xs ++ t ∷ ys)) (length (filter p xs)) ≡ Some t
next_in p xs ys t e =
    let one : filter p (t ∷ ys) ≡ t ∷ filter p ys = rw e refl in
    let all : filter p (xs ++ t ∷ ys) ≡ (filter p xs ++ t ∷ []) ++ filter p ys =
    filter-append p xs (t ∷ ys) ∙ (ap (λ l. filter p xs ++ l) one ∙ sym (append_assoc (filter p xs) (t ∷ []) (filter p ys))) in
    ap (λ l. slice_get l (length (filter p xs))) all ∙ slice_get-append (filter p xs ++ t ∷ []) (filter p ys) (length (filter p xs)) t (slice_get-end (filter p xs) t)

-- ---- the loop

-- the items of the world that were passed so far, and what was made for them
pub record ImportsSoFar (w : ComponentWorld) (old new : Built) (functions : List (List ℕ × ℕ)) (rest : List (WorldKey × WorldItem)) : Type 0 where
  pub done : List (WorldKey × WorldItem)
  pub split : done ++ rest ≡ (items_of w).imports
  pub extends : Extends old new
  pub grows : Grows w old.defs new.defs (names_marked w (flat_map root_function done))
  pub count : imports_in new.defs ≡ first_imports w + length (filter (is_used w) (flat_map root_function done))
  pub imports : FindsImports w new.defs functions
  pub finds : AllByRecursion (λ t. IsTrue (is_used w t) → IsSome (found t functions)) (flat_map root_function done)

pub imports_start : (w : ComponentWorld) (old : Built) → imports_in old.defs ≡ first_imports w → ImportsSoFar w old old [] (items_of w).imports
imports_start w old types = record {
  done = [];
  split = refl;
  extends = extends_none old;
  grows = Grows-none w old.defs;
  count = types ∙ sym (add-zero (first_imports w));
  imports = record { each = λ t i e. cc };
  finds = tt;
}

used_push : (w : ComponentWorld) (names more : List (List ℕ)) → names_marked w (names ++ more) ≡ names_marked w names ++ names_marked w more
used_push w [] more = refl
used_push w (n ∷ ns) more = by (is_used w n) (used_push w ns more)
  where
    by : (b : Bool) → names_marked w (ns ++ more) ≡ names_marked w ns ++ names_marked w more →
        map named_import (if b then n ∷ filter (is_used w) (ns ++ more) else filter (is_used w) (ns ++ more))
        ≡ map named_import (if b then n ∷ filter (is_used w) ns else filter (is_used w) ns) ++ names_marked w more
    by true h = ap (λ l. named_import n ∷ l) h
    by false h = h

functions_push : (done : List (WorldKey × WorldItem)) (e : WorldKey × WorldItem) → flat_map root_function (done ++ e ∷ []) ≡ flat_map root_function done ++ root_function e
functions_push done e = flat_map-append root_function done (e ∷ []) ∙ ap (λ l. flat_map root_function done ++ l) (append-nil (root_function e))

marked_push : (w : ComponentWorld) (done : List (WorldKey × WorldItem)) (e : WorldKey × WorldItem) →
    names_marked w (flat_map root_function (done ++ e ∷ [])) ≡ names_marked w (flat_map root_function done) ++ names_marked w (root_function e)
marked_push w done e = ap (names_marked w) (functions_push done e) ∙ used_push w (flat_map root_function done) (root_function e)

finds_push : (done : List (WorldKey × WorldItem)) (e : WorldKey × WorldItem) (P : List ℕ → Type 0) →
    AllByRecursion P (flat_map root_function done) → AllByRecursion P (root_function e) → AllByRecursion P (flat_map root_function (done ++ e ∷ []))
finds_push done e P h k = subst (λ ns. AllByRecursion P ns) (sym (functions_push done e)) (all_both P (flat_map root_function done) (root_function e) h k)

-- one more item, whose function was imported where it is used
pub imports_step : (w : ComponentWorld) (old mid new : Built) (before after : List (List ℕ × ℕ)) (e : WorldKey × WorldItem) (rest : List (WorldKey × WorldItem)) → ImportsSoFar w old mid before (e ∷ rest) →
    Extends mid new → Grows w mid.defs new.defs (names_marked w (root_function e)) → FindsImports w new.defs after → FindsMore before after →
    AllByRecursion (λ t. IsTrue (is_used w t) → IsSome (found t after)) (root_function e) → ImportsSoFar w old new after rest
imports_step w old mid new before after e rest h extends grows imports more here = record {
  done = h.done ++ e ∷ [];
  split = append_assoc h.done (e ∷ []) rest ∙ h.split;
  extends = extends_then old mid new h.extends extends;
  grows = subst (λ m. Grows w old.defs new.defs m) (sym (marked_push w h.done e)) (Grows-then h.grows grows);
  count =
      let more = grown_imports grows in
      let before = h.count in
      let used = used_more w (flat_map root_function h.done) (root_function e) in
      let all = ap (λ l. length (filter (is_used w) l)) (functions_push h.done e) in
      omega (arith, more, before, used, all);
  imports = imports;
  finds =
      finds_push h.done e (λ t. IsTrue (is_used w t) → IsSome (found t after)) (AllByRecursion-weaker (λ t k u. more.each t (k u)) (flat_map root_function h.done) h.finds) here;
}

-- the entry of a used function, by how many are before it
entry_at : (ts : List ImportEntry) (names : List (List ℕ)) (n : ℕ) (t : List ℕ) → slice_get names n ≡ Some t → slice_get (ts ++ map RootFunction names) (length ts + n) ≡ Some (RootFunction t)
entry_at [] names n t h = subst (λ k. slice_get (map RootFunction names) k ≡ Some (RootFunction t)) (zero_more n) (slice_get-map RootFunction names n ∙ ap (option_map RootFunction) h)
  where
    zero_more : (k : ℕ) → k ≡ 0 + k
    zero_more k = omega arith
entry_at (x ∷ ts) names n t h = subst (λ k. slice_get (x ∷ (ts ++ map RootFunction names)) k ≡ Some (RootFunction t)) (one_more (length ts)) (entry_at ts names n t h)
  where
    one_more : (k : ℕ) → suc (k + n) ≡ suc k + n
    one_more k = omega arith

-- the imports before the functions at the root
abbrev first_entries : ComponentWorld → List ImportEntry
first_entries w = interface_entries w ++ map (λ (t : List ℕ × TypeId). WorldType t.0 t.1) (imported_types w)

entries_split : (w : ComponentWorld) → import_entries w ≡ first_entries w ++ map RootFunction (used_functions w)
entries_split w = sym (append_assoc (interface_entries w) (map (λ (t : List ℕ × TypeId). WorldType t.0 t.1) (imported_types w)) (map RootFunction (used_functions w)))

length_first : (w : ComponentWorld) → length (first_entries w) ≡ first_imports w
length_first w =
    length-append (interface_entries w) (map (λ (t : List ℕ × TypeId). WorldType t.0 t.1) (imported_types w))
    ∙ ap (λ n. length (interface_entries w) + n) (length-map (imported_types w) (λ (t : List ℕ × TypeId). WorldType t.0 t.1))

-- the function of the next item, where it is used, is the next one that is imported
pub next_item : (w : ComponentWorld) (old mid : Built) (functions : List (List ℕ × ℕ)) (e : WorldKey × WorldItem) (rest : List (WorldKey × WorldItem)) → IsEncodable w → IsDistinct is_same_key (keys_of (items_of w).imports) → ImportsSoFar w old mid functions (e ∷ rest) →
    IsNextItem w mid.defs e
next_item w old mid functions (keys.Interface id, item) rest ok apart h = tt
next_item w old mid functions (keys.Name text, world_items.Interface id) rest ok apart h = tt
next_item w old mid functions (keys.Name text, world_items.NamedType id) rest ok apart h = tt
next_item w old mid functions (keys.Name text, world_items.Function f) rest ok apart h = (
  record {
    of = ap (λ es. root_function_at es (keys.Name text)) (sym h.split) ∙ function_found h.done rest text f (subst (λ es. IsDistinct is_same_key (keys_of es)) (sym h.split) apart);
    number = λ used.
        let here : flat_map root_function h.done ++ text ∷ flat_map root_function rest ≡ imported_functions w =
        sym (flat_map-append root_function h.done ((keys.Name text, world_items.Function f) ∷ rest)) ∙ ap (flat_map root_function) h.split in
        let next : slice_get (used_functions w) (length (filter (is_used w) (flat_map root_function h.done))) ≡ Some text =
        ap (λ l. slice_get (filter (is_used w) l) (length (filter (is_used w) (flat_map root_function h.done)))) (sym here) ∙ next_in (is_used w) (flat_map root_function h.done) (flat_map root_function rest) text used in
        ap₂ (λ es n. slice_get es n) (entries_split w) (h.count ∙ ap (λ n. n + length (filter (is_used w) (flat_map root_function h.done))) (sym (length_first w)))
        ∙ entry_at (first_entries w) (used_functions w) (length (filter (is_used w) (flat_map root_function h.done))) text next;
  },
  (entry_sound w ok h.done rest (keys.Name text, world_items.Function f) h.split).1,
)

-- no item is left
pub imports_marks : (w : ComponentWorld) (old new : Built) (functions : List (List ℕ × ℕ)) → ImportsSoFar w old new functions [] → Grows w old.defs new.defs (map named_import (used_functions w))
imports_marks w old new functions h =
    let all : h.done ≡ (items_of w).imports = sym (append-nil h.done) ∙ h.split in
    subst (λ es. Grows w old.defs new.defs (names_marked w (flat_map root_function es))) all h.grows

pub imports_found : (w : ComponentWorld) (old new : Built) (functions : List (List ℕ × ℕ)) → IsEncodable w → ImportsSoFar w old new functions [] → FindsUsed w functions
imports_found w old new functions valid h = record {
  each = λ t u.
      let all : h.done ≡ (items_of w).imports = sym (append-nil h.done) ∙ h.split in
      let P : List ℕ → Type 0 = λ t. IsTrue (is_used w t) → IsSome (found t functions) in
      let finds : AllByRecursion P (flat_map root_function (items_of w).imports) = subst (λ es. AllByRecursion P (flat_map root_function es)) all h.finds in
      AllByRecursion-contains P (flat_map root_function (items_of w).imports) t finds (used_is_imported w valid t u) u;
}

-- ---- the loop over types

-- the numbers of types
abbrev indexes : List (List ℕ × TypeId) → List ℕ
indexes ts = map (λ t. t.1.index) ts

-- the items of the world that were passed so far, and the imports of their types: those are below
-- `next`, and those that are left aren't
pub record TypesSoFar (w : ComponentWorld) (old new : Built) (next : ℕ) (rest : List (WorldKey × WorldItem)) : Type 0 where
  pub done : List (WorldKey × WorldItem)
  pub split : done ++ rest ≡ (items_of w).imports
  pub extends : Extends old new
  pub grows : Grows w old.defs new.defs (map (λ t. Imported (root_type t.0)) (flat_map world_type done))
  pub count : imports_in new.defs ≡ length (interface_entries w) + length (flat_map world_type done)
  pub below : AllByRecursion (λ t. t.1.index < next) (flat_map world_type done)
  pub ahead : AscendFrom next (indexes (flat_map world_type rest))

pub types_start : (w : ComponentWorld) (old : Built) (next : ℕ) → IsEncodable w → imports_in old.defs ≡ length (interface_entries w) → next ≡ 0 → TypesSoFar w old old next (items_of w).imports
types_start w old next ok none zero = record {
  done = [];
  split = refl;
  extends = extends_none old;
  grows = Grows-none w old.defs;
  count = none ∙ sym (add-zero (length (interface_entries w)));
  below = tt;
  ahead = subst (λ n. AscendFrom n (indexes (imported_types w))) (sym zero) ok.resources.ordered;
}

-- behind an item
below_more : (next next' : ℕ) (ts : List (List ℕ × TypeId)) → next ≤ next' → AllByRecursion (λ t. t.1.index < next) ts → AllByRecursion (λ t. t.1.index < next') ts
below_more next next' ts l h = AllByRecursion-weaker (λ t k. omega (arith, l, k)) ts h

below_step : (next : ℕ) (done : List (WorldKey × WorldItem)) (e : WorldKey × WorldItem) (rest : List (WorldKey × WorldItem)) → AllByRecursion (λ t. t.1.index < next) (flat_map world_type done) → AscendFrom next (indexes (world_type e ++ flat_map world_type rest)) →
    AllByRecursion (λ t. t.1.index < next_after next e) (flat_map world_type done ++ world_type e) × AscendFrom (next_after next e) (indexes (flat_map world_type rest))
below_step next done (keys.Name text, world_items.NamedType id) rest h ahead = (
  all_both (λ (t : List ℕ × TypeId). t.1.index < suc id.index) (flat_map world_type done) ((text, id) ∷ []) (below_more next (suc id.index) (flat_map world_type done) (let l = ahead.0 in omega (arith, l)) h) (omega arith, tt),
  ahead.1,
)
below_step next done (keys.Name text, world_items.Function f) rest h ahead = (subst (λ ts. AllByRecursion (λ (t : List ℕ × TypeId). t.1.index < next) ts) (sym (append-nil (flat_map world_type done))) h, ahead)
below_step next done (keys.Name text, world_items.Interface id) rest h ahead = (subst (λ ts. AllByRecursion (λ (t : List ℕ × TypeId). t.1.index < next) ts) (sym (append-nil (flat_map world_type done))) h, ahead)
below_step next done (keys.Interface other, item) rest h ahead = (subst (λ ts. AllByRecursion (λ (t : List ℕ × TypeId). t.1.index < next) ts) (sym (append-nil (flat_map world_type done))) h, ahead)

types_push : (done : List (WorldKey × WorldItem)) (e : WorldKey × WorldItem) → flat_map world_type (done ++ e ∷ []) ≡ flat_map world_type done ++ world_type e
types_push done e = flat_map-append world_type done (e ∷ []) ∙ ap (λ l. flat_map world_type done ++ l) (append-nil (world_type e))

pub types_step : (w : ComponentWorld) (old mid new : Built) (next after : ℕ) (e : WorldKey × WorldItem) (rest : List (WorldKey × WorldItem)) → TypesSoFar w old mid next (e ∷ rest) → Extends mid new →
    Grows w mid.defs new.defs (map (λ t. Imported (root_type t.0)) (world_type e)) → after ≡ next_after next e → TypesSoFar w old new after rest
types_step w old mid new next after e rest h extends grows is =
    let types : flat_map world_type (h.done ++ e ∷ []) ≡ flat_map world_type h.done ++ world_type e = types_push h.done e in
    let both = below_step next h.done e rest h.below h.ahead in
    record {
      done = h.done ++ e ∷ [];
      split = append_assoc h.done (e ∷ []) rest ∙ h.split;
      extends = extends_then old mid new h.extends extends;
      grows =
          let marks : map (λ (t : List ℕ × TypeId). Imported (root_type t.0)) (flat_map world_type (h.done ++ e ∷ [])) ≡ map (λ (t : List ℕ × TypeId). Imported (root_type t.0)) (flat_map world_type h.done) ++ map (λ (t : List ℕ × TypeId). Imported (root_type t.0)) (world_type e) =
          ap (map (λ (t : List ℕ × TypeId). Imported (root_type t.0))) types ∙ map-append (λ (t : List ℕ × TypeId). Imported (root_type t.0)) (flat_map world_type h.done) (world_type e) in
          subst (λ m. Grows w old.defs new.defs m) (sym marks) (Grows-then h.grows grows);
      count =
          let more = grown_imports grows in
          let marked = types_counted (world_type e) in
          let before = h.count in
          let all = ap length types ∙ length-append (flat_map world_type h.done) (world_type e) in
          omega (arith, more, marked, before, all);
      below = subst (λ n. AllByRecursion (λ (t : List ℕ × TypeId). t.1.index < n) (flat_map world_type (h.done ++ e ∷ []))) (sym is)
          (subst (λ ts. AllByRecursion (λ (t : List ℕ × TypeId). t.1.index < next_after next e) ts) (sym types) both.0);
      ahead = subst (λ n. AscendFrom n (indexes (flat_map world_type rest))) (sym is) both.1;
    }

-- a number among those that ascend is not below the first
least : (k n : ℕ) (ns : List ℕ) → AscendFrom k ns → Contains ns n → k ≤ n
least k n [] h c = contains_none n c
least k n (m ∷ ms) h c = elim (contains_cons m ms n c) [
  | inl same ↦ (let l = h.0 in omega (arith, l, same))
  | inr later ↦ (let l = h.0 in let m' = least (suc m) n ms h.1 later in omega (arith, l, m'))
]

-- the number of a type behind smaller ones
number_behind : (ts more : List (List ℕ × TypeId)) (entries : List ImportEntry) (name : List ℕ) (id : TypeId) (next : ℕ) → AllByRecursion (λ t. t.1.index < next) ts → next ≤ id.index →
    number_of_type id (map (λ t. WorldType t.0 t.1) (ts ++ (name, id) ∷ more) ++ entries) ≡ length ts
number_behind [] more entries name id next h l = ap (λ b. if b then 0 else suc (number_of_type id (map (λ (t : List ℕ × TypeId). WorldType t.0 t.1) more ++ entries))) ((Decides-eqb id.index id.index).1 refl)
number_behind (t ∷ ts) more entries name id next h l = by (id.index == t.1.index) refl (number_behind ts more entries name id next h.1 l)
  where
    rest : ℕ
    rest = number_of_type id (map (λ (t : List ℕ × TypeId). WorldType t.0 t.1) (ts ++ (name, id) ∷ more) ++ entries)

    by : (b : Bool) → (id.index == t.1.index) ≡ b → rest ≡ length ts → (if id.index == t.1.index then 0 else suc rest) ≡ suc (length ts)
    by true e more = let same = (Decides-eqb id.index t.1.index).0 e in let small = h.0 in absurd (omega (arith, same, small, l))
    by false e more = ap (λ b. if b then 0 else suc rest) e ∙ ap suc more

-- interfaces have no number among the types
behind_names : (id : TypeId) (names : List (List ℕ)) (key : WorldKey) (i : InterfaceId) (rest : List ImportEntry) →
    number_of_type id (unless_empty names (ImportedInterface key i) ++ rest) ≡ length (unless_empty names (ImportedInterface key i)) + number_of_type id rest
behind_names id [] key i rest = sym (zero-add (number_of_type id rest))
behind_names id (name ∷ names) key i rest = let n : suc (number_of_type id rest) ≡ 1 + number_of_type id rest = omega arith in n

behind_entry : (w : ComponentWorld) (id : TypeId) (e : WorldKey × WorldItem) (rest : List ImportEntry) → number_of_type id (interface_entry w e ++ rest) ≡ length (interface_entry w e) + number_of_type id rest
behind_entry w id (key, world_items.Interface i) rest = behind_names id (names_of_interface w i) key i rest
behind_entry w id (key, world_items.Function f) rest = sym (zero-add (number_of_type id rest))
behind_entry w id (key, world_items.NamedType t) rest = sym (zero-add (number_of_type id rest))

behind_interfaces : (w : ComponentWorld) (id : TypeId) (es : List (WorldKey × WorldItem)) (rest : List ImportEntry) →
    number_of_type id (flat_map (interface_entry w) es ++ rest) ≡ length (flat_map (interface_entry w) es) + number_of_type id rest
behind_interfaces w id [] rest = sym (zero-add (number_of_type id rest))
behind_interfaces w id (e ∷ es) rest =
    let split = ap (number_of_type id) (append_assoc (interface_entry w e) (flat_map (interface_entry w) es) rest) in
    let one = behind_entry w id e (flat_map (interface_entry w) es ++ rest) in
    let more = behind_interfaces w id es rest in
    let all = length-append (interface_entry w e) (flat_map (interface_entry w) es) in
    omega (arith, split, one, more, all)

-- an entry behind the interfaces
entry_behind : (xs ys : List ImportEntry) (n : ℕ) (e : ImportEntry) → slice_get ys n ≡ Some e → slice_get (xs ++ ys) (length xs + n) ≡ Some e
entry_behind [] ys n e h = subst (λ k. slice_get ys k ≡ Some e) (sym (zero-add n)) h
entry_behind (x ∷ xs) ys n e h = let k : suc (length xs + n) ≡ suc (length xs) + n = omega arith in subst (λ k. slice_get (x ∷ (xs ++ ys)) k ≡ Some e) k (entry_behind xs ys n e h)

-- the type of the next item is the next import
pub next_type : (w : ComponentWorld) (old mid : Built) (next : ℕ) (e : WorldKey × WorldItem) (rest : List (WorldKey × WorldItem)) → TypesSoFar w old mid next (e ∷ rest) → IsNextType w next mid.defs e
next_type w old mid next (keys.Interface id, item) rest h = tt
next_type w old mid next (keys.Name text, world_items.Interface id) rest h = tt
next_type w old mid next (keys.Name text, world_items.Function f) rest h = tt
next_type w old mid next (keys.Name text, world_items.NamedType id) rest h =
    let done = flat_map world_type h.done in
    let more = flat_map world_type rest in
    let all : imported_types w ≡ done ++ (text, id) ∷ more =
    ap (flat_map world_type) (sym h.split) ∙ flat_map-append world_type h.done ((keys.Name text, world_items.NamedType id) ∷ rest) in
    let there : slice_get (imported_types w) (length done) ≡ Some (text, id) =
    ap (λ l. slice_get l (length done)) (all ∙ sym (append_assoc done ((text, id) ∷ []) more)) ∙ slice_get-append (done ++ (text, id) ∷ []) more (length done) (text, id) (slice_get-end done (text, id)) in
    let entry : slice_get (map (λ (t : List ℕ × TypeId). WorldType t.0 t.1) (imported_types w)) (length done) ≡ Some (WorldType text id) =
    slice_get-map (λ (t : List ℕ × TypeId). WorldType t.0 t.1) (imported_types w) (length done) ∙ ap (option_map (λ (t : List ℕ × TypeId). WorldType t.0 t.1)) there in
    record {
      listed = subst (λ es. Contains es (keys.Name text, world_items.NamedType id)) h.split (Contains-append_right h.done ((keys.Name text, world_items.NamedType id) ∷ rest) (keys.Name text, world_items.NamedType id) (0, omega arith, refl));
      stated = ap (slice_get (import_entries w)) h.count
          ∙ entry_behind (interface_entries w) (map (λ (t : List ℕ × TypeId). WorldType t.0 t.1) (imported_types w) ++ map RootFunction (used_functions w)) (length done) (WorldType text id)
          (slice_get-append (map (λ (t : List ℕ × TypeId). WorldType t.0 t.1) (imported_types w)) (map RootFunction (used_functions w)) (length done) (WorldType text id) entry);
      number = behind_interfaces w id (items_of w).imports (map (λ (t : List ℕ × TypeId). WorldType t.0 t.1) (imported_types w) ++ map RootFunction (used_functions w))
          ∙ (ap (λ n. length (interface_entries w) + n)
          (ap (λ ts. number_of_type id (map (λ (t : List ℕ × TypeId). WorldType t.0 t.1) ts ++ map RootFunction (used_functions w))) all
          ∙ number_behind done more (map RootFunction (used_functions w)) text id next h.below h.ahead.0)
          ∙ sym h.count);
      order = record { earlier = λ n l c. earlier n l (subst (λ ns. Contains ns n) (ap indexes all ∙ map-append (λ (t : List ℕ × TypeId). t.1.index) done ((text, id) ∷ more)) c) };
    }
  where
    earlier : (n : ℕ) → n < id.index → Contains (indexes (flat_map world_type h.done) ++ id.index ∷ indexes (flat_map world_type rest)) n → n < next
    earlier n l c = elim (Contains-append_cases (indexes (flat_map world_type h.done)) (id.index ∷ indexes (flat_map world_type rest)) n c) [
      | inl before ↦ below_next (flat_map world_type h.done) next n h.below before
      | inr later ↦ (let k = least id.index n (id.index ∷ indexes (flat_map world_type rest)) (omega arith, h.ahead.1) later in absurd (omega (arith, k, l)))
    ]

pub types_done : (w : ComponentWorld) (old new : Built) (next : ℕ) → TypesSoFar w old new next [] → Grows w old.defs new.defs (map (λ t. Imported (root_type t.0)) (imported_types w))
types_done w old new next h =
    let all : h.done ≡ (items_of w).imports = sym (append-nil h.done) ∙ h.split in
    subst (λ es. Grows w old.defs new.defs (map (λ (t : List ℕ × TypeId). Imported (root_type t.0)) (flat_map world_type es))) all h.grows

-- and each type of the world is passed
pub types_passed : (w : ComponentWorld) (old new : Built) (met : MetTypes) → TypesSoFar w old new (next_of met.last) [] → ArePassed w met
types_passed w old new met h =
    let all : h.done ≡ (items_of w).imports = sym (append-nil h.done) ∙ h.split in
    subst (λ es. AllByRecursion (λ (t : List ℕ × TypeId). t.1.index < next_of met.last) (flat_map world_type es)) all h.below
