-- All imports of a component, and how many they are: interfaces, then types, then functions.
use Rattle.std.proofs.Common.{◌≡◌, ◌∙◌, suc, length, arith, ℕ, List, [], ◌∷◌, ◌++◌, refl, sym, ap, subst, map, filter}
use Rattle.std.specs.List.{flat_map}
use Rattle.std.proofs.lemmas.Grind.{flat_map-append}
use Rattle.comp_bytes.specs.declared.def.Def.{Def}
use Rattle.wit_data.specs.declared.ids.TypeId.{TypeId}
use Rattle.wit_data.specs.declared.worlds.WorldKey.{WorldKey}
use Rattle.wit_data.specs.declared.worlds.WorldItem.{WorldItem}
use Rattle.wit_data.specs.declared.worlds.WorldItem.TheVariants as world_items
use Rattle.comp_worlds.specs.WorldContents.{items_of, imported_types}
use Rattle.comp_worlds.specs.declared.world.ComponentWorld.{ComponentWorld}
use Rattle.comp_links.specs.Naming.{Naming}
use Rattle.comp_links.specs.Lists.{ImportedInterface, WorldType, RootFunction, interface_entries, interface_entry, unless_empty, names_of_interface, root_type}
use Rattle.comp_imports.specs.Interfaces.{interfaces_marked}
use Rattle.comp_links.specs.Roles.{used_functions}
use Rattle.comp_terms.specs.Terms.{imports_in}
use Rattle.comp_terms.specs.Rules.{Grows, Imported, named_import, import_marked, imports_marked}
use Rattle.root_imports.specs.Growing.{Grows-then}
use Rattle.root_imports.proofs.Importing.{is_imported, grown_imports}

-- after the interfaces, as many imports are there
entries_counted : (n : Naming) (w : ComponentWorld) (es : List (WorldKey × WorldItem)) → length (filter is_imported (flat_map (import_marked n w) (flat_map (interface_entry w) es))) ≡ length (flat_map (interface_entry w) es)
entries_counted n w [] = refl
entries_counted n w ((key, world_items.Interface id) ∷ es) = by (names_of_interface w id) (entries_counted n w es)
  where
    by : (names : List (List ℕ)) → length (filter is_imported (flat_map (import_marked n w) (flat_map (interface_entry w) es))) ≡ length (flat_map (interface_entry w) es) →
        length (filter is_imported (flat_map (import_marked n w) (unless_empty names (ImportedInterface key id) ++ flat_map (interface_entry w) es))) ≡ length (unless_empty names (ImportedInterface key id) ++ flat_map (interface_entry w) es)
    by [] h = h
    by (name ∷ names) h = ap suc h
entries_counted n w ((key, world_items.Function f) ∷ es) = entries_counted n w es
entries_counted n w ((key, world_items.NamedType id) ∷ es) = entries_counted n w es

pub interfaces_counted_of : (n : Naming) (w : ComponentWorld) (old new : List Def) (es : List (WorldKey × WorldItem)) → imports_in old ≡ 0 → Grows w old new (flat_map (import_marked n w) (flat_map (interface_entry w) es)) →
    imports_in new ≡ length (flat_map (interface_entry w) es)
interfaces_counted_of n w old new es none g =
    let more = grown_imports g in
    let count = entries_counted n w es in
    omega (arith, none, more, count)

pub interfaces_counted : (n : Naming) (w : ComponentWorld) (old new : List Def) → imports_in old ≡ 0 → Grows w old new (interfaces_marked n w) → imports_in new ≡ length (interface_entries w)
interfaces_counted n w old new none g = interfaces_counted_of n w old new (items_of w).imports none g

-- the interfaces, the types and the functions are all imports that the world states
all_marked : (n : Naming) (w : ComponentWorld) → interfaces_marked n w ++ (map (λ t. Imported (root_type t.0)) (imported_types w) ++ map named_import (used_functions w)) ≡ imports_marked n w
all_marked n w =
    sym (flat_map-append (import_marked n w) (interface_entries w) (map (λ (t : List ℕ × TypeId). WorldType t.0 t.1) (imported_types w) ++ map RootFunction (used_functions w))
    ∙ ap (λ l. interfaces_marked n w ++ l) (both (imported_types w) (used_functions w)))
  where
    functions : (fs : List (List ℕ)) → flat_map (import_marked n w) (map RootFunction fs) ≡ map named_import fs
    functions [] = refl
    functions (f ∷ fs) = ap (λ l. named_import f ∷ l) (functions fs)

    both : (ts : List (List ℕ × TypeId)) (fs : List (List ℕ)) → flat_map (import_marked n w) (map (λ t. WorldType t.0 t.1) ts ++ map RootFunction fs) ≡ map (λ t. Imported (root_type t.0)) ts ++ map named_import fs
    both [] fs = functions fs
    both (t ∷ ts) fs = ap (λ l. Imported (root_type t.0) ∷ l) (both ts fs)

pub imports_made : (n : Naming) {w : ComponentWorld} {a b c d : List Def} → Grows w a b (interfaces_marked n w) → Grows w b c (map (λ t. Imported (root_type t.0)) (imported_types w)) → Grows w c d (map named_import (used_functions w)) → Grows w a d (imports_marked n w)
imports_made n {w} {a} {b} {c} {d} g h k = subst (λ m. Grows w a d m) (all_marked n w) (Grows-then g (Grows-then h k))
