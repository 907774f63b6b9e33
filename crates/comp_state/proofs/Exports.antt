-- Before the required exports nothing is exported.
use Rattle.std.proofs.Common.{◌≡◌, ◌∙◌, ◌+◌, arith, ℕ, List, [], ◌∷◌, ◌++◌, append-nil, length, map, Option, Some, None, refl, sym, ap}
use Rattle.std.specs.List.{flat_map, range_with_len}
use Rattle.comp_bytes.specs.declared.def.Def.{Def}
use Rattle.comp_worlds.specs.declared.world.ComponentWorld.{ComponentWorld}
use Rattle.comp_links.specs.Lists.{ImportEntry, ImportedInterface, WorldType, RootFunction, import_entries, provided_resources}
use Rattle.comp_links.specs.Modules.{user_modules}
use Rattle.comp_links.specs.Naming.{Naming}
use Rattle.comp_terms.specs.Exports.{exports_in}
use Rattle.comp_terms.specs.Generated.{GeneratedBytes}
use Rattle.comp_terms.specs.UserBytes.{user_bytes}
use Rattle.comp_terms.specs.Rules.{shims_marked, resources_marked, fixup_marked, Grows, Landmark, ModuleIs, InstanceOf, ResourceDefined, bytes_marked, users_marked, import_marked, imports_marked}
use Rattle.core_instances.specs.Instances.{instances_marked, AddsInstances}
use Rattle.main_exports.proofs.Exporting.{exported_marks, exports_grow}

none_imported : (n : Naming) (w : ComponentWorld) (es : List ImportEntry) → exported_marks (flat_map (import_marked n w) es) ≡ 0
none_imported n w [] = refl
none_imported n w (ImportedInterface key id ∷ es) = none_imported n w es
none_imported n w (WorldType name id ∷ es) = none_imported n w es
none_imported n w (RootFunction name ∷ es) = none_imported n w es

-- resources are no exports
none_defined : {X : Type 0} (resources : List X) (rest : List Landmark) → exported_marks (map (λ r. ResourceDefined) resources ++ rest) ≡ exported_marks rest
none_defined [] rest = refl
none_defined (r ∷ resources) rest = none_defined resources rest

-- instances and modules are none
none_made : (numbers : List ℕ) (rest : List Landmark) → exported_marks (map InstanceOf numbers ++ rest) ≡ exported_marks rest
none_made [] rest = refl
none_made (n ∷ numbers) rest = none_made numbers rest

no_module : (bytes : List (List ℕ)) → exported_marks (map ModuleIs bytes) ≡ 0
no_module [] = refl
no_module (b ∷ bytes) = no_module bytes

no_fixup : (w : ComponentWorld) (o : Option (List ℕ)) → exported_marks (fixup_marked w o) ≡ 0
no_fixup w None = refl
no_fixup w (Some bytes) = refl

none_instantiated : (w : ComponentWorld) (g : GeneratedBytes) → exported_marks (instances_marked w g) ≡ 0
none_instantiated w g = by g.shims
  where
    behind : exported_marks (resources_marked w ++ (users_marked w ++ fixup_marked w g.fixup)) ≡ 0
    behind =
        none_defined (provided_resources w) (users_marked w ++ fixup_marked w g.fixup)
        ∙ (none_made (range_with_len 0 (length (user_modules w))) (fixup_marked w g.fixup) ∙ no_fixup w g.fixup)

    by : (shims : Option (List ℕ)) → exported_marks (shims_marked w shims ++ (resources_marked w ++ (users_marked w ++ fixup_marked w g.fixup))) ≡ 0
    by None = behind
    by (Some bytes) = behind

pub none_exported : (n : Naming) (w : ComponentWorld) (a b c d : List Def) → a ≡ [] → Grows w a b (imports_marked n w) → Grows w b c (bytes_marked n.debug_names w) → AddsInstances w n.debug_names c d → exports_in d ≡ 0
none_exported n w a b c d empty imports main added =
    let first : exports_in a ≡ 0 = ap exports_in empty in
    let imported : exports_in b ≡ exports_in a + exported_marks (imports_marked n w) = exports_grow imports in
    let of_imports : exported_marks (imports_marked n w) ≡ 0 = none_imported n w (import_entries w) in
    let with_users : exports_in c ≡ exports_in b + exported_marks (bytes_marked n.debug_names w) = exports_grow main in
    let of_users : exported_marks (bytes_marked n.debug_names w) ≡ 0 = no_module (user_bytes n.debug_names w) in
    let instantiated : exports_in d ≡ exports_in c + exported_marks (instances_marked w added.generated) = exports_grow added.grows in
    let of_instances : exported_marks (instances_marked w added.generated) ≡ 0 = none_instantiated w added.generated in
    omega (arith, first, imported, of_imports, with_users, of_users, instantiated, of_instances)
