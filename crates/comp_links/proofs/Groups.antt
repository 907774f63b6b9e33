-- The imports of all user modules: those of main, and those of each adapter.
use Rattle.std.proofs.Common.{◌≡◌, ◌∙◌, ◌||◌, ◌++◌, [], ◌∷◌, Bool, true, false, List, ℕ, map, refl, sym, ap}
use Rattle.std.proofs.lemmas.List.Folds.{list_any-append}
use Rattle.std.proofs.lemmas.Grind.{flat_map-append}
use Rattle.std.specs.List.{AllByRecursion, flat_map, list_any}
use Rattle.comp_roles.specs.declared.imports.ImportInstance.{ImportInstance}
use Rattle.comp_roles.specs.CoreImports.{imports_from}
use Rattle.comp_worlds.specs.Uses.{all_imports, imports_of}
use Rattle.comp_worlds.specs.Worlds.{IsWorld, IsImportGroup, IsUserModule}
use Rattle.comp_worlds.specs.declared.world.ComponentWorld.{ComponentWorld}
use Rattle.comp_worlds.specs.declared.world.WorldAdapter.{WorldAdapter}
use Rattle.comp_links.specs.Modules.{WorldModule, adapter_module, import_groups}

abbrev pub adapter_groups : List (List ℕ × WorldAdapter) → List (List ℕ × ImportInstance)
adapter_groups adapters = flat_map (λ (m : WorldModule). m.found.imports.modules) (map adapter_module adapters)

-- one of them passes a test
pub any_group : (w : ComponentWorld) (test : List ℕ × ImportInstance → Bool) → list_any test (import_groups w) ≡ (list_any test w.main.imports.modules || list_any test (adapter_groups w.adapters))
any_group w test = list_any-append test w.main.imports.modules (adapter_groups w.adapters)

pub any_adapter : (test : List ℕ × ImportInstance → Bool) (a : List ℕ × WorldAdapter) (adapters : List (List ℕ × WorldAdapter)) → list_any test (adapter_groups (a ∷ adapters)) ≡ (list_any test a.1.info.imports.modules || list_any test (adapter_groups adapters))
any_adapter test a adapters = list_any-append test a.1.info.imports.modules (adapter_groups adapters)

-- each has the roles that a validated world allows
all_both : {X : Type 0} (P : X → Type 0) (xs ys : List X) → AllByRecursion P xs → AllByRecursion P ys → AllByRecursion P (xs ++ ys)
all_both P [] ys h k = k
all_both P (x ∷ xs) ys h k = (h.0, all_both P xs ys h.1 k)

adapters_right : (w : ComponentWorld) (adapters : List (List ℕ × WorldAdapter)) → AllByRecursion (λ a. IsUserModule w a.1.info a.1.required_exports) adapters → AllByRecursion (IsImportGroup w) (adapter_groups adapters)
adapters_right w [] h = tt
adapters_right w (a ∷ adapters) h = all_both (IsImportGroup w) a.1.info.imports.modules (adapter_groups adapters) h.0.import_roles (adapters_right w adapters h.1)

pub groups_right : (w : ComponentWorld) → IsWorld w → AllByRecursion (IsImportGroup w) (import_groups w)
groups_right w ok = all_both (IsImportGroup w) w.main.imports.modules (adapter_groups w.adapters) ok.main.import_roles (adapters_right w w.adapters ok.adapters)

-- ---- the groups one after the other

pub or_assoc : (a b c : Bool) → ((a || b) || c) ≡ (a || (b || c))
or_assoc true b c = refl
or_assoc false b c = refl

-- those of main were read, and those of the adapters follow
pub after_main : (w : ComponentWorld) (test : List ℕ × ImportInstance → Bool) (now : Bool) → now ≡ list_any test w.main.imports.modules → (now || list_any test (adapter_groups w.adapters)) ≡ list_any test (import_groups w)
after_main w test now e = ap (λ b. b || list_any test (adapter_groups w.adapters)) e ∙ sym (any_group w test)

-- those of one more adapter were read
pub after_adapter : (test : List ℕ × ImportInstance → Bool) (a : List ℕ × WorldAdapter) (rest : List (List ℕ × WorldAdapter)) (old now whole : Bool) → (old || list_any test (adapter_groups (a ∷ rest))) ≡ whole →
    now ≡ (old || list_any test a.1.info.imports.modules) → (now || list_any test (adapter_groups rest)) ≡ whole
after_adapter test a rest old now whole before e =
    ap (λ b. b || list_any test (adapter_groups rest)) e
    ∙ (or_assoc old (list_any test a.1.info.imports.modules) (list_any test (adapter_groups rest))
    ∙ (ap (λ b. old || b) (sym (any_adapter test a rest)) ∙ before))

-- ---- all imports

adapter_imports : (adapters : List (List ℕ × WorldAdapter)) → flat_map imports_from (adapter_groups adapters) ≡ flat_map (λ (a : List ℕ × WorldAdapter). imports_of a.1.info) adapters
adapter_imports [] = refl
adapter_imports (a ∷ adapters) =
    flat_map-append imports_from a.1.info.imports.modules (adapter_groups adapters)
    ∙ ap (λ l. imports_of a.1.info ++ l) (adapter_imports adapters)

-- the imports of these groups are those of all modules
pub grouped_imports : (w : ComponentWorld) → flat_map imports_from (import_groups w) ≡ all_imports w.main w.adapters
grouped_imports w =
    flat_map-append imports_from w.main.imports.modules (adapter_groups w.adapters)
    ∙ ap (λ l. imports_of w.main ++ l) (adapter_imports w.adapters)
