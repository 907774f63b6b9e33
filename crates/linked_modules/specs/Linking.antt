-- What the modules of a world give to each other: main its memory and its exports, adapters their
-- functions, and both what arguments of libraries name. (Which module may import which is this
-- project's own.)
use Rattle.std.specs.Prelude.{ℕ, List, [], ◌∷◌, Result, Ok, ⊤}
use Rattle.comp_lists.specs.Found.{found}
use Rattle.comp_roles.specs.CoreImports.{CoreImport}
use Rattle.comp_roles.specs.declared.imports.ImportInstance.{ImportInstance}
use Rattle.comp_roles.specs.declared.offered.ImportType.{ImportType}
use Rattle.comp_worlds.specs.Uses.{imports_of}
use Rattle.comp_worlds.specs.declared.world.ValidatedModule.{ValidatedModule}
use Rattle.comp_worlds.specs.declared.world.WorldAdapter.{WorldAdapter}
use Rattle.comp_worlds.specs.declared.world.WorldParts.{WorldParts}
use Rattle.record_faults.specs.declared.fault.Failure.{Failure}
use Rattle.record_faults.specs.Faults.{◌>>=◌}
use Rattle.record_imports.specs.Memories.{memories_fit}
use Rattle.linked_modules.specs.Giving.{importer_of, role_given, matching_given}
use Rattle.linked_modules.specs.declared.giving.Importer.{Importer}
use Rattle.linked_modules.specs.declared.giving.Importer.TheVariants as importers

-- each of these passes a check; the refusal is that of the first that doesn't
abbrev pub each_passes : {X : Type 0} → (X → Result ⊤ Failure) → List X → Result ⊤ Failure
each_passes check [] = Ok tt
each_passes check (x ∷ xs) = check x >>= λ _. each_passes check xs

-- an import is given what its role names
abbrev pub import_given : Importer → ValidatedModule → List (List ℕ × WorldAdapter) → CoreImport → Result ⊤ Failure
import_given importer main adapters i = role_given importer main adapters i.module_name i.field i.role

-- and that matches its type
abbrev pub typed_given : Importer → ValidatedModule → List (List ℕ × WorldAdapter) → List (List ℕ × ImportInstance) → ImportType → Result ⊤ Failure
typed_given importer main adapters modules i = matching_given importer main adapters i (found i.module_name modules)

-- all imports of a module are given what they ask for
abbrev pub module_given : Importer → ValidatedModule → List (List ℕ × WorldAdapter) → ValidatedModule → Result ⊤ Failure
module_given importer main adapters m = do
  _ ← each_passes (import_given importer main adapters) (imports_of m)
  each_passes (typed_given importer main adapters m.imports.modules) m.imported

abbrev pub adapter_given : ValidatedModule → List (List ℕ × WorldAdapter) → List ℕ × WorldAdapter → Result ⊤ Failure
adapter_given main adapters a = module_given (importer_of a.1.library_info) main adapters a.1.info

-- the imports of main, and then those of the adapters in order; where main imports its memory
-- several times, the first import gives it
unfoldable pub links_pass : WorldParts → Result ⊤ Failure
links_pass p = do
  _ ← memories_fit p.main.imports.modules
  _ ← module_given importers.Main p.main p.adapters p.main
  each_passes (adapter_given p.main p.adapters) p.adapters
