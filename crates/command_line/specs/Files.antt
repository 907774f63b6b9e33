-- The files that are read for a component: MAIN, and then those of the adapters. (The program's own.)
use Rattle.std.specs.Prelude.{◌≡◌, ℕ, List, [], ◌∷◌, ◌++◌, ◌⊎◌, Result, Ok, Err}
use Rattle.fitted_modules.specs.declared.modules.Modules.{Modules}
use Rattle.fitted_modules.specs.declared.modules.NamedModule.{NamedModule}
use Rattle.command_line.specs.Faults.{no_memory}
use Rattle.command_line.specs.declared.adapters.Adapter.{Adapter}
use Rattle.command_line.specs.declared.fault.RunFault.{RunFault}
use Rattle.command_line.specs.declared.fault.RunFault.TheVariants as faults
use Rattle.command_line.specs.declared.store.Event.{Event}
use Rattle.command_line.specs.declared.store.Event.TheVariants.{Read, NotRead}

module _ {V F : Type 0} where
  -- A file is read, and then what its bytes ask for happens. The first case is out of memory before
  -- the file was read.
  abbrev pub AfterRead : List ℕ → (List ℕ → List Event → Result V (RunFault F) → Type 0) → List Event → Result V (RunFault F) → Type 0
  AfterRead file Next [] r = r ≡ Err no_memory
  AfterRead file Next (NotRead name ∷ []) r = (name ≡ file) × (r ≡ Err (faults.Read file))
  AfterRead file Next (Read name bytes ∷ es) r = (name ≡ file) × Next bytes es r
  AfterRead file Next _ r = ⊥

module _ {F : Type 0} where
  -- The adapters are read one after the other, each once, behind those that were read before. What
  -- was read is MAIN and all of them, each under its name; at the end memory may run out, too.
  abbrev pub AdaptersRead : List ℕ → List NamedModule → List Adapter → List Event → Result Modules (RunFault F) → Type 0
  AdaptersRead main read [] es r = (es ≡ []) × ((r ≡ Ok (record { main = main; adapters = read })) ⊎ (r ≡ Err no_memory))
  AdaptersRead main read (a ∷ rest) es r =
      AfterRead a.file (λ bytes more ended. AdaptersRead main (read ++ record { name = a.name; bytes = bytes } ∷ []) rest more ended) es r

  -- MAIN is read, once, and then the adapters.
  abbrev pub FilesRead : List ℕ → List Adapter → List Event → Result Modules (RunFault F) → Type 0
  FilesRead main adapters es r = AfterRead main (λ bytes more ended. AdaptersRead bytes [] adapters more ended) es r

module _ {U V F : Type 0} where
  -- These events are the beginning of a run: where they led to a value, whatever the rest makes of
  -- it is the rest of such a run; where they led to a fault, the run is over.
  abbrev pub Leads : (List Event → Result V (RunFault F) → Type 0) → (U → List Event → Result V (RunFault F) → Type 0) → List Event → Result U (RunFault F) → Type 0
  Leads Whole Rest es (Ok u) = (more : List Event) (r : Result V (RunFault F)) → Rest u more r → Whole (es ++ more) r
  Leads Whole Rest es (Err f) = Whole es (Err f)
