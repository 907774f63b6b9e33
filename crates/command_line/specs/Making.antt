-- From files to a file: what is read, what is put, and when neither. (The program's own. What becomes
-- of the modules that were read is said by `fitted_modules`, and that the bytes are the component of
-- these by the encoder's definitions.)
use Rattle.std.specs.Prelude.{◌≡◌, ◌≤◌, ◌^◌, ℕ, not, List, [], ◌∷◌, ◌++◌, ⊤, ◌⊎◌, None, Result, Ok, Err}
use Rattle.std.specs.Result.{IsErrAnd}
use Rattle.comp_worlds.specs.declared.lower.Lower as lower
use Rattle.comp_encoder.specs.Encoder.{Encoder}
use Rattle.comp_encoder.specs.Calls.{fresh, validating, naming_generated, merging_versions, emitting_canonical_names, after_module, after_adapter}
use Rattle.comp_encoder.specs.Adapters.{NoAdapterCause, IsAdapterRefusal}
use Rattle.comp_encoder.specs.Refusals.{ModuleCause, IsModuleRefusal, NoEncodeCause, IsEncodeRefusal}
use Rattle.comp_encoder.specs.Component.{IsEncoding}
use Rattle.comp_encoder.specs.declared.fault.EncodeFault.{EncodeFault}
use Rattle.fitted_modules.specs.Modules.{fitted_modules}
use Rattle.fitted_modules.specs.declared.fault.ModulesFault.TheVariants as fits
use Rattle.fitted_modules.specs.declared.modules.Modules.{Modules}
use Rattle.fitted_modules.specs.declared.modules.NamedModule.{NamedModule}
use Rattle.command_line.specs.Faults.{no_memory}
use Rattle.command_line.specs.Files.{FilesRead}
use Rattle.command_line.specs.declared.adapters.Adapter.{Adapter}
use Rattle.command_line.specs.declared.arguments.Arguments.{Arguments}
use Rattle.command_line.specs.declared.flags.Flags.{Flags}
use Rattle.command_line.specs.declared.fault.RunFault.{RunFault}
use Rattle.command_line.specs.declared.fault.RunFault.TheVariants as faults
use Rattle.command_line.specs.declared.store.Event.{Event}
use Rattle.command_line.specs.declared.store.Event.TheVariants.{Put, NotPut}

-- ---- steps that may fail

-- One step and then the other: what the first one made is what the second begins with, and a fault
-- of the first one is the fault.
abbrev pub Then : {A B E : Type 0} → (A → Result B E → Type 0) → Result A E → Result B E → Type 0
Then Next (Ok a) r = Next a r
Then Next (Err e) r = r ≡ Err e

module _ {A B E : Type 0} where
  -- A step was taken: what is made of the rest is made of the whole; or the step failed, and so the
  -- whole.
  abbrev pub Continues : (Result B E → Type 0) → (Result B E → Type 0) → Result A E → Type 0
  Continues Whole Rest (Ok a) = (r : Result B E) → Rest r → Whole r
  Continues Whole Rest (Err e) = Whole (Err e)

-- ---- fitting

-- The fault of modules that can't be fitted: out of memory, or its cause.
abbrev pub IsFitFault : {F : Type 0} → Modules → RunFault F → Type 0
IsFitFault m (faults.Fit fits.Memory) = ⊥
IsFitFault m (faults.Fit (fits.TooMany n)) = 2 ^ 32 ≤ n
IsFitFault m (faults.Fit (fits.Main r)) = fitted_modules m.main m.adapters ≡ Err (fits.Main r)
IsFitFault m (faults.Fit (fits.Adapter name r)) = fitted_modules m.main m.adapters ≡ Err (fits.Adapter name r)
IsFitFault m f = f ≡ no_memory

-- Modules as they were read are fitted: `fitted_modules` has what they become.
abbrev pub AreFitted : {F : Type 0} → Modules → Result Modules (RunFault F) → Type 0
AreFitted read (Ok modules) = fitted_modules read.main read.adapters ≡ Ok modules
AreFitted read (Err f) = IsFitFault read f

-- ---- the component

module _ {L B F : Type 0} (l : lower.Ghosts L B F) where
  -- an encoder with the options that the flags ask for, and that was given nothing
  abbrev pub begun : L → Flags → Encoder L B
  begun layer flags =
      emitting_canonical_names l
      (merging_versions l (naming_generated l (validating l (fresh l layer) flags.validate) (not flags.no_names)) (not flags.no_merge)) flags.canonical

  -- the component of all that an encoder was given: it has no cause of a failure, and `encode` returns it
  pub record IsMade (e : Encoder L B) (component : List ℕ) : Type 0 where
    pub clear : NoEncodeCause l e
    pub encoded : IsEncoding l e component

  -- what an encoder makes of all that it was given: the component, or a refusal
  abbrev pub IsEncoded : Encoder L B → Result (List ℕ) (EncodeFault F) → Type 0
  IsEncoded e (Ok component) = IsMade e component
  IsEncoded e (Err f) = IsEncodeRefusal l e f

  -- What it makes when it is given adapters, too, one after the other and each under its name.
  -- Where it refuses one, that is the end.
  abbrev pub AdaptersEncoded : Encoder L B → List NamedModule → Result (List ℕ) (EncodeFault F) → Type 0
  AdaptersEncoded e [] r = IsEncoded e r
  AdaptersEncoded e (a ∷ rest) r =
      IsErrAnd r (IsAdapterRefusal l e a.name a.bytes None)
      ⊎ (NoAdapterCause l e a.name a.bytes None × AdaptersEncoded (after_adapter l e a.name a.bytes None) rest r)

  -- What it makes when it is given the main module, and then the adapters.
  abbrev pub ModulesEncoded : Encoder L B → Modules → Result (List ℕ) (EncodeFault F) → Type 0
  ModulesEncoded e m r =
      IsErrAnd r (IsModuleRefusal l e m.main)
      ⊎ (((f : F) → ¬ ModuleCause l e m.main f) × AdaptersEncoded (after_module l e m.main) m.adapters r)

  -- the same with a refusal as the fault of a run
  abbrev pub Encoded : Encoder L B → Modules → Result (List ℕ) (RunFault F) → Type 0
  Encoded e m (Ok component) = ModulesEncoded e m (Ok component)
  Encoded e m (Err (faults.Encode f)) = ModulesEncoded e m (Err f)
  Encoded e m (Err _) = ⊥

  -- The component of files, or why there is none: MAIN and then the adapters are read, all of these
  -- are fitted, and the encoder is given what they become.
  pub record Composed (e : Encoder L B) (main : List ℕ) (adapters : List Adapter) (es : List Event) (r : Result (List ℕ) (RunFault F)) : Type 0 where
    pub read : Result Modules (RunFault F)
    pub are_read : FilesRead main adapters es read
    pub fitted : Result Modules (RunFault F)
    pub are_fitted : Then AreFitted read fitted
    pub encoded : Then (Encoded e) fitted r

module _ {F : Type 0} where
  -- The component is put, once and last, or there is none and nothing is put. The first case is out
  -- of memory before it was put.
  abbrev pub IsPut : List ℕ → Result (List ℕ) (RunFault F) → List Event → Result ⊤ (RunFault F) → Type 0
  IsPut out (Ok component) [] r = r ≡ Err no_memory
  IsPut out (Ok component) (Put to bytes ∷ []) r = (to ≡ out) × (bytes ≡ component) × (r ≡ Ok tt)
  IsPut out (Ok component) (NotPut to bytes ∷ []) r = (to ≡ out) × (bytes ≡ component) × (r ≡ Err (faults.Write out))
  IsPut out (Ok component) _ r = ⊥
  IsPut out (Err f) es r = (es ≡ []) × (r ≡ Err f)

module _ {L B F : Type 0} (l : lower.Ghosts L B F) where
  -- What was read and put, and how the run ended: MAIN and then the adapters are read, each once,
  -- in the order of the arguments; OUT is put, once and last, where what was read has a component,
  -- which is what is put; nothing else is read or put.
  pub record Made (layer : L) (names : Arguments) (es : List Event) (r : Result ⊤ (RunFault F)) : Type 0 where
    pub reads : List Event
    pub puts : List Event
    pub in_order : es ≡ reads ++ puts
    pub component : Result (List ℕ) (RunFault F)
    pub composed : Composed l (begun l layer names.flags) names.main names.adapters reads component
    pub is_put : IsPut names.out component puts r
