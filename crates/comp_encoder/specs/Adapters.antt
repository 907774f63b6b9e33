-- When an adapter or a library is refused. The rules are this project's own:
-- the component model's standard defines components, and not how they are made.
use Rattle.std.specs.Prelude.{◌≡◌, ℕ, List, Option, Some, None, ⊤}
use Rattle.comp_roles.specs.declared.libraries.LibraryInfo.{LibraryInfo}
use Rattle.comp_worlds.specs.Absent.{absent_argument}
use Rattle.comp_worlds.specs.declared.lower.Lower as lower
use Rattle.world_values.specs.declared.gathered.GatheredAdapter.{GatheredAdapter}
use Rattle.comp_encoder.specs.Encoder.{Encoder}
use Rattle.comp_encoder.specs.Refusals.{ModuleCause, IsModuleRefusal}
use Rattle.comp_encoder.specs.declared.fault.EncodeFault.{EncodeFault}
use Rattle.comp_encoder.specs.declared.fault.EncodeFault.TheVariants.{Memory, Lower, UnknownAdapter}

-- the adapters that were added, by their names, in order
abbrev pub Adapters : Type 0 → Type 0
Adapters B = List (List ℕ × GatheredAdapter B)

-- A refusal of an adapter of this name for the adapters that were added before is out of memory, or
-- has its cause: an argument names one that wasn't added.
abbrev pub IsAddRefusal : {B F : Type 0} → Adapters B → List ℕ → Option LibraryInfo → EncodeFault F → Type 0
IsAddRefusal adapters name info Memory = ⊤
IsAddRefusal adapters name info (UnknownAdapter library unknown) = (library ≡ name) × (absent_argument adapters info ≡ Some unknown)
IsAddRefusal adapters name info fault = ⊥

module _ {L B F : Type 0} (l : lower.Ghosts L B F) where
  -- a refusal of an adapter is out of memory, or has its cause: that of the lower layer, or one of the adapters before
  abbrev pub IsAdapterRefusal : Encoder L B → List ℕ → List ℕ → Option LibraryInfo → EncodeFault F → Type 0
  IsAdapterRefusal e name bytes info (Lower f) = IsModuleRefusal l e bytes (Lower f)
  IsAdapterRefusal e name bytes info fault = IsAddRefusal e.gathered.adapters name info fault

  -- no cause of a refusal of an adapter holds, apart from memory
  pub record NoAdapterCause (e : Encoder L B) (name bytes : List ℕ) (info : Option LibraryInfo) : Type 0 where
    pub accepted : (f : F) → ¬ ModuleCause l e bytes f
    pub known : absent_argument e.gathered.adapters info ≡ None
