-- Laws of the reference form as modules: the shims' instance, and its globals.
-- This project's own, over the core standard's instantiation.
use Rattle.std.specs.Prelude.{◌≡◌, ℕ, suc, true, ◌+◌, List, [], ◌∷◌, ◌++◌, length, map, Some, slice_get}
use Rattle.core_types.specs.declared.types.ValType.TheVariants.{Ref}
use Rattle.core_types.specs.declared.types.RefType.TheVariants.{Concrete}
use Rattle.core_types.specs.declared.types.FuncType.{FuncType}
use Rattle.core_bytes.specs.declared.entity.ConstExpr.TheVariants as constants
use Rattle.core_bytes.specs.declared.entry.DefinedGlobal.{DefinedGlobal}
use Rattle.core_runs.specs.Values.{Value, Function, fit}
use Rattle.core_runs.specs.Store.{Func, signature_of, Store, Cell, Kept, Now, ByCode, Trapped}
use Rattle.core_runs.specs.Execution.{exec}
use Rattle.core_runs.specs.Bodies.{ref_shim, stub}
use Rattle.core_runs.specs.Instances.{Parts, Made, instance_of}
use Rattle.core_runs.specs.Starts.{Filling, unfilled}
use Rattle.core_runs.specs.LawsOfInstances.{Extends, Defines}

-- A shim of a module in the reference form: its type, that type's index, and the indices of the shim and of its stub
-- among the module's functions.
pub record RefShim : Type 0 where
  pub type : FuncType
  pub index : ℕ
  pub function : ℕ
  pub stub : ℕ

-- the global of a shim holds its stub at first
abbrev pub ref_global : RefShim → DefinedGlobal
ref_global s = record { global_type = record { val_type = Ref (Concrete s.index); mutable = true }; init = constants.RefFunc s.stub }

-- The module has these shims, each of which calls through the global of its own number, and their stubs.
abbrev pub HasRefShims : Parts → ℕ → List RefShim → Type 0
HasRefShims m global_index [] = Unit {0}
HasRefShims m global_index (s ∷ ss) =
    Defines m s.function s.index s.type (ref_shim (length s.type.params) global_index s.index) × Defines m s.stub s.index s.type stub × HasRefShims m (global_index + 1) ss

-- An instance is made of a module that has these shims, whose globals are its first, whatever else it has; it imports
-- nothing.
pub record RefShimsMade (m : Parts) (shims : List RefShim) (store : Store) (now : Now) (made : Made) : Type 0 where
  pub more : List DefinedGlobal
  pub globals : m.globals ≡ map ref_global shims ++ more
  pub has : HasRefShims m 0 shims
  pub is_made : instance_of m [] store now ≡ Some made

-- each shim's global, with its stub and the function that is to fill it, by their addresses
abbrev pub fillings : ℕ → List RefShim → List ℕ → List Filling
fillings base [] fs = []
fillings base (s ∷ ss) [] = []
fillings base (s ∷ ss) (f ∷ fs) = record { held = Concrete s.index; stub = base + s.stub; function = f } ∷ fillings base ss fs

-- Where the instance is made, its globals are after all that existed, and none is filled, whatever is to fill it.
abbrev pub RefShimsAreUnfilled : Type 0
RefShimsAreUnfilled =
    (m : Parts) (shims : List RefShim) (store : Store) (now : Now) (made : Made) (functions : List ℕ) → RefShimsMade m shims store now made → length functions ≡ length shims → (post : List Cell) × (made.now.globals ≡ now.globals ++ (map unfilled (fillings (length store.functions) shims functions) ++ post))

-- Whatever is instantiated after it, each shim traps with no event as long as its global holds what it held.
abbrev pub RefShimsTrapAtFirst : Type 0
RefShimsTrapAtFirst =
    (m : Parts) (shims : List RefShim) (store : Store) (now : Now) (made : Made) (later : Store) → RefShimsMade m shims store now made → Extends made.store later → (i : ℕ) (s : RefShim) → slice_get shims i ≡ Some s → (n : ℕ) (arguments : List Value) (moment : Now) → slice_get moment.globals (length now.globals + i) ≡ slice_get made.now.globals (length now.globals + i) → fit s.type.params arguments ≡ true → exec (suc (suc n)) later (length store.functions + s.function) arguments moment ≡ Trapped ByCode moment

-- Where its global holds a function of its type, each shim does what that function does.
abbrev pub FilledRefShimsForward : Type 0
FilledRefShimsForward =
    (m : Parts) (shims : List RefShim) (store : Store) (now : Now) (made : Made) (later : Store) → RefShimsMade m shims store now made → Extends made.store later → (i : ℕ) (s : RefShim) (f : ℕ) (g : Func) → slice_get shims i ≡ Some s → slice_get later.functions f ≡ Some g → signature_of g ≡ s.type → (n : ℕ) (arguments : List Value) (moment : Now) → slice_get moment.globals (length now.globals + i) ≡ Some (Kept (Ref (Concrete s.index)) (Function f)) → fit s.type.params arguments ≡ true → exec (suc n) later (length store.functions + s.function) arguments moment ≡ exec n later f arguments moment
