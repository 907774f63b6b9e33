-- A fixup module under construction: its types, its imports, the functions with which its segment
-- fills the table of the shims, and those that its start function calls. (The rules are this
-- project's own, over the core standard's modules.)
use Rattle.std.specs.Prelude.{ℕ, ◌≡◌, ◌≤◌, ◌^◌, ◌⊎◌, List, [], ◌∷◌, ◌++◌, length}
use Rattle.core_types.specs.declared.types.FuncType.{FuncType}
use Rattle.core_bytes.specs.declared.entity.EntityType.{EntityType}
use Rattle.core_bytes.specs.declared.entity.EntityType.TheVariants as entities
use Rattle.interned_types.specs.Interning.{interned, type_index}
use Rattle.fixup_modules.specs.declared.instances.ImportedInstance.{ImportedInstance}
use Rattle.fixup_modules.specs.declared.instances.ImportedInstance.TheVariants as instances
use Rattle.fixup_modules.specs.declared.fault.ShimFault.{ShimFault}
use Rattle.fixup_modules.specs.declared.fault.ShimFault.TheVariants as faults
use Rattle.fixup_modules.specs.Faults.{IsFull}
use Rattle.fixup_modules.specs.Imports.{Imported, nothing_imported, with_import, import_index, ImportCause}

-- The functions are those for the slots of the table, in their order, and those that are called, in
-- theirs, by their indices.
pub record Fixup : Type 0 where
  pub types : List FuncType
  pub imported : Imported
  pub fills : List ℕ
  pub calls : List ℕ

abbrev pub nothing_fixed : Fixup
nothing_fixed = record { types = []; imported = nothing_imported; fills = []; calls = [] }

-- the type of a function without parameters and results
abbrev pub thunk : FuncType
thunk = record { params = []; results = [] }

abbrev pub with_type : Fixup → FuncType → Fixup
with_type f type = record f { types = interned f.types type }

-- ---- one more shim

-- the function that a shim is to forward to, as an item: a function of this type, where these types
-- were interned before
abbrev pub shim_target : List FuncType → FuncType → EntityType
shim_target types type = entities.Function (type_index types type)

-- The function is imported from `actual`, under the shim's name, and is for the next slot.
abbrev pub with_shim : Fixup → List ℕ → FuncType → Fixup
with_shim f name type = record {
  types = interned f.types type;
  imported = with_import f.imported instances.Actual name (shim_target f.types type);
  fills = f.fills ++ import_index f.imported instances.Actual name (shim_target f.types type) ∷ [];
  calls = f.calls;
}

-- ---- one more call

-- the function without parameters and results, as an item
abbrev pub thunk_item : List FuncType → EntityType
thunk_item types = shim_target types thunk

-- The function is imported from main, and is called after those before it, when the module is instantiated.
abbrev pub with_initialize : Fixup → List ℕ → Fixup
with_initialize f name = record {
  types = interned f.types thunk;
  imported = with_import f.imported instances.Main name (thunk_item f.types);
  fills = f.fills;
  calls = f.calls ++ import_index f.imported instances.Main name (thunk_item f.types) ∷ [];
}

-- ---- refusals

-- Why a type can't be interned.
abbrev pub TypeCause : List FuncType → FuncType → ShimFault → Type 0
TypeCause types type faults.Memory = Unit {0}
TypeCause types type (faults.TooMany n) = (2 ^ 32 ≤ n) × (n ≡ length (interned types type))
TypeCause types type e = ⊥

-- Why a function of a type can't be imported from an instance, and be listed, where these types,
-- imports and functions are there: its type can't be interned, or it can't be imported, or there
-- are too many functions in the list.
abbrev pub FunctionCause : List FuncType → Imported → List ℕ → ImportedInstance → List ℕ → FuncType → ShimFault → Type 0
FunctionCause types imported functions instance name type e =
    TypeCause types type e ⊎ ImportCause imported instance name (shim_target types type) e ⊎ IsFull (length functions) e

-- Why a shim can't be added.
abbrev pub ShimCause : Fixup → List ℕ → FuncType → ShimFault → Type 0
ShimCause f name type e = FunctionCause f.types f.imported f.fills instances.Actual name type e

-- Why a call can't be added.
abbrev pub CallCause : Fixup → List ℕ → ShimFault → Type 0
CallCause f name e = FunctionCause f.types f.imported f.calls instances.Main name thunk e
