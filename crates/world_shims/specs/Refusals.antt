-- When the modules of shims are there, and why they can't be made.
use Rattle.std.specs.Prelude.{ℕ, ◌≤◌, ◌^◌, ◌⊎◌, List, [], ◌∷◌, length, Option, Some, None, Contains}
use Rattle.byte_encoding.specs.declared.fault.BuildFault.{BuildFault}
use Rattle.byte_encoding.specs.declared.fault.BuildFault.TheVariants as build
use Rattle.core_bytes.specs.declared.section.Section.{Section}
use Rattle.core_types.specs.declared.types.MemoryType.{MemoryType}
use Rattle.core_types.specs.declared.types.ValType.{ValType}
use Rattle.fixup_modules.specs.declared.fault.ShimFault.{ShimFault}
use Rattle.fixup_modules.specs.declared.fault.ShimFault.TheVariants as faults
use Rattle.shim_plan.specs.declared.shims.Shim.{Shim}

-- a module of these sections, where there are shims
abbrev pub if_any : List Shim → List Section → Option (List Section)
if_any [] sections = None
if_any (s ∷ ss) sections = Some sections

-- a module of these sections, where there are shims, a memory or a cell
abbrev pub if_needed : Option MemoryType → Option ValType → List Shim → List Section → Option (List Section)
if_needed None None shims sections = if_any shims sections
if_needed None (Some type) shims sections = Some sections
if_needed (Some type) cell shims sections = Some sections

-- how many functions there are for a cell
abbrev pub cell_count : Option ValType → ℕ
cell_count None = 0
cell_count (Some type) = 2

-- out of memory, or a count passes what the binary format can hold
abbrev pub IsFullOrMemory : BuildFault → Type 0
IsFullOrMemory build.Memory = Unit {0}
IsFullOrMemory (build.TooMany n) = 2 ^ 32 ≤ n

-- where it isn't out of memory, there are so many that they can't be counted
abbrev pub HasTooMany : ℕ → BuildFault → Type 0
HasTooMany count build.Memory = Unit {0}
HasTooMany count (build.TooMany n) = 2 ^ 32 ≤ count

-- there are so many, or parameters of this shim
abbrev pub IsBeyond : ℕ → Shim → BuildFault → Type 0
IsBeyond count s build.Memory = Unit {0}
IsBeyond count s (build.TooMany n) = (2 ^ 32 ≤ count) ⊎ (2 ^ 32 ≤ length s.sig.params)

-- so many functions are too many, or the parameters of one of these shims
abbrev pub AreTooMany : ℕ → List Shim → BuildFault → Type 0
AreTooMany count shims build.Memory = Unit {0}
AreTooMany count shims (build.TooMany n) = (2 ^ 32 ≤ count) ⊎ ((s : Shim) × Contains shims s × (2 ^ 32 ≤ length s.sig.params))

-- a refusal of a fixup that is one of these: no import contradicts another
abbrev pub IsOfCounts : ShimFault → Type 0
IsOfCounts faults.Memory = Unit {0}
IsOfCounts (faults.TooMany n) = 2 ^ 32 ≤ n
IsOfCounts e = ⊥
