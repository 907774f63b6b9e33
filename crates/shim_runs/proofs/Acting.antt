-- What a shim does, by what is in its slot.
use Rattle.std.proofs.Common.{◌≡◌, ◌∙◌, ◌<◌, ℕ, zero, suc, List, Option, Some, None, refl, arith}
use Rattle.std.specs.List.{slice_get}
use Rattle.core_types.specs.declared.types.FuncType.{FuncType}
use Rattle.core_runs.specs.Store.{Store, Opaque}
use Rattle.core_runs.specs.Shims.{HoldsSlot}
use Rattle.core_runs.specs.Execution.{acts}
use Rattle.core_runs.specs.Instances.{empty_table}
use Rattle.core_runs.proofs.Shims.{table_shims_forward, empty_table_shims_trap}
use Rattle.core_runs.proofs.Meetings.{itself}
use Rattle.shim_runs.specs.ShimRuns.{IsShimAt, EmptyShimsTrap, FilledShimsForward}

empty_slot : (size place : ℕ) → place < size → slice_get (empty_table size) place ≡ Some None
empty_slot zero place h = absurd (omega arith)
empty_slot (suc size) zero h = refl
empty_slot (suc size) (suc place) h = empty_slot size place (omega arith)

-- the slot of a shim
holds : (code : Store) (table address place : ℕ) (type : FuncType) (slots : List (Option ℕ)) (slot : Option ℕ) (s : IsShimAt code table address place type) → slice_get code.tables table ≡ Some slots → slice_get slots place ≡ Some slot → HoldsSlot code s.frame place slot
holds code table address place type slots slot s there is = record { table = table; slots = slots; names_table = s.table_is; holds_slots = there; holds = is }

pub empty_shims_trap : EmptyShimsTrap
unfolding acts
empty_shims_trap code table address place type size s there within small arguments now fits =
    empty_table_shims_trap type place s.index 3 code s.frame address arguments now small s.body (holds code table address place type (empty_table size) None s there (empty_slot size place within)) fits

pub filled_shims_forward : FilledShimsForward
unfolding acts
filled_shims_forward code table address place type slots function what hook s there is opaque small arguments now fits =
    table_shims_forward type place s.index 3 code s.frame address function (Opaque what type) arguments now small s.body s.typed (holds code table address place type slots (Some function) s there is) opaque refl fits
    ∙ (itself code hook what (record { address = function; signature = type }) opaque).same 3 arguments now (omega arith) fits
