-- Shims in a store, by their places; and in a store that has more.
use Rattle.std.proofs.Common.{◌≡◌, ◌+◌, ℕ, zero, suc, List, [], ◌∷◌, Option, Some, None, subst, arith}
use Rattle.std.proofs.lemmas.Option.{same_Some, none-some}
use Rattle.std.specs.List.{slice_get}
use Rattle.core_types.specs.declared.types.FuncType.{FuncType}
use Rattle.core_types.specs.declared.types.ValType.{ValType}
use Rattle.core_runs.specs.Cells.{IsGetter, IsSetter}
use Rattle.core_runs.specs.Store.{Func, Store}
use Rattle.shim_plan.specs.declared.shims.Shim.{Shim}
use Rattle.world_shims.specs.WorldShims.{type_of_shim}
use Rattle.shim_runs.specs.ShimRuns.{IsShimAt, AreShimsFrom, AreOfCell}

-- ---- by place

-- the same place and address, by other sums
placed : (code : Store) (table address place address' place' : ℕ) (type : FuncType) → address ≡ address' → place ≡ place' → IsShimAt code table address place type → IsShimAt code table address' place' type
placed code table address place address' place' type a p h =
    subst (λ (k : ℕ). IsShimAt code table address' k type) p (subst (λ (k : ℕ). IsShimAt code table k place type) a h)

-- each of consecutive shims is at its place
pub shim_at : (code : Store) (table place address : ℕ) (shims : List Shim) (i : ℕ) (s : Shim) → AreShimsFrom code table place address shims → slice_get shims i ≡ Some s → IsShimAt code table (address + i) (place + i) (type_of_shim s)
shim_at code table place address [] i s h e = absurd (none-some s e)
shim_at code table place address (x ∷ xs) zero s h e =
    let a : address ≡ address + 0 = omega arith in
    let p : place ≡ place + 0 = omega arith in
    placed code table address place (address + 0) (place + 0) (type_of_shim s) a p (subst (λ (y : Shim). IsShimAt code table address place (type_of_shim y)) (same_Some x s e) h.0)
shim_at code table place address (x ∷ xs) (suc i) s h e =
    let a : suc address + i ≡ address + suc i = omega arith in
    let p : suc place + i ≡ place + suc i = omega arith in
    placed code table (suc address + i) (suc place + i) (address + suc i) (place + suc i) (type_of_shim s) a p (shim_at code table (suc place) (suc address) xs i s h.1 e)

-- ---- in a later store

module _ (code later : Store) (kept : (i : ℕ) (f : Func) → slice_get code.functions i ≡ Some f → slice_get later.functions i ≡ Some f) where
  -- a shim is one wherever its function is
  pub shim_kept : (table address place : ℕ) (type : FuncType) → IsShimAt code table address place type → IsShimAt later table address place type
  shim_kept table address place type h = record {
    frame = h.frame;
    index = h.index;
    body = kept address _ h.body;
    typed = h.typed;
    table_is = h.table_is;
  }

  pub shims_kept : (table place address : ℕ) (shims : List Shim) → AreShimsFrom code table place address shims → AreShimsFrom later table place address shims
  shims_kept table place address [] h = tt
  shims_kept table place address (s ∷ ss) h = (shim_kept table address place (type_of_shim s) h.0, shims_kept table (suc place) (suc address) ss h.1)

  -- so are the functions of the cell
  pub getter_kept : (type : ValType) (global address : ℕ) → IsGetter code type global address → IsGetter later type global address
  getter_kept type global address h = record { frame = h.frame; local = h.local; has = kept address _ h.has; names = h.names }

  pub setter_kept : (type : ValType) (global address : ℕ) → IsSetter code type global address → IsSetter later type global address
  setter_kept type global address h = record { frame = h.frame; local = h.local; has = kept address _ h.has; names = h.names }

  pub cell_kept : (cell : Option ValType) (global address : ℕ) → AreOfCell code cell global address → AreOfCell later cell global address
  cell_kept None global address h = tt
  cell_kept (Some type) global address h = (getter_kept type global address h.0, setter_kept type global (address + 1) h.1)
