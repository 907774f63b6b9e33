-- Functions of the module of shims that are made one after the other.
use Rattle.std.proofs.Common.{inl, inr, ◌≡◌, ◌∙◌, ◌+◌, ◌<◌, ◌≤◌, ◌^◌, ℕ, suc, Bool, Option, Some, None, List, [], ◌∷◌, ◌++◌, length, refl, sym, ap, subst, append_assoc, append-nil, arith}
use Rattle.std.specs.Prelude.{Contains}
use Rattle.std.proofs.lemmas.List.{length_push}
use Rattle.std.proofs.lemmas.List.Elements.{Contains-append_left, Contains-append_right}
use Rattle.byte_encoding.specs.declared.fault.BuildFault.{BuildFault}
use Rattle.byte_encoding.specs.declared.fault.BuildFault.TheVariants as build
use Rattle.core_types.specs.declared.types.FuncType.{FuncType}
use Rattle.core_types.specs.declared.types.MemoryType.{MemoryType}
use Rattle.core_types.specs.declared.types.ValType.{ValType}
use Rattle.interned_types.specs.Interning.{interned}
use Rattle.shim_modules.specs.Shims.{shim_module}
use Rattle.shim_modules.specs.declared.shims.ShimFunction.{ShimFunction}
use Rattle.shim_plan.specs.declared.shims.Shim.{Shim}
use Rattle.world_shims.specs.Refusals.{if_needed, cell_count, HasTooMany, IsBeyond, AreTooMany}
use Rattle.world_shims.proofs.Beyond.{interned_few}
use Rattle.world_shims.specs.WorldShims.{type_of_shim, types_with, with_cell_types, cell_of, function_of, functions_of, sections_of_shims}

-- these types and functions are those of the shims before the rest
pub record ListedSoFar (all : List Shim) (types : List FuncType) (functions : List ShimFunction) (rest : List Shim) : Type 0 where
  pub typed : types_with types rest ≡ types_with [] all
  pub listed : functions ++ functions_of types rest ≡ functions_of [] all
  pub room : length functions < 2 ^ 32
  pub few : length types ≤ length functions
  pub counted : length functions + length rest ≡ length all
  pub present : (s : Shim) → Contains rest s → Contains all s

pub one_more : (all : List Shim) (types new_types : List FuncType) (functions new_functions : List ShimFunction) (s : Shim) (rest : List Shim) → ListedSoFar all types functions (s ∷ rest) → new_types ≡ interned types (type_of_shim s) → new_functions ≡ functions ++ function_of types s ∷ [] → length new_functions < 2 ^ 32 → ListedSoFar all new_types new_functions rest
one_more all types new_types functions new_functions s rest before typed listed room =
    let few = before.few in
    let counted = before.counted in
    let types_few : length new_types ≤ length types + 1 = subst (λ (t : List FuncType). length t ≤ length types + 1) (sym typed) (interned_few types (type_of_shim s)) in
    let one : length new_functions ≡ length functions + 1 = ap (λ l. length l) listed ∙ length_push functions (function_of types s) in
    record {
      typed = ap (λ t. types_with t rest) typed ∙ before.typed;
      listed = ap (λ t. new_functions ++ functions_of t rest) typed ∙ ap (λ fs. fs ++ functions_of (interned types (type_of_shim s)) rest) listed ∙ append_assoc functions (function_of types s ∷ []) (functions_of (interned types (type_of_shim s)) rest) ∙ before.listed;
      room = room;
      few = omega (arith, few, types_few, one);
      counted = omega (arith, counted, one);
      present = λ t h. before.present t (Contains-append_right (s ∷ []) rest t h);
    }

-- the next one is refused where there are too many
pub too_many : (all : List Shim) (types : List FuncType) (functions : List ShimFunction) (s : Shim) (rest : List Shim) (e : BuildFault) → ListedSoFar all types functions (s ∷ rest) → IsBeyond (length functions + 1) s e → AreTooMany (length all) all e
too_many all types functions s rest build.Memory before h = tt
too_many all types functions s rest (build.TooMany n) before (inl h) = let counted = before.counted in inl (omega (arith, counted, h))
too_many all types functions s rest (build.TooMany n) before (inr h) = inr (s, before.present s (Contains-append_left (s ∷ []) rest s (0, omega arith, refl)), h)

pub count_of_functions : (types : List FuncType) (shims : List Shim) → length (functions_of types shims) ≡ length shims
count_of_functions types [] = refl
count_of_functions types (s ∷ ss) = ap suc (count_of_functions (interned types (type_of_shim s)) ss)

-- with all of them, there are not too many
pub all_listed : (all : List Shim) (types : List FuncType) (functions : List ShimFunction) → ListedSoFar all types functions [] → length all < 2 ^ 32
all_listed all types functions h =
    subst (λ n. n < 2 ^ 32) (ap (λ l. length l) (sym (append-nil functions) ∙ h.listed) ∙ count_of_functions [] all) h.room

-- ---- with a cell

pub made_if_needed : (memory : Option MemoryType) (cell : Option ValType) (shims : List Shim) (debug_names : Bool) →
    shim_module memory (cell_of cell (types_with [] shims)) (with_cell_types cell (types_with [] shims)) (functions_of [] shims) debug_names ≡ if_needed memory cell shims (sections_of_shims memory cell shims debug_names)
made_if_needed None None [] debug_names = refl
made_if_needed None None (s ∷ ss) debug_names = refl
made_if_needed None (Some t) shims debug_names = refl
made_if_needed (Some m) cell shims debug_names = refl

-- the shims alone are too many, or the functions of the cell behind them
pub shims_too_many : (shims : List Shim) (cell : Option ValType) (e : BuildFault) → AreTooMany (length shims) shims e → AreTooMany (length shims + cell_count cell) shims e
shims_too_many shims cell build.Memory h = tt
shims_too_many shims cell (build.TooMany n) (inl h) = inl (omega (arith, h))
shims_too_many shims cell (build.TooMany n) (inr h) = inr h

pub cell_too_many : (shims : List Shim) (cell : Option ValType) (count : ℕ) (e : BuildFault) → count ≡ length shims → HasTooMany (count + cell_count cell) e → AreTooMany (length shims + cell_count cell) shims e
cell_too_many shims cell count build.Memory same h = tt
cell_too_many shims cell count (build.TooMany n) same h = inl (omega (arith, same, h))
