-- What can't be counted: shims, or the parameters of one.
use Rattle.std.proofs.Common.{inl, inr, ◌≡◌, ◌∙◌, ◌+◌, ◌≤◌, ◌^◌, ℕ, Bool, true, false, List, [], ◌∷◌, ◌++◌, length, if◌then◌else◌, ap, sym, subst, arith}
use Rattle.std.specs.List.{list_any}
use Rattle.std.proofs.lemmas.List.{length-map, length_push}
use Rattle.byte_encoding.specs.declared.fault.BuildFault.{BuildFault}
use Rattle.byte_encoding.specs.declared.fault.BuildFault.TheVariants as build
use Rattle.comp_roles.specs.CoreTypes.{value_type}
use Rattle.core_types.specs.declared.types.FuncType.{FuncType}
use Rattle.interned_types.specs.Interning.{is_type, interned, IsFull}
use Rattle.shim_plan.specs.declared.shims.Shim.{Shim}
use Rattle.world_shims.specs.Refusals.{HasTooMany, IsBeyond}
use Rattle.world_shims.specs.WorldShims.{type_of_shim}

-- a type that is interned is one more, or none
pub interned_few : (types : List FuncType) (type : FuncType) → length (interned types type) ≤ length types + 1
interned_few types type = by (list_any (is_type type) types)
  where
    by : (b : Bool) → length (if b then types else types ++ type ∷ []) ≤ length types + 1
    by true = omega arith
    by false = let more = length_push types type in omega (arith, more)

pub params_beyond : (count : ℕ) (s : Shim) (ty : FuncType) (e : BuildFault) → ty ≡ type_of_shim s → HasTooMany (length ty.params) e → IsBeyond count s e
params_beyond count s ty build.Memory is h = tt
params_beyond count s ty (build.TooMany n) is h = inr (subst (λ k. 2 ^ 32 ≤ k) (ap (λ (t : FuncType). length t.params) is ∙ length-map s.sig.params value_type) h)

pub type_beyond : (types : List FuncType) (s : Shim) (ty : FuncType) (e : BuildFault) → IsFull types ty e → IsBeyond (length types + 1) s e
type_beyond types s ty build.Memory h = tt
type_beyond types s ty (build.TooMany n) h = let few = interned_few types ty in let count = h.0 in let many = h.1 in inl (omega (arith, few, count, many))

pub beyond_more : (few many : ℕ) (s : Shim) (e : BuildFault) → few ≤ many → IsBeyond (few + 1) s e → IsBeyond (many + 1) s e
beyond_more few many s build.Memory le h = tt
beyond_more few many s (build.TooMany n) le (inl h) = inl (omega (arith, le, h))
beyond_more few many s (build.TooMany n) le (inr h) = inr h

-- a type that can't be interned behind so many functions, or behind them and one more
pub getter_beyond : (types : List FuncType) (type : FuncType) (count : ℕ) (e : BuildFault) → length types ≤ count → IsFull types type e → HasTooMany (count + 2) e
getter_beyond types type count build.Memory le h = tt
getter_beyond types type count (build.TooMany n) le h = let few = interned_few types type in let is = h.0 in let many = h.1 in omega (arith, le, few, is, many)

pub setter_beyond : (types more : List FuncType) (first type : FuncType) (count : ℕ) (e : BuildFault) → length types ≤ count → more ≡ interned types first → IsFull more type e → HasTooMany (count + 2) e
setter_beyond types more first type count build.Memory le is h = tt
setter_beyond types more first type count (build.TooMany n) le is h =
    let few = interned_few more type in
    let one : length more ≤ length types + 1 = subst (λ (ts : List FuncType). length ts ≤ length types + 1) (sym is) (interned_few types first) in
    let counted = h.0 in
    let many = h.1 in
    omega (arith, le, few, one, counted, many)
