-- The index of a type that is interned.
use Rattle.std.proofs.Common.{◌≡◌, ◌∙◌, ◌+◌, ℕ, suc, Bool, true, false, ◌||◌, not, List, [], ◌∷◌, ◌++◌, length, Some, refl, sym, ap, true≢false, cond, if◌then◌else◌, arith}
use Rattle.std.specs.List.{list_any, position_or_len, slice_get}
use Rattle.comp_lists.proofs.Lists.{slice_get-end}
use Rattle.core_types.specs.declared.types.FuncType.{FuncType}
use Rattle.interned_types.specs.Interning.{is_type, interned, type_index}
use Rattle.interned_types.proofs.EqualTypes.{one_type}

-- where no item passes, the position is the length
position_of_none : {X : Type 0} (p : X → Bool) (xs : List X) → list_any p xs ≡ false → position_or_len p xs ≡ length xs
position_of_none p [] e = refl
position_of_none p (x ∷ xs) e = by (p x) e (position_of_none p xs)
  where
    by : (b : Bool) → (b || list_any p xs) ≡ false → (list_any p xs ≡ false → position_or_len p xs ≡ length xs) → cond (not b) (1 + position_or_len p xs) 0 ≡ length (x ∷ xs)
    by true e more = absurd (true≢false e)
    by false e more = let same : position_or_len p xs ≡ length xs = more e in omega (arith, same)

-- where one does, the item there passes
position_of_some : {X : Type 0} (p : X → Bool) (xs : List X) → list_any p xs ≡ true → (x : X) × (slice_get xs (position_or_len p xs) ≡ Some x) × (p x ≡ true)
position_of_some p [] e = absurd (true≢false (sym e))
position_of_some p (x ∷ xs) e = by (p x) refl e (position_of_some p xs)
  where
    by : (b : Bool) → p x ≡ b → (b || list_any p xs) ≡ true → (list_any p xs ≡ true → (y : _) × (slice_get xs (position_or_len p xs) ≡ Some y) × (p y ≡ true))
        → (y : _) × (slice_get (x ∷ xs) (cond (not b) (1 + position_or_len p xs) 0) ≡ Some y) × (p y ≡ true)
    by true h e more = (x, refl, h)
    by false h e more =
        let m = more e in
        let next : 1 + position_or_len p xs ≡ suc (position_or_len p xs) = omega arith in
        (m.0, ap (λ k. slice_get (x ∷ xs) k) next ∙ m.1, m.2)

-- a type that is there is at its index
pub type_there : (types : List FuncType) (type : FuncType) → list_any (is_type type) types ≡ true → slice_get types (type_index types type) ≡ Some type
type_there types type e = let found = position_of_some (is_type type) types e in found.1 ∙ ap Some (sym (one_type type found.0 found.2))

-- a type that isn't there is the last
pub types_grow : (types : List FuncType) (type : FuncType) → list_any (is_type type) types ≡ false → interned types type ≡ types ++ type ∷ []
types_grow types type e = ap (λ b. if b then types else types ++ type ∷ []) e

pub index_of_new : (types : List FuncType) (type : FuncType) → list_any (is_type type) types ≡ false → length types ≡ type_index types type
index_of_new types type e = sym (position_of_none (is_type type) types e)

-- in any case the type is at its index
pub type_at : (types : List FuncType) (type : FuncType) → slice_get (interned types type) (type_index types type) ≡ Some type
type_at types type = by (list_any (is_type type) types) refl
  where
    by : (b : Bool) → list_any (is_type type) types ≡ b → slice_get (if b then types else types ++ type ∷ []) (type_index types type) ≡ Some type
    by true e = type_there types type e
    by false e = ap (λ n. slice_get (types ++ type ∷ []) n) (sym (index_of_new types type e)) ∙ slice_get-end types type

-- the same of the types after a call
pub index_is : (types : List FuncType) (type : FuncType) (index : ℕ) → list_any (is_type type) types ≡ false → index ≡ length types → index ≡ type_index types type
index_is types type index e is = is ∙ index_of_new types type e

pub at_end : (types new : List FuncType) (type : FuncType) (index : ℕ) → list_any (is_type type) types ≡ false → index ≡ length types → new ≡ interned types type → slice_get new index ≡ Some type
at_end types new type index e is grown =
    ap (λ l. slice_get l index) grown ∙ ap (λ n. slice_get (interned types type) n) (index_is types type index e is) ∙ type_at types type

pub at_earlier : (types : List FuncType) (type : FuncType) (index : ℕ) → list_any (is_type type) types ≡ true → index ≡ type_index types type → slice_get types index ≡ Some type
at_earlier types type index e is = ap (λ n. slice_get types n) is ∙ type_there types type e
