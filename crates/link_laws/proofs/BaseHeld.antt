-- What the globals of a run hold of the thread-local base, as the modules are instantiated: the cell is the first global
-- when the instance of the shims is made, and no other is a number that is kept.
use Rattle.std.proofs.Common.{arith, ◌≡◌, ◌∙◌, ◌||◌, ◌%◌, ◌^◌, zero, suc, ℕ, Bool, true, false, true≢false, if◌then◌else◌, List, [], ◌∷◌, ◌++◌, map, refl, sym, ap, subst, Option, Some, None, nat_lt}
use Rattle.std.proofs.lemmas.Bool.{lt-ltb}
use Rattle.std.proofs.lemmas.Bool.Decides.{Decides-eqb}
use Rattle.std.proofs.lemmas.List.{map-append}
use Rattle.std.proofs.lemmas.List.Folds.{list_any-append}
use Rattle.std.proofs.lemmas.Nat.{mod_below}
use Rattle.std.proofs.lemmas.Option.{none-some, same_Some, slice_get-map}
use Rattle.std.specs.Prelude.{Contains, nat_eq}
use Rattle.std.specs.Option.{option_map}
use Rattle.std.specs.List.{slice_get, list_any, AllByRecursion}
use Rattle.core_types.specs.declared.types.ValType.{ValType}
use Rattle.core_types.specs.declared.types.ValType.TheVariants.{I32, I64, F32, F64, Ref}
use Rattle.core_runs.proofs.Throughout.{below}
use Rattle.core_runs.specs.Values.{Value, I32Value, I64Value, F32Value, F64Value, Function, fits, zero_of}
use Rattle.core_runs.specs.Store.{Cell, Kept, Foreign}
use Rattle.core_runs.specs.Execution.{renewed}
use Rattle.comp_worlds.specs.Bases.{cell_type}
use Rattle.comp_worlds.specs.declared.world.ComponentWorld.{ComponentWorld}
use Rattle.comp_terms.proofs.HasShims.{nothing_needed}
use Rattle.comp_terms.specs.Generated.{has_shim_module, shims_number, fixup_number, number_behind}
use Rattle.comp_runs.specs.Store.{ModuleInstance}
use Rattle.link_laws.specs.Meeting.{IsBase}
use Rattle.link_laws.specs.Linking.{IsAlone}
use Rattle.link_laws.proofs.BaseRoles.{number_of_addresses}
use Rattle.link_laws.proofs.Zips.{contained, passes, AllByRecursion-join}
use Rattle.shim_runs.specs.ShimRuns.{IsOfAddresses}

-- ---- the globals

-- a global of a user module
abbrev pub IsForeign : Cell → Type 0
IsForeign (Foreign what type) = Unit {0}
IsForeign (Kept type value) = ⊥

-- the first global is kept, and holds this value of its type; all others are of user modules
pub record HoldsBase (type : ValType) (value : Value) (globals : List Cell) : Type 0 where
  pub rest : List Cell
  pub first : globals ≡ Kept type value ∷ rest
  pub of_type : fits type value ≡ true
  pub others : AllByRecursion IsForeign rest

-- they hold a base of this type, or none
abbrev pub BaseIn : Option ValType → List Cell → Type 0
BaseIn None globals = AllByRecursion IsForeign globals
BaseIn (Some type) globals = (value : Value) × HoldsBase type value globals

abbrev pub ZeroIn : Option ValType → List Cell → Type 0
ZeroIn None globals = Unit {0}
ZeroIn (Some type) globals = HoldsBase type (zero_of type) globals

-- ---- by the modules that are instantiated

-- the type of the cell, if the module of shims is among those of these numbers
abbrev pub cell_among : ComponentWorld → List ℕ → Option ValType
cell_among w numbers = if list_any (nat_eq (shims_number w)) numbers then cell_type w else None

abbrev pub numbers_made : List ModuleInstance → List ℕ
numbers_made users = map (λ (u : ModuleInstance). u.module_number) users

-- the same by the instances that are made
abbrev pub cell_made : ComponentWorld → List ModuleInstance → Option ValType
cell_made w users = cell_among w (numbers_made users)

unequal : (m n : ℕ) → (n ≡ m → ⊥) → nat_eq m n ≡ false
unequal m n other = by (nat_eq m n) refl
  where
    by : (b : Bool) → nat_eq m n ≡ b → nat_eq m n ≡ false
    by true e = absurd (other (sym ((Decides-eqb m n).0 e)))
    by false e = e

or_false : (b c : Bool) → c ≡ false → (b || (c || false)) ≡ b
or_false true c e = refl
or_false false c e = ap (λ x. x || false) e

-- an instance of another module changes nothing
among_push : (w : ComponentWorld) (numbers : List ℕ) (number : ℕ) → (number ≡ shims_number w → ⊥) → cell_among w (numbers ++ number ∷ []) ≡ cell_among w numbers
among_push w numbers number other =
    ap (λ b. if b then cell_type w else None)
    (list_any-append (nat_eq (shims_number w)) numbers (number ∷ []) ∙ or_false (list_any (nat_eq (shims_number w)) numbers) (nat_eq (shims_number w) number) (unequal (shims_number w) number other))

pub made_push : (w : ComponentWorld) (users : List ModuleInstance) (u : ModuleInstance) → (u.module_number ≡ shims_number w → ⊥) → cell_made w (users ++ u ∷ []) ≡ cell_made w users
made_push w users u other =
    ap (cell_among w) (map-append (λ (u : ModuleInstance). u.module_number) users (u ∷ [])) ∙ among_push w (numbers_made users) u.module_number other

-- with that of the shims there is the world's cell
pub made_with_shims : (w : ComponentWorld) (numbers : List ℕ) → Contains numbers (shims_number w) → cell_among w numbers ≡ cell_type w
made_with_shims w numbers there =
    ap (λ b. if b then cell_type w else None) (passes (nat_eq (shims_number w)) numbers (shims_number w) there ((Decides-eqb (shims_number w) (shims_number w)).1 refl))

pub made_at : (w : ComponentWorld) (users : List ModuleInstance) (user : ℕ) (u : ModuleInstance) → slice_get users user ≡ Some u → u.module_number ≡ shims_number w → cell_made w users ≡ cell_type w
made_at w users user u present of =
    made_with_shims w (numbers_made users)
    (contained (numbers_made users) user (shims_number w) (slice_get-map (λ (u : ModuleInstance). u.module_number) users user ∙ (ap (option_map (λ (u : ModuleInstance). u.module_number)) present ∙ ap Some of)))

-- a fixup is no module of shims, or else there is no cell
none_among : (w : ComponentWorld) (numbers : List ℕ) → cell_type w ≡ None → cell_among w numbers ≡ None
none_among w numbers none = by (list_any (nat_eq (shims_number w)) numbers)
  where
    by : (b : Bool) → (if b then cell_type w else None) ≡ None
    by true = none
    by false = refl

pub made_fixup : (w : ComponentWorld) (users : List ModuleInstance) (u : ModuleInstance) → u.module_number ≡ fixup_number w → cell_made w (users ++ u ∷ []) ≡ cell_made w users
made_fixup w users u of = by (has_shim_module w) refl
  where
    after : (n : ℕ) → suc n ≡ n → ⊥
    after n e = omega (arith, e)

    by : (has : Bool) → has_shim_module w ≡ has → cell_made w (users ++ u ∷ []) ≡ cell_made w users
    by true has = made_push w users u (λ same. after (shims_number w) (sym (ap (λ b. number_behind b (shims_number w)) has) ∙ sym of ∙ same))
    by false has =
        let none : cell_type w ≡ None = (nothing_needed w has).2 in
        none_among w (numbers_made (users ++ u ∷ [])) none ∙ sym (none_among w (numbers_made users) none)

-- ---- what a run does to them

-- an opaque call leaves a number in the cell, or no other value than there was
below_64 : (n : ℕ) → nat_lt (n % 2 ^ 64) (2 ^ 64) ≡ true
below_64 n = lt-ltb (n % 2 ^ 64) (2 ^ 64) (mod_below n (2 ^ 64) (omega arith))

-- so is zero
pub zero_fits : (type : ValType) → IsOfAddresses (Some type) → fits type (zero_of type) ≡ true
zero_fits I32 h = lt-ltb 0 (2 ^ 32) (omega arith)
zero_fits I64 h = lt-ltb 0 (2 ^ 64) (omega arith)
zero_fits type h = absurd h

value_renewed : (number : ℕ) (type : ValType) (value : Value) → fits type value ≡ true → (new : Value) × (renewed number (Kept type value) ≡ Kept type new) × (fits type new ≡ true)
value_renewed number I32 (I32Value n) fine = (I32Value (number % 2 ^ 32), refl, below number)
value_renewed number I64 (I64Value n) fine = (I64Value (number % 2 ^ 64), refl, below_64 number)
value_renewed number F32 (F32Value n) fine = (F32Value n, refl, fine)
value_renewed number F64 (F64Value n) fine = (F64Value n, refl, fine)
value_renewed number (Ref r) (Function f) fine = (Function f, refl, refl)
value_renewed number type value fine = absurd (true≢false (sym fine))

foreign_renewed : (number : ℕ) (globals : List Cell) → AllByRecursion IsForeign globals → AllByRecursion IsForeign (map (renewed number) globals)
foreign_renewed number [] h = tt
foreign_renewed number (Foreign what type ∷ globals) h = (tt, foreign_renewed number globals h.1)
foreign_renewed number (Kept type value ∷ globals) h = absurd h.0

pub base_renewed : (number : ℕ) (o : Option ValType) (globals : List Cell) → BaseIn o globals → BaseIn o (map (renewed number) globals)
base_renewed number None globals h = foreign_renewed number globals h
base_renewed number (Some type) globals h =
    let new = value_renewed number type h.0 h.1.of_type in (
      new.0,
      record {
        rest = map (renewed number) h.1.rest;
        first = ap (map (renewed number)) h.1.first ∙ ap (λ cell. cell ∷ map (renewed number) h.1.rest) new.1;
        of_type = new.2;
        others = foreign_renewed number h.1.rest h.1.others;
      },
    )

-- user modules have globals of their own
pub record HasMore (old new : List Cell) : Type 0 where
  pub more : List Cell
  pub grew : new ≡ old ++ more
  pub foreign : AllByRecursion IsForeign more

pub base_grown : (o : Option ValType) (old new : List Cell) → HasMore old new → BaseIn o old → BaseIn o new
base_grown None old new k h = subst (AllByRecursion IsForeign) (sym k.grew) (AllByRecursion-join IsForeign old k.more h k.foreign)
base_grown (Some type) old new k h = (
  h.0,
  record { rest = h.1.rest ++ k.more; first = k.grew ∙ ap (λ l. l ++ k.more) h.1.first; of_type = h.1.of_type; others = AllByRecursion-join IsForeign h.1.rest k.more h.1.others k.foreign },
)

-- ---- what is said of it

-- no other is kept
foreign_at : (globals : List Cell) (i : ℕ) (type : ValType) (value : Value) → AllByRecursion IsForeign globals → slice_get globals i ≡ Some (Kept type value) → ⊥
foreign_at [] i type value h e = none-some (Kept type value) e
foreign_at (g ∷ globals) zero type value h e = subst IsForeign (same_Some g (Kept type value) e) h.0
foreign_at (g ∷ globals) (suc i) type value h e = foreign_at globals i type value h.1 e

pub base_alone : (o : Option ValType) (globals : List Cell) → BaseIn o globals → IsAlone globals 0
base_alone None globals h other type value at number = absurd (foreign_at globals other type value h at)
base_alone (Some own) globals h other type value at number = by other (subst (λ (l : List Cell). slice_get l other ≡ Some (Kept type value)) h.1.first at)
  where
    by : (i : ℕ) → slice_get (Kept own h.0 ∷ h.1.rest) i ≡ Some (Kept type value) → i ≡ 0
    by zero e = refl
    by (suc i) e = absurd (foreign_at h.1.rest i type value h.1.others e)

-- where the base is zero, no other number is kept
abbrev kept_value : Value → Option Cell → Value
kept_value other (Some (Kept type value)) = value
kept_value other cell = other

abbrev kept_type : ValType → Option Cell → ValType
kept_type other (Some (Kept type value)) = type
kept_type other cell = other

pub zero_held : (o : Option ValType) (globals : List Cell) → BaseIn o globals → ZeroIn o globals → (i : ℕ) (type : ValType) (value : Value) → slice_get globals i ≡ Some (Kept type value) → value ≡ zero_of type
zero_held None globals h zero_in i type value at = absurd (foreign_at globals i type value h at)
zero_held (Some own) globals h z i type value at = by i (subst (λ (l : List Cell). slice_get l i ≡ Some (Kept type value)) z.first at)
  where
    by : (i : ℕ) → slice_get (Kept own (zero_of own) ∷ z.rest) i ≡ Some (Kept type value) → value ≡ zero_of type
    by zero e = sym (ap (kept_value value) e) ∙ ap zero_of (ap (kept_type type) e)
    by (suc i) e = absurd (foreign_at z.rest i type value z.others e)

-- it is the world's base
pub is_base : (type : ValType) (value : Value) (globals : List Cell) → IsOfAddresses (Some type) → HoldsBase type value globals → IsBase globals 0 type value
is_base type value globals addresses h = record {
  held = ap (λ (l : List Cell). slice_get l 0) h.first;
  of_type = h.of_type;
  number = number_of_addresses type addresses;
}
