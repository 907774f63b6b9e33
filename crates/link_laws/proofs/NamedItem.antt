-- Where a core function does what a call of one opaque function does, only what that function is meets it.
use Rattle.std.proofs.Common.{◌≡◌, ◌∙◌, ℕ, Bool, true, false, List, [], ◌∷◌, map, refl, sym, ap, subst, Option, Some, None, if◌then◌else◌}
use Rattle.std.proofs.lemmas.Option.{same_Some, none-some}
use Rattle.std.specs.List.{slice_get}
use Rattle.core_types.specs.declared.types.FuncType.{FuncType}
use Rattle.core_types.specs.declared.types.ValType.{ValType}
use Rattle.core_types.specs.declared.types.ValType.TheVariants.{I32, I64, F32, F64, Ref}
use Rattle.core_runs.specs.declared.bracket.AfterHook.TheVariants.{Nothing}
use Rattle.core_runs.specs.Hooks.{around}
use Rattle.core_runs.specs.Values.{Value, fit, zero_of}
use Rattle.core_runs.specs.Store.{Func, Opaque, Cell, Kept, Traps, Event, Called, Now, Outcome}
use Rattle.core_runs.specs.Store as core
use Rattle.core_runs.specs.Execution.{acts}
use Rattle.core_runs.specs.Expected.{Known, Is, expected}
use Rattle.comp_worlds.specs.declared.world.ComponentWorld.{ComponentWorld}
use Rattle.comp_runs.specs.Store.{CoreItem}
use Rattle.comp_runs.specs.Machine.{Machine}
use Rattle.link_laws.specs.Meeting.{SameReference, KeepsReferences, CoreMeets}
use Rattle.link_laws.specs.Linking.{IsFilled}
use Rattle.link_laws.proofs.Served.{acts_alone}

-- a moment at which the outside traps
abbrev pub traps_next : Machine → Now
traps_next m = record { globals = m.now.globals; answers = Traps ∷ []; events = []; moments = [] }

-- the function whose call trapped
abbrev pub first_called : List Event → Option ℕ
first_called (Called function arguments ∷ events) = Some function
first_called events = None

abbrev pub trapped_in : Outcome → Option ℕ
trapped_in (core.Trapped cause now) = first_called now.events
trapped_in outcome = None

fit_zeros : (ts : List ValType) → fit ts (map zero_of ts) ≡ true
fit_zeros [] = refl
fit_zeros (I32 ∷ ts) = fit_zeros ts
fit_zeros (I64 ∷ ts) = fit_zeros ts
fit_zeros (F32 ∷ ts) = fit_zeros ts
fit_zeros (F64 ∷ ts) = fit_zeros ts
fit_zeros (Ref r ∷ ts) = fit_zeros ts

same_own : (cell : Cell) → SameReference cell cell
same_own (Kept (Ref r) v) = refl
same_own cell = tt

keeps_own : (cells : List Cell) → KeepsReferences cells cells
keeps_own [] = tt
keeps_own (cell ∷ cells) = (same_own cell, keeps_own cells)

abbrev what_of : Func → ℕ
what_of (Opaque what signature) = what
what_of function = 0

module _ (m : Machine) (own : Known) where
  trapped : (hook : ℕ) (arguments : List Value) (b : Bool) → fit own.signature.params arguments ≡ b →
      trapped_in (expected (around None Nothing) hook own arguments (traps_next m)) ≡ (if b then Some own.address else None)
  trapped hook arguments true e = rw e refl
  trapped hook arguments false e = rw e refl

-- what is called in the same way is the same function
one_called : (m : Machine) (own target : Known) (hook : ℕ) (arguments : List Value) → fit target.signature.params arguments ≡ true →
    expected (around None Nothing) 0 own arguments (traps_next m) ≡ expected (around None Nothing) hook target arguments (traps_next m) → own.address ≡ target.address
one_called m own target hook arguments fits same = by (fit own.signature.params arguments) refl
  where
    by : (b : Bool) → fit own.signature.params arguments ≡ b → own.address ≡ target.address
    by true e = same_Some own.address target.address (sym (trapped m own 0 arguments true e) ∙ (ap trapped_in same ∙ trapped m target hook arguments true fits))
    by false e = absurd (none-some target.address (sym (trapped m own 0 arguments false e) ∙ (ap trapped_in same ∙ trapped m target hook arguments true fits)))

-- what calls nothing from outside is no shim that is filled
pub never_filled : (m : Machine) (address : ℕ) → ((arguments : List Value) → trapped_in (acts m.store.code address arguments (traps_next m)) ≡ None) → IsFilled m address → ⊥
never_filled m address quiet filled =
    let params : List ValType = filled.target.signature.params in
    let arguments : List Value = map zero_of params in
    none-some filled.target.address
    (sym (quiet arguments)
    ∙ (ap trapped_in (filled.acts.same arguments (traps_next m) (fit_zeros params) (keeps_own m.now.globals))
    ∙ trapped m filled.target 0 arguments true (fit_zeros params)))

module _ (w : ComponentWorld) (m : Machine) (address : ℕ) (P : CoreItem → Type 0) (c : CoreMeets w m None address P) where
  -- where a call of the core function is a call of the opaque function that is this item
  pub named_item : (own : Known) (what : ℕ) (item : CoreItem) → Is m.store.code own what → slice_get m.store.known what ≡ Some item →
      ((arguments : List Value) → acts m.store.code address arguments (traps_next m) ≡ expected (around None Nothing) 0 own arguments (traps_next m)) → P item
  named_item own what item is known calls =
      let arguments : List Value = map zero_of c.target.signature.params in
      let at : own.address ≡ c.target.address =
      one_called m own c.target c.hook arguments (fit_zeros c.target.signature.params)
      (sym (calls arguments) ∙ c.acts.same arguments (traps_next m) (fit_zeros c.target.signature.params) (keeps_own m.now.globals)) in
      let both : Some (Opaque what own.signature) ≡ Some (Opaque c.what c.target.signature) = sym is ∙ (ap (slice_get m.store.code.functions) at ∙ c.is) in
      let same : what ≡ c.what = ap what_of (same_Some (Opaque what own.signature) (Opaque c.what c.target.signature) both) in
      subst P (sym (same_Some item c.item (sym known ∙ (ap (slice_get m.store.known) same ∙ c.known)))) c.named

  -- the same of a function that is opaque itself
  pub own_item : (what : ℕ) (type : FuncType) (item : CoreItem) → slice_get m.store.code.functions address ≡ Some (Opaque what type) → slice_get m.store.known what ≡ Some item → P item
  own_item what type item is known =
      named_item (record { address = address; signature = type }) what item is known (λ arguments. acts_alone m.store.code address what type 0 is arguments (traps_next m))
