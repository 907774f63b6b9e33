-- The fixup of a world: there is one where there is something to do, and its arguments are the
-- instances that it imports from.
use Rattle.std.proofs.Common.{◌≡◌, ◌∙◌, ◌<◌, ◌^◌, ℕ, Bool, true, false, List, [], ◌∷◌, ◌++◌, length, Option, Some, None, refl, sym, ap₂, subst}
use Rattle.std.specs.Prelude.{Result, Ok, Err, OnOk, IfErr}
use Rattle.std.specs.List.{AllByRecursion, range_with_len}
use Rattle.comp_worlds.specs.declared.world.ComponentWorld.{ComponentWorld}
use Rattle.comp_links.specs.Lists.{required_functions}
use Rattle.comp_links.specs.Modules.{user_imports}
use Rattle.core_options.specs.Causes.{IsCause, IsCauseAmong}
use Rattle.core_options.specs.declared.fault.StateFault.{StateFault}
use Rattle.core_options.proofs.Refusals.{among_more}
use Rattle.interface_needs.proofs.Lists.{contains_none}
use Rattle.main_fixup.specs.Filling.{HasShimOptions}
use Rattle.comp_terms.specs.Generated.{has_fixup, has_tasks_in}
use Rattle.fixup_modules.specs.declared.encoding.EncodedFixup.{EncodedFixup}
use Rattle.fixup_modules.specs.Sections.{if_none, module_with_instances, encoded_fixup}
use Rattle.shim_plan.specs.declared.shims.Shim.{Shim}
use Rattle.world_shims.specs.WorldShims.{shims_of, initialize_of, fixup_of, sections_of_fixup, fixup_instances}
use Rattle.world_shims.proofs.Numbered.{shims_numbered}
use Rattle.world_shims.proofs.FixupImports.{IsFixupOf, call_indices, fixup_is}

-- the fixup of these shims and this function, or none, where there is nothing to do
abbrev pub IsEncodedFixup : List Shim → Option (List ℕ) → Bool → Option EncodedFixup → Type 0
IsEncodedFixup shims initialize debug_names None = has_tasks_in shims initialize ≡ false
IsEncodedFixup shims initialize debug_names (Some e) =
    (has_tasks_in shims initialize ≡ true) × (e.«module» ≡ sections_of_fixup shims initialize debug_names) × (e.instances ≡ fixup_instances shims initialize)

encoded_with : (shims : List Shim) (initialize : Option (List ℕ)) (debug_names : Bool) → IsFixupOf shims initialize (fixup_of shims initialize) →
    IsEncodedFixup shims initialize debug_names (if_none (range_with_len 0 (length shims) ++ call_indices (length shims) initialize) None (Some (module_with_instances (fixup_of shims initialize) debug_names)))
encoded_with [] None debug_names h = refl
encoded_with [] (Some name) debug_names h = (refl, refl, h.instances)
encoded_with (s ∷ ss) initialize debug_names h = (refl, refl, h.instances)

encoded_by : (shims : List Shim) (initialize : Option (List ℕ)) (debug_names : Bool) → IsFixupOf shims initialize (fixup_of shims initialize) → IsEncodedFixup shims initialize debug_names (encoded_fixup (fixup_of shims initialize) debug_names)
encoded_by shims initialize debug_names h =
    let f = fixup_of shims initialize in
    let tasks : f.fills ++ f.calls ≡ range_with_len 0 (length shims) ++ call_indices (length shims) initialize = ap₂ (λ fills calls. fills ++ calls) h.fills h.calls in
    subst (λ (l : List ℕ). IsEncodedFixup shims initialize debug_names (if_none l None (Some (module_with_instances f debug_names)))) (sym tasks) (encoded_with shims initialize debug_names h)

pub encoded_for : (w : ComponentWorld) (debug_names : Bool) (shims : List Shim) (initialize : Option (List ℕ)) (made : Option EncodedFixup) → shims ≡ shims_of w → initialize ≡ initialize_of w →
    length (shims_of w) < 2 ^ 32 → made ≡ encoded_fixup (fixup_of shims initialize) debug_names → IsEncodedFixup (shims_of w) (initialize_of w) debug_names made
encoded_for w debug_names shims initialize made same called room is =
    let here : made ≡ encoded_fixup (fixup_of (shims_of w) (initialize_of w)) debug_names = is ∙ ap₂ (λ ss i. encoded_fixup (fixup_of ss i) debug_names) same called in
    subst (IsEncodedFixup (shims_of w) (initialize_of w) debug_names) (sym here) (encoded_by (shims_of w) (initialize_of w) debug_names (fixup_is (shims_of w) (initialize_of w) (shims_numbered w) room))

-- ---- where it is added

-- where there is nothing to do, there are no shims
pub none_offered : (w : ComponentWorld) → has_fixup w ≡ false → AllByRecursion (HasShimOptions w) (shims_of w)
none_offered w none = by (shims_of w) (initialize_of w) none
  where
    by : (shims : List Shim) (initialize : Option (List ℕ)) → has_tasks_in shims initialize ≡ false → AllByRecursion (HasShimOptions w) shims
    by [] initialize h = tt
    by (s ∷ ss) initialize h = cc

pub when_ok : {X E P Q : Type 0} (r : Result X E) → (P → Q) → OnOk r P → OnOk r Q
when_ok (Ok x) f h = f h
when_ok (Err e) f h = tt

-- a refusal for imports is one for imports or exports
pub more_causes : {X : Type 0} (w : ComponentWorld) (r : Result X StateFault) → IfErr r (IsCauseAmong w (user_imports w) []) → IfErr r (IsCause w)
more_causes w (Ok x) h = tt
more_causes w (Err e) h = among_more w (user_imports w) (user_imports w) [] (required_functions w) (λ i k. k) (λ r k. contains_none r k) e h
