-- Shims that are appended for one user module after the other.
use Rattle.std.proofs.Common.{◌≡◌, ◌∙◌, ℕ, List, [], ◌∷◌, ◌++◌, map, length, refl, sym, ap, subst}
use Rattle.std.specs.List.{flat_map}
use Rattle.comp_roles.specs.declared.libraries.MainOrAdapter.TheVariants as users
use Rattle.comp_worlds.specs.declared.world.ComponentWorld.{ComponentWorld}
use Rattle.comp_worlds.specs.declared.world.WorldAdapter.{WorldAdapter}
use Rattle.shim_plan.specs.Encodings.{Explains, unencoded}
use Rattle.shim_plan.specs.Needed.{needed}
use Rattle.shim_plan.specs.Plans.{shim_at, with_shim, with_needed}
use Rattle.shim_plan.specs.declared.fault.ShimFault.{ShimFault}
use Rattle.shim_plan.specs.declared.needs.NeededShim.{NeededShim}
use Rattle.shim_plan.specs.declared.shims.Shim.{Shim}
use Rattle.shim_plan.proofs.Appending.{after_one, after_none, explains_all}
use Rattle.world_shims.specs.WorldShims.{adapter_at, modules_in, shims_of}

-- what is appended after something else is appended with it
pub appended_after : (shims : List Shim) (needs more : List NeededShim) → with_needed (with_needed shims needs) more ≡ with_needed shims (needs ++ more)
appended_after shims [] more = ap (λ s. with_needed s more) (after_none shims)
appended_after shims (n ∷ ns) more =
    ap (λ s. with_needed s more) (sym (after_one shims n ns))
    ∙ appended_after (with_shim shims (shim_at (length shims) n)) ns more
    ∙ after_one shims n (ns ++ more)

-- ---- the adapters

abbrev Adapters : Type 0
Adapters = List (List ℕ × WorldAdapter)

abbrev needed_of : ComponentWorld → Adapters → List NeededShim
needed_of w adapters = flat_map (needed w) (map adapter_at adapters)

abbrev unencoded_of : ComponentWorld → Adapters → List (List ℕ)
unencoded_of w adapters = flat_map (unencoded w) (map adapter_at adapters)

-- these are the shims with those of all adapters but the rest
pub record AppendedSoFar (w : ComponentWorld) (old : List Shim) (all : Adapters) (shims : List Shim) (rest : Adapters) : Type 0 where
  pub whole : with_needed shims (needed_of w rest) ≡ with_needed old (needed_of w all)
  pub encoded : unencoded_of w rest ≡ unencoded_of w all

pub one_more : (w : ComponentWorld) (old : List Shim) (all : Adapters) (shims new : List Shim) (a : List ℕ × WorldAdapter) (rest : Adapters) (name : List ℕ) → AppendedSoFar w old all shims (a ∷ rest) → name ≡ a.0 →
    new ≡ with_needed shims (needed w (users.Adapter name)) → unencoded w (users.Adapter name) ≡ [] → AppendedSoFar w old all new rest
one_more w old all shims new a rest name h same is none = record {
  whole =
      ap (λ s. with_needed s (needed_of w rest)) (is ∙ ap (λ (n : List ℕ). with_needed shims (needed w (users.Adapter n))) same)
      ∙ appended_after shims (needed w (users.Adapter a.0)) (needed_of w rest)
      ∙ h.whole;
  encoded = sym (ap (λ places. places ++ unencoded_of w rest) (ap (λ (n : List ℕ). unencoded w (users.Adapter n)) (sym same) ∙ none)) ∙ h.encoded;
}

pub one_refused : (w : ComponentWorld) (old : List Shim) (all : Adapters) (shims : List Shim) (a : List ℕ × WorldAdapter) (rest : Adapters) (name : List ℕ) (fault : ShimFault) → AppendedSoFar w old all shims (a ∷ rest) → name ≡ a.0 →
    Explains (unencoded w (users.Adapter name)) fault → Explains (unencoded_of w all) fault
one_refused w old all shims a rest name fault h same e =
    explains_all (unencoded w (users.Adapter a.0)) (unencoded_of w rest) (unencoded_of w all) fault h.encoded
    (subst (λ (n : List ℕ). Explains (unencoded w (users.Adapter n)) fault) same e)

pub all_appended : (w : ComponentWorld) (old : List Shim) (all : Adapters) (shims : List Shim) → AppendedSoFar w old all shims [] → shims ≡ with_needed old (needed_of w all)
all_appended w old all shims h = sym (after_none shims) ∙ h.whole

pub all_encoded : (w : ComponentWorld) (old : List Shim) (all : Adapters) (shims : List Shim) → AppendedSoFar w old all shims [] → unencoded_of w all ≡ []
all_encoded w old all shims h = sym h.encoded

-- ---- main, and then the adapters

pub main_and_more : (w : ComponentWorld) (shims new : List Shim) → shims ≡ with_needed [] (needed w users.Main) → new ≡ with_needed shims (needed_of w w.adapters) → new ≡ shims_of w
main_and_more w shims new is more = more ∙ ap (λ s. with_needed s (needed_of w w.adapters)) is ∙ appended_after [] (needed w users.Main) (needed_of w w.adapters)

pub both_encoded : (w : ComponentWorld) → unencoded w users.Main ≡ [] → unencoded_of w w.adapters ≡ [] → flat_map (unencoded w) (modules_in w) ≡ []
both_encoded w main more = ap (λ places. places ++ unencoded_of w w.adapters) main ∙ more

pub main_refused : (w : ComponentWorld) (fault : ShimFault) → Explains (unencoded w users.Main) fault → Explains (flat_map (unencoded w) (modules_in w)) fault
main_refused w fault e = explains_all (unencoded w users.Main) (unencoded_of w w.adapters) (flat_map (unencoded w) (modules_in w)) fault refl e

pub more_refused : (w : ComponentWorld) (fault : ShimFault) → unencoded w users.Main ≡ [] → Explains (unencoded_of w w.adapters) fault → Explains (flat_map (unencoded w) (modules_in w)) fault
more_refused w fault main e = subst (λ (places : List (List ℕ)). Explains (places ++ unencoded_of w w.adapters) fault) (sym main) e
