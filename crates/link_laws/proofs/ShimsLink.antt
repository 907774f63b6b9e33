-- A worked example: how the list with shims runs. It ends where the outside lets it, and its shims
-- trap before the fixup; but it doesn't link, since main is given shims for calls that need no
-- memory.
use Rattle.comp_links.specs.Naming.{own_names}
use Rattle.std.proofs.Common.{◌≡◌, ◌∙◌, ◌++◌, ℕ, zero, suc, Bool, true, false, true≢false, List, [], ◌∷◌, take, refl, sym, ap, subst, Some, None, IsTrue, inl, inr, ◌⊎◌, arith}
use Rattle.std.proofs.lemmas.Option.{none-some, same_Some}
use Rattle.std.specs.Prelude.{Contains, is_some}
use Rattle.std.specs.List.{slice_get, AllByRecursion}
use Rattle.comp_bytes.specs.Spaces.{is_space}
use Rattle.comp_bytes.specs.declared.space.Space.TheVariants as spaces
use Rattle.comp_bytes.specs.declared.def.Def.{Def}
use Rattle.core_runs.specs.Values.{Value, fit}
use Rattle.core_runs.specs.Store.{Store as CodeStore, Func, Opaque, Answer, Gives, Traps, Now, ByCode}
use Rattle.core_runs.specs.Store as core
use Rattle.core_runs.specs.Execution.{exec, acts}
use Rattle.comp_runs.specs.Store.{Export, ModuleInstance}
use Rattle.comp_runs.specs.Machine.{Machine, Outcome, Done, Stuck}
use Rattle.link_laws.specs.Composition.{GeneratedModules}
use Rattle.link_laws.specs.Linking.{outcome, questions, LetsRun, IsShim, TrapsAtOnce, BeforeFixup, ShimsTrapBefore, Links}
use Rattle.link_laws.proofs.Worked.{plain_core}
use Rattle.link_laws.proofs.Worked.{made}
use Rattle.link_laws.proofs.WorkedShims.{world, generated, whole_with, whole, shims_bytes, fixup_bytes, shims_instance, shim_function}
use Rattle.link_laws.proofs.ShimsLinked.{end, straight_is_not_linked, crossed_is_not_linked}

abbrev straight_modules : GeneratedModules
straight_modules = generated (0 ∷ 1 ∷ [])

abbrev definitions : List Def
definitions = whole (0 ∷ 1 ∷ [])

abbrev lowering : ℕ → Func
lowering what = Opaque what plain_core

-- ---- how a run ends

abbrev is_done : Outcome → Bool
is_done (Done m) = true
is_done outcome = false

abbrev is_stuck : Outcome → Bool
is_stuck Stuck = true
is_stuck outcome = false

pub never_stuck : (answers : List Answer) → outcome world straight_modules definitions answers ≡ Stuck → ⊥
never_stuck [] e = true≢false (sym (ap is_stuck e))
never_stuck (Traps ∷ answers) e = true≢false (sym (ap is_stuck e))
never_stuck (Gives [] number ∷ answers) e = true≢false (sym (ap is_stuck e))
never_stuck (Gives (v ∷ vs) number ∷ answers) e = true≢false (sym (ap is_stuck e))

pub ends : (answers : List Answer) → LetsRun (questions world) answers → (m : Machine) × (outcome world straight_modules definitions answers ≡ Done m)
ends [] lets = absurd lets
ends (Traps ∷ answers) lets = absurd lets
ends (Gives [] number ∷ answers) lets = (end number answers, refl)
ends (Gives (v ∷ vs) number ∷ answers) lets = absurd (true≢false (sym lets.0))

-- ---- prefixes

-- a property of each prefix
abbrev AtPrefixes : {X : Type 0} → (List X → Type 0) → List X → Type 0
AtPrefixes P [] = P []
AtPrefixes P (x ∷ xs) = P [] × AtPrefixes (λ l. P (x ∷ l)) xs

abbrev head_or : {X : Type 0} → X → List X → X
head_or x [] = x
head_or x (y ∷ ys) = y

abbrev tail : {X : Type 0} → List X → List X
tail [] = []
tail (x ∷ xs) = xs

abbrev is_empty : {X : Type 0} → List X → Bool
is_empty [] = true
is_empty (x ∷ xs) = false

at_prefix : {X : Type 0} (P : List X → Type 0) (ds before after : List X) → AtPrefixes P ds → ds ≡ before ++ after → P before
at_prefix P [] [] after h e = h
at_prefix P [] (b ∷ before) after h e = absurd (true≢false (ap is_empty e))
at_prefix P (x ∷ xs) [] after h e = h.0
at_prefix P (x ∷ xs) (b ∷ before) after h e = subst (λ y. P (y ∷ before)) (ap (head_or x) e) (at_prefix (λ l. P (x ∷ l)) xs before after h.1 (ap tail e))

-- ---- shims before the fixup

abbrev empty_slots : List Func → CodeStore
empty_slots others = record { functions = shim_function 0 ∷ shim_function 1 ∷ others; tables = (None ∷ None ∷ []) ∷ []; memories = [] }

trap_0 : (others : List Func) (arguments : List Value) (now : Now) → IsTrue (fit [] arguments) → acts (empty_slots others) 0 arguments now ≡ core.Trapped ByCode now
unfolding acts exec
trap_0 others [] now fits = refl
trap_0 others (v ∷ vs) now fits = absurd (true≢false (sym fits))

trap_1 : (others : List Func) (arguments : List Value) (now : Now) → IsTrue (fit [] arguments) → acts (empty_slots others) 1 arguments now ≡ core.Trapped ByCode now
unfolding acts exec
trap_1 others [] now fits = refl
trap_1 others (v ∷ vs) now fits = absurd (true≢false (sym fits))

abbrev Quiet : Machine → Type 0
Quiet m = (address : ℕ) → IsShim world m address → TrapsAtOnce m address

-- the instance of the shims, or one of main
abbrev IsEither : ModuleInstance → Type 0
IsEither i = (i ≡ shims_instance) ⊎ (i.module_number ≡ 0)

which : (is : List ModuleInstance) (instance : ℕ) (i : ModuleInstance) → AllByRecursion IsEither is → slice_get is instance ≡ Some i → i.module_number ≡ 1 → i ≡ shims_instance
which [] instance i h e number = absurd (none-some i e)
which (j ∷ is) (suc n) i h e number = which is n i h.1 e number
which (j ∷ is) zero i h e number = by h.0
  where
    by : IsEither j → i ≡ shims_instance
    by (inl same) = sym (same_Some j i e) ∙ same
    by (inr is_main) = let apart : 0 ≡ 1 = sym is_main ∙ (ap (λ (x : ModuleInstance). x.module_number) (same_Some j i e) ∙ number) in absurd (omega (arith, apart))

-- the functions that the instance of the shims exports
exported_at : (name : List ℕ) (address : ℕ) → Contains shims_instance.exports (record { space = spaces.CoreFunc; name = name; address = address }) → (0 ≡ address) ⊎ (1 ≡ address)
exported_at name address (zero, l, e) = inl (ap (λ (x : Export). x.address) e)
exported_at name address (suc zero, l, e) = inr (ap (λ (x : Export). x.address) e)
exported_at name address (suc (suc zero), l, e) = absurd (true≢false (sym (ap (λ (x : Export). is_space spaces.CoreFunc (Some x.space)) e)))
exported_at name address (suc (suc (suc k)), l, e) = absurd (omega (arith, l))

no_shims : (m : Machine) → m.store.module_instances ≡ [] → Quiet m
no_shims m none address s = absurd (none-some s.made (subst (λ is. slice_get is s.instance ≡ Some s.made) none s.present))

shims_trap : (m : Machine) (others : List Func) → m.store.code ≡ empty_slots others → AllByRecursion IsEither m.store.module_instances → Quiet m
shims_trap m others code instances address s = by (exported_at s.name address (subst (λ (i : ModuleInstance). Contains i.exports (record { space = spaces.CoreFunc; name = s.name; address = address })) same s.exported))
  where
    same : s.made ≡ shims_instance
    same = which m.store.module_instances s.instance s.made instances s.present s.of

    first : TrapsAtOnce m 0
    first = record {
      function = shim_function 0;
      is = ap (λ (c : CodeStore). slice_get c.functions 0) code;
      traps = λ arguments now fits kept. ap (λ c. acts c 0 arguments now) code ∙ trap_0 others arguments now fits;
    }

    second : TrapsAtOnce m 1
    second = record {
      function = shim_function 1;
      is = ap (λ (c : CodeStore). slice_get c.functions 1) code;
      traps = λ arguments now fits kept. ap (λ c. acts c 1 arguments now) code ∙ trap_1 others arguments now fits;
    }

    by : (0 ≡ address) ⊎ (1 ≡ address) → TrapsAtOnce m address
    by (inl e) = subst (TrapsAtOnce m) e first
    by (inr e) = subst (TrapsAtOnce m) e second

-- what is made so far: no instance, or the shims with nothing in their slots, and maybe main
abbrev IsBefore : Machine → Type 0
IsBefore m = (m.store.module_instances ≡ []) ⊎ ((others : List Func) × (m.store.code ≡ empty_slots others) × AllByRecursion IsEither m.store.module_instances)

before_quiet : (m : Machine) → IsBefore m → Quiet m
before_quiet m (inl none) = no_shims m none
before_quiet m (inr (others, code, instances)) = shims_trap m others code instances

abbrev DoneBefore : Outcome → Type 0
DoneBefore (Done m) = IsBefore m
DoneBefore outcome = Unit {0}

-- ---- the list up to each definition

module _ (first second : List ℕ) where
  abbrev up_to : ℕ → List Answer → Outcome
  up_to k answers = outcome world straight_modules (take k (whole_with first second)) answers

  up_to_11 : (answers : List Answer) → DoneBefore (up_to 11 answers)
  up_to_11 [] = tt
  up_to_11 (Traps ∷ rest) = tt
  up_to_11 (Gives [] number ∷ rest) = inr ([], refl, (inl refl, (inr refl, tt)))
  up_to_11 (Gives (v ∷ vs) number ∷ rest) = tt

  up_to_12 : (answers : List Answer) → DoneBefore (up_to 12 answers)
  up_to_12 [] = tt
  up_to_12 (Traps ∷ rest) = tt
  up_to_12 (Gives [] number ∷ rest) = inr ([], refl, (inl refl, (inr refl, tt)))
  up_to_12 (Gives (v ∷ vs) number ∷ rest) = tt

  up_to_13 : (answers : List Answer) → DoneBefore (up_to 13 answers)
  up_to_13 [] = tt
  up_to_13 (Traps ∷ rest) = tt
  up_to_13 (Gives [] number ∷ rest) = inr (lowering 0 ∷ [], refl, (inl refl, (inr refl, tt)))
  up_to_13 (Gives (v ∷ vs) number ∷ rest) = tt

  up_to_14 : (answers : List Answer) → DoneBefore (up_to 14 answers)
  up_to_14 [] = tt
  up_to_14 (Traps ∷ rest) = tt
  up_to_14 (Gives [] number ∷ rest) = inr (lowering 0 ∷ lowering 1 ∷ [], refl, (inl refl, (inr refl, tt)))
  up_to_14 (Gives (v ∷ vs) number ∷ rest) = tt

  up_to_15 : (answers : List Answer) → DoneBefore (up_to 15 answers)
  up_to_15 [] = tt
  up_to_15 (Traps ∷ rest) = tt
  up_to_15 (Gives [] number ∷ rest) = inr (lowering 0 ∷ lowering 1 ∷ [], refl, (inl refl, (inr refl, tt)))
  up_to_15 (Gives (v ∷ vs) number ∷ rest) = tt

  up_to_16 : (answers : List Answer) → DoneBefore (up_to 16 answers)
  up_to_16 [] = tt
  up_to_16 (Traps ∷ rest) = tt
  up_to_16 (Gives [] number ∷ rest) = inr (lowering 0 ∷ lowering 1 ∷ [], refl, (inl refl, (inr refl, tt)))
  up_to_16 (Gives (v ∷ vs) number ∷ rest) = tt

  abbrev QuietAfter : List Def → Type 0
  QuietAfter ds = BeforeFixup world straight_modules ds → (answers : List Answer) → DoneBefore (outcome world straight_modules ds answers)

  quiet : AtPrefixes QuietAfter (whole_with first second)
  quiet = (λ b answers. inl refl, (λ b answers. inl refl, (λ b answers. inl refl, (λ b answers. inl refl, (λ b answers. inl refl, (λ b answers. inl refl, (λ b answers. inl refl, (λ b answers. inr ([], refl, (inl refl, tt)), (λ b answers. inr ([], refl, (inl refl, tt)), (λ b answers. inr ([], refl, (inl refl, tt)), (λ b answers. inr ([], refl, (inl refl, tt)), (λ b. up_to_11, (λ b. up_to_12, (λ b. up_to_13, (λ b. up_to_14, (λ b. up_to_15, (λ b. up_to_16, (λ b answers. absurd (b.1.1.0 refl)))))))))))))))))))

  traps_before : (before after : List Def) → whole_with first second ≡ before ++ after → BeforeFixup world straight_modules before → IsTrue (is_some straight_modules.fixup) → (answers : List Answer) (m : Machine) → outcome world straight_modules before answers ≡ Done m → Quiet m
  traps_before before after split unfixed present answers m e = before_quiet m (subst DoneBefore e (at_prefix QuietAfter (whole_with first second) before after quiet split unfixed answers))

-- ---- the two lists

pub straight_traps_before : ShimsTrapBefore world straight_modules definitions
straight_traps_before = record { each = traps_before shims_bytes (fixup_bytes (0 ∷ 1 ∷ [])) }

pub straight_does_not_link : Links own_names world straight_modules definitions → ⊥
straight_does_not_link l = straight_is_not_linked 0 [] (l.linked made _ refl)

pub crossed_does_not_link : Links own_names world (generated (1 ∷ 0 ∷ [])) (whole (1 ∷ 0 ∷ [])) → ⊥
crossed_does_not_link l = crossed_is_not_linked (l.linked made _ refl)
