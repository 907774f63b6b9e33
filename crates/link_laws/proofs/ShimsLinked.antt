-- A worked example: the list that gives main shims for calls which need no memory is not linked,
-- whatever the outside returns: what has no shim works from the moment that it is given. Nor is it
-- linked with the slots crossed.
use Rattle.comp_links.specs.Naming.{own_names}
use Rattle.std.proofs.Common.{◌≡◌, ℕ, List, [], ◌∷◌, refl, sym, ap, subst, Some, None, arith}
use Rattle.std.proofs.lemmas.Option.{same_Some}
use Rattle.std.specs.List.{slice_get}
use Rattle.comp_bytes.proofs.Worked.{f, root}
use Rattle.core_runs.specs.declared.bracket.AfterHook.TheVariants.{Nothing}
use Rattle.core_runs.specs.Hooks.{around}
use Rattle.core_runs.specs.Values.{Value}
use Rattle.core_runs.specs.Store.{Func, Generated, Opaque, Answer, Gives}
use Rattle.core_runs.specs.Execution.{exec, acts}
use Rattle.core_runs.specs.Expected.{expected}
use Rattle.wit_data.specs.declared.ids.TypeId.{TypeId}
use Rattle.comp_trees.specs.Trees.{Resource}
use Rattle.comp_roles.specs.declared.offered.ExternType.TheVariants as externs
use Rattle.comp_roles.specs.declared.offered.ImportType.{ImportType}
use Rattle.comp_links.specs.Targets.{OfRoot, Lowered}
use Rattle.comp_links.specs.Lists.{RootFunction, import_entries}
use Rattle.comp_runs.specs.Store.{Lowering}
use Rattle.comp_runs.specs.Machine.{Machine}
use Rattle.link_laws.specs.Meeting.{CoreMeets, ItemIsLowering, IsImport, Meets}
use Rattle.link_laws.specs.Linking.{outcome, IsOpaque, IsDirect, IsServed, IsLinked}
use Rattle.link_laws.proofs.Worked.{plain_core}
use Rattle.link_laws.proofs.Worked.{machine_of, core_function}
use Rattle.link_laws.proofs.Stores.{main_module}
use Rattle.link_laws.proofs.NamedItem.{traps_next, named_item}
use Rattle.link_laws.proofs.Crossed.{import_number, first_letter}
use Rattle.link_laws.proofs.WorkedShims.{world, generated, whole, shim_function, opaque_at, crossed}

-- ---- the end of a run

-- where the outside instantiates main
abbrev pub end : ℕ → List Answer → Machine
end number rest = machine_of (outcome world (generated (0 ∷ 1 ∷ [])) (whole (0 ∷ 1 ∷ [])) (Gives [] number ∷ rest))

-- ---- the straight list

abbrev pub code_of : Func → ℕ
code_of (Opaque what signature) = 0
code_of (Generated frame signature locals instructions) = 1

-- main's first import, which is to be f
abbrev first_import : ImportType
first_import = record { module_name = root; field = f; ty = externs.Func plain_core }

-- the shim is generated code, and a call of f needs no memory, so that it has no shim
given_a_shim : (number : ℕ) (rest : List Answer) (origins : TypeId → Resource) → IsServed world (end number rest) origins (main_module world) (core_function 0) first_import → ⊥
given_a_shim number rest origins s =
    let o : IsOpaque (end number rest) 0 = subst (IsDirect (end number rest) 0) (same_Some s.target (Lowered (OfRoot f) []) (sym s.said)) (s.direct refl refl) in
    let same : 1 ≡ 0 = ap code_of (same_Some (shim_function 0) (Opaque o.what o.signature) o.is) in
    absurd (omega (arith, same))

pub straight_is_not_linked : (number : ℕ) (rest : List Answer) → IsLinked own_names world (generated (0 ∷ 1 ∷ [])) (end number rest) → ⊥
straight_is_not_linked number rest l = given_a_shim number rest l.origins (l.imports.each 1 _ _ refl refl).0

-- ---- the list with the slots crossed

abbrev c : Machine
c = machine_of crossed

-- a call of shim 0 is a call of function 3
calls_3 : (arguments : List Value) → acts c.store.code 0 arguments (traps_next c) ≡ expected (around None Nothing) 0 (opaque_at 3) arguments (traps_next c)
unfolding acts exec
calls_3 [] = refl
calls_3 (v ∷ vs) = refl

-- the second import is h
not_of_f : (origins : TypeId → Resource) → IsImport world c origins 1 (OfRoot f) → ⊥
not_of_f origins i =
    let number : 1 ≡ i.origin.number = ap import_number i.is in
    let named : slice_get (import_entries world) 1 ≡ Some (RootFunction f) = subst (λ n. slice_get (import_entries world) n ≡ Some (RootFunction f)) (sym number) i.from.0 in
    let same : 0x68 ≡ 0x66 = ap first_letter named in
    absurd (omega (arith, same))

-- function 3 is a lowering of it
no_lowering_of_f : (origins : TypeId → Resource) → CoreMeets world c None 0 (ItemIsLowering world c origins (OfRoot f) []) → ⊥
no_lowering_of_f origins x = not_of_f origins (named_item world c 0 (ItemIsLowering world c origins (OfRoot f) []) x (opaque_at 3) 1 (Lowering 1 []) refl refl calls_3).0

first_meets : (origins : TypeId → Resource) → IsServed world c origins (main_module world) (core_function 0) first_import → CoreMeets world c None 0 (ItemIsLowering world c origins (OfRoot f) [])
first_meets origins s = subst (Meets world c origins (core_function 0)) (same_Some s.target (Lowered (OfRoot f) []) (sym s.said)) s.meets

pub crossed_is_not_linked : IsLinked own_names world (generated (1 ∷ 0 ∷ [])) (machine_of crossed) → ⊥
crossed_is_not_linked l = no_lowering_of_f l.origins (first_meets l.origins (l.imports.each 1 _ _ refl refl).0)
