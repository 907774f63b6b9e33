-- The list of `WorkedGiven` in which the adapter is given main's other memory, which has no role:
-- its run ends too, but it isn't linked.
use Rattle.comp_links.specs.Naming.{own_names}
use Rattle.std.proofs.Common.{◌≡◌, ◌∙◌, ℕ, zero, suc, refl, sym, ap, subst, Option, Some, None, arith}
use Rattle.std.proofs.lemmas.Option.{none-some, same_Some}
use Rattle.std.specs.List.{slice_get}
use Rattle.comp_bytes.specs.declared.space.Space.TheVariants as spaces
use Rattle.comp_roles.specs.declared.offered.ExternType.TheVariants as externs
use Rattle.comp_roles.specs.declared.offered.ImportType.{ImportType}
use Rattle.comp_links.specs.Modules.{WorldModule, IsModule}
use Rattle.comp_links.specs.Targets.{Main, Adapter, MainMemory}
use Rattle.comp_runs.specs.Machine.{Machine, Outcome, Done, export_of}
use Rattle.comp_runs.specs.Store.{Export, ModuleInstance}
use Rattle.comp_trees.specs.Trees.{Resource}
use Rattle.wit_data.specs.declared.ids.TypeId.{TypeId}
use Rattle.link_laws.specs.Linking.{outcome, IsServed, IsLinked}
use Rattle.link_laws.specs.Meeting.{IsMainMemory, Meets}
use Rattle.link_laws.proofs.Steps.{no_modules}
use Rattle.link_laws.proofs.Worked.{machine_of, a}
use Rattle.link_laws.proofs.WorkedAdapter.{memory_at}
use Rattle.link_laws.proofs.WorkedGiven.{memory, other, env, one_page, world, list_with, both_made, adapter_user}

abbrev crossed : Outcome
crossed = outcome world no_modules (list_with other) both_made

abbrev c : Machine
c = machine_of crossed

pub crossed_ends : crossed ≡ Done c
crossed_ends = refl

-- only main has the number 0
main_number : (number : ℕ) → IsModule world number Main → number ≡ 0
main_number zero is = refl
main_number (suc zero) is =
    let adapter : adapter_user ≡ is.world_module = same_Some adapter_user is.world_module is.listed in
    let no : Adapter a ≡ Main = ap (λ (m : WorldModule). m.of) adapter ∙ is.same in
    cc
main_number (suc (suc n)) is = absurd (none-some is.world_module is.listed)

abbrev address_of : Option Export → ℕ
address_of None = 0
address_of (Some e) = e.address

-- main's memory has the address 0
memory_address : (i : ModuleInstance) (instance : ℕ) → slice_get c.store.module_instances instance ≡ Some i → i.module_number ≡ 0 → (n : ℕ) →
    export_of spaces.CoreMemory memory i.exports ≡ Some (record { space = spaces.CoreMemory; name = memory; address = n }) → n ≡ 0
memory_address i zero e of n is = ap address_of (sym is ∙ subst (λ (x : ModuleInstance). export_of spaces.CoreMemory memory x.exports ≡ Some (record { space = spaces.CoreMemory; name = memory; address = 0 })) (same_Some _ i e) refl)
memory_address i (suc zero) e of n is =
    let no : 1 ≡ 0 = ap (λ (x : ModuleInstance). x.module_number) (same_Some _ i e) ∙ of in
    absurd (omega (arith, no))
memory_address i (suc (suc m)) e of n is = absurd (none-some i e)

-- the one of the address 1 isn't it
not_first : IsMainMemory world c 1 → ⊥
not_first h =
    let same : 1 ≡ 0 = memory_address h.is.made h.is.instance h.is.present (h.is.of ∙ main_number h.number h.of) 1 h.is.exported in
    absurd (omega (arith, same))

abbrev memory_import : ImportType
memory_import = record { module_name = env; field = memory; ty = externs.Memory one_page }

memory_meets : (origins : TypeId → Resource) → IsServed world c origins adapter_user (memory_at 1) memory_import → IsMainMemory world c 1
memory_meets origins s = subst (Meets world c origins (memory_at 1)) (same_Some s.target MainMemory (sym s.said)) s.meets

pub crossed_is_not_linked : IsLinked own_names world no_modules (machine_of crossed) → ⊥
crossed_is_not_linked l = not_first (memory_meets l.origins (l.imports.each 1 _ _ refl refl).0)
