-- A worked example: the list whose first two lowerings are swapped runs to its end, but it isn't linked.
use Rattle.comp_links.specs.Naming.{own_names}
use Rattle.std.proofs.Common.{◌≡◌, ℕ, [], ◌∷◌, refl, sym, ap, subst, Option, Some, None, arith}
use Rattle.std.proofs.lemmas.Option.{same_Some}
use Rattle.std.specs.List.{slice_get}
use Rattle.comp_bytes.proofs.Worked.{f}
use Rattle.wit_data.specs.declared.ids.TypeId.{TypeId}
use Rattle.comp_trees.specs.Trees.{Resource}
use Rattle.comp_links.specs.Targets.{OfRoot, Lowered}
use Rattle.comp_roles.specs.declared.offered.ExternType.TheVariants as externs
use Rattle.comp_roles.specs.declared.offered.ImportType.{ImportType}
use Rattle.comp_links.specs.Lists.{ImportEntry, RootFunction, import_entries}
use Rattle.comp_runs.specs.Store.{Lowering, Function, Imported}
use Rattle.comp_runs.specs.Machine.{Machine}
use Rattle.link_laws.specs.Meeting.{CoreMeets, ItemIsLowering, IsImport, Meets}
use Rattle.link_laws.specs.Linking.{IsServed, IsLinked}
use Rattle.link_laws.proofs.Worked.{plain_core}
use Rattle.link_laws.proofs.Stores.{main_module}
use Rattle.link_laws.proofs.Steps.{no_modules}
use Rattle.link_laws.proofs.NamedItem.{own_item}
use Rattle.link_laws.proofs.Worked.{two_twice, crossed, machine_of, core_function, a}

-- the end of the run
abbrev m : Machine
m = machine_of crossed

-- main's first import
abbrev first_import : ImportType
first_import = record { module_name = a; field = f; ty = externs.Func plain_core }

-- the number of an import, and the first letter of its name
abbrev pub import_number : Option Function → ℕ
import_number (Some (Imported origin type)) = origin.number
import_number function = 0

abbrev pub first_letter : Option ImportEntry → ℕ
first_letter (Some (RootFunction (c ∷ cs))) = c
first_letter entry = 0

-- the second import is h
not_of_f : (origins : TypeId → Resource) → IsImport two_twice m origins 1 (OfRoot f) → ⊥
not_of_f origins i =
    let number : 1 ≡ i.origin.number = ap import_number i.is in
    let named : slice_get (import_entries two_twice) 1 ≡ Some (RootFunction f) = subst (λ n. slice_get (import_entries two_twice) n ≡ Some (RootFunction f)) (sym number) i.from.0 in
    let same : 0x68 ≡ 0x66 = ap first_letter named in
    absurd (omega (arith, same))

-- function 0 is a lowering of the second import
no_lowering_of_f : (origins : TypeId → Resource) → CoreMeets two_twice m None 0 (ItemIsLowering two_twice m origins (OfRoot f) []) → ⊥
no_lowering_of_f origins c = not_of_f origins (own_item two_twice m 0 (ItemIsLowering two_twice m origins (OfRoot f) []) c 0 plain_core (Lowering 1 []) refl refl).0

-- the first import is to be f
first_meets : (origins : TypeId → Resource) → IsServed two_twice m origins (main_module two_twice) (core_function 0) first_import → CoreMeets two_twice m None 0 (ItemIsLowering two_twice m origins (OfRoot f) [])
first_meets origins s = subst (Meets two_twice m origins (core_function 0)) (same_Some s.target (Lowered (OfRoot f) []) (sym s.said)) s.meets

pub crossed_is_not_linked : IsLinked own_names two_twice no_modules (machine_of crossed) → ⊥
crossed_is_not_linked l = no_lowering_of_f l.origins (first_meets l.origins (l.imports.each 0 _ _ refl refl).0)
