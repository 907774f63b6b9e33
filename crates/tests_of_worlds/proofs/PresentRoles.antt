-- All that the core imports name is in any resolve.
use Rattle.std.proofs.Common.{◌≡◌, List, [], ◌++◌, ℕ, sym, subst}
use Rattle.std.specs.List.{AllByRecursion, flat_map}
use Rattle.wit_data.specs.declared.resolve.Resolve.{Resolve}
use Rattle.comp_roles.specs.declared.imports.ImportMap.{ImportMap}
use Rattle.comp_worlds.specs.declared.world.WorldAdapter.{WorldAdapter}
use Rattle.comp_worlds.specs.declared.world.WorldParts.{WorldParts}
use Rattle.comp_roles.specs.CoreImports.{imports_from}
use Rattle.world_values.specs.Mentions.{HasRole}
use Rattle.comp_worlds.specs.Uses.{imports_of, all_imports}
use Rattle.tests_of_worlds.specs.CoreImports.{core_imports}

abbrev Present : Resolve → ImportMap → List (List ℕ × WorldAdapter) → Type 0
Present r imports adapters = AllByRecursion (λ i. HasRole r i.role) (flat_map imports_from imports.modules ++ flat_map (λ a. imports_of a.1.info) adapters)

pub roles_present : (p : WorldParts) → p.main.imports ≡ core_imports → p.adapters ≡ [] → AllByRecursion (λ i. HasRole p.resolve i.role) (all_imports p.main p.adapters)
roles_present p is alone =
    subst (λ (adapters : List (List ℕ × WorldAdapter)). Present p.resolve p.main.imports adapters) (sym alone)
    (subst (λ (imports : ImportMap). Present p.resolve imports []) (sym is) (tt, (tt, tt)))
