-- Which exports of other modules each module of a world may import: main functions of all adapters,
-- a library what main exports as well, and an adapter that is no library only what main exports.
-- (This project's own.)
use Rattle.std.specs.Prelude.{ℕ, true, false, List, [], map, Option, Some, None, ⊤}
use Rattle.comp_roles.specs.declared.libraries.LibraryInfo.{LibraryInfo}
use Rattle.record_imports.specs.declared.others.OtherModules.{OtherModules}
use Rattle.gathered_worlds.specs.Arguments.{Adapters}
use Rattle.gathered_worlds.specs.declared.reach.Reach.{Reach}

abbrev pub names_of : Adapters → List (List ℕ × ⊤)
names_of all = map (λ a. (a.0, tt)) all

abbrev pub reach_of : Adapters → Reach
reach_of all = record {
  main = record { has_main = false; adapters = names_of all };
  adapter = record { has_main = true; adapters = [] };
  library = record { has_main = true; adapters = names_of all };
}

-- that of an adapter, which may be a library
abbrev pub others_for : Reach → Option LibraryInfo → OtherModules
others_for reach None = reach.adapter
others_for reach (Some info) = reach.library
