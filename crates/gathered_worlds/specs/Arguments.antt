-- The arguments of an adapter: it has some where it is a library. (The name is that of this project's record.)
use Rattle.std.specs.Prelude.{ℕ, List, [], Option, Some, None}
use Rattle.comp_roles.specs.declared.libraries.LibraryInfo.{LibraryInfo}
use Rattle.record_imports.specs.Arguments.{Arguments}
use Rattle.record_merge.specs.declared.bindgen.Bindgen.{Bindgen}
use Rattle.world_values.specs.declared.gathered.GatheredAdapter.{GatheredAdapter}

abbrev pub Adapters : Type 0
Adapters = List (List ℕ × GatheredAdapter Bindgen)

abbrev pub arguments_of : Option LibraryInfo → Arguments
arguments_of None = []
arguments_of (Some info) = info.arguments
