-- A nested component that has imported the types of other interfaces, and nothing else.
use Rattle.std.specs.Prelude.{ℕ, ◌≡◌, List, [], Option}
use Rattle.std.specs.List.{IsDistinct}
use Rattle.std.specs.Map.{keys_of}
use Rattle.std.specs.Str.{bytes_eq}
use Rattle.wit_data.specs.declared.ids.TypeId.{TypeId}
use Rattle.comp_trees.specs.Trees.{Resource}
use Rattle.comp_trees.specs.DefinedTrees.{TypeTree}
use Rattle.wit_types.specs.declared.maps.TypeEncodingMaps.{TypeEncodingMaps}
use Rattle.nested_components.specs.declared.contents.Contents.{Contents}
use Rattle.nested_components.specs.declared.stage.Stage.{Stage}
use Rattle.nested_components.specs.declared.stage.Stage.TheVariants as stages
use Rattle.nested_components.specs.Homes.{Home, with_foreign}
use Rattle.nested_components.specs.declared.type_import.TypeImport.{TypeImport}
use Rattle.nested_components.specs.Growing.{AreTablesRight, GrowsBy}
use Rattle.nested_components.specs.Types.{imported_ids}

pub record IsBegun (given : List ℕ → TypeTree) (origin : TypeId → Resource) (first : Home) (taken : List (List ℕ × Option TypeId)) (foreign : List TypeImport) (home : Home) (now : Stage) (contents : Contents) (maps : TypeEncodingMaps) : Type 0 where
  pub same : home ≡ with_foreign first (imported_ids foreign)
  pub stage : now ≡ stages.Importing
  pub apart : IsDistinct bytes_eq (keys_of first.named)
  pub grows : GrowsBy given origin home now foreign (record { items = []; taken = taken; types = [] }) contents []
  pub right : AreTablesRight given origin home now contents.items maps
