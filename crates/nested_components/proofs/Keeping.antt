-- The tables that are kept while functions are imported.
use Rattle.std.proofs.Common.{◌≡◌, ◌∙◌, ◌||◌, arith, nat_lt, ltb-true, inl, inr, ℕ, true, List, [], ◌∷◌, refl, ap, sym, subst, None}
use Rattle.std.proofs.lemmas.Bool.{and_parts, or_cases, or_left}
use Rattle.comp_lists.proofs.Lists.{AllByRecursion-weaker}
use Rattle.wit_data.specs.declared.ids.TypeId.{TypeId}
use Rattle.comp_bytes.specs.declared.def.Item.{Item}
use Rattle.comp_trees.specs.Trees.{Resource}
use Rattle.comp_trees.specs.DefinedTrees.{TypeTree}
use Rattle.wit_types.specs.Denoting.{Longer}
use Rattle.wit_types.specs.Settings.{tree_in}
use Rattle.wit_types.specs.declared.maps.TypeEncodingMaps.{TypeEncodingMaps}
use Rattle.wit_types.proofs.Growing.{longer_none, longer_on}
use Rattle.type_scopes.specs.Titles.{is_one_of}
use Rattle.nested_terms.specs.Nested.{NestedScope, NestedFunction, NestedExport, empty_scope, with_item, scope_after}
use Rattle.nested_components.specs.declared.contents.Contents.{Contents}
use Rattle.nested_components.specs.declared.type_import.TypeImport.{TypeImport}
use Rattle.nested_components.specs.declared.stage.Stage.{Stage}
use Rattle.nested_components.specs.declared.stage.Stage.TheVariants as stages
use Rattle.nested_components.specs.Homes.{Home, is_passed}
use Rattle.nested_components.specs.Types.{listed_ids}
use Rattle.nested_components.specs.Tables.{types_alone}
use Rattle.nested_components.specs.Growing.{scope_of, AreTablesRight, GrowsBy, Exports}
use Rattle.nested_components.specs.Following.{scope_append}
use Rattle.nested_components.proofs.OneFunction.{tables_longer}

module _ (given : List ℕ → TypeTree) where
  -- an item, and then several, add types at the end
  type_after : (s : NestedScope) (i : Item) → Longer s.types (with_item given s i).types
  type_after s i = record { more = _; longer = refl }

  types_after : (s : NestedScope) (is : List Item) → Longer s.types (scope_after given s is).types
  types_after s [] = longer_none s.types
  types_after s (i ∷ is) = longer_on (type_after s i) (types_after (with_item given s i) is)

  pub grown_longer : (origin : TypeId → Resource) (home : Home) (stage : Stage) (planned : List TypeImport) (old new : Contents) (fs : List NestedFunction) → GrowsBy given origin home stage planned old new fs → Longer (scope_of given old.items).types (scope_of given new.items).types
  grown_longer origin home stage planned old new fs g =
      subst (λ (s : NestedScope). Longer (scope_of given old.items).types s.types) (sym (ap (scope_of given) g.items.grown ∙ scope_append given empty_scope old.items g.items.more)) (types_after (scope_of given old.items) g.items.more)

  pub exported_longer : (old new : Contents) (es : List NestedExport) (fs : List NestedFunction) → Exports given old new es fs → Longer (scope_of given old.items).types (scope_of given new.items).types
  exported_longer old new es fs g =
      subst (λ (s : NestedScope). Longer (scope_of given old.items).types s.types) (sym (ap (scope_of given) g.items.grown ∙ scope_append given empty_scope old.items g.items.more)) (types_after (scope_of given old.items) g.items.more)

-- what was exported, where nothing was yet, is a type of another interface
met_first : (home : Home) (id : TypeId) → (is_one_of home.foreign id.index || is_passed home None id) ≡ true → is_one_of home.foreign id.index ≡ true
met_first home id e = elim (or_cases (is_one_of home.foreign id.index) (is_passed home None id) e) [
  | inl one ↦ one
  | inr passed ↦ let before = ltb-true id.index 0 (and_parts (nat_lt id.index 0) (is_one_of (listed_ids home.named) id.index) passed).0 in absurd (omega (arith, before))
]

as_exporting : (given : List ℕ → TypeTree) (origin : TypeId → Resource) (home : Home) (is : List Item) (maps : TypeEncodingMaps) → AreTablesRight given origin home stages.Importing is maps → AreTablesRight given origin home (stages.Exporting None) is (types_alone maps)
unfolding tree_in
as_exporting given origin home is maps h = record {
  ids = h.ids;
  named = AllByRecursion-weaker (λ e n. record { as_own = n.as_own }) maps.id_to_index h.named;
  kinds = h.kinds;
  functions = tt;
  met = λ j e. record { there = (h.met j (or_left (is_one_of home.foreign j.index) (is_one_of home.resources j.index) (met_first home j e))).there };
  offers = h.offers;
}

-- the tables of types serve the exports, whatever was imported behind them
pub tables_kept : (given : List ℕ → TypeTree) (origin : TypeId → Resource) (home : Home) (stage : Stage) (old new : List Item) (maps : TypeEncodingMaps) → stage ≡ stages.Importing → Longer (scope_of given old).types (scope_of given new).types →
    AreTablesRight given origin home stage old maps → AreTablesRight given origin home (stages.Exporting None) new (types_alone maps)
tables_kept given origin home stage old new maps importing longer right =
    as_exporting given origin home new maps
    (tables_longer given origin home home stages.Importing stage old new maps maps refl importing refl right longer)
