-- A type of the interface that is exported behind its definition.
use Rattle.std.proofs.Common.{◌≡◌, ◌∙◌, ◌<◌, ◌==◌, ◌&&◌, inl, inr, arith, ℕ, suc, Bool, true, false, true≢false, List, [], ◌∷◌, ◌++◌, refl, ap, ap₂, sym, subst, get_or, nat_lt, lt-ltb, ltb-true, Some, None}
use Rattle.std.proofs.lemmas.Bool.{or_left, or_right, or_cases}
use Rattle.std.proofs.lemmas.Bool.Decides.{Decides-eqb}
use Rattle.comp_lists.proofs.Lists.{AllByRecursion-weaker}
use Rattle.wit_data.specs.declared.ids.TypeId.{TypeId}
use Rattle.wit_data.specs.declared.types.Type.TheVariants.{Id}
use Rattle.wit_data.specs.declared.types.TypeDef.{TypeDef}
use Rattle.comp_bytes.specs.declared.space.Sort.TheVariants as sorts
use Rattle.comp_bytes.specs.declared.def.Item.{Item}
use Rattle.comp_bytes.specs.declared.def.Item.TheVariants as items
use Rattle.comp_trees.specs.Trees.{Resource}
use Rattle.comp_trees.specs.WitTrees.{wit_tree}
use Rattle.comp_trees.specs.DefinedTrees.{TypeTree, OfValues, OfOthers}
use Rattle.comp_trees.specs.DefinedScopes.{Denotes}
use Rattle.wit_types.specs.Maps.{HasIndex}
use Rattle.wit_types.specs.Settings.{tree_in}
use Rattle.wit_types.specs.declared.maps.TypeEncodingMaps.{TypeEncodingMaps}
use Rattle.type_scopes.specs.Titles.{is_one_of}
use Rattle.nested_terms.specs.Nested.{NestedScope, ExportedType}
use Rattle.nested_components.specs.declared.contents.Contents.{Contents}
use Rattle.nested_components.specs.declared.stage.Stage.{Stage}
use Rattle.nested_components.specs.declared.stage.Stage.TheVariants as stages
use Rattle.nested_components.specs.Counts.{types_in}
use Rattle.nested_components.specs.Homes.{Home, IsExporting, IsNextOf, is_passed, is_met, next_of, last_of}
use Rattle.nested_components.specs.Types.{listed_ids, exported_type}
use Rattle.nested_components.specs.Growing.{scope_of, plain, AreTablesRight, Exports}
use Rattle.nested_components.specs.Following.{exports_on}
use Rattle.nested_components.proofs.OneFunction.{tables_longer}
use Rattle.nested_components.proofs.Scoping.{scope_more, types_more, denotes_new}

module _ (given : List ℕ → TypeTree) (origin : TypeId → Resource) (mid new : Contents) (id : TypeId) (text : List ℕ) (index : ℕ) (types : List TypeDef)
    (denotes : Denotes (scope_of given mid.items).types index (OfValues (wit_tree origin types (Some (Id id))))) (is : new ≡ record mid { items = mid.items ++ items.Export (plain text) sorts.Type index None ∷ [] }) where
  abbrev export : Item
  export = items.Export (plain text) sorts.Type index None

  abbrev tree : TypeTree
  tree = get_or (scope_of given mid.items).types index OfOthers

  grown : new.items ≡ mid.items ++ export ∷ []
  grown = ap (λ (c : Contents). c.items) is

  -- the index of the export denotes the type
  pub export_denotes : (all : List TypeDef) → all ≡ types → (at : ℕ) → at ≡ types_in mid.items → Denotes (scope_of given new.items).types at (OfValues (wit_tree origin all (Some (Id id))))
  export_denotes all same at counted =
      subst (λ (ts : List TypeDef). Denotes (scope_of given new.items).types at (OfValues (wit_tree origin ts (Some (Id id))))) (sym same)
      (subst (λ t. Denotes (scope_of given new.items).types at t) denotes.tree (denotes_new given mid.items new.items export tree refl grown at counted))

  pub tables_kept : (home here : Home) (stage there : Stage) (maps now : TypeEncodingMaps) → here ≡ home → there ≡ stage → now ≡ maps → AreTablesRight given origin here there mid.items maps → AreTablesRight given origin home stage new.items now
  tables_kept home here stage there maps now same still kept right =
      tables_longer given origin home here stage there mid.items new.items maps now same still kept right
      (record { more = tree ∷ []; longer = (types_more given mid.items new.items export tree refl grown).added })

  pub type_exported : (name : List ℕ) → text ≡ name → Exports given mid new (exported_type origin types (name, id) ∷ []) []
  type_exported name named =
      record {
        taken = ap (λ (c : Contents). c.taken) is;
        types = ap (λ (c : Contents). c.types) is;
        items = record {
          more = export ∷ [];
          grown = grown;
          right = (denotes.within, tt);
          imported = refl;
          typed = refl;
          exported = ap₂ (λ (n : List ℕ) (t : TypeTree). ExportedType n t ∷ []) named denotes.tree;
          made = ap (λ (s : NestedScope). s.functions) (scope_more given mid.items new.items export grown);
        };
      }

  -- with what was defined before it, and behind it nothing
  pub export_grows : (name : List ℕ) → text ≡ name → (all : List TypeDef) → all ≡ types → (old last : Contents) → Exports given old mid [] [] → Exports given new last [] [] → Exports given old last (exported_type origin all (name, id) ∷ []) []
  export_grows name named all same old last before behind =
      let x = exported_type origin types (name, id) in
      subst (λ (ts : List TypeDef). Exports given old last (exported_type origin ts (name, id) ∷ []) []) (sym same)
      (exports_on given old mid last [] (x ∷ []) [] [] before (exports_on given mid new last (x ∷ []) [] [] [] (type_exported name named) behind))

-- ---- the tables, once a type was passed

both : (a b : Bool) → (a && b) ≡ true → (a ≡ true) × (b ≡ true)
both true b e = (refl, e)
both false b e = absurd (true≢false (sym e))

met_before : (home : Home) (stage : Stage) (j : TypeId) → IsExporting stage → is_one_of (listed_ids home.named) j.index ≡ true → j.index < next_of (last_of stage) → is_met stage home j ≡ true
met_before home stage j exporting listed before =
    subst (λ (q : Stage). is_met q home j ≡ true) (sym exporting.same)
    (or_right (is_one_of home.foreign j.index) (is_passed home exporting.last j) (rw (lt-ltb j.index (next_of exporting.last) (subst (λ (q : Stage). j.index < next_of (last_of q)) exporting.same before), listed) refl))

-- a type of another interface that was imported is in the tables
pub met_foreign : (home : Home) (stage : Stage) (j : TypeId) → is_one_of home.foreign j.index ≡ true → is_met stage home j ≡ true
met_foreign home stages.Importing j e = or_left (is_one_of home.foreign j.index) (is_one_of home.resources j.index) e
met_foreign home (stages.Exporting last) j e = or_left (is_one_of home.foreign j.index) (is_passed home last j) e

pub right_passed : (given : List ℕ → TypeTree) (origin : TypeId → Resource) (home : Home) (stage : Stage) (id : TypeId) (is : List Item) (maps : TypeEncodingMaps) → IsExporting stage → IsNextOf home stage id → HasIndex maps id →
    AreTablesRight given origin home stage is maps → AreTablesRight given origin home (stages.Exporting (Some id)) is maps
unfolding tree_in
right_passed given origin home stage id is maps exporting next recorded h = record {
  ids = h.ids;
  named = AllByRecursion-weaker (λ e n. record { as_own = n.as_own }) maps.id_to_index h.named;
  kinds = h.kinds;
  functions = h.functions;
  met = λ j e. elim (or_cases (is_one_of home.foreign j.index) (is_passed home (Some id) j) e) [
    | inl imported ↦ h.met j (met_foreign home stage j imported)
    | inr passed ↦ by j (j.index == id.index) refl (both (nat_lt j.index (suc id.index)) (is_one_of (listed_ids home.named) j.index) passed)
  ];
  offers = h.offers;
}
  where
    by : (j : TypeId) (b : Bool) → (j.index == id.index) ≡ b → (nat_lt j.index (suc id.index) ≡ true) × (is_one_of (listed_ids home.named) j.index ≡ true) → HasIndex maps j
    by j true e k = subst (λ (n : ℕ). HasIndex maps (record { index = n })) (sym ((Decides-eqb j.index id.index).0 e)) recorded
    by j false e k =
        let most = ltb-true j.index (suc id.index) k.0 in
        let other : j.index ≡ id.index → ⊥ = λ same. true≢false (sym ((Decides-eqb j.index id.index).1 same) ∙ e) in
        h.met j (met_before home stage j exporting k.1 (next.none_left j.index (omega (arith, most, other)) k.1))
