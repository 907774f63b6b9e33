-- A function that is imported, or exported again, behind its type.
use Rattle.std.proofs.Common.{◌≡◌, ◌∙◌, ◌<◌, ℕ, List, [], ◌∷◌, ◌++◌, length, refl, ap, ap₂, sym, subst, get_or, append-nil, map, Option, Some}
use Rattle.wit_data.specs.declared.ids.TypeId.{TypeId}
use Rattle.wit_data.specs.declared.types.TypeDef.{TypeDef}
use Rattle.wit_data.specs.declared.functions.Function.{Function}
use Rattle.comp_bytes.specs.declared.space.Sort.TheVariants as sorts
use Rattle.comp_bytes.specs.declared.types.Description.TheVariants as descriptions
use Rattle.comp_bytes.specs.declared.def.Item.{Item}
use Rattle.comp_bytes.specs.declared.def.Item.TheVariants as items
use Rattle.comp_trees.specs.Trees.{Resource}
use Rattle.comp_trees.specs.WitTrees.{wit_function_tree}
use Rattle.comp_trees.specs.DefinedTrees.{TypeTree, OfOthers}
use Rattle.comp_trees.specs.DefinedScopes.{Denotes}
use Rattle.wit_types.specs.Denoting.{Longer}
use Rattle.wit_types.specs.declared.maps.TypeEncodingMaps.{TypeEncodingMaps}
use Rattle.wit_types.proofs.Growing.{faithful_after}
use Rattle.type_scopes.specs.Exports.{any_index}
use Rattle.nested_terms.specs.Nested.{NestedScope, NestedFunction, ExportedFunction, no_function}
use Rattle.nested_components.specs.declared.contents.Contents.{Contents}
use Rattle.nested_components.specs.declared.stage.Stage.{Stage}
use Rattle.nested_components.specs.declared.stage.Stage.TheVariants as stages
use Rattle.nested_components.specs.Functions.{type_of}
use Rattle.nested_components.specs.Types.{type_given}
use Rattle.nested_components.specs.Homes.{Home, IsExporting, nested_setting}
use Rattle.nested_components.specs.Growing.{scope_of, plain, AreTablesRight, ItemsGrow, type_entry, met_among, all_among, Grows, Exports, ExportsOne, function_at, IsTypedAt}
use Rattle.nested_components.specs.Following.{exports_on, grows_on, staged_none}
use Rattle.nested_components.proofs.Scoping.{scope_more}

-- ---- a function is imported

module _ (given : List ℕ → TypeTree) (origin : TypeId → Resource) (home : Home) (stage : Stage) (old mid new : Contents) (f : Function) (ty : ℕ)
    (denotes : Denotes (scope_of given mid.items).types ty (type_of origin home.types f)) (grows : Grows given origin home stage old mid []) where
  abbrev function_named : List ℕ → NestedFunction
  function_named name = record { argument = name; type = type_of origin home.types f }

  import_last : (text name : List ℕ) → text ≡ name → new ≡ record mid { items = mid.items ++ items.Import (plain text) (descriptions.Func ty) ∷ [] } → Grows given origin home stage mid new (function_named name ∷ [])
  import_last text name named is =
      let i = items.Import (plain text) (descriptions.Func ty) in
      let grown : new.items ≡ mid.items ++ i ∷ [] = ap (λ (c : Contents). c.items) is in
      let made : NestedFunction = record { argument = text; type = get_or (scope_of given mid.items).types ty OfOthers } in
      let same : made ≡ function_named name = ap₂ (λ (n : List ℕ) (t : TypeTree). record { argument = n; type = t }) named denotes.tree in
      record {
        more = [];
        staged = staged_none stage;
        chosen = refl;
        taken = ap (λ (c : Contents). c.taken) is ∙ sym (append-nil mid.taken);
        types = ap (λ (c : Contents). c.types) is ∙ sym (append-nil mid.types);
        own = tt;
        items = record {
          more = i ∷ [];
          grown = grown;
          right = (record { type = wit_function_tree origin home.types f; tree = denotes.tree }, tt);
          imported = ap (λ g. g ∷ []) same;
          typed = refl;
          exported = refl;
          made = ap (λ (s : NestedScope). s.functions) (scope_more given mid.items new.items i grown) ∙ ap (λ g. (scope_of given mid.items).functions ++ g ∷ []) same;
        };
      }

  pub import_grows : (text name : List ℕ) → text ≡ name → new ≡ record mid { items = mid.items ++ items.Import (plain text) (descriptions.Func ty) ∷ [] } → Grows given origin home stage old new (function_named name ∷ [])
  import_grows text name named is = grows_on given origin home stage old mid new [] (function_named name ∷ []) grows (import_last text name named is)

-- ---- nothing is imported while there are exports

none_imported : (given : List ℕ → TypeTree) (origin : TypeId → Resource) (home : Home) (last : Option TypeId) (old new : Contents) → Grows given origin home (stages.Exporting last) old new [] → Exports given old new [] []
none_imported given origin home last old new g =
    record {
      taken = g.taken ∙ (ap (λ ts. old.taken ++ map type_entry (met_among ts)) g.staged ∙ append-nil old.taken);
      types = g.types ∙ (ap (λ ts. old.types ++ all_among ts) g.staged ∙ append-nil old.types);
      items = subst (λ ts. ItemsGrow given old.items new.items [] (map (type_given origin home.types) (all_among ts)) [] []) g.staged g.items;
    }

pub quiet : (given : List ℕ → TypeTree) (origin : TypeId → Resource) (home : Home) (stage : Stage) (old new : Contents) → IsExporting stage → Grows given origin home stage old new [] → Exports given old new [] []
quiet given origin home stage old new e g = none_imported given origin home e.last old new (subst (λ s. Grows given origin home s old new []) e.same g)

-- ---- a function is exported

module _ (given : List ℕ → TypeTree) (origin : TypeId → Resource) (types : List TypeDef) (old mid new : Contents) (f : Function) (ty : ℕ)
    (denotes : Denotes (scope_of given mid.items).types ty (type_of origin types f)) (grows : Exports given old mid [] []) where
  -- the functions are those that there were
  functions_same : (scope_of given mid.items).functions ≡ (scope_of given old.items).functions
  functions_same = grows.items.made ∙ append-nil (scope_of given old.items).functions

  export_last : (index : ℕ) (text : List ℕ) → text ≡ f.name → IsTypedAt origin types (scope_of given old.items) index f →
      new ≡ record mid { items = mid.items ++ items.Export (plain text) sorts.Func index (Some (descriptions.Func ty)) ∷ [] } → ExportsOne given mid new f.name (function_at (scope_of given mid.items) index)
  export_last index text named typed is =
      let i = items.Export (plain text) sorts.Func index (Some (descriptions.Func ty)) in
      let grown : new.items ≡ mid.items ++ i ∷ [] = ap (λ (c : Contents). c.items) is in
      let here = subst (λ gs. index < length gs) (sym functions_same) typed.within in
      let type = subst (λ (gs : List NestedFunction). (get_or gs index no_function).type ≡ type_of origin types f) (sym functions_same) typed.typed in
      record {
        taken = ap (λ (c : Contents). c.taken) is;
        types = ap (λ (c : Contents). c.types) is;
        items = record {
          more = i ∷ [];
          grown = grown;
          right = ((here, denotes.within, denotes.tree ∙ sym type), tt);
          imported = refl;
          typed = refl;
          exported = ap (λ n. ExportedFunction n (function_at (scope_of given mid.items) index) ∷ []) named;
          made = ap (λ (s : NestedScope). s.functions) (scope_more given mid.items new.items i grown);
        };
      }

  pub export_grows : (index : ℕ) (text : List ℕ) → text ≡ f.name → IsTypedAt origin types (scope_of given old.items) index f →
      new ≡ record mid { items = mid.items ++ items.Export (plain text) sorts.Func index (Some (descriptions.Func ty)) ∷ [] } → ExportsOne given old new f.name (function_at (scope_of given old.items) index)
  export_grows index text named typed is =
      let g = function_at (scope_of given mid.items) index in
      subst (λ (h : NestedFunction). ExportsOne given old new f.name h) (ap (λ gs. get_or gs index no_function) functions_same)
      (exports_on given old mid new [] (ExportedFunction f.name g ∷ []) [] (g ∷ []) grows (export_last index text named typed is))

-- ---- the tables stay right where a function is imported or exported

module _ (given : List ℕ → TypeTree) (origin : TypeId → Resource) (home here : Home) (stage there : Stage) (mid new : List Item) (maps now : TypeEncodingMaps) (same : here ≡ home) (still : there ≡ stage) (kept : now ≡ maps)
    (right : AreTablesRight given origin here there mid maps) where
  pub tables_longer : Longer (scope_of given mid).types (scope_of given new).types → AreTablesRight given origin home stage new now
  tables_longer longer =
      faithful_after (nested_setting origin here there) (nested_setting origin home stage) (scope_of given mid).types (scope_of given new).types any_index any_index (Unit {0}) (Unit {0}) maps now right longer
      (sym (ap₂ (nested_setting origin) same still)) kept (λ name i h. h) (λ h. h)

  tables_after : (scope_of given new).types ≡ (scope_of given mid).types ++ [] → AreTablesRight given origin home stage new now
  tables_after is = tables_longer (record { more = []; longer = is })

  pub tables_imported : (text : List ℕ) (ty : ℕ) → new ≡ mid ++ items.Import (plain text) (descriptions.Func ty) ∷ [] → AreTablesRight given origin home stage new now
  tables_imported text ty is = tables_after (ap (λ (s : NestedScope). s.types) (scope_more given mid new (items.Import (plain text) (descriptions.Func ty)) is))

  pub tables_exported : (text : List ℕ) (index ty : ℕ) → new ≡ mid ++ items.Export (plain text) sorts.Func index (Some (descriptions.Func ty)) ∷ [] → AreTablesRight given origin home stage new now
  tables_exported text index ty is = tables_after (ap (λ (s : NestedScope). s.types) (scope_more given mid new (items.Export (plain text) sorts.Func index (Some (descriptions.Func ty))) is))

-- the tables of a nested component that is known by another name
pub tables_as : (given : List ℕ → TypeTree) (origin : TypeId → Resource) (home here : Home) (stage there : Stage) (is : List Item) (maps : TypeEncodingMaps) → here ≡ home → there ≡ stage → AreTablesRight given origin here there is maps → AreTablesRight given origin home stage is maps
tables_as given origin home here stage there is maps same still right =
    subst (λ (t : Stage). AreTablesRight given origin home t is maps) still (subst (λ (h : Home). AreTablesRight given origin h there is maps) same right)
