-- What was built, and what was built behind it: growth adds up.
use Rattle.std.specs.Prelude.{ℕ, ◌≡◌, Bool, true, false, List, [], ◌∷◌, ◌++◌, map}
use Rattle.std.specs.List.{AllByRecursion}
use Rattle.std.proofs.Common.{inl, inr, refl, sym, ap, ap₂, subst, ◌∙◌, append_assoc, append-nil}
use Rattle.std.proofs.lemmas.List.{map-append}
use Rattle.std.proofs.lemmas.List.Elements.{Contains-append_left}
use Rattle.wit_data.specs.declared.ids.TypeId.{TypeId}
use Rattle.comp_bytes.specs.declared.def.Item.{Item}
use Rattle.comp_trees.specs.Trees.{Resource}
use Rattle.comp_trees.specs.DefinedTrees.{TypeTree}
use Rattle.nested_terms.specs.Nested.{NestedScope, NestedFunction, NestedImport, ImportedFunction, ImportedType, NestedExport, empty_scope, with_item, scope_after, functions_imported, types_imported, import_made, imports_after, export_made, exports_after, AreItemsRight}
use Rattle.nested_components.specs.declared.contents.Contents.{Contents}
use Rattle.nested_components.specs.declared.stage.Stage.{Stage}
use Rattle.nested_components.specs.declared.stage.Stage.TheVariants as stages
use Rattle.nested_components.specs.declared.type_import.TypeImport.{TypeImport}
use Rattle.nested_components.specs.Homes.{Home, with_foreign, MayImport}
use Rattle.nested_components.specs.Types.{type_given}
use Rattle.nested_components.specs.Growing.{scope_of, ItemsGrow, type_entry, planned_among, met_among, all_among, IsImportIn, GrowsBy, Grows, Exports}

functions_append : (xs ys : List NestedImport) → functions_imported (xs ++ ys) ≡ functions_imported xs ++ functions_imported ys
functions_append [] ys = refl
functions_append (ImportedFunction name type ∷ xs) ys = ap (λ fs. record { argument = name; type = type } ∷ fs) (functions_append xs ys)
functions_append (ImportedType name tree ∷ xs) ys = functions_append xs ys

types_append : (xs ys : List NestedImport) → types_imported (xs ++ ys) ≡ types_imported xs ++ types_imported ys
types_append [] ys = refl
types_append (ImportedFunction name type ∷ xs) ys = types_append xs ys
types_append (ImportedType name tree ∷ xs) ys = ap (λ ts. (name, tree) ∷ ts) (types_append xs ys)

all_append : {X : Type 0} (P : X → Type 0) (xs ys : List X) → AllByRecursion P xs → AllByRecursion P ys → AllByRecursion P (xs ++ ys)
all_append P [] ys a b = b
all_append P (x ∷ xs) ys a b = (a.0, all_append P xs ys a.1 b)

staged_on : (stage : Stage) (xs ys : List (Bool × TypeImport)) → MayImport stage xs → MayImport stage ys → MayImport stage (xs ++ ys)
staged_on stages.Importing xs ys a b = tt
staged_on (stages.Exporting last) xs ys a b = ap₂ (λ p q. p ++ q) a b

pub staged_none : (stage : Stage) → MayImport stage []
staged_none stages.Importing = tt
staged_none (stages.Exporting last) = refl

planned_append : (xs ys : List (Bool × TypeImport)) → planned_among (xs ++ ys) ≡ planned_among xs ++ planned_among ys
planned_append [] ys = refl
planned_append ((true, t) ∷ xs) ys = ap (λ ts. t ∷ ts) (planned_append xs ys)
planned_append ((false, t) ∷ xs) ys = planned_append xs ys

met_append : (xs ys : List (Bool × TypeImport)) → met_among (xs ++ ys) ≡ met_among xs ++ met_among ys
met_append [] ys = refl
met_append ((true, t) ∷ xs) ys = met_append xs ys
met_append ((false, t) ∷ xs) ys = ap (λ ts. t ∷ ts) (met_append xs ys)

all_among_append : (xs ys : List (Bool × TypeImport)) → all_among (xs ++ ys) ≡ all_among xs ++ all_among ys
all_among_append xs ys = map-append (λ (t : Bool × TypeImport). t.1) xs ys

module _ (given : List ℕ → TypeTree) where
  pub scope_append : (s : NestedScope) (is more : List Item) → scope_after given s (is ++ more) ≡ scope_after given (scope_after given s is) more
  scope_append s [] more = refl
  scope_append s (i ∷ is) more = scope_append (with_item given s i) is more

  imports_append : (s : NestedScope) (is more : List Item) → imports_after given s (is ++ more) ≡ imports_after given s is ++ imports_after given (scope_after given s is) more
  imports_append s [] more = refl
  imports_append s (i ∷ is) more =
      let next = with_item given s i in
      ap (λ xs. import_made given s i ++ xs) (imports_append next is more) ∙ sym (append_assoc (import_made given s i) (imports_after given next is) (imports_after given (scope_after given next is) more))

  exports_append : (s : NestedScope) (is more : List Item) → exports_after given s (is ++ more) ≡ exports_after given s is ++ exports_after given (scope_after given s is) more
  exports_append s [] more = refl
  exports_append s (i ∷ is) more =
      let next = with_item given s i in
      ap (λ xs. export_made given s i ++ xs) (exports_append next is more) ∙ sym (append_assoc (export_made given s i) (exports_after given next is) (exports_after given (scope_after given next is) more))

  right_append : (s : NestedScope) (is more : List Item) → AreItemsRight given s is → AreItemsRight given (scope_after given s is) more → AreItemsRight given s (is ++ more)
  right_append s [] more a b = b
  right_append s (i ∷ is) more a b = (a.0, right_append (with_item given s i) is more a.1 b)

  pub items_none : (is : List Item) → ItemsGrow given is is [] [] [] []
  items_none is = record {
    more = [];
    grown = sym (append-nil is);
    right = tt;
    imported = refl;
    typed = refl;
    exported = refl;
    made = sym (append-nil (scope_of given is).functions);
  }

  pub items_on : (a b c : List Item) (i j : List NestedFunction) (t u : List (List ℕ × TypeTree)) (e d : List NestedExport) (f g : List NestedFunction) → ItemsGrow given a b i t e f → ItemsGrow given b c j u d g →
      ItemsGrow given a c (i ++ j) (t ++ u) (e ++ d) (f ++ g)
  items_on a b c i j t u e d f g x y =
      let first = scope_of given a in
      let next = scope_after given first x.more in
      let between : scope_of given b ≡ next = ap (scope_of given) x.grown ∙ scope_append empty_scope a x.more in
      record {
        more = x.more ++ y.more;
        grown = y.grown ∙ (ap (λ m. m ++ y.more) x.grown ∙ append_assoc a x.more y.more);
        right = right_append first x.more y.more x.right (subst (λ s. AreItemsRight given s y.more) between y.right);
        imported = ap functions_imported (imports_append first x.more y.more)
            ∙ (functions_append (imports_after given first x.more) (imports_after given next y.more)
            ∙ ap₂ (λ p q. p ++ q) x.imported (subst (λ s. functions_imported (imports_after given s y.more) ≡ j) between y.imported));
        typed = ap types_imported (imports_append first x.more y.more)
            ∙ (types_append (imports_after given first x.more) (imports_after given next y.more)
            ∙ ap₂ (λ p q. p ++ q) x.typed (subst (λ s. types_imported (imports_after given s y.more) ≡ u) between y.typed));
        exported = exports_append first x.more y.more ∙ ap₂ (λ p q. p ++ q) x.exported (subst (λ s. exports_after given s y.more ≡ d) between y.exported);
        made = y.made ∙ (ap (λ fs. fs ++ g) x.made ∙ append_assoc first.functions f g);
      }

  -- ---- exports

  pub exports_none : (c : Contents) → Exports given c c [] []
  exports_none c = record { taken = refl; types = refl; items = items_none c.items }

  pub exports_on : (a b c : Contents) (e d : List NestedExport) (f g : List NestedFunction) → Exports given a b e f → Exports given b c d g → Exports given a c (e ++ d) (f ++ g)
  exports_on a b c e d f g x y = record { taken = y.taken ∙ x.taken; types = y.types ∙ x.types; items = items_on a.items b.items c.items [] [] [] [] e d f g x.items y.items }

  -- ---- imports

  module _ (origin : TypeId → Resource) where
    pub grows_none : (home : Home) (stage : Stage) (c : Contents) → Grows given origin home stage c c []
    grows_none home stage c = record { more = []; staged = staged_none stage; chosen = refl; taken = sym (append-nil c.taken); types = sym (append-nil c.types); own = tt; items = items_none c.items }

    pub grows_by_on : (home : Home) (stage : Stage) (p q : List TypeImport) (a b c : Contents) (f g : List NestedFunction) → GrowsBy given origin home stage p a b f → GrowsBy given origin home stage q b c g → GrowsBy given origin home stage (p ++ q) a c (f ++ g)
    grows_by_on home stage p q a b c f g x y =
        let tree = type_given origin home.types in
        let met = map type_entry (met_among x.more) in
        let later = map type_entry (met_among y.more) in
        let both : all_among (x.more ++ y.more) ≡ all_among x.more ++ all_among y.more = all_among_append x.more y.more in
        record {
          more = x.more ++ y.more;
          staged = staged_on stage x.more y.more x.staged y.staged;
          chosen = planned_append x.more y.more ∙ ap₂ (λ ts us. ts ++ us) x.chosen y.chosen;
          taken = y.taken ∙ (ap (λ ts. ts ++ later) x.taken ∙ (append_assoc a.taken met later
              ∙ ap (λ ts. a.taken ++ ts) (sym (ap (map type_entry) (met_append x.more y.more) ∙ map-append type_entry (met_among x.more) (met_among y.more)))));
          types = y.types ∙ (ap (λ ts. ts ++ all_among y.more) x.types ∙ (append_assoc a.types (all_among x.more) (all_among y.more) ∙ ap (λ ts. a.types ++ ts) (sym both)));
          own = subst (AllByRecursion (IsImportIn home)) (sym both) (all_append _ (all_among x.more) (all_among y.more) x.own y.own);
          items = subst (λ ts. ItemsGrow given a.items c.items (f ++ g) ts [] (f ++ g)) (sym (ap (map tree) both ∙ map-append tree (all_among x.more) (all_among y.more)))
              (items_on a.items b.items c.items f g (map tree (all_among x.more)) (map tree (all_among y.more)) [] [] f g x.items y.items);
        }

    pub grows_on : (home : Home) (stage : Stage) (a b c : Contents) (f g : List NestedFunction) → Grows given origin home stage a b f → Grows given origin home stage b c g → Grows given origin home stage a c (f ++ g)
    grows_on home stage a b c f g x y = grows_by_on home stage [] [] a b c f g x y

    -- of an interface for which more types of others were imported
    pub grows_later : (home : Home) (ids : List TypeId) (stage : Stage) (p : List TypeImport) (a b : Contents) (f : List NestedFunction) → GrowsBy given origin home stage p a b f → GrowsBy given origin (with_foreign home ids) stage p a b f
    grows_later home ids stage p a b f g = record { more = g.more; staged = g.staged; chosen = g.chosen; taken = g.taken; types = g.types; own = each (all_among g.more) g.own; items = g.items }
      where
        one : (t : TypeImport) → IsImportIn home t → IsImportIn (with_foreign home ids) t
        one t h = record {
          text = h.text;
          from = elim h.from [
            | inl listed ↦ inl listed
            | inr there ↦ inr (Contains-append_left home.foreign ids t.id there.0, there.1)
          ];
          count = h.count;
          same = h.same;
        }

        each : (ts : List TypeImport) → AllByRecursion (IsImportIn home) ts → AllByRecursion (IsImportIn (with_foreign home ids)) ts
        each [] h = tt
        each (t ∷ ts) h = (one t h.0, each ts h.1)

    -- of three states of a nested component
    pub grows_follow : (h i j : Home) (s t u : Stage) (a b c : Contents) → (i ≡ h) × (t ≡ s) × Grows given origin h s a b [] → (j ≡ i) × (u ≡ t) × Grows given origin i t b c [] → (j ≡ h) × (u ≡ s) × Grows given origin h s a c []
    grows_follow h i j s t u a b c x y =
        (y.0 ∙ x.0, y.1 ∙ x.1, grows_on h s a b c [] [] x.2 (subst (λ q. Grows given origin h q b c []) x.1 (subst (λ p. Grows given origin p t b c []) x.0 y.2)))
