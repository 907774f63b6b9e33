-- All together: the items import the functions, and export the types and the functions.
use Rattle.std.proofs.Common.{◌≡◌, ◌∙◌, ◌<◌, arith, inl, inr, ℕ, zero, suc, Bool, true, List, [], ◌∷◌, ◌++◌, length, map, refl, ap, sym, subst, append-nil, append_assoc, Some}
use Rattle.std.proofs.lemmas.List.{map-append}
use Rattle.std.proofs.lemmas.Option.{none-some}
use Rattle.comp_lists.proofs.Lists.{AllByRecursion-weaker, AllByRecursion-contains}
use Rattle.std.specs.List.{AllByRecursion, AllZip, IsDistinct}
use Rattle.std.specs.Map.{keys_of}
use Rattle.std.specs.Str.{bytes_eq}
use Rattle.wit_data.specs.declared.ids.InterfaceId.{InterfaceId}
use Rattle.wit_data.specs.declared.resolve.Resolve.{Resolve}
use Rattle.wit_data.specs.Parts.{RefersBack}
use Rattle.wit_data.specs.Sound.{HasFunction}
use Rattle.wit_types.specs.Allowing.{is_resource, allows_function}
use Rattle.type_scopes.specs.Needs.{is_at_home}
use Rattle.type_scopes.specs.Titles.{IsTitled, is_one_of}
use Rattle.wit_data.specs.Values.{kind_at}
use Rattle.wit_data.specs.declared.types.TypeDefKind.{TypeDefKind}
use Rattle.wit_types.specs.Settings.{name_at}
use Rattle.wit_data.specs.declared.ids.TypeId.{TypeId}
use Rattle.wit_data.specs.declared.types.TypeDef.{TypeDef}
use Rattle.wit_data.specs.declared.functions.Function.{Function}
use Rattle.comp_trees.specs.Trees.{Resource}
use Rattle.comp_trees.specs.DefinedTrees.{TypeTree}
use Rattle.nested_terms.specs.Naming.{AreNamesAfter}
use Rattle.nested_terms.specs.Nested.{NestedFunction, NestedExport, empty_scope, functions_imported, types_imported, imports_after, exports_after, AreItemsRight}
use Rattle.nested_components.specs.declared.contents.Contents.{Contents}
use Rattle.nested_components.specs.declared.stage.Stage.{Stage}
use Rattle.nested_components.specs.declared.type_import.TypeImport.{TypeImport}
use Rattle.nested_components.specs.declared.stage.Stage.TheVariants as stages
use Rattle.nested_components.specs.Functions.{functions_of, nested_functions, exported, IsTyped, PassesOn}
use Rattle.foreign_types.specs.Foreign.{type_passes, IsReached, AreForeignTypes}
use Rattle.nested_components.specs.Homes.{Home, new_home, with_foreign, with_resources, IsHome, CanExport, AreAllPassed, nested_setting}
use Rattle.nested_components.specs.Types.{IsAtHome, listed_ids, type_given, exported_type, IsImportOf}
use Rattle.nested_components.specs.Growing.{scope_of, ItemsGrow, function_entry, type_entry, planned_among, met_among, all_among, IsImportIn, GrowsBy, Grows, Exports, ArePassedOn}
use Rattle.nested_components.specs.Following.{items_on, exports_on, grows_by_on}
use Rattle.nested_components.proofs.OwnResources.{grows_owned}
use Rattle.nested_components.proofs.AtHome.{AreKnown, functions_allowed, known_importing, known_exporting}

-- each function has a name, so that each is one of the nested component
pub typed_all : (origin : TypeId → Resource) (types : List TypeDef) (taken : List (List ℕ)) (fs : List Function) (names : List (List ℕ)) → AreNamesAfter taken fs names →
    AllZip (IsTyped origin types) (nested_functions origin types fs names) fs
typed_all origin types taken [] [] h = tt
typed_all origin types taken (f ∷ fs) (name ∷ names) h = (refl, typed_all origin types (taken ++ name ∷ []) fs names h.1)
typed_all origin types taken [] (name ∷ names) h = absurd h
typed_all origin types taken (f ∷ fs) [] h = absurd h

-- an interface for which types of others and resources of its own were imported
abbrev pub whole_home : List TypeDef → InterfaceId → List (List ℕ × TypeId) → List TypeId → List TypeId → Home
whole_home types here named ids resources = with_resources (with_foreign (new_home types here named) ids) resources

pub home_of : (types : List TypeDef) (here : InterfaceId) (named : List (List ℕ × TypeId)) (entries : List (List ℕ × Function)) (h : IsAtHome types here named entries) (ids resources : List TypeId) → IsHome h.lent (whole_home types here named ids resources)
home_of types here named entries h ids resources = record { titled = h.titled; ascend = h.ascend; types = h.types; every = h.every }

-- once all types of other interfaces were imported, types and functions may be exported
pub can_export : (types : List TypeDef) (here : InterfaceId) (named : List (List ℕ × TypeId)) (entries : List (List ℕ × Function)) → IsAtHome types here named entries → (ids resources : List TypeId) → AreForeignTypes types here named entries ids →
    CanExport (whole_home types here named ids resources) entries
can_export types here named entries h ids resources f = record {
  types = record { lent = h.lent; known = home_of types here named entries h ids resources; covered = f.types_covered };
  functions = h.functions;
  covered = f.functions_covered;
}

-- functions may be imported, and exported once each type was
module _ (origin : TypeId → Resource) (home : Home) (stage : Stage) (r : Resolve) (es : List (List ℕ × Function)) (same : r.types ≡ home.types) (back : RefersBack r.types) (can : CanExport home es) (has : AllByRecursion (λ e. HasFunction r e.1) es) where
  abbrev test : ℕ → TypeDefKind → Bool
  test = is_at_home home.types can.types.lent home.here

  may_all : AreKnown origin can.types.lent home stage test (λ n k e. e) (length home.types) → AllByRecursion (λ f. allows_function (nested_setting origin home stage) f ≡ true) (functions_of es)
  may_all known = functions_allowed origin can.types.lent home stage test (λ n k e. e) (subst RefersBack same back) known r same es has can.functions can.covered

  pub may_import_all : stage ≡ stages.Importing → IsDistinct bytes_eq (keys_of home.named) → ((n : ℕ) → is_one_of (listed_ids home.named) n ≡ true → is_resource (kind_at home.types n) ≡ true → is_one_of home.resources n ≡ true) →
      AllByRecursion (λ f. allows_function (nested_setting origin home stage) f ≡ true) (functions_of es)
  may_import_all importing apart imported = may_all (known_importing origin can.types.lent home can.types.known stage importing apart imported (length home.types))

  pub may_export_all : AreAllPassed home stage → AllByRecursion (λ f. allows_function (nested_setting origin home stage) f ≡ true) (functions_of es)
  may_export_all passed = may_all (known_exporting origin can.types.lent home can.types.known stage passed.exporting (length home.types) (λ n l e. passed.each n e))

-- the types are exported, and then the functions
pub exports_both : (given : List ℕ → TypeTree) (old mid last : Contents) (types : List NestedExport) (fs : List Function) → Exports given old mid types [] → Exports given mid last (exported fs (scope_of given mid.items).functions) (scope_of given mid.items).functions →
    Exports given old last (types ++ exported fs (scope_of given old.items).functions) (scope_of given old.items).functions
exports_both given old mid last types fs x y =
    let gs = (scope_of given old.items).functions in
    exports_on given old mid last types (exported fs gs) [] gs x (subst (λ hs. Exports given mid last (exported fs hs) hs) (x.items.made ∙ append-nil gs) y)

pub exports_home : (given : List ℕ → TypeTree) (origin : TypeId → Resource) (home here : Home) (fs : List Function) (mid last : Contents) → here ≡ home →
    Exports given mid last (map (exported_type origin here.types) here.named ++ exported fs (scope_of given mid.items).functions) (scope_of given mid.items).functions →
    Exports given mid last (map (exported_type origin home.types) home.named ++ exported fs (scope_of given mid.items).functions) (scope_of given mid.items).functions
exports_home given origin home here fs mid last same h =
    subst (λ (x : Home). Exports given mid last (map (exported_type origin x.types) x.named ++ exported fs (scope_of given mid.items).functions) (scope_of given mid.items).functions) same h

-- ---- what is imported

-- an import of a type that is listed, or of a type of another interface of which this one is made
import_of : (types : List TypeDef) (here : InterfaceId) (named : List (List ℕ × TypeId)) (entries : List (List ℕ × Function)) → AllByRecursion (λ t. IsTitled types here t.1 t.0) named → (ids resources : List TypeId) → AreForeignTypes types here named entries ids →
    (t : TypeImport) → IsImportIn (whole_home types here named ids resources) t → IsImportOf types named entries t
import_of types here named entries titled ids resources f t h = elim h.from [
  | inl listed ↦
      let is : IsTitled types here t.id h.text = AllByRecursion-contains (λ (x : List ℕ × TypeId). IsTitled types here x.1 x.0) named (h.text, t.id) titled listed in
      record {
        within = is.present;
        text = h.text;
        titled = is.named;
        reached = record { each = λ test all functions. AllByRecursion-contains (λ (x : List ℕ × TypeId). type_passes test types x.1) named (h.text, t.id) all listed };
        count = h.count;
        same = h.same;
      }
  | inr there ↦
      record {
        within = named_within types t.id.index h.text there.1;
        text = h.text;
        titled = there.1;
        reached = AllByRecursion-contains (IsReached types named entries) ids t.id f.reached there.0;
        count = h.count;
        same = h.same;
      }
]
  where
    named_within : (ts : List TypeDef) (n : ℕ) (text : List ℕ) → name_at ts n ≡ Some text → n < length ts
    named_within [] n text e = absurd (none-some text e)
    named_within (x ∷ xs) zero text e = omega arith
    named_within (x ∷ xs) (suc n) text e = let l = named_within xs n text e in omega (arith, l)

-- ---- the whole

module _ (given : List ℕ → TypeTree) (origin : TypeId → Resource) (home : Home) (stage : Stage) (entries : List (List ℕ × Function)) (names : List (List ℕ)) (planned : List TypeImport) (first mid : Contents) (none : first.items ≡ [])
    (imports : GrowsBy given origin home stage planned first mid (nested_functions origin home.types (functions_of entries) names)) where
  abbrev fs : List Function
  fs = functions_of entries

  abbrev gs : List NestedFunction
  gs = nested_functions origin home.types fs names

  -- what was imported, after none, is all
  pub functions_made : (scope_of given mid.items).functions ≡ gs
  functions_made = imports.items.made ∙ ap (λ is. (scope_of given is).functions ++ gs) none

  abbrev all_exports : List NestedExport
  all_exports = map (exported_type origin home.types) home.named ++ exported fs gs

  abbrev ts : List TypeImport
  ts = all_among imports.more

  from_none : AllByRecursion (IsImportOf home.types home.named entries) ts → (last : Contents) → ItemsGrow given first.items last.items gs (map (type_given origin home.types) ts) all_exports (gs ++ gs) → PassesOn given origin home.types home.named entries gs ts last.items
  from_none own last g =
      let h : ItemsGrow given [] last.items gs (map (type_given origin home.types) ts) all_exports (gs ++ gs) =
      subst (λ is. ItemsGrow given is last.items gs (map (type_given origin home.types) ts) all_exports (gs ++ gs)) none g in
      record {
        right = subst (λ more. AreItemsRight given empty_scope more) (sym h.grown) h.right;
        functions = ap (λ is. functions_imported (imports_after given empty_scope is)) h.grown ∙ h.imported;
        types = ap (λ is. types_imported (imports_after given empty_scope is)) h.grown ∙ h.typed;
        own = own;
        exports = ap (exports_after given empty_scope) h.grown ∙ h.exported;
      }

  pub whole : AllByRecursion (IsImportOf home.types home.named entries) ts → (last : Contents) → first.taken ≡ map function_entry names ++ map type_entry planned → first.types ≡ [] →
      Exports given mid last (map (exported_type origin home.types) home.named ++ exported fs (scope_of given mid.items).functions) (scope_of given mid.items).functions → ArePassedOn given origin home.types home.named entries names last
  whole own last taken untyped exports =
      let first_types = planned_among imports.more in
      let met = met_among imports.more in
      let tree = type_given origin home.types in
      let later : Exports given mid last all_exports gs =
      subst (λ hs. Exports given mid last (map (exported_type origin home.types) home.named ++ exported fs hs) hs) functions_made exports in
      let joined : ItemsGrow given first.items last.items (gs ++ []) (map tree ts ++ []) all_exports (gs ++ gs) =
      items_on given first.items mid.items last.items gs [] (map tree ts) [] [] all_exports gs gs imports.items later.items in
      record {
        imports = imports.more;
        passes = from_none own last
            (subst (λ xs. ItemsGrow given first.items last.items xs (map tree ts) all_exports (gs ++ gs)) (append-nil gs)
            (subst (λ xs. ItemsGrow given first.items last.items (gs ++ []) xs all_exports (gs ++ gs)) (append-nil (map tree ts)) joined));
        taken = exports.taken ∙ (imports.taken ∙ (ap (λ es. es ++ map type_entry met) taken
            ∙ (append_assoc (map function_entry names) (map type_entry planned) (map type_entry met)
            ∙ ap (λ es. map function_entry names ++ es) (ap (λ xs. map type_entry xs ++ map type_entry met) (sym imports.chosen) ∙ sym (map-append type_entry first_types met)))));
        typed = exports.types ∙ (imports.types ∙ ap (λ xs. xs ++ ts) untyped);
      }

-- functions are imported behind what was imported before
pub imports_all : (given : List ℕ → TypeTree) (origin : TypeId → Resource) (home : Home) (stage : Stage) (entries : List (List ℕ × Function)) (names : List (List ℕ)) (planned : List TypeImport) (first mid last : Contents) → GrowsBy given origin home stage planned first mid [] →
    Grows given origin home stage mid last (nested_functions origin home.types (functions_of entries) names) → GrowsBy given origin home stage planned first last (nested_functions origin home.types (functions_of entries) names)
imports_all given origin home stage entries names planned first mid last x y =
    let gs = nested_functions origin home.types (functions_of entries) names in
    subst (λ ts. GrowsBy given origin home stage ts first last gs) (append-nil planned) (grows_by_on given origin home stage planned [] first mid last [] gs x y)

-- functions and resources are, behind the types of other interfaces
pub imports_two : (given : List ℕ → TypeTree) (origin : TypeId → Resource) (home : Home) (ids : List TypeId) (stage : Stage) (p q : List TypeImport) (first mid last : Contents) (gs : List NestedFunction) → GrowsBy given origin home stage p first mid [] →
    GrowsBy given origin (with_resources home ids) stage q mid last gs → GrowsBy given origin (with_resources home ids) stage (p ++ q) first last gs
imports_two given origin home ids stage p q first mid last gs x y = grows_by_on given origin (with_resources home ids) stage p q first mid last [] gs (grows_owned given origin home ids stage p first mid [] x) y

-- the same of an interface for which types of others were imported
pub whole_of : (given : List ℕ → TypeTree) (origin : TypeId → Resource) (types : List TypeDef) (here : InterfaceId) (named : List (List ℕ × TypeId)) (entries : List (List ℕ × Function)) (at : IsAtHome types here named entries) (ids resources : List TypeId) → AreForeignTypes types here named entries ids →
    (stage : Stage) (names : List (List ℕ)) (planned : List TypeImport) (first mid last : Contents) → first.items ≡ [] → first.taken ≡ map function_entry names ++ map type_entry planned → first.types ≡ [] →
    GrowsBy given origin (whole_home types here named ids resources) stage planned first mid (nested_functions origin types (functions_of entries) names) →
    Exports given mid last (map (exported_type origin types) named ++ exported (functions_of entries) (scope_of given mid.items).functions) (scope_of given mid.items).functions → ArePassedOn given origin types named entries names last
whole_of given origin types here named entries at ids resources f stage names planned first mid last none taken untyped grows exports =
    whole given origin (whole_home types here named ids resources) stage entries names planned first mid none grows
    (AllByRecursion-weaker (import_of types here named entries at.titled ids resources f) (all_among grows.more) grows.own) last taken untyped exports
