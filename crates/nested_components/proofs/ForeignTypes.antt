-- A type of another interface that is imported as equal to its definition, and then others.
use Rattle.std.proofs.Common.{◌≡◌, ◌∙◌, ◌<◌, ◌≤◌, ◌+◌, ◌==◌, ◌||◌, arith, inl, inr, ℕ, suc, take, drop, Bool, true, false, true≢false, List, [], ◌∷◌, ◌++◌, length, refl, ap, sym, subst, get_or, append-nil, append_assoc, Option, Some, None, is_some}
use Rattle.std.specs.List.{AllByRecursion, IsDistinct}
use Rattle.std.specs.Map.{keys_of}
use Rattle.std.specs.Str.{bytes_eq}
use Rattle.std.proofs.lemmas.Bool.{or_left, or_right, or_cases}
use Rattle.std.proofs.lemmas.Bool.Decides.{Decides-eqb}
use Rattle.std.proofs.lemmas.List.{map-append, take_all, take_more}
use Rattle.std.proofs.lemmas.List.Elements.{Contains-append_right}
use Rattle.std.proofs.Math.Seq.{drop-cons}
use Rattle.comp_lists.proofs.Lists.{AllByRecursion-weaker, AllByRecursion-front}
use Rattle.wit_data.specs.declared.functions.Function.{Function}
use Rattle.wit_data.specs.declared.ids.InterfaceId.{InterfaceId}
use Rattle.wit_data.specs.declared.ids.TypeId.{TypeId}
use Rattle.wit_data.specs.declared.types.Type.TheVariants.{Id}
use Rattle.wit_data.specs.declared.types.TypeDef.{TypeDef}
use Rattle.wit_data.specs.Parts.{RefersBack}
use Rattle.wit_data.specs.Values.{kind_at, part_values}
use Rattle.wit_data.proofs.Values.{made_whole}
use Rattle.wit_data.specs.declared.types.TypeDefKind.{TypeDefKind}
use Rattle.wit_data.specs.declared.types.TypeDefKind.TheVariants as kinds
use Rattle.comp_bytes.specs.declared.def.Item.{Item}
use Rattle.comp_trees.specs.Trees.{Resource, ResourceAt, DefinedAt, Tree}
use Rattle.comp_trees.specs.WitTrees.{wit_tree, kind_tree, making_trees}
use Rattle.comp_trees.specs.DefinedTrees.{TypeTree, OfValues}
use Rattle.comp_trees.specs.DefinedScopes.{Denotes}
use Rattle.wit_types.specs.Allowing.{is_resource}
use Rattle.wit_types.specs.Maps.{HasIndex, NamedAs, IsNamed}
use Rattle.wit_types.specs.Settings.{name_at, tree_in}
use Rattle.wit_types.specs.declared.maps.TypeEncodingMaps.{TypeEncodingMaps}
use Rattle.type_scopes.specs.Exports.{any_index}
use Rattle.type_scopes.specs.Needs.{is_at_home}
use Rattle.type_scopes.specs.Titles.{is_one_of}
use Rattle.foreign_types.specs.Foreign.{AreReadyAfter, type_passes, AreForeignTypes}
use Rattle.nested_terms.specs.Nested.{NestedScope, ImportedType, with_item, functions_imported, types_imported, imports_after, exports_after, IsOfResource, IsItemRight}
use Rattle.nested_components.specs.declared.contents.Contents.{Contents}
use Rattle.nested_components.specs.declared.stage.Stage.{Stage}
use Rattle.nested_components.specs.declared.stage.Stage.TheVariants as stages
use Rattle.nested_components.specs.declared.plan.ImportNames.{ImportNames}
use Rattle.nested_components.specs.declared.type_import.TypeImport.{TypeImport}
use Rattle.nested_components.specs.Counts.{types_in}
use Rattle.nested_components.specs.Homes.{Home, IsHome, is_met, with_foreign, new_home, nested_setting, MayImport}
use Rattle.nested_components.specs.Types.{IsAtHome, AreResourcesLater, is_home_before, imported_ids}
use Rattle.nested_components.specs.Foreign.{IsForeignType, AreUsableAfter, AreUsable, HasParts}
use Rattle.nested_components.specs.Planning.{HasName, IsNamedImport, IsPlan, IsGiven}
use Rattle.nested_components.specs.Growing.{scope_of, AreTablesRight, IsImportIn, GrowsBy, Grows, type_item, IsBoundRight, ImportsPlanned}
use Rattle.nested_components.specs.Following.{grows_none, grows_by_on, grows_later}
use Rattle.nested_components.proofs.AtHome.{parts_defined, known_first, home_before, foreign_named}
use Rattle.nested_components.proofs.OneFunction.{tables_longer}
use Rattle.nested_components.proofs.Scoping.{scope_more, types_more, denotes_new}

-- ---- the import of a type

import_made_type : (given : List ℕ → TypeTree) (s : NestedScope) (name : List ℕ) (tree : TypeTree) (equal : Option ℕ) → IsBoundRight given s name tree equal → (with_item given s (type_item name equal)).types ≡ s.types ++ tree ∷ []
import_made_type given s name tree (Some index) h = ap (λ t. s.types ++ t ∷ []) h.tree
import_made_type given s name tree None h = ap (λ t. s.types ++ t ∷ []) h.0

import_no_function : (given : List ℕ → TypeTree) (s : NestedScope) (name : List ℕ) (equal : Option ℕ) → (with_item given s (type_item name equal)).functions ≡ s.functions ++ []
import_no_function given s name (Some index) = refl
import_no_function given s name None = refl

import_right : (given : List ℕ → TypeTree) (s : NestedScope) (name : List ℕ) (tree : TypeTree) (equal : Option ℕ) → IsBoundRight given s name tree equal → IsItemRight given s (type_item name equal)
import_right given s name tree (Some index) h = h.within
import_right given s name tree None h = subst IsOfResource (sym h.0) h.1

import_seen : (given : List ℕ → TypeTree) (s : NestedScope) (name : List ℕ) (tree : TypeTree) (equal : Option ℕ) → IsBoundRight given s name tree equal → imports_after given s (type_item name equal ∷ []) ≡ ImportedType name tree ∷ []
import_seen given s name tree (Some index) h = ap (λ t. ImportedType name t ∷ []) h.tree
import_seen given s name tree None h = ap (λ t. ImportedType name t ∷ []) h.0

import_no_export : (given : List ℕ → TypeTree) (s : NestedScope) (name : List ℕ) (equal : Option ℕ) → exports_after given s (type_item name equal ∷ []) ≡ []
import_no_export given s name (Some index) = refl
import_no_export given s name None = refl

-- what is a resource of the resolve
pub resource_tree : (origin : TypeId → Resource) (types : List TypeDef) (id : TypeId) → RefersBack types → id.index < length types → is_resource (kind_at types id.index) ≡ true → IsOfResource (OfValues (wit_tree origin types (Some (Id id))))
resource_tree origin types id back within e =
    record { resource = origin id; same = ap OfValues (made_whole (making_trees origin) types id.index back within ∙ by (kind_at types id.index) (part_values (making_trees origin) types id.index) e) }
  where
    by : (k : TypeDefKind) (ts : List Tree) → is_resource k ≡ true → kind_tree origin id.index k ts ≡ ResourceAt (origin id)
    by kinds.Resource ts e = refl
    by k ts e = absurd (true≢false (sym e))

-- ---- one import

module _ (given : List ℕ → TypeTree) (origin : TypeId → Resource) (mid new : Contents) (t : TypeImport) (equal : Option ℕ) (types : List TypeDef)
    (bound : IsBoundRight given (scope_of given mid.items) t.name (OfValues (wit_tree origin types (Some (Id t.id)))) equal) (is : ImportsPlanned mid new t equal) where
  abbrev import : Item
  import = type_item t.name equal

  abbrev tree : TypeTree
  tree = OfValues (wit_tree origin types (Some (Id t.id)))

  abbrev scope : NestedScope
  scope = scope_of given mid.items

  makes : (with_item given scope import).types ≡ scope.types ++ tree ∷ []
  makes = import_made_type given scope t.name tree equal bound

  -- the index of the import denotes the type
  pub import_denotes : (all : List TypeDef) → all ≡ types → (at : ℕ) → at ≡ types_in mid.items → Denotes (scope_of given new.items).types at (OfValues (wit_tree origin all (Some (Id t.id))))
  import_denotes all same at counted =
      subst (λ (ts : List TypeDef). Denotes (scope_of given new.items).types at (OfValues (wit_tree origin ts (Some (Id t.id))))) (sym same)
      (denotes_new given mid.items new.items import tree makes is.items at counted)

  pub import_tables : (home here : Home) (stage there : Stage) (maps now : TypeEncodingMaps) → here ≡ home → there ≡ stage → now ≡ maps → AreTablesRight given origin here there mid.items maps → AreTablesRight given origin home stage new.items now
  import_tables home here stage there maps now same still kept right =
      tables_longer given origin home here stage there mid.items new.items maps now same still kept right
      (record { more = tree ∷ []; longer = (types_more given mid.items new.items import tree makes is.items).added })

  -- what grows by it
  pub type_imported : (home : Home) (stage : Stage) → home.types ≡ types → stage ≡ stages.Importing → IsImportIn home t → GrowsBy given origin home stage (t ∷ []) mid new []
  type_imported home stage same importing own =
      let seen = import_seen given scope t.name tree equal bound in
      record {
        more = (true, t) ∷ [];
        staged = subst (λ s. MayImport s ((true, t) ∷ [])) (sym importing) tt;
        chosen = refl;
        taken = is.taken ∙ sym (append-nil mid.taken);
        types = is.types;
        own = (own, tt);
        items = record {
          more = import ∷ [];
          grown = is.items;
          right = (import_right given scope t.name tree equal bound, tt);
          imported = ap functions_imported seen;
          typed = ap types_imported seen ∙ ap (λ (ts : List TypeDef). (t.name, OfValues (wit_tree origin ts (Some (Id t.id)))) ∷ []) (sym same);
          exported = import_no_export given scope t.name equal;
          made = ap (λ (s : NestedScope). s.functions) (scope_more given mid.items new.items import is.items) ∙ import_no_function given scope t.name equal;
        };
      }

  -- with what was defined before it, and behind it nothing
  pub import_grows : (home : Home) (stage : Stage) → home.types ≡ types → stage ≡ stages.Importing → IsImportIn (with_foreign home (t.id ∷ [])) t → (old last : Contents) → Grows given origin home stage old mid [] → Grows given origin home stage new last [] →
      GrowsBy given origin (with_foreign home (t.id ∷ [])) stage (t ∷ []) old last []
  import_grows home stage same importing own old last before behind =
      let h = with_foreign home (t.id ∷ []) in
      grows_by_on given origin h stage [] (t ∷ []) old mid last [] [] (grows_later given origin home (t.id ∷ []) stage [] old mid [] before)
      (grows_by_on given origin h stage (t ∷ []) [] mid new last [] [] (type_imported h stage same importing own) (grows_later given origin home (t.id ∷ []) stage [] new last [] behind))

-- an import of a type of another interface
pub foreign_import : (home : Home) (t : TypeImport) → IsNamedImport home.types t → IsImportIn (with_foreign home (t.id ∷ [])) t
foreign_import home t n = record {
  text = n.text;
  from = inr (Contains-append_right home.foreign (t.id ∷ []) t.id (0, omega arith, refl), n.titled);
  count = n.count;
  same = n.same;
}

-- a type of another interface has its index under no name that is asked for
pub foreign_recorded : (origin : TypeId → Resource) (home : Home) (stage : Stage) (id : TypeId) (index : ℕ) → IsForeignType home.types home.here id → IsNamed (nested_setting origin home stage) any_index id index
foreign_recorded origin home stage id index f = record { as_own = subst (λ o. NamedAs any_index o (name_at home.types id.index) index) (sym f.owner) tt }

-- ---- the tables, once a type of another interface was imported and recorded

one_more : (ids : List TypeId) (id : TypeId) (n : ℕ) → is_one_of (ids ++ id ∷ []) n ≡ true → (is_one_of ids n || (n == id.index)) ≡ true
one_more [] id n e = elim (or_cases (n == id.index) false e) [
  | inl same ↦ same
  | inr never ↦ absurd (true≢false (sym never))
]
one_more (x ∷ xs) id n e = elim (or_cases (n == x.index) (is_one_of (xs ++ id ∷ []) n) e) [
  | inl here ↦ or_left (is_one_of (x ∷ xs) n) (n == id.index) (or_left (n == x.index) (is_one_of xs n) here)
  | inr later ↦ by (n == x.index) (one_more xs id n later)
]
  where
    by : (b : Bool) → (is_one_of xs n || (n == id.index)) ≡ true → ((b || is_one_of xs n) || (n == id.index)) ≡ true
    by true h = refl
    by false h = h

-- those that were in the tables still are, and one more is
pub met_more : (given : List ℕ → TypeTree) (origin : TypeId → Resource) (home : Home) (id : TypeId) (is : List Item) (maps : TypeEncodingMaps) (ids : List TypeId) → HasIndex maps id → AreTablesRight given origin home stages.Importing is maps →
    ((i : TypeId) → is_one_of ids i.index ≡ true → is_met stages.Importing home i ≡ true) → (j : TypeId) → is_one_of (ids ++ id ∷ []) j.index ≡ true → HasIndex maps j
met_more given origin home id is maps ids recorded h met j e = elim (or_cases (is_one_of ids j.index) (j.index == id.index) (one_more ids id j.index e)) [
  | inl before ↦ h.met j (met j before)
  | inr same ↦ subst (λ (n : ℕ). HasIndex maps (record { index = n })) (sym ((Decides-eqb j.index id.index).0 same)) recorded
]

pub right_imported : (given : List ℕ → TypeTree) (origin : TypeId → Resource) (home : Home) (stage : Stage) (id : TypeId) (is : List Item) (maps : TypeEncodingMaps) → stage ≡ stages.Importing → HasIndex maps id →
    AreTablesRight given origin home stage is maps → AreTablesRight given origin (with_foreign home (id ∷ [])) stage is maps
unfolding tree_in
right_imported given origin home stages.Importing id is maps importing recorded h = record {
  ids = h.ids;
  named = AllByRecursion-weaker (λ e n. record { as_own = n.as_own }) maps.id_to_index h.named;
  kinds = h.kinds;
  functions = h.functions;
  met = λ j e. elim (or_cases (is_one_of (home.foreign ++ id ∷ []) j.index) (is_one_of home.resources j.index) e) [
    | inl one ↦ met_more given origin home id is maps home.foreign recorded h (λ i f. or_left (is_one_of home.foreign i.index) (is_one_of home.resources i.index) f) j one
    | inr own ↦ h.met j (or_right (is_one_of home.foreign j.index) (is_one_of home.resources j.index) own)
  ];
  offers = h.offers;
}
right_imported given origin home (stages.Exporting last) id is maps importing recorded h = cc

-- ---- several

-- an interface for which types were imported, one after the other
pub with_more : (home : Home) (xs ys : List TypeId) → with_foreign (with_foreign home xs) ys ≡ with_foreign home (xs ++ ys)
with_more home xs ys = ap (λ (ids : List TypeId). record home { foreign = ids }) (append_assoc home.foreign xs ys)

pub with_none : (home : Home) → home ≡ with_foreign home []
with_none home = ap (λ (ids : List TypeId). record home { foreign = ids }) (sym (append-nil home.foreign))

pub back_of : (first home : Home) (types : List TypeDef) (ids : List TypeId) → home ≡ with_foreign first ids → first.types ≡ types → RefersBack types → RefersBack home.types
back_of first home types ids same is back = subst RefersBack (sym (ap (λ (h : Home). h.types) same ∙ is)) back

known_later : (lent : ℕ → Bool) (home : Home) (ids : List TypeId) → IsHome lent home → IsHome lent (with_foreign home ids)
known_later lent home ids h = record { titled = h.titled; ascend = h.ascend; types = h.types; every = h.every }

module _ (given : List ℕ → TypeTree) (origin : TypeId → Resource) where
  -- after one of them, the others can be imported
  pub usable_rest : (home : Home) (t : TypeImport) (ts : List TypeImport) → AreUsable given origin home (t ∷ ts) → AreUsable given origin (with_foreign home (t.id ∷ [])) ts
  usable_rest home t ts u = record { lent = u.lent; known = known_later u.lent home (t.id ∷ []) u.known; apart = u.apart; each = u.each.1; named = u.named.1; gives = u.gives.1 }

  -- the next one is a type of another interface, and its parts may be defined
  pub next_foreign : (home : Home) (t : TypeImport) (ts : List TypeImport) → RefersBack home.types → AreUsable given origin home (t ∷ ts) → IsForeignType home.types home.here t.id
  next_foreign home t ts back u =
      let one = u.each.0 in
      record {
        within = one.ready.within;
        named = foreign_named (λ i. DefinedAt 0) u.lent home stages.Importing (is_home_before home.types u.lent home.here) (home_before home.types u.lent home.here) back t.id one.ready.other one.ready.within one.passes one.ready.owner;
        other = one.ready.other;
        owner = one.ready.owner;
      }

  pub next_parts : (home : Home) (stage : Stage) (t : TypeImport) (ts : List TypeImport) (types : List TypeDef) → home.types ≡ types → RefersBack types → stage ≡ stages.Importing → AreUsable given origin home (t ∷ ts) → HasParts (nested_setting origin home stage) (kind_at types t.id.index)
  next_parts home stage t ts types same back importing u =
      let one = u.each.0 in
      subst (λ (xs : List TypeDef). HasParts (nested_setting origin home stage) (kind_at xs t.id.index)) same
      (parts_defined origin u.lent home stage (is_home_before home.types u.lent home.here) (home_before home.types u.lent home.here) (subst RefersBack (sym same) back) t.id one.ready.within
      (known_first origin u.lent home u.known stage importing u.apart t.id.index) one.passes one.ready.parts)

-- those that an interface reaches can be imported for it
usable_each : (types : List TypeDef) (lent : ℕ → Bool) (here : InterfaceId) (before ids : List TypeId) → AreResourcesLater types lent here → AreReadyAfter types here before ids → AllByRecursion (λ id. type_passes (is_at_home types lent here) types id) ids → AreUsableAfter types lent here before ids
usable_each types lent here before [] later ready passes = tt
usable_each types lent here before (id ∷ ids) later ready passes =
    (record { ready = ready.0; passes = later.each id ready.0.within (ap is_some ready.0.owner) passes.0 }, usable_each types lent here (before ++ id ∷ []) ids later ready.1 passes.1)

pub usable_ids : (types : List TypeDef) (here : InterfaceId) (named : List (List ℕ × TypeId)) (entries : List (List ℕ × Function)) (h : IsAtHome types here named entries) (ids : List TypeId) → AreForeignTypes types here named entries ids → AreUsableAfter types h.lent here [] ids
usable_ids types here named entries h ids f = usable_each types h.lent here [] ids h.later f.ready (AllByRecursion-weaker (λ id r. r.each (is_at_home types h.lent here) h.types h.functions) ids f.reached)

pub usable_all : (given : List ℕ → TypeTree) (origin : TypeId → Resource) (types : List TypeDef) (here : InterfaceId) (named : List (List ℕ × TypeId)) (entries : List (List ℕ × Function)) → IsAtHome types here named entries → IsDistinct bytes_eq (keys_of named) →
    (names : ImportNames) (taken : List (List ℕ × Option TypeId)) → IsPlan types here named entries names taken → AllByRecursion (IsGiven given origin types) (names.foreign ++ names.resources) → AreUsable given origin (new_home types here named) names.foreign
usable_all given origin types here named entries h apart names taken p all = record {
  lent = h.lent;
  known = record { titled = h.titled; ascend = h.ascend; types = h.types; every = h.every };
  apart = apart;
  each = usable_ids types here named entries h (imported_ids names.foreign) p.foreign;
  named = p.titled;
  gives = AllByRecursion-front (IsGiven given origin types) names.foreign names.resources all;
}

-- they have names
names_each : (home : Home) (lent : ℕ → Bool) (before ids : List TypeId) → RefersBack home.types → AreUsableAfter home.types lent home.here before ids → AllByRecursion (HasName home.types) ids
names_each home lent before [] back u = tt
names_each home lent before (id ∷ ids) back u =
    let one = u.0 in (
      record { within = one.ready.within; named = foreign_named (λ i. DefinedAt 0) lent home stages.Importing (is_home_before home.types lent home.here) (home_before home.types lent home.here) back id one.ready.other one.ready.within one.passes one.ready.owner },
      names_each home lent (before ++ id ∷ []) ids back u.1,
    )

pub all_have_names : (types : List TypeDef) (here : InterfaceId) (named : List (List ℕ × TypeId)) (entries : List (List ℕ × Function)) → RefersBack types → IsAtHome types here named entries → (ids : List TypeId) → AreForeignTypes types here named entries ids → AllByRecursion (HasName types) ids
all_have_names types here named entries back h ids f = names_each (new_home types here named) h.lent [] ids back (usable_ids types here named entries h ids f)

-- ---- one after the other

-- once the first of these were imported
pub record ImportedTo (given : List ℕ → TypeTree) (origin : TypeId → Resource) (first : Home) (stage : Stage) (old : Contents) (ts : List TypeImport) (count : ℕ) (home : Home) (now : Contents) : Type 0 where
  pub same : home ≡ with_foreign first (imported_ids (take count ts))
  pub usable : AreUsable given origin home (drop count ts)
  pub grows : GrowsBy given origin home stage (take count ts) old now []

module _ (given : List ℕ → TypeTree) (origin : TypeId → Resource) (first : Home) (stage : Stage) (old : Contents) (ts : List TypeImport) where
  pub imported_none : AreUsable given origin first ts → ImportedTo given origin first stage old ts 0 first old
  imported_none usable = record { same = with_none first; usable = usable; grows = grows_none given origin first stage old }

  module _ (count : ℕ) (home : Home) (now : Contents) (t : TypeImport) (is : t ≡ get_or ts count t) (within : count < length ts) (h : ImportedTo given origin first stage old ts count home now) where
    rest : drop count ts ≡ t ∷ drop (count + 1) ts
    rest =
        let one : suc count ≡ count + 1 = omega arith in
        drop-cons ts count t within ∙ (ap (λ (x : TypeImport). x ∷ drop (suc count) ts) (sym is) ∙ ap (λ n. t ∷ drop n ts) one)

    -- the next one
    pub usable_next : AreUsable given origin home (t ∷ drop (count + 1) ts)
    usable_next = subst (AreUsable given origin home) rest h.usable

    pub imported_more : (there : Home) (new : Contents) (at : Stage) → there ≡ with_foreign home (t.id ∷ []) → at ≡ stage → GrowsBy given origin (with_foreign home (t.id ∷ [])) at (t ∷ []) now new [] → ImportedTo given origin first stage old ts (count + 1) there new
    imported_more there new at one still grows =
        let next = with_foreign home (t.id ∷ []) in
        let so_far : take (count + 1) ts ≡ take count ts ++ t ∷ [] = take_more ts count t within ∙ ap (λ (x : TypeImport). take count ts ++ x ∷ []) (sym is) in
        let ids : imported_ids (take (count + 1) ts) ≡ imported_ids (take count ts) ++ t.id ∷ [] = ap imported_ids so_far ∙ map-append (λ (x : TypeImport). x.id) (take count ts) (t ∷ []) in
        let all : next ≡ with_foreign first (imported_ids (take (count + 1) ts)) =
        ap (λ x. with_foreign x (t.id ∷ [])) h.same ∙ (with_more first (imported_ids (take count ts)) (t.id ∷ []) ∙ ap (with_foreign first) (sym ids)) in
        let both : GrowsBy given origin next stage (take count ts ++ t ∷ []) old new [] =
        grows_by_on given origin next stage (take count ts) (t ∷ []) old now new [] [] (grows_later given origin home (t.id ∷ []) stage (take count ts) old now [] h.grows) (subst (λ q. GrowsBy given origin next q (t ∷ []) now new []) still grows) in
        record {
          same = one ∙ all;
          usable = subst (λ x. AreUsable given origin x (drop (count + 1) ts)) (sym one) (usable_rest given origin home t (drop (count + 1) ts) usable_next);
          grows = subst (λ x. GrowsBy given origin x stage (take (count + 1) ts) old new []) (sym one) (subst (λ xs. GrowsBy given origin next stage xs old new []) (sym so_far) both);
        }

  module _ (count : ℕ) (home : Home) (now : Contents) (past : length ts ≤ count) (h : ImportedTo given origin first stage old ts count home now) where
    pub imported_all : home ≡ with_foreign first (imported_ids ts)
    imported_all = h.same ∙ ap (λ (xs : List TypeImport). with_foreign first (imported_ids xs)) (take_all count ts past)

    pub imported_grows : GrowsBy given origin home stage ts old now []
    imported_grows = subst (λ xs. GrowsBy given origin home stage xs old now []) (take_all count ts past) h.grows
