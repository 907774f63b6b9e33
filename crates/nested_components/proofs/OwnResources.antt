-- The resources of the interface: which they are, their imports, and that they are in the tables.
use Rattle.std.proofs.Common.{◌≡◌, ◌∙◌, ◌<◌, ◌≤◌, ◌+◌, ◌==◌, arith, inl, inr, ℕ, zero, suc, take, Bool, true, false, true≢false, List, [], ◌∷◌, ◌++◌, length, refl, ap, sym, subst, get_or, append-nil, append_assoc, Option, Some, None, is_some}
use Rattle.std.specs.List.{AllByRecursion}
use Rattle.std.specs.Map.{lookup}
use Rattle.std.proofs.lemmas.Bool.{or_left, or_right, or_cases}
use Rattle.std.proofs.lemmas.Bool.Decides.{Decides-eqb}
use Rattle.std.proofs.lemmas.List.{map-append, take_all, take_more}
use Rattle.std.proofs.lemmas.Option.{same_Some}
use Rattle.comp_lists.proofs.Lists.{AllByRecursion-weaker, AllByRecursion-back}
use Rattle.wit_data.specs.declared.functions.Function.{Function}
use Rattle.wit_data.specs.declared.ids.InterfaceId.{InterfaceId}
use Rattle.wit_data.specs.declared.ids.TypeId.{TypeId}
use Rattle.wit_data.specs.contracts.ids.TypeIdPartialEq.TheImpl as same_id
use Rattle.wit_data.specs.declared.types.Type.TheVariants.{Id}
use Rattle.wit_data.specs.declared.types.TypeDef.{TypeDef}
use Rattle.wit_data.specs.declared.types.TypeOwner.TheVariants as owners
use Rattle.wit_data.specs.Parts.{RefersBack}
use Rattle.wit_data.specs.Values.{kind_at}
use Rattle.comp_bytes.specs.declared.def.Item.{Item}
use Rattle.comp_trees.specs.Trees.{Resource}
use Rattle.comp_trees.specs.WitTrees.{wit_tree}
use Rattle.comp_trees.specs.DefinedTrees.{TypeTree, OfValues}
use Rattle.comp_trees.specs.DefinedScopes.{Denotes}
use Rattle.wit_types.specs.Allowing.{foreign, is_resource}
use Rattle.wit_types.specs.Denoting.{Longer}
use Rattle.wit_types.specs.Maps.{HasIndex, NamedAs, IsNamed}
use Rattle.wit_types.specs.Settings.{owner_at, name_at, tree_in}
use Rattle.wit_types.specs.declared.maps.TypeEncodingMaps.{TypeEncodingMaps}
use Rattle.wit_types.proofs.Growing.{denotes_on, id_found}
use Rattle.type_scopes.specs.Exports.{any_index}
use Rattle.type_scopes.specs.Titles.{IsTitled, is_one_of}
use Rattle.nested_terms.specs.Nested.{NestedScope, NestedFunction}
use Rattle.nested_components.specs.declared.contents.Contents.{Contents}
use Rattle.nested_components.specs.declared.plan.ImportNames.{ImportNames}
use Rattle.nested_components.specs.declared.stage.Stage.{Stage}
use Rattle.nested_components.specs.declared.stage.Stage.TheVariants as stages
use Rattle.nested_components.specs.declared.type_import.TypeImport.{TypeImport}
use Rattle.nested_components.specs.Homes.{Home, with_resources, with_foreign, new_home, nested_setting}
use Rattle.nested_components.specs.Types.{IsAtHome, IsEachListed, imported_ids, listed_ids, own_resources}
use Rattle.nested_components.specs.Growing.{scope_of, AreTablesRight, IsImportIn, GrowsBy, Grows, all_among, IsBoundRight, ImportsPlanned}
use Rattle.nested_components.specs.Following.{grows_none, grows_by_on}
use Rattle.nested_components.specs.Planning.{IsNamedImport, IsPlan, IsGiven, HasName}
use Rattle.nested_components.specs.Resources.{IsOwnResource, HasImport, AreResourcesImported}
use Rattle.nested_components.proofs.ForeignTypes.{resource_tree, type_imported, met_more}

-- ---- one import

pub own_bound : (given : List ℕ → TypeTree) (origin : TypeId → Resource) (home : Home) (s : NestedScope) (t : TypeImport) → RefersBack home.types → IsOwnResource given origin home t → IsBoundRight given s t.name (OfValues (wit_tree origin home.types (Some (Id t.id)))) None
own_bound given origin home s t back own = (own.gives, resource_tree origin home.types t.id back own.within own.resource)

pub own_import : (given : List ℕ → TypeTree) (origin : TypeId → Resource) (home : Home) (t : TypeImport) → IsOwnResource given origin home t → IsImportIn home t
own_import given origin home t own = record { text = own.text; from = inl own.listed; count = own.count; same = own.same }

any_named : (o : Option InterfaceId) (name : Option (List ℕ)) (index : ℕ) → NamedAs any_index o name index
any_named (Some other) name index = tt
any_named None None index = tt
any_named None (Some name) index = tt

pub own_recorded : (origin : TypeId → Resource) (home : Home) (stage : Stage) (id : TypeId) (index : ℕ) → IsNamed (nested_setting origin home stage) any_index id index
own_recorded origin home stage id index = record { as_own = any_named (foreign (Some home.here) (owner_at home.types id.index)) (name_at home.types id.index) index }

pub own_grows : (given : List ℕ → TypeTree) (origin : TypeId → Resource) (home : Home) (stage : Stage) (old new last : Contents) (t : TypeImport) → RefersBack home.types → stage ≡ stages.Importing → IsOwnResource given origin home t → ImportsPlanned old new t None → Grows given origin home stage new last [] →
    GrowsBy given origin home stage (t ∷ []) old last []
own_grows given origin home stage old new last t back importing own is behind =
    grows_by_on given origin home stage (t ∷ []) [] old new last [] []
    (type_imported given origin old new t None home.types (own_bound given origin home (scope_of given old.items) t back own) is home stage refl importing (own_import given origin home t own)) behind

-- ---- the tables, once one was imported and recorded

pub right_owned : (given : List ℕ → TypeTree) (origin : TypeId → Resource) (home : Home) (stage : Stage) (id : TypeId) (is : List Item) (maps : TypeEncodingMaps) → stage ≡ stages.Importing → HasIndex maps id →
    AreTablesRight given origin home stage is maps → AreTablesRight given origin (with_resources home (id ∷ [])) stage is maps
unfolding tree_in
right_owned given origin home stages.Importing id is maps importing recorded h = record {
  ids = h.ids;
  named = AllByRecursion-weaker (λ e n. record { as_own = n.as_own }) maps.id_to_index h.named;
  kinds = h.kinds;
  functions = h.functions;
  met = λ j e. elim (or_cases (is_one_of home.foreign j.index) (is_one_of (home.resources ++ id ∷ []) j.index) e) [
    | inl other ↦ h.met j (or_left (is_one_of home.foreign j.index) (is_one_of home.resources j.index) other)
    | inr one ↦ met_more given origin home id is maps home.resources recorded h (λ i f. or_right (is_one_of home.foreign i.index) (is_one_of home.resources i.index) f) j one
  ];
  offers = h.offers;
}
right_owned given origin home (stages.Exporting last) id is maps importing recorded h = cc

-- ---- one after the other

module _ (given : List ℕ → TypeTree) (origin : TypeId → Resource) where
  -- of an interface for which more resources of its own were imported
  pub grows_owned : (home : Home) (ids : List TypeId) (stage : Stage) (p : List TypeImport) (a b : Contents) (f : List NestedFunction) → GrowsBy given origin home stage p a b f → GrowsBy given origin (with_resources home ids) stage p a b f
  grows_owned home ids stage p a b f g = record {
    more = g.more;
    staged = g.staged;
    chosen = g.chosen;
    taken = g.taken;
    types = g.types;
    own = AllByRecursion-weaker (λ t h. record { text = h.text; from = h.from; count = h.count; same = h.same }) (all_among g.more) g.own;
    items = g.items;
  }

  owned_later : (first : Home) (ids : List TypeId) (t : TypeImport) → IsOwnResource given origin first t → IsOwnResource given origin (with_resources first ids) t
  owned_later first ids t h = record { within = h.within; resource = h.resource; text = h.text; listed = h.listed; count = h.count; same = h.same; gives = h.gives }

  -- once the first of these were imported
  pub record OwnTo (first : Home) (stage : Stage) (old : Contents) (ts : List TypeImport) (count : ℕ) (home : Home) (now : Contents) : Type 0 where
    pub same : home ≡ with_resources first (imported_ids (take count ts))
    pub grows : GrowsBy given origin home stage (take count ts) old now []

  module _ (first : Home) (stage : Stage) (old : Contents) (ts : List TypeImport) where
    pub own_none : OwnTo first stage old ts 0 first old
    own_none = record { same = ap (λ (ids : List TypeId). record first { resources = ids }) (sym (append-nil first.resources)); grows = grows_none given origin first stage old }

    module _ (count : ℕ) (home : Home) (now : Contents) (t : TypeImport) (is : t ≡ get_or ts count t) (within : count < length ts) (h : OwnTo first stage old ts count home now) where
      -- the next one
      pub own_next : AllByRecursion (IsOwnResource given origin first) ts → IsOwnResource given origin home t
      own_next all = subst (λ (x : Home). IsOwnResource given origin x t) (sym h.same) (owned_later first (imported_ids (take count ts)) t (subst (IsOwnResource given origin first) (sym is) (at ts count all within)))
        where
          at : (xs : List TypeImport) (k : ℕ) → AllByRecursion (IsOwnResource given origin first) xs → k < length xs → IsOwnResource given origin first (get_or xs k t)
          at [] k all l = absurd (omega (arith, l))
          at (x ∷ xs) zero all l = all.0
          at (x ∷ xs) (suc k) all l = at xs k all.1 (omega (arith, l))

      pub own_more : (there : Home) (new : Contents) (at : Stage) → there ≡ with_resources home (t.id ∷ []) → at ≡ stage → GrowsBy given origin home at (t ∷ []) now new [] → OwnTo first stage old ts (count + 1) there new
      own_more there new at one still grows =
          let next = with_resources home (t.id ∷ []) in
          let so_far : take (count + 1) ts ≡ take count ts ++ t ∷ [] = take_more ts count t within ∙ ap (λ (x : TypeImport). take count ts ++ x ∷ []) (sym is) in
          let ids : imported_ids (take (count + 1) ts) ≡ imported_ids (take count ts) ++ t.id ∷ [] = ap imported_ids so_far ∙ map-append (λ (x : TypeImport). x.id) (take count ts) (t ∷ []) in
          let all : next ≡ with_resources first (imported_ids (take (count + 1) ts)) =
          ap (λ x. with_resources x (t.id ∷ [])) h.same ∙ (ap (λ (xs : List TypeId). record first { resources = xs }) (append_assoc first.resources (imported_ids (take count ts)) (t.id ∷ [])) ∙ ap (with_resources first) (sym ids)) in
          let both : GrowsBy given origin home stage (take count ts ++ t ∷ []) old new [] =
          grows_by_on given origin home stage (take count ts) (t ∷ []) old now new [] [] h.grows (subst (λ q. GrowsBy given origin home q (t ∷ []) now new []) still grows) in
          record {
            same = one ∙ all;
            grows = subst (λ x. GrowsBy given origin x stage (take (count + 1) ts) old new []) (sym one) (subst (λ xs. GrowsBy given origin next stage xs old new []) (sym so_far) (grows_owned home (t.id ∷ []) stage (take count ts ++ t ∷ []) old new [] both));
          }

    module _ (count : ℕ) (home : Home) (now : Contents) (past : length ts ≤ count) (h : OwnTo first stage old ts count home now) where
      pub own_all : home ≡ with_resources first (imported_ids ts)
      own_all = h.same ∙ ap (λ (xs : List TypeImport). with_resources first (imported_ids xs)) (take_all count ts past)

      pub own_all_grow : GrowsBy given origin home stage ts old now []
      own_all_grow = subst (λ xs. GrowsBy given origin home stage xs old now []) (take_all count ts past) h.grows

-- ---- which they are

-- a resource of the interface
record IsResourceHere (types : List TypeDef) (here : InterfaceId) (id : TypeId) : Type 0 where
  pub within : id.index < length types
  pub owner : owner_at types id.index ≡ owners.Interface here
  pub titled : is_some (name_at types id.index) ≡ true
  pub resource : is_resource (kind_at types id.index) ≡ true

here_each : (types : List TypeDef) (here : InterfaceId) (named : List (List ℕ × TypeId)) → AllByRecursion (λ t. IsTitled types here t.1 t.0) named → AllByRecursion (IsResourceHere types here) (own_resources types named)
here_each types here [] h = tt
here_each types here (e ∷ es) h = by (is_resource (kind_at types e.1.index)) refl (here_each types here es h.1)
  where
    by : (r : Bool) → is_resource (kind_at types e.1.index) ≡ r → AllByRecursion (IsResourceHere types here) (own_resources types es) → AllByRecursion (IsResourceHere types here) (own_resources types (e ∷ es))
    by true is rest = rw is (record { within = h.0.present; owner = h.0.owner; titled = ap is_some h.0.named; resource = is }, rest)
    by false is rest = rw is rest

-- they have names
pub own_have_names : (types : List TypeDef) (here : InterfaceId) (named : List (List ℕ × TypeId)) → AllByRecursion (λ t. IsTitled types here t.1 t.0) named → AllByRecursion (HasName types) (own_resources types named)
own_have_names types here named h = AllByRecursion-weaker (λ id r. record { within = r.within; named = r.titled }) (own_resources types named) (here_each types here named h)

of_ids : (P : TypeId → Type 0) (ts : List TypeImport) → AllByRecursion P (imported_ids ts) → AllByRecursion (λ (t : TypeImport). P t.id) ts
of_ids P [] h = tt
of_ids P (t ∷ ts) h = (h.0, of_ids P ts h.1)

own_each : (given : List ℕ → TypeTree) (origin : TypeId → Resource) (types : List TypeDef) (here : InterfaceId) (named : List (List ℕ × TypeId)) (ids : List TypeId) → IsEachListed types here named → (ts : List TypeImport) → AllByRecursion (λ (t : TypeImport). IsResourceHere types here t.id) ts → AllByRecursion (IsNamedImport types) ts →
    AllByRecursion (IsGiven given origin types) ts → AllByRecursion (IsOwnResource given origin (with_foreign (new_home types here named) ids)) ts
own_each given origin types here named ids every [] r n g = tt
own_each given origin types here named ids every (t ∷ ts) r n g = (
  record {
    within = r.0.within;
    resource = r.0.resource;
    text = n.0.text;
    listed = every.each t.id.index r.0.within r.0.owner n.0.text n.0.titled;
    count = n.0.count;
    same = n.0.same;
    gives = g.0;
  },
  own_each given origin types here named ids every ts r.1 n.1 g.1,
)

-- the resources for whose imports names were chosen
pub own_planned : (given : List ℕ → TypeTree) (origin : TypeId → Resource) (types : List TypeDef) (here : InterfaceId) (named : List (List ℕ × TypeId)) (entries : List (List ℕ × Function)) (ids : List TypeId) → IsAtHome types here named entries → (names : ImportNames) (taken : List (List ℕ × Option TypeId)) →
    IsPlan types here named entries names taken → AllByRecursion (IsGiven given origin types) (names.foreign ++ names.resources) → AllByRecursion (IsOwnResource given origin (with_foreign (new_home types here named) ids)) names.resources
own_planned given origin types here named entries ids h names taken p all =
    own_each given origin types here named ids h.every names.resources (of_ids (IsResourceHere types here) names.resources (subst (AllByRecursion (IsResourceHere types here)) (sym p.resources) (here_each types here named h.titled))) p.own_titled
    (AllByRecursion-back (IsGiven given origin types) names.foreign names.resources all)

-- each resource that is listed is one
pub is_own_listed : (types : List TypeDef) (named : List (List ℕ × TypeId)) (n : ℕ) → is_one_of (listed_ids named) n ≡ true → is_resource (kind_at types n) ≡ true → is_one_of (own_resources types named) n ≡ true
is_own_listed types [] n e r = absurd (true≢false (sym e))
is_own_listed types (x ∷ xs) n e r = elim (or_cases (n == x.1.index) (is_one_of (listed_ids xs) n) e) [
  | inl same ↦ first same
  | inr later ↦ behind (is_resource (kind_at types x.1.index)) refl (is_own_listed types xs n later r)
]
  where
    first : (n == x.1.index) ≡ true → is_one_of (own_resources types (x ∷ xs)) n ≡ true
    first same =
        let is : is_resource (kind_at types x.1.index) ≡ true = ap (λ (k : ℕ). is_resource (kind_at types k)) (sym ((Decides-eqb n x.1.index).0 same)) ∙ r in
        rw is (or_left (n == x.1.index) (is_one_of (own_resources types xs) n) same)

    behind : (b : Bool) → is_resource (kind_at types x.1.index) ≡ b → is_one_of (own_resources types xs) n ≡ true → is_one_of (own_resources types (x ∷ xs)) n ≡ true
    behind true is h = rw is (or_right (n == x.1.index) (is_one_of (own_resources types xs) n) h)
    behind false is h = rw is h

-- so that it is in the tables
pub own_met : (types : List TypeDef) (named : List (List ℕ × TypeId)) (ids : List TypeId) → ids ≡ own_resources types named → (n : ℕ) → is_one_of (listed_ids named) n ≡ true → is_resource (kind_at types n) ≡ true → is_one_of ids n ≡ true
own_met types named ids is n e r = subst (λ (xs : List TypeId). is_one_of xs n ≡ true) (sym is) (is_own_listed types named n e r)

-- ---- their indices

-- the tables of imports have an index for each
pub resources_imported : (given : List ℕ → TypeTree) (origin : TypeId → Resource) (home : Home) (is : List Item) (maps : TypeEncodingMaps) → ((n : ℕ) → is_one_of (listed_ids home.named) n ≡ true → is_resource (kind_at home.types n) ≡ true → is_one_of home.resources n ≡ true) →
    AreTablesRight given origin home stages.Importing is maps → AreResourcesImported given origin home is maps.id_to_index
unfolding tree_in
resources_imported given origin home is maps there h = record { each = λ id listed resource. by id (lookup (same_id.eq-value.it id) maps.id_to_index) refl (h.met id (or_right (is_one_of home.foreign id.index) (is_one_of home.resources id.index) (there id.index listed resource))).there }
  where
    by : (id : TypeId) (o : Option ℕ) → o ≡ lookup (same_id.eq-value.it id) maps.id_to_index → is_some (lookup (same_id.eq-value.it id) maps.id_to_index) ≡ true → HasImport given origin home is maps.id_to_index id
    by id None e some = absurd (true≢false (sym some ∙ ap is_some (sym e)))
    by id (Some index) e some = record { index = index; found = sym e; denotes = id_found id (Some index) h e }

-- they denote the same in what is built behind
pub resources_kept : (given : List ℕ → TypeTree) (origin : TypeId → Resource) (home : Home) (old new : List Item) (imported : List (TypeId × ℕ)) → Longer (scope_of given old).types (scope_of given new).types → AreResourcesImported given origin home old imported → AreResourcesImported given origin home new imported
resources_kept given origin home old new imported longer h = record { each = λ id listed resource. let i = h.each id listed resource in record { index = i.index; found = i.found; denotes = denotes_on longer i.denotes } }

-- the tables of exports don't depend on which resources were imported
pub right_with : (given : List ℕ → TypeTree) (origin : TypeId → Resource) (home : Home) (ids : List TypeId) (last : Option TypeId) (is : List Item) (maps : TypeEncodingMaps) → AreTablesRight given origin home (stages.Exporting last) is maps →
    AreTablesRight given origin (with_resources home ids) (stages.Exporting last) is maps
unfolding tree_in
right_with given origin home ids last is maps h = record {
  ids = h.ids;
  named = AllByRecursion-weaker (λ e n. record { as_own = n.as_own }) maps.id_to_index h.named;
  kinds = h.kinds;
  functions = h.functions;
  met = h.met;
  offers = h.offers;
}

-- what a look-up finds denotes the resource
pub import_at : (given : List ℕ → TypeTree) (origin : TypeId → Resource) (home : Home) (is : List Item) (imported : List (TypeId × ℕ)) (id : TypeId) → HasImport given origin home is imported id → (index : ℕ) → lookup (same_id.eq-value.it id) imported ≡ Some index →
    Denotes (scope_of given is).types index (OfValues (wit_tree origin home.types (Some (Id id))))
import_at given origin home is imported id h index found =
    subst (λ (i : ℕ). Denotes (scope_of given is).types i (OfValues (wit_tree origin home.types (Some (Id id))))) (same_Some h.index index (sym h.found ∙ found)) h.denotes
