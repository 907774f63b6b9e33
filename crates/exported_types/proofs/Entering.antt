-- The types of an exported interface, entered one after the other in the order of the resolve.
use Rattle.std.proofs.Common.{◌≡◌, ◌∙◌, ◌<◌, ◌≤◌, inl, inr, arith, ℕ, suc, true, List, [], ◌∷◌, ◌++◌, map, filter, Some, Contains, refl, sym, ap, subst, append_assoc, append-nil}
use Rattle.std.specs.Prelude.{nat_lt}
use Rattle.std.specs.List.{AllByRecursion}
use Rattle.std.proofs.lemmas.Bool.{lt-ltb}
use Rattle.std.proofs.lemmas.List.{map-append, length-map}
use Rattle.std.proofs.lemmas.List.Elements.{Contains-append_cases, Contains-append_left, Contains-append_right, filter-append}
use Rattle.comp_lists.proofs.Lists.{AllByRecursion-contains, AllByRecursion-push, AllByRecursion-weaker, Contains-map}
use Rattle.comp_bytes.specs.declared.def.Def.{Def}
use Rattle.comp_inventories.specs.Inventories.{inventory}
use Rattle.wit_data.specs.Live.{named_types}
use Rattle.wit_data.specs.declared.ids.InterfaceId.{InterfaceId}
use Rattle.wit_data.specs.declared.ids.TypeId.{TypeId}
use Rattle.wit_data.specs.declared.types.TypeDef.{TypeDef}
use Rattle.type_scopes.specs.Titles.{AscendFrom}
use Rattle.comp_worlds.specs.Encodable.{IsEncodable, IsListedType}
use Rattle.comp_worlds.specs.ExportOrder.{used_exports}
use Rattle.comp_worlds.specs.WorldContents.{interface_at, name_at}
use Rattle.comp_worlds.specs.declared.world.ComponentWorld.{ComponentWorld}
use Rattle.comp_links.specs.Lists.{provided_resources}
use Rattle.comp_links.specs.Targets.{UserModule}
use Rattle.comp_terms.specs.Rules.{Grows, Landmark, ResourceDefined}
use Rattle.interface_needs.specs.RootNeeds.{IsExportedInterface}
use Rattle.interface_needs.proofs.ExportedInterfaces.{exported_ascend, listed_owner, usable_listed}
use Rattle.interface_needs.proofs.Lists.{contains_first, contains_later, contains_none}
use Rattle.root_imports.specs.Growing.{Grows-none, Grows-then, longer_by}
use Rattle.root_imports.specs.Keeping.{Root, RootMoved}
use Rattle.root_imports.specs.Met.{has_types, is_entered, is_met, is_named_of, AreAllMet, IsNextOwn}
use Rattle.root_imports.specs.declared.met_types.MetTypes.{MetTypes}
use Rattle.root_imports.proofs.ExportedTypes.{named_within}
use Rattle.root_imports.proofs.Keeping.{moved_then}
use Rattle.root_imports.proofs.ListedTypes.{found_contains}
use Rattle.root_imports.proofs.Meeting.{and_both, listed_is_met, listed_met, named_parts, named_whole, or_right, owner_found, some_is}
use Rattle.exported_types.specs.ExportedTypes.{IsDefinedType, is_own, provided_by, resource_mark, resource_marks, AreNextResources, IsNextListed}
use Rattle.exported_types.proofs.Defining.{defined-kept}
use Rattle.exported_types.proofs.Resourced.{all_defined, filtered_at, next_at, resources_grown}

-- ---- numbers that ascend

ascend_least : (k : ℕ) (ids : List TypeId) (x : TypeId) → AscendFrom k ids → Contains ids x → k ≤ x.index
ascend_least k [] x h c = contains_none x c
ascend_least k (t ∷ ts) x h c = elim (Rattle.interface_needs.proofs.Lists.contains_cons t ts x c) [
  | inl same ↦ subst (λ (z : TypeId). k ≤ z.index) same h.0
  | inr later ↦ (let l = ascend_least (suc t.index) ts x h.1 later in let first = h.0 in omega (arith, l, first))
]

ascend_before : (k : ℕ) (done : List TypeId) (t : TypeId) (rest : List TypeId) → AscendFrom k (done ++ t ∷ rest) → AllByRecursion (λ d. d.index < t.index) done
ascend_before k [] t rest h = tt
ascend_before k (d ∷ ds) t rest h =
    let l = ascend_least (suc d.index) (ds ++ t ∷ rest) t h.1 (Contains-append_right ds (t ∷ rest) t (contains_first t rest)) in (omega (arith, l), ascend_before (suc d.index) ds t rest h.1)

ascend_after : (k : ℕ) (done : List TypeId) (t : TypeId) (rest : List TypeId) (x : TypeId) → AscendFrom k (done ++ t ∷ rest) → Contains (t ∷ rest) x → t.index ≤ x.index
ascend_after k [] t rest x h c = ascend_least t.index (t ∷ rest) x (omega arith, h.1) c
ascend_after k (d ∷ ds) t rest x h c = ascend_after (suc d.index) ds t rest x h.1 c

-- ---- those of one interface

abbrev Listed : Type 0
Listed = List (List ℕ × TypeId)

abbrev ids_of : Listed → List TypeId
ids_of listed = map (λ (t : List ℕ × TypeId). t.1) listed

abbrev pub AreDefined : ComponentWorld → List Def → Listed → Type 0
AreDefined w ds listed = AllByRecursion (λ t. IsDefinedType w ds t.1) listed

-- the types before the rest are defined, and entered
pub record ListedSoFar (w : ComponentWorld) (old new : Root) (all rest : Listed) : Type 0 where
  pub moved : RootMoved w old new
  pub same : new.met ≡ record old.met { own = new.met.own }
  pub done : Listed
  pub parts : all ≡ done ++ rest
  pub grows : Grows w old.items.defs new.items.defs (resource_marks w done)
  pub defined : AreDefined w new.items.defs done
  pub entered : AllByRecursion (λ t. is_met w new.met t.1 ≡ true) done

pub listed_start : (w : ComponentWorld) (root : Root) (all : Listed) → RootMoved w root root → ListedSoFar w root root all all
listed_start w root all moved = record { moved = moved; same = refl; done = []; parts = refl; grows = Grows-none w root.items.defs; defined = tt; entered = tt }

module _ (w : ComponentWorld) (ok : IsEncodable w) (id : InterfaceId) (exported : IsExportedInterface w id) where
  abbrev all : Listed
  all = named_types w.resolve id

  abbrev types : List TypeDef
  types = w.resolve.types

  -- one that is listed belongs to the interface, and has a name
  listed_named : (t : List ℕ × TypeId) → Contains all t → is_named_of types id t.1.index ≡ true
  listed_named t c =
      let there : Contains (ids_of all) t.1 = Contains-map (λ (e : List ℕ × TypeId). e.1) all t c in
      named_whole types id t.1.index (some_is (name_at types t.1.index) (usable_listed w ok id exported t.1 there).named) (listed_owner w ok id exported t.1 there)

  -- one that belongs to it and has a name is listed
  named_listed : (n : ℕ) → is_named_of types id n ≡ true → (name : List ℕ) × Contains all (name, record { index = n })
  named_listed n named =
      let parts = named_parts types id n named in
      let l : IsListedType w.resolve id n = (ok.types n (named_within types n parts.0)).listed id parts.1 in
      (l.name, found_contains l.name (record { index = n }) all l.listed)

  ascend : AscendFrom 0 (ids_of all)
  ascend = exported_ascend w ok id exported

  module _ (old mid : Root) (t : List ℕ × TypeId) (rest : Listed) (h : ListedSoFar w old mid all (t ∷ rest)) where
    listed : Contains all t
    listed = subst (λ (l : Listed). Contains l t) (sym h.parts) (Contains-append_right h.done (t ∷ rest) t (contains_first t rest))

    listed_id : Contains (ids_of all) t.1
    listed_id = Contains-map (λ (e : List ℕ × TypeId). e.1) all t listed

    split : ids_of all ≡ ids_of h.done ++ t.1 ∷ ids_of rest
    split = ap ids_of h.parts ∙ map-append (λ (e : List ℕ × TypeId). e.1) h.done (t ∷ rest)

    split_ascend : AscendFrom 0 (ids_of h.done ++ t.1 ∷ ids_of rest)
    split_ascend = subst (AscendFrom 0) split ascend

    -- those that come before it in the resolve are met
    earlier : (n : ℕ) → n < t.1.index → is_named_of types id n ≡ true → is_met w mid.met (record { index = n }) ≡ true
    earlier n less named =
        let l = named_listed n named in
        elim (Contains-append_cases h.done (t ∷ rest) (l.0, record { index = n }) (subst (λ (xs : Listed). Contains xs (l.0, record { index = n })) h.parts l.1)) [
          | inl before ↦ AllByRecursion-contains (λ (e : List ℕ × TypeId). is_met w mid.met e.1 ≡ true) h.done (l.0, record { index = n }) h.entered before
          | inr later ↦ (
              let behind = ascend_after 0 (ids_of h.done) t.1 (ids_of rest) (record { index = n }) split_ascend (Contains-map (λ (e : List ℕ × TypeId). e.1) (t ∷ rest) (l.0, record { index = n }) later) in absurd (omega (arith, less, behind)))
        ]

    pub next_own : IsNextOwn w mid.met t.1
    next_own = record { id = id; own = listed_owner w ok id exported t.1 listed_id; earlier = earlier }

    pub next_listed : (of : UserModule) → AllByRecursion (λ other. has_types old.met other ≡ true) (used_exports w id) → AreNextResources w old.items.defs of all → IsNextListed w mid.met mid.items.defs of id t.1
    unfolding next_own
    next_listed of uses resources = record {
      usable = usable_listed w ok id exported t.1 listed_id;
      uses = subst (λ (m : MetTypes). AllByRecursion (λ other. has_types m other ≡ true) (used_exports w id)) (sym h.same) uses;
      order = next_own;
      owner = refl;
      resource = λ own.
          let filtered : filter (is_own w) (ids_of all) ≡ filter (is_own w) (ids_of h.done) ++ t.1 ∷ filter (is_own w) (ids_of rest) = ap (filter (is_own w)) split ∙ filtered_at (is_own w) (ids_of h.done) t.1 (ids_of rest) own in
          let done : List TypeId = filter (is_own w) (ids_of h.done) in
          let later : List TypeId = filter (is_own w) (ids_of rest) in
          let given : map (provided_by of) (filter (is_own w) (ids_of all)) ≡ map (provided_by of) done ++ provided_by of t.1 ∷ map (provided_by of) later = ap (map (provided_by of)) filtered ∙ map-append (provided_by of) done (t.1 ∷ later) in
          let grown = resources_grown h.grows in
          let many = all_defined done in
          let same = length-map done (provided_by of) in
          let count = resources.count in
          next_at (provided_resources w) resources.before (map (provided_by of) done) (provided_by of t.1) (map (provided_by of) later) resources.after (inventory mid.items.defs).resources
          (resources.parts ∙ ap (λ l. resources.before ++ (l ++ resources.after)) given) (omega (arith, grown, many, same, count));
    }

    -- each of those that were listed so far is met once this one is entered
    met_then : (m : MetTypes) → m.own ≡ Some t.1 → (d : List ℕ × TypeId) → Contains all d → d.1.index < suc t.1.index → is_met w m d.1 ≡ true
    met_then m own d c less =
        let entered : is_entered types m.own id d.1.index ≡ true =
        ap (λ o. is_entered types o id d.1.index) own ∙ and_both (Rattle.root_imports.specs.Met.is_owned_by id (interface_at types t.1.index)) (nat_lt d.1.index (suc t.1.index)) (owner_found id (interface_at types t.1.index) (listed_owner w ok id exported t.1 listed_id)) (lt-ltb d.1.index (suc t.1.index) less) in
        listed_is_met w m d.1 (listed_met types id d.1.index m (listed_named d c) (or_right (has_types m id) (is_entered types m.own id d.1.index) entered))

    -- after it was defined and entered
    pub listed_step : (new : Root) → RootMoved w mid new → new.met ≡ record mid.met { own = Some t.1 } → Grows w mid.items.defs new.items.defs (resource_mark w t.1) → IsDefinedType w new.items.defs t.1 → ListedSoFar w old new all rest
    listed_step new moved met grows defined =
        let own : new.met.own ≡ Some t.1 = ap (λ (m : MetTypes). m.own) met in
        let before = ascend_before 0 (ids_of h.done) t.1 (ids_of rest) split_ascend in
        record {
          moved = moved_then w old mid new h.moved moved;
          same = met ∙ (ap (λ (m : MetTypes). record m { own = Some t.1 }) h.same ∙ ap (λ o. record old.met { own = o }) (sym own));
          done = h.done ++ t ∷ [];
          parts = h.parts ∙ sym (append_assoc h.done (t ∷ []) rest);
          grows =
              let marks : resource_marks w (h.done ++ t ∷ []) ≡ resource_marks w h.done ++ resource_mark w t.1 =
              ap (λ ids. map (λ i. ResourceDefined) (filter (is_own w) ids)) (map-append (λ (e : List ℕ × TypeId). e.1) h.done (t ∷ []))
              ∙ (ap (map (λ i. ResourceDefined)) (filter-append (is_own w) (ids_of h.done) (t.1 ∷ [])) ∙ map-append (λ i. ResourceDefined) (filter (is_own w) (ids_of h.done)) (filter (is_own w) (t.1 ∷ []))) in
              subst (λ (m : List Landmark). Grows w old.items.defs new.items.defs m) (sym marks) (Grows-then h.grows grows);
          defined = AllByRecursion-push (λ (x : List ℕ × TypeId). IsDefinedType w new.items.defs x.1) h.done t (AllByRecursion-weaker (λ (x : List ℕ × TypeId) k. defined-kept (longer_by grows) x.1 k) h.done h.defined) defined;
          entered = AllByRecursion-push (λ (x : List ℕ × TypeId). is_met w new.met x.1 ≡ true) h.done t (each new own h.done (λ d c. subst (λ (l : Listed). Contains l d) (sym h.parts) (Contains-append_left h.done (t ∷ rest) d c)) before) (met_then new.met own t listed (omega arith));
        }
      where
        each : (new : Root) → new.met.own ≡ Some t.1 → (ds : Listed) → ((d : List ℕ × TypeId) → Contains ds d → Contains all d) → AllByRecursion (λ (d : TypeId). d.index < t.1.index) (ids_of ds) → AllByRecursion (λ (x : List ℕ × TypeId). is_met w new.met x.1 ≡ true) ds
        each new own [] there less = tt
        each new own (d ∷ ds) there less = (met_then new.met own d (there d (contains_first d ds)) (let l = less.0 in omega (arith, l)), each new own ds (λ x c. there x (contains_later d ds x c)) less.1)

  -- once none is left
  module _ (old new : Root) (h : ListedSoFar w old new all []) where
    whole : h.done ≡ all
    whole = sym (h.parts ∙ append-nil h.done)

    pub listed_defined : AreDefined w new.items.defs all
    listed_defined = subst (AreDefined w new.items.defs) whole h.defined

    pub listed_grows : Grows w old.items.defs new.items.defs (resource_marks w all)
    listed_grows = subst (λ (l : Listed). Grows w old.items.defs new.items.defs (resource_marks w l)) whole h.grows

    pub listed_all : AreAllMet w new.met id
    listed_all = record {
      each = λ n named.
          let l = named_listed n named in
          AllByRecursion-contains (λ (e : List ℕ × TypeId). is_met w new.met e.1 ≡ true) all (l.0, record { index = n }) (subst (AllByRecursion (λ (e : List ℕ × TypeId). is_met w new.met e.1 ≡ true)) whole h.entered) l.1;
    }

-- without their names
pub by_ids : (w : ComponentWorld) (ds : List Def) (listed : Listed) → AreDefined w ds listed → AllByRecursion (IsDefinedType w ds) (map (λ (t : List ℕ × TypeId). t.1) listed)
by_ids w ds [] h = tt
by_ids w ds (t ∷ ts) h = (h.0, by_ids w ds ts h.1)
