-- Canonical names that are met one after the other.
use Rattle.std.proofs.Common.{ℕ, zero, suc, get_or, inl, inr, ◌<◌, arith, length, slice_get, slice_index_or, ◌≡◌, ◌∙◌, ◌||◌, Bool, true, false, cond, List, [], ◌∷◌, ◌++◌, map, append_assoc, append-nil, Option, Some, None, is_some, true≢false, refl, sym, ap, ap₂, subst}
use Rattle.std.specs.List.{AllByRecursion, IsDistinct, list_any}
use Rattle.std.specs.Str.{bytes_eq}
use Rattle.std.specs.Cmp.{IsEquivalence}
use Rattle.std.specs.Option.{option_and_then}
use Rattle.std.proofs.lemmas.Cmp.{nat_list_eq_equiv}
use Rattle.std.proofs.lemmas.Grind.{flat_map-append}
use Rattle.std.proofs.lemmas.List.{map-append}
use Rattle.std.proofs.lemmas.Map.Keys.{IsDistinct-push}
use Rattle.std.proofs.lemmas.Option.{same_Some}
use Rattle.std.proofs.lemmas.Slice.Eq.{bytes_eq-Decides}
use Rattle.comp_lists.specs.Found.{found}
use Rattle.comp_lists.proofs.Lists.{AllByRecursion-back}
use Rattle.comp_names.proofs.Judging.{not_distinct}
use Rattle.wit_data.specs.declared.resolve.Interface.{Interface}
use Rattle.wit_data.specs.declared.resolve.Resolve.{Resolve}
use Rattle.wit_data.specs.declared.worlds.WorldItem.{WorldItem}
use Rattle.wit_data.specs.declared.worlds.WorldKey.{WorldKey}
use Rattle.wit_data.specs.declared.worlds.WorldKey.TheVariants as keys
use Rattle.wit_data.specs.declared.ids.InterfaceId.{InterfaceId}
use Rattle.wit_data.specs.declared.names.IdName.{IdName}
use Rattle.wit_data.specs.declared.ids.WorldId.{WorldId}
use Rattle.wit_data.specs.declared.worlds.World.{World}
use Rattle.world_values.specs.Items.{no_items}
use Rattle.wit_data.specs.Names.{id_name_of}
use Rattle.wit_data.specs.Sound.{HasEntry, HasInterface, HasKey}
use Rattle.comp_encoder.specs.CanonicalNames.{CanonicalNames, IsSharedIn, Finds, FindsIn, canonical_names, items_at, names_of_id, names_of_key}
use Rattle.comp_encoder.specs.NamesMet.{AreApart, Meets}
use Rattle.comp_encoder.specs.declared.canonical_names.SharedName.{SharedName}

-- ---- one name more

laws : IsEquivalence bytes_eq
laws = nat_list_eq_equiv

not_met : (name : List ℕ) (met : CanonicalNames) → found name met ≡ None → list_any (bytes_eq name) (map (λ n. n.0) met) ≡ false
not_met name [] h = refl
not_met name (m ∷ met) h = by (bytes_eq name m.0) h (not_met name met)
  where
    by : (b : Bool) → cond b (Some m.1) (found name met) ≡ None → (found name met ≡ None → list_any (bytes_eq name) (map (λ n. n.0) met) ≡ false) → (b || list_any (bytes_eq name) (map (λ n. n.0) met)) ≡ false
    by true h rest = cc
    by false h rest = rest h

-- a name that was not met before
pub name_added : (name whole : List ℕ) (old new : CanonicalNames) → new ≡ old ++ (name, whole) ∷ [] → found name old ≡ None → Meets ((name, whole) ∷ []) old new None
name_added name whole old new e none = (
  e,
  λ h. record {
    distinct =
        subst (IsDistinct bytes_eq) (sym (ap (map (λ (n : List ℕ × List ℕ). n.0)) e ∙ map-append (λ (n : List ℕ × List ℕ). n.0) old ((name, whole) ∷ [])))
        (IsDistinct-push laws (map (λ (n : List ℕ × List ℕ). n.0) old) name h.distinct (not_met name old none));
  },
)

earlier : (name first : List ℕ) (met : CanonicalNames) → found name met ≡ Some first → (before : CanonicalNames) × (between : CanonicalNames) × (met ≡ before ++ (name, first) ∷ between)
earlier name first [] h = cc
earlier name first (m ∷ met) h = by (bytes_eq name m.0) refl h (earlier name first met)
  where
    by : (b : Bool) → bytes_eq name m.0 ≡ b → cond b (Some m.1) (found name met) ≡ Some first →
        (found name met ≡ Some first → (before : CanonicalNames) × (between : CanonicalNames) × (met ≡ before ++ (name, first) ∷ between)) →
        (before : CanonicalNames) × (between : CanonicalNames) × (m ∷ met ≡ before ++ (name, first) ∷ between)
    by true e h rest = ([], met, ap₂ (λ n w. (n, w) ∷ met) (sym ((bytes_eq-Decides name m.0).0 e)) (same_Some m.1 first h))
    by false e h rest = let p = rest h in (m ∷ p.0, p.1, ap (λ t. m ∷ t) p.2)

-- a name that was
pub name_met : (name whole first : List ℕ) (met : CanonicalNames) → found name met ≡ Some first → IsSharedIn (met ++ (name, whole) ∷ []) first whole name
name_met name whole first met h =
    let p = earlier name first met h in
    record { before = p.0; between = p.1; after = []; parts = ap (λ l. l ++ (name, whole) ∷ []) p.2 ∙ append_assoc p.0 ((name, first) ∷ p.1) ((name, whole) ∷ []) }

-- the name of an interface is the one that it has
pub id_at : (r : Resolve) (id : InterfaceId) (interfaces : List Interface) (default : Interface) → interfaces ≡ r.interfaces → HasInterface r id → (slice_index_or interfaces id.index default).id ≡ id_name_of r id
id_at r id interfaces default same present = ap (λ (is : List Interface). (slice_index_or is id.index default).id) same ∙ at r.interfaces id.index present
  where
    at : (is : List Interface) (n : ℕ) → n < length is → (slice_index_or is n default).id ≡ option_and_then (λ (i : Interface). i.id) (slice_get is n)
    at [] n l = absurd (omega (arith, l))
    at (i ∷ is) zero l = refl
    at (i ∷ is) (suc n) l = at is n (omega (arith, l))

-- an interface without a name
pub no_name : (r : Resolve) (id : InterfaceId) (met : CanonicalNames) → id_name_of r id ≡ None → Meets (names_of_key r (keys.Interface id)) met met None
no_name r id met none = (sym (ap (λ (o : Option IdName). met ++ names_of_id o) none ∙ append-nil met), λ h. h)

-- ---- all names

-- the entries that were passed, none of whose names are the same
pub record NamesSoFar (r : Resolve) (all : List (WorldKey × WorldItem)) (met : CanonicalNames) (rest : List (WorldKey × WorldItem)) : Type 0 where
  pub done : List (WorldKey × WorldItem)
  pub split : done ++ rest ≡ all
  pub names : met ≡ canonical_names r done
  pub apart : AreApart met

pub names_start : (r : Resolve) (all : List (WorldKey × WorldItem)) (met : CanonicalNames) → met ≡ [] → NamesSoFar r all met all
unfolding IsDistinct
names_start r all met none = record { done = []; split = refl; names = none; apart = record { distinct = subst (λ (names : CanonicalNames). IsDistinct bytes_eq (map (λ n. n.0) names)) (sym none) tt } }

names_push : (r : Resolve) (done : List (WorldKey × WorldItem)) (e : WorldKey × WorldItem) → canonical_names r (done ++ e ∷ []) ≡ canonical_names r done ++ names_of_key r e.0
names_push r done e =
    flat_map-append (λ (x : WorldKey × WorldItem). names_of_key r x.0) done (e ∷ []) ∙ ap (λ l. canonical_names r done ++ l) (append-nil (names_of_key r e.0))

module _ (r : Resolve) (all : List (WorldKey × WorldItem)) (met : CanonicalNames) (e : WorldKey × WorldItem) (rest : List (WorldKey × WorldItem)) (h : NamesSoFar r all met (e ∷ rest)) where
  pub next_key : AllByRecursion (HasEntry r) all → HasKey r e.0
  next_key sound = (AllByRecursion-back (HasEntry r) h.done (e ∷ rest) (subst (AllByRecursion (HasEntry r)) (sym h.split) sound)).0.0

  names_step : (new : CanonicalNames) → Meets (names_of_key r e.0) met new None → NamesSoFar r all new rest
  names_step new g = record {
    done = h.done ++ e ∷ [];
    split = append_assoc h.done (e ∷ []) rest ∙ h.split;
    names = g.0 ∙ (ap (λ l. l ++ names_of_key r e.0) h.names ∙ sym (names_push r h.done e));
    apart = g.1 h.apart;
  }

  names_found : (first second name : List ℕ) → IsSharedIn (met ++ names_of_key r e.0) first second name → IsSharedIn (canonical_names r all) first second name
  names_found first second name s =
      let more = canonical_names r rest in
      let whole : canonical_names r all ≡ (met ++ names_of_key r e.0) ++ more =
      ap (canonical_names r) (sym h.split) ∙ (flat_map-append (λ (x : WorldKey × WorldItem). names_of_key r x.0) h.done (e ∷ rest)
      ∙ (ap (λ l. l ++ (names_of_key r e.0 ++ more)) (sym h.names) ∙ sym (append_assoc met (names_of_key r e.0) more))) in
      record {
        before = s.before;
        between = s.between;
        after = s.after ++ more;
        parts = whole ∙ (ap (λ l. l ++ more) s.parts ∙ (append_assoc s.before ((name, first) ∷ (s.between ++ (name, second) ∷ s.after)) more
            ∙ ap (λ l. s.before ++ (name, first) ∷ l) (append_assoc s.between ((name, second) ∷ s.after) more)));
      }

  -- the next ones were met before
  pub shared_found : (new : CanonicalNames) (o : Option SharedName) → is_some o ≡ true → Meets (names_of_key r e.0) met new o → Finds (canonical_names r all) o
  shared_found new None some g = absurd (true≢false (sym some))
  shared_found new (Some s) some g = names_found s.first s.second s.name g

  -- or not
  pub names_on : (new : CanonicalNames) (o : Option SharedName) → is_some o ≡ false → Meets (names_of_key r e.0) met new o → NamesSoFar r all new rest
  names_on new None none g = names_step new g
  names_on new (Some s) none g = absurd (true≢false none)

apart_not_shared : (names : CanonicalNames) (first second name : List ℕ) → AreApart names → IsSharedIn names first second name → ⊥
apart_not_shared names first second name h s =
    let f : List ℕ × List ℕ → List ℕ = λ n. n.0 in
    let parts : map f names ≡ (map f s.before ++ name ∷ map f s.between) ++ name ∷ map f s.after =
    ap (map f) s.parts ∙ (map-append f s.before ((name, first) ∷ (s.between ++ (name, second) ∷ s.after))
    ∙ (ap (λ l. map f s.before ++ name ∷ l) (map-append f s.between ((name, second) ∷ s.after)) ∙ sym (append_assoc (map f s.before) (name ∷ map f s.between) (name ∷ map f s.after)))) in
    not_distinct name (map f s.before) (map f s.between) (map f s.after) (subst (IsDistinct bytes_eq) parts h.distinct)

pub names_done : (r : Resolve) (all : List (WorldKey × WorldItem)) (met : CanonicalNames) → NamesSoFar r all met [] → Finds (canonical_names r all) None
names_done r all met h =
    let whole : met ≡ canonical_names r all = h.names ∙ ap (canonical_names r) (sym (append-nil h.done) ∙ h.split) in
    λ first second name s. apart_not_shared (canonical_names r all) first second name (subst AreApart whole h.apart) s

-- ---- a world

-- the items of a world are those that it has
pub items_of_world : (r : Resolve) (world : WorldId) (worlds : List World) (default : World) → worlds ≡ r.worlds → world.index < length r.worlds → slice_index_or worlds world.index default ≡ items_at r world
items_of_world r world worlds default same present = ap (λ (ws : List World). slice_index_or ws world.index default) same ∙ at r.worlds world.index present
  where
    at : (ws : List World) (n : ℕ) → n < length ws → slice_index_or ws n default ≡ get_or ws n no_items
    at [] n l = absurd (omega (arith, l))
    at (w ∷ ws) zero l = refl
    at (w ∷ ws) (suc n) l = at ws n (omega (arith, l))

-- what is found among its exports, where nothing is found among its imports
pub finds_in : (r : Resolve) (world : WorldId) (first o : Option SharedName) → is_some first ≡ false → Finds (canonical_names r (items_at r world).imports) first → Finds (canonical_names r (items_at r world).exports) o → FindsIn r world o
finds_in r world (Some s) o none g h = absurd (true≢false none)
finds_in r world None (Some s) none g h = inr h
finds_in r world None None none g h = λ first second name c. elim c [ inl i ↦ g first second name i | inr e ↦ h first second name e ]
