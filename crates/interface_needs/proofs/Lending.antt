-- Which types an exported interface may use: those that a component needs of imported interfaces,
-- those of other exported ones that it uses, and its own.
use Rattle.std.proofs.Common.{◌≡◌, ◌∙◌, ◌⊎◌, ◌+◌, ◌==◌, ◌&&◌, ◌||◌, ℕ, zero, suc, Bool, true, false, true≢false, cond, not, List, [], ◌∷◌, ◌++◌, filter, inl, inr, Contains, sym, ap, refl, subst, arith, Option, Some, None, is_some, if◌then◌else◌, rules}
use Rattle.std.specs.List.{AllByRecursion, IsDistinct, flat_map, list_any}
use Rattle.std.specs.Cmp.{IsEquivalence}
use Rattle.std.specs.Cmp.Rules.{comparing}
use Rattle.std.specs.Map.{lookup}
use Rattle.std.specs.Option.{unwrap_or}
use Rattle.std.proofs.lemmas.Bool.{and_from, and_parts, eq-eqb, eqb-true, or_cases, or_left, or_right}
use Rattle.std.proofs.lemmas.List.Elements.{Contains-append_right}
use Rattle.std.proofs.lemmas.Map.Views.{lookup-from_Contains}
use Rattle.std.proofs.lemmas.Option.{none-some, same_Some}
use Rattle.comp_lists.proofs.Lists.{AllByRecursion-contains}
use Rattle.wit_data.specs.declared.ids.InterfaceId.{InterfaceId}
use Rattle.wit_data.specs.declared.types.Type.{«Type» as Ty}
use Rattle.wit_data.specs.declared.types.TypeDef.{TypeDef}
use Rattle.wit_data.specs.declared.types.TypeOwner.{TypeOwner}
use Rattle.wit_data.specs.declared.worlds.WorldItem.{WorldItem}
use Rattle.wit_data.specs.declared.worlds.WorldItem.TheVariants as items
use Rattle.wit_data.specs.declared.worlds.WorldKey.{WorldKey}
use Rattle.wit_data.specs.Keys.{is_same_key}
use Rattle.wit_data.specs.Live.{is_live, reaching}
use Rattle.wit_data.specs.Values.{value}
use Rattle.type_scopes.specs.Titles.{is_one_of}
use Rattle.world_values.specs.Mentions.{same_interface, interfaces_of, interface_types, owner_in, owners_from, names_interface, used_entry, role_types, import_types, export_types}
use Rattle.world_values.specs.Tables.{with_all}
use Rattle.comp_worlds.specs.Encodable.{Entries, IsEncodable, is_lent}
use Rattle.comp_worlds.specs.ExportOrder.{used_exports}
use Rattle.comp_worlds.specs.Uses.{all_imports}
use Rattle.comp_worlds.specs.WorldContents.{items_of, interface_at}
use Rattle.comp_worlds.specs.declared.world.ComponentWorld.{ComponentWorld}
use Rattle.comp_links.specs.Lists.{needed_types}
use Rattle.interface_needs.specs.Needs.{IsImported, IsNeeded}
use Rattle.interface_needs.specs.RootNeeds.{interface_of_item, IsExportedInterface, is_needed_of, is_lent_to, is_lent_type}
use Rattle.interface_needs.proofs.Entered.{entered, entered_found}
use Rattle.interface_needs.proofs.Lists.{Passes, any_passes, passes_any, contains_cons, contains_first, contains_flat, contains_later, contains_none, filter_has, filter_keeps, is_there}
use Rattle.interface_needs.proofs.Needed.{used_in, is_needed}
use Rattle.interface_needs.proofs.Owners.{owner_is, same_id}
use Rattle.interface_needs.proofs.Tables.{lookup_contains}

-- ---- interfaces among imports and exports

-- an interface among imports or exports is the item of one
pub interface_there : (es : Entries) (id : InterfaceId) → Contains (interfaces_of es) id → (key : WorldKey) × Contains es (key, items.Interface id)
interface_there [] id c = contains_none id c
interface_there ((key, items.Interface other) ∷ es) id c = elim (contains_cons other (interfaces_of es) id c) [
  | inl same ↦ (key, subst (λ (i : InterfaceId). Contains ((key, items.Interface other) ∷ es) (key, items.Interface i)) same (contains_first (key, items.Interface other) es))
  | inr later ↦ let r = interface_there es id later in (r.0, contains_later (key, items.Interface other) es (r.0, items.Interface id) r.1)
]
interface_there ((key, items.Function f) ∷ es) id c = let r = interface_there es id c in (r.0, contains_later (key, items.Function f) es (r.0, items.Interface id) r.1)
interface_there ((key, items.NamedType t) ∷ es) id c = let r = interface_there es id c in (r.0, contains_later (key, items.NamedType t) es (r.0, items.Interface id) r.1)

-- the item of an interface is one among those
pub there_interface : (es : Entries) (key : WorldKey) (id : InterfaceId) → Contains es (key, items.Interface id) → Contains (interfaces_of es) id
there_interface [] key id c = contains_none (key, items.Interface id) c
there_interface ((k, items.Interface other) ∷ es) key id c = elim (contains_cons (k, items.Interface other) es (key, items.Interface id) c) [
  | inl same ↦ subst (λ (i : InterfaceId). Contains (other ∷ interfaces_of es) i) (same_item other id (ap (λ (e : WorldKey × WorldItem). e.1) same)) (contains_first other (interfaces_of es))
  | inr later ↦ contains_later other (interfaces_of es) id (there_interface es key id later)
]
  where
    same_item : (a b : InterfaceId) → items.Interface a ≡ items.Interface b → a ≡ b
    same_item a b e = same_Some a b (ap interface_of_item (ap Some e))
there_interface ((k, items.Function f) ∷ es) key id c = elim (contains_cons (k, items.Function f) es (key, items.Interface id) c) [
  | inl same ↦ absurd (none-some id (ap interface_of_item (ap Some (ap (λ (e : WorldKey × WorldItem). e.1) same))))
  | inr later ↦ there_interface es key id later
]
there_interface ((k, items.NamedType t) ∷ es) key id c = elim (contains_cons (k, items.NamedType t) es (key, items.Interface id) c) [
  | inl same ↦ absurd (none-some id (ap interface_of_item (ap Some (ap (λ (e : WorldKey × WorldItem). e.1) same))))
  | inr later ↦ there_interface es key id later
]

-- an interface that passes is one among them
pub among : (ids : List InterfaceId) (id : InterfaceId) → list_any (same_interface id) ids ≡ true → Contains ids id
among ids id h =
    let p : Passes (same_interface id) ids = any_passes (same_interface id) ids h in
    subst (λ (x : InterfaceId). Contains ids x) (sym (same_id id p.x p.passes)) p.there

pub same_self : (id : InterfaceId) → same_interface id id ≡ true
same_self id = eq-eqb id.index id.index refl

pub passes_among : (ids : List InterfaceId) (id : InterfaceId) → Contains ids id → list_any (same_interface id) ids ≡ true
passes_among ids id c = passes_any (same_interface id) ids id c (same_self id)

-- ---- apart

distinct_both : {K : Type 0} (eq : K → K → Bool) (xs ys : List K) → IsDistinct eq (xs ++ ys) → (x : K) → Contains xs x → Contains ys x → eq x x ≡ true → ⊥
unfolding IsDistinct
distinct_both eq [] ys h x c d e = contains_none x c
distinct_both eq (z ∷ xs) ys h x c d e = elim (contains_cons z xs x c) [
  | inl same ↦
      let other = AllByRecursion-contains (λ y. eq z y ≡ false) (xs ++ ys) x h.0 (Contains-append_right xs ys x d) in
      true≢false (sym e ∙ (ap (λ k. eq k x) (sym same) ∙ other))
  | inr later ↦ distinct_both eq xs ys h.1 x later d e
]

distinct_first : {K : Type 0} (eq : K → K → Bool) (xs ys : List K) → IsDistinct eq (xs ++ ys) → IsDistinct eq xs
unfolding IsDistinct
distinct_first {K = K} eq [] ys h = tt
distinct_first {K = K} eq (x ∷ xs) ys h = (of_first xs h.0, distinct_first eq xs ys h.1)
  where
    of_first : (zs : List K) → AllByRecursion (λ y. eq x y ≡ false) (zs ++ ys) → AllByRecursion (λ y. eq x y ≡ false) zs
    of_first [] k = tt
    of_first (z ∷ zs) k = (k.0, of_first zs k.1)

key_laws : IsEquivalence is_same_key
key_laws = search (comparing, rules)

module _ (w : ComponentWorld) (ok : IsEncodable w) where
  -- no interface is imported twice
  pub imports_apart : IsDistinct same_interface (interfaces_of (items_of w).imports)
  imports_apart = distinct_first same_interface (interfaces_of (items_of w).imports) (interfaces_of (items_of w).exports) ok.apart

  -- the export of an interface
  pub exported_there : (id : InterfaceId) → IsExportedInterface w id → (key : WorldKey) × Contains (items_of w).exports (key, items.Interface id)
  exported_there id h = lookup_contains (is_same_key h.key) (items_of w).exports (items.Interface id) h.of

  pub exported_among : (id : InterfaceId) → IsExportedInterface w id → Contains (interfaces_of (items_of w).exports) id
  exported_among id h = let there = exported_there id h in there_interface (items_of w).exports there.0 id there.1

  pub among_exported : (id : InterfaceId) → Contains (interfaces_of (items_of w).exports) id → IsExportedInterface w id
  among_exported id c =
      let there = interface_there (items_of w).exports id c in
      record { key = there.0; of = lookup-from_Contains key_laws there.0 (items.Interface id) (items_of w).exports ok.valid.export_keys_apart there.1 }

  pub imported_among : (id : InterfaceId) → IsImported w id → Contains (interfaces_of (items_of w).imports) id
  imported_among id h = there_interface (items_of w).imports h.key id h.there

  pub among_imported : (id : InterfaceId) → Contains (interfaces_of (items_of w).imports) id → IsImported w id
  among_imported id c = let there = interface_there (items_of w).imports id c in record { key = there.0; there = there.1 }

  -- no interface is imported and exported
  pub not_both : (id : InterfaceId) → IsImported w id → IsExportedInterface w id → ⊥
  not_both id i e = distinct_both same_interface (interfaces_of (items_of w).imports) (interfaces_of (items_of w).exports) ok.apart id (imported_among id i) (exported_among id e) (same_self id)

-- ---- exported interfaces that another one uses

-- what is found behind other entries
found_behind : {K X : Type 0} (test : K → Bool) (es more : List (K × X)) → is_some (lookup test more) ≡ true → is_some (lookup test (es ++ more)) ≡ true
found_behind test [] more h = h
found_behind test (e ∷ es) more h = by (test e.0) (found_behind test es more h)
  where
    by : (b : Bool) → is_some (lookup test (es ++ more)) ≡ true → is_some (cond b (Some e.1) (lookup test (es ++ more))) ≡ true
    by true rest = refl
    by false rest = rest

-- the owner of a live type is among those of all live types
owner_there : (live : ℕ → Bool) (k n m : ℕ) (types : List TypeDef) (other : InterfaceId) → m ≡ k + n → live m ≡ true → interface_at types n ≡ Some other → is_some (lookup (λ i. other.index == i) (owners_from live k types)) ≡ true
owner_there live k n m [] other same h e = absurd (none-some other e)
owner_there live k zero m (t ∷ ts) other same h e =
    let here : live k ≡ true = ap live (let s : k ≡ m = omega (arith, same) in s) ∙ h in
    let more = owners_from live (suc k) ts in
    subst (λ (b : Bool). is_some (lookup (λ i. other.index == i) ((if b then owner_in t.owner else []) ++ more)) ≡ true) (sym here)
    (subst (λ (o : TypeOwner). is_some (lookup (λ i. other.index == i) (owner_in o ++ more)) ≡ true) (sym (owner_is t.owner other e))
    (ap (λ b. is_some (cond b (Some tt) (lookup (λ i. other.index == i) more))) (eq-eqb other.index other.index refl)))
owner_there live k (suc n) m (t ∷ ts) other same h e =
    found_behind (λ i. other.index == i) (if live k then owner_in t.owner else []) (owners_from live (suc k) ts) (owner_there live (suc k) n m ts other (omega (arith, same)) h e)

module _ (w : ComponentWorld) (ok : IsEncodable w) (id : InterfaceId) (h : IsExportedInterface w id) where
  abbrev all : List InterfaceId
  all = interfaces_of (items_of w).exports

  abbrev value_of : InterfaceId → List InterfaceId
  value_of i = filter (λ other. names_interface w.resolve i other && not (other.index == i.index)) all

  same_entries : (es : Entries) → flat_map (λ e. used_entry w.resolve all e.1) es ≡ flat_map (λ e. entered value_of e.1) es
  same_entries [] = refl
  same_entries ((key, items.Interface i) ∷ es) = ap (λ rest. (i, value_of i) ∷ rest) (same_entries es)
  same_entries ((key, items.Function f) ∷ es) = same_entries es
  same_entries ((key, items.NamedType t) ∷ es) = same_entries es

  used_are : used_exports w id ≡ value_of id
  used_are =
      let there = exported_there w ok id h in
      ap (λ table. unwrap_or (lookup (same_interface id) table) []) ok.tables.exports_used
      ∙ (ap (λ entries. unwrap_or (lookup (same_interface id) (with_all same_interface [] entries)) []) (same_entries (items_of w).exports)
      ∙ ap (λ o. unwrap_or o []) (entered_found value_of id there.0 (items_of w).exports there.1))

  -- it is exported
  pub used_exported : (other : InterfaceId) → Contains (used_exports w id) other → IsExportedInterface w other
  used_exported other c =
      among_exported w ok other (filter_has (λ other. names_interface w.resolve id other && not (other.index == id.index)) all other (subst (λ (is : List InterfaceId). Contains is other) used_are c)).0

  -- an exported interface uses another one of which it is made
  pub live_used : (n : ℕ) (other : InterfaceId) → is_live w.resolve.types (interface_types w.resolve id) n ≡ true → interface_at w.resolve.types n ≡ Some other → Contains all other → (id.index == other.index) ≡ false → Contains (used_exports w id) other
  live_used n other live is there apart =
      let named : names_interface w.resolve id other ≡ true = owner_there (is_live w.resolve.types (interface_types w.resolve id)) 0 n n w.resolve.types other (omega arith) live is in
      subst (λ (is : List InterfaceId). Contains is other) (sym used_are)
      (filter_keeps (λ other. names_interface w.resolve id other && not (other.index == id.index)) all other there (and_from (names_interface w.resolve id other) (not (other.index == id.index)) named (ap not (by (other.index == id.index) refl))))
    where
      by : (b : Bool) → (other.index == id.index) ≡ b → b ≡ false
      by false e = refl
      by true e = absurd (true≢false (sym (eq-eqb id.index other.index (sym (eqb-true other.index id.index e))) ∙ apart))

  -- ---- types

  -- what the interface names is among what a component needs
  used_here : (t : Ty) → Contains (interface_types w.resolve id) t → Contains (used_in w) t
  used_here t c =
      let world = items_of w in
      let there = exported_there w ok id h in
      let roles : List Ty = flat_map (λ i. role_types w.resolve world.imports i.role) (all_imports w.main w.adapters) in
      let imported : List Ty = flat_map (λ e. import_types e.1) world.imports in
      let exported : WorldKey × WorldItem → List Ty = λ e. export_types w.resolve e.1 in
      Contains-append_right roles (imported ++ flat_map exported world.exports) t (Contains-append_right imported (flat_map exported world.exports) t (contains_flat exported world.exports (there.0, items.Interface id) t there.1 c))

  live_everywhere : (n : ℕ) → is_live w.resolve.types (interface_types w.resolve id) n ≡ true → is_live w.resolve.types (used_in w) n ≡ true
  live_everywhere n live =
      let found = any_passes (λ (t : Ty). value (reaching n) w.resolve.types (Some t)) (interface_types w.resolve id) live in
      passes_any (λ (t : Ty). value (reaching n) w.resolve.types (Some t)) (used_in w) found.x (used_here found.x found.there) found.passes

  lent_type : (n : ℕ) (other : InterfaceId) → interface_at w.resolve.types n ≡ Some other → is_lent_to w id other n ≡ true → is_lent_type w id n ≡ true
  lent_type n other is lent = subst (λ (o : Option InterfaceId). elim o [ Some i ↦ is_lent_to w id i n | None ↦ false ] ≡ true) (sym is) lent

  -- its own types are lent
  pub own_lent : (n : ℕ) → interface_at w.resolve.types n ≡ Some id → is_lent_type w id n ≡ true
  own_lent n is = lent_type n id is (or_left (id.index == id.index) (list_any (same_interface id) (used_exports w id) || is_needed_of w id n) (same_self id))

  -- and of interfaces that are imported or exported those that it names, or of which these are made
  pub live_lent : (n : ℕ) → is_live w.resolve.types (interface_types w.resolve id) n ≡ true → (other : InterfaceId) → interface_at w.resolve.types n ≡ Some other → is_lent (items_of w) other ≡ true → is_lent_type w id n ≡ true
  live_lent n live other is lent = lent_type n other is (by (id.index == other.index) refl)
    where
      by : (b : Bool) → (id.index == other.index) ≡ b → (b || (list_any (same_interface other) (used_exports w id) || is_needed_of w other n)) ≡ true
      by true e = refl
      by false apart = elim (or_cases (list_any (same_interface other) (interfaces_of (items_of w).imports)) (list_any (same_interface other) (interfaces_of (items_of w).exports)) lent) [
        | inl imported ↦
            let needed : IsNeeded w other (record { index = n }) = is_needed w ok other n (among_imported w ok other (among (interfaces_of (items_of w).imports) other imported)) is (live_everywhere n live) in
            or_right (list_any (same_interface other) (used_exports w id)) (is_needed_of w other n)
            (and_from (list_any (same_interface other) (interfaces_of (items_of w).imports)) (is_one_of (needed_types w other) n) imported needed.needed)
        | inr exported ↦
            or_left (list_any (same_interface other) (used_exports w id)) (is_needed_of w other n)
            (passes_among (used_exports w id) other (live_used n other live is (among all other exported) apart))
      ]

  -- a type that is lent is its own, one of an exported interface that it uses, or one that a
  -- component needs of an imported interface
  pub lent_from : (n : ℕ) (other : InterfaceId) → interface_at w.resolve.types n ≡ Some other → is_lent_type w id n ≡ true → (id ≡ other) ⊎ (Contains (used_exports w id) other ⊎ IsNeeded w other (record { index = n }))
  lent_from n other is lent =
      elim (or_cases (id.index == other.index) (list_any (same_interface other) (used_exports w id) || is_needed_of w other n) to) [
        | inl own ↦ inl (same_id id other own)
        | inr more ↦ elim (or_cases (list_any (same_interface other) (used_exports w id)) (is_needed_of w other n) more) [
          | inl used ↦ inr (inl (among (used_exports w id) other used))
          | inr needed ↦
              let b = and_parts (list_any (same_interface other) (interfaces_of (items_of w).imports)) (is_one_of (needed_types w other) n) needed in
              inr (inr (record { imported = among_imported w ok other (among (interfaces_of (items_of w).imports) other b.0); needed = b.1; listed = is_there (needed_types w other) n b.1 }))
        ]
      ]
    where
      to : is_lent_to w id other n ≡ true
      to = subst (λ (o : Option InterfaceId). elim o [ Some i ↦ is_lent_to w id i n | None ↦ false ] ≡ true) is lent
