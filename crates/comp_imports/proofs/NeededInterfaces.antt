-- Interfaces of which types are needed are imported, and which interface is which import.
use Rattle.std.proofs.Common.{◌≡◌, ◌∙◌, ◌<◌, ◌≤◌, ◌+◌, zero-add, append_assoc, length-append, ap, sym, subst, refl, arith, ℕ, zero, suc, Bool, true, false, true≢false, cond, List, [], ◌∷◌, ◌++◌, length, Option, Some, None, is_some, if◌then◌else◌, unwrap_or, ◌==◌, Contains}
use Rattle.std.specs.List.{AllByRecursion, IsDistinct, flat_map}
use Rattle.std.specs.Map.{lookup}
use Rattle.std.proofs.lemmas.Bool.Decides.{Decides-eqb}
use Rattle.comp_lists.specs.Tables.{with_first}
use Rattle.comp_lists.proofs.Lists.{AllByRecursion-push}
use Rattle.wit_data.specs.Live.{is_live}
use Rattle.wit_data.specs.declared.ids.InterfaceId.{InterfaceId}
use Rattle.wit_data.specs.declared.ids.TypeId.{TypeId}
use Rattle.wit_data.specs.declared.worlds.WorldItem.{WorldItem}
use Rattle.wit_data.specs.declared.worlds.WorldItem.TheVariants as world_items
use Rattle.wit_data.specs.declared.worlds.WorldKey.{WorldKey}
use Rattle.world_values.specs.Mentions.{interfaces_of, live_entry, same_interface, used_types}
use Rattle.world_values.specs.Tables.{with_all}
use Rattle.comp_worlds.specs.Encodable.{IsEncodable, place_in}
use Rattle.comp_lists.proofs.Lists.{AllByRecursion-contains}
use Rattle.wit_data.specs.declared.types.TypeDef.{TypeDef}
use Rattle.wit_data.specs.declared.types.TypeOwner.TheVariants as owners
use Rattle.wit_types.specs.Settings.{owner_at}
use Rattle.type_scopes.specs.Titles.{HasTitle}
use Rattle.interface_needs.proofs.InterfaceTypes.{types_known}
use Rattle.interface_needs.proofs.Lists.{is_there}
use Rattle.root_imports.specs.Met.{is_named_of}
use Rattle.root_imports.proofs.ExportedTypes.{same_name}
use Rattle.root_imports.proofs.Meeting.{named_whole}
use Rattle.comp_worlds.specs.Uses.{all_imports}
use Rattle.comp_worlds.specs.WorldContents.{interface_at, interface_of_owner, items_of}
use Rattle.comp_worlds.specs.WorldTables.{HasTables}
use Rattle.comp_worlds.specs.declared.world.ComponentWorld.{ComponentWorld}
use Rattle.comp_links.specs.Lists.{ImportEntry, ImportedInterface, interface_entry, names_of_interface, needed_types, number_of_interface, unless_empty}
use Rattle.type_scopes.specs.Titles.{is_one_of}
use Rattle.interface_needs.specs.Needs.{IsImported}
use Rattle.root_imports.specs.Interfaces.{IsFoundInterface}
use Rattle.comp_imports.specs.Interfaces.{IsFoundItem}

abbrev Entries : Type 0
Entries = List (WorldKey × WorldItem)

-- ---- interfaces with types that are needed

module _ (w : ComponentWorld) where
  abbrev IsOfImported : InterfaceId × List TypeId → Type 0
  IsOfImported e = IsImported w e.0

  abbrev live : ℕ → Bool
  live = is_live w.resolve.types (used_types (all_imports w.main w.adapters) w.resolve (items_of w))

  listed : (before es : Entries) → before ++ es ≡ (items_of w).imports → AllByRecursion IsOfImported (flat_map (λ e. live_entry live w.resolve e.1) es)
  listed before [] split = tt
  listed before ((key, world_items.Interface id) ∷ es) split = (
    record { key = key; there = subst (λ xs. Contains xs (key, world_items.Interface id)) split (behind before) },
    listed (before ++ (key, world_items.Interface id) ∷ []) es (append_assoc before ((key, world_items.Interface id) ∷ []) es ∙ split),
  )
    where
      behind : (xs : Entries) → Contains (xs ++ (key, world_items.Interface id) ∷ es) (key, world_items.Interface id)
      behind [] = (0, omega arith, refl)
      behind (x ∷ xs) = let b = behind xs in (suc b.0, (let l = b.1 in omega (arith, l)), b.2)
  listed before ((key, world_items.Function f) ∷ es) split = listed (before ++ (key, world_items.Function f) ∷ []) es (append_assoc before ((key, world_items.Function f) ∷ []) es ∙ split)
  listed before ((key, world_items.NamedType t) ∷ es) split = listed (before ++ (key, world_items.NamedType t) ∷ []) es (append_assoc before ((key, world_items.NamedType t) ∷ []) es ∙ split)

  entered : (table es : List (InterfaceId × List TypeId)) → AllByRecursion IsOfImported table → AllByRecursion IsOfImported es → AllByRecursion IsOfImported (with_all same_interface table es)
  entered table [] h k = h
  entered table (e ∷ es) h k = entered (with_first same_interface table e.0 e.1) es (by (is_some (lookup (same_interface e.0) table))) k.1
    where
      by : (b : Bool) → AllByRecursion IsOfImported (if b then table else table ++ (e.0, e.1) ∷ [])
      by true = h
      by false = AllByRecursion-push IsOfImported table (e.0, e.1) h k.0

  found_imported : (id : InterfaceId) (table : List (InterfaceId × List TypeId)) → AllByRecursion IsOfImported table → is_some (lookup (λ (other : InterfaceId). id.index == other.index) table) ≡ true → IsImported w id
  found_imported id [] h e = absurd (true≢false (sym e))
  found_imported id (x ∷ xs) h e = by (id.index == x.0.index) refl e (found_imported id xs h.1)
    where
      by : (b : Bool) → (id.index == x.0.index) ≡ b → is_some (cond b (Some x.1) (lookup (λ (other : InterfaceId). id.index == other.index) xs)) ≡ true → (is_some (lookup (λ (other : InterfaceId). id.index == other.index) xs) ≡ true → IsImported w id) → IsImported w id
      by true same e rest = subst (λ n. IsImported w (record { index = n })) (sym ((Decides-eqb id.index x.0.index).0 same)) h.0
      by false other e rest = rest e

  -- an interface of which a type is needed is imported
  pub needed_imported : HasTables w → (id : InterfaceId) (t : TypeId) → is_one_of (needed_types w id) t.index ≡ true → IsImported w id
  needed_imported tables id t h =
      found_imported id w.live_type_imports
      (subst (AllByRecursion IsOfImported) (sym tables.live_type_imports) (entered [] (flat_map (λ e. live_entry live w.resolve e.1) (items_of w).imports) tt (listed [] (items_of w).imports refl)))
      (there (lookup (λ (other : InterfaceId). id.index == other.index) w.live_type_imports) h)
    where
      there : (o : Option (List TypeId)) → is_one_of (unwrap_or o []) t.index ≡ true → is_some o ≡ true
      there None e = absurd (true≢false (sym e))
      there (Some ids) e = refl

-- ---- what types are needed

owner_found : (types : List TypeDef) (n : ℕ) (id : InterfaceId) → n < length types → owner_at types n ≡ owners.Interface id → interface_at types n ≡ Some id
owner_found [] n id l e = absurd (omega (arith, l))
owner_found (t ∷ ts) zero id l e = ap interface_of_owner e
owner_found (t ∷ ts) (suc n) id l e = owner_found ts n id (omega (arith, l)) e

-- a type that is needed of an imported interface has a name and belongs to it
pub needed_named_of : (w : ComponentWorld) → IsEncodable w → (id : InterfaceId) (t : TypeId) → IsImported w id → is_one_of (needed_types w id) t.index ≡ true → is_named_of w.resolve.types id t.index ≡ true
needed_named_of w ok id t imported needed =
    let h : HasTitle w.resolve.types id t = AllByRecursion-contains (HasTitle w.resolve.types id) (needed_types w id) t (types_known w ok id imported).titled (is_there (needed_types w id) t.index needed) in
    named_whole w.resolve.types id t.index (ap is_some (sym (same_name w.resolve.types t.index) ∙ h.is.named)) (owner_found w.resolve.types t.index id h.is.present h.is.owner)

-- ---- which interface is which import

-- not this interface
abbrev IsOther : InterfaceId → WorldKey × WorldItem → Type 0
IsOther id (key, world_items.Interface other) = (id.index == other.index) ≡ false
IsOther id entry = Unit {0}

turned : (a b : InterfaceId) → same_interface a b ≡ false → (b.index == a.index) ≡ false
turned a b h = by (b.index == a.index) refl
  where
    by : (x : Bool) → (b.index == a.index) ≡ x → x ≡ false
    by false e = refl
    by true e =
        let yes : same_interface a b ≡ true = (Decides-eqb a.index b.index).1 (sym ((Decides-eqb b.index a.index).0 e)) in
        absurd (true≢false (sym yes ∙ h))

pub apart_before : (done : Entries) (key : WorldKey) (id : InterfaceId) (rest : Entries) → IsDistinct same_interface (interfaces_of (done ++ (key, world_items.Interface id) ∷ rest)) → AllByRecursion (IsOther id) done
unfolding IsDistinct
apart_before [] key id rest h = tt
apart_before ((k, world_items.Interface other) ∷ done) key id rest h = (turned other id (among done h.0), apart_before done key id rest h.1)
  where
    among : (done : Entries) → AllByRecursion (λ j. same_interface other j ≡ false) (interfaces_of (done ++ (key, world_items.Interface id) ∷ rest)) → same_interface other id ≡ false
    among [] a = a.0
    among ((k, world_items.Interface j) ∷ es) a = among es a.1
    among ((k, world_items.Function f) ∷ es) a = among es a
    among ((k, world_items.NamedType t) ∷ es) a = among es a
apart_before ((k, world_items.Function f) ∷ done) key id rest h = (tt, apart_before done key id rest h)
apart_before ((k, world_items.NamedType t) ∷ done) key id rest h = (tt, apart_before done key id rest h)

number_behind_names : (w : ComponentWorld) (id other : InterfaceId) (key : WorldKey) (names : List (List ℕ)) (tail : List ImportEntry) → (id.index == other.index) ≡ false →
    number_of_interface id (unless_empty names (ImportedInterface key other) ++ tail) ≡ length (unless_empty names (ImportedInterface key other)) + number_of_interface id tail
number_behind_names w id other key [] tail h = sym (zero-add (number_of_interface id tail))
number_behind_names w id other key (name ∷ names) tail h = ap (λ b. if b then 0 else suc (number_of_interface id tail)) h ∙ (let one : suc (number_of_interface id tail) ≡ 1 + number_of_interface id tail = omega arith in one)

number_behind_entry : (w : ComponentWorld) (id : InterfaceId) (e : WorldKey × WorldItem) (tail : List ImportEntry) → IsOther id e → number_of_interface id (interface_entry w e ++ tail) ≡ length (interface_entry w e) + number_of_interface id tail
number_behind_entry w id (key, world_items.Interface other) tail h = number_behind_names w id other key (names_of_interface w other) tail h
number_behind_entry w id (key, world_items.Function f) tail h = sym (zero-add (number_of_interface id tail))
number_behind_entry w id (key, world_items.NamedType t) tail h = sym (zero-add (number_of_interface id tail))

-- the number of an interface behind others
pub number_behind : (w : ComponentWorld) (id : InterfaceId) (done : Entries) (tail : List ImportEntry) → AllByRecursion (IsOther id) done → number_of_interface id (flat_map (interface_entry w) done ++ tail) ≡ length (flat_map (interface_entry w) done) + number_of_interface id tail
number_behind w id [] tail h = sym (zero-add (number_of_interface id tail))
number_behind w id (e ∷ es) tail h =
    let split = ap (number_of_interface id) (append_assoc (interface_entry w e) (flat_map (interface_entry w) es) tail) in
    let one = number_behind_entry w id e (flat_map (interface_entry w) es ++ tail) h.0 in
    let more = number_behind w id es tail h.1 in
    let all = length-append (interface_entry w e) (flat_map (interface_entry w) es) in
    omega (arith, split, one, more, all)

-- ---- what was found before

-- an interface whose place is among the first imports
pub found_before : (w : ComponentWorld) (instances : List (InterfaceId × ℕ)) (done tail : Entries) (id : InterfaceId) → AllByRecursion (IsFoundItem w instances) done → place_in (done ++ tail) id < length done → IsFoundInterface w instances id
found_before w instances [] tail id h l = absurd (omega (arith, l))
found_before w instances ((key, world_items.Interface other) ∷ done) tail id h l = by (id.index == other.index) refl l (found_before w instances done tail id h.1)
  where
    by : (b : Bool) → (id.index == other.index) ≡ b → (if b then 0 else suc (place_in (done ++ tail) id)) < suc (length done) → (place_in (done ++ tail) id < length done → IsFoundInterface w instances id) → IsFoundInterface w instances id
    by true same l rest = subst (λ n. IsFoundInterface w instances (record { index = n })) (sym ((Decides-eqb id.index other.index).0 same)) h.0
    by false apart l rest = rest (omega (arith, l))
found_before w instances ((key, world_items.Function f) ∷ done) tail id h l = found_before w instances done tail id h.1 (omega (arith, l))
found_before w instances ((key, world_items.NamedType t) ∷ done) tail id h l = found_before w instances done tail id h.1 (omega (arith, l))

-- the place of an import is not behind it
pub place_there : (done : Entries) (key : WorldKey) (id : InterfaceId) (rest : Entries) → place_in (done ++ (key, world_items.Interface id) ∷ rest) id ≤ length done
place_there [] key id rest = let e = ap (λ b. if b then 0 else suc (place_in rest id)) ((Decides-eqb id.index id.index).1 refl) in omega (arith, e)
place_there ((k, world_items.Interface other) ∷ done) key id rest = by (id.index == other.index) (place_there done key id rest)
  where
    by : (b : Bool) → place_in (done ++ (key, world_items.Interface id) ∷ rest) id ≤ length done → (if b then 0 else suc (place_in (done ++ (key, world_items.Interface id) ∷ rest) id)) ≤ suc (length done)
    by true h = omega arith
    by false h = omega (arith, h)
place_there ((k, world_items.Function f) ∷ done) key id rest = let l = place_there done key id rest in omega (arith, l)
place_there ((k, world_items.NamedType t) ∷ done) key id rest = let l = place_there done key id rest in omega (arith, l)
