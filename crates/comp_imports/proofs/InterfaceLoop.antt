-- The interfaces of which core imports use a function are imported, in the order of the world.
use Rattle.std.proofs.Common.{◌≡◌, ◌≢◌, ◌∙◌, ◌&&◌, ◌||◌, ap, ap₂, sym, subst, refl, ℕ, arith, Bool, true, false, cond, List, [], ◌∷◌, ◌++◌, map, filter, length, append-nil, append_assoc, Some, None, is_some, ◌<◌, ◌≤◌, ◌+◌, suc, add-zero, if◌then◌else◌, slice_get, Contains, inl, inr, true≢false}
use Rattle.std.specs.List.{AllByRecursion, IsDistinct, flat_map, list_any}
use Rattle.std.specs.Map.{lookup}
use Rattle.std.specs.Str.{bytes_eq}
use Rattle.std.proofs.lemmas.Grind.{flat_map-append}
use Rattle.std.proofs.lemmas.List.{map-append}
use Rattle.std.proofs.lemmas.List.Elements.{Contains-append_right}
use Rattle.std.proofs.lemmas.Slice.Eq.{bytes_eq-Decides}
use Rattle.std.proofs.lemmas.Bool.Decides.{Decides-eqb}
use Rattle.comp_lists.specs.Found.{found}
use Rattle.comp_lists.specs.Tables.{with_first}
use Rattle.comp_lists.proofs.Lists.{AllByRecursion-weaker, AllByRecursion-back, AllByRecursion-contains, slice_get-append, slice_get-end}
use Rattle.interface_needs.proofs.Lists.{contains_none, contains_cons, all_both}
use Rattle.comp_bytes.specs.declared.def.Def.{Def}
use Rattle.comp_builder.specs.Built.{Built}
use Rattle.wit_data.specs.contracts.ids.InterfaceIdPartialEq.TheImpl as same_id
use Rattle.wit_data.specs.declared.ids.InterfaceId.{InterfaceId}
use Rattle.wit_data.specs.declared.worlds.WorldItem.{WorldItem}
use Rattle.wit_data.specs.declared.worlds.WorldItem.TheVariants as world_items
use Rattle.wit_data.specs.declared.worlds.WorldKey.{WorldKey}
use Rattle.wit_data.specs.declared.worlds.WorldKey.TheVariants as keys
use Rattle.wit_data.specs.declared.functions.Function.{Function}
use Rattle.wit_data.specs.declared.ids.TypeId.{TypeId}
use Rattle.wit_data.specs.declared.resolve.Resolve.{Resolve}
use Rattle.wit_data.specs.declared.types.TypeDef.{TypeDef}
use Rattle.world_values.specs.Items.{functions_of}
use Rattle.comp_worlds.specs.Encodable.{IsEncodable, place_in}
use Rattle.comp_worlds.specs.WorldTables.{HasTables}
use Rattle.world_values.specs.Mentions.{interfaces_of, same_interface}
use Rattle.interface_needs.specs.Needs.{AreUsedNames}
use Rattle.interface_needs.proofs.Lending.{imports_apart}
use Rattle.comp_imports.proofs.NeededInterfaces.{apart_before, found_before, needed_imported, needed_named_of, number_behind, place_there}
use Rattle.root_imports.proofs.NeededNames.{both_none, names_none}
use Rattle.comp_worlds.specs.WorldContents.{items_of, imported_types}
use Rattle.comp_worlds.specs.Worlds.{IsImportItem, IsNamedFunction}
use Rattle.comp_worlds.specs.declared.world.ComponentWorld.{ComponentWorld}
use Rattle.comp_links.specs.Naming.{Naming}
use Rattle.comp_links.specs.Lists.{ImportedInterface, WorldType, RootFunction, import_entries, interface_entries, interface_entry, needed_types, names_of_interface, number_of_interface, unless_empty}
use Rattle.comp_links.specs.Roles.{is_used_of, used_functions, used_functions_of}
use Rattle.comp_terms.specs.Rules.{Grows, import_marked}
use Rattle.comp_terms.specs.Terms.{imports_in}
use Rattle.comp_items.specs.Items.{Extends}
use Rattle.comp_items.proofs.Extending.{extends_none, extends_then}
use Rattle.root_imports.specs.Growing.{Grows-none, Grows-then}
use Rattle.root_imports.specs.Interfaces.{AreInstancesKnown, FindsInterfaces, IsInterfaceImport}
use Rattle.comp_imports.specs.Interfaces.{FindsInterfacesStill, IsFoundItem, IsNextInterfaceItem, interfaces_marked}
use Rattle.comp_imports.proofs.AllImports.{interfaces_counted_of}
use Rattle.root_imports.proofs.Looking.{entry_sound}

-- ---- a table with one instance more

each_of_first : (P : InterfaceId × ℕ → Type 0) (es : List (InterfaceId × ℕ)) (id : InterfaceId) (index : ℕ) → AllByRecursion P es → P (id, index) → AllByRecursion P (with_first same_id.eq-value.it es id index)
each_of_first P es id index h p = by (is_some (lookup (same_id.eq-value.it id) es))
  where
    by : (b : Bool) → AllByRecursion P (if b then es else es ++ (id, index) ∷ [])
    by true = h
    by false = all_both P es ((id, index) ∷ []) h (p, tt)

pub finds_added : {w : ComponentWorld} {ds : List Def} (es new : List (InterfaceId × ℕ)) (id : InterfaceId) (index : ℕ) → new ≡ with_first same_id.eq-value.it es id index → FindsInterfaces w ds es → IsInterfaceImport w ds id index → FindsInterfaces w ds new
finds_added {w} {ds} es new id index same h i = record { each = subst (AllByRecursion (λ (e : InterfaceId × ℕ). IsInterfaceImport w ds e.0 e.1)) (sym same) (each_of_first (λ e. IsInterfaceImport w ds e.0 e.1) es id index h.each i) }

found_with : (test : InterfaceId → Bool) (es : List (InterfaceId × ℕ)) (id : InterfaceId) (index : ℕ) → is_some (lookup test es) ≡ true → is_some (lookup test (es ++ (id, index) ∷ [])) ≡ true
found_with test [] id index h = absurd (true≢false (sym h))
found_with test (e ∷ es) id index h = by (test e.0) h (found_with test es id index)
  where
    by : (b : Bool) → is_some (cond b (Some e.1) (lookup test es)) ≡ true → (is_some (lookup test es) ≡ true → is_some (lookup test (es ++ (id, index) ∷ [])) ≡ true) → is_some (cond b (Some e.1) (lookup test (es ++ (id, index) ∷ []))) ≡ true
    by true h rest = refl
    by false h rest = rest h

found_last : (test : InterfaceId → Bool) (es : List (InterfaceId × ℕ)) (id : InterfaceId) (index : ℕ) → test id ≡ true → is_some (lookup test (es ++ (id, index) ∷ [])) ≡ true
found_last test [] id index h = ap (λ b. is_some (cond b (Some index) None)) h
found_last test (e ∷ es) id index h = by (test e.0) (found_last test es id index h)
  where
    by : (b : Bool) → is_some (lookup test (es ++ (id, index) ∷ [])) ≡ true → is_some (cond b (Some e.1) (lookup test (es ++ (id, index) ∷ []))) ≡ true
    by true rest = refl
    by false rest = rest

pub still_added : (es new : List (InterfaceId × ℕ)) (id : InterfaceId) (index : ℕ) → new ≡ with_first same_id.eq-value.it es id index → FindsInterfacesStill es new
still_added es new id index same = record { each = λ other h. subst (λ l. is_some (lookup (same_id.eq-value.it other) l) ≡ true) (sym same) (by other (is_some (lookup (same_id.eq-value.it id) es)) h) }
  where
    by : (other : InterfaceId) (b : Bool) → is_some (lookup (same_id.eq-value.it other) es) ≡ true → is_some (lookup (same_id.eq-value.it other) (if b then es else es ++ (id, index) ∷ [])) ≡ true
    by other true h = h
    by other false h = found_with (same_id.eq-value.it other) es id index h

pub still_same : (es : List (InterfaceId × ℕ)) → FindsInterfacesStill es es
still_same es = record { each = λ id h. h }

pub there_added : (es new : List (InterfaceId × ℕ)) (id : InterfaceId) (index : ℕ) → new ≡ with_first same_id.eq-value.it es id index → is_some (lookup (same_id.eq-value.it id) new) ≡ true
there_added es new id index same = subst (λ l. is_some (lookup (same_id.eq-value.it id) l) ≡ true) (sym same) (by (is_some (lookup (same_id.eq-value.it id) es)) refl)
  where
    by : (b : Bool) → is_some (lookup (same_id.eq-value.it id) es) ≡ b → is_some (lookup (same_id.eq-value.it id) (if b then es else es ++ (id, index) ∷ [])) ≡ true
    by true e = e
    by false e = found_last (same_id.eq-value.it id) es id index ((Decides-eqb id.index id.index).1 refl)

-- ---- which functions are used

-- a name that is listed and used is in the table of used names
listed_used : (fs : List (List ℕ × Function)) (p : List ℕ → Bool) (name : List ℕ) → Contains (map (λ f. f.0) fs) name → p name ≡ true → list_any (λ f. bytes_eq name f.0 && p f.0) fs ≡ true
listed_used [] p name c u = contains_none name c
listed_used (f ∷ fs) p name c u = elim (contains_cons f.0 (map (λ f. f.0) fs) name c) [
  | inl same ↦ ap (λ b. b || list_any (λ f. bytes_eq name f.0 && p f.0) fs) (ap₂ (λ x y. x && y) ((bytes_eq-Decides name f.0).1 (sym same)) (ap p same ∙ u))
  | inr later ↦ or_later (bytes_eq name f.0 && p f.0) (list_any (λ f. bytes_eq name f.0 && p f.0) fs) (listed_used fs p name later u)
]
  where
    or_later : (a b : Bool) → b ≡ true → (a || b) ≡ true
    or_later true b e = refl
    or_later false b e = e

-- each function of the interface is in the table exactly if it is used
own_used : (all fs : List (List ℕ × Function)) (p : List ℕ → Bool) (used : List (List ℕ × Unit {0})) → ((text : List ℕ) → is_some (found text used) ≡ list_any (λ f. bytes_eq text f.0 && p f.0) all) →
    AllByRecursion (λ f. Contains (map (λ g. g.0) all) f.0) fs → AllByRecursion (λ f. is_some (found f.0 used) ≡ p f.0) fs
own_used all [] p used each c = tt
own_used all (f ∷ fs) p used each c = (each f.0 ∙ by (p f.0) refl, own_used all fs p used each c.1)
  where
    none : (gs : List (List ℕ × Function)) → p f.0 ≡ false → list_any (λ g. bytes_eq f.0 g.0 && p g.0) gs ≡ false
    none [] e = refl
    none (g ∷ gs) e = one (bytes_eq f.0 g.0) refl (none gs e)
      where
        one : (b : Bool) → bytes_eq f.0 g.0 ≡ b → list_any (λ g. bytes_eq f.0 g.0 && p g.0) gs ≡ false → ((b && p g.0) || list_any (λ g. bytes_eq f.0 g.0 && p g.0) gs) ≡ false
        one true same h = ap (λ q. q || list_any (λ g. bytes_eq f.0 g.0 && p g.0) gs) (ap p (sym ((bytes_eq-Decides f.0 g.0).0 same)) ∙ e) ∙ h
        one false apart h = h

    by : (b : Bool) → p f.0 ≡ b → list_any (λ g. bytes_eq f.0 g.0 && p g.0) all ≡ p f.0
    by true e = listed_used all p f.0 c.0 e ∙ sym e
    by false e = none all e ∙ sym e

-- the used functions are those whose names are in the table
each_listed : (all done fs : List (List ℕ × Function)) → done ++ fs ≡ all → AllByRecursion (λ f. Contains (map (λ g. g.0) all) f.0) fs
each_listed all done [] e = tt
each_listed all done (f ∷ fs) e = (
  subst (λ gs. Contains (map (λ (g : List ℕ × Function). g.0) gs) f.0) e (rw (map-append (λ (g : List ℕ × Function). g.0) done (f ∷ fs)) (Contains-append_right (map (λ (g : List ℕ × Function). g.0) done) (map (λ (g : List ℕ × Function). g.0) (f ∷ fs)) f.0 (0, omega arith, refl))),
  each_listed all (done ++ f ∷ []) fs (append_assoc done (f ∷ []) fs ∙ e),
)

pub names_used : (w : ComponentWorld) (id : InterfaceId) (used : List (List ℕ × Unit {0})) → AreUsedNames w id used → AllByRecursion (λ f. is_some (found f.0 used) ≡ is_used_of w id f.0) (functions_of w.resolve id)
names_used w id used h = own_used (functions_of w.resolve id) (functions_of w.resolve id) (is_used_of w id) used h.each (each_listed (functions_of w.resolve id) [] (functions_of w.resolve id) refl)

-- an empty table, where no function is used
none_pass : (p : List ℕ → Bool) (fs : List (List ℕ × Function)) → AllByRecursion (λ f. false ≡ p f.0) fs → filter p (map (λ f. f.0) fs) ≡ []
none_pass p [] h = refl
none_pass p (f ∷ fs) h = ap (λ b. if b then f.0 ∷ filter p (map (λ f. f.0) fs) else filter p (map (λ f. f.0) fs)) (sym h.0) ∙ none_pass p fs h.1

pub none_used : (w : ComponentWorld) (id : InterfaceId) (used : List (List ℕ × Unit {0})) → AreUsedNames w id used → used ≡ [] → used_functions_of w id ≡ []
none_used w id used h empty =
    none_pass (is_used_of w id) (functions_of w.resolve id)
    (subst (λ (table : List (List ℕ × Unit {0})). AllByRecursion (λ f. is_some (found f.0 table) ≡ is_used_of w id f.0) (functions_of w.resolve id)) empty (names_used w id used h))

and_false : (c : Bool) → (c && false) ≡ false
and_false true = refl
and_false false = refl

-- and one that is not, where some is
none_any : (p : List ℕ → Bool) (text : List ℕ) (fs : List (List ℕ × Function)) → filter p (map (λ f. f.0) fs) ≡ [] → list_any (λ f. bytes_eq text f.0 && p f.0) fs ≡ false
none_any p text [] e = refl
none_any p text (f ∷ fs) e = by (p f.0) e (none_any p text fs)
  where
    by : (b : Bool) → (if b then f.0 ∷ filter p (map (λ f. f.0) fs) else filter p (map (λ f. f.0) fs)) ≡ [] → (filter p (map (λ f. f.0) fs) ≡ [] → list_any (λ f. bytes_eq text f.0 && p f.0) fs ≡ false) →
        ((bytes_eq text f.0 && b) || list_any (λ f. bytes_eq text f.0 && p f.0) fs) ≡ false
    by true e rest = cc
    by false e rest = ap (λ c. c || list_any (λ f. bytes_eq text f.0 && p f.0) fs) (and_false (bytes_eq text f.0)) ∙ rest e

pub some_used : (w : ComponentWorld) (id : InterfaceId) (used : List (List ℕ × Unit {0})) → AreUsedNames w id used → (used ≡ [] → ⊥) → used_functions_of w id ≡ [] → ⊥
some_used w id [] h some e = some refl
some_used w id ((k, v) ∷ used) h some e =
    let here : is_some (found k ((k, v) ∷ used)) ≡ true = ap (λ b. is_some (cond b (Some v) (found k used))) ((bytes_eq-Decides k k).1 refl) in
    absurd (true≢false (sym here ∙ (h.each k ∙ none_any (is_used_of w id) k (functions_of w.resolve id) e)))

-- ---- the loop

-- the items of the world that were passed so far, and what was made for them
pub record InterfacesSoFar (n : Naming) (w : ComponentWorld) (old new : Built) (instances : List (InterfaceId × ℕ)) (rest : List (WorldKey × WorldItem)) : Type 0 where
  pub done : List (WorldKey × WorldItem)
  pub split : done ++ rest ≡ (items_of w).imports
  pub extends : Extends old new
  pub grows : Grows w old.defs new.defs (flat_map (import_marked n w) (flat_map (interface_entry w) done))
  pub finds : FindsInterfaces w new.defs instances
  pub found : AllByRecursion (IsFoundItem w instances) done

pub interfaces_start : (n : Naming) (w : ComponentWorld) (old : Built) (instances : List (InterfaceId × ℕ)) → instances ≡ [] → InterfacesSoFar n w old old instances (items_of w).imports
interfaces_start n w old instances none = record {
  done = [];
  split = refl;
  extends = extends_none old;
  grows = Grows-none w old.defs;
  finds = record { each = subst (AllByRecursion (λ (e : InterfaceId × ℕ). IsInterfaceImport w old.defs e.0 e.1)) (sym none) tt };
  found = tt;
}

still_found : (w : ComponentWorld) (before after : List (InterfaceId × ℕ)) → FindsInterfacesStill before after → (e : WorldKey × WorldItem) → IsFoundItem w before e → IsFoundItem w after e
still_found w before after still (key, world_items.Interface id) h = λ some. still.each id (h some)
still_found w before after still (key, world_items.Function f) h = tt
still_found w before after still (key, world_items.NamedType id) h = tt

entries_push : (w : ComponentWorld) (done : List (WorldKey × WorldItem)) (e : WorldKey × WorldItem) → flat_map (interface_entry w) (done ++ e ∷ []) ≡ flat_map (interface_entry w) done ++ interface_entry w e
entries_push w done e = flat_map-append (interface_entry w) done (e ∷ []) ∙ ap (λ l. flat_map (interface_entry w) done ++ l) (append-nil (interface_entry w e))

pub interfaces_step : (n : Naming) (w : ComponentWorld) (old mid new : Built) (before after : List (InterfaceId × ℕ)) (e : WorldKey × WorldItem) (rest : List (WorldKey × WorldItem)) → InterfacesSoFar n w old mid before (e ∷ rest) →
    Extends mid new → Grows w mid.defs new.defs (flat_map (import_marked n w) (interface_entry w e)) → FindsInterfaces w new.defs after → FindsInterfacesStill before after → IsFoundItem w after e → InterfacesSoFar n w old new after rest
interfaces_step n w old mid new before after e rest h extends grows finds still here = record {
  done = h.done ++ e ∷ [];
  split = append_assoc h.done (e ∷ []) rest ∙ h.split;
  extends = extends_then old mid new h.extends extends;
  grows =
      let marks : flat_map (import_marked n w) (flat_map (interface_entry w) (h.done ++ e ∷ [])) ≡ flat_map (import_marked n w) (flat_map (interface_entry w) h.done) ++ flat_map (import_marked n w) (interface_entry w e) =
      ap (flat_map (import_marked n w)) (entries_push w h.done e) ∙ flat_map-append (import_marked n w) (flat_map (interface_entry w) h.done) (interface_entry w e) in
      subst (λ m. Grows w old.defs new.defs m) (sym marks) (Grows-then h.grows grows);
  finds = finds;
  found = all_both (IsFoundItem w after) h.done (e ∷ []) (AllByRecursion-weaker (still_found w before after still) h.done h.found) (here, tt);
}

-- no item is left
module _ (n : Naming) (w : ComponentWorld) (old new : Built) (instances : List (InterfaceId × ℕ)) (h : InterfacesSoFar n w old new instances []) where
  all_done : h.done ≡ (items_of w).imports
  all_done = sym (append-nil h.done) ∙ h.split

  pub interfaces_done : Grows w old.defs new.defs (interfaces_marked n w)
  interfaces_done = subst (λ es. Grows w old.defs new.defs (flat_map (import_marked n w) (flat_map (interface_entry w) es))) all_done h.grows

  pub interfaces_known : IsEncodable w → AreInstancesKnown w new.defs instances
  interfaces_known ok = record {
    finds = h.finds;
    needed = record { each = λ id i. AllByRecursion-contains (IsFoundItem w instances) (items_of w).imports (i.key, world_items.Interface id) (subst (AllByRecursion (IsFoundItem w instances)) all_done h.found) i.there };
    imported = needed_imported w ok.tables;
    named = λ id t h. needed_named_of w ok id t (needed_imported w ok.tables id t h) h;
  }

-- ---- the next interface

named_functions : (r : Resolve) (key : WorldKey) (id : InterfaceId) → IsImportItem r (key, world_items.Interface id) → AllByRecursion IsNamedFunction (functions_of r id)
named_functions r (keys.Name text) id h = h
named_functions r (keys.Interface other) id h = h

-- functions have their names
pub named_only : (types : List TypeDef) (fs : List (List ℕ × Function)) → AllByRecursion IsNamedFunction fs → AllByRecursion (λ e. e.0 ≡ e.1.name) fs
named_only types fs h = h

entry_used : (key : WorldKey) (id : InterfaceId) (names : List (List ℕ)) → names ≢ [] → unless_empty names (ImportedInterface key id) ≡ ImportedInterface key id ∷ []
entry_used key id [] some = absurd (some refl)
entry_used key id (name ∷ names) some = refl

-- where nothing of it is needed, the interface is not imported
pub entry_unused : (w : ComponentWorld) (key : WorldKey) (id : InterfaceId) → names_of_interface w id ≡ [] → interface_entry w (key, world_items.Interface id) ≡ []
entry_unused w key id none = ap (λ names. unless_empty names (ImportedInterface key id)) none

-- where something is, it is
pub entry_is : (w : ComponentWorld) (key : WorldKey) (id : InterfaceId) → names_of_interface w id ≢ [] → interface_entry w (key, world_items.Interface id) ≡ ImportedInterface key id ∷ []
entry_is w key id some = entry_used key id (names_of_interface w id) some

-- no type is needed and no function is in the table of used ones exactly where nothing is needed
pub unneeded : (w : ComponentWorld) (id : InterfaceId) (used : List (List ℕ × Unit {0})) → AreUsedNames w id used → needed_types w id ≡ [] → used ≡ [] → names_of_interface w id ≡ []
unneeded w id used h none empty = names_none w id none (none_used w id used h empty)

pub some_needed : (w : ComponentWorld) (id : InterfaceId) (used : List (List ℕ × Unit {0})) → AreUsedNames w id used → (needed_types w id ≡ [] → used ≢ []) → names_of_interface w id ≢ []
some_needed w id [] h some e = let p = both_none w id e in some p.0 refl
some_needed w id (u ∷ us) h some e = let p = both_none w id e in some_used w id (u ∷ us) h (λ s. cc) p.1

pub next_interface : (n : Naming) (w : ComponentWorld) (old mid : Built) (instances : List (InterfaceId × ℕ)) (e : WorldKey × WorldItem) (rest : List (WorldKey × WorldItem)) → IsEncodable w → imports_in old.defs ≡ 0 → InterfacesSoFar n w old mid instances (e ∷ rest) →
    IsNextInterfaceItem w mid.defs instances e
next_interface n w old mid instances (key, world_items.Function f) rest ok first h = tt
next_interface n w old mid instances (key, world_items.NamedType id) rest ok first h = tt
next_interface n w old mid instances (key, world_items.Interface id) rest ok first h =
    let e : WorldKey × WorldItem = (key, world_items.Interface id) in
    let done = flat_map (interface_entry w) h.done in
    let more = flat_map (interface_entry w) rest in
    let tail = map (λ (t : List ℕ × TypeId). WorldType t.0 t.1) (imported_types w) ++ map RootFunction (used_functions w) in
    let count : imports_in mid.defs ≡ length done = interfaces_counted_of n w old.defs mid.defs h.done first h.grows in
    let all : names_of_interface w id ≢ [] → interface_entries w ≡ (done ++ ImportedInterface key id ∷ []) ++ more =
    λ some. ap (flat_map (interface_entry w)) (sym h.split) ∙ (flat_map-append (interface_entry w) h.done (e ∷ rest)
    ∙ (ap (λ l. done ++ (l ++ more)) (entry_is w key id some) ∙ sym (append_assoc done (ImportedInterface key id ∷ []) more))) in
    record {
      has_key = (entry_sound w ok h.done rest e h.split).0;
      present = (entry_sound w ok h.done rest e h.split).1;
      imported = record { key = key; there = subst (λ es. Contains es e) h.split (Contains-append_right h.done (e ∷ rest) e (0, omega arith, refl)) };
      plain = named_functions w.resolve key id ((AllByRecursion-back (IsImportItem w.resolve) h.done (e ∷ rest) (subst (AllByRecursion (IsImportItem w.resolve)) (sym h.split) ok.valid.imports)).0);
      stated = λ some.
          let there : slice_get (interface_entries w) (length done) ≡ Some (ImportedInterface key id) =
          ap (λ l. slice_get l (length done)) (all some) ∙ slice_get-append (done ++ ImportedInterface key id ∷ []) more (length done) (ImportedInterface key id) (slice_get-end done (ImportedInterface key id)) in
          ap (slice_get (import_entries w)) count ∙ slice_get-append (interface_entries w) tail (length done) (ImportedInterface key id) there;
      number = λ some.
          let before = apart_before h.done key id rest (subst (λ es. IsDistinct same_interface (interfaces_of es)) (sym h.split) (imports_apart w ok)) in
          let split : import_entries w ≡ done ++ (ImportedInterface key id ∷ (more ++ tail)) =
          ap (λ l. l ++ tail) (all some) ∙ (append_assoc (done ++ ImportedInterface key id ∷ []) more tail ∙ append_assoc done (ImportedInterface key id ∷ []) (more ++ tail)) in
          ap (number_of_interface id) split
          ∙ (number_behind w id h.done (ImportedInterface key id ∷ (more ++ tail)) before
          ∙ (ap (λ b. length done + (if b then 0 else suc (number_of_interface id (more ++ tail)))) ((Decides-eqb id.index id.index).1 refl) ∙ (add-zero (length done) ∙ sym count)));
      earlier = record {
        each = λ other l.
            let at = place_there h.done key id rest in
            found_before w instances h.done (e ∷ rest) other h.found
            (subst (λ es. place_in es other < length h.done) (sym h.split) (let l : place_in (items_of w).imports other < place_in (items_of w).imports id = l in let at : place_in (items_of w).imports id ≤ length h.done = subst (λ es. place_in es id ≤ length h.done) h.split at in omega (arith, l, at)));
      };
    }

pub ruleset passing_over = (Grows-none, still_same, extends_none)
