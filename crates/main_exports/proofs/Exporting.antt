-- What each export adds, and what is known of a required export.
use Rattle.std.proofs.Common.{◌≡◌, ◌∙◌, ◌+◌, ◌<◌, arith, ℕ, zero, suc, Bool, true, false, true≢false, List, [], ◌∷◌, ◌++◌, refl, ap, ap₂, sym, subst, Contains, Some, None, Option, IsSome, append-nil, cond, take, rules, ◌⊎◌, inl, inr, Bor}
use Rattle.std.specs.Prelude.{length, map, get_or}
use Rattle.std.specs.Option.{option_and_then, option_copied}
use Rattle.std.specs.Cmp.{IsEquivalence}
use Rattle.std.specs.Cmp.Rules.{comparing}
use Rattle.std.specs.List.{AllByRecursion, IsDistinct, filter_map, flat_map, slice_get}
use Rattle.std.specs.Map.{keys_of, lookup}
use Rattle.std.specs.Str.{bytes_eq}
use Rattle.std.proofs.lemmas.Grind.{flat_map-append}
use Rattle.std.proofs.lemmas.List.{length-append, length-map, length-take-le, map-append, take_more, take_all}
use Rattle.std.proofs.lemmas.Map.Views.{lookup-from_Contains}
use Rattle.std.proofs.lemmas.List.Elements.{filter_map-append}
use Rattle.std.proofs.lemmas.Option.{none-some, same_Some, slice_get-get_or}
use Rattle.comp_lists.proofs.Lists.{AllByRecursion-at, AllByRecursion-contains, AllByRecursion-weaker, Contains-map}
use Rattle.comp_bytes.specs.ScopeNames.{def_export}
use Rattle.comp_bytes.specs.declared.def.Def.{Def}
use Rattle.comp_bytes.specs.declared.def.Def.TheVariants as defs
use Rattle.comp_bytes.specs.declared.def.Item.TheVariants as items
use Rattle.comp_bytes.specs.declared.types.TypeDef.TheVariants as types
use Rattle.comp_bytes.specs.declared.space.Sort.{Sort}
use Rattle.comp_bytes.specs.declared.types.ExternName.{ExternName}
use Rattle.wit_data.specs.Keys.{is_same_key}
use Rattle.wit_data.specs.Sound.{HasEntry, HasFunction, HasInterface, HasKey, HasWorld}
use Rattle.wit_data.proofs.Values.{all_at}
use Rattle.comp_roles.specs.declared.metadata.FunctionKey.{FunctionKey}
use Rattle.wit_data.specs.declared.functions.Function.{Function}
use Rattle.wit_data.specs.declared.ids.InterfaceId.{InterfaceId}
use Rattle.wit_data.specs.declared.ids.TypeId.{TypeId}
use Rattle.wit_data.specs.declared.worlds.WorldItem.{WorldItem}
use Rattle.wit_data.specs.declared.worlds.WorldItem.TheVariants as world_items
use Rattle.wit_data.specs.declared.worlds.WorldKey.{WorldKey}
use Rattle.wit_data.specs.declared.worlds.WorldKey.TheVariants as keys
use Rattle.world_values.specs.Items.{no_items, functions_of, functions_in, function_of_item}
use Rattle.comp_worlds.specs.Encodable.{IsEncodable}
use Rattle.comp_worlds.specs.WorldContents.{items_of, exported_item, function_exported, core_name_in, keys_required}
use Rattle.comp_worlds.specs.Worlds.{IsExportItem, IsNamedFunction, IsRequired}
use Rattle.comp_worlds.specs.declared.world.ComponentWorld.{ComponentWorld}
use Rattle.comp_worlds.specs.declared.world.ValidatedModule.{ValidatedModule}
use Rattle.comp_links.specs.Links.{core_name}
use Rattle.comp_links.specs.Lists.{RequiredKey, functions_required, required_functions, required_keys, sort_of}
use Rattle.comp_links.specs.Modules.{module_found, user_imports}
use Rattle.comp_links.specs.Naming.{Naming, name_of}
use Rattle.comp_links.specs.Targets.{UserModule as User}
use Rattle.comp_terms.specs.Exports.{exports_in}
use Rattle.comp_terms.specs.Rules.{Landmark, NestedOf, Exported, landmark, landmarks, Grows, IsExportRight, nested_marked, export_marked}
use Rattle.interface_needs.proofs.Lists.{all_both, all_of_each, contains_cons, contains_first, contains_flat, contains_later, contains_none}
use Rattle.wit_data.specs.Live.{named_types}
use Rattle.nested_components.specs.Types.{IsAtHome}
use Rattle.interface_needs.specs.RootNeeds.{interface_of_item, IsExportedInterface, is_lent_type}
use Rattle.interface_needs.proofs.Orders.{home_later}
use Rattle.comp_worlds.specs.ExportOrder.{AreExportsInOrder}
use Rattle.interface_needs.proofs.RootItems.{exported_there, exported_sound}
use Rattle.interface_needs.proofs.ExportedInterfaces.{exported_titled, exported_ascend, exported_types_home, exported_functions_home, exported_every}
use Rattle.root_imports.specs.Growing.{Grows-none, Grows-by, Grows-then}
use Rattle.core_options.specs.Causes.{IsCause, IsCauseAmong, IsEncodedExport}
use Rattle.core_options.specs.MainOptions.{HasLiftOptions}
use Rattle.core_options.specs.declared.fault.StateFault.{StateFault}
use Rattle.core_options.proofs.Refusals.{among_more}
use Rattle.root_imports.specs.Keeping.{Root, RootMoved}
use Rattle.main_exports.specs.Exports.{function_of, at_key, functions_at, functions_of_key, key_for, key_marked, IsModuleFunction, AreModuleFunctions, AreNextKeys, AreExported}
use Rattle.root_imports.proofs.Keeping.{moved_then}

-- ---- how many exports there are

abbrev pub exported_marks : List Landmark → ℕ
exported_marks [] = 0
exported_marks (Exported s ∷ ms) = suc (exported_marks ms)
exported_marks (m ∷ ms) = exported_marks ms

suc_plus : (a b : ℕ) → suc (a + b) ≡ suc a + b
suc_plus a b = omega arith

pub marks_append : (a b : List Landmark) → exported_marks (a ++ b) ≡ exported_marks a + exported_marks b
marks_append [] b = omega arith
marks_append (Exported s ∷ ms) b = ap suc (marks_append ms b) ∙ suc_plus (exported_marks ms) (exported_marks b)
marks_append (m ∷ ms) b = marks_append ms b

def_counted : (d : Def) → length (def_export d) ≡ exported_marks (filter_map landmark (d ∷ []))
def_counted (defs.Item (items.CoreModule bytes)) = refl
def_counted (defs.Item (items.Type (types.Resource destructor))) = refl
def_counted (defs.Item (items.Type (types.Func f))) = refl
def_counted (defs.Item (items.Type (types.Defined t))) = refl
def_counted d = refl

counted : (ds : List Def) → exports_in ds ≡ exported_marks (landmarks ds)
counted [] = refl
counted (d ∷ ds) =
    length-append (def_export d) (flat_map def_export ds)
    ∙ (ap₂ (λ a b. a + b) (def_counted d) (counted ds)
    ∙ (sym (marks_append (filter_map landmark (d ∷ [])) (landmarks ds)) ∙ ap exported_marks (sym (filter_map-append landmark (d ∷ []) ds))))

pub exports_grow : {w : ComponentWorld} {old new : List Def} {marks : List Landmark} → Grows w old new marks → exports_in new ≡ exports_in old + exported_marks marks
exports_grow {w} {old} {new} {marks} g =
    ap exports_in g.extended
    ∙ (ap (λ (l : List (List ℕ)). length l) (flat_map-append def_export old g.more)
    ∙ (length-append (flat_map def_export old) (flat_map def_export g.more) ∙ ap (λ n. exports_in old + n) (counted g.more ∙ ap exported_marks g.marked)))

-- what has no landmark exports nothing
pub exports_same : {w : ComponentWorld} {old new : List Def} → Grows w old new [] → exports_in new ≡ exports_in old
exports_same {w} {old} g = exports_grow g ∙ omega arith

pub exports_nested : {w : ComponentWorld} {old new : List Def} {imports exports : List (List ℕ)} → Grows w old new (NestedOf imports exports ∷ []) → exports_in new ≡ exports_in old
exports_nested {w} {old} g = exports_grow g ∙ omega arith

pub one_marked : (n : Naming) (w : ComponentWorld) (of : User) (key : WorldKey) → exported_marks (key_marked n w of key) ≡ 1
one_marked n w of key = by (exported_item w key)
  where
    by : (o : Option WorldItem) → exported_marks (nested_marked w o ++ Exported (record { name = name_of n w.resolve key; sort = sort_of o }) ∷ []) ≡ 1
    by (Some (world_items.Interface id)) = refl
    by (Some (world_items.Function f)) = refl
    by (Some (world_items.NamedType id)) = refl
    by None = refl

all_marked : (n : Naming) (w : ComponentWorld) (rs : List RequiredKey) → exported_marks (flat_map (export_marked n w) rs) ≡ length rs
all_marked n w [] = refl
all_marked n w (r ∷ rs) =
    marks_append (export_marked n w r) (flat_map (export_marked n w) rs) ∙ (ap₂ (λ a b. a + b) (one_marked n w r.of r.key) (all_marked n w rs) ∙ omega arith)

-- ---- one export

pub adds_export : (w : ComponentWorld) (old new : List Def) (name : ExternName) (sort : Sort) (index : ℕ) → IsExportRight w old sort index None → new ≡ old ++ defs.Item (items.Export name sort index None) ∷ [] →
    Grows w old new (Exported (record { name = name; sort = sort }) ∷ [])
adds_export w old new name sort index right appended = Grows-by (defs.Item (items.Export name sort index None)) appended right

-- its landmarks are those of the key
pub marked_as : (n : Naming) (w : ComponentWorld) (of : User) (key : WorldKey) (item : WorldItem) → exported_item w key ≡ Some item →
    nested_marked w (Some item) ++ Exported (record { name = name_of n w.resolve key; sort = sort_of (Some item) }) ∷ [] ≡ key_marked n w of key
marked_as n w of key item is = ap (λ o. nested_marked w o ++ Exported (record { name = name_of n w.resolve key; sort = sort_of o }) ∷ []) (sym is)

-- ---- what is known of a required export

there_among : (es : List (WorldKey × WorldItem)) (key : WorldKey) (item : WorldItem) → lookup (is_same_key key) es ≡ Some item → (k : WorldKey) × Contains es (k, item)
there_among [] key item h = absurd (none-some item h)
there_among (e ∷ es) key item h = by (is_same_key key e.0) h (λ k. there_among es key item k)
  where
    by : (b : Bool) → cond b (Some e.1) (lookup (is_same_key key) es) ≡ Some item → (lookup (is_same_key key) es ≡ Some item → (k : WorldKey) × Contains es (k, item)) → (k : WorldKey) × Contains (e ∷ es) (k, item)
    by true same rest = (e.0, subst (λ i. Contains (e ∷ es) (e.0, i)) (same_Some e.1 item same) (contains_first e es))
    by false same rest = let r = rest same in (r.0, contains_later e es (r.0, item) r.1)

pub item_there : (w : ComponentWorld) (key : WorldKey) (item : WorldItem) → exported_item w key ≡ Some item → (k : WorldKey) × Contains (items_of w).exports (k, item)
item_there w key item is = there_among (items_of w).exports key item is

entry_sound : (w : ComponentWorld) → IsEncodable w → (e : WorldKey × WorldItem) → Contains (items_of w).exports e → HasEntry w.resolve e
entry_sound w ok e c =
    let world : HasWorld w.resolve (items_of w) = all_at (HasWorld w.resolve) w.resolve.worlds w.world.index no_items ok.sound.worlds ok.valid.present in
    AllByRecursion-contains (HasEntry w.resolve) (items_of w).exports e world.exports c

bytes_laws : IsEquivalence bytes_eq
bytes_laws = search (comparing, rules)

same_keys : IsEquivalence is_same_key
same_keys = search (comparing, rules) depth 12

pub interface_there : (w : ComponentWorld) → IsEncodable w → (key : WorldKey) (id : InterfaceId) → exported_item w key ≡ Some (world_items.Interface id) → HasInterface w.resolve id
interface_there w ok key id is = let there = item_there w key (world_items.Interface id) is in (entry_sound w ok (there.0, world_items.Interface id) there.1).1

-- an item is exported at each key of the exports
item_at : (es : List (WorldKey × WorldItem)) (key : WorldKey) → Contains (map (λ e. e.0) es) key → IsSome (lookup (is_same_key key) es)
item_at [] key c = contains_none key c
item_at (e ∷ es) key c = by (is_same_key key e.0) refl (contains_cons e.0 (map (λ e. e.0) es) key c) (λ d. item_at es key d)
  where
    by : (b : Bool) → is_same_key key e.0 ≡ b → (e.0 ≡ key) ⊎ Contains (map (λ e. e.0) es) key → (Contains (map (λ e. e.0) es) key → IsSome (lookup (is_same_key key) es)) → IsSome (cond b (Some e.1) (lookup (is_same_key key) es))
    by true same c rest = refl
    by false other (inr c) rest = rest c
    by false other (inl is) rest = absurd (true≢false (sym (same_keys.refl key) ∙ (ap (λ k. is_same_key key k) (sym is) ∙ other)))

pub required_item : (w : ComponentWorld) (m : ValidatedModule) (key : WorldKey) → IsRequired w m key → IsSome (exported_item w key)
required_item w m key h = item_at (items_of w).exports key h.exported

contained_key : (es : List (WorldKey × WorldItem)) (key : WorldKey) → Contains (map (λ e. e.0) es) key → (e : WorldKey × WorldItem) × ((e.0 ≡ key) × Contains es e)
contained_key [] key c = contains_none key c
contained_key (e ∷ es) key c = by (contains_cons e.0 (map (λ e. e.0) es) key c) (λ d. contained_key es key d)
  where
    by : (e.0 ≡ key) ⊎ Contains (map (λ e. e.0) es) key → (Contains (map (λ e. e.0) es) key → (f : WorldKey × WorldItem) × ((f.0 ≡ key) × Contains es f)) → (f : WorldKey × WorldItem) × ((f.0 ≡ key) × Contains (e ∷ es) f)
    by (inl is) rest = (e, (is, contains_first e es))
    by (inr later) rest = let r = rest later in (r.0, (r.1.0, contains_later e es r.0 r.1.1))

pub key_sound : (w : ComponentWorld) → IsEncodable w → (m : ValidatedModule) (key : WorldKey) → IsRequired w m key → HasKey w.resolve key
key_sound w ok m key h =
    let e = contained_key (items_of w).exports key h.exported in
    subst (HasKey w.resolve) e.1.0 (entry_sound w ok e.0 e.1.1).0

-- a core export that is found in a module is found by the module's name
core_known : (w : ComponentWorld) (of : User) (m : ValidatedModule) → module_found w of ≡ Some m → (f : FunctionKey) → IsSome (core_name_in m.exports.exports f.key f.function) → IsSome (core_name w (function_of of f))
core_known w of m found f h = subst (λ o. IsSome o) (sym (ap (option_and_then (λ (m : ValidatedModule). core_name_in m.exports.exports f.key f.function)) found)) h

-- the function that a required key exports
pub function_required : (w : ComponentWorld) → IsEncodable w → (of : User) (m : ValidatedModule) → module_found w of ≡ Some m → (key : WorldKey) (f : Function) → exported_item w key ≡ Some (world_items.Function f) → IsRequired w m key →
    IsModuleFunction w of (at_key key f.name) f
function_required w ok of m found key f is h =
    let there = item_there w key (world_items.Function f) is in
    record {
      exported = ap (λ o. function_of_item w.resolve f.name o) is;
      present = core_known w of m found (at_key key f.name) (subst (λ o. AllByRecursion (λ name. IsSome (core_name_in m.exports.exports key name)) (functions_in w.resolve o)) is h.present).0;
      sound = (entry_sound w ok (there.0, world_items.Function f) there.1).1;
    }

-- ---- the functions of a required interface

module _ (w : ComponentWorld) (ok : IsEncodable w) (key : WorldKey) (id : InterfaceId) (is : exported_item w key ≡ Some (world_items.Interface id)) where
  abbrev entries : List (List ℕ × Function)
  entries = functions_of w.resolve id

  there : (k : WorldKey) × Contains (items_of w).exports (k, world_items.Interface id)
  there = item_there w key (world_items.Interface id) is

  -- each has its name
  pub entries_named : AllByRecursion IsNamedFunction entries
  entries_named = by there.0 (AllByRecursion-contains (IsExportItem w.resolve) (items_of w).exports (there.0, world_items.Interface id) ok.valid.exports there.1)
    where
      by : (k : WorldKey) → IsExportItem w.resolve (k, world_items.Interface id) → AllByRecursion IsNamedFunction entries
      by (keys.Name text) h = h
      by (keys.Interface other) h = h

  pub own_names : AllByRecursion (λ (e : List ℕ × Function). e.0 ≡ e.1.name) entries
  own_names = entries_named

  entry_found : IsDistinct bytes_eq (keys_of entries) → (e : List ℕ × Function) → Contains entries e → function_exported w key e.0 ≡ Some e.1
  entry_found apart e c = ap (λ o. function_of_item w.resolve e.0 o) is ∙ lookup-from_Contains bytes_laws e.0 e.1 entries apart c

  one_sound : IsDistinct bytes_eq (keys_of entries) → (e : List ℕ × Function) → Contains entries e → HasFunction w.resolve e.1
  one_sound apart e c = exported_sound w ok e.1 (exported_there w (record { key = key; name = e.0; exported = entry_found apart e c; of = ap (λ (o : Option WorldItem). interface_of_item o) is }))

  pub entries_sound : IsDistinct bytes_eq (keys_of entries) → AllByRecursion (λ (e : List ℕ × Function). HasFunction w.resolve e.1) entries
  entries_sound apart = all_of_each (λ (e : List ℕ × Function). HasFunction w.resolve e.1) entries (λ e c. one_sound apart e c)

  pub interface_at_home : (number : ℕ) → slice_get (keys_required w) number ≡ Some key → AreExportsInOrder w → IsAtHome w.resolve.types id (named_types w.resolve id) entries
  interface_at_home number at order =
      let exported : IsExportedInterface w id = record { key = key; of = is } in
      record {
        lent = is_lent_type w id;
        titled = exported_titled w ok id exported;
        ascend = exported_ascend w ok id exported;
        types = exported_types_home w ok id exported;
        functions = exported_functions_home w ok id exported;
        every = record { each = exported_every w ok id exported };
        later = record { each = λ t within other h. home_later w ok id number (record { key = key; required = at; item = is }) order t within other h };
      }

  pub interface_functions : (of : User) → functions_of_key w of key ≡ functions_at of key entries
  interface_functions of = ap (λ o. map (λ name. record { of = of; key = key; function = name }) (functions_in w.resolve o)) is ∙ twice entries
    where
      twice : (es : List (List ℕ × Function)) → map (λ name. record { of = of; key = key; function = name }) (map (λ (e : List ℕ × Function). e.0) es) ≡ functions_at of key es
      twice [] = refl
      twice (e ∷ es) = ap (λ l. function_of of (at_key key e.0) ∷ l) (twice es)

  pub entries_required : (of : User) (m : ValidatedModule) → module_found w of ≡ Some m → IsRequired w m key → IsDistinct bytes_eq (keys_of entries) → AreModuleFunctions w of key entries
  entries_required of m found h apart =
      let has : List ℕ → Type 0 = λ name. IsSome (core_name_in m.exports.exports key name) in
      let present : AllByRecursion has (map (λ (e : List ℕ × Function). e.0) entries) = subst (λ o. AllByRecursion has (functions_in w.resolve o)) is h.present in
      all_of_each (λ e. IsModuleFunction w of (at_key key e.0) e.1) entries
      (λ e c. record {
        exported = entry_found apart e c;
        present = core_known w of m found (at_key key e.0) (AllByRecursion-contains has (map (λ (e : List ℕ × Function). e.0) entries) e.0 present (Contains-map (λ (e : List ℕ × Function). e.0) entries e c));
        sound = one_sound apart e c;
      })

-- ---- what is required at several keys

pub exported_none : (n : Naming) (w : ComponentWorld) (ds : List Def) → AreExported n w ds ds []
exported_none n w ds = record { grows = Grows-none w ds; encoded = tt; has = tt }

pub exported_then : (n : Naming) (w : ComponentWorld) (a b c : List Def) (rs ss : List RequiredKey) → AreExported n w a b rs → AreExported n w b c ss → AreExported n w a c (rs ++ ss)
exported_then n w a b c rs ss g h = record {
  grows = subst (Grows w a c) (sym (flat_map-append (export_marked n w) rs ss)) (Grows-then g.grows h.grows);
  encoded = subst (AllByRecursion (IsEncodedExport w)) (sym (flat_map-append (functions_required w) rs ss)) (all_both (IsEncodedExport w) (flat_map (functions_required w) rs) (flat_map (functions_required w) ss) g.encoded h.encoded);
  has = subst (AllByRecursion (HasLiftOptions w)) (sym (flat_map-append (functions_required w) rs ss)) (all_both (HasLiftOptions w) (flat_map (functions_required w) rs) (flat_map (functions_required w) ss) g.has h.has);
}

-- at one
pub exported_one : (n : Naming) (w : ComponentWorld) (old new : List Def) (r : RequiredKey) → Grows w old new (export_marked n w r) → AllByRecursion (IsEncodedExport w) (functions_required w r) → AllByRecursion (HasLiftOptions w) (functions_required w r) →
    AreExported n w old new (r ∷ [])
exported_one n w old new r grows encoded has = record {
  grows = subst (Grows w old new) (sym (append-nil (export_marked n w r))) grows;
  encoded = subst (AllByRecursion (IsEncodedExport w)) (sym (append-nil (functions_required w r))) encoded;
  has = subst (AllByRecursion (HasLiftOptions w)) (sym (append-nil (functions_required w r))) has;
}

-- so many were exported
pub exported_counted : {n : Naming} {w : ComponentWorld} {old new : List Def} (rs : List RequiredKey) → AreExported n w old new rs → exports_in new ≡ exports_in old + length rs
exported_counted {n} {w} {old} {new} rs h = exports_grow h.grows ∙ ap (λ k. exports_in old + k) (all_marked n w rs)

-- ---- one key of a module after the other

-- the keys that were exported so far
pub record ExportsSoFar (n : Naming) (w : ComponentWorld) (of : User) (old new : Root) (done : List WorldKey) : Type 0 where
  pub moved : RootMoved w old new
  pub exported : AreExported n w old.items.defs new.items.defs (map (key_for of) done)

pub exports_start : (n : Naming) (w : ComponentWorld) (of : User) (root : Root) → RootMoved w root root → ExportsSoFar n w of root root []
exports_start n w of root moved = record { moved = moved; exported = exported_none n w root.items.defs }

mapped_more : (of : User) (ks : List WorldKey) (i : ℕ) (key : WorldKey) → i < length ks → key ≡ get_or ks i key → map (key_for of) (take (i + 1) ks) ≡ map (key_for of) (take i ks) ++ key_for of key ∷ []
mapped_more of ks i key l is = ap (map (key_for of)) (take_more ks i key l ∙ ap (λ k. take i ks ++ k ∷ []) (sym is)) ∙ map-append (key_for of) (take i ks) (key ∷ [])

pub exports_step : (n : Naming) (w : ComponentWorld) (of : User) (old mid new : Root) (ks : List WorldKey) (i : ℕ) (key : WorldKey) → ExportsSoFar n w of old mid (take i ks) → i < length ks → key ≡ get_or ks i key → RootMoved w mid new →
    Grows w mid.items.defs new.items.defs (key_marked n w of key) → AllByRecursion (IsEncodedExport w) (functions_of_key w of key) → AllByRecursion (HasLiftOptions w) (functions_of_key w of key) → ExportsSoFar n w of old new (take (i + 1) ks)
exports_step n w of old mid new ks i key h l is moved grows encoded has = record {
  moved = moved_then w old mid new h.moved moved;
  exported =
      subst (AreExported n w old.items.defs new.items.defs) (sym (mapped_more of ks i key l is))
      (exported_then n w old.items.defs mid.items.defs new.items.defs (map (key_for of) (take i ks)) (key_for of key ∷ []) h.exported (exported_one n w mid.items.defs new.items.defs (key_for of key) grows encoded has));
}

-- so many were exported
pub exports_counted : (n : Naming) (w : ComponentWorld) (of : User) (old new : Root) (ks : List WorldKey) (i : ℕ) → i < length ks → ExportsSoFar n w of old new (take i ks) → exports_in new.items.defs ≡ exports_in old.items.defs + i
exports_counted n w of old new ks i l h =
    exported_counted (map (key_for of) (take i ks)) h.exported ∙ ap (λ k. exports_in old.items.defs + k) (length-map (take i ks) (key_for of) ∙ length-take-le i ks (omega (arith, l)))

-- the next one is exported at this key
pub next_exported : (n : Naming) (w : ComponentWorld) (of : User) (m : ValidatedModule) (old new : Root) (ks : List WorldKey) (i : ℕ) (key : WorldKey) → AreNextKeys w of m (exports_in old.items.defs) ks → i < length ks → key ≡ get_or ks i key →
    ExportsSoFar n w of old new (take i ks) → slice_get (required_keys w) (exports_in new.items.defs) ≡ Some (key_for of key)
next_exported n w of m old new ks i key next l is h = ap (slice_get (required_keys w)) (exports_counted n w of old new ks i l h) ∙ next.each i key (slice_get-get_or ks i key l ∙ ap Some (sym is))

-- all keys were exported
pub exports_done : (n : Naming) (w : ComponentWorld) (of : User) (old new : Root) (ks : List WorldKey) (i : ℕ) → length ks ≡ i → ExportsSoFar n w of old new (take i ks) → AreExported n w old.items.defs new.items.defs (map (key_for of) ks)
exports_done n w of old new ks i e h = subst (λ (l : List WorldKey). AreExported n w old.items.defs new.items.defs (map (key_for of) l)) (take_all i ks (omega (arith, e))) h.exported

-- the next key is required
pub key_required : (w : ComponentWorld) (of : User) (m : ValidatedModule) (first : ℕ) (ks : List WorldKey) (i : ℕ) (key : WorldKey) → AreNextKeys w of m first ks → i < length ks → key ≡ get_or ks i key → IsRequired w m key
key_required w of m first ks i key next l is = AllByRecursion-at (IsRequired w m) ks i key next.required l (sym is)

-- a refusal of a required export is one of the world's
there_at : {X : Type 0} (xs : List X) (number : ℕ) (x : X) → slice_get xs number ≡ Some x → Contains xs x
there_at [] number x e = absurd (none-some x e)
there_at (y ∷ ys) zero x e = subst (λ z. Contains (y ∷ ys) z) (same_Some y x e) (contains_first y ys)
there_at (y ∷ ys) (suc number) x e = contains_later y ys x (there_at ys number x e)

pub export_refused : (w : ComponentWorld) (of : User) (number : ℕ) (key : WorldKey) → slice_get (required_keys w) number ≡ Some (key_for of key) → (e : StateFault) → IsCauseAmong w [] (functions_of_key w of key) e → IsCause w e
export_refused w of number key at e h =
    among_more w [] (user_imports w) (functions_of_key w of key) (required_functions w) (λ x c. contains_none x c)
    (λ r c. contains_flat (functions_required w) (required_keys w) (key_for of key) r (there_at (required_keys w) number (key_for of key) at) c) e h

-- a look-up that finds something, as its caller sees it
pub copied_there : {X : Type 0} (o : Option (Bor X)) → IsSome (option_copied o) → IsSome o
copied_there None h = h
copied_there (Some b) h = refl

-- no type is exported
pub never_type : (w : ComponentWorld) → IsEncodable w → (key : WorldKey) (id : TypeId) → exported_item w key ≡ Some (world_items.NamedType id) → ⊥
never_type w ok key id is =
    let there = item_there w key (world_items.NamedType id) is in
    by there.0 (AllByRecursion-contains (IsExportItem w.resolve) (items_of w).exports (there.0, world_items.NamedType id) ok.valid.exports there.1)
  where
    by : (k : WorldKey) → IsExportItem w.resolve (k, world_items.NamedType id) → ⊥
    by (keys.Name text) h = h
    by (keys.Interface other) h = h
