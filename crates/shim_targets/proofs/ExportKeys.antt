-- The key of a function that the world exports is found back from its interface and its name.
use Rattle.std.proofs.Common.{◌≡◌, ◌∙◌, ◌==◌, ℕ, Bool, true, false, true≢false, List, [], ◌∷◌, ◌++◌, Option, Some, None, Contains, if◌then◌else◌, refl, sym, ap, subst}
use Rattle.std.specs.List.{AllByRecursion, IsDistinct}
use Rattle.std.specs.Map.{lookup}
use Rattle.std.specs.Option.{option_and_then, option_map}
use Rattle.std.proofs.lemmas.Bool.Decides.{Decides-eqb}
use Rattle.std.proofs.lemmas.Option.{none-some, same_Some}
use Rattle.comp_lists.proofs.Lists.{AllByRecursion-contains}
use Rattle.comp_links.specs.Links.{module_of}
use Rattle.comp_links.specs.Targets.{UserModule}
use Rattle.comp_roles.specs.declared.imports.Import.{Import}
use Rattle.comp_roles.specs.declared.imports.Import.TheVariants as imports
use Rattle.comp_terms.specs.Generated.{export_key, key_of_export, returning_at}
use Rattle.comp_worlds.specs.Encodable.{IsEncodable}
use Rattle.comp_worlds.specs.WorldContents.{exported_item, function_exported, items_of}
use Rattle.comp_worlds.specs.Worlds.{IsExportItem, IsOwnFunction}
use Rattle.comp_worlds.specs.declared.world.ComponentWorld.{ComponentWorld}
use Rattle.interface_needs.proofs.Lists.{contains_cons, contains_first, contains_later, contains_none}
use Rattle.interface_needs.proofs.OwnFunctions.{item_of}
use Rattle.shim_targets.proofs.Keys.{one_key}
use Rattle.shim_targets.proofs.Users.{back}
use Rattle.shim_targets.specs.ShimTargets.{which_of}
use Rattle.wit_data.specs.Keys.{is_same_key}
use Rattle.wit_data.specs.declared.functions.Function.{Function}
use Rattle.wit_data.specs.declared.ids.InterfaceId.{InterfaceId}
use Rattle.wit_data.specs.declared.resolve.Resolve.{Resolve}
use Rattle.wit_data.specs.declared.worlds.WorldItem.{WorldItem}
use Rattle.wit_data.specs.declared.worlds.WorldItem.TheVariants as items
use Rattle.wit_data.specs.declared.worlds.WorldKey.{WorldKey}
use Rattle.wit_data.specs.declared.worlds.WorldKey.TheVariants as keys
use Rattle.world_values.specs.Items.{function_of_item}
use Rattle.world_values.specs.Mentions.{interface_in, interfaces_of, same_interface}

abbrev Entries : Type 0
Entries = List (WorldKey × WorldItem)

-- ---- at the root

-- an exported function has the name of its key
named_by_key : (r : Resolve) (es : Entries) (key : WorldKey) (f : Function) → AllByRecursion (IsExportItem r) es → lookup (is_same_key key) es ≡ Some (items.Function f) → key ≡ keys.Name f.name
named_by_key r [] key f h e = absurd (none-some (items.Function f) e)
named_by_key r ((k, item) ∷ es) key f h e = by (λ rest. named_by_key r es key f h.1 rest) (is_same_key key k) refl e
  where
    here : (k : WorldKey) (item : WorldItem) → IsExportItem r (k, item) → item ≡ items.Function f → k ≡ keys.Name f.name
    here (keys.Name text) (items.Function g) named same = ap keys.Name (named ∙ ap (λ (i : WorldItem). elim i [ items.Function x ↦ x.name | items.Interface x ↦ g.name | items.NamedType x ↦ g.name ]) same)
    here (keys.Name text) (items.Interface id) named same = absurd (none-some f (ap (λ (i : WorldItem). function_of_item r [] (elim i [ items.Function x ↦ Some (items.Function x) | items.Interface x ↦ None | items.NamedType x ↦ None ])) same))
    here (keys.Interface other) (items.Interface id) named same = absurd (none-some f (ap (λ (i : WorldItem). function_of_item r [] (elim i [ items.Function x ↦ Some (items.Function x) | items.Interface x ↦ None | items.NamedType x ↦ None ])) same))
    here k item named same = absurd named

    by : (lookup (is_same_key key) es ≡ Some (items.Function f) → key ≡ keys.Name f.name) → (b : Bool) → is_same_key key k ≡ b → (if b then Some item else lookup (is_same_key key) es) ≡ Some (items.Function f) → key ≡ keys.Name f.name
    by later true same e = one_key key k same ∙ here k item h.0 (same_Some item (items.Function f) e)
    by later false other e = later e

-- what is exported at no interface is a function
root_item : (r : Resolve) (o : Option WorldItem) (name : List ℕ) (f : Function) → function_of_item r name o ≡ Some f → option_and_then interface_in o ≡ None → o ≡ Some (items.Function f)
root_item r (Some (items.Function g)) name f e none = ap (λ x. Some (items.Function x)) (same_Some g f e)
root_item r (Some (items.Interface id)) name f e none = absurd (none-some id (sym none))
root_item r (Some (items.NamedType id)) name f e none = absurd (none-some f e)
root_item r None name f e none = absurd (none-some f e)

-- ---- in an interface

distinct_later : (xs ys : List InterfaceId) → IsDistinct same_interface (xs ++ ys) → IsDistinct same_interface ys
unfolding IsDistinct
distinct_later [] ys d = d
distinct_later (x ∷ xs) ys d = distinct_later xs ys d.1

-- an interface that is found is among those of the entries
found_among : (es : Entries) (key : WorldKey) (id : InterfaceId) → lookup (is_same_key key) es ≡ Some (items.Interface id) → Contains (interfaces_of es) id
found_among [] key id e = absurd (none-some (items.Interface id) e)
found_among ((k, item) ∷ es) key id e = by (λ rest. found_among es key id rest) (is_same_key key k) e
  where
    here : (item : WorldItem) → item ≡ items.Interface id → Contains (interfaces_of ((k, item) ∷ es)) id
    here item same = subst (λ (i : WorldItem). Contains (interfaces_of ((k, i) ∷ es)) id) (sym same) (contains_first id (interfaces_of es))

    after : (item : WorldItem) → Contains (interfaces_of es) id → Contains (interfaces_of ((k, item) ∷ es)) id
    after (items.Interface other) c = contains_later other (interfaces_of es) id c
    after (items.Function f) c = c
    after (items.NamedType t) c = c

    by : (lookup (is_same_key key) es ≡ Some (items.Interface id) → Contains (interfaces_of es) id) → (b : Bool) → (if b then Some item else lookup (is_same_key key) es) ≡ Some (items.Interface id) → Contains (interfaces_of ((k, item) ∷ es)) id
    by later true e = here item (same_Some item (items.Interface id) e)
    by later false e = after item (later e)

number_is : (a b : InterfaceId) → (a.index == b.index) ≡ true → a ≡ b
number_is a b e = ap (λ (n : ℕ). record { index = n }) ((Decides-eqb a.index b.index).0 e)

-- it has one key
pub key_back : (es : Entries) (key : WorldKey) (id : InterfaceId) → IsDistinct same_interface (interfaces_of es) → lookup (is_same_key key) es ≡ Some (items.Interface id) → key_of_export id es ≡ Some key
unfolding IsDistinct
key_back [] key id d e = absurd (none-some (items.Interface id) e)
key_back ((k, items.Interface other) ∷ es) key id d e = by (λ rest. key_back es key id d.1 rest) (is_same_key key k) refl (id.index == other.index) refl e
  where
    by : (lookup (is_same_key key) es ≡ Some (items.Interface id) → key_of_export id es ≡ Some key) → (b : Bool) → is_same_key key k ≡ b → (c : Bool) → (id.index == other.index) ≡ c → (if b then Some (items.Interface other) else lookup (is_same_key key) es) ≡ Some (items.Interface id) → (if c then Some k else key_of_export id es) ≡ Some key
    by later true same true is e = ap Some (sym (one_key key k same))
    by later true same false is e =
        let one : other ≡ id = same_Some other id (ap (option_and_then interface_in) e) in
        absurd (true≢false (sym (ap (λ (x : InterfaceId). id.index == x.index) one ∙ (Decides-eqb id.index id.index).1 refl) ∙ is))
    by later false apart true is e =
        let again : Contains (interfaces_of es) other = subst (λ x. Contains (interfaces_of es) x) (number_is id other is) (found_among es key id e) in
        let never : same_interface other other ≡ false = AllByRecursion-contains (λ x. same_interface other x ≡ false) (interfaces_of es) other d.0 again in
        absurd (true≢false (sym ((Decides-eqb other.index other.index).1 refl) ∙ never))
    by later false apart false is e = later e
key_back ((k, items.Function f) ∷ es) key id d e = by (λ rest. key_back es key id d rest) (is_same_key key k) e
  where
    by : (lookup (is_same_key key) es ≡ Some (items.Interface id) → key_of_export id es ≡ Some key) → (b : Bool) → (if b then Some (items.Function f) else lookup (is_same_key key) es) ≡ Some (items.Interface id) → key_of_export id es ≡ Some key
    by later true e = absurd (none-some id (ap (option_and_then interface_in) e))
    by later false e = later e
key_back ((k, items.NamedType t) ∷ es) key id d e = by (λ rest. key_back es key id d rest) (is_same_key key k) e
  where
    by : (lookup (is_same_key key) es ≡ Some (items.Interface id) → key_of_export id es ≡ Some key) → (b : Bool) → (if b then Some (items.NamedType t) else lookup (is_same_key key) es) ≡ Some (items.Interface id) → key_of_export id es ≡ Some key
    by later true e = absurd (none-some id (ap (option_and_then interface_in) e))
    by later false e = later e

-- ---- both

pub export_key_back : (w : ComponentWorld) → IsEncodable w → (key : WorldKey) (interface : Option InterfaceId) (f : Function) → IsOwnFunction w key interface f → export_key w interface f.name ≡ Some key
export_key_back w ok key None f h = ap Some (sym (named_by_key w.resolve (items_of w).exports key f ok.valid.exports (root_item w.resolve (exported_item w key) f.name f h.exported h.of)))
export_key_back w ok key (Some id) f h = key_back (items_of w).exports key id (distinct_later (interfaces_of (items_of w).imports) (interfaces_of (items_of w).exports) ok.apart) (item_of (exported_item w key) id h.of)

-- the module and the role of a return are found back
pub return_back : (w : ComponentWorld) → IsEncodable w → (of : UserModule) (key : WorldKey) (interface : Option InterfaceId) (f : Function) → IsOwnFunction w key interface f →
    option_and_then (returning_at w (module_of (which_of of)) interface f.name) (export_key w interface f.name) ≡ Some (of, imports.ExportedTaskReturn key interface f)
return_back w ok of key interface f h =
    ap (option_and_then (returning_at w (module_of (which_of of)) interface f.name)) (export_key_back w ok key interface f h)
    ∙ (ap (option_map (λ g. (module_of (which_of of), imports.ExportedTaskReturn key interface g))) h.exported
    ∙ ap (λ (u : UserModule). Some (u, imports.ExportedTaskReturn key interface f)) (back of))
