-- The functions of an interface have the names under which it lists them.
use Rattle.std.proofs.Common.{rules, ◌≡◌, ◌<◌, ◌∙◌, ℕ, zero, suc, Bool, true, false, cond, ◌&&◌, List, [], ◌∷◌, map, length, Option, Some, None, refl, sym, ap, ap₂, subst, true≢false, arith}
use Rattle.std.specs.Prelude.{nat_eq, slice_get, slice_index_or, option_map, Contains, IsSome}
use Rattle.std.specs.List.{AllByRecursion}
use Rattle.std.specs.Map.{lookup}
use Rattle.std.specs.Option.{option_and_then, unwrap_or}
use Rattle.std.specs.Str.{bytes_eq}
use Rattle.std.proofs.lemmas.Option.{none-some, same_Some}
use Rattle.std.proofs.lemmas.Slice.Eq.{bytes_eq-Decides}
use Rattle.comp_lists.specs.Found.{found}
use Rattle.wit_data.specs.Keys.{is_same_key}
use Rattle.wit_data.specs.declared.functions.Function.{Function}
use Rattle.wit_data.specs.declared.ids.InterfaceId.{InterfaceId}
use Rattle.wit_data.specs.declared.resolve.Interface.{Interface}
use Rattle.wit_data.specs.declared.resolve.Resolve.{Resolve}
use Rattle.wit_data.specs.declared.worlds.WorldItem.{WorldItem}
use Rattle.wit_data.specs.declared.worlds.WorldItem.TheVariants as items
use Rattle.wit_data.specs.declared.worlds.WorldKey.{WorldKey}
use Rattle.wit_data.specs.declared.worlds.WorldKey.TheVariants as keys
use Rattle.world_values.specs.Items.{functions_of, functions_in}
use Rattle.world_values.specs.Mentions.{interface_in}
use Rattle.comp_worlds.specs.Worlds.{IsNamedFunction}
use Rattle.record_core_types.specs.Guarantees.{own_names}
use Rattle.record_resolve.specs.Resolved.{IsListed, AreListed}
use Rattle.supported_worlds.proofs.Lists.{at_front, after}

abbrev Entries : Type 0
Entries = List (WorldKey × WorldItem)

-- ---- functions of interfaces

named_functions : (fs : List (List ℕ × Function)) → AllByRecursion IsListed fs → AllByRecursion IsNamedFunction fs
named_functions [] listed = tt
named_functions (f ∷ fs) listed = (sym listed.0, named_functions fs listed.1)

listed_at : (is : List Interface) (n : ℕ) → AllByRecursion AreListed is → AllByRecursion IsListed (unwrap_or (option_map (λ i. i.functions) (slice_get is n)) [])
listed_at [] n h = tt
listed_at (i ∷ is) zero h = let here = h.0 in here.functions
listed_at (i ∷ is) (suc n) h = listed_at is n h.1

-- the names under which an interface lists its functions are their own
same_names : (fs : List (List ℕ × Function)) → AllByRecursion IsListed fs → map (λ e. e.1.name) fs ≡ map (λ e. e.0) fs
same_names [] listed = refl
same_names (f ∷ fs) listed = ap₂ (λ (n : List ℕ) (ns : List (List ℕ)). n ∷ ns) listed.0 (same_names fs listed.1)

pub own_are : (r : Resolve) (item : Option WorldItem) → AllByRecursion AreListed r.interfaces → own_names r item ≡ functions_in r item
own_are r None listed = refl
own_are r (Some (items.Function f)) listed = refl
own_are r (Some (items.Interface id)) listed = same_names (functions_of r id) (listed_at r.interfaces id.index listed)
own_are r (Some (items.NamedType id)) listed = refl

pub named_interface : (r : Resolve) (id : InterfaceId) → AllByRecursion AreListed r.interfaces → AllByRecursion IsNamedFunction (functions_of r id)
named_interface r id listed = named_functions (functions_of r id) (listed_at r.interfaces id.index listed)

-- ---- look-ups

never : (b t : Bool) → t ≡ false → (b && t) ≡ false
never true t h = h
never false t h = refl

zero_next : (n : ℕ) → nat_eq 0 (suc n) ≡ false
zero_next n = Prim.search rules

next_zero : (n : ℕ) → nat_eq (suc n) 0 ≡ false
next_zero n = Prim.search rules

-- the key of an interface is no name
pub other_key : (text : List ℕ) (other : InterfaceId) → is_same_key (keys.Name text) (keys.Interface other) ≡ false
other_key text other = never (bytes_eq text []) (nat_eq 0 (suc other.index)) (zero_next other.index)

no_name : (id : InterfaceId) (text : List ℕ) → is_same_key (keys.Interface id) (keys.Name text) ≡ false
no_name id text = never (bytes_eq [] text) (nat_eq (suc id.index) 0) (next_zero id.index)

left_true : (b : Bool) → (b && true) ≡ true → b ≡ true
left_true true h = refl
left_true false h = h

-- keys that are the same are one
one_key : (a b : WorldKey) → is_same_key a b ≡ true → b ≡ a
one_key (keys.Name text) (keys.Name other) h = ap keys.Name (sym ((bytes_eq-Decides text other).0 (left_true (bytes_eq text other) h)))
one_key (keys.Name text) (keys.Interface id) h = absurd (true≢false (sym h ∙ other_key text id))
one_key (keys.Interface id) (keys.Name text) h = absurd (true≢false (sym h ∙ no_name id text))
one_key (keys.Interface a) (keys.Interface b) h = search rules

one_item : (id : InterfaceId) (item : WorldItem) → interface_in item ≡ Some id → item ≡ items.Interface id
one_item id (items.Interface other) h = ap items.Interface (same_Some other id h)
one_item id (items.Function f) h = absurd (none-some id h)
one_item id (items.NamedType t) h = absurd (none-some id h)

-- an interface that is found is what was looked up
pub one_found : (id : InterfaceId) (o : Option WorldItem) → option_and_then interface_in o ≡ Some id → o ≡ Some (items.Interface id)
one_found id None h = absurd (none-some id h)
one_found id (Some item) h = ap Some (one_item id item h)

-- an interface that is looked up by a key is an entry with the key
pub entry_there : (key : WorldKey) (id : InterfaceId) (es : Entries) → option_and_then interface_in (lookup (is_same_key key) es) ≡ Some id → Contains es (key, items.Interface id)
entry_there key id [] h = absurd (none-some id h)
entry_there key id ((k, item) ∷ es) h = by (is_same_key key k) refl h (entry_there key id es)
  where
    by : (b : Bool) → is_same_key key k ≡ b → option_and_then interface_in (cond b (Some item) (lookup (is_same_key key) es)) ≡ Some id
        → (option_and_then interface_in (lookup (is_same_key key) es) ≡ Some id → Contains es (key, items.Interface id)) → Contains ((k, item) ∷ es) (key, items.Interface id)
    by true same h more =
        subst (λ (x : WorldKey). Contains ((x, item) ∷ es) (key, items.Interface id)) (sym (one_key key k same))
        (subst (λ (x : WorldItem). Contains ((key, x) ∷ es) (key, items.Interface id)) (sym (one_item id item h)) (at_front (key, items.Interface id) es))
    by false same h more = after (k, item) es (key, items.Interface id) (more h)

-- a function that is found has its name among those of the interface, and the other way round
pub name_there : {X : Type 0} (name : List ℕ) (es : List (List ℕ × X)) → IsSome (found name es) → Contains (map (λ e. e.0) es) name
name_there name [] h = absurd (true≢false (sym h))
name_there {X} name (e ∷ es) h = by (bytes_eq name e.0) refl h (name_there name es)
  where
    by : (b : Bool) → bytes_eq name e.0 ≡ b → IsSome (cond b (Some e.1) (found name es)) → (IsSome (found name es) → Contains (map (λ e. e.0) es) name) → Contains (e.0 ∷ map (λ e. e.0) es) name
    by true same h more = subst (λ (n : List ℕ). Contains (n ∷ map (λ e. e.0) es) name) ((bytes_eq-Decides name e.0).0 same) (at_front name (map (λ e. e.0) es))
    by false same h more = after e.0 (map (λ e. e.0) es) name (more h)

pub found_there : {X : Type 0} (name : List ℕ) (es : List (List ℕ × X)) (k : ℕ) → k < length (map (λ e. e.0) es) → slice_index_or (map (λ e. e.0) es) k name ≡ name → IsSome (found name es)
found_there name [] k l same = absurd (omega (arith, l))
found_there {X} name (e ∷ es) zero l same = rw ((bytes_eq-Decides name e.0).1 (sym same)) refl
found_there {X} name (e ∷ es) (suc k) l same = by (bytes_eq name e.0) (found_there name es k (omega (arith, l)) same)
  where
    by : (b : Bool) → IsSome (found name es) → IsSome (cond b (Some e.1) (found name es))
    by true h = refl
    by false h = h
