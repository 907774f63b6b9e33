-- A function that is found in a sound resolve is one of the resolve; and a side has an interface at its key.
use Rattle.std.proofs.Common.{◌≡◌, ℕ, zero, suc, Bool, true, false, cond, List, [], ◌∷◌, Option, Some, None, refl, sym, ap, subst, rules, true≢false}
use Rattle.std.specs.Prelude.{slice_get, option_map, if◌then◌else◌}
use Rattle.std.specs.Option.{unwrap_or, option_and_then, option_map_or}
use Rattle.std.specs.List.{AllByRecursion}
use Rattle.std.specs.Map.{lookup}
use Rattle.std.specs.Str.{bytes_eq}
use Rattle.wit_data.specs.Keys.{is_same_key}
use Rattle.wit_data.specs.contracts.ids.InterfaceIdPartialEq.TheImpl as same_id
use Rattle.wit_data.specs.Sound.{IsSound, HasAll, HasFunction, HasItem, HasEntry, HasWorld}
use Rattle.wit_data.specs.declared.functions.Function.{Function}
use Rattle.wit_data.specs.declared.ids.InterfaceId.{InterfaceId}
use Rattle.wit_data.specs.declared.resolve.Interface.{Interface}
use Rattle.wit_data.specs.declared.resolve.Resolve.{Resolve}
use Rattle.wit_data.specs.declared.worlds.World.{World}
use Rattle.wit_data.specs.declared.worlds.WorldItem.{WorldItem}
use Rattle.wit_data.specs.declared.worlds.WorldItem.TheVariants as items
use Rattle.wit_data.specs.declared.worlds.WorldKey.{WorldKey}
use Rattle.wit_data.specs.declared.worlds.WorldKey.TheVariants as keys
use Rattle.world_values.specs.Items.{functions_of, function_in}
use Rattle.world_values.specs.Mentions.{interface_in}
use Rattle.record_resolve.specs.declared.resolving.Resolved.{Resolved}
use Rattle.record_role_targets.specs.declared.sides.Side.{Side}
use Rattle.record_role_targets.specs.declared.sides.Side.TheVariants as sides
use Rattle.record_role_targets.specs.declared.positions.Position.{Position}
use Rattle.record_role_targets.specs.Keys.{is_interface, existing_as, first_key, interface_key}
use Rattle.record_role_targets.specs.Sides.{interface_keys, items_in, items_of, item_at}
use Rattle.record_role_targets.specs.Positions.{function_at_key, function_at}

-- what holds of all holds of the one at a number, if there is one
abbrev pub IfThere : {X : Type 0} → (X → Type 0) → Option X → Type 0
IfThere P None = Unit {0}
IfThere P (Some x) = P x

pub at_number : {X : Type 0} (P : X → Type 0) (xs : List X) (n : ℕ) → AllByRecursion P xs → IfThere P (slice_get xs n)
at_number P [] n h = tt
at_number P (x ∷ xs) zero h = h.0
at_number P (x ∷ xs) (suc n) h = at_number P xs n h.1

-- and of the one that is looked up
pub looked_up : {K X : Type 0} (P : X → Type 0) (test : K → Bool) (es : List (K × X)) → AllByRecursion (λ e. P e.1) es → IfThere P (lookup test es)
looked_up P test [] h = tt
looked_up P test (e ∷ es) h = by (test e.0) (lookup test es) (looked_up P test es h.1)
  where
    by : (b : Bool) (rest : Option _) → IfThere P rest → IfThere P (cond b (Some e.1) rest)
    by true rest more = h.0
    by false rest more = more

items_alone : (r : Resolve) (es : List (WorldKey × WorldItem)) → AllByRecursion (HasEntry r) es → AllByRecursion (λ e. HasItem r e.1) es
items_alone r [] h = tt
items_alone r (e ∷ es) h = let here = h.0 in (here.1, items_alone r es h.1)

side_exists : (r : Resolve) (side : Side) (o : Option World) → IfThere (HasWorld r) o → AllByRecursion (λ e. HasItem r e.1) (option_map_or (items_in side) o [])
side_exists r side None h = tt
side_exists r sides.Imported (Some w) h = items_alone r w.imports h.imports
side_exists r sides.Exported (Some w) h = items_alone r w.exports h.exports

pub item_exists : (r : Resolved) (side : Side) (key : WorldKey) → IsSound r.resolve → IfThere (HasItem r.resolve) (item_at side r key)
item_exists r side key sound =
    looked_up (HasItem r.resolve) (is_same_key key) (items_of side r) (side_exists r.resolve side (slice_get r.resolve.worlds 0) (at_number (HasWorld r.resolve) r.resolve.worlds 0 sound.worlds))

root_exists : (r : Resolve) (o : Option WorldItem) → IfThere (HasItem r) o → IfThere (HasFunction r) (option_and_then function_in o)
root_exists r None h = tt
root_exists r (Some (items.Function f)) h = h
root_exists r (Some (items.Interface id)) h = tt
root_exists r (Some (items.NamedType id)) h = tt

functions_exist : (r : Resolve) (o : Option Interface) → IfThere (HasAll r) o → AllByRecursion (λ f. HasFunction r f.1) (unwrap_or (option_map (λ i. i.functions) o) [])
functions_exist r None h = tt
functions_exist r (Some i) h = h.functions

pub position_exists : (r : Resolved) (side : Side) (key : WorldKey) (interface : Option InterfaceId) (name : List ℕ) → IsSound r.resolve → IfThere (HasFunction r.resolve) (function_at_key side r key interface name)
position_exists r side key None name sound = root_exists r.resolve (item_at side r key) (item_exists r side key sound)
position_exists r side key (Some id) name sound =
    looked_up (HasFunction r.resolve) (bytes_eq name) (functions_of r.resolve id) (functions_exist r.resolve (slice_get r.resolve.interfaces id.index) (at_number (HasAll r.resolve) r.resolve.interfaces id.index sound.interfaces))

pub function_exists : (r : Resolved) (side : Side) (position : Position) (name : List ℕ) (f : Function) → Some f ≡ function_at side r position name → IsSound r.resolve → HasFunction r.resolve f
function_exists r side position name f is sound = subst (IfThere (HasFunction r.resolve)) (sym is) (position_exists r side position.key position.interface name sound)

-- ---- interfaces

same_number : (a b : InterfaceId) → same_id.eq-value.it a b ≡ true → b ≡ a
same_number a b e = search rules

one_interface : (id : InterfaceId) (o : Option WorldItem) → option_map_or (is_interface id) o false ≡ true → option_and_then interface_in o ≡ Some id
one_interface id (Some (items.Interface other)) e = ap Some (same_number id other e)
one_interface id (Some (items.Function f)) e = absurd (true≢false (sym e))
one_interface id (Some (items.NamedType t)) e = absurd (true≢false (sym e))
one_interface id None e = absurd (true≢false (sym e))

-- a side has this interface at a key
pub record IsAtKey (r : Resolved) (side : Side) (id : InterfaceId) (key : WorldKey) : Type 0 where
  pub is : option_and_then interface_in (item_at side r key) ≡ Some id

at_existing : (r : Resolved) (side : Side) (id : InterfaceId) (there key : WorldKey) → existing_as id side r there ≡ Some key → IsAtKey r side id key
at_existing r side id there key e = by (option_map_or (is_interface id) (item_at side r there) false) refl e
  where
    by : (b : Bool) → option_map_or (is_interface id) (item_at side r there) false ≡ b → (if b then Some there else None) ≡ Some key → IsAtKey r side id key
    by true is e = let same : there ≡ key = cc (e) in subst (λ (k : WorldKey). IsAtKey r side id k) same (record { is = one_interface id (item_at side r there) is })
    by false is e = absurd cc

at_first : (r : Resolved) (side : Side) (id : InterfaceId) (key : WorldKey) (o : Option WorldKey) → option_and_then (existing_as id side r) o ≡ Some key → IsAtKey r side id key
at_first r side id key None e = absurd cc
at_first r side id key (Some there) e = at_existing r side id there key e

-- a side has an interface at its key
pub at_key : (r : Resolved) (side : Side) (id : InterfaceId) (key : WorldKey) → interface_key side r id ≡ Some key → IsAtKey r side id key
at_key r side id key e = by (option_map_or (is_interface id) (item_at side r (keys.Interface id)) false) refl e
  where
    by : (b : Bool) → option_map_or (is_interface id) (item_at side r (keys.Interface id)) false ≡ b → (if b then Some (keys.Interface id) else first_key side r id) ≡ Some key → IsAtKey r side id key
    by true is e = let same : keys.Interface id ≡ key = cc (e) in subst (λ (k : WorldKey). IsAtKey r side id k) same (record { is = one_interface id (item_at side r (keys.Interface id)) is })
    by false is e = at_first r side id key (lookup (same_id.eq-value.it id) (interface_keys side r)) e
