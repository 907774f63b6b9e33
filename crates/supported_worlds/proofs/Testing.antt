-- The tests of places, in the loops that make them, and by the tables.
use Rattle.std.proofs.Common.{arith, ◌≡◌, ◌<◌, ◌+◌, nat_le, ℕ, zero, suc, Bool, true, false, ◌&&◌, List, [], ◌∷◌, length, get_or, take, Option, Some, None, refl, sym, ap, ap₂, subst, ◌∙◌, take_all}
use Rattle.std.specs.Prelude.{IfSome}
use Rattle.std.specs.List.{list_all}
use Rattle.std.specs.Option.{option_and_then}
use Rattle.std.proofs.lemmas.Bool.{leb-true, leb-false}
use Rattle.std.proofs.lemmas.Option.{slice_get-get_or}
use Rattle.std.proofs.lemmas.List.Folds.{list_all_at, list_all_more}
use Rattle.wit_data.specs.declared.ids.InterfaceId.{InterfaceId}
use Rattle.wit_data.specs.declared.resolve.Resolve.{Resolve}
use Rattle.wit_data.specs.declared.types.Type.{«Type» as Ty}
use Rattle.wit_data.specs.declared.types.TypeDef.{TypeDef}
use Rattle.wit_data.specs.declared.types.TypeOwner.{TypeOwner}
use Rattle.wit_data.specs.declared.types.TypeOwner.TheVariants as owners
use Rattle.wit_data.specs.declared.worlds.World.{World}
use Rattle.wit_data.specs.declared.worlds.WorldItem.{WorldItem}
use Rattle.wit_data.specs.declared.worlds.WorldItem.TheVariants as items
use Rattle.wit_data.specs.Sound.{IsSound, HasInterface, HasOwner}
use Rattle.wit_data.proofs.Values.{all_at}
use Rattle.world_values.specs.Mentions.{interface_types}
use Rattle.comp_worlds.specs.Encodable.{Entries, place_in, is_lent, stays_in}
use Rattle.comp_worlds.specs.WorldContents.{interface_of_owner, interface_at, name_at}
use Rattle.supported_worlds.specs.Homes.{is_at_home, AreHomes}
use Rattle.supported_worlds.specs.Placed.{places_of, is_by, is_type_placed, are_types_placed, lists_own_types, is_interface_placed, is_item_placed, are_imports_placed, is_export_placed, are_exports_placed, is_world_placed}
use Rattle.supported_worlds.specs.PlaceTables.{place_by, ArePlaces}
use Rattle.supported_worlds.specs.declared.homes.Home.{Home}
use Rattle.supported_worlds.specs.declared.places.Places.{Places}

-- ---- parts

-- the first so many parts pass
pub record PartsBy (places : List ℕ) (last n : ℕ) (all : List (Option Ty)) : Type 0 where
  pub pass : list_all (is_by places last) (take n all) ≡ true

pub parts_start : (places : List ℕ) (last : ℕ) (all : List (Option Ty)) → PartsBy places last 0 all
parts_start places last all = record { pass = refl }

pub part_step : (places : List ℕ) (last n : ℕ) (all : List (Option Ty)) (part : Option Ty) (passes : Bool) → PartsBy places last n all → n < length all → part ≡ get_or all n None → passes ≡ is_by places last part → passes ≡ true
    → PartsBy places last (n + 1) all
part_step places last n all part passes h l same is holds =
    record { pass = list_all_more (is_by places last) all n None l ∙ ap₂ (λ a b. a && b) h.pass (ap (is_by places last) (sym same) ∙ sym is ∙ holds) }

pub part_late : (places : List ℕ) (last n : ℕ) (all : List (Option Ty)) (part : Option Ty) (passes : Bool) → n < length all → part ≡ get_or all n None → passes ≡ is_by places last part → passes ≡ false → false ≡ list_all (is_by places last) all
part_late places last n all part passes l same is fails = sym (list_all_at (is_by places last) all n None l (ap (is_by places last) (sym same) ∙ sym is ∙ fails))

pub parts_end : (places : List ℕ) (last n : ℕ) (all : List (Option Ty)) → PartsBy places last n all → n ≡ length all → true ≡ list_all (is_by places last) all
parts_end places last n all h e = sym h.pass ∙ ap (list_all (is_by places last)) (take_all n all (omega (arith, e)))

-- ---- types

pub name_there : (types : List TypeDef) (id : ℕ) (d : TypeDef) → id < length types → (get_or types id d).name ≡ name_at types id
name_there types id d l = ap (λ (o : Option TypeDef). option_and_then (λ t. t.name) o) (sym (slice_get-get_or types id d l))

pub interface_there : (r : Resolve) (types : List TypeDef) (id : ℕ) (d : TypeDef) (answer : Option InterfaceId) → types ≡ r.types → id < length r.types → answer ≡ interface_of_owner (get_or types id d).owner → answer ≡ interface_at r.types id
interface_there r types id d answer same l is =
    is ∙ ap (λ (ts : List TypeDef). interface_of_owner (get_or ts id d).owner) same ∙ ap (λ (o : Option TypeDef). option_and_then (λ t. interface_of_owner t.owner) o) (sym (slice_get-get_or r.types id d l))

owner_present : (r : Resolve) (owner : TypeOwner) → HasOwner r owner → IfSome (interface_of_owner owner) (HasInterface r)
owner_present r (owners.World id) h = tt
owner_present r (owners.Interface id) h = h
owner_present r owners.«None» h = tt

pub interface_present : (r : Resolve) (types : List TypeDef) (id : ℕ) (d : TypeDef) (answer : Option InterfaceId) → IsSound r → types ≡ r.types → id < length r.types → answer ≡ interface_of_owner (get_or types id d).owner → IfSome answer (HasInterface r)
interface_present r types id d answer sound same l is =
    subst (λ (o : Option InterfaceId). IfSome o (HasInterface r)) (sym (is ∙ ap (λ (ts : List TypeDef). interface_of_owner (get_or ts id d).owner) same))
    (owner_present r (get_or r.types id d).owner (all_at (λ (t : TypeDef). HasOwner r t.owner) r.types id d sound.owners l))

-- the first so many types are placed
pub record TypesPlaced (r : Resolve) (places : List ℕ) (n : ℕ) : Type 0 where
  pub all : are_types_placed r places n ≡ true

pub types_start : (r : Resolve) (places : List ℕ) → TypesPlaced r places 0
types_start r places = record { all = refl }

pub types_step : (r : Resolve) (places : List ℕ) (n : ℕ) (passes : Bool) → TypesPlaced r places n → passes ≡ is_type_placed r places n → passes ≡ true → TypesPlaced r places (n + 1)
types_step r places n passes h is holds = subst (TypesPlaced r places) (let e : suc n ≡ n + 1 = omega arith in e) (record { all = ap₂ (λ a b. a && b) h.all (sym is ∙ holds) })

and_false : (b : Bool) → (b && false) ≡ false
and_false true = refl
and_false false = refl

one_fails : (r : Resolve) (places : List ℕ) (n m : ℕ) → n < m → is_type_placed r places n ≡ false → are_types_placed r places m ≡ false
one_fails r places n zero l fails = absurd (omega (arith, l))
one_fails r places n (suc m) l fails = by (nat_le m n) refl (one_fails r places n m)
  where
    by : (b : Bool) → nat_le m n ≡ b → (n < m → is_type_placed r places n ≡ false → are_types_placed r places m ≡ false) → (are_types_placed r places m && is_type_placed r places m) ≡ false
    by true last more =
        let same : m ≡ n = let below = leb-true m n last in omega (arith, l, below) in
        ap (λ (k : ℕ). are_types_placed r places m && is_type_placed r places k) same ∙ ap (λ b. are_types_placed r places m && b) fails ∙ and_false (are_types_placed r places m)
    by false other more = ap (λ b. b && is_type_placed r places m) (more (leb-false m n other) fails)

pub types_stop : (r : Resolve) (places : List ℕ) (n : ℕ) (passes : Bool) → n < length r.types → passes ≡ is_type_placed r places n → passes ≡ false → false ≡ are_types_placed r places (length r.types)
types_stop r places n passes l is fails = sym (one_fails r places n (length r.types) l (sym is ∙ fails))

pub types_end : (r : Resolve) (places : List ℕ) (n : ℕ) → TypesPlaced r places n → n ≡ length r.types → true ≡ are_types_placed r places (length r.types)
types_end r places n h e = sym h.all ∙ ap (are_types_placed r places) e

-- ---- the world

module _ (r : Resolve) (es : Entries) (t : Places) (h : ArePlaces r.types es t) where
  same_item : (item : WorldItem) → is_item_placed r t.types (place_by t.interfaces) t.interfaces.root item ≡ is_item_placed r (places_of r.types es) (place_in es) (length es) item
  same_item (items.Interface id) = ap₂ (λ (places : List ℕ) (last : ℕ). is_interface_placed r places last id) h.types (h.interfaces.each id)
  same_item (items.Function f) = ap₂ (λ (places : List ℕ) (root : ℕ). is_item_placed r places (place_in es) root (items.Function f)) h.types h.interfaces.root
  same_item (items.NamedType id) = refl

  same_items : (all : Entries) → list_all (λ e. is_item_placed r t.types (place_by t.interfaces) t.interfaces.root e.1) all ≡ list_all (λ e. is_item_placed r (places_of r.types es) (place_in es) (length es) e.1) all
  same_items [] = refl
  same_items (e ∷ all) = ap₂ (λ a b. a && b) (same_item e.1) (same_items all)

  same_export : (stays : InterfaceId → Option Ty → Bool) (item : WorldItem) → is_export_placed r t.types (place_by t.interfaces) t.interfaces.root stays item ≡ is_export_placed r (places_of r.types es) (place_in es) (length es) stays item
  same_export stays (items.Interface id) = refl
  same_export stays (items.Function f) = same_item (items.Function f)
  same_export stays (items.NamedType id) = refl

  same_exports : (stays : InterfaceId → Option Ty → Bool) (all : Entries) → list_all (λ e. is_export_placed r t.types (place_by t.interfaces) t.interfaces.root stays e.1) all
      ≡ list_all (λ e. is_export_placed r (places_of r.types es) (place_in es) (length es) stays e.1) all
  same_exports stays [] = refl
  same_exports stays (e ∷ all) = ap₂ (λ a b. a && b) (same_export stays e.1) (same_exports stays all)

-- the types that stay in interfaces are those that are at home there by a table
module _ (r : Resolve) (t : Places) (lent : InterfaceId → Bool) (homes : List Home) (h : AreHomes r.types lent homes) where
  same_types : (id : InterfaceId) (ts : List Ty) → list_all (λ t. is_at_home homes id (Some t)) ts ≡ list_all (λ t. stays_in r.types lent id (Some t)) ts
  same_types id [] = refl
  same_types id (x ∷ xs) = ap₂ (λ a b. a && b) (h.each id (Some x)) (same_types id xs)

  stays_exported : (item : WorldItem) → is_export_placed r t.types (place_by t.interfaces) t.interfaces.root (is_at_home homes) item ≡ is_export_placed r t.types (place_by t.interfaces) t.interfaces.root (stays_in r.types lent) item
  stays_exported (items.Interface id) = ap (λ b. lists_own_types r id && b) (same_types id (interface_types r id))
  stays_exported (items.Function f) = refl
  stays_exported (items.NamedType id) = refl

  all_stay : (es : Entries) → list_all (λ e. is_export_placed r t.types (place_by t.interfaces) t.interfaces.root (is_at_home homes) e.1) es
      ≡ list_all (λ e. is_export_placed r t.types (place_by t.interfaces) t.interfaces.root (stays_in r.types lent) e.1) es
  all_stay [] = refl
  all_stay (e ∷ es) = ap₂ (λ a b. a && b) (stays_exported e.1) (all_stay es)

pub exports_stay : (r : Resolve) (t : Places) (w : World) (types : List TypeDef) (homes table : List Home) (placed : Bool) → types ≡ r.types → AreHomes types (is_lent w) homes → table ≡ homes
    → placed ≡ list_all (λ e. is_export_placed r t.types (place_by t.interfaces) t.interfaces.root (is_at_home table) e.1) w.exports
    → placed ≡ are_exports_placed r t.types (place_by t.interfaces) t.interfaces.root (stays_in r.types (is_lent w)) w
exports_stay r t w types homes table placed same h view is =
    is ∙ all_stay r t (is_lent w) table (subst (AreHomes r.types (is_lent w)) (sym view) (subst (λ (ts : List TypeDef). AreHomes ts (is_lent w) homes) same h)) w.exports

module _ (r : Resolve) (w : World) (t : Places) (imports : Bool) (h : ArePlaces r.types w.imports t) (is : imports ≡ are_imports_placed r t.types (place_by t.interfaces) t.interfaces.root w) where
  abbrev exports_are : Bool
  exports_are = are_exports_placed r (places_of r.types w.imports) (place_in w.imports) (length w.imports) (stays_in r.types (is_lent w)) w

  imports_are : imports ≡ are_imports_placed r (places_of r.types w.imports) (place_in w.imports) (length w.imports) w
  imports_are = is ∙ ap₂ (λ a b. a && b) (ap (λ (places : List ℕ). are_types_placed r places (length r.types)) h.types) (same_items r w.imports t h w.imports)

  pub imports_fail : imports ≡ false → false ≡ is_world_placed r w
  imports_fail fails = ap (λ b. b && exports_are) (sym fails ∙ imports_are)

  pub exports_decide : (exports : Bool) → imports ≡ true → exports ≡ are_exports_placed r t.types (place_by t.interfaces) t.interfaces.root (stays_in r.types (is_lent w)) w → exports ≡ is_world_placed r w
  exports_decide exports passes decides = decides ∙ same_exports r w.imports t h (stays_in r.types (is_lent w)) w.exports ∙ ap (λ b. b && exports_are) (sym passes ∙ imports_are)
