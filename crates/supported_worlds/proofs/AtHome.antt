-- The table of the homes of types: an interface may be made of a type just where the type stays in it.
use Rattle.std.proofs.Common.{arith, ◌≡◌, ◌<◌, ◌+◌, ◌==◌, ℕ, zero, suc, Bool, true, false, not, ◌&&◌, ◌||◌, List, [], ◌∷◌, ◌++◌, length, get_or, map, drop, take, take_all, Option, Some, None, refl, sym, ap, ap₂, subst, ◌∙◌}
use Rattle.std.specs.Prelude.{slice_get, is_none, is_some}
use Rattle.std.specs.List.{list_all}
use Rattle.std.specs.Option.{option_and_then}
use Rattle.std.proofs.lemmas.Bool.{eqb-true}
use Rattle.std.proofs.lemmas.Option.{slice_get-get_or, get_or_from_slice_get, none-some}
use Rattle.std.proofs.lemmas.List.{length-append, length-map, map-append}
use Rattle.std.proofs.lemmas.List.Folds.{list_all_more}
use Rattle.wit_data.specs.declared.ids.InterfaceId.{InterfaceId}
use Rattle.wit_data.specs.declared.types.Type.{«Type» as Ty}
use Rattle.wit_data.specs.declared.types.Type.TheVariants.{Primitive, Id}
use Rattle.wit_data.specs.declared.types.TypeDef.{TypeDef}
use Rattle.wit_data.specs.declared.types.TypeDefKind.{TypeDefKind}
use Rattle.wit_data.specs.declared.types.TypeDefKind.TheVariants as kinds
use Rattle.wit_data.specs.declared.types.TypeOwner.TheVariants as owners
use Rattle.wit_data.specs.declared.worlds.World.{World}
use Rattle.wit_data.specs.Parts.{parts}
use Rattle.wit_data.specs.Values.{part_value, next_value, values_from, values, kind_at}
use Rattle.wit_data.proofs.Values.{kind_there}
use Rattle.wit_data.proofs.Meeting.{drop_next, drop_all}
use Rattle.comp_worlds.specs.Encodable.{is_resource_kind, is_lent, is_of_interface, staying_in, stays_in}
use Rattle.comp_worlds.specs.WorldContents.{interface_of_owner, interface_at, name_at}
use Rattle.supported_worlds.specs.Homes.{fits, home_at, is_owned, is_unowned, is_own, AreJoined, IsOwnedHome, IsUnownedHome, IsOwnHome, IsHomeOfParts, IsNextHome, AreHomes}
use Rattle.supported_worlds.specs.Lent.{lends, AreLent}
use Rattle.supported_worlds.specs.declared.homes.Home.{Home}
use Rattle.supported_worlds.specs.declared.homes.Home.TheVariants as homes
use Rattle.supported_worlds.specs.declared.lent.Lent.{Lent}

-- ---- two homes

and_true : (b : Bool) → b ≡ (b && true)
and_true true = refl
and_true false = refl

and_false : (b : Bool) → false ≡ (b && false)
and_false true = refl
and_false false = refl

or_true : (b : Bool) → (b || true) ≡ true
or_true true = refl
or_true false = refl

or_false : (b : Bool) → b ≡ (b || false)
or_false true = refl
or_false false = refl

twice : (b : Bool) → b ≡ (b && b)
twice true = refl
twice false = refl

pub with_anywhere : (other : Home) → AreJoined homes.Anywhere other other
with_anywhere other = record { each = λ here. refl }

pub with_nowhere : (other : Home) → AreJoined homes.Nowhere other homes.Nowhere
with_nowhere other = record { each = λ here. refl }

pub both_anywhere : (a : InterfaceId) → AreJoined (homes.Interface a) homes.Anywhere (homes.Interface a)
both_anywhere a = record { each = λ here. and_true (here.index == a.index) }

pub both_nowhere : (a : InterfaceId) → AreJoined (homes.Interface a) homes.Nowhere homes.Nowhere
both_nowhere a = record { each = λ here. and_false (here.index == a.index) }

pub one_interface : (a b : InterfaceId) → (a.index == b.index) ≡ true → AreJoined (homes.Interface a) (homes.Interface b) (homes.Interface a)
one_interface a b same = record { each = λ here. twice (here.index == a.index) ∙ ap (λ (n : ℕ). (here.index == a.index) && (here.index == n)) (eqb-true a.index b.index same) }

pub two_interfaces : (a b : InterfaceId) → (a.index == b.index) ≡ false → AreJoined (homes.Interface a) (homes.Interface b) homes.Nowhere
two_interfaces a b apart = record { each = λ here. by here (here.index == a.index) refl }
  where
    by : (here : InterfaceId) (t : Bool) → (here.index == a.index) ≡ t → false ≡ (t && (here.index == b.index))
    by here true same = sym (ap (λ (n : ℕ). n == b.index) (eqb-true here.index a.index same) ∙ apart)
    by here false other = refl

-- ---- the parts of a type

pub some_home : (all : List Home) (n : ℕ) (home : Home) → slice_get all n ≡ Some home → home ≡ get_or all n homes.Anywhere
some_home all n home h = sym (get_or_from_slice_get all n home homes.Anywhere h)

pub no_home : (all : List Home) (n : ℕ) → slice_get all n ≡ None → homes.Anywhere ≡ get_or all n homes.Anywhere
no_home [] n h = refl
no_home (a ∷ all) zero h = absurd (none-some a (sym h))
no_home (a ∷ all) (suc n) h = no_home all n h

-- the home of the first so many parts
pub record PartsSoFar (all : List Home) (n : ℕ) (ps : List (Option Ty)) (home : Home) : Type 0 where
  pub is : IsHomeOfParts all (take n ps) home

pub parts_start : (all : List Home) (ps : List (Option Ty)) → PartsSoFar all 0 ps homes.Anywhere
parts_start all ps = record { is = record { each = λ here. refl } }

pub parts_step : (all : List Home) (n : ℕ) (ps : List (Option Ty)) (done home next : Home) (part : Option Ty) → PartsSoFar all n ps done → n < length ps → part ≡ get_or ps n None → home ≡ home_at all part → AreJoined done home next → PartsSoFar all (n + 1) ps next
parts_step all n ps done home next part h l same is joined =
    record {
      is = record {
        each = λ here.
            joined.each here
            ∙ ap₂ (λ a b. a && b) (h.is.each here) (ap (fits here) (is ∙ ap (home_at all) same))
            ∙ sym (list_all_more (λ p. fits here (home_at all p)) ps n None l);
      };
    }

pub parts_end : (all : List Home) (n : ℕ) (ps : List (Option Ty)) (home : Home) → PartsSoFar all n ps home → n ≡ length ps → IsHomeOfParts all ps home
parts_end all n ps home h e = subst (λ (xs : List (Option Ty)). IsHomeOfParts all xs home) (take_all n ps (omega (arith, e))) h.is

-- ---- the home of a type, whatever its parts are

-- of one that belongs to an interface
module _ (lent : Bool) (id : InterfaceId) (t : TypeDef) where
  pub lent_type : (b : Bool) → b ≡ (lent && is_some t.name) → b ≡ true → IsOwnedHome lent id t homes.Anywhere
  lent_type b is holds = record {
    each = λ here.
        let own : Bool = here.index == id.index in
        sym (or_true own) ∙ ap (λ (c : Bool). own || c) (sym holds ∙ is);
  }

  pub own_type : (b : Bool) → b ≡ (lent && is_some t.name) → b ≡ false → IsOwnedHome lent id t (homes.Interface id)
  own_type b is lacks = record {
    each = λ here.
        or_false (here.index == id.index)
        ∙ ap (λ (c : Bool). here.index == id.index || c) (sym lacks ∙ is);
  }

-- of one that belongs to none
pub unowned : (t : TypeDef) (b : Bool) (home : Home) → b ≡ is_unowned t → ((here : InterfaceId) → fits here home ≡ b) → IsUnownedHome t home
unowned t b home is all = record { each = λ here. all here ∙ is }

module _ (lent : InterfaceId → Bool) (t : TypeDef) where
  -- whether an interface may be made of a type of this owner
  abbrev of_owner : InterfaceId → Option InterfaceId → Bool
  of_owner here owner = elim owner [ Some id ↦ is_owned (lent id) here id t | None ↦ is_unowned t ]

  pub of_interface : (id : InterfaceId) (home : Home) → t.owner ≡ owners.Interface id → IsOwnedHome (lent id) id t home → IsOwnHome lent t home
  of_interface id home owner h = record { each = λ here. h.each here ∙ sym (ap (of_owner here) (ap interface_of_owner owner)) }

  pub of_none : (home : Home) → interface_of_owner t.owner ≡ None → IsUnownedHome t home → IsOwnHome lent t home
  of_none home owner h = record { each = λ here. h.each here ∙ sym (ap (of_owner here) owner) }

-- ---- the next type

abbrev owned_as : (InterfaceId → Bool) → InterfaceId → TypeDefKind → Option InterfaceId → Option (List ℕ) → Bool
owned_as lent here kind owner name = elim owner [ Some id ↦ here.index == id.index || (lent id && is_some name) | None ↦ is_none name && not (is_resource_kind kind) ]

own_at : (types : List TypeDef) (lent : InterfaceId → Bool) (n : ℕ) (d : TypeDef) (here : InterfaceId) → n < length types → is_own lent here (get_or types n d) ≡ is_of_interface types lent here n (kind_at types n)
own_at types lent n d here l =
    ap (λ (o : Option TypeDef). owned_as lent here (get_or types n d).kind (option_and_then (λ t. interface_of_owner t.owner) o) (option_and_then (λ t. t.name) o)) (sym (slice_get-get_or types n d l))
    ∙ ap (λ k. is_of_interface types lent here n k) (kind_there types n d l)

pub next_home_is : (types : List TypeDef) (lent : InterfaceId → Bool) (all : List Home) (n : ℕ) (d : TypeDef) (own part home : Home) → n < length types → IsOwnHome lent (get_or types n d) own → IsHomeOfParts all (parts (kind_at types n)) part → AreJoined own part home → IsNextHome types lent all n home
next_home_is types lent all n d own part home l is parted joined =
    record { each = λ here. joined.each here ∙ ap₂ (λ a b. a && b) (is.each here ∙ own_at types lent n d here l) (parted.each here) }

-- ---- the table

module _ (types : List TypeDef) (lent : InterfaceId → Bool) (here : InterfaceId) where
  -- which of the types stay in the interface, by the table
  abbrev stay : List Home → List Bool
  stay all = map (fits here) all

  found : (all : List Home) (n : ℕ) → fits here (get_or all n homes.Anywhere) ≡ get_or (stay all) n true
  found [] n = refl
  found (a ∷ all) zero = refl
  found (a ∷ all) (suc n) = found all n

  one_part : (all : List Home) (p : Option Ty) → fits here (home_at all p) ≡ part_value (staying_in types lent here) (stay all) p
  one_part all None = refl
  one_part all (Some (Primitive p)) = refl
  one_part all (Some (Id id)) = found all id.index

  all_parts : (all : List Home) (ps : List (Option Ty)) → list_all (λ p. fits here (home_at all p)) ps ≡ list_all (λ b. b) (map (part_value (staying_in types lent here) (stay all)) ps)
  all_parts all [] = refl
  all_parts all (p ∷ ps) = ap₂ (λ a b. a && b) (one_part all p) (all_parts all ps)

  same_next : (all : List Home) (n : ℕ) (home : Home) → length all ≡ n → IsNextHome types lent all n home → fits here home ≡ next_value (staying_in types lent here) (stay all) (kind_at types n)
  same_next all n home long is =
      let k = kind_at types n in
      is.each here
      ∙ ap (λ b. is_of_interface types lent here n k && b) (all_parts all (parts k))
      ∙ ap (λ (m : ℕ). is_of_interface types lent here m k && list_all (λ b. b) (map (part_value (staying_in types lent here) (stay all)) (parts k))) (sym (length-map all (fits here) ∙ long))

-- the types before a number are in the table
pub record HomesSoFar (types : List TypeDef) (lent : InterfaceId → Bool) (n : ℕ) (all : List Home) : Type 0 where
  pub long : length all ≡ n
  pub are : (here : InterfaceId) → values_from (staying_in types lent here) (map (fits here) all) (drop n types) ≡ values (staying_in types lent here) types

pub homes_start : (types : List TypeDef) (lent : InterfaceId → Bool) → HomesSoFar types lent 0 []
homes_start types lent = record { long = refl; are = λ here. refl }

-- any type
abbrev some_type : TypeDef
some_type = record { name = None; kind = kinds.Resource; owner = owners.«None» }

pub homes_step : (types : List TypeDef) (lent : InterfaceId → Bool) (n : ℕ) (all new : List Home) (home : Home) → HomesSoFar types lent n all → n < length types → IsNextHome types lent all n home → new ≡ all ++ home ∷ [] → HomesSoFar types lent (n + 1) new
unfolding values_from
homes_step types lent n all new home h l is made =
    let t = get_or types n some_type in
    let value : (here : InterfaceId) → fits here home ≡ next_value (staying_in types lent here) (map (fits here) all) t.kind =
    λ here. same_next types lent here all n home h.long is ∙ ap (next_value (staying_in types lent here) (map (fits here) all)) (sym (kind_there types n some_type l)) in
    subst (HomesSoFar types lent (n + 1)) (sym made) (record {
      long = length-append all (home ∷ []) ∙ (let a = h.long in omega (arith, a));
      are = λ here.
          ap (λ bs. values_from (staying_in types lent here) bs (drop (n + 1) types)) (map-append (fits here) all (home ∷ []) ∙ ap (λ b. map (fits here) all ++ b ∷ []) (value here))
          ∙ ap (values_from (staying_in types lent here) (map (fits here) all)) (sym (drop_next types n some_type l))
          ∙ h.are here;
    })

pub homes_end : (types : List TypeDef) (lent : InterfaceId → Bool) (n : ℕ) (all : List Home) → HomesSoFar types lent n all → n ≡ length types → AreHomes types lent all
unfolding values_from
homes_end types lent n all h e =
    record {
      each = λ here p.
          one_part types lent here all p
          ∙ ap (λ bs. part_value (staying_in types lent here) bs p) (ap (values_from (staying_in types lent here) (map (fits here) all)) (sym (drop_all types n e)) ∙ h.are here);
    }

-- ---- the interfaces that are lent, by a world

module _ (types : List TypeDef) (one other : InterfaceId → Bool) (same : (id : InterfaceId) → one id ≡ other id) (here : InterfaceId) where
  same_of : (n : ℕ) (k : TypeDefKind) → is_of_interface types one here n k ≡ is_of_interface types other here n k
  same_of n k = by (interface_at types n)
    where
      by : (o : Option InterfaceId) → owned_as one here k o (name_at types n) ≡ owned_as other here k o (name_at types n)
      by None = refl
      by (Some id) = ap (λ b. here.index == id.index || (b && is_some (name_at types n))) (same id)

  same_part : (bs : List Bool) (p : Option Ty) → part_value (staying_in types one here) bs p ≡ part_value (staying_in types other here) bs p
  same_part bs None = refl
  same_part bs (Some (Primitive p)) = refl
  same_part bs (Some (Id id)) = refl

  same_parts : (bs : List Bool) (ps : List (Option Ty)) → map (part_value (staying_in types one here) bs) ps ≡ map (part_value (staying_in types other here) bs) ps
  same_parts bs [] = refl
  same_parts bs (p ∷ ps) = ap₂ (λ b all. b ∷ all) (same_part bs p) (same_parts bs ps)

  same_values : (bs : List Bool) (ts : List TypeDef) → values_from (staying_in types one here) bs ts ≡ values_from (staying_in types other here) bs ts
  unfolding values_from
  same_values bs [] = refl
  same_values bs (t ∷ ts) =
      ap (λ b. values_from (staying_in types one here) (bs ++ b ∷ []) ts) (ap₂ (λ a all. a && list_all (λ b. b) all) (same_of (length bs) t.kind) (same_parts bs (parts t.kind)))
      ∙ same_values (bs ++ next_value (staying_in types other here) bs t.kind ∷ []) ts

  same_stays : (p : Option Ty) → stays_in types one here p ≡ stays_in types other here p
  same_stays p = ap (λ bs. part_value (staying_in types one here) bs p) (same_values [] types) ∙ same_part (values (staying_in types other here) types) p

pub in_world : (types : List TypeDef) (w : World) (lent : Lent) (all : List Home) → AreLent w lent → AreHomes types (lends lent) all → AreHomes types (is_lent w) all
in_world types w lent all sets h = record { each = λ here p. h.each here p ∙ same_stays types (lends lent) (is_lent w) sets.each here p }
