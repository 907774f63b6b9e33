-- The table of the places of types.
use Rattle.std.proofs.Common.{arith, ◌≡◌, ◌<◌, ◌+◌, ℕ, zero, suc, List, [], ◌∷◌, ◌++◌, length, get_or, map, drop, max, Option, Some, None, refl, sym, ap, ap₂, subst, ◌∙◌}
use Rattle.std.specs.Prelude.{slice_get}
use Rattle.std.specs.Option.{option_and_then}
use Rattle.std.proofs.lemmas.Option.{slice_get-get_or, get_or_from_slice_get, none-some}
use Rattle.std.proofs.lemmas.List.{length-append, length-map, get_or-map}
use Rattle.wit_data.specs.declared.ids.InterfaceId.{InterfaceId}
use Rattle.wit_data.specs.declared.types.Type.{«Type» as Ty}
use Rattle.wit_data.specs.declared.types.Type.TheVariants.{Primitive, Id}
use Rattle.wit_data.specs.declared.types.TypeDef.{TypeDef}
use Rattle.wit_data.specs.declared.types.TypeDefKind.TheVariants as kinds
use Rattle.wit_data.specs.declared.types.TypeOwner.TheVariants as owners
use Rattle.wit_data.specs.Parts.{parts}
use Rattle.wit_data.specs.Sizes.{greatest}
use Rattle.wit_data.specs.Values.{part_value, next_value, values_from, kind_at}
use Rattle.wit_data.proofs.Values.{kind_there}
use Rattle.wit_data.proofs.Meeting.{drop_next, drop_all}
use Rattle.comp_worlds.specs.Encodable.{Entries, place_in, place_of_name, placing}
use Rattle.comp_worlds.specs.WorldContents.{interface_of_owner, interface_at, name_at}
use Rattle.supported_worlds.specs.Placed.{places_of, place_at}
use Rattle.supported_worlds.specs.PlaceTables.{place_of_unowned, place_of_owned, place_of_type, next_place, AreInterfacePlaces, HasTypePlaces, ArePlaces, HasAllPlaces}
use Rattle.supported_worlds.specs.declared.places.InterfacePlaces.{InterfacePlaces}
use Rattle.supported_worlds.specs.declared.places.Places.{Places}

-- ---- the places of parts

pub some_place : (places : List ℕ) (n place : ℕ) → slice_get places n ≡ Some place → place ≡ get_or places n 0
some_place places n place h = sym (get_or_from_slice_get places n place 0 h)

pub no_place : (places : List ℕ) (n : ℕ) → slice_get places n ≡ None → 0 ≡ get_or places n 0
no_place [] n h = refl
no_place (p ∷ places) zero h = absurd (none-some p (sym h))
no_place (p ∷ places) (suc n) h = no_place places n h

-- the last of the places so far, and of those that remain
pub record LastSoFar (last n : ℕ) (all : List ℕ) : Type 0 where
  pub same : max last (greatest (drop n all)) ≡ greatest all

pub greatest_start : (all : List ℕ) → LastSoFar 0 0 all
greatest_start all = record { same = omega arith }

last_step : (last n : ℕ) (all : List ℕ) → n < length all → LastSoFar last n all → LastSoFar (max last (get_or all n 0)) (n + 1) all
last_step last n all l h =
    let next : greatest (drop n all) ≡ max (get_or all n 0) (greatest (drop (n + 1) all)) = ap greatest (drop_next all n 0 l) in
    let same = h.same in record { same = omega (arith, next, same) }

pub greatest_step : (places : List ℕ) (parts : List (Option Ty)) (last n place larger : ℕ) (part : Option Ty) → LastSoFar last n (map (place_at places) parts) → n < length parts → part ≡ get_or parts n None
    → place ≡ place_at places part → larger ≡ max last place → LastSoFar larger (n + 1) (map (place_at places) parts)
greatest_step places parts last n place larger part h l is at more =
    let here : get_or (map (place_at places) parts) n 0 ≡ place = get_or-map (place_at places) parts n None 0 l ∙ ap (place_at places) (sym is) ∙ sym at in
    let long = length-map parts (place_at places) in
    subst (λ (k : ℕ). LastSoFar k (n + 1) (map (place_at places) parts)) (ap (max last) here ∙ sym more) (last_step last n (map (place_at places) parts) (omega (arith, l, long)) h)

pub greatest_end : (places : List ℕ) (parts : List (Option Ty)) (last n : ℕ) → LastSoFar last n (map (place_at places) parts) → n ≡ length parts → last ≡ greatest (map (place_at places) parts)
greatest_end places parts last n h e =
    let none : greatest (drop n (map (place_at places) parts)) ≡ 0 = ap greatest (drop_all (map (place_at places) parts) n (e ∙ sym (length-map parts (place_at places)))) in
    let same = h.same in omega (arith, none, same)

-- ---- the next place

pub type_there : (types : List TypeDef) (i : InterfacePlaces) (places : List ℕ) (n last place : ℕ) (d : TypeDef) → n < length types → last ≡ greatest (map (place_at places) (parts (kind_at types n))) → place ≡ place_of_type (get_or types n d) i last
    → place ≡ next_place types i places n
type_there types i places n last place d l is at =
    let there = slice_get-get_or types n d l in
    at
    ∙ ap (λ (k : ℕ). place_of_type (get_or types n d) i k) is
    ∙ ap (λ (o : Option TypeDef). place_of_owned i (option_and_then (λ t. interface_of_owner t.owner) o) (place_of_unowned (option_and_then (λ t. t.name) o) i.root (greatest (map (place_at places) (parts (kind_at types n)))))) (sym there)

module _ (types : List TypeDef) (es : Entries) (i : InterfacePlaces) (h : AreInterfacePlaces es i) where
  one_part : (places : List ℕ) (part : Option Ty) → place_at places part ≡ part_value (placing types es) places part
  one_part places None = refl
  one_part places (Some (Primitive p)) = refl
  one_part places (Some (Id id)) = refl

  all_parts : (places : List ℕ) (ps : List (Option Ty)) → map (place_at places) ps ≡ map (part_value (placing types es) places) ps
  all_parts places [] = refl
  all_parts places (p ∷ ps) = ap₂ (λ (x : ℕ) (xs : List ℕ). x ∷ xs) (one_part places p) (all_parts places ps)

  same_unowned : (name : Option (List ℕ)) (ps : List ℕ) → place_of_unowned name i.root (greatest ps) ≡ place_of_name es name ps
  same_unowned (Some name) ps = h.root
  same_unowned None ps = refl

  same_owned : (o : Option InterfaceId) (unowned same : ℕ) → unowned ≡ same → place_of_owned i o unowned ≡ elim o [ Some id ↦ place_in es id | None ↦ same ]
  same_owned (Some id) unowned same e = h.each id
  same_owned None unowned same e = e

  same_next : (places : List ℕ) (n : ℕ) → length places ≡ n → next_place types i places n ≡ next_value (placing types es) places (kind_at types n)
  same_next places n e =
      let ps = parts (kind_at types n) in
      subst (λ (k : ℕ). next_place types i places n ≡ elim (interface_at types k) [ Some id ↦ place_in es id | None ↦ place_of_name es (name_at types k) (map (part_value (placing types es) places) ps) ]) (sym e)
      (same_owned (interface_at types n) (place_of_unowned (name_at types n) i.root (greatest (map (place_at places) ps))) (place_of_name es (name_at types n) (map (part_value (placing types es) places) ps))
      (same_unowned (name_at types n) (map (place_at places) ps) ∙ ap (place_of_name es (name_at types n)) (all_parts places ps)))

-- ---- the table

-- the types before a number have their places
pub record TypesSoFar (types : List TypeDef) (i : InterfacePlaces) (n : ℕ) (places : List ℕ) : Type 0 where
  pub long : length places ≡ n
  pub are : (es : Entries) → AreInterfacePlaces es i → values_from (placing types es) places (drop n types) ≡ places_of types es

pub places_start : (types : List TypeDef) (i : InterfacePlaces) → TypesSoFar types i 0 []
places_start types i = record { long = refl; are = λ es h. refl }

-- any type
abbrev some_type : TypeDef
some_type = record { name = None; kind = kinds.Resource; owner = owners.«None» }

pub places_step : (types : List TypeDef) (i : InterfacePlaces) (n : ℕ) (places new : List ℕ) (place : ℕ) → TypesSoFar types i n places → n < length types → place ≡ next_place types i places n → new ≡ places ++ place ∷ []
    → TypesSoFar types i (n + 1) new
unfolding values_from
places_step types i n places new place h l is made =
    let t = get_or types n some_type in
    let value : (es : Entries) → AreInterfacePlaces es i → place ≡ next_value (placing types es) places t.kind =
    λ es a. is ∙ same_next types es i a places n h.long ∙ ap (next_value (placing types es) places) (sym (kind_there types n some_type l)) in
    subst (TypesSoFar types i (n + 1)) (sym made) (record {
      long = length-append places (place ∷ []) ∙ (let a = h.long in omega (arith, a));
      are = λ es a.
          ap (λ v. values_from (placing types es) (places ++ v ∷ []) (drop (n + 1) types)) (value es a)
          ∙ ap (values_from (placing types es) places) (sym (drop_next types n some_type l))
          ∙ h.are es a;
    })

pub places_end : (types : List TypeDef) (i : InterfacePlaces) (n : ℕ) (places : List ℕ) → TypesSoFar types i n places → n ≡ length types → HasTypePlaces types i places
unfolding values_from
places_end types i n places h e = record { each = λ es a. ap (values_from (placing types es) places) (sym (drop_all types n e)) ∙ h.are es a }

pub all_places : (types : List TypeDef) (i : InterfacePlaces) (made places : List ℕ) → HasTypePlaces types i made → places ≡ made → HasAllPlaces types i (record { interfaces = i; types = places })
all_places types i made places h same = record { each = λ es a. record { interfaces = a; types = same ∙ h.each es a } }

pub in_world : (types : List TypeDef) (i : InterfacePlaces) (p : Places) (es : Entries) → HasAllPlaces types i p → AreInterfacePlaces es i → ArePlaces types es p
in_world types i p es h a = h.each es a
