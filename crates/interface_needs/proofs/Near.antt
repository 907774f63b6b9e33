-- The live types of a place or an earlier one: they are made of such types, and so are functions whose types are used.
use Rattle.std.proofs.Common.{◌≡◌, ◌<◌, ◌≤◌, ◌&&◌, nat_le, ℕ, Bool, true, List, [], ◌++◌, length, map, Contains, arith, Option, Some, None}
use Rattle.std.specs.List.{AllByRecursion}
use Rattle.std.proofs.lemmas.Bool.{and_parts, and_from, leb-true, le-leb}
use Rattle.std.proofs.lemmas.List.Elements.{Contains-append_left, Contains-append_right}
use Rattle.comp_lists.proofs.Lists.{AllByRecursion-contains, Contains-map}
use Rattle.wit_data.specs.declared.functions.Function.{Function}
use Rattle.wit_data.specs.declared.functions.Param.{Param}
use Rattle.wit_data.specs.declared.types.Type.{«Type» as Ty}
use Rattle.wit_data.specs.declared.types.Type.TheVariants.{Primitive, Id}
use Rattle.wit_data.specs.Live.{is_live}
use Rattle.wit_data.specs.Parts.{parts}
use Rattle.wit_data.specs.Sound.{HasType, HasFunction}
use Rattle.wit_data.specs.Values.{kind_at}
use Rattle.type_scopes.specs.Needs.{IsLive, IsLiveFunction}
use Rattle.world_values.specs.Mentions.{at_most_one, resource_of, function_types}
use Rattle.comp_worlds.specs.Encodable.{IsEncodable, IsTypePlaced, IsFunctionPlaced, place}
use Rattle.comp_worlds.specs.WorldContents.{items_of}
use Rattle.comp_worlds.specs.declared.world.ComponentWorld.{ComponentWorld}
use Rattle.interface_needs.proofs.Lists.{all_of_each, contains_first}
use Rattle.interface_needs.proofs.Live.{live_part, live_given}
use Rattle.interface_needs.proofs.Needed.{used_in}

-- a live type whose place is at most this
abbrev pub near : ComponentWorld → ℕ → ℕ → Bool
near w last n = is_live w.resolve.types (used_in w) n && nat_le (place w.resolve.types (items_of w).imports (Some (Id (record { index = n })))) last

pub record IsNear (w : ComponentWorld) (last n : ℕ) : Type 0 where
  pub live : is_live w.resolve.types (used_in w) n ≡ true
  pub placed : place w.resolve.types (items_of w).imports (Some (Id (record { index = n }))) ≤ last

pub near_is : (w : ComponentWorld) (last n : ℕ) → near w last n ≡ true → IsNear w last n
near_is w last n h =
    let at = place w.resolve.types (items_of w).imports (Some (Id (record { index = n }))) in
    let b = and_parts (is_live w.resolve.types (used_in w) n) (nat_le at last) h in
    record { live = b.0; placed = leb-true at last b.1 }

pub is_near : (w : ComponentWorld) (last n : ℕ) → IsNear w last n → near w last n ≡ true
is_near w last n h =
    let at = place w.resolve.types (items_of w).imports (Some (Id (record { index = n }))) in and_from (is_live w.resolve.types (used_in w) n) (nat_le at last) h.live (le-leb at last h.placed)

-- a function of the resolve that is made of such types
pub record IsNearFunction (w : ComponentWorld) (last : ℕ) (f : Function) : Type 0 where
  pub sound : HasFunction w.resolve f
  pub live : IsLiveFunction (near w last) f

module _ (w : ComponentWorld) (ok : IsEncodable w) (last : ℕ) where
  near_part : (n : ℕ) → n < length w.resolve.types → IsNear w last n → (p : Option Ty) → Contains (parts (kind_at w.resolve.types n)) p → IsLive (near w last) p
  near_part n l h None c = tt
  near_part n l h (Some (Primitive q)) c = tt
  near_part n l h (Some (Id id)) c =
      let at : IsTypePlaced w.resolve (items_of w).imports n = ok.types n l in
      let es = (items_of w).imports in
      let no_later = AllByRecursion-contains (λ p. place w.resolve.types es p ≤ place w.resolve.types es (Some (Id (record { index = n })))) (parts (kind_at w.resolve.types n)) (Some (Id id)) at.parts c in
      let most = h.placed in
      is_near w last id.index (record { live = live_part w.resolve.types ok.sound.back (used_in w) n id.index l c h.live; placed = omega (arith, no_later, most) })

  -- the parts of such a type
  pub near_parts : (n : ℕ) → n < length w.resolve.types → IsNear w last n → AllByRecursion (IsLive (near w last)) (parts (kind_at w.resolve.types n))
  near_parts n l h = all_of_each (IsLive (near w last)) (parts (kind_at w.resolve.types n)) (near_part n l h)

  near_type : (t : Ty) → HasType w.resolve (Some t) → place w.resolve.types (items_of w).imports (Some t) ≤ last → Contains (used_in w) t → IsLive (near w last) (Some t)
  near_type (Primitive q) within placed c = tt
  near_type (Id id) within placed c = is_near w last id.index (record { live = live_given w.resolve.types ok.sound.back (used_in w) id within c; placed = placed })

  near_result : (result : Option Ty) → HasType w.resolve result → place w.resolve.types (items_of w).imports result ≤ last → ((t : Ty) → Contains (at_most_one result) t → Contains (used_in w) t) → IsLive (near w last) result
  near_result None within placed used = tt
  near_result (Some t) within placed used = near_type t within placed (used t (contains_first t []))

  -- a function whose types are used
  pub near_function : (f : Function) → HasFunction w.resolve f → IsFunctionPlaced w.resolve (items_of w).imports last f → ((t : Ty) → Contains (function_types f) t → Contains (used_in w) t) → IsNearFunction w last f
  near_function f sound placed used =
      let es = (items_of w).imports in
      let resource : List Ty = at_most_one (resource_of f.kind) in
      let params : List Ty = map (λ (p : Param). p.ty) f.params in
      let result : List Ty = at_most_one f.result in
      let live : IsLiveFunction (near w last) f = record {
        params = all_of_each (λ (p : Param). IsLive (near w last) (Some p.ty)) f.params
            (λ p c. near_type p.ty (AllByRecursion-contains (λ (p : Param). HasType w.resolve (Some p.ty)) f.params p sound.params c) (AllByRecursion-contains (λ (p : Param). place w.resolve.types es (Some p.ty) ≤ last) f.params p placed.params c)
            (used p.ty (Contains-append_right resource (params ++ result) p.ty (Contains-append_left params result p.ty (Contains-map (λ (p : Param). p.ty) f.params p c)))));
        result = near_result f.result sound.result placed.result (λ t c. used t (Contains-append_right resource (params ++ result) t (Contains-append_right params result t c)));
      } in
      record { sound = sound; live = live }
