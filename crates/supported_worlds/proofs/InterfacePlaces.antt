-- The table of the places of imported interfaces.
use Rattle.std.proofs.Common.{arith, rules, ◌≡◌, ◌<◌, ◌+◌, ◌==◌, ℕ, suc, Bool, true, false, cond, ◌&&◌, List, [], ◌∷◌, ◌++◌, length, get_or, map, drop, Option, Some, None, refl, sym, ap, subst, ◌∙◌, true≢false}
use Rattle.std.specs.Prelude.{unwrap_or, if◌then◌else◌}
use Rattle.std.specs.Map.{lookup}
use Rattle.std.proofs.lemmas.List.{length-map}
use Rattle.wit_data.specs.declared.ids.InterfaceId.{InterfaceId}
use Rattle.wit_data.specs.declared.worlds.WorldItem.TheVariants as items
use Rattle.wit_data.proofs.Meeting.{drop_next, drop_all}
use Rattle.world_values.specs.Mentions.{same_interface, interface_in, interfaces_of}
use Rattle.comp_worlds.specs.Encodable.{Entries, place_in}
use Rattle.supported_worlds.specs.Distinct.{are_apart, are_new}
use Rattle.supported_worlds.specs.PlaceTables.{ById, is_fresh, with_place, place_among, interfaces_in, HasPlaces, AreInterfacePlaces}
use Rattle.supported_worlds.proofs.Fresh.{added, start, step, stop}

abbrev Line : Type 0
Line = List (Option InterfaceId)

-- ---- equality of interfaces

pub same_is : (a b : InterfaceId) → same_interface a b ≡ (a.index == b.index)
same_is a b = Prim.search rules

pub flipped : (a b : InterfaceId) → same_interface a b ≡ same_interface b a
flipped a b = Prim.search rules

-- ---- a longer table

module _ (id other : InterfaceId) (n : ℕ) where
  place_pushed : (by_id : ById) (d : ℕ) → unwrap_or (lookup (same_interface id) (by_id ++ (other, n) ∷ [])) d ≡ unwrap_or (lookup (same_interface id) by_id) (cond (same_interface id other) n d)
  place_pushed [] d = by (same_interface id other)
    where
      by : (b : Bool) → unwrap_or (cond b (Some n) None) d ≡ cond b n d
      by true = refl
      by false = refl
  place_pushed (e ∷ by_id) d = by (same_interface id e.0) (place_pushed by_id d)
    where
      by : (b : Bool) → unwrap_or (lookup (same_interface id) (by_id ++ (other, n) ∷ [])) d ≡ unwrap_or (lookup (same_interface id) by_id) (cond (same_interface id other) n d)
          → unwrap_or (cond b (Some e.1) (lookup (same_interface id) (by_id ++ (other, n) ∷ []))) d ≡ unwrap_or (cond b (Some e.1) (lookup (same_interface id) by_id)) (cond (same_interface id other) n d)
      by true h = refl
      by false h = h

-- ---- from one import to the next

-- the table has the places of the interfaces before a number, which are apart
pub record PlacesSoFar (line rest : Line) (n : ℕ) (by_id : ById) : Type 0 where
  pub places : (id : InterfaceId) → unwrap_or (lookup (same_interface id) by_id) (n + place_among rest id) ≡ place_among line id
  pub apart : are_apart same_interface (interfaces_in line) ≡ (are_new same_interface by_id (interfaces_in rest) && are_apart same_interface (interfaces_in rest))

pub places_start : (line : Line) → PlacesSoFar line line 0 []
places_start line = record {
  places = λ id. let e : 0 + place_among line id ≡ place_among line id = omega arith in e;
  apart = start ℕ same_interface (interfaces_in line);
}

step_at : (line rest : Line) (n : ℕ) (o : Option InterfaceId) (by_id : ById) → PlacesSoFar line (o ∷ rest) n by_id → is_fresh by_id o ≡ true → PlacesSoFar line rest (n + 1) (with_place by_id o n)
step_at line rest n None by_id h fresh = record {
  places = λ id. ap (λ k. unwrap_or (lookup (same_interface id) by_id) k) (let e : n + 1 + place_among rest id ≡ n + suc (place_among rest id) = omega arith in e) ∙ h.places id;
  apart = h.apart;
}
step_at line rest n (Some other) by_id h fresh =
    subst (λ (t : ById). PlacesSoFar line rest (n + 1) t) (sym (added (lookup (same_interface other) by_id) by_id (by_id ++ (other, n) ∷ []) fresh)) (record {
      places = λ id. place_pushed id other n by_id (n + 1 + place_among rest id) ∙ ap (λ k. unwrap_or (lookup (same_interface id) by_id) k) (place id) ∙ h.places id;
      apart = h.apart ∙ step same_interface flipped other n by_id (interfaces_in rest) fresh;
    })
  where
    by : (id : InterfaceId) (b : Bool) → cond b n (n + 1 + place_among rest id) ≡ n + (if b then 0 else suc (place_among rest id))
    by id true = omega arith
    by id false = omega arith

    place : (id : InterfaceId) → cond (same_interface id other) n (n + 1 + place_among rest id) ≡ n + (if id.index == other.index then 0 else suc (place_among rest id))
    place id = ap (λ b. cond b n (n + 1 + place_among rest id)) (same_is id other) ∙ by id (id.index == other.index)

twice_at : (line rest : Line) (n : ℕ) (o : Option InterfaceId) (by_id : ById) → PlacesSoFar line (o ∷ rest) n by_id → is_fresh by_id o ≡ false → are_apart same_interface (interfaces_in line) ≡ false
twice_at line rest n None by_id h fresh = absurd (true≢false fresh)
twice_at line rest n (Some other) by_id h fresh = h.apart ∙ stop same_interface flipped other by_id (interfaces_in rest) fresh

module _ (line : Line) (n : ℕ) (d : Option InterfaceId) (by_id : ById) (h : PlacesSoFar line (drop n line) n by_id) (l : n < length line) where
  opened : PlacesSoFar line (get_or line n d ∷ drop (n + 1) line) n by_id
  opened = subst (λ (rest : Line). PlacesSoFar line rest n by_id) (drop_next line n d l) h

pub places_step : (line : Line) (n : ℕ) (d : Option InterfaceId) (by_id new : ById) (fresh : Bool) → PlacesSoFar line (drop n line) n by_id → n < length line → fresh ≡ is_fresh by_id (get_or line n d) → new ≡ with_place by_id (get_or line n d) n → fresh ≡ true
    → PlacesSoFar line (drop (n + 1) line) (n + 1) new
places_step line n d by_id new fresh h l is made passes =
    subst (λ (t : ById). PlacesSoFar line (drop (n + 1) line) (n + 1) t) (sym made) (step_at line (drop (n + 1) line) n (get_or line n d) by_id (opened line n d by_id h l) (sym is ∙ passes))

pub places_twice : (line : Line) (n : ℕ) (d : Option InterfaceId) (by_id : ById) (fresh : Bool) → PlacesSoFar line (drop n line) n by_id → n < length line → fresh ≡ is_fresh by_id (get_or line n d) → fresh ≡ false → are_apart same_interface (interfaces_in line) ≡ false
places_twice line n d by_id fresh h l is fails = twice_at line (drop (n + 1) line) n (get_or line n d) by_id (opened line n d by_id h l) (sym is ∙ fails)

pub places_end : (line : Line) (n : ℕ) (by_id : ById) → PlacesSoFar line (drop n line) n by_id → n ≡ length line → HasPlaces line by_id
places_end line n by_id h e =
    let all = subst (λ (rest : Line). PlacesSoFar line rest n by_id) (drop_all line n e) h in
    record { apart = all.apart; each = λ id. ap (λ k. unwrap_or (lookup (same_interface id) by_id) (k + 1)) (sym e) ∙ all.places id }

-- ---- imports

same_place : (es : Entries) (id : InterfaceId) → place_among (map (λ e. interface_in e.1) es) id ≡ place_in es id
same_place [] id = refl
same_place ((key, items.Interface other) ∷ es) id = ap (λ n. if id.index == other.index then 0 else suc n) (same_place es id)
same_place ((key, items.Function f) ∷ es) id = ap suc (same_place es id)
same_place ((key, items.NamedType t) ∷ es) id = ap suc (same_place es id)

same_interfaces : (es : Entries) → interfaces_in (map (λ e. interface_in e.1) es) ≡ interfaces_of es
same_interfaces [] = refl
same_interfaces ((key, items.Interface other) ∷ es) = ap (λ ids. other ∷ ids) (same_interfaces es)
same_interfaces ((key, items.Function f) ∷ es) = same_interfaces es
same_interfaces ((key, items.NamedType t) ∷ es) = same_interfaces es

pub not_apart : (es : Entries) (line : Line) → line ≡ map (λ e. interface_in e.1) es → are_apart same_interface (interfaces_in line) ≡ false → are_apart same_interface (interfaces_of es) ≡ false
not_apart es line is twice = ap (are_apart same_interface) (sym (same_interfaces es)) ∙ ap (λ l. are_apart same_interface (interfaces_in l)) (sym is) ∙ twice

pub all_apart : (es : Entries) (line : Line) (by_id : ById) (root size : ℕ) → line ≡ map (λ e. interface_in e.1) es → HasPlaces line by_id → root ≡ length line → size ≡ length line
    → AreInterfacePlaces es (record { by_id = by_id; root = root; behind = size + 1 })
all_apart es line by_id root size is h first second = record {
  apart = ap (are_apart same_interface) (sym (same_interfaces es)) ∙ ap (λ l. are_apart same_interface (interfaces_in l)) (sym is) ∙ h.apart;
  root = first ∙ ap length is ∙ length-map es (λ e. interface_in e.1);
  each = λ id. ap (λ k. unwrap_or (lookup (same_interface id) by_id) (k + 1)) second ∙ h.each id ∙ ap (λ l. place_among l id) is ∙ same_place es id;
}
