-- Whether something of an interface is needed.
use Rattle.std.proofs.Common.{◌≡◌, ◌≢◌, ◌∙◌, ap, ap₂, sym, refl, ℕ, true, true≢false, List, [], ◌∷◌, ◌++◌, map}
use Rattle.wit_data.specs.declared.ids.InterfaceId.{InterfaceId}
use Rattle.comp_worlds.specs.declared.world.ComponentWorld.{ComponentWorld}
use Rattle.comp_links.specs.Lists.{names_of_interface, needed_types, type_name}
use Rattle.comp_links.specs.Roles.{used_functions_of}
use Rattle.type_scopes.specs.Titles.{is_one_of}

pub names_none : (w : ComponentWorld) (id : InterfaceId) → needed_types w id ≡ [] → used_functions_of w id ≡ [] → names_of_interface w id ≡ []
names_none w id none unused = ap₂ (λ ids names. map (type_name w) ids ++ names) none unused

none_left : {X : Type 0} (xs ys : List X) → xs ++ ys ≡ [] → (xs ≡ []) × (ys ≡ [])
none_left [] ys e = (refl, e)
none_left (x ∷ xs) ys e = cc

none_mapped : {X Y : Type 0} (f : X → Y) (xs : List X) → map f xs ≡ [] → xs ≡ []
none_mapped f [] e = refl
none_mapped f (x ∷ xs) e = cc

-- what no name is needed of has no needed types, and no used functions
pub both_none : (w : ComponentWorld) (id : InterfaceId) → names_of_interface w id ≡ [] → (needed_types w id ≡ []) × (used_functions_of w id ≡ [])
both_none w id e = let p = none_left (map (type_name w) (needed_types w id)) (used_functions_of w id) e in (none_mapped (type_name w) (needed_types w id) p.0, p.1)

-- an interface has a name that is needed, where a type is
pub needed_named : (w : ComponentWorld) (id : InterfaceId) (n : ℕ) → is_one_of (needed_types w id) n ≡ true → names_of_interface w id ≢ []
needed_named w id n h e = let p = both_none w id e in true≢false (sym h ∙ ap (λ ids. is_one_of ids n) p.0)
