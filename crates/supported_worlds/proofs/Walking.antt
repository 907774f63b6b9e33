-- A walk over groups of imports, which checks that the fields of each are apart; and a world of a sound resolve.
use Rattle.std.proofs.Common.{◌≡◌, ◌<◌, ℕ, List, [], ◌∷◌, length, get_or, Option, None, sym, subst}
use Rattle.std.specs.List.{AllByRecursion, IsDistinct}
use Rattle.std.specs.Map.{keys_of}
use Rattle.std.specs.Str.{bytes_eq}
use Rattle.wit_data.specs.Sound.{IsSound, HasWorld}
use Rattle.wit_data.specs.declared.resolve.Resolve.{Resolve}
use Rattle.wit_data.specs.declared.worlds.World.{World}
use Rattle.wit_data.proofs.Values.{all_at}
use Rattle.comp_roles.specs.declared.imports.ImportInstance.{ImportInstance}
use Rattle.comp_worlds.specs.declared.world.WorldAdapter.{WorldAdapter}
use Rattle.comp_worlds.specs.declared.world.WorldParts.{WorldParts}
use Rattle.supported_worlds.specs.Apart.{FieldsApart, GroupsApart, AdaptersApart, ModulesApart}

abbrev Groups : Type 0
Groups = List (List ℕ × ImportInstance)

-- all groups are apart, if the remaining ones are
pub record StillApart (rest all : Groups) : Type 0 where
  pub then : AllByRecursion (λ g. FieldsApart g.1) rest → AllByRecursion (λ g. FieldsApart g.1) all

pub start : (all : Groups) → StillApart all all
start all = record { then = λ h. h }

pub step : (all rest : Groups) (group : List ℕ × ImportInstance) → StillApart (group ∷ rest) all → FieldsApart group.1 → StillApart rest all
step all rest group h apart = record { then = λ k. h.then (apart, k) }

pub end : (all : Groups) → StillApart [] all → IsDistinct bytes_eq (keys_of all) → GroupsApart all
end all h modules = record { modules = modules; fields = h.then tt }

abbrev Adapters : Type 0
Adapters = List (List ℕ × WorldAdapter)

-- the imports of all adapters are apart, if those of the remaining ones are
pub record AdaptersStill (rest all : Adapters) : Type 0 where
  pub then : AllByRecursion (λ a. GroupsApart a.1.info.imports.modules) rest → AllByRecursion (λ a. GroupsApart a.1.info.imports.modules) all

pub adapters_start : (all : Adapters) → AdaptersStill all all
adapters_start all = record { then = λ h. h }

pub adapters_step : (all rest : Adapters) (name : List ℕ) (a : WorldAdapter) (found : Option (List ℕ)) → AdaptersStill ((name, a) ∷ rest) all → (found ≡ None → GroupsApart a.info.imports.modules) → found ≡ None → AdaptersStill rest all
adapters_step all rest name a found h apart none = record { then = λ k. h.then (apart none, k) }

pub adapters_end : (all : Adapters) → AdaptersStill [] all → IsDistinct bytes_eq (keys_of all) → AdaptersApart all
adapters_end all h names = record { names = names; groups = h.then tt }

pub modules_apart : (p : WorldParts) (main adapters : Option (List ℕ)) → (main ≡ None → GroupsApart p.main.imports.modules) → (adapters ≡ None → AdaptersApart p.adapters) → main ≡ None → adapters ≡ None → ModulesApart p
modules_apart p main adapters m a none nothing = record { main = m none; adapters = a nothing }

-- the world at a number has what it names
pub world_present : (r : Resolve) (worlds : List World) (n : ℕ) (d : World) → worlds ≡ r.worlds → IsSound r → n < length r.worlds → HasWorld r (get_or worlds n d)
world_present r worlds n d same sound l = subst (λ (ws : List World). HasWorld r (get_or ws n d)) (sym same) (all_at (HasWorld r) r.worlds n d sound.worlds l)
