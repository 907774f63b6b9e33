-- When two imports, or two exports, of a world have one canonical name (component model, explainer: `interfacename`,
-- `canonversion`).
use Rattle.std.specs.Prelude.{◌≡◌, ◌++◌, ◌∷◌, ◌⊎◌, ℕ, List, [], Option, Some, None, get_or}
use Rattle.std.specs.List.{flat_map}
use Rattle.wit_data.specs.Names.{canonical_id_text, id_text, id_name_of}
use Rattle.wit_data.specs.declared.ids.WorldId.{WorldId}
use Rattle.wit_data.specs.declared.names.IdName.{IdName}
use Rattle.wit_data.specs.declared.resolve.Resolve.{Resolve}
use Rattle.wit_data.specs.declared.worlds.World.{World}
use Rattle.wit_data.specs.declared.worlds.WorldItem.{WorldItem}
use Rattle.wit_data.specs.declared.worlds.WorldKey.{WorldKey}
use Rattle.wit_data.specs.declared.worlds.WorldKey.TheVariants as keys
use Rattle.world_values.specs.Items.{no_items}
use Rattle.comp_encoder.specs.declared.canonical_names.SharedName.{SharedName}

-- names of interfaces: each canonical one with that of the whole version
abbrev pub CanonicalNames : Type 0
CanonicalNames = List (List ℕ × List ℕ)

-- those of an interface, which may have no name, and of a key
abbrev pub names_of_id : Option IdName → CanonicalNames
names_of_id None = []
names_of_id (Some name) = (canonical_id_text name, id_text name) ∷ []

abbrev pub names_of_key : Resolve → WorldKey → CanonicalNames
names_of_key r (keys.Name text) = []
names_of_key r (keys.Interface id) = names_of_id (id_name_of r id)

abbrev pub canonical_names : Resolve → List (WorldKey × WorldItem) → CanonicalNames
canonical_names r entries = flat_map (λ e. names_of_key r e.0) entries

-- this canonical name is that of two of them, whose names with the whole version are these
pub record IsSharedIn (names : CanonicalNames) (first second name : List ℕ) : Type 0 where
  pub before : CanonicalNames
  pub between : CanonicalNames
  pub after : CanonicalNames
  pub parts : names ≡ before ++ (name, first) ∷ (between ++ (name, second) ∷ after)

abbrev pub items_at : Resolve → WorldId → World
items_at r world = get_or r.worlds world.index no_items

-- it is that of two imports of a world, or of two exports
abbrev pub IsShared : Resolve → WorldId → List ℕ → List ℕ → List ℕ → Type 0
IsShared r world first second name =
    IsSharedIn (canonical_names r (items_at r world).imports) first second name ⊎ IsSharedIn (canonical_names r (items_at r world).exports) first second name

-- two names that are the same, if there are any
abbrev pub Finds : CanonicalNames → Option SharedName → Type 0
Finds names None = (first second name : List ℕ) → IsSharedIn names first second name → ⊥
Finds names (Some s) = IsSharedIn names s.first s.second s.name

abbrev pub FindsIn : Resolve → WorldId → Option SharedName → Type 0
FindsIn r world None = (first second name : List ℕ) → IsShared r world first second name → ⊥
FindsIn r world (Some s) = IsShared r world s.first s.second s.name
