-- Equal unnamed types of one scope are one type. A scope is an imported interface, an exported copy, or the world.
use Rattle.std.specs.Prelude.{ℕ, length, List, [], ◌∷◌, ◌++◌, Option, None, Some}
use Rattle.std.specs.Map.{lookup}
use Rattle.wit_data.specs.declared.ids.TypeId.{TypeId}
use Rattle.wit_data.specs.declared.types.TypeOwner.{TypeOwner}
use Rattle.wit_data.specs.declared.types.TypeOwner.TheVariants as type_owners
use Rattle.wit_data.specs.declared.types.TypeDefKind.{TypeDefKind}
use Rattle.wit_data.specs.contracts.types.TypeDefKindPartialEq.TheImpl as kinds_eq
use Rattle.record_resolve.specs.declared.making.Making.{Making}

abbrev pub type_id : ℕ → TypeId
type_id n = record { index = n }

-- the unnamed types of a scope by their kinds
abbrev pub Unnamed : Type 0
Unnamed = List (TypeDefKind × TypeId)

-- one type more, where these are the unnamed types of the scope
abbrev pub with_type : Option (List ℕ) → TypeDefKind → TypeOwner → Unnamed → Making → Making
with_type name kind owner unnamed m =
    record { exported = m.exported; imported_types = m.imported_types; exported_types = m.exported_types; types = m.types ++ record { name = name; kind = kind; owner = owner } ∷ []; unnamed = unnamed }

abbrev pub shared_by : TypeDefKind → Making → Option TypeId → TypeId × Making
shared_by kind m (Some id) = (id, m)
shared_by kind m None =
    (type_id (length m.types), with_type None kind type_owners.«None» (m.unnamed ++ (kind, type_id (length m.types)) ∷ []) m)

-- the unnamed type of this kind in the scope, which is made where it does not exist
unfoldable pub shared : TypeDefKind → Making → TypeId × Making
shared kind m = shared_by kind m (lookup (kinds_eq.eq-value.it kind) m.unnamed)

-- the same, where these are the unnamed types of the scope
abbrev pub scoped : Unnamed → Making → Making
scoped unnamed m = record { exported = m.exported; imported_types = m.imported_types; exported_types = m.exported_types; types = m.types; unnamed = unnamed }
