-- When names are the same: of interfaces, of those that own types, of named types, and of a world's items.
use Rattle.std.specs.Prelude.{ℕ, ◌+◌, nat_eq, List, [], Bool}
use Rattle.std.specs.Ordering.{on, eq_of_both}
use Rattle.std.specs.Str.{bytes_eq}
use Rattle.record_values.specs.declared.names.InterfaceName.{InterfaceName}
use Rattle.record_values.specs.declared.names.InterfaceName.TheVariants as names
use Rattle.record_values.specs.declared.names.Owner.{Owner}
use Rattle.record_values.specs.declared.names.Owner.TheVariants as owners
use Rattle.record_values.specs.declared.names.TypeName.{TypeName}
use Rattle.record_values.specs.declared.world.ItemKey.{ItemKey}
use Rattle.record_values.specs.declared.world.ItemKey.TheVariants as keys
use Rattle.record_values.specs.declared.record.ImportName.{ImportName}

-- how an interface is named, as a number above zero
abbrev pub name_kind : InterfaceName → ℕ
name_kind (names.Id text) = 1
name_kind (names.Imported text) = 2
name_kind (names.Exported text) = 3
name_kind (names.Unused index) = 4 + index

abbrev pub name_text : InterfaceName → List ℕ
name_text (names.Id text) = text
name_text (names.Imported text) = text
name_text (names.Exported text) = text
name_text (names.Unused index) = []

abbrev pub is_same_interface : InterfaceName → InterfaceName → Bool
is_same_interface = eq_of_both (on name_kind nat_eq) (on name_text bytes_eq)

-- zero for the world
abbrev pub owner_kind : Owner → ℕ
owner_kind owners.World = 0
owner_kind (owners.Interface name) = name_kind name

abbrev pub owner_text : Owner → List ℕ
owner_text owners.World = []
owner_text (owners.Interface name) = name_text name

abbrev pub is_same_owner : Owner → Owner → Bool
is_same_owner = eq_of_both (on owner_kind nat_eq) (on owner_text bytes_eq)

abbrev pub is_same_type : TypeName → TypeName → Bool
is_same_type = eq_of_both (eq_of_both (on (λ t. owner_kind t.owner) nat_eq) (on (λ t. owner_text t.owner) bytes_eq)) (on (λ t. t.name) bytes_eq)

-- a plain name, or an interface's id
abbrev pub key_kind : ItemKey → ℕ
key_kind (keys.Name text) = 0
key_kind (keys.Interface text) = 1

abbrev pub key_text : ItemKey → List ℕ
key_text (keys.Name text) = text
key_text (keys.Interface text) = text

abbrev pub is_same_item : ItemKey → ItemKey → Bool
is_same_item = eq_of_both (on key_kind nat_eq) (on key_text bytes_eq)

-- core imports of one module and field have one name
abbrev pub is_same_import : ImportName → ImportName → Bool
is_same_import = eq_of_both (on (λ n. n.«module») bytes_eq) (on (λ n. n.field) bytes_eq)
