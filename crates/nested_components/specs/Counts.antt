-- How many type indices the items of a nested component make (component model, explainer: index
-- spaces; binary: type indices).
use Rattle.std.specs.Prelude.{ℕ, ◌≡◌, ◌+◌, ◌≤◌, ◌^◌, Bool, true, false, List, count_by}
use Rattle.comp_bytes.specs.declared.space.Sort.TheVariants as sorts
use Rattle.comp_bytes.specs.declared.types.Description.TheVariants as descriptions
use Rattle.comp_bytes.specs.declared.def.Item.{Item}
use Rattle.comp_bytes.specs.declared.def.Item.TheVariants as items

-- whether an item makes a type index
abbrev pub makes_type : Item → Bool
makes_type (items.Type t) = true
makes_type (items.Import name (descriptions.TypeEqual index)) = true
makes_type (items.Import name descriptions.SubResource) = true
makes_type (items.Export name sorts.Type index description) = true
makes_type i = false

-- the number of type indices that the items make
abbrev pub types_in : List Item → ℕ
types_in is = count_by makes_type is

-- the count of type indices with one more, which is more than there can be
abbrev pub is_full : List Item → ℕ → Type 0
is_full is count = (2 ^ 32 ≤ count) × (count ≡ types_in is + 1)
