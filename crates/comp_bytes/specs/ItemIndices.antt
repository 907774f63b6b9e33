-- Which definition made which item of an index space. Component model, binary format: index spaces.
use Rattle.std.specs.Prelude.{ℕ, ◌≡◌, List, Some, filter, slice_get}
use Rattle.comp_bytes.specs.Spaces.{is_space, space_of}
use Rattle.comp_bytes.specs.declared.def.Def.{Def}
use Rattle.comp_bytes.specs.declared.space.Space.{Space}

-- the definitions that make an item of a space, in order
abbrev pub in_space : Space → List Def → List Def
in_space space definitions = filter (λ d. is_space space (space_of d)) definitions

-- the item of this index in the space was made by this definition
pub record IsAt (definitions : List Def) (space : Space) (index : ℕ) (definition : Def) : Type 0 where
  pub made : slice_get (in_space space definitions) index ≡ Some definition
