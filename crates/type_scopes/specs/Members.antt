-- How many type indices the members of an instance type make (component model, explainer: `instancedecl`; binary: type
-- indices).
use Rattle.std.specs.Prelude.{ℕ, ◌+◌, ◌≤◌, ◌^◌, ◌≡◌, List, count_by}
use Rattle.byte_encoding.specs.declared.fault.BuildFault.{BuildFault}
use Rattle.byte_encoding.specs.declared.fault.BuildFault.TheVariants.{Memory, TooMany}
use Rattle.comp_bytes.specs.declared.types.Member.{Member}
use Rattle.comp_trees.specs.Members.{makes_type}

-- the number of type indices that the members make
abbrev pub types_in : List Member → ℕ
types_in ms = count_by makes_type ms

-- the count of type indices with one more, which is more than there can be
abbrev pub is_full : List Member → ℕ → Type 0
is_full ms count = (2 ^ 32 ≤ count) × (count ≡ types_in ms + 1)

-- out of memory, or a count that is more than there can be
abbrev pub IsExcess : BuildFault → Type 0
IsExcess Memory = Unit {0}
IsExcess (TooMany count) = 2 ^ 32 ≤ count
