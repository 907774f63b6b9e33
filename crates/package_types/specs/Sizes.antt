-- Sizes of types: how many types are nested in a type, and how many nodes its tree has. An absent
-- part is a node too, but no level. (The component model sets no limit; these are this project's
-- own, and those of records.)
use Rattle.std.specs.Prelude.{◌+◌, min, max, nat_le, Result, Ok, Err, if◌then◌else◌}
use Rattle.package_types.specs.declared.fault.Cause.{Cause}
use Rattle.package_types.specs.declared.fault.Cause.TheVariants as causes
use Rattle.package_types.specs.declared.scopes.Size.{Size}

abbrev pub nothing : Size
nothing = record { levels = 0; nodes = 0 }

-- an absent part
abbrev pub absent : Size
absent = record { levels = 0; nodes = 1 }

-- a type without parts
abbrev pub simple : Size
simple = record { levels = 1; nodes = 1 }

-- of parts together: the levels of the deepest, and the sum of all nodes, up to 10,000
abbrev pub combined : Size → Size → Size
combined a b = record { levels = max a.levels b.levels; nodes = min (a.nodes + b.nodes) 10000 }

-- a type whose parts have this size together; it has at most 100 levels and 10,000 nodes
unfoldable pub above : Size → Result Size Cause
above parts =
    if nat_le 100 parts.levels then Err causes.Depth
    else if nat_le 10000 parts.nodes then Err causes.Nodes
    else Ok (record { levels = parts.levels + 1; nodes = parts.nodes + 1 })
