-- What the names of a file system name, and how this changes. (The program's own: no standard defines it.)
use Rattle.std.specs.Prelude.{◌≡◌, ℕ, List, Option, Some, None, ⊤, if◌then◌else◌}
use Rattle.std.specs.Str.{bytes_eq}

-- what a name names: nothing, a regular file with these bytes, or another thing, such as a folder,
-- a device or a symbolic link
pub data Node : Type 0 where
  Missing : Node
  Regular : (bytes : List ℕ) → Node
  Other : Node

-- what the names name after this name was made to name this node; what all other names name is unchanged
abbrev pub with_node : (List ℕ → Node) → List ℕ → Node → List ℕ → Node
with_node files name node other = if bytes_eq other name then node else files other

-- each name names this
abbrev pub Are : (List ℕ → Node) → (List ℕ → Node) → Type 0
Are files others = (name : List ℕ) → files name ≡ others name

-- a fact about what was named before and is named after, where it is known what the names name
abbrev pub Known : ((List ℕ → Node) → (List ℕ → Node) → Type 0) → Option (List ℕ → Node) → Option (List ℕ → Node) → Type 0
Known Holds None None = ⊤
Known Holds (Some before) (Some after) = Holds before after
Known Holds _ _ = ⊥
