-- What is left of an object from which a member was taken.
use Rattle.std.specs.Prelude.{◌≡◌, ℕ, List, false, if◌then◌else◌}
use Rattle.std.specs.Str.{bytes_eq}
use Rattle.serde_json.specs.Data.{Data, null, boolean, number, string, array, object, Members, no_members, member}
use Rattle.serde_json.specs.Find.{get}

-- the members without the one of this name
abbrev pub without_member : List ℕ → Members → Members
without_member key no_members = no_members
without_member key (member k d ms) = if bytes_eq key k then ms else member k d (without_member key ms)

-- an object without its member of this name; another value as it is
abbrev pub without : List ℕ → Data → Data
without key null = null
without key (boolean b) = boolean b
without key (number n) = number n
without key (string s) = string s
without key (array ds) = array ds
without key (object ms) = object (without_member key ms)

-- each member of another name is as it was
abbrev pub KeepsOthers : List ℕ → Data → Data → Type 0
KeepsOthers key old new = (k : List ℕ) → bytes_eq k key ≡ false → get k new ≡ get k old
