-- The names of globals (WebAssembly core specification, appendix, custom sections: name section;
-- its parts have an id and a size each, and those with the id 7 hold names of globals), and the
-- indices of exports (binary format, "Export section").
use Rattle.std.specs.Prelude.{ℕ, zero, suc, ◌^◌, ◌==◌, List, [], ◌∷◌, ◌++◌, length, Option, Some, None, if◌then◌else◌}
use Rattle.core_sections.specs.Numbers.{leb_at, bytes_at}
use Rattle.core_sections.specs.Reading.{◌>>=◌, all_of}
use Rattle.core_sections.specs.Contents.{byte_at}
use Rattle.core_parts.specs.declared.names.GlobalName.{GlobalName as GlobalNameNow}

-- a name of the item with this index
pub record Named : Type 0 where
  pub index : ℕ
  pub name : List ℕ

abbrev pub name_view : GlobalNameNow → Named
name_view n = record { index = n.index; name = n.name.now }

-- nameassoc
unfoldable pub named_at : List ℕ → Option (Named × List ℕ)
named_at bytes = do
  i ← leb_at (2 ^ 32) bytes
  n ← bytes_at i.1
  Some (record { index = i.0; name = n.0 }, n.1)

-- the names of globals that a part of this id holds
abbrev pub names_in : ℕ → List ℕ → Option (List Named)
names_in id contents = if id == 7 then all_of named_at contents else Some []

-- those of the parts in these bytes, of which there are at most n
unfoldable pub names_from : ℕ → List ℕ → Option (List Named)
names_from n [] = Some []
names_from zero (id ∷ rest) = None
names_from (suc n) (id ∷ rest) = do
  c ← bytes_at rest
  here ← names_in id c.0
  more ← names_from n c.1
  Some (here ++ more)

-- those of a section of names
unfoldable pub global_names_of : List ℕ → Option (List Named)
global_names_of bytes = names_from (length bytes) bytes
