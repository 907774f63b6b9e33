-- A module without the sections that describe a component: the custom sections whose name begins
-- `component-type` (WebAssembly core specification, binary format, "Custom section"; the name is that of the
-- component model's tools).
use Rattle.std.specs.Prelude.{is_none, ℕ, nat_eq, List, [], ◌∷◌, ◌++◌, filter, codes, Bool, Option, Some, None, Result, Ok, Err, if◌then◌else◌}
use Rattle.std.specs.List.{flat_map, filter_map, starts_with, list_any}
use Rattle.core_sections.specs.declared.fault.SectionFault.{SectionFault}
use Rattle.core_sections.specs.declared.fault.SectionFault.TheVariants as faults
use Rattle.core_sections.specs.Sections.{◌>>=◌, Body, custom, coded, Piece, preamble, pieces_of}

-- the bytes of a custom section of component types
abbrev pub record_of_body : Body → Option (List ℕ)
record_of_body (custom name bytes) = if starts_with nat_eq name (codes "component-type") then Some bytes else None
record_of_body (coded id bytes) = None

abbrev pub record_of : Piece → Option (List ℕ)
record_of p = record_of_body p.body

-- the bytes of the sections that are kept
abbrev pub kept : List Piece → List ℕ
kept ps = flat_map (λ p. p.whole) (filter (λ p. is_none (record_of p)) ps)

abbrev pub removed : List Piece → List (List ℕ)
removed ps = filter_map record_of ps

-- the preamble of a component
abbrev pub component_preamble : List ℕ
component_preamble = 0 ∷ 97 ∷ 115 ∷ 109 ∷ 13 ∷ 0 ∷ 1 ∷ 0 ∷ []

abbrev pub is_package : List ℕ → Bool
is_package bytes = starts_with nat_eq bytes component_preamble

-- a module without its component types, and those
unfoldable pub stripped : List ℕ → Result (List ℕ × List (List ℕ)) SectionFault
stripped bytes = do
  ps ← pieces_of bytes
  if list_any is_package (removed ps) then Err faults.PackageBinary else Ok (preamble ++ kept ps, removed ps)
