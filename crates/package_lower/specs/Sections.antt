-- A module without the custom sections whose name begins `component-type`, and what these hold
-- (core standard, binary format: custom section; the name is that of the component model's tools).
use Rattle.std.specs.Prelude.{ℕ, nat_eq, Bool, List, [], ◌∷◌, ◌++◌, ⊤, Result, Ok}
use Rattle.std.specs.Cmp.Lexicographic.{pointwise}
use Rattle.comp_lists.specs.Tables.{with_first}
use Rattle.core_sections.specs.Sections.{preamble, pieces_of}
use Rattle.core_sections.specs.Stripping.{kept, removed}
use Rattle.package_lower.specs.declared.fault.Failure.{Failure}
use Rattle.package_lower.specs.Faults.{◌>>=◌, lifted}

unfoldable pub divided : List ℕ → Result (List ℕ × List (List ℕ)) Failure
divided bytes = lifted (pieces_of bytes) >>= λ ps. Ok (preamble ++ kept ps, removed ps)

abbrev pub same_text : List ℕ → List ℕ → Bool
same_text a b = pointwise nat_eq a b

-- these texts after those of a table, equal ones once
abbrev pub once_after : List (List ℕ × ⊤) → List (List ℕ) → List (List ℕ × ⊤)
once_after table [] = table
once_after table (t ∷ ts) = once_after (with_first same_text table t tt) ts
