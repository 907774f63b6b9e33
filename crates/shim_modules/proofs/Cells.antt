-- What is written for the functions of a cell, entry by entry.
use Rattle.std.proofs.Common.{◌≡◌, ℕ, ◌+◌, Option, Some, None, true, List, [], ◌∷◌, ◌++◌, ap, ◌∙◌}
use Rattle.std.specs.Option.{is_some}
use Rattle.std.proofs.lemmas.List.{append_assoc}
use Rattle.standard_kinds.specs.declared.kinds.ExportKind.TheVariants as kinds
use Rattle.core_bytes.specs.declared.entry.Export.{Export}
use Rattle.core_bytes.specs.declared.entry.Naming.{Naming}
use Rattle.shim_modules.specs.declared.shims.ThreadCell.{ThreadCell}
use Rattle.shim_modules.specs.Shims.{getter_name, setter_name, cell_exports, cell_names}

pub exported : (old one two : List Export) (count : ℕ) (cell : Option ThreadCell) → is_some cell ≡ true
    → one ≡ old ++ record { name = getter_name; kind = kinds.Func; index = count } ∷ []
    → two ≡ one ++ record { name = setter_name; kind = kinds.Func; index = count + 1 } ∷ []
    → two ≡ old ++ cell_exports count cell
exported old one two count None has first second = absurd cc
exported old one two count (Some c) has first second =
    second ∙ ap (λ (es : List Export). es ++ record { name = setter_name; kind = kinds.Func; index = count + 1 } ∷ []) first ∙ append_assoc old _ _

pub named : (old one two : List Naming) (count : ℕ) (cell : Option ThreadCell) → is_some cell ≡ true
    → one ≡ old ++ record { index = count; name = getter_name } ∷ []
    → two ≡ one ++ record { index = count + 1; name = setter_name } ∷ []
    → two ≡ old ++ cell_names count cell
named old one two count None has first second = absurd cc
named old one two count (Some c) has first second =
    second ∙ ap (λ (ns : List Naming). ns ++ record { index = count + 1; name = setter_name } ∷ []) first ∙ append_assoc old _ _
