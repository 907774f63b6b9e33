use Rattle.std.proofs.Common.{ℕ, List, sym, ap, ◌∙◌, arith}
use Rattle.std.specs.Prelude.{is_some}
use Rattle.comp_lists.specs.Found.{found}
use Rattle.comp_roles.specs.declared.imports.Import.{Import}
use Rattle.record_imports.proofs.Groups.{at_position, has_at}
use Rattle.record_imports.proofs.grouping.has_field.Goals as goal

pub index-requires : goal.index-requires
index-requires c = let b = at_position _ _ _ _ c.in-Some.ensures c.requires in omega (arith, b, c.args.grouping.now.groups.ok.0)

pub returns-in-Some : goal.returns-in-Some
returns-in-Some c =
    c.contains_key.ensures ∙ ap (λ (fs : List (List ℕ × Import)). is_some (found c.args.field.now fs)) (sym (has_at _ _ _ _ _ c.in-Some.ensures c.requires c.index.ensures))
