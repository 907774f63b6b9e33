use Rattle.std.proofs.Common.{◌≡◌, ◌∙◌, ap, subst, map, drop, List}
use Rattle.std.specs.Prelude.{IfOk, option_map}
use Rattle.core_sections.specs.Sections.{Piece, view}
use Rattle.core_bytes.specs.Renaming.{part_view, parts_in_front}
use Rattle.core_bytes.proofs.Positions.{map_drop}
use Rattle.core_bytes.proofs.renaming.names_parts.Goals as goal

pub returns : goal.returns
returns c =
    subst (λ (ps : List Piece). IfOk c.parts_in_front.result (λ o. option_map (λ v. map part_view v.items) o ≡ parts_in_front ps))
    (ap (map view) c.split_at.ensures.back ∙ map_drop view c.names_index.result c.args.sections.now ∙ ap (λ k. drop k (map view c.args.sections.now)) c.names_index.ensures.value) c.parts_in_front.ensures
