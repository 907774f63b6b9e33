use Rattle.std.proofs.Common.{◌∙◌, true≢false, List, get_or, ap, sym, is_some}
use Rattle.wit_data.specs.declared.types.TypeDef.{TypeDef}
use Rattle.wit_types.proofs.Owning.{name_there}
use Rattle.nested_components.proofs.plan.name_of.Goals as goal

pub unreachable-requires : goal.unreachable-requires
unreachable-requires c =
    let n = c.args.id.index in
    let at = ap (λ (ts : List TypeDef). (get_or ts n c.index-as_slice-id.result).name) c.as_slice.ensures ∙ name_there c.args.resolve.now.types n c.index-as_slice-id.result c.requires.present in
    absurd (true≢false (sym c.requires.named ∙ ap is_some (sym at ∙ c.in-None.is)))

pub returns : goal.returns
returns c =
    let n = c.args.id.index in
    let at = ap (λ (ts : List TypeDef). (get_or ts n c.index-as_slice-id.result).name) c.as_slice.ensures ∙ name_there c.args.resolve.now.types n c.index-as_slice-id.result c.requires.present in
    sym at ∙ c.in-Some.is
