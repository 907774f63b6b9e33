use Rattle.std.proofs.Common.{◌∙◌, List, ap, Some}
use Rattle.std.specs.List.{list_all}
use Rattle.wit_data.specs.declared.types.Type.{«Type» as Ty}
use Rattle.supported_worlds.specs.Homes.{is_at_home}
use Rattle.supported_worlds.proofs.placed.is_closed.Goals as goal

pub returns : goal.returns
returns c = c.are_at_home-closed.ensures ∙ ap (λ (ts : List Ty). list_all (λ t. is_at_home c.args.homes.now c.args.id (Some t)) ts) (c.as_slice.ensures.value ∙ c.in_ok-named.ensures.named)
