use Rattle.std.proofs.Common.{◌∙◌, [], List, ap, sym, get_or}
use Rattle.std.specs.List.{flat_map}
use Rattle.wit_data.specs.declared.ids.TypeId.{TypeId}
use Rattle.wit_data.specs.declared.types.TypeDef.{TypeDef}
use Rattle.wit_data.specs.Values.{values}
use Rattle.type_scopes.specs.Foreign.{meeting, met_in_function, with_each}
use Rattle.type_scopes.specs.Interfaces.{used_among}
use Rattle.type_scopes.proofs.Meeting.{with_both}
use Rattle.type_scopes.proofs.other_interfaces.foreign_types.Goals as goal

pub returns : goal.returns
returns c =
    let types = c.args.resolve.now.types in
    let fs = flat_map (met_in_function types c.args.interface) (used_among c.args.used.now c.args.functions.now) in
    let ids = flat_map (λ (id : TypeId). get_or (values (meeting types c.args.interface) types) id.index []) c.args.types.now in
    let first = c.in_ok-meet_types.ensures.met
    ∙ ap (λ (ts : List TypeDef). with_each c.new-met.result.types (flat_map (λ (id : TypeId). get_or (values (meeting ts c.args.interface) ts) id.index []) c.args.types.now)) c.as_slice.ensures
    ∙ ap (λ t. with_each t ids) c.new-met.ensures.types in
    c.into_types.ensures ∙ (c.in_ok-meet_functions.ensures.met ∙ (ap (λ t. with_each t fs) first ∙ sym (with_both [] ids fs)))
