use Rattle.std.proofs.Common.{◌≡◌, ◌∙◌, List, ap, sym, Some}
use Rattle.std.specs.List.{flat_map}
use Rattle.wit_data.specs.declared.types.TypeDef.{TypeDef}
use Rattle.wit_data.specs.declared.functions.Param.{Param}
use Rattle.type_scopes.specs.Foreign.{met_in, with_each}
use Rattle.type_scopes.proofs.Meeting.{with_both}
use Rattle.type_scopes.proofs.other_interfaces.meet_function.Goals as goal

pub returns-clause-met : goal.returns-clause-met
returns-clause-met c =
    let types : c.as_slice-types.result.now ≡ c.args.resolve.now.types = c.as_slice-types.ensures in
    let params : c.as_slice.result.now ≡ c.args.function.now.params = c.as_slice.ensures in
    let first = c.in_ok-meet_params.ensures.met
    ∙ ap (λ (ts : List TypeDef). with_each c.args.met.now.types (flat_map (λ (p : Param). met_in ts c.args.here (Some p.ty)) c.as_slice.result.now)) types
    ∙ ap (λ (ps : List Param). with_each c.args.met.now.types (flat_map (λ (p : Param). met_in c.args.resolve.now.types c.args.here (Some p.ty)) ps)) params in
    c.in_ok-meet_part.ensures.met
    ∙ ap (λ (ts : List TypeDef). with_each c.meet_params.new.met.types (met_in ts c.args.here c.args.function.now.result)) types
    ∙ ap (λ t. with_each t (met_in c.args.resolve.now.types c.args.here c.args.function.now.result)) first
    ∙ sym (with_both c.args.met.now.types (flat_map (λ (p : Param). met_in c.args.resolve.now.types c.args.here (Some p.ty)) c.args.function.now.params) (met_in c.args.resolve.now.types c.args.here c.args.function.now.result))
