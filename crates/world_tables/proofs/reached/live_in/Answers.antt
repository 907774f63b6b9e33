use Rattle.std.proofs.Common.{◌≡◌, ap, ◌∙◌, filter, map, get_or, false}
use Rattle.wit_data.specs.Live.{named_types}
use Rattle.wit_data.proofs.Marking.{if_ok}
use Rattle.world_tables.proofs.reached.live_in.Goals as goal

pub returns : goal.returns
returns c =
    let marks = c.args.marks.now in
    let named = named_types c.args.resolve.now c.args.id in
    let types = c.interface_of-interface.result.now.types in
    if_ok (λ v. v.items ≡ filter (λ t. get_or marks t.index false) (map (λ e. e.1) types)) (λ v. v.items ≡ filter (λ t. get_or marks t.index false) (map (λ e. e.1) named)) c.marked_of.result
    (λ v is. is ∙ ap (λ ns. filter (λ t. get_or marks t.index false) (map (λ e. e.1) ns)) c.interface_of-interface.ensures.types) c.marked_of.ensures
