use Rattle.std.proofs.Common.{◌≡◌, get_or, false, filter, map}
use Rattle.wit_data.specs.Live.{named_types, live_types}
use Rattle.wit_data.proofs.Marking.{if_ok, live_named}
use Rattle.wit_data.proofs.resolve.Resolve.live_types.Goals as goal

pub returns : goal.returns
returns c =
    let r = c.args.self.now in
    let marks = c.in_ok-marks.marks.items in
    let seen = c.as_slice-2.result.now in
    let interfaces = c.as_slice-3.result.now in
    let d = c.index-as_slice-id.result in
    if_ok (λ v. v.items ≡ filter (λ i. get_or seen i.index false) (map (λ e. e.1) (get_or interfaces c.args.id.index d).types)) (λ v. v.items ≡ live_types r.types c.args.given.now (named_types r c.args.id)) c.marked_of.result (λ v is. live_named r c.args.id c.as_slice.result.now interfaces c.args.given.now marks seen d v.items c.as_slice.ensures c.as_slice-3.ensures c.as_slice-2.ensures.value c.requires.present c.in_ok-marks.ensures is) c.marked_of.ensures
