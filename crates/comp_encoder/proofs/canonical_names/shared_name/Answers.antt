use Rattle.std.proofs.Common.{◌≡◌, ◌∙◌, is_some, false, subst, sym}
use Rattle.std.proofs.lemmas.Result.{IfOk-weaker}
use Rattle.wit_data.specs.declared.worlds.World.{World}
use Rattle.comp_encoder.specs.CanonicalNames.{Finds, canonical_names, items_at}
use Rattle.comp_encoder.proofs.MeetingNames.{finds_in, items_of_world}
use Rattle.comp_encoder.proofs.canonical_names.shared_name.Goals as goal

pub returns : goal.returns
returns c =
    let r = c.args.resolve.now in
    let same : c.index-as_slice-world.result ≡ items_at r c.args.world =
    c.index-as_slice-world.is ∙ items_of_world r c.args.world c.as_slice.result.now c.index-as_slice-world.result c.as_slice.ensures c.requires.present in
    let shared = c.in_ok-shared.shared in
    let none : is_some shared ≡ false = sym c.is_some.ensures ∙ c.if-is_some.false in
    IfOk-weaker c.shared_among-2.result _ _
    (λ o h. finds_in r c.args.world shared o none (subst (λ (w : World). Finds (canonical_names r w.imports) shared) same c.in_ok-shared.ensures) (subst (λ (w : World). Finds (canonical_names r w.exports) o) same h))
    c.shared_among-2.ensures
