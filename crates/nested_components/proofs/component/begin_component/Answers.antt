use Rattle.std.proofs.Common.{◌≡◌, ◌∙◌, ℕ, List, [], ap, sym, subst}
use Rattle.wit_data.specs.declared.ids.TypeId.{TypeId}
use Rattle.nested_components.specs.declared.contents.Contents.{Contents}
use Rattle.nested_components.specs.declared.stage.Stage.{Stage}
use Rattle.nested_components.specs.Foreign.{AreUsable}
use Rattle.nested_components.specs.Growing.{GrowsBy}
use Rattle.nested_components.specs.Homes.{Home, new_home, with_foreign}
use Rattle.nested_components.specs.Types.{imported_ids}
use Rattle.nested_components.proofs.component.begin_component.Goals as goal

pub import_foreign_types-requires-clause-usable : goal.import_foreign_types-requires-clause-usable
import_foreign_types-requires-clause-usable g c =
    let same = c.new-encoder.ensures.home ∙ c.new-home.ensures in
    subst (λ (x : Home). AreUsable g.P.Placement.given g.P.Placement.origin x c.args.foreign.now) (sym same) c.requires.usable

pub returns-clause-begun : goal.returns-clause-begun
returns-clause-begun g c =
    let given = g.P.Placement.given in
    let origin = g.P.Placement.origin in
    let n = c.new-encoder.result in
    let e = c.import_foreign_types.new.encoder in
    let of = c.in_ok-import_foreign_types.ensures in
    let named : List (List ℕ × TypeId) = c.args.types.now in
    let ts = c.args.foreign.now in
    let same : n.home ≡ new_home c.args.resolve.now.types c.args.interface named = c.new-encoder.ensures.home ∙ c.new-home.ensures in
    record {
      same = of.home ∙ ap (λ (x : Home). with_foreign x (imported_ids ts)) same;
      stage = of.stage ∙ c.new-encoder.ensures.stage;
      apart = c.requires.usable.apart;
      grows = subst (λ (q : Stage). GrowsBy given origin e.home q ts (record { items = []; taken = c.args.taken; types = [] }) e.contents []) (sym of.stage) (subst (λ (x : Contents). GrowsBy given origin e.home n.stage ts x e.contents []) c.new-encoder.ensures.contents of.grows);
      right = of.right;
    }
