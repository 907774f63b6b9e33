use Rattle.std.proofs.Common.{◌≡◌, ◌∙◌, refl, ap, sym, subst}
use Rattle.nested_components.specs.declared.stage.Stage.{Stage}
use Rattle.nested_components.specs.Homes.{IsExporting}
use Rattle.nested_components.proofs.OneFunction.{quiet}
use Rattle.nested_components.proofs.OneType.{export_denotes, tables_kept, export_grows}
use Rattle.nested_components.proofs.named_types.export_type.Goals as goal

pub record_type_index-requires-clause-faithful : goal.record_type_index-requires-clause-faithful
record_type_index-requires-clause-faithful g c =
    let e = c.args.encoder.now in
    let m = c.define_listed.new.encoder in
    let n = c.add_type_export.new.self in
    let is = c.in_ok-index-2.ensures.added in
    let of = c.in_ok-index.ensures in
    tables_kept g.P.Placement.given g.P.Placement.origin m.contents n.contents c.args.id c.in_ok-name.name c.in_ok-index.index e.home.types of.denotes (ap (λ x. x.contents) is)
    n.home m.home n.stage m.stage m.maps n.maps (sym (ap (λ x. x.home) is)) (sym (ap (λ x. x.stage) is)) (ap (λ x. x.maps) is) of.right

pub record_type_index-requires-clause-denotes : goal.record_type_index-requires-clause-denotes
record_type_index-requires-clause-denotes g c =
    let e = c.args.encoder.now in
    let m = c.define_listed.new.encoder in
    let n = c.add_type_export.new.self in
    let is = c.in_ok-index-2.ensures.added in
    let of = c.in_ok-index.ensures in
    export_denotes g.P.Placement.given g.P.Placement.origin m.contents n.contents c.args.id c.in_ok-name.name c.in_ok-index.index e.home.types of.denotes (ap (λ x. x.contents) is)
    n.home.types (ap (λ x. x.home.types) is ∙ ap (λ h. h.types) of.home) c.in_ok-index-2.index c.in_ok-index-2.ensures.index

pub returns-clause-exports : goal.returns-clause-exports
returns-clause-exports g c =
    let given = g.P.Placement.given in
    let origin = g.P.Placement.origin in
    let e = c.args.encoder.now in
    let m = c.define_listed.new.encoder in
    let n = c.add_type_export.new.self in
    let is = c.in_ok-index-2.ensures.added in
    let of = c.in_ok-index.ensures in
    let last = c.record_type_index.new.encoder.contents in
    let still : n.stage ≡ e.stage = ap (λ x. x.stage) is ∙ of.stage in
    export_grows given origin m.contents n.contents c.args.id c.in_ok-name.name c.in_ok-index.index e.home.types of.denotes (ap (λ x. x.contents) is)
    c.args.name.now c.in_ok-name.ensures e.home.types refl e.contents last (quiet given origin e.home e.stage e.contents m.contents c.requires.stage of.grows)
    (quiet given origin n.home n.stage n.contents last (subst (λ (q : Stage). IsExporting q) (sym still) c.requires.stage) c.in_ok-record_type_index.ensures.follows.2)
