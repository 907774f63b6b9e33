use Rattle.std.proofs.Common.{◌≡◌, ◌∙◌, [], refl, ap, sym, subst}
use Rattle.nested_components.specs.declared.stage.Stage.{Stage}
use Rattle.nested_components.specs.Growing.{Grows}
use Rattle.nested_components.specs.Homes.{Home}
use Rattle.nested_components.proofs.ForeignTypes.{foreign_import, import_denotes, import_tables, import_grows}
use Rattle.nested_components.proofs.foreign_imports.record_foreign_type.Goals as goal

pub record_type_index-requires-clause-faithful : goal.record_type_index-requires-clause-faithful
record_type_index-requires-clause-faithful g c =
    let e = c.args.encoder.now in
    let m = c.define_foreign_type.new.encoder in
    let n = c.add_type_import.new.self in
    let is = c.in_ok-index.ensures in
    let of = c.in_ok-equal.ensures in
    import_tables g.P.Placement.given g.P.Placement.origin m.contents n.contents c.args.import.now c.in_ok-equal.equal e.home.types of.bound is.imported
    n.home m.home n.stage m.stage m.maps n.maps (sym is.home) (sym is.stage) is.maps of.right

pub record_type_index-requires-clause-denotes : goal.record_type_index-requires-clause-denotes
record_type_index-requires-clause-denotes g c =
    let e = c.args.encoder.now in
    let m = c.define_foreign_type.new.encoder in
    let n = c.add_type_import.new.self in
    let is = c.in_ok-index.ensures in
    let of = c.in_ok-equal.ensures in
    import_denotes g.P.Placement.given g.P.Placement.origin m.contents n.contents c.args.import.now c.in_ok-equal.equal e.home.types of.bound is.imported
    n.home.types (ap (λ (h : Home). h.types) (is.home ∙ of.home)) c.in_ok-index.index is.index

pub returns-clause-grows : goal.returns-clause-grows
returns-clause-grows g c =
    let given = g.P.Placement.given in
    let origin = g.P.Placement.origin in
    let e = c.args.encoder.now in
    let m = c.define_foreign_type.new.encoder in
    let n = c.add_type_import.new.self in
    let t = c.args.import.now in
    let is = c.in_ok-index.ensures in
    let of = c.in_ok-equal.ensures in
    let last = c.record_type_index.new.encoder in
    let home : n.home ≡ e.home = is.home ∙ of.home in
    let stage : n.stage ≡ e.stage = is.stage ∙ of.stage in
    let behind = subst (λ (q : Stage). Grows given origin e.home q n.contents last.contents []) stage (subst (λ (h : Home). Grows given origin h n.stage n.contents last.contents []) home c.in_ok-record_type_index.ensures.follows.2) in
    import_grows given origin m.contents n.contents t c.in_ok-equal.equal e.home.types of.bound is.imported e.home e.stage refl c.requires.stage (foreign_import e.home t c.requires.named) e.contents last.contents of.grows behind
