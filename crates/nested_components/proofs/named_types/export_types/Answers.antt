use Rattle.std.proofs.Common.{◌≡◌, ◌∙◌, ℕ, true, List, sym, subst}
use Rattle.wit_data.specs.declared.ids.TypeId.{TypeId}
use Rattle.wit_data.specs.Values.{kind_at}
use Rattle.type_scopes.specs.Titles.{is_one_of}
use Rattle.nested_components.specs.Foreign.{HasParts}
use Rattle.nested_components.specs.Resources.{AreResourcesImported}
use Rattle.nested_components.specs.Types.{listed_ids}
use Rattle.nested_components.specs.Homes.{Home, IsNextOf, AreAllPassed, nested_setting}
use Rattle.nested_components.proofs.AllTypes.{AreTypesTo, comes_next, next_listed, next_parts, types_more, types_all, all_passed, exports_as}
use Rattle.nested_components.proofs.Keeping.{exported_longer}
use Rattle.nested_components.proofs.OwnResources.{resources_kept}
use Rattle.nested_components.proofs.named_types.export_types.Goals as goal

pub export_next-requires-clause-listed : goal.export_next-requires-clause-listed
export_next-requires-clause-listed g c =
    let given = g.P.Placement.given in
    let origin = g.P.Placement.origin in
    let e = c.args.encoder.now in
    let now = c.loop-name.encoder in
    let t : List ℕ × TypeId = (c.in-Some.name.now, c.in-Some.id.now) in
    let i = c.loop-name.invariant.2 in
    subst (λ (h : Home). is_one_of (listed_ids h.named) t.1.index ≡ true) (sym i.home)
    (next_listed given origin e.home e.contents now.contents now.stage t c.next.new.self (subst (λ (es : List (List ℕ × TypeId)). AreTypesTo given origin e.home e.contents now.contents now.stage es) c.in-Some.ensures.steps i.so_far))

pub export_next-requires-clause-parts : goal.export_next-requires-clause-parts
export_next-requires-clause-parts g c =
    let given = g.P.Placement.given in
    let origin = g.P.Placement.origin in
    let e = c.args.encoder.now in
    let now = c.loop-name.encoder in
    let t : List ℕ × TypeId = (c.in-Some.name.now, c.in-Some.id.now) in
    let i = c.loop-name.invariant.2 in
    subst (λ (h : Home). HasParts (nested_setting origin h now.stage) (kind_at c.args.resolve.now.types t.1.index)) (sym i.home)
    (next_parts given origin e.home e.contents now.contents now.stage t c.next.new.self
    (subst (λ (es : List (List ℕ × TypeId)). AreTypesTo given origin e.home e.contents now.contents now.stage es) c.in-Some.ensures.steps i.so_far) c.args.resolve.now.types c.requires.same c.requires.sound.back)

pub export_next-requires-clause-next : goal.export_next-requires-clause-next
export_next-requires-clause-next g c =
    let given = g.P.Placement.given in
    let origin = g.P.Placement.origin in
    let e = c.args.encoder.now in
    let now = c.loop-name.encoder in
    let t : List ℕ × TypeId = (c.in-Some.name.now, c.in-Some.id.now) in
    let i = c.loop-name.invariant.2 in
    subst (λ (h : Home). IsNextOf h now.stage t.1) (sym i.home)
    (comes_next given origin e.home e.contents now.contents now.stage t c.next.new.self (subst (λ (es : List (List ℕ × TypeId)). AreTypesTo given origin e.home e.contents now.contents now.stage es) c.in-Some.ensures.steps i.so_far))

pub loop-name-preserved : goal.loop-name-preserved
loop-name-preserved g c =
    let given = g.P.Placement.given in
    let origin = g.P.Placement.origin in
    let e = c.args.encoder.now in
    let old = c.loop-name.encoder in
    let new = c.export_next.new.encoder in
    let t : List ℕ × TypeId = (c.in-Some.name.now, c.in-Some.id.now) in
    let i = c.loop-name.invariant.2 in
    let of = c.in_ok-export_next.ensures in (
      tt,
      tt,
      record {
        so_far = types_more given origin e.home e.contents old.contents old.stage t c.next.new.self
            (subst (λ (es : List (List ℕ × TypeId)). AreTypesTo given origin e.home e.contents old.contents old.stage es) c.in-Some.ensures.steps i.so_far) new.contents new.stage of.stage
            (exports_as given origin e.home old.home old.contents new.contents t i.home of.exports);
        home = of.home ∙ i.home;
        imported = subst (λ (h : Home). AreResourcesImported given origin h new.contents.items c.args.imported.now) (sym of.home)
            (resources_kept given origin old.home old.contents.items new.contents.items c.args.imported.now (exported_longer given old.contents new.contents _ _ of.exports) i.imported);
        right = of.right;
      },
    )

pub returns-clause-exports : goal.returns-clause-exports
returns-clause-exports g c =
    let given = g.P.Placement.given in
    let origin = g.P.Placement.origin in
    let e = c.args.encoder.now in
    let now = c.loop-name.encoder in
    types_all given origin e.home e.contents now.contents now.stage
    (subst (λ (es : List (List ℕ × TypeId)). AreTypesTo given origin e.home e.contents now.contents now.stage es) c.in-None.ensures.steps.0 c.loop-name.invariant.2.so_far)

pub returns-clause-passed : goal.returns-clause-passed
returns-clause-passed g c =
    let given = g.P.Placement.given in
    let origin = g.P.Placement.origin in
    let e = c.args.encoder.now in
    let now = c.loop-name.encoder in
    let i = c.loop-name.invariant.2 in
    subst (λ (h : Home). AreAllPassed h now.stage) (sym i.home)
    (all_passed given origin e.home e.contents now.contents now.stage
    (subst (λ (es : List (List ℕ × TypeId)). AreTypesTo given origin e.home e.contents now.contents now.stage es) c.in-None.ensures.steps.0 i.so_far))
