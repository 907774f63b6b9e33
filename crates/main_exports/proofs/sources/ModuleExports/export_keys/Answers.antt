use Rattle.std.proofs.Common.{◌≡◌, arith, subst, sym, Some, []}
use Rattle.std.specs.Prelude.{length}
use Rattle.std.specs.List.{AllByRecursion, slice_get}
use Rattle.comp_imports.specs.Names.{naming_of}
use Rattle.comp_links.specs.Lists.{required_keys}
use Rattle.comp_terms.specs.Exports.{exports_in}
use Rattle.comp_terms.specs.Rules.{Grows}
use Rattle.comp_worlds.specs.Worlds.{IsRequired}
use Rattle.core_options.specs.Causes.{IsCause, IsCauseAmong, IsEncodedExport}
use Rattle.core_options.specs.MainOptions.{HasLiftOptions}
use Rattle.core_options.proofs.OptionTerms.{refused_with}
use Rattle.root_imports.specs.Keeping.{RootMoved}
use Rattle.main_exports.specs.Exports.{exporter, key_for, AreExports, AreExportsAtHand, functions_of_key, key_marked}
use Rattle.main_exports.proofs.Exporting.{exports_start, exports_step, exports_done, next_exported, key_required, export_refused}
use Rattle.root_imports.proofs.Keeping.{kept_none, moved_kept, moved_then}
use Rattle.main_exports.proofs.Growth.{exports-moved}
use Rattle.main_exports.proofs.sources.ModuleExports.export_keys.Goals as goal

pub loop-key-init : goal.loop-key-init
loop-key-init c =
    let w = c.args.root.now.world.now in
    let root = c.args.root.now in
    (exports_start (naming_of c.args.self.now.names) w (exporter c.args.self.now) root (moved_kept w root root (kept_none w root c.requires.exports.tables)), c.requires.at_hand)

pub export_item-requires-clause-exports : goal.export_item-requires-clause-exports
export_item-requires-clause-exports c =
    let h = c.loop-key.invariant.0 in
    subst (λ x. AreExports x.now c.args.self.now c.loop-key.root) (sym h.moved.world) (exports-moved c.args.root.now.world.now c.args.self.now c.args.root.now c.loop-key.root h.moved c.requires.exports)

pub export_item-requires-clause-next : goal.export_item-requires-clause-next
export_item-requires-clause-next c =
    let w = c.args.root.now.world.now in
    let e = c.args.self.now in
    let h = c.loop-key.invariant.0 in
    let key = c.key-item.result in
    subst (λ x. slice_get (required_keys x.now) (exports_in c.loop-key.root.items.defs) ≡ Some (key_for (exporter e) key)) (sym h.moved.world)
    (next_exported (naming_of e.names) w (exporter e) e.user.found.now c.args.root.now c.loop-key.root c.args.keys.now c.loop-key.key-index key c.requires.next c.loop-key-test.true c.key-item.is h)

pub export_item-requires-clause-required : goal.export_item-requires-clause-required
export_item-requires-clause-required c =
    let w = c.args.root.now.world.now in
    let e = c.args.self.now in
    let key = c.key-item.result in
    subst (λ x. IsRequired x.now e.user.found.now key) (sym c.loop-key.invariant.0.moved.world)
    (key_required w (exporter e) e.user.found.now (exports_in c.args.root.now.items.defs) c.args.keys.now c.loop-key.key-index key c.requires.next c.loop-key-test.true c.key-item.is)

pub export_item-requires-clause-at_hand : goal.export_item-requires-clause-at_hand
export_item-requires-clause-at_hand c = subst (λ x. AreExportsAtHand x.now c.loop-key.root.met (exports_in c.loop-key.root.items.defs)) (sym c.loop-key.invariant.0.moved.world) c.loop-key.invariant.1

pub returns-in_err-export_item-clause-cause : goal.returns-in_err-export_item-clause-cause
returns-in_err-export_item-clause-cause c =
    let w = c.args.root.now.world.now in
    let m = c.args.self.now in
    let h = c.loop-key.invariant.0 in
    let key = c.key-item.result in
    let e = c.in_err-export_item.field-0.0 in
    let next = next_exported (naming_of m.names) w (exporter m) m.user.found.now c.args.root.now c.loop-key.root c.args.keys.now c.loop-key.key-index key c.requires.next c.loop-key-test.true c.key-item.is h in
    refused_with c.from_residual.result e (IsCause w) c.from_residual.ensures.1
    (export_refused w (exporter m) (exports_in c.loop-key.root.items.defs) key next e (subst (λ x. IsCauseAmong x.now [] (functions_of_key x.now (exporter m) key) e) h.moved.world c.in_err-export_item.ensures.cause))

pub loop-key-preserved : goal.loop-key-preserved
loop-key-preserved c =
    let n = naming_of c.args.self.now.names in
    let w = c.args.root.now.world.now in
    let of = exporter c.args.self.now in
    let mid = c.loop-key.root in
    let new = c.export_item.new.root in
    let key = c.key-item.result in
    let h = c.loop-key.invariant.0 in
    let got = c.in_ok-export_item.ensures in (
      exports_step n w of c.args.root.now mid new c.args.keys.now c.loop-key.key-index key h c.loop-key-test.true c.key-item.is (subst (λ x. RootMoved x.now mid new) h.moved.world got.moved)
          (subst (λ x. Grows x.now mid.items.defs new.items.defs (key_marked n x.now of key)) h.moved.world got.grows) (subst (λ x. AllByRecursion (IsEncodedExport x.now) (functions_of_key x.now of key)) h.moved.world got.encoded)
          (subst (λ x. AllByRecursion (HasLiftOptions x.now) (functions_of_key x.now of key)) h.moved.world got.has),
      subst (λ x. AreExportsAtHand x.now new.met (exports_in new.items.defs)) h.moved.world got.at_hand,
    )

pub returns-clause-exported : goal.returns-clause-exported
returns-clause-exported c =
    let w = c.args.root.now.world.now in
    let i = c.loop-key.key-index in
    let whole : length c.args.keys.now ≡ i = omega arith in
    exports_done (naming_of c.args.self.now.names) w (exporter c.args.self.now) c.args.root.now c.loop-key.root c.args.keys.now i whole c.loop-key.invariant.0

pub returns-in_err-export_item-clause-at_hand : goal.returns-in_err-export_item-clause-at_hand
returns-in_err-export_item-clause-at_hand c =
    let new = c.export_item.new.root in
    subst (λ x. AreExportsAtHand x.now new.met (exports_in new.items.defs)) c.loop-key.invariant.0.moved.world c.in_err-export_item.ensures.at_hand

pub returns-in_err-export_item-clause-moved : goal.returns-in_err-export_item-clause-moved
returns-in_err-export_item-clause-moved c =
    let mid = c.loop-key.root in
    let new = c.export_item.new.root in
    let h = c.loop-key.invariant.0 in
    moved_then c.args.root.now.world.now c.args.root.now mid new h.moved (subst (λ x. RootMoved x.now mid new) h.moved.world c.in_err-export_item.ensures.moved)
