use Rattle.std.proofs.Common.{◌+◌, List, [], sym, subst, take}
use Rattle.comp_bytes.specs.declared.def.Argument.{Argument}
use Rattle.comp_terms.specs.Rules.{Grows}
use Rattle.root_imports.specs.Keeping.{RootKept}
use Rattle.root_imports.proofs.Keeping.{kept_none}
use Rattle.main_exports.specs.Exports.{IsTypeArgument}
use Rattle.main_exports.proofs.TypeArguments.{TypesSoFar, types_start, types_step}
use Rattle.main_exports.proofs.arguments.type_arguments.Goals as goal

pub loop-import-init : goal.loop-import-init
loop-import-init c =
    let w = c.args.root.now.world.now in
    let root = c.args.root.now in
    subst (λ (l : List Argument). TypesSoFar w root root [] l) (sym c.new-arguments.ensures) (types_start w root (kept_none w root c.requires.tables))

pub loop-import-preserved : goal.loop-import-preserved
loop-import-preserved c =
    let w = c.args.root.now.world.now in
    let mid = c.loop-import.root in
    let new = c.type_argument.new.root in
    let h = c.loop-import.invariant in
    let f = c.in_ok-type_argument.ensures in
    let a = c.in_ok-type_argument.field-0 in
    subst (λ (l : List Argument). TypesSoFar w c.args.root.now new (take (c.loop-import.import-index + 1) c.args.imports.now) l) (sym c.in_ok-push.ensures.ok)
    (types_step w c.args.root.now mid new c.args.imports.now c.loop-import.import-index c.import-item.result c.loop-import.arguments a h c.loop-import-test.true c.import-item.is (subst (λ x. RootKept x.now mid new) h.kept.world f.kept)
    (subst (λ x. Grows x.now mid.items.defs new.items.defs []) h.kept.world f.grows) (subst (λ x. IsTypeArgument x.now new.items.defs c.import-item.result a) h.kept.world f.given))
