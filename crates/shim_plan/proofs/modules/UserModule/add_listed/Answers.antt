use Rattle.comp_roles.specs.Borrowed.{core_import}
use Rattle.comp_roles.specs.CoreImports.{CoreImport}
use Rattle.shim_plan.specs.Encodings.{unencoded_import}
use Rattle.shim_plan.specs.Needed.{import_needs, HasOwnTypes}
use Rattle.shim_plan.proofs.Appending.{all_needed, exits, explains_here, none_lack, none_lacks, one_needed}
use Rattle.shim_plan.proofs.Returning.{one_holds}
use Rattle.shim_plan.proofs.modules.UserModule.add_listed.Goals as goal

pub returns-in_err-add_import-clause-cause : goal.returns-in_err-add_import-clause-cause
returns-in_err-add_import-clause-cause c =
    let places = unencoded_import c.args.self.now.world.now c.args.self.now.found.now in
    exits _ _ _ c.from_residual.ensures.1
    (explains_here core_import places c.args.imports.now c.loop-import.import-index c.import-item.result _ _ c.loop-import-test.true c.import-item.is c.loop-import.invariant.1 c.in_err-add_import.ensures.cause)

pub add_import-requires-clause-returned : goal.add_import-requires-clause-returned
add_import-requires-clause-returned c =
    let r = c.args.self.now.world.now.resolve in
    one_holds core_import (λ (i : CoreImport). HasOwnTypes r i.role) c.args.imports.now c.loop-import.import-index c.import-item.result c.loop-import-test.true c.import-item.is c.requires.returned

pub loop-import-preserved : goal.loop-import-preserved
loop-import-preserved c =
    let needs = import_needs c.args.self.now.world.now c.args.self.now.which.now c.args.self.now.found.now in
    let places = unencoded_import c.args.self.now.world.now c.args.self.now.found.now in
    let at = c.loop-import.import-index in (
      one_needed core_import needs c.args.imports.now at c.import-item.result _ _ _ c.loop-import-test.true c.import-item.is c.loop-import.invariant.0 c.in_ok-add_import.ensures.ok,
      none_lacks core_import places c.args.imports.now at c.import-item.result _ c.loop-import-test.true c.import-item.is c.loop-import.invariant.1 c.in_ok-add_import.ensures.encoded,
    )

pub returns-clause-ok : goal.returns-clause-ok
returns-clause-ok c =
    let needs = import_needs c.args.self.now.world.now c.args.self.now.which.now c.args.self.now.found.now in
    all_needed core_import needs c.args.imports.now c.loop-import.import-index _ _ c.loop-import-test.false c.loop-import.invariant.0

pub returns-clause-encoded : goal.returns-clause-encoded
returns-clause-encoded c =
    let places = unencoded_import c.args.self.now.world.now c.args.self.now.found.now in
    none_lack core_import places c.args.imports.now c.loop-import.import-index _ c.loop-import-test.false c.loop-import.invariant.1
