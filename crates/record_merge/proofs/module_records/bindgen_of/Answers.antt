use Rattle.std.proofs.Common.{rules, ◌≡◌, Ok}
use Rattle.std.specs.Prelude.{IfErr}
use Rattle.record_merge.specs.Said.{no_wit}
use Rattle.record_merge.specs.ModuleRecords.{worlds_after}
use Rattle.record_merge.specs.Causes.{Named, Unless, RecordsConflict}
use Rattle.record_merge.proofs.Agreeing.{world_tests}
use Rattle.record_merge.proofs.Bindgens.{roles_caused, if_reported, err_so, no_conflicts}
use Rattle.record_merge.proofs.module_records.bindgen_of.Goals as goal

pub returns-in_err-roles-clause-cause : goal.returns-in_err-roles-clause-cause
returns-in_err-roles-clause-cause c =
    let cause : Unless (Named (RecordsConflict c.args.records)) c.in_err-roles.field-0.0 = roles_caused c.args.records c.in_err-roles.field-0.0 c.in_err-roles.ensures in
    let base : IfErr c.from_residual-in_err-roles.result (Unless (Named (RecordsConflict c.args.records))) =
    err_so (Unless (Named (RecordsConflict c.args.records))) c.in_err-roles.field-0.0 c.from_residual-in_err-roles.result c.from_residual-in_err-roles.ensures.1 cause in
    if_reported (RecordsConflict c.args.records) c.from_residual-in_err-roles.result base

pub returns-clause-refused : goal.returns-clause-refused
returns-clause-refused c ok name clash =
    let exact : worlds_after world_tests no_wit c.args.records ≡ Ok c.in_ok-wit.wit = search rules in
    no_conflicts c.args.records c.in_ok-wit.wit c.in_ok-roles.roles exact c.in_ok-roles.ensures name clash
