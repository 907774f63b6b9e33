use Rattle.main_exports.proofs.arguments.type_argument.Goals as goal
use Rattle.root_imports.proofs.Keeping.{kept_none, kept_typed}

pub returns-in_err-name-clause-kept : goal.returns-in_err-name-clause-kept
returns-in_err-name-clause-kept c = kept_none c.args.root.now.world.now c.args.root.now c.requires.tables

pub returns-in_err-index-clause-kept : goal.returns-in_err-index-clause-kept
returns-in_err-index-clause-kept c =
    let e = c.in_err-index.ensures in kept_typed c.args.root.now.world.now c.args.root.now c.exported_type.new.self e.world e.met e.instances e.grows e.tables

pub returns-clause-kept : goal.returns-clause-kept
returns-clause-kept c =
    let e = c.in_ok-index.ensures in kept_typed c.args.root.now.world.now c.args.root.now c.exported_type.new.self e.world e.met e.instances e.grows e.tables
