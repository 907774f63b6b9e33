use Rattle.std.proofs.Common.{sym, subst}
use Rattle.std.specs.List.{AllByRecursion}
use Rattle.root_imports.specs.Forgetting.{IsForgettable}
use Rattle.root_imports.proofs.ListedTypes.{export_forgettable}
use Rattle.root_imports.proofs.Passing.{tables_without}
use Rattle.root_imports.proofs.exported_types.RootScope+ComponentWorld.forget_exported_types.Goals as goal

pub forget_listed-requires-clause-forgettable : goal.forget_listed-requires-clause-forgettable
forget_listed-requires-clause-forgettable c =
    let s = c.args.self.now in
    subst (λ es. AllByRecursion (λ e. IsForgettable s.world.now c.leave.new.self e.1) es) (sym c.exported_types_of-types.ensures.types)
    (export_forgettable s.world.now c.requires.valid c.args.interface s.met c.leave.new.self c.requires.exported c.leave.ensures)

pub forget_listed-requires-clause-tables : goal.forget_listed-requires-clause-tables
forget_listed-requires-clause-tables c =
    let s = c.args.self.now in
    tables_without s.world.now s.met s.instances s.items.defs s.maps c.requires.tables c.args.interface c.leave.new.self c.leave.ensures
