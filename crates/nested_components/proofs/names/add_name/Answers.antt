use Rattle.nested_terms.specs.Naming.{plain_import_name}
use Rattle.nested_components.proofs.Naming.{free_absent, adds_name}
use Rattle.nested_components.proofs.names.add_name.Goals as goal

pub insert-requires : goal.insert-requires
insert-requires c = free_absent c.args.taken.now c.in_ok-plain.plain c.in_ok-name.name c.in_ok-name.ensures

pub returns-clause-added : goal.returns-clause-added
returns-clause-added c =
    adds_name c.insert.result c.args.taken.now c.args.names.now c.push.new.self c.in_ok-plain.plain (plain_import_name c.args.function.now) c.in_ok-name.name c.in_ok-clone.field-0
    c.requires.same c.in_ok-plain.ensures c.in_ok-name.ensures c.in_ok-clone.ensures c.in_ok-push.ensures.ok
