use Rattle.root_imports.proofs.OfTables.{met_resource_found}
use Rattle.root_imports.proofs.own_resources.met_index.Goals as goal

pub returns : goal.returns
returns c = λ w met instances ds ok r at_hand tables. met_resource_found w met instances ds c.args.maps.now c.args.id c.type_index.result ok r at_hand tables c.type_index.ensures
