use Rattle.root_imports.proofs.Passing.{resource_found}
use Rattle.root_imports.proofs.world_types.resource_index.Goals as goal

pub returns : goal.returns
returns c = λ w last instances ds ok r own passed tables. resource_found w last instances ds c.args.maps.now c.args.id c.type_index.result ok r own passed tables c.type_index.ensures
