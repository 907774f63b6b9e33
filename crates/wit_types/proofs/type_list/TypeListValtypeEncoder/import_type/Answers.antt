use Rattle.wit_types.specs.declared.type_list.ListedType.TheVariants as listed
use Rattle.wit_types.proofs.Listing.{added}
use Rattle.wit_types.proofs.type_list.TypeListValtypeEncoder.import_type.Goals as goal

pub returns-clause-makes : goal.returns-clause-makes
returns-clause-makes c = added c.args.self.now.resolve.now.types c.args.self.now.listed c.add.new.listed (listed.Import c.args.interface c.args.id) c.add.result c.add.ensures.index c.add.ensures.ok c.add.ensures.err
