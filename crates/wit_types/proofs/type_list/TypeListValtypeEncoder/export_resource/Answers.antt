use Rattle.std.proofs.Common.{refl}
use Rattle.wit_types.specs.declared.type_list.ListedType.TheVariants as listed
use Rattle.wit_types.proofs.Listing.{added, exported_if}
use Rattle.wit_types.proofs.type_list.TypeListValtypeEncoder.export_resource.Goals as goal

pub returns-clause-makes : goal.returns-clause-makes
returns-clause-makes c = added c.args.self.now.resolve.now.types c.args.self.now.listed c.add.new.listed (listed.Resource c.args.name) c.add.result c.add.ensures.index c.add.ensures.ok c.add.ensures.err

pub returns-clause-names : goal.returns-clause-names
returns-clause-names c = exported_if c.args.self.now.listed c.add.new.listed (listed.Resource c.args.name) c.args.name.name c.add.result refl c.add.ensures.index c.add.ensures.ok
