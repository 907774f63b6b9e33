use Rattle.std.proofs.Common.{refl}
use Rattle.wit_types.specs.declared.type_list.ListedType.TheVariants as listed
use Rattle.wit_types.proofs.Listing.{grows_by, denotes_new, exported_new}
use Rattle.wit_types.proofs.type_list.TypeListValtypeEncoder.export_type.Goals as goal

pub returns-clause-makes : goal.returns-clause-makes
returns-clause-makes c = (
  grows_by c.args.self.now.resolve.now.types c.args.self.now.listed c.add.new.listed (listed.Export c.args.name c.args.index) c.in_ok-add.ensures.ok,
  denotes_new c.args.self.now.resolve.now.types c.args.self.now.listed c.add.new.listed (listed.Export c.args.name c.args.index) c.in_ok-add.field-0 c.in_ok-add.ensures.index c.in_ok-add.ensures.ok,
)

pub returns-clause-names : goal.returns-clause-names
returns-clause-names c =
    exported_new c.args.self.now.listed c.add.new.listed (listed.Export c.args.name c.args.index) c.args.name.name c.in_ok-add.field-0 refl c.in_ok-add.ensures.index c.in_ok-add.ensures.ok
