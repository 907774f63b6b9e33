use Rattle.std.proofs.Common.{rules, ◌≡◌, false}
use Rattle.std.specs.Map.{lookup}
use Rattle.wit_data.specs.contracts.ids.InterfaceIdPartialEq.TheImpl as same_id
use Rattle.root_imports.specs.Met.{has_instance}
use Rattle.root_imports.proofs.NeededNames.{needed_named}
use Rattle.root_imports.proofs.ExportedTypes.{is_there}
use Rattle.root_imports.proofs.Meeting.{may_parts, needed_only}
use Rattle.root_imports.proofs.root_scope.RootScopeValtypeEncoder.import_type.Goals as goal

pub alias_exported_type-requires-clause-named : goal.alias_exported_type-requires-clause-named
alias_exported_type-requires-clause-named g c =
    let w = g.W.HasWorld.world c.args.self.now.world.now in
    may_parts w c.args.self.now.met c.args.interface c.args.id (c.requires.offers.imports.named c.args.interface c.args.id) c.requires.may

pub alias_type-requires-clause-needed : goal.alias_type-requires-clause-needed
alias_type-requires-clause-needed g c =
    let w = g.W.HasWorld.world c.args.self.now.world.now in
    let none : has_instance c.args.self.now.met c.args.interface ≡ false = search rules in
    needed_only w c.args.self.now.met c.args.interface c.args.id none c.requires.may

pub alias_type-requires-clause-found : goal.alias_type-requires-clause-found
alias_type-requires-clause-found g c =
    let k = c.requires.offers.imports in
    let w = g.W.HasWorld.world c.args.self.now.world.now in
    let none : has_instance c.args.self.now.met c.args.interface ≡ false = search rules in
    let needed = needed_only w c.args.self.now.met c.args.interface c.args.id none c.requires.may in
    is_there (lookup (same_id.eq-value.it c.args.interface) c.args.self.now.instances) (k.needed.each c.args.interface (k.imported c.args.interface c.args.id needed) (needed_named w c.args.interface c.args.id.index needed))

pub returns-then-has_instance-clause-makes : goal.returns-then-has_instance-clause-makes
unfolding Rattle.wit_types.specs.Settings.tree_in
returns-then-has_instance-clause-makes g c = c.alias_exported_type.ensures.makes

pub returns-else-has_instance-clause-makes : goal.returns-else-has_instance-clause-makes
unfolding Rattle.wit_types.specs.Settings.tree_in
returns-else-has_instance-clause-makes g c = c.alias_type.ensures.makes
