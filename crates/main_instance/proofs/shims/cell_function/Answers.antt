use Rattle.std.proofs.Common.{◌≡◌, Some, subst, rules}
use Rattle.comp_terms.proofs.HasShims.{has_by_cell}
use Rattle.comp_terms.specs.Generated.{shims_number}
use Rattle.comp_terms.specs.Terms.{IsInstanceOf}
use Rattle.main_instance.specs.Sources.{IsShimInstance}
use Rattle.main_instance.proofs.Instantiating.{cell_alias_grows, instance_there}
use Rattle.main_instance.proofs.shims.cell_function.Goals as goal

pub unwrap-instance-requires : goal.unwrap-instance-requires
unwrap-instance-requires c = let w = c.args.root.now.world.now in instance_there w c.args.root.now.items.defs c.args.shim_instance c.requires.made (has_by_cell w c.requires.there)

made : (c : goal.In_ok-index) → IsInstanceOf c.args.root.now.items.defs c.unwrap-instance.result (shims_number c.args.root.now.world.now)
made c = let known : c.args.shim_instance ≡ Some c.unwrap-instance.result = search rules in subst (IsShimInstance c.args.root.now.world.now c.args.root.now.items.defs) known c.requires.made

pub returns-clause-grows : goal.returns-clause-grows
returns-clause-grows c =
    cell_alias_grows c.args.root.now.world.now c.args.root.now.items.defs c.core_function.new.self.defs c.unwrap-instance.result c.args.name.now (made c) c.requires.there c.requires.named c.in_ok-index.ensures.adds

pub returns-clause-exported : goal.returns-clause-exported
returns-clause-exported c = c.in_ok-index.ensures.exported (shims_number c.args.root.now.world.now) (made c)
