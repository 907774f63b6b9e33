use Rattle.std.proofs.Common.{◌≡◌, ◌++◌, subst}
use Rattle.std.specs.Prelude.{OnOk}
use Rattle.std.specs.List.{flat_map}
use Rattle.world_warnings.specs.Worlds.{interface_warnings}
use Rattle.world_warnings.proofs.worlds.add_all_interfaces.Goals as goal

pub returns : goal.returns
returns c =
    subst (λ path. OnOk c.add_interfaces.result (c.add_interfaces.new.warnings ≡ c.args.warnings.now ++ flat_map (interface_warnings c.args.facts.now path) c.args.wit.now.interfaces))
    c.in_ok-at.ensures
    c.add_interfaces.ensures
