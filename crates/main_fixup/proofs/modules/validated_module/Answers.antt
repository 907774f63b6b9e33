use Rattle.std.proofs.Common.{rules, subst, IsSome}
use Rattle.comp_lists.specs.Found.{found}
use Rattle.comp_links.specs.Links.{module_of}
use Rattle.comp_roles.specs.declared.libraries.MainOrAdapter.{MainOrAdapter}
use Rattle.main_fixup.specs.Filling.{IsUserNamed}
use Rattle.main_fixup.proofs.Named.{adapter_found}
use Rattle.main_fixup.proofs.modules.validated_module.Goals as goal

pub unwrap-requires : goal.unwrap-requires
unwrap-requires c =
    let w = c.args.world.now in
    let name = c.in-Adapter.name in
    let there : IsSome (found name w.adapters) = adapter_found w name (subst (λ (which : MainOrAdapter). IsUserNamed w (module_of which)) c.in-Adapter.is c.requires) in
    search rules
