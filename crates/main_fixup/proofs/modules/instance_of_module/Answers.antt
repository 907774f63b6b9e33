use Rattle.std.proofs.Common.{subst}
use Rattle.comp_roles.specs.declared.libraries.MainOrAdapter.{MainOrAdapter}
use Rattle.comp_links.specs.Links.{module_of}
use Rattle.comp_links.specs.Modules.{IsModule}
use Rattle.main_fixup.proofs.Named.{main_made}
use Rattle.main_fixup.proofs.modules.instance_of_module.Goals as goal

pub returns-in-Main : goal.returns-in-Main
returns-in-Main c = λ number m.
    let w = c.args.root.now.world.now in
    main_made w c.args.root.now.items.defs c.args.sources.now.instances.now c.requires.sources.users number (subst (λ (which : MainOrAdapter). IsModule w number (module_of which)) c.in-Main.is m)
