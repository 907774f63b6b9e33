use Rattle.std.proofs.Common.{◌≡◌, ◌∙◌, Some, ap, sym, subst}
use Rattle.comp_links.specs.Links.{realloc_of, module_of}
use Rattle.comp_links.specs.Modules.{module_found}
use Rattle.comp_links.specs.Targets.{UserModule as User}
use Rattle.comp_roles.specs.Reallocs.{is_realloc_of}
use Rattle.main_fixup.proofs.Named.{realloc_made}
use Rattle.main_fixup.proofs.modules.realloc_of_payload.Goals as goal

pub payload_realloc_of-requires-clause-named : goal.payload_realloc_of-requires-clause-named
payload_realloc_of-requires-clause-named c =
    subst (λ (u : User). module_found c.args.root.now.world.now u ≡ Some c.validated_module-validated.result.now) (sym c.custom_module-of.ensures) c.validated_module-validated.ensures

pub returns-clause-same : goal.returns-clause-same
returns-clause-same c = c.payload_realloc_of.ensures.same ∙ ap (λ (u : User). realloc_of c.args.root.now.world.now u (is_realloc_of c.args.imported)) c.custom_module-of.ensures

pub returns-clause-made : goal.returns-clause-made
returns-clause-made c =
    realloc_made c.args.root.now.world.now c.args.root.now.items.defs c.custom_module-of.result (module_of c.args.which.now) c.validated_module-validated.result.now c.args.sources.now.instances.now.main c.instance_of_module-instance.result c.payload_realloc_of.result
    c.custom_module-of.ensures c.validated_module-validated.ensures c.requires.sources.users.main c.instance_of_module-instance.ensures c.payload_realloc_of.ensures.made
