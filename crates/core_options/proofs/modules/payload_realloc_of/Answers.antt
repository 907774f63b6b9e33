use Rattle.std.proofs.Common.{◌≡◌, ◌∙◌, ap, sym, subst, IfSome, Option}
use Rattle.std.specs.Option.{option_map}
use Rattle.comp_links.specs.Links.{export_at}
use Rattle.comp_roles.specs.Reallocs.{is_realloc_of, realloc_for}
use Rattle.comp_worlds.specs.Lookups.{module_name, resolved_realloc, lent_export}
use Rattle.core_options.specs.MainOptions.{IsInstanceExport, export_ref_of}
use Rattle.core_options.specs.declared.modules.InstanceExport.{InstanceExport}
use Rattle.core_options.proofs.Reallocs.{placed_same, realloc_named, payload_made}
use Rattle.core_options.proofs.modules.payload_realloc_of.Goals as goal

pub returns-clause-same : goal.returns-clause-same
returns-clause-same c =
    let w = c.args.world.now in
    let of = c.args.which in
    let found : lent_export c.resolve_realloc-found.result ≡ resolved_realloc w (module_name of) (realloc_for (is_realloc_of c.args.imported) c.args.validated.now.exports.exports) =
    c.resolve_realloc-found.ensures ∙ ap (resolved_realloc w (module_name of)) c.payload_realloc-own.ensures in
    ap (option_map export_ref_of) c.found_export.ensures ∙ (placed_same c.args.main c.args.instance c.resolve_realloc-found.result ∙ (ap (option_map export_at) found ∙ sym (realloc_named w of c.args.validated.now (is_realloc_of c.args.imported) c.requires.named)))

pub returns-clause-made : goal.returns-clause-made
returns-clause-made c ds number made_main made listed =
    let w = c.args.world.now in
    let of = c.args.which in
    let found : lent_export c.resolve_realloc-found.result ≡ resolved_realloc w (module_name of) (realloc_for (is_realloc_of c.args.imported) c.args.validated.now.exports.exports) =
    c.resolve_realloc-found.ensures ∙ ap (resolved_realloc w (module_name of)) c.payload_realloc-own.ensures in
    subst (λ (o : Option InstanceExport). IfSome o (IsInstanceExport w ds)) (sym c.found_export.ensures)
    (payload_made w c.requires.valid.valid of c.args.validated.now c.requires.named ds c.args.main c.args.instance number made_main made listed c.resolve_realloc-found.result c.args.imported found)
