use Rattle.std.specs.List.{flat_map}
use Rattle.std.specs.Prelude.{◌∷◌}
use Rattle.comp_bytes.specs.ScopeNames.{def_import, def_export, def_names}
use Rattle.comp_names.specs.Names.{def_extern_names}
use Rattle.comp_names.proofs.Judging.{and_rest}
use Rattle.comp_names.proofs.names.component.Goals as goal

pub returns : goal.returns
returns c =
    let lists = flat_map def_names c.args.definitions.now in
    let externs = flat_map def_extern_names c.args.definitions.now in
    let exports = flat_map def_export c.args.definitions.now in
    and_rest (flat_map def_import c.args.definitions.now) (exports ∷ lists) externs c.each.result c.in_ok-apart.ensures (and_rest exports lists externs c.each.result c.in_ok-apart-2.ensures c.each.ensures)
