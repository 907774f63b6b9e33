use Rattle.std.specs.List.{flat_map}
use Rattle.std.specs.Prelude.{◌∷◌}
use Rattle.comp_bytes.specs.ScopeNames.{item_import, item_export, item_names}
use Rattle.comp_names.specs.Names.{item_extern_names}
use Rattle.comp_names.proofs.Judging.{and_rest}
use Rattle.comp_names.proofs.checking.nested.Goals as goal

pub returns : goal.returns
returns c =
    let lists = flat_map item_names c.args.inner.now in
    let externs = flat_map item_extern_names c.args.inner.now in
    let exports = flat_map item_export c.args.inner.now in
    and_rest (flat_map item_import c.args.inner.now) (exports ∷ lists) externs c.each.result c.in_ok-apart.ensures (and_rest exports lists externs c.each.result c.in_ok-apart-2.ensures c.each.ensures)
