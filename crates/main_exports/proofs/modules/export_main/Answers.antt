use Rattle.std.proofs.Common.{refl, sym, subst, List}
use Rattle.wit_data.specs.declared.worlds.WorldKey.{WorldKey}
use Rattle.comp_links.specs.Targets.{Main}
use Rattle.comp_terms.specs.Exports.{exports_in}
use Rattle.main_exports.specs.Exports.{AreNextKeys}
use Rattle.main_exports.proofs.Adapters.{main_instance, main_next}
use Rattle.main_exports.proofs.modules.export_main.Goals as goal

pub export_module-requires-clause-user : goal.export_module-requires-clause-user
export_module-requires-clause-user c = main_instance c.args.root.now.world.now c.args.root.now.items.defs _ refl refl c.requires.made.main

pub export_module-requires-clause-next : goal.export_module-requires-clause-next
export_module-requires-clause-next c =
    let w = c.args.root.now.world.now in
    let first = exports_in c.args.root.now.items.defs in
    subst (λ (keys : List WorldKey). AreNextKeys w Main w.main first keys) (sym c.as_slice.ensures) (main_next w c.requires.ready.valid.valid first c.requires.none)
