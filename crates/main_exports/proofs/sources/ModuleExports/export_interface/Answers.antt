use Rattle.std.proofs.Common.{◌≡◌, ◌∙◌, ap, arith, suc, sym, subst}
use Rattle.comp_imports.specs.Names.{naming_of}
use Rattle.comp_terms.specs.Exports.{exports_in}
use Rattle.comp_worlds.specs.Encodable.{IsEncodable}
use Rattle.comp_worlds.specs.ExportOrder.{IsExportedAt}
use Rattle.interface_needs.specs.RootNeeds.{IsExportedInterface}
use Rattle.root_imports.specs.Interfaces.{ExportsListed}
use Rattle.root_imports.specs.Keeping.{Root, RootMoved}
use Rattle.root_imports.specs.RootScopes.{AreTablesRight}
use Rattle.root_imports.specs.declared.met_types.MetTypes.{MetTypes}
use Rattle.root_imports.proofs.Keeping.{moved_kept, moved_then}
use Rattle.comp_links.proofs.Keys.{key_at}
use Rattle.main_exports.specs.Exports.{exporter, key_for, AreExportsAtHand, ForgetsTypes}
use Rattle.main_exports.proofs.AtHand.{at_hand_after, at_hand_kept, supplied_at}
use Rattle.main_exports.proofs.Exporting.{exports_grow, one_marked}
use Rattle.main_exports.proofs.sources.ModuleExports.export_interface.Goals as goal

pub export_instance-requires-clause-supplied : goal.export_instance-requires-clause-supplied
export_instance-requires-clause-supplied c =
    let w = c.args.root.now.world.now in
    supplied_at w c.requires.exports.valid c.args.root.now.met (exports_in c.args.root.now.items.defs) c.args.id c.requires.exports.ordered c.requires.at_hand (record { key = c.args.key.now; required = key_at w (exports_in c.args.root.now.items.defs) (key_for (exporter c.args.self.now) c.args.key.now) c.requires.next; item = c.requires.item })

pub enter_export-requires : goal.enter_export-requires
enter_export-requires c =
    let w = c.args.root.now.world.now in
    let kept = c.in_ok-instance.ensures.kept in
    let mid : Root = c.export_instance.new.root in
    record {
      valid = subst (λ x. IsEncodable x.now) (sym kept.world) c.requires.exports.valid;
      exports = subst (λ x. ExportsListed x.now mid.items.defs c.args.id c.in_ok-instance.instance) (sym kept.world) c.in_ok-instance.ensures.exports;
      tables = subst (λ x. AreTablesRight x.now mid.met mid.instances mid.items.defs mid.maps) (sym kept.world) (subst (λ l. AreTablesRight w l mid.instances mid.items.defs mid.maps) (sym kept.met) kept.tables);
    }

-- the root with the instance that was exported
entered : (old mid new : Root) → RootMoved old.world.now old mid → new ≡ record mid { met = record mid.met { exported = new.met.exported } } → AreTablesRight mid.world.now new.met mid.instances mid.items.defs mid.maps → RootMoved old.world.now old new
entered old mid new h same tables =
    let met = ap (λ (r : Root). r.met) same in
    moved_then old.world.now old mid new h
    (record {
      world = ap (λ (r : Root). r.world) same;
      last = ap (λ (m : MetTypes). m.last) met;
      instances = ap (λ (r : Root). r.instances) same;
      extends = subst (λ b. Rattle.comp_items.specs.Items.Extends mid.items b) (sym (ap (λ (r : Root). r.items) same)) (Rattle.comp_items.proofs.Extending.extends_none mid.items);
      tables =
          subst (λ es. AreTablesRight old.world.now new.met es new.items.defs new.maps) (sym (ap (λ (r : Root). r.instances) same))
          (subst (λ b. AreTablesRight old.world.now new.met mid.instances b.defs new.maps) (sym (ap (λ (r : Root). r.items) same))
          (subst (λ ms. AreTablesRight old.world.now new.met mid.instances mid.items.defs ms) (sym (ap (λ (r : Root). r.maps) same)) (subst (λ x. AreTablesRight x.now new.met mid.instances mid.items.defs mid.maps) h.world tables)));
    })

pub forget_exported_types-requires : goal.forget_exported_types-requires
forget_exported_types-requires c =
    let kept = c.in_ok-instance.ensures.kept in
    let old : Root = c.args.root.now in
    let mid : Root = c.export_instance.new.root in
    let next : Root = c.enter_export.new.self in
    let moved = entered old mid next (moved_kept old.world.now old mid kept) c.in_ok-enter_export.ensures.same c.in_ok-enter_export.ensures.tables in
    record {
      valid = subst (λ x. IsEncodable x.now) (sym moved.world) c.requires.exports.valid;
      exported = subst (λ x. IsExportedInterface x.now c.args.id) (sym moved.world) (record { key = c.args.key.now; of = c.requires.item });
      tables = subst (λ x. AreTablesRight x.now next.met next.instances next.items.defs next.maps) (sym moved.world) moved.tables;
    }

-- the root without its types
forgotten : (old mid new : Root) → RootMoved old.world.now old mid → new ≡ record mid { maps = new.maps; met = new.met } → new.met.last ≡ mid.met.last → AreTablesRight mid.world.now new.met mid.instances mid.items.defs new.maps → RootMoved old.world.now old new
forgotten old mid new h same last tables =
    Rattle.root_imports.proofs.Keeping.moved_tables old.world.now old mid new h same last (subst (λ x. AreTablesRight x.now new.met mid.instances mid.items.defs new.maps) h.world tables)

pub returns-in_err-instance-clause-moved : goal.returns-in_err-instance-clause-moved
returns-in_err-instance-clause-moved c = moved_kept c.args.root.now.world.now c.args.root.now c.export_instance.new.root c.in_err-instance.ensures.kept

pub returns-in_err-instance-clause-at_hand : goal.returns-in_err-instance-clause-at_hand
returns-in_err-instance-clause-at_hand c =
    let kept = c.in_err-instance.ensures.kept in
    at_hand_kept c.args.root.now.world.now c.args.root.now.items c.export_instance.new.root.items c.args.root.now.met c.export_instance.new.root.met kept.extends kept.met c.requires.at_hand

pub returns-in_err-enter_export-clause-moved : goal.returns-in_err-enter_export-clause-moved
returns-in_err-enter_export-clause-moved c =
    let old : Root = c.args.root.now in
    let mid : Root = c.export_instance.new.root in
    entered old mid c.enter_export.new.self (moved_kept old.world.now old mid c.in_ok-instance.ensures.kept) c.in_err-enter_export.ensures.same c.in_err-enter_export.ensures.tables

pub returns-clause-moved : goal.returns-clause-moved
returns-clause-moved c =
    let old : Root = c.args.root.now in
    let mid : Root = c.export_instance.new.root in
    let next : Root = c.enter_export.new.self in
    let moved = entered old mid next (moved_kept old.world.now old mid c.in_ok-instance.ensures.kept) c.in_ok-enter_export.ensures.same c.in_ok-enter_export.ensures.tables in
    let f = c.forget_exported_types.ensures in
    forgotten old next c.forget_exported_types.new.self moved f.same f.leaves.last f.tables

pub returns-clause-at_hand : goal.returns-clause-at_hand
returns-clause-at_hand c =
    let w = c.args.root.now.world.now in
    let old : Root = c.args.root.now in
    let mid : Root = c.export_instance.new.root in
    let next : Root = c.enter_export.new.self in
    let new : Root = c.forget_exported_types.new.self in
    let number = exports_in old.items.defs in
    let kept = c.in_ok-instance.ensures.kept in
    let e = c.in_ok-enter_export.ensures in
    let f = c.forget_exported_types.ensures in
    let at : IsExportedAt w number c.args.id = record { key = c.args.key.now; required = key_at w number (key_for (exporter c.args.self.now) c.args.key.now) c.requires.next; item = c.requires.item } in
    let met : next.met ≡ record old.met { exported = next.met.exported } = ap (λ (r : Root). r.met) e.same ∙ ap (λ (m : MetTypes). record m { exported = next.met.exported }) kept.met in
    let hand : AreExportsAtHand w new.met (suc number) =
    at_hand_after w c.requires.exports.valid old.met next.met new.met number c.args.id c.in_ok-instance.instance next.met.exported at met
    (e.entered ∙ ap (λ (m : MetTypes). Rattle.comp_lists.specs.Tables.with_first Rattle.wit_data.specs.contracts.ids.InterfaceIdPartialEq.TheImpl.eq-value.it m.exported c.args.id c.in_ok-instance.instance) kept.met) f.leaves c.requires.at_hand in
    let grown = exports_grow c.in_ok-instance.ensures.grows in
    let one = one_marked (naming_of c.args.self.now.names) w (exporter c.args.self.now) c.args.key.now in
    let items : new.items ≡ mid.items = ap (λ (r : Root). r.items) f.same ∙ ap (λ (r : Root). r.items) e.same in
    let count : suc number ≡ exports_in new.items.defs = let same = ap (λ b. exports_in b.defs) items in omega (arith, grown, one, same) in
    subst (AreExportsAtHand w new.met) count hand

pub returns-in_err-enter_export-clause-at_hand : goal.returns-in_err-enter_export-clause-at_hand
returns-in_err-enter_export-clause-at_hand c =
    let w = c.args.root.now.world.now in
    let old : Root = c.args.root.now in
    let mid : Root = c.export_instance.new.root in
    let kept = c.in_ok-instance.ensures.kept in
    let e = c.in_err-enter_export.ensures in
    let items : c.enter_export.new.self.items ≡ mid.items = ap (λ (r : Root). r.items) e.same in
    subst (λ b. AreExportsAtHand w c.enter_export.new.self.met (exports_in b.defs)) (sym items) (at_hand_kept w old.items mid.items old.met c.enter_export.new.self.met kept.extends (e.err ∙ kept.met) c.requires.at_hand)

pub returns-clause-grows : goal.returns-clause-grows
returns-clause-grows c =
    let items = ap (λ (r : Root). r.items) c.forget_exported_types.ensures.same ∙ ap (λ (r : Root). r.items) c.in_ok-enter_export.ensures.same in
    let n = naming_of c.args.self.now.names in
    let w = c.args.root.now.world.now in
    subst (λ b. Rattle.comp_terms.specs.Rules.Grows w c.args.root.now.items.defs b.defs (Rattle.main_exports.specs.Exports.key_marked n w (exporter c.args.self.now) c.args.key.now)) (sym items) c.in_ok-instance.ensures.grows

pub returns-clause-forgotten : goal.returns-clause-forgotten
returns-clause-forgotten c =
    let world = ap (λ (r : Root). r.world) c.in_ok-enter_export.ensures.same ∙ c.in_ok-instance.ensures.kept.world in
    subst (λ x. ForgetsTypes x.now c.args.id c.forget_exported_types.new.self) world c.forget_exported_types.ensures.forgotten
