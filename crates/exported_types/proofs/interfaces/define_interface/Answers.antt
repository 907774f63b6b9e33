use Rattle.std.proofs.Common.{◌≡◌, List, ℕ, ap, sym, subst}
use Rattle.std.specs.List.{AllByRecursion}
use Rattle.wit_data.specs.declared.ids.TypeId.{TypeId}
use Rattle.comp_items.proofs.Extending.{extends_none}
use Rattle.comp_items.specs.Items.{Extends}
use Rattle.comp_terms.specs.Rules.{Grows}
use Rattle.root_imports.specs.Keeping.{Root, RootMoved}
use Rattle.root_imports.specs.Met.{AreAllMet}
use Rattle.root_imports.specs.RootScopes.{AreTablesRight}
use Rattle.root_imports.specs.declared.met_types.MetTypes.{MetTypes}
use Rattle.root_imports.proofs.Keeping.{kept_none, moved_kept, moved_then}
use Rattle.root_imports.proofs.ListedTypes.{export_there}
use Rattle.core_options.specs.MainOptions.{user_of}
use Rattle.exported_types.specs.ExportedTypes.{resource_marks, AreNextResources, IsDefinedType}
use Rattle.exported_types.proofs.OwnTypes.{enters_one}
use Rattle.exported_types.proofs.interfaces.define_interface.Goals as goal

abbrev Listed : Type 0
Listed = List (List ℕ × TypeId)

pub returns-in_err-check_order-clause-moved : goal.returns-in_err-check_order-clause-moved
returns-in_err-check_order-clause-moved c = moved_kept c.args.root.now.world.now c.args.root.now c.args.root.now (kept_none c.args.root.now.world.now c.args.root.now c.requires.tables)

pub types_of-requires : goal.types_of-requires
types_of-requires c = export_there c.args.root.now.world.now c.requires.valid c.args.id (record { key = c.args.key.now; of = c.requires.item })

pub define_types_of-requires-clause-exported : goal.define_types_of-requires-clause-exported
define_types_of-requires-clause-exported c = record { key = c.args.key.now; of = c.requires.item }

pub define_types_of-requires-clause-resources : goal.define_types_of-requires-clause-resources
define_types_of-requires-clause-resources c = subst (λ (l : Listed). AreNextResources c.args.root.now.world.now c.args.root.now.items.defs (user_of c.args.sources.which) l) (sym c.types_of.ensures) c.requires.resources

pub enter_interface-requires-clause-all : goal.enter_interface-requires-clause-all
enter_interface-requires-clause-all c =
    let mid : Root = c.define_types_of.new.root in
    subst (λ x. AreAllMet x.now mid.met c.args.id) (sym c.in_ok-define_types_of.ensures.moved.world) c.in_ok-define_types_of.ensures.all

pub enter_interface-requires-clause-tables : goal.enter_interface-requires-clause-tables
enter_interface-requires-clause-tables c =
    let mid : Root = c.define_types_of.new.root in
    subst (λ x. AreTablesRight x.now mid.met mid.instances mid.items.defs mid.maps) (sym c.in_ok-define_types_of.ensures.moved.world) c.in_ok-define_types_of.ensures.moved.tables

-- the root with the interface that was entered
entered : (old mid new : Root) → RootMoved old.world.now old mid → new ≡ record mid { met = record mid.met { interfaces = new.met.interfaces } } → AreTablesRight mid.world.now new.met mid.instances mid.items.defs mid.maps → RootMoved old.world.now old new
entered old mid new h same tables =
    let met = ap (λ (r : Root). r.met) same in
    moved_then old.world.now old mid new h
    (record {
      world = ap (λ (r : Root). r.world) same;
      last = ap (λ (m : MetTypes). m.last) met;
      instances = ap (λ (r : Root). r.instances) same;
      extends = subst (λ b. Extends mid.items b) (sym (ap (λ (r : Root). r.items) same)) (extends_none mid.items);
      tables =
          subst (λ es. AreTablesRight old.world.now new.met es new.items.defs new.maps) (sym (ap (λ (r : Root). r.instances) same))
          (subst (λ b. AreTablesRight old.world.now new.met mid.instances b.defs new.maps) (sym (ap (λ (r : Root). r.items) same))
          (subst (λ ms. AreTablesRight old.world.now new.met mid.instances mid.items.defs ms) (sym (ap (λ (r : Root). r.maps) same)) (subst (λ x. AreTablesRight x.now new.met mid.instances mid.items.defs mid.maps) h.world tables)));
    })

pub returns-in_err-enter_interface-clause-moved : goal.returns-in_err-enter_interface-clause-moved
returns-in_err-enter_interface-clause-moved c = entered c.args.root.now c.define_types_of.new.root c.enter_interface.new.self c.in_ok-define_types_of.ensures.moved c.in_err-enter_interface.ensures.same c.in_err-enter_interface.ensures.tables

pub returns-clause-moved : goal.returns-clause-moved
returns-clause-moved c = entered c.args.root.now c.define_types_of.new.root c.enter_interface.new.self c.in_ok-define_types_of.ensures.moved c.in_ok-enter_interface.ensures.same c.in_ok-enter_interface.ensures.tables

pub returns-clause-grows : goal.returns-clause-grows
returns-clause-grows c =
    let w = c.args.root.now.world.now in
    let items = ap (λ (r : Root). r.items) c.in_ok-enter_interface.ensures.same in
    subst (λ b. Grows w c.args.root.now.items.defs b.defs (resource_marks w (Rattle.wit_data.specs.Live.named_types w.resolve c.args.id))) (sym items)
    (subst (λ (l : Listed). Grows w c.args.root.now.items.defs c.define_types_of.new.root.items.defs (resource_marks w l)) c.types_of.ensures c.in_ok-define_types_of.ensures.grows)

pub returns-clause-defined : goal.returns-clause-defined
returns-clause-defined c =
    let w = c.args.root.now.world.now in
    let items = ap (λ (r : Root). r.items) c.in_ok-enter_interface.ensures.same in
    subst (λ b. AllByRecursion (λ t. IsDefinedType w b.defs t.1) (Rattle.wit_data.specs.Live.named_types w.resolve c.args.id)) (sym items)
    (subst (λ (l : Listed). AllByRecursion (λ t. IsDefinedType w c.define_types_of.new.root.items.defs t.1) l) c.types_of.ensures c.in_ok-define_types_of.ensures.defined)

pub returns-clause-enters : goal.returns-clause-enters
returns-clause-enters c = enters_one c.args.root.now.met c.define_types_of.new.root.met c.enter_interface.new.self.met c.args.id c.in_ok-define_types_of.ensures.met c.in_ok-enter_interface.ensures.entered

pub returns-clause-uses : goal.returns-clause-uses
returns-clause-uses c = (c.in_ok-check_order.ensures.all, tt)
