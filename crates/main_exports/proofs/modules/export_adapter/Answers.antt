use Rattle.std.proofs.Common.{List, ap, sym, subst}
use Rattle.wit_data.specs.declared.worlds.WorldKey.{WorldKey}
use Rattle.comp_links.specs.Targets.{UserModule as User}
use Rattle.comp_terms.specs.Exports.{exports_in}
use Rattle.comp_worlds.specs.declared.world.ValidatedModule.{ValidatedModule}
use Rattle.core_options.specs.MainOptions.{user_of, user_of_name}
use Rattle.main_exports.specs.Exports.{AreNextKeys}
use Rattle.main_exports.proofs.Adapters.{adapter_next, next_listed}
use Rattle.main_exports.proofs.modules.export_adapter.Goals as goal

pub adapter_instance-user-requires : goal.adapter_instance-user-requires
adapter_instance-user-requires c = record {
  valid = c.requires.ready.valid;
  made = c.requires.made;
  listed = next_listed c.args.root.now.world.now (exports_in c.args.root.now.items.defs) c.args.name.now c.args.adapter.now c.requires.next;
}

pub export_module-requires-clause-next : goal.export_module-requires-clause-next
export_module-requires-clause-next c =
    let w = c.args.root.now.world.now in
    let first = exports_in c.args.root.now.items.defs in
    let a = c.args.adapter.now in
    let u = c.adapter_instance-user.ensures in
    let user = c.adapter_instance-user.result in
    subst (λ (keys : List WorldKey). AreNextKeys w (user_of user.which) user.found.now first keys) (sym c.as_slice.ensures)
    (subst (λ (m : ValidatedModule). AreNextKeys w (user_of user.which) m first a.required_exports) (sym u.found)
    (subst (λ (of : User). AreNextKeys w of a.info first a.required_exports) (sym (ap user_of_name u.named)) (adapter_next w c.requires.ready.valid.valid first c.args.name.now a c.requires.next)))
