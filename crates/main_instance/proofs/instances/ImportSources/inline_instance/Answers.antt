use Rattle.std.proofs.Common.{ap, refl, rules}
use Rattle.comp_builder.specs.Built.{Built}
use Rattle.comp_items.specs.Items.{Extends}
use Rattle.comp_items.proofs.Extending.{extends_adds}
use Rattle.root_imports.proofs.Keeping.{kept_items}
use Rattle.root_imports.specs.Growing.{Grows-then}
use Rattle.core_options.specs.MainOptions.{user_of}
use Rattle.main_instance.proofs.Serving.{ServesGroup, serve_group}
use Rattle.comp_roles.specs.declared.imports.ImportInstance.TheVariants as instances
use Rattle.main_instance.proofs.instances.ImportSources.inline_instance.Goals as goal

served : (c : goal.In_ok-instance) →
    ServesGroup c.args.root.now.world.now (user_of c.args.self.now.user.which) c.entries.new.root.items.defs c.inline_instance.new.self.defs (record { name = c.args.module.now; instance = c.in_ok-instance.instance }) (c.args.module.now, instances.Names c.args.fields.now)
served c =
    serve_group c.args.root.now.world.now c.requires.sources.valid c.args.self.now.user c.requires.sources.user c.entries.new.root.items c.inline_instance.new.self c.in_ok-instance.instance c.in_ok-entries.entries c.args.module.now c.args.fields.now c.requires.present
    c.in_ok-entries.ensures.serves c.in_ok-entries.ensures.apart (ap (λ (b : Built). b.defs) c.in_ok-instance.ensures.adds.1) c.in_ok-instance.ensures.at

pub returns-clause-grows : goal.returns-clause-grows
returns-clause-grows c = let s = served c in Grows-then c.in_ok-entries.ensures.grows s.grows

pub returns-clause-serves : goal.returns-clause-serves
returns-clause-serves c = let s = served c in rw c.in_ok-name.ensures s.serves

pub returns-clause-kept : goal.returns-clause-kept
returns-clause-kept c =
    let mid = c.entries.new.root in
    let g : Extends mid.items c.inline_instance.new.self = search (extends_adds, rules) in
    kept_items c.args.root.now.world.now c.args.root.now mid (record mid { items = c.inline_instance.new.self }) c.in_ok-entries.ensures.kept refl g
