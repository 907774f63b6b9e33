use Rattle.std.proofs.Common.{◌<◌, [], ◌∷◌, arith, ap, inl, refl}
use Rattle.comp_builder.specs.Built.{Built}
use Rattle.comp_bytes.specs.Spaces.{items_in}
use Rattle.comp_bytes.specs.declared.def.Def.TheVariants as defs
use Rattle.comp_bytes.specs.declared.def.Item.TheVariants as items
use Rattle.comp_bytes.specs.declared.space.Space.TheVariants as spaces
use Rattle.comp_terms.specs.Rules.{Grows, InstanceOf}
use Rattle.core_options.specs.MainOptions.{user_of, module_named}
use Rattle.comp_items.proofs.Extending.{extends_adds}
use Rattle.comp_worlds.specs.Uses.{imports_of}
use Rattle.main_instance.proofs.Serving.{groups_encoded}
use Rattle.core_instances.proofs.UserInstances.{user_supplied}
use Rattle.root_imports.proofs.Keeping.{kept_items}
use Rattle.root_imports.specs.Growing.{Grows-by, Grows-then}
use Rattle.core_instances.proofs.Counting.{no_fewer}
use Rattle.core_instances.proofs.users.instantiate_user.Goals as goal

pub returns-clause-kept : goal.returns-clause-kept
returns-clause-kept c =
    let mid = c.arguments.new.root in
    kept_items c.args.root.now.world.now c.args.root.now mid (record mid { items = c.core_instance.new.self }) c.in_ok-arguments.ensures.kept refl
    (extends_adds mid.items c.core_instance.new.self c.core_instance.result spaces.CoreInstance (defs.Item (items.CoreInstantiate c.args.sources.now.user.number c.in_ok-arguments.arguments)) _ c.core_instance.ensures.adds)

pub returns-clause-grows : goal.returns-clause-grows
returns-clause-grows c =
    let w = c.args.root.now.world.now in
    let u = c.args.sources.now.user in
    let mid = c.arguments.new.root.items.defs in
    let more = no_fewer c.in_ok-arguments.ensures.grows in
    let there = c.requires.there in
    let scoped : u.number < items_in spaces.CoreModule mid = omega (arith, more, there) in
    let instance : Grows w mid c.core_instance.new.self.defs (InstanceOf u.number ∷ []) =
    Grows-by (defs.Item (items.CoreInstantiate u.number c.in_ok-arguments.arguments)) (ap (λ (b : Built). b.defs) c.in_ok-index.ensures.adds.1)
    (inl (record { of = module_named u.which u.found.now; listed = c.requires.sources.user.listed; scoped = scoped; each = c.in_ok-arguments.ensures.serves })) in
    Grows-then c.in_ok-arguments.ensures.grows instance

pub returns-clause-supplied : goal.returns-clause-supplied
returns-clause-supplied c =
    let w = c.args.root.now.world.now in
    let u = c.args.sources.now.user in
    user_supplied w (user_of u.which) (imports_of u.found.now) (groups_encoded w (user_of u.which) c.arguments.new.root.items.defs c.in_ok-arguments.arguments u.found.now.imports.modules c.in_ok-arguments.ensures.serves)
