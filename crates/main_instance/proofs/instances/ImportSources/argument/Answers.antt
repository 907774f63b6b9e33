use Rattle.std.proofs.Common.{Contains, subst, sym}
use Rattle.comp_roles.specs.declared.imports.ImportInstance.{ImportInstance}
use Rattle.comp_lists.proofs.Lists.{AllByRecursion-contains}
use Rattle.comp_terms.specs.Planned.{IsArgumentFor}
use Rattle.comp_worlds.specs.Made.{modules_of_imports}
use Rattle.core_options.specs.MainOptions.{user_of}
use Rattle.main_instance.specs.Sources.{IsMade}
use Rattle.main_instance.proofs.OfMain.{made_there, whole_named, whole_given}
use Rattle.main_instance.proofs.instances.ImportSources.argument.Goals as goal

pub whole_instance-requires : goal.whole_instance-requires
whole_instance-requires c =
    let w = c.args.root.now.world.now in
    let ds = c.args.root.now.items.defs in
    let s = c.args.self.now in
    let it = c.in-Whole in
    let present = subst (λ (i : ImportInstance). Contains s.user.found.now.imports.modules (c.args.module.now, i)) it.is c.requires.present in
    record { there = made_there w ds s.main s.adapters.now it.which (AllByRecursion-contains (IsMade w ds s.main s.adapters.now) (modules_of_imports s.user.found.now) it.which c.requires.sources.made (whole_named s.user.found.now c.args.module.now it.which present)) }

pub returns-in_ok-whole_instance-in-Whole-clause-serves : goal.returns-in_ok-whole_instance-in-Whole-clause-serves
returns-in_ok-whole_instance-in-Whole-clause-serves c =
    let w = c.args.root.now.world.now in
    let ds = c.args.root.now.items.defs in
    let s = c.args.self.now in
    let it = c.in-Whole in
    let present = subst (λ (i : ImportInstance). Contains s.user.found.now.imports.modules (c.args.module.now, i)) it.is c.requires.present in
    let made : IsMade w ds s.main s.adapters.now it.which = AllByRecursion-contains (IsMade w ds s.main s.adapters.now) (modules_of_imports s.user.found.now) it.which c.requires.sources.made (whole_named s.user.found.now c.args.module.now it.which present) in
    let argument = c.in_ok-whole_instance-in-Whole.field-0 in
    let of = c.in_ok-whole_instance-in-Whole.ensures in
    subst (λ (i : ImportInstance). IsArgumentFor w (user_of s.user.which) ds argument (c.args.module.now, i)) (sym it.is) (whole_given w (user_of s.user.which) ds s.main s.adapters.now c.args.module.now it.which argument made of.0 of.1)
