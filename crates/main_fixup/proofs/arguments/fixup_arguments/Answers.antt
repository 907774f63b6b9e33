use Rattle.std.proofs.Common.{◌≡◌, ◌∙◌, ℕ, List, [], ◌∷◌, subst, sym}
use Rattle.comp_bytes.specs.declared.def.CoreArgument.{CoreArgument}
use Rattle.comp_terms.specs.Rules.{Grows, IsFixupArgument}
use Rattle.fixup_modules.specs.declared.instances.ImportedInstance.{ImportedInstance}
use Rattle.root_imports.proofs.Keeping.{kept_none, kept_then}
use Rattle.root_imports.specs.Keeping.{RootKept}
use Rattle.main_fixup.specs.Filling.{IsSourceThere, HasSourceOptions}
use Rattle.main_fixup.proofs.EachArgument.{ArgumentsSoFar, AreArguments, arguments_start, arguments_step, arguments_end, next_there}
use Rattle.main_fixup.proofs.Filled.{sources-moved}
use Rattle.main_fixup.proofs.arguments.fixup_arguments.Goals as goal

pub loop-name-init : goal.loop-name-init
loop-name-init c =
    let w = c.args.root.now.world.now in
    let old = c.args.root.now.items in
    let all = c.args.instances.now in
    let items : c.into_iter-name-iterator.result ≡ all = c.into_iter-name-iterator.ensures.into_iter_gives ∙ c.iter-name-items.ensures.rest in (
      tt,
      tt,
      kept_none c.args.root.now.world.now c.args.root.now c.requires.sources.tables,
      subst (λ (written : List CoreArgument). ArgumentsSoFar w all old old written c.into_iter-name-iterator.result) (sym c.new-arguments.ensures) (subst (λ l. ArgumentsSoFar w all old old [] l) (sym items) (arguments_start w all old)),
    )

pub fixup_argument-requires-clause-sources : goal.fixup_argument-requires-clause-sources
fixup_argument-requires-clause-sources c =
    sources-moved c.args.root.now c.loop-name.root c.loop-name.invariant.2 c.requires.sources

pub fixup_argument-requires-clause-there : goal.fixup_argument-requires-clause-there
fixup_argument-requires-clause-there c =
    let w = c.args.root.now.world.now in
    let old = c.args.root.now.items in
    let mid = c.loop-name.root.items in
    let all = c.args.instances.now in
    let i : List ℕ × ImportedInstance = (c.in-Some.name.now, c.in-Some.from.now) in
    let before : ArgumentsSoFar w all old mid c.loop-name.arguments (i ∷ c.next.new.self) = subst (ArgumentsSoFar w all old mid c.loop-name.arguments) c.in-Some.ensures.steps c.loop-name.invariant.3 in
    subst (λ r. IsSourceThere r.now mid.defs c.args.shim_instance c.in-Some.from.now) (sym c.loop-name.invariant.2.world)
    (next_there w all old mid c.loop-name.arguments c.next.new.self i c.args.shim_instance c.requires.there before)

pub loop-name-preserved : goal.loop-name-preserved
loop-name-preserved c =
    let w = c.args.root.now.world.now in
    let old = c.args.root.now.items in
    let mid = c.loop-name.root.items in
    let new = c.fixup_argument.new.root.items in
    let all = c.args.instances.now in
    let i : List ℕ × ImportedInstance = (c.in-Some.name.now, c.in-Some.from.now) in
    let before : ArgumentsSoFar w all old mid c.loop-name.arguments (i ∷ c.next.new.self) = subst (ArgumentsSoFar w all old mid c.loop-name.arguments) c.in-Some.ensures.steps c.loop-name.invariant.3 in
    let of = c.in_ok-argument.ensures in
    let argument = c.in_ok-argument.argument in
    let world = c.loop-name.invariant.2.world in (
      tt,
      tt,
      kept_then w c.args.root.now c.loop-name.root c.fixup_argument.new.root c.loop-name.invariant.2 (subst (λ r. RootKept r.now c.loop-name.root c.fixup_argument.new.root) world of.kept),
      arguments_step w all old mid new c.loop-name.arguments c.push.new.self argument c.next.new.self i before of.kept.extends (subst (λ x. Grows x.now mid.defs new.defs []) world of.grows)
          (subst (λ x. IsFixupArgument x.now new.defs argument i) world of.serves) (subst (λ x. HasSourceOptions x.now i.1) world of.offered) c.in_ok-push.ensures.ok,
    )

pub returns-clause-serve : goal.returns-clause-serve
returns-clause-serve c =
    let a : AreArguments c.args.root.now.world.now c.args.instances.now c.loop-name.root.items.defs c.loop-name.arguments =
    arguments_end c.args.root.now.world.now c.args.instances.now c.args.root.now.items c.loop-name.root.items c.loop-name.arguments c.loop-name.name-iterator c.loop-name.invariant.3 c.in-None.ensures.steps.0 in a.serve

pub returns-clause-offered : goal.returns-clause-offered
returns-clause-offered c =
    let a : AreArguments c.args.root.now.world.now c.args.instances.now c.loop-name.root.items.defs c.loop-name.arguments =
    arguments_end c.args.root.now.world.now c.args.instances.now c.args.root.now.items c.loop-name.root.items c.loop-name.arguments c.loop-name.name-iterator c.loop-name.invariant.3 c.in-None.ensures.steps.0 in a.offered

pub returns-in_err-argument-clause-kept : goal.returns-in_err-argument-clause-kept
returns-in_err-argument-clause-kept c =
    let world = c.loop-name.invariant.2.world in
    kept_then c.args.root.now.world.now c.args.root.now c.loop-name.root c.fixup_argument.new.root c.loop-name.invariant.2 (subst (λ r. RootKept r.now c.loop-name.root c.fixup_argument.new.root) world c.in_err-argument.ensures.kept)
