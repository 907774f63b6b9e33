use Rattle.std.proofs.Common.{◌≡◌, ◌∙◌, ℕ, List, [], ◌∷◌, subst, sym}
use Rattle.comp_terms.specs.Planned.{IsArgumentFor}
use Rattle.comp_terms.specs.Rules.{Grows}
use Rattle.comp_roles.specs.CoreImports.{imports_from}
use Rattle.core_options.specs.Causes.{IsCauseAmong}
use Rattle.core_options.specs.MainOptions.{user_of}
use Rattle.main_instance.specs.Sources.{imports_by}
use Rattle.comp_bytes.specs.declared.def.CoreArgument.{CoreArgument}
use Rattle.comp_roles.specs.declared.imports.ImportInstance.{ImportInstance}
use Rattle.core_options.specs.Causes.{IsCause}
use Rattle.root_imports.proofs.Keeping.{kept_none, kept_then}
use Rattle.root_imports.specs.Keeping.{RootKept}
use Rattle.main_instance.proofs.Growth.{sources-moved}
use Rattle.main_instance.proofs.Serving.{GroupsSoFar, groups_start, groups_step, group_present, group_refused, handed_on}
use Rattle.main_instance.proofs.instances.ImportSources.arguments.Goals as goal

pub loop-module-init : goal.loop-module-init
loop-module-init c =
    let items : c.into_iter-module-iterator.result ≡ c.args.self.now.user.found.now.imports.modules = c.into_iter-module-iterator.ensures.into_iter_gives ∙ c.iter-module-items.ensures.rest in
    let none : c.new-arguments.result ≡ [] = c.new-arguments.ensures in (
      tt,
      tt,
      kept_none c.args.root.now.world.now c.args.root.now c.requires.sources.tables,
      subst (λ (es : List CoreArgument). GroupsSoFar c.args.root.now.world.now (user_of c.args.self.now.user.which) c.args.self.now.user.found.now.imports.modules c.args.root.now.items c.args.root.now.items es c.into_iter-module-iterator.result) (sym none)
          (subst (λ (gs : List (List ℕ × ImportInstance)). GroupsSoFar c.args.root.now.world.now (user_of c.args.self.now.user.which) c.args.self.now.user.found.now.imports.modules c.args.root.now.items c.args.root.now.items [] gs) (sym items)
          (groups_start c.args.root.now.world.now (user_of c.args.self.now.user.which) c.args.self.now.user.found.now.imports.modules c.args.root.now.items)),
    )

pub loop-module-preserved : goal.loop-module-preserved
loop-module-preserved c =
    let w = c.args.root.now.world.now in
    let mid = c.loop-module.root.items in
    let of = c.in_ok-argument.ensures in
    let world = c.loop-module.invariant.2.world in
    let group : List ℕ × ImportInstance = (c.in-Some.module.now, c.in-Some.instance.now) in
    let before : GroupsSoFar c.args.root.now.world.now (user_of c.args.self.now.user.which) c.args.self.now.user.found.now.imports.modules c.args.root.now.items c.loop-module.root.items c.loop-module.arguments (group ∷ c.next.new.self) =
    subst (λ (gs : List (List ℕ × ImportInstance)). GroupsSoFar c.args.root.now.world.now (user_of c.args.self.now.user.which) c.args.self.now.user.found.now.imports.modules c.args.root.now.items c.loop-module.root.items c.loop-module.arguments gs) c.in-Some.ensures.steps c.loop-module.invariant.3 in (
      tt,
      tt,
      kept_then w c.args.root.now c.loop-module.root c.argument.new.root c.loop-module.invariant.2 (subst (λ r. RootKept r.now c.loop-module.root c.argument.new.root) world of.kept),
      groups_step w (user_of c.args.self.now.user.which) c.args.self.now.user.found.now.imports.modules c.args.root.now.items mid c.argument.new.root.items c.loop-module.arguments c.push.new.self c.in_ok-argument.argument c.next.new.self group before
          of.kept.extends (subst (λ r. Grows r.now mid.defs c.argument.new.root.items.defs []) world of.grows) (subst (λ r. IsArgumentFor r.now (user_of c.args.self.now.user.which) c.argument.new.root.items.defs c.in_ok-argument.argument group) world of.serves) c.in_ok-push.ensures.ok,
    )

pub argument-requires-clause-sources : goal.argument-requires-clause-sources
argument-requires-clause-sources c =
    sources-moved c.args.root.now c.loop-module.root c.loop-module.invariant.2 c.requires.sources

pub argument-requires-clause-present : goal.argument-requires-clause-present
argument-requires-clause-present c =
    let group : List ℕ × ImportInstance = (c.in-Some.module.now, c.in-Some.instance.now) in
    let before : GroupsSoFar c.args.root.now.world.now (user_of c.args.self.now.user.which) c.args.self.now.user.found.now.imports.modules c.args.root.now.items c.loop-module.root.items c.loop-module.arguments (group ∷ c.next.new.self) =
    subst (λ (gs : List (List ℕ × ImportInstance)). GroupsSoFar c.args.root.now.world.now (user_of c.args.self.now.user.which) c.args.self.now.user.found.now.imports.modules c.args.root.now.items c.loop-module.root.items c.loop-module.arguments gs) c.in-Some.ensures.steps c.loop-module.invariant.3 in
    group_present c.args.root.now.world.now (user_of c.args.self.now.user.which) c.args.self.now.user.found.now.imports.modules c.args.root.now.items c.loop-module.root.items c.loop-module.arguments group c.next.new.self before

pub returns-in_err-argument-clause-cause : goal.returns-in_err-argument-clause-cause
returns-in_err-argument-clause-cause c =
    let group : List ℕ × ImportInstance = (c.in-Some.module.now, c.in-Some.instance.now) in
    let before : GroupsSoFar c.args.root.now.world.now (user_of c.args.self.now.user.which) c.args.self.now.user.found.now.imports.modules c.args.root.now.items c.loop-module.root.items c.loop-module.arguments (group ∷ c.next.new.self) =
    subst (λ (gs : List (List ℕ × ImportInstance)). GroupsSoFar c.args.root.now.world.now (user_of c.args.self.now.user.which) c.args.self.now.user.found.now.imports.modules c.args.root.now.items c.loop-module.root.items c.loop-module.arguments gs) c.in-Some.ensures.steps c.loop-module.invariant.3 in
    handed_on c.from_residual.result c.in_err-argument.field-0.0 (IsCause c.args.root.now.world.now) c.from_residual.ensures.1
    (group_refused c.args.root.now.world.now (user_of c.args.self.now.user.which) c.args.self.now.user.found.now c.requires.sources.user.named before.done c.next.new.self group before.split c.in_err-argument.field-0.0
    (subst (λ r. IsCauseAmong r.now (imports_by (user_of c.args.self.now.user.which) (imports_from group)) [] c.in_err-argument.field-0.0) c.loop-module.invariant.2.world c.in_err-argument.ensures.cause))

pub returns-in_err-argument-clause-kept : goal.returns-in_err-argument-clause-kept
returns-in_err-argument-clause-kept c =
    let world = c.loop-module.invariant.2.world in
    kept_then c.args.root.now.world.now c.args.root.now c.loop-module.root c.argument.new.root c.loop-module.invariant.2 (subst (λ r. RootKept r.now c.loop-module.root c.argument.new.root) world c.in_err-argument.ensures.kept)
