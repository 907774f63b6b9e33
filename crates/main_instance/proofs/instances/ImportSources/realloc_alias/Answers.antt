use Rattle.std.proofs.Common.{◌≡◌, ◌∙◌, Some, None, refl, sym}
use Rattle.std.specs.Option.{option_map}
use Rattle.core_options.specs.MainOptions.{user_of}
use Rattle.shim_plan.specs.Needed.{realloc_shim, import_realloc}
use Rattle.shim_targets.specs.ShimTargets.{which_of}
use Rattle.main_instance.proofs.DirectCalls.{realloc_aliased, realloc_none}
use Rattle.main_instance.proofs.instances.ImportSources.realloc_alias.Goals as goal

pub returns-in_ok-index-in-Some-clause-realloc : goal.returns-in_ok-index-in-Some-clause-realloc
returns-in_ok-index-in-Some-clause-realloc c needed =
    let w = c.args.root.now.world.now in
    let u = c.args.self.now.user in
    let s = c.requires.sources in
    let is : option_map (λ r. (realloc_shim r).kind) (import_realloc w (which_of (user_of u.which)) u.found.now) ≡ Some c.in-Some.kind = sym c.in_ok-kind.ensures ∙ c.in-Some.is in
    realloc_aliased w s.valid (user_of u.which) u.found.now s.user.named (c.requires.planned needed) c.shim.new.root.items.defs (import_realloc w (which_of (user_of u.which)) u.found.now) refl c.in-Some.kind is c.in_ok-index-in-Some.index c.in_ok-index-in-Some.ensures.shim

pub returns-in-None-clause-realloc : goal.returns-in-None-clause-realloc
returns-in-None-clause-realloc c needed =
    let w = c.args.root.now.world.now in
    let u = c.args.self.now.user in
    let s = c.requires.sources in
    let is : option_map (λ r. (realloc_shim r).kind) (import_realloc w (which_of (user_of u.which)) u.found.now) ≡ None = sym c.in_ok-kind.ensures ∙ c.in-None.is in
    realloc_none w (user_of u.which) u.found.now s.user.named c.args.root.now.items.defs is
