use Rattle.std.proofs.Common.{◌≡◌, [], ◌∷◌, Some, None, IsTrue, IsSome, refl, subst, sym}
use Rattle.comp_bytes.specs.declared.space.Space.TheVariants.{CoreFunc}
use Rattle.comp_links.specs.Links.{lower_needs, lower_options, role_realloc}
use Rattle.comp_links.specs.Roles.{encoding_in, field_path, needs_encoding}
use Rattle.comp_links.specs.Targets.{OfInterface, Lowered}
use Rattle.comp_options.specs.Options.{needs}
use Rattle.comp_roles.specs.declared.imports.Import.{Import}
use Rattle.comp_roles.specs.declared.imports.Import.TheVariants as imports
use Rattle.comp_terms.specs.Planned.{IsItemFor}
use Rattle.comp_terms.specs.Rules.{Grows}
use Rattle.comp_worlds.specs.declared.world.ComponentWorld.{ComponentWorld}
use Rattle.core_options.specs.Causes.{IsCauseAmong}
use Rattle.core_options.specs.MainOptions.{user_of}
use Rattle.root_imports.specs.Growing.{Grows-then}
use Rattle.root_imports.specs.declared.root_scope.RootScope.{RootScope}
use Rattle.main_instance.specs.Calls.{IsUnencoded, import_at, lowering_kind}
use Rattle.main_instance.specs.Direct.{IsDirectCall}
use Rattle.main_instance.specs.Sources.{AreSources, IsShimAlias, IsUsedOfInterface}
use Rattle.shim_plan.specs.Needed.{call_of}
use Rattle.shim_targets.specs.ShimTargets.{which_of}
use Rattle.main_instance.proofs.GivenCalls.{call_encoded, call_given, call_plain, direct_given, direct_supplied, shim_supplied}
use Rattle.main_instance.proofs.Growth.{sources-kept}
use Rattle.main_instance.proofs.Interfaces.{used_by_role}
use Rattle.main_instance.proofs.Serving.{handed_on, unencoded}
use Rattle.main_instance.proofs.instances.ImportSources.give_interface_function.Goals as goal

abbrev Root : Type 0
Root = RootScope ComponentWorld

pub lower_interface_function-requires-clause-sources : goal.lower_interface_function-requires-clause-sources
lower_interface_function-requires-clause-sources c =
    subst (λ (r : Root). AreSources r.world.now c.args.self.now r.met c.shim_of_call.new.root.items.defs r.maps r.instances) (sym c.in_ok-index.ensures.same) (sources-kept c.in_ok-index.ensures.extends c.requires.sources)

pub lower_interface_function-requires-clause-direct : goal.lower_interface_function-requires-clause-direct
lower_interface_function-requires-clause-direct c =
    let w = c.args.root.now.world.now in
    let u = c.args.self.now.user in
    let s = c.requires.sources in
    let e = c.in_ok-encoding.encoding in
    let ds = c.shim_of_call.new.root.items.defs in
    let i = import_at c.args.place c.args.import.now in
    let role = imports.InterfaceFunc c.args.key.now c.args.interface c.args.function.now c.args.abi in
    let kind = lowering_kind (which_of (user_of u.which)) (Some c.args.key.now) c.args.function.now c.args.abi e in
    let encoded : encoding_in role u.found.now ≡ Some e = c.in_ok-encoding.ensures.ok in
    let none : IsShimAlias w ds kind None = subst (IsShimAlias w ds kind) c.in-None.is c.in_ok-index.ensures.shim in
    subst (λ (r : Root). IsDirectCall r.world.now (user_of u.which) u.found.now (record { place = c.args.place; import = c.args.import; encoding = e })) (sym c.in_ok-index.ensures.same)
    (record {
      present = c.requires.present;
      encoded = call_encoded w s.valid u s.user i c.requires.present role c.requires.role e encoded kind refl;
      called = subst (λ (r : Import). IsSome (call_of r)) (sym c.requires.role) refl;
      plain = call_plain w s.valid u s.user i c.requires.present role c.requires.role e encoded kind refl ds none;
    })

pub lower_interface_function-requires-clause-imported : goal.lower_interface_function-requires-clause-imported
lower_interface_function-requires-clause-imported c =
    let w = c.args.root.now.world.now in
    let u = c.args.self.now.user in
    subst (λ (r : Root). IsUsedOfInterface r.world.now c.args.interface c.args.function.now) (sym c.in_ok-index.ensures.same)
    (used_by_role w c.requires.sources.valid (user_of u.which) u.found.now c.requires.sources.user.named (import_at c.args.place c.args.import.now) c.args.key.now c.args.interface c.args.function.now c.args.abi c.requires.role c.requires.present)

pub returns-in-Some-clause-given : goal.returns-in-Some-clause-given
returns-in-Some-clause-given c =
    let w = c.args.root.now.world.now in
    let u = c.args.self.now.user in
    let s = c.requires.sources in
    let e = c.in_ok-encoding.encoding in
    let ds = c.shim_of_call.new.root.items.defs in
    let i = import_at c.args.place c.args.import.now in
    let role = imports.InterfaceFunc c.args.key.now c.args.interface c.args.function.now c.args.abi in
    let kind = lowering_kind (which_of (user_of u.which)) (Some c.args.key.now) c.args.function.now c.args.abi e in
    let encoded : encoding_in role u.found.now ≡ Some e = c.in_ok-encoding.ensures.ok in
    let there : IsShimAlias w ds kind (Some c.in-Some.index) = subst (IsShimAlias w ds kind) c.in-Some.is c.in_ok-index.ensures.shim in
    call_given w s.valid u s.user i c.requires.present role c.requires.role e encoded kind refl ds c.in-Some.index there

pub returns-in-Some-clause-supplied : goal.returns-in-Some-clause-supplied
returns-in-Some-clause-supplied c =
    let w = c.args.root.now.world.now in
    let u = c.args.self.now.user in
    let s = c.requires.sources in
    let e = c.in_ok-encoding.encoding in
    let ds = c.shim_of_call.new.root.items.defs in
    let i = import_at c.args.place c.args.import.now in
    let role = imports.InterfaceFunc c.args.key.now c.args.interface c.args.function.now c.args.abi in
    let kind = lowering_kind (which_of (user_of u.which)) (Some c.args.key.now) c.args.function.now c.args.abi e in
    let encoded : encoding_in role u.found.now ≡ Some e = c.in_ok-encoding.ensures.ok in
    let there : IsShimAlias w ds kind (Some c.in-Some.index) = subst (IsShimAlias w ds kind) c.in-Some.is c.in_ok-index.ensures.shim in
    shim_supplied w s.valid u s.user i c.requires.present role c.requires.role e encoded kind refl (λ h. cc) ds c.in-Some.index there

pub returns-in_ok-lowered-in-None-clause-grows : goal.returns-in_ok-lowered-in-None-clause-grows
returns-in_ok-lowered-in-None-clause-grows c =
    let second : Grows c.args.root.now.world.now c.shim_of_call.new.root.items.defs c.lower_interface_function.new.root.items.defs [] =
    subst (λ (r : Root). Grows r.world.now c.shim_of_call.new.root.items.defs c.lower_interface_function.new.root.items.defs []) c.in_ok-index.ensures.same c.in_ok-lowered-in-None.ensures.grows in
    Grows-then c.in_ok-index.ensures.grows second

pub returns-in_ok-lowered-in-None-clause-given : goal.returns-in_ok-lowered-in-None-clause-given
returns-in_ok-lowered-in-None-clause-given c =
    let w = c.args.root.now.world.now in
    let u = c.args.self.now.user in
    let s = c.requires.sources in
    let e = c.in_ok-encoding.encoding in
    let i = import_at c.args.place c.args.import.now in
    let role = imports.InterfaceFunc c.args.key.now c.args.interface c.args.function.now c.args.abi in
    let kind = lowering_kind (which_of (user_of u.which)) (Some c.args.key.now) c.args.function.now c.args.abi e in
    let encoded : encoding_in role u.found.now ≡ Some e = c.in_ok-encoding.ensures.ok in
    let ds = c.lower_interface_function.new.root.items.defs in
    let index = c.in_ok-lowered-in-None.lowered in
    direct_given w s.valid u s.user i c.requires.present role c.requires.role e encoded kind refl ds index (OfInterface c.args.interface c.args.function.now) refl
    (subst (λ (r : Root). IsItemFor r.world.now ds CoreFunc index (Lowered (OfInterface c.args.interface c.args.function.now) (lower_options r.world.now (user_of u.which) c.args.import.now))) c.in_ok-index.ensures.same c.in_ok-lowered-in-None.ensures.lowered)

pub returns-in_ok-lowered-in-None-clause-supplied : goal.returns-in_ok-lowered-in-None-clause-supplied
returns-in_ok-lowered-in-None-clause-supplied c =
    let w = c.args.root.now.world.now in
    let u = c.args.self.now.user in
    let s = c.requires.sources in
    let e = c.in_ok-encoding.encoding in
    let i = import_at c.args.place c.args.import.now in
    let role = imports.InterfaceFunc c.args.key.now c.args.interface c.args.function.now c.args.abi in
    let kind = lowering_kind (which_of (user_of u.which)) (Some c.args.key.now) c.args.function.now c.args.abi e in
    let encoded : encoding_in role u.found.now ≡ Some e = c.in_ok-encoding.ensures.ok in
    direct_supplied w s.valid u s.user i c.requires.present role c.requires.role e encoded kind refl (λ h. cc)
    (subst (λ (r : Root). IsTrue (needs (lower_needs r.world.now c.args.import.now) 2) → IsSome (role_realloc r.world.now (user_of u.which) c.args.import.now)) c.in_ok-index.ensures.same c.in_ok-lowered-in-None.ensures.realloc)

pub returns-in_err-lowered-in-None-clause-cause : goal.returns-in_err-lowered-in-None-clause-cause
returns-in_err-lowered-in-None-clause-cause c =
    let w = c.args.root.now.world.now in
    let u = c.args.self.now.user in
    let i = import_at c.args.place c.args.import.now in
    handed_on c.from_residual-in_err-lowered-in-None.result c.in_err-lowered-in-None.field-0.0 (IsCauseAmong w (record { of = user_of u.which; core = i } ∷ []) []) c.from_residual-in_err-lowered-in-None.ensures.1
    (subst (λ (r : Root). IsCauseAmong r.world.now (record { of = user_of u.which; core = i } ∷ []) [] c.in_err-lowered-in-None.field-0.0) c.in_ok-index.ensures.same c.in_err-lowered-in-None.ensures.cause)

pub returns-in_err-encoding-clause-cause : goal.returns-in_err-encoding-clause-cause
returns-in_err-encoding-clause-cause c =
    let w = c.args.root.now.world.now in
    let u = c.args.self.now.user in
    let i = import_at c.args.place c.args.import.now in
    let role = imports.InterfaceFunc c.args.key.now c.args.interface c.args.function.now c.args.abi in
    handed_on c.from_residual.result c.in_err-encoding.field-0.0 (IsCauseAmong w (record { of = user_of u.which; core = i } ∷ []) []) c.from_residual.ensures.1
    (unencoded w (user_of u.which) u.found.now c.requires.sources.user.named i (subst (λ (r : Import). IsTrue (needs_encoding r)) (sym c.requires.role) refl) c.in_err-encoding.field-0.0
    (subst (λ (r : Import). IsUnencoded (encoding_in r u.found.now) (field_path c.args.place.module.now c.args.place.field.now) c.in_err-encoding.field-0.0) (sym c.requires.role) c.in_err-encoding.ensures.cause))
