use Rattle.std.proofs.Common.{◌≡◌, ℕ, List, [], ◌∷◌, Some, None, IsTrue, IsSome, refl, ap, subst, sym, rules}
use Rattle.comp_bytes.specs.declared.space.Space.TheVariants.{CoreFunc}
use Rattle.comp_links.specs.Links.{lower_needs, lower_options, role_realloc}
use Rattle.comp_links.specs.Roles.{encoding_in, field_path, is_used, needs_encoding}
use Rattle.comp_links.specs.Targets.{OfRoot, Lowered}
use Rattle.comp_options.specs.Options.{needs}
use Rattle.comp_roles.specs.Functions.{of_function}
use Rattle.comp_roles.specs.declared.imports.Import.{Import}
use Rattle.comp_roles.specs.declared.imports.Import.TheVariants as imports
use Rattle.comp_terms.specs.Planned.{IsItemFor}
use Rattle.comp_terms.specs.Rules.{Grows}
use Rattle.comp_worlds.specs.WorldContents.{imported_name}
use Rattle.comp_worlds.specs.declared.world.ComponentWorld.{ComponentWorld}
use Rattle.core_options.specs.Causes.{IsCauseAmong}
use Rattle.core_options.specs.MainOptions.{user_of}
use Rattle.root_imports.specs.Growing.{Grows-then}
use Rattle.root_imports.specs.declared.root_scope.RootScope.{RootScope}
use Rattle.wit_data.specs.declared.worlds.WorldKey.TheVariants as keys
use Rattle.main_instance.specs.Calls.{IsUnencoded, import_at, lowering_kind}
use Rattle.main_instance.specs.Direct.{IsDirectCall}
use Rattle.main_instance.specs.Sources.{AreSources, IsShimAlias}
use Rattle.shim_plan.specs.Needed.{call_of}
use Rattle.shim_targets.specs.ShimTargets.{which_of}
use Rattle.main_instance.proofs.GivenCalls.{call_encoded, call_given, call_plain, direct_given, direct_supplied, shim_supplied}
use Rattle.main_instance.proofs.Growth.{sources-kept}
use Rattle.main_instance.proofs.Serving.{handed_on, unencoded, used_by_import}
use Rattle.main_instance.proofs.instances.ImportSources.give_root_function.Goals as goal

abbrev Root : Type 0
Root = RootScope ComponentWorld

pub lower_function-requires-clause-sources : goal.lower_function-requires-clause-sources
lower_function-requires-clause-sources c =
    subst (λ (r : Root). AreSources r.world.now c.args.self.now r.met c.shim_of_call.new.root.items.defs r.maps r.instances) (sym c.in_ok-index.ensures.same) (sources-kept c.in_ok-index.ensures.extends c.requires.sources)

pub lower_function-requires-clause-direct : goal.lower_function-requires-clause-direct
lower_function-requires-clause-direct c =
    let w = c.args.root.now.world.now in
    let u = c.args.self.now.user in
    let s = c.requires.sources in
    let e = c.in_ok-encoding.encoding in
    let ds = c.shim_of_call.new.root.items.defs in
    let i = import_at c.args.place c.args.import.now in
    let role = imports.WorldFunc (keys.Name c.args.name.now) c.args.function.now c.args.abi in
    let kind = lowering_kind (which_of (user_of u.which)) None c.args.function.now c.args.abi e in
    let encoded : encoding_in role u.found.now ≡ Some e = search rules in
    let none : IsShimAlias w ds kind None = subst (IsShimAlias w ds kind) c.in-None.is c.in_ok-index.ensures.shim in
    subst (λ (r : Root). IsDirectCall r.world.now (user_of u.which) u.found.now (record { place = c.args.place; import = c.args.import; encoding = e })) (sym c.in_ok-index.ensures.same)
    (record {
      present = c.requires.present;
      encoded = call_encoded w s.valid u s.user i c.requires.present role c.requires.role e encoded kind refl;
      called = subst (λ (r : Import). IsSome (call_of r)) (sym c.requires.role) refl;
      plain = call_plain w s.valid u s.user i c.requires.present role c.requires.role e encoded kind refl ds none;
    })

pub lower_function-requires-clause-used : goal.lower_function-requires-clause-used
lower_function-requires-clause-used c =
    let w = c.args.root.now.world.now in
    let name = c.args.name.now in
    let u = c.args.self.now.user in
    let used : IsTrue (is_used w name) = used_by_import w (user_of u.which) u.found.now c.requires.sources.user.named (import_at c.args.place c.args.import.now) name (ap imported_name c.requires.role) c.requires.present in
    c.requires.sources.used.each name used

pub returns-in-Some-clause-given : goal.returns-in-Some-clause-given
returns-in-Some-clause-given c =
    let w = c.args.root.now.world.now in
    let u = c.args.self.now.user in
    let s = c.requires.sources in
    let e = c.in_ok-encoding.encoding in
    let ds = c.shim_of_call.new.root.items.defs in
    let i = import_at c.args.place c.args.import.now in
    let role = imports.WorldFunc (keys.Name c.args.name.now) c.args.function.now c.args.abi in
    let kind = lowering_kind (which_of (user_of u.which)) None c.args.function.now c.args.abi e in
    let encoded : encoding_in role u.found.now ≡ Some e = search rules in
    let there : IsShimAlias w ds kind (Some c.in-Some.index) = subst (IsShimAlias w ds kind) c.in-Some.is c.in_ok-index.ensures.shim in
    call_given w s.valid u s.user i c.requires.present role c.requires.role e encoded kind refl ds c.in-Some.index there

pub returns-in-Some-clause-supplied : goal.returns-in-Some-clause-supplied
returns-in-Some-clause-supplied c =
    let w = c.args.root.now.world.now in
    let u = c.args.self.now.user in
    let s = c.requires.sources in
    let e = c.in_ok-encoding.encoding in
    let ds = c.shim_of_call.new.root.items.defs in
    let i = import_at c.args.place c.args.import.now in
    let role = imports.WorldFunc (keys.Name c.args.name.now) c.args.function.now c.args.abi in
    let kind = lowering_kind (which_of (user_of u.which)) None c.args.function.now c.args.abi e in
    let encoded : encoding_in role u.found.now ≡ Some e = search rules in
    let there : IsShimAlias w ds kind (Some c.in-Some.index) = subst (IsShimAlias w ds kind) c.in-Some.is c.in_ok-index.ensures.shim in
    shim_supplied w s.valid u s.user i c.requires.present role c.requires.role e encoded kind refl (λ h. cc) ds c.in-Some.index there

pub returns-clause-grows : goal.returns-clause-grows
returns-clause-grows c =
    let second : Grows c.args.root.now.world.now c.shim_of_call.new.root.items.defs c.lower_function.new.root.items.defs [] =
    subst (λ (r : Root). Grows r.world.now c.shim_of_call.new.root.items.defs c.lower_function.new.root.items.defs []) c.in_ok-index.ensures.same c.in_ok-lowered-in-None.ensures.grows in
    Grows-then c.in_ok-index.ensures.grows second

pub returns-clause-given : goal.returns-clause-given
returns-clause-given c =
    let w = c.args.root.now.world.now in
    let u = c.args.self.now.user in
    let s = c.requires.sources in
    let e = c.in_ok-encoding.encoding in
    let i = import_at c.args.place c.args.import.now in
    let role = imports.WorldFunc (keys.Name c.args.name.now) c.args.function.now c.args.abi in
    let kind = lowering_kind (which_of (user_of u.which)) None c.args.function.now c.args.abi e in
    let encoded : encoding_in role u.found.now ≡ Some e = search rules in
    let ds = c.lower_function.new.root.items.defs in
    let index = c.in_ok-lowered-in-None.lowered in
    direct_given w s.valid u s.user i c.requires.present role c.requires.role e encoded kind refl ds index (OfRoot c.args.name.now) refl
    (subst (λ (r : Root). IsItemFor r.world.now ds CoreFunc index (Lowered (OfRoot c.args.name.now) (lower_options r.world.now (user_of u.which) c.args.import.now))) c.in_ok-index.ensures.same c.in_ok-lowered-in-None.ensures.lowered)

pub returns-clause-supplied : goal.returns-clause-supplied
returns-clause-supplied c =
    let w = c.args.root.now.world.now in
    let u = c.args.self.now.user in
    let s = c.requires.sources in
    let e = c.in_ok-encoding.encoding in
    let i = import_at c.args.place c.args.import.now in
    let role = imports.WorldFunc (keys.Name c.args.name.now) c.args.function.now c.args.abi in
    let kind = lowering_kind (which_of (user_of u.which)) None c.args.function.now c.args.abi e in
    let encoded : encoding_in role u.found.now ≡ Some e = search rules in
    direct_supplied w s.valid u s.user i c.requires.present role c.requires.role e encoded kind refl (λ h. cc)
    (subst (λ (r : Root). IsTrue (needs (lower_needs r.world.now c.args.import.now) 2) → IsSome (role_realloc r.world.now (user_of u.which) c.args.import.now)) c.in_ok-index.ensures.same c.in_ok-lowered-in-None.ensures.realloc)

pub returns-in_err-lowered-in-None-clause-cause : goal.returns-in_err-lowered-in-None-clause-cause
returns-in_err-lowered-in-None-clause-cause c =
    let w = c.args.root.now.world.now in
    let u = c.args.self.now.user in
    let i = import_at c.args.place c.args.import.now in
    handed_on c.from_residual-in_err-lowered-in-None.result c.in_err-lowered-in-None.field-0.0 (IsCauseAmong w (record { of = user_of u.which; core = i } ∷ []) []) c.from_residual-in_err-lowered-in-None.ensures.1
    (subst (λ (r : Root). IsCauseAmong r.world.now (record { of = user_of u.which; core = i } ∷ []) [] c.in_err-lowered-in-None.field-0.0) c.in_ok-index.ensures.same c.in_err-lowered-in-None.ensures.cause)

pub returns-in_err-encoding-clause-cause : goal.returns-in_err-encoding-clause-cause
returns-in_err-encoding-clause-cause c =
    let w = c.args.root.now.world.now in
    let u = c.args.self.now.user in
    let i = import_at c.args.place c.args.import.now in
    let role = imports.WorldFunc (keys.Name c.args.name.now) c.args.function.now c.args.abi in
    handed_on c.from_residual-in_err-encoding.result c.in_err-encoding.field-0.0 (IsCauseAmong w (record { of = user_of u.which; core = i } ∷ []) []) c.from_residual-in_err-encoding.ensures.1
    (unencoded w (user_of u.which) u.found.now c.requires.sources.user.named i (subst (λ (r : Import). IsTrue (needs_encoding r)) (sym c.requires.role) refl) c.in_err-encoding.field-0.0
    (subst (λ (r : Import). IsUnencoded (encoding_in r u.found.now) (field_path c.args.place.module.now c.args.place.field.now) c.in_err-encoding.field-0.0) (sym c.requires.role)
    (subst (λ (name : List ℕ). IsUnencoded (of_function (keys.Name name) c.args.function.now u.found.now.metadata.import_encodings) (field_path c.args.place.module.now c.args.place.field.now) c.in_err-encoding.field-0.0) c.in_ok-clone.ensures c.in_err-encoding.ensures.cause)))
