-- Roles that were checked: what holds of them, and why they are refused.
use Rattle.std.proofs.Common.{◌≡◌, ◌∙◌, ℕ, List, Result, Ok, Err, sym, ap, subst}
use Rattle.std.specs.Prelude.{◌≢◌, IfErr}
use Rattle.std.specs.Result.{IsErrAnd}
use Rattle.core_types.specs.Core.{IsCoreModule}
use Rattle.wit_data.specs.declared.worlds.WorldKey.{WorldKey}
use Rattle.comp_roles.specs.declared.exports.Export.{Export}
use Rattle.comp_roles.specs.declared.imports.ImportInstance.{ImportInstance}
use Rattle.world_values.specs.declared.gathered.Part.{Part}
use Rattle.core_sections.specs.declared.core_module.CoreModule.{CoreModule}
use Rattle.record_faults.specs.declared.fault.Failure.{Failure}
use Rattle.record_faults.specs.declared.fault.Failure.TheVariants as failures
use Rattle.record_faults.specs.declared.fault.Refusal.{Refusal}
use Rattle.record_faults.specs.Faults.{◌>>=◌}
use Rattle.record_faults.proofs.Chains.{bind_ok}
use Rattle.record_merge.specs.declared.bindgen.Bindgen.{Bindgen}
use Rattle.record_resolve.specs.declared.resolving.Resolved.{Resolved}
use Rattle.record_exports.specs.Exporting.{exports_of}
use Rattle.record_exports.specs.Requiring.{required_of}
use Rattle.record_exports.specs.Causes.{ExportCause, RequiredCause}
use Rattle.record_imports.specs.Importing.{imports_of}
use Rattle.record_imports.specs.Causes.{ImportCause}
use Rattle.record_imports.specs.Arguments.{Arguments}
use Rattle.record_imports.specs.declared.others.OtherModules.{OtherModules}
use Rattle.gathered_worlds.specs.declared.checking.CheckedRoles.{CheckedRoles}
use Rattle.gathered_worlds.specs.declared.modules.ModuleParts.{ModuleParts}
use Rattle.gathered_worlds.specs.Preparing.{with_imports, checked_exports, checked_roles, parts_of}
use Rattle.gathered_worlds.specs.Guarantees.{IsUsable, AreChecked, user_module, IsSoundPart}
use Rattle.gathered_worlds.specs.Causes.{ExportsCause, unfit, missing, RolesCause, of_imports, of_exports}
use Rattle.gathered_worlds.proofs.FoundImports.{all_found, all_used}
use Rattle.gathered_worlds.proofs.FoundExports.{all_offered}

-- the roles of imports and of exports, of which the checked roles are made
record AreRead (r : Resolved) (others : OtherModules) (arguments : Arguments) (main : Part Bindgen) (core : CoreModule) (m : CheckedRoles) : Type 0 where
  imports : imports_of r others arguments main.own.roles.import_roles core ≡ Ok m.imports.modules
  exports : exports_of r main.own.roles.export_roles core ≡ Ok m.exports

-- where all steps pass
read_of : (r : Resolved) (others : OtherModules) (arguments : Arguments) (main : Part Bindgen) (core : CoreModule) (m : CheckedRoles) (imported : List (List ℕ × ImportInstance)) (exported : List (List ℕ × Export)) (required : List WorldKey)
    (checked : List (List ℕ × Export) × List WorldKey) → imports_of r others arguments main.own.roles.import_roles core ≡ Ok imported → exports_of r main.own.roles.export_roles core ≡ Ok exported
    → (exported, required) ≡ checked → with_imports imported checked ≡ m → AreRead r others arguments main core m
read_of r others arguments main core m imported exported required checked imports exports pair whole = record {
  imports = imports ∙ ap (λ (x : CheckedRoles). Ok x.imports.modules) whole;
  exports = exports ∙ ap (λ (x : List (List ℕ × Export) × List WorldKey). Ok x.0) pair ∙ ap (λ (x : CheckedRoles). Ok x.exports) whole;
}

are_read : (r : Resolved) (others : OtherModules) (arguments : Arguments) (main : Part Bindgen) (core : CoreModule) (m : CheckedRoles) → checked_roles r others arguments main core ≡ Ok m → AreRead r others arguments main core m
unfolding checked_roles checked_exports
are_read r others arguments main core m e =
    let with_exports : List (List ℕ × ImportInstance) → Result CheckedRoles Failure = λ imported. checked_exports r main core >>= λ exported. Ok (with_imports imported exported) in
    let a = bind_ok (imports_of r others arguments main.own.roles.import_roles core) with_exports m e in
    let b = bind_ok (checked_exports r main core) (λ exported. Ok (with_imports a.0 exported)) m a.2 in
    let with_required : List (List ℕ × Export) → Result (List (List ℕ × Export) × List WorldKey) Failure = λ exported. required_of r exported main.required >>= λ required. Ok (exported, required) in
    let c = bind_ok (exports_of r main.own.roles.export_roles core) with_required b.0 b.1 in
    let d = bind_ok (required_of r c.0 main.required) (λ required. Ok (c.0, required)) b.0 c.2 in
    read_of r others arguments main core m a.0 c.0 d.0 b.0 a.1 c.1 (cc (d.2)) (cc (b.2))

-- what holds of a module of the world
pub sound_part : (r : Resolved) (others : OtherModules) (arguments : Arguments) (main : Part Bindgen) (core : CoreModule) (m : CheckedRoles) (p : ModuleParts) → IsUsable r → IsCoreModule main.bytes → AreChecked r m → checked_roles r others arguments main core ≡ Ok m
    → p ≡ parts_of r main core m → IsSoundPart r (user_module p)
sound_part r others arguments main core m p u bytes h checked is = subst (λ (x : ModuleParts). IsSoundPart r (user_module x)) (sym is) (record {
  core = bytes;
  roles = h.roles;
  called = h.called;
  lifted = h.lifted;
  imported = all_found r others arguments main core m u.present (let read = are_read r others arguments main core m checked in read.imports);
  used = all_used r others arguments main core m u.present (let read = are_read r others arguments main core m checked in read.imports);
  exported = all_offered r main core m u.present (let read = are_read r others arguments main core m checked in read.exports);
  kept = h.kept;
})

-- what holds of the refusal holds of the one that a `?` returns
pub handed_out : {A : Type 0} (P : Refusal → Type 0) (r : Result A Failure) (d : Failure) → IsErrAnd r (λ e. e ≡ d) → ((f : Refusal) → d ≡ failures.Refused f → P f) → IfErr r (λ e. (f : Refusal) → e ≡ failures.Refused f → P f)
handed_out P (Ok x) d is h = tt
handed_out P (Err e) d is h = subst (λ (x : Failure). (f : Refusal) → x ≡ failures.Refused f → P f) (sym is) h

-- a step whose refusals have causes
pub checked_out : {A : Type 0} {P : Refusal → Type 0} (r : Result A Failure) (d : Failure) → (d ≢ failures.Memory → r ≡ Err d) → ((f : Refusal) → r ≡ Err (failures.Refused f) → P f) → (f : Refusal) → d ≡ failures.Refused f → P f
checked_out r d is h f same = h f (is (λ m. cc) ∙ ap Err same)

same_ok : {A E : Type 0} (r : Result A E) (x y : A) → r ≡ Ok x → r ≡ Ok y → x ≡ y
same_ok r x y a b = cc

-- the exports have no cause
pub no_exports_cause : (r : Resolved) (main : Part Bindgen) (core : CoreModule) (exported : List (List ℕ × Export)) → exports_of r main.own.roles.export_roles core ≡ Ok exported
    → ((f : Refusal) → ExportCause r main.own.roles.export_roles core f → ⊥) → ((f : Refusal) → RequiredCause r exported main.required f → ⊥) → (f : Refusal) → ExportsCause r main core f → ⊥
no_exports_cause r main core exported is fits there f (unfit q c) = fits f c
no_exports_cause r main core exported is fits there f (missing other q e c) =
    there f (subst (λ (x : List (List ℕ × Export)). RequiredCause r x main.required f) (same_ok (exports_of r main.own.roles.export_roles core) other exported e is) c)

pub no_met_cause : (r : Resolved) (others : OtherModules) (arguments : Arguments) (main : Part Bindgen) (core : CoreModule) → ((f : Refusal) → ImportCause r others arguments main.own.roles.import_roles core f → ⊥) → ((f : Refusal) → ExportsCause r main core f → ⊥)
    → (f : Refusal) → RolesCause r others arguments main core f → ⊥
no_met_cause r others arguments main core imports exports f (of_imports q c) = imports f c
no_met_cause r others arguments main core imports exports f (of_exports q c) = exports f c
