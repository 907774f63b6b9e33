-- The options that are asked for are those that the link table names for a lift, and what is
-- missing for them is a cause.
use Rattle.std.proofs.Common.{◌≡◌, ◌∙◌, ℕ, List, [], ◌∷◌, refl, sym, ap, subst, Some, None, Option, IsTrue, IsSome}
use Rattle.std.specs.Option.{option_map, option_map_or}
use Rattle.comp_bytes.specs.declared.canon.CanonicalOption.{CanonicalOption}
use Rattle.comp_bytes.specs.declared.def.Def.{Def}
use Rattle.standard_kinds.specs.declared.kinds.StringEncoding.{StringEncoding}
use Rattle.wit_data.specs.declared.functions.AbiVariant.{AbiVariant}
use Rattle.wit_data.specs.declared.functions.AbiVariant.TheVariants.{GuestExport, GuestExportAsync}
use Rattle.wit_data.specs.declared.functions.Function.{Function}
use Rattle.comp_options.specs.Options.{needs, export_set}
use Rattle.comp_roles.specs.declared.metadata.FunctionKey.{FunctionKey}
use Rattle.comp_worlds.specs.WorldContents.{function_exported}
use Rattle.comp_worlds.specs.declared.world.ComponentWorld.{ComponentWorld}
use Rattle.comp_worlds.specs.Offered.{memory_of_main}
use Rattle.comp_options.specs.OptionLists.{one_if}
use Rattle.comp_links.specs.Links.{options_in, export_of, form_of, form_option, lift_needs, lift_realloc, needed_options}
use Rattle.comp_links.specs.Roles.{export_encoding}
use Rattle.comp_links.specs.Targets.{UserModule as User, ExportRef}
use Rattle.core_options.specs.Causes.{IsOptionRefusal, IsCauseAmong}
use Rattle.core_options.specs.MainOptions.{export_ref_of, IsAliasIf, NameOptions, HasLiftOptions}
use Rattle.core_options.specs.declared.modules.InstanceExport.{InstanceExport}
use Rattle.core_options.specs.declared.fault.StateFault.{StateFault}
use Rattle.core_options.proofs.OptionTerms.{fit_callback, fit_post_return}
use Rattle.core_options.proofs.Refusals.{one_export_refused}
use Rattle.main_exports.specs.Exports.{function_of}
use Rattle.main_exports.specs.Tables.{follower_in, follower_option}

-- an export that is there has its name
pub mapped_there : (o : Option InstanceExport) → IsSome o → IsSome (option_map export_ref_of o)
mapped_there None h = h
mapped_there (Some e) h = refl

-- the set of a function in its form, and the realloc, that is asked for
pub record AsksForLift (w : ComponentWorld) (of : User) (f : FunctionKey) (set : ℕ) (realloc : Option ExportRef) : Type 0 where
  pub needed : set ≡ lift_needs w (function_of of f)
  pub found : realloc ≡ lift_realloc w of

pub asks_for_lift : (w : ComponentWorld) (of : User) (form : AbiVariant) (f : FunctionKey) (function : Function) (set : ℕ) (realloc : Option ExportRef) → form ≡ form_of w (function_of of f) → function_exported w f.key f.function ≡ Some function →
    set ≡ export_set form w.resolve.types function → realloc ≡ lift_realloc w of → AsksForLift w of f set realloc
asks_for_lift w of form f function set realloc called there computed found = record {
  needed =
      computed ∙ (ap (λ (a : AbiVariant). export_set a w.resolve.types function) called
      ∙ sym (ap (λ (o : Option Function). option_map_or (export_set (form_of w (function_of of f)) w.resolve.types) o 0) there));
  found = found;
}

module _ (w : ComponentWorld) (of : User) (f : FunctionKey) (set : ℕ) (realloc : Option ExportRef) (a : AsksForLift w of f set realloc) where
  pub needed_named : (ds : List Def) (written : List CanonicalOption) (e : StringEncoding) → export_encoding w of f.key f.function ≡ Some e → NameOptions w ds written (options_in set realloc (Some e)) →
      NameOptions w ds written (needed_options w (function_of of f))
  needed_named ds written e encoded h =
      let of_function : NameOptions w ds written (options_in (lift_needs w (function_of of f)) realloc (Some e)) =
      subst (λ n. NameOptions w ds written (options_in n realloc (Some e))) a.needed h in
      let of_module : NameOptions w ds written (options_in (lift_needs w (function_of of f)) (lift_realloc w of) (Some e)) =
      subst (λ o. NameOptions w ds written (options_in (lift_needs w (function_of of f)) o (Some e))) a.found of_function in
      subst (λ o. NameOptions w ds written (options_in (lift_needs w (function_of of f)) (lift_realloc w of) o)) (sym encoded) of_module

  pub needed_there : (IsTrue (needs set 1) → IsSome (memory_of_main w.main)) → (IsTrue (needs set 2) → IsSome realloc) → HasLiftOptions w (function_of of f)
  needed_there memory own = record {
    memory = λ h. memory (subst (λ n. IsTrue (needs n 1)) (sym a.needed) h);
    realloc = λ h. subst (λ o. IsSome o) a.found (own (subst (λ n. IsTrue (needs n 2)) (sym a.needed) h));
  }

  pub needed_refused : (place : List ℕ) → place ≡ f.function → (e : StateFault) → IsOptionRefusal w set realloc place e → IsCauseAmong w [] (function_of of f ∷ []) e
  needed_refused place named e h = one_export_refused w (function_of of f) set place a.needed named e (subst (λ o. IsOptionRefusal w set o place e) a.found h)

-- ---- what is called behind a lift

-- the option that names it is the one that the link table names for the form
pub fit_follower : (w : ComponentWorld) (ds : List Def) (of : User) (form : AbiVariant) (index : Option ℕ) (post_return callback : Option (List ℕ)) → IsAliasIf w ds (option_map (export_of of) (follower_in form post_return callback)) index →
    NameOptions w ds (one_if (follower_option form) index) (form_option form (option_map (export_of of) post_return) (option_map (export_of of) callback))
fit_follower w ds of GuestExport (Some index) post_return callback alias = fit_post_return w ds (Some index) (option_map (export_of of) post_return) alias
fit_follower w ds of GuestExport None post_return callback alias = fit_post_return w ds None (option_map (export_of of) post_return) alias
fit_follower w ds of GuestExportAsync (Some index) post_return callback alias = fit_callback w ds (Some index) (option_map (export_of of) callback) alias
fit_follower w ds of GuestExportAsync None post_return callback alias = fit_callback w ds None (option_map (export_of of) callback) alias
fit_follower w ds of form None post_return callback alias = record { terms = []; are = tt; asked = tt }
fit_follower w ds of form (Some index) post_return callback alias = absurd alias
