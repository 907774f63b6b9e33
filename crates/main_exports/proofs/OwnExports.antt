-- What the instance of a user module exports, as the link table names it.
use Rattle.std.proofs.Common.{◌≡◌, ◌∙◌, ℕ, List, Option, Some, None, refl, sym, ap, ap₂, subst, IfSome}
use Rattle.std.specs.Map.{lookup}
use Rattle.std.specs.Option.{option_and_then, option_map, unwrap_or}
use Rattle.comp_bytes.specs.declared.def.Def.{Def}
use Rattle.comp_roles.specs.Functions.{is_same_function, of_function}
use Rattle.comp_roles.specs.declared.metadata.FunctionKey.{FunctionKey}
use Rattle.wit_data.specs.declared.functions.AbiVariant.{AbiVariant}
use Rattle.wit_data.specs.declared.functions.AbiVariant.TheVariants.{GuestExport, GuestExportAsync}
use Rattle.world_values.specs.CoreExports.{post_returns}
use Rattle.world_values.specs.ExportForms.{form_in, callback_in}
use Rattle.comp_worlds.specs.WorldContents.{core_name_in}
use Rattle.comp_worlds.specs.Worlds.{IsWorld}
use Rattle.comp_worlds.specs.declared.world.ComponentWorld.{ComponentWorld}
use Rattle.comp_worlds.specs.declared.world.ValidatedModule.{ValidatedModule}
use Rattle.comp_links.specs.Links.{core_name, export_of, post_return_of, callback_of, form_of}
use Rattle.comp_links.specs.Roles.{export_encoding}
use Rattle.comp_links.specs.Targets.{UserModule as User, ExportRef}
use Rattle.comp_terms.specs.Terms.{IsInstanceOf}
use Rattle.core_options.specs.MainOptions.{user_of, user_of_name, module_named, export_ref_of, IsInstanceExport, OffersFunction}
use Rattle.core_options.specs.declared.modules.InstanceExport.{InstanceExport}
use Rattle.core_options.proofs.Offered.{IsUserOf, listed_is_user, post_return_if_offered, callback_if_offered}
use Rattle.main_exports.specs.Exports.{exporter, function_of, IsOwnExport, IsOwnExportIf, IsUserInstance}
use Rattle.main_exports.specs.Tables.{AreTablesOf, follower_in}
use Rattle.main_exports.specs.declared.sources.ModuleExports.{ModuleExports}
use Rattle.main_exports.specs.declared.sources.UserInstance.{UserInstance}

-- it is an export of the module
pub own_ref : (e : ModuleExports) (name : List ℕ) (x : InstanceExport) → IsOwnExport e name x → export_ref_of x ≡ export_of (exporter e) name
own_ref e name x own = ap₂ (λ (of : User) (text : List ℕ). record { of = of; name = text }) (ap user_of_name own.of) own.named

pub own_refs : (e : ModuleExports) (name : Option (List ℕ)) (x : Option InstanceExport) → IsOwnExportIf e name x → option_map export_ref_of x ≡ option_map (export_of (exporter e)) name
own_refs e (Some name) (Some x) own = ap (λ (r : ExportRef). Some r) (own_ref e name x own)
own_refs e None None own = refl
own_refs e (Some name) None own = absurd own
own_refs e None (Some x) own = absurd own

-- one that validation found is there
pub own_instance : (w : ComponentWorld) (ds : List Def) (e : ModuleExports) → IsUserInstance w ds e.user → (name : List ℕ) (x : InstanceExport) → IsOwnExport e name x → OffersFunction e.user.found.now name → IsInstanceExport w ds x
own_instance w ds e user name x own offered = record {
  number = user.number;
  exporting = module_named e.user.which e.user.found.now;
  made = subst (λ i. IsInstanceOf ds i user.number) (sym own.instance) user.made;
  listed = user.listed;
  same = sym (ap user_of_name own.of);
  offered = subst (OffersFunction e.user.found.now) (sym own.named) offered;
}

pub own_instances : (w : ComponentWorld) (ds : List Def) (e : ModuleExports) → IsUserInstance w ds e.user → (name : Option (List ℕ)) (x : Option InstanceExport) → IsOwnExportIf e name x → IfSome name (OffersFunction e.user.found.now) → IfSome x (IsInstanceExport w ds)
own_instances w ds e user (Some name) (Some x) own offered = own_instance w ds e user name x own offered
own_instances w ds e user None None own offered = tt
own_instances w ds e user (Some name) None own offered = absurd own
own_instances w ds e user None (Some x) own offered = absurd own

-- ---- what the link table finds in the module

module _ (w : ComponentWorld) (ds : List Def) (u : UserInstance) (h : IsUserInstance w ds u) where
  -- what holds of user modules holds of it
  pub is_user : IsWorld w → IsUserOf w u.found.now
  is_user ok = listed_is_user w ok h.number (module_named u.which u.found.now) h.listed

  -- the core export that implements a function, its form, its post-return, its callback, and its
  -- string encoding
  pub core_there : (f : FunctionKey) → core_name w (function_of (user_of u.which) f) ≡ core_name_in u.found.now.exports.exports f.key f.function
  core_there f = ap (option_and_then (λ (m : ValidatedModule). core_name_in m.exports.exports f.key f.function)) h.named

  pub post_return_there : (f : FunctionKey) → post_return_of w (function_of (user_of u.which) f) ≡ of_function f.key f.function (post_returns u.found.now.exports.exports)
  post_return_there f = ap (option_and_then (λ (m : ValidatedModule). of_function f.key f.function (post_returns m.exports.exports))) h.named

  pub form_there : (f : FunctionKey) → form_of w (function_of (user_of u.which) f) ≡ unwrap_or (form_in u.found.now.exports.exports f.key f.function) GuestExport
  form_there f = ap (λ (o : Option ValidatedModule). unwrap_or (option_and_then (λ (m : ValidatedModule). form_in m.exports.exports f.key f.function) o) GuestExport) h.named

  pub callback_there : (f : FunctionKey) → callback_of w (function_of (user_of u.which) f) ≡ callback_in u.found.now.exports.exports f.key f.function
  callback_there f = ap (option_and_then (λ (m : ValidatedModule). callback_in m.exports.exports f.key f.function)) h.named

  pub encoding_there : (f : FunctionKey) → export_encoding w (user_of u.which) f.key f.function ≡ of_function f.key f.function u.found.now.metadata.export_encodings
  encoding_there f = ap (option_and_then (λ (m : ValidatedModule). of_function f.key f.function m.metadata.export_encodings)) h.named

-- ---- what is called behind a function

follower_offered : (form : AbiVariant) (P : List ℕ → Type 0) (post_return callback : Option (List ℕ)) → IfSome post_return P → IfSome callback P → IfSome (follower_in form post_return callback) P
follower_offered GuestExport P post_return callback returned called = returned
follower_offered GuestExportAsync P post_return callback returned called = called
follower_offered form P post_return callback returned called = tt

module _ (w : ComponentWorld) (ds : List Def) (e : ModuleExports) (user : IsUserInstance w ds e.user) (tabled : AreTablesOf e.user.found.now.exports.exports e.tables) (form : AbiVariant) (f : FunctionKey) where
  -- the form that the tables give is that of the link table
  pub form_is : form ≡ unwrap_or (lookup (is_same_function f) e.tables.entries.forms) GuestExport → form ≡ form_of w (function_of (exporter e) f)
  form_is given = given ∙ (ap (λ (o : Option AbiVariant). unwrap_or o GuestExport) (tabled.entries.forms f) ∙ sym (form_there w ds e.user user f))

  -- so is what they give behind it
  pub follower_is : follower_in form (lookup (is_same_function f) e.tables.followers.post_returns) (lookup (is_same_function f) e.tables.followers.callbacks)
      ≡ follower_in form (post_return_of w (function_of (exporter e) f)) (callback_of w (function_of (exporter e) f))
  follower_is =
      ap₂ (λ (p : Option (List ℕ)) (k : Option (List ℕ)). follower_in form p k) (tabled.followers.post_returns f ∙ sym (post_return_there w ds e.user user f)) (tabled.followers.callbacks f ∙ sym (callback_there w ds e.user user f))

  -- and it is a function that validation found
  pub follower_there : IsWorld w → IfSome (follower_in form (post_return_of w (function_of (exporter e) f)) (callback_of w (function_of (exporter e) f))) (OffersFunction e.user.found.now)
  follower_there ok =
      let of : IsUserOf w e.user.found.now = is_user w ds e.user user ok in
      follower_offered form (OffersFunction e.user.found.now) (post_return_of w (function_of (exporter e) f)) (callback_of w (function_of (exporter e) f))
      (subst (λ (o : Option (List ℕ)). IfSome o (OffersFunction e.user.found.now)) (sym (post_return_there w ds e.user user f)) (post_return_if_offered w e.user.found.now of f.key f.function))
      (subst (λ (o : Option (List ℕ)). IfSome o (OffersFunction e.user.found.now)) (sym (callback_there w ds e.user user f)) (callback_if_offered w e.user.found.now of f.key f.function))
