use Rattle.std.proofs.Common.{◌≡◌, ◌∙◌, ◌++◌, [], ℕ, List, Option, subst, sym, IfSome}
use Rattle.std.specs.Option.{option_copied, option_map}
use Rattle.comp_options.specs.OptionLists.{one_if}
use Rattle.comp_links.specs.Links.{post_return_of, callback_of, export_of, form_of, form_option, needed_options, lift_options}
use Rattle.comp_terms.specs.Rules.{Grows}
use Rattle.comp_items.proofs.Extending.{extends_then}
use Rattle.comp_items.proofs.Remembering.{longer}
use Rattle.root_imports.specs.Growing.{Grows-then}
use Rattle.wit_data.specs.declared.functions.AbiVariant.{AbiVariant}
use Rattle.core_options.specs.MainOptions.{export_ref_of, IsInstanceExport, IsAliasIf, NameOptions}
use Rattle.core_options.proofs.OptionTerms.{fit_append, fit_kept}
use Rattle.root_imports.specs.Keeping.{Root}
use Rattle.main_exports.specs.Exports.{exporter, function_of, IsOwnExportIf}
use Rattle.main_exports.specs.Tables.{follower_in, follower_option}
use Rattle.main_exports.proofs.Growth.{user-kept}
use Rattle.main_exports.proofs.NeededOptions.{fit_follower}
use Rattle.main_exports.proofs.OwnExports.{form_is, follower_is, follower_there, own_refs, own_instances}
use Rattle.main_exports.proofs.sources.ModuleExports.lift_options.Goals as goal

pub needed_options-requires-clause-called : goal.needed_options-requires-clause-called
needed_options-requires-clause-called c =
    let e = c.args.self.now in
    form_is c.args.root.now.world.now c.args.root.now.items.defs e c.requires.exports.user c.requires.exports.tabled c.form-form.result c.args.required.now c.form-form.ensures

pub alias_if-requires : goal.alias_if-requires
alias_if-requires c =
    let w = c.args.root.now.world.now in
    let f = c.args.required.now in
    let mid = c.needed_options.new.root.items.defs in
    let e = c.args.self.now in
    let r = function_of (exporter e) f in
    let form = c.form-form.result in
    let name : Option (List ℕ) = follower_in form (post_return_of w r) (callback_of w r) in
    let found_name : option_copied c.follower.result ≡ name = c.follower.ensures ∙ follower_is w c.args.root.now.items.defs e c.requires.exports.user c.requires.exports.tabled form f in
    let own : IsOwnExportIf e name c.own_export_if-export.result = subst (λ o. IsOwnExportIf e o c.own_export_if-export.result) found_name c.own_export_if-export.ensures in
    let made : IfSome c.own_export_if-export.result (IsInstanceExport w mid) =
    own_instances w mid e (user-kept (longer c.in_ok-options.ensures.extends) c.requires.exports.user) name c.own_export_if-export.result own
    (follower_there w c.args.root.now.items.defs e c.requires.exports.user c.requires.exports.tabled form f c.requires.exports.valid.valid) in
    record { made = subst (λ (r : Root). IfSome c.own_export_if-export.result (IsInstanceExport r.world.now mid)) (sym c.in_ok-options.ensures.same) made }

pub returns-clause-grows : goal.returns-clause-grows
returns-clause-grows c =
    let second : Grows c.args.root.now.world.now c.needed_options.new.root.items.defs c.alias_if.new.root.items.defs [] =
    subst (λ (r : Root). Grows r.world.now c.needed_options.new.root.items.defs c.alias_if.new.root.items.defs []) c.in_ok-options.ensures.same c.in_ok-follower.ensures.grows in
    Grows-then c.in_ok-options.ensures.grows second

pub returns-clause-named : goal.returns-clause-named
returns-clause-named c =
    let w = c.args.root.now.world.now in
    let f = c.args.required.now in
    let ds = c.alias_if.new.root.items.defs in
    let e = c.args.self.now in
    let r = function_of (exporter e) f in
    let form = c.form-form.result in
    let name : Option (List ℕ) = follower_in form (post_return_of w r) (callback_of w r) in
    let called : form ≡ form_of w r = form_is w c.args.root.now.items.defs e c.requires.exports.user c.requires.exports.tabled form f c.form-form.ensures in
    let found_name : option_copied c.follower.result ≡ name = c.follower.ensures ∙ follower_is w c.args.root.now.items.defs e c.requires.exports.user c.requires.exports.tabled form f in
    let own : IsOwnExportIf e name c.own_export_if-export.result = subst (λ o. IsOwnExportIf e o c.own_export_if-export.result) found_name c.own_export_if-export.ensures in
    let alias : IsAliasIf w ds (option_map (export_of (exporter e)) name) c.in_ok-follower.follower =
    subst (λ o. IsAliasIf w ds o c.in_ok-follower.follower) (own_refs e name c.own_export_if-export.result own)
    (subst (λ (r : Root). IsAliasIf r.world.now ds (option_map export_ref_of c.own_export_if-export.result) c.in_ok-follower.follower) c.in_ok-options.ensures.same c.in_ok-follower.ensures.alias) in
    let needed : NameOptions w ds c.in_ok-options.options (needed_options w r) =
    fit_kept w c.needed_options.new.root.items.defs ds (longer c.in_ok-follower.ensures.extends) c.in_ok-options.options (needed_options w r) c.in_ok-options.ensures.named in
    let all : NameOptions w ds (c.in_ok-options.options ++ one_if (follower_option form) c.in_ok-follower.follower) (needed_options w r ++ form_option form (option_map (export_of (exporter e)) (post_return_of w r)) (option_map (export_of (exporter e)) (callback_of w r))) =
    fit_append w ds c.in_ok-options.options (one_if (follower_option form) c.in_ok-follower.follower) (needed_options w r) (form_option form (option_map (export_of (exporter e)) (post_return_of w r)) (option_map (export_of (exporter e)) (callback_of w r))) needed
    (fit_follower w ds (exporter e) form c.in_ok-follower.follower (post_return_of w r) (callback_of w r) alias) in
    let said : NameOptions w ds (c.in_ok-options.options ++ one_if (follower_option form) c.in_ok-follower.follower) (lift_options w r) =
    subst (λ (a : AbiVariant). NameOptions w ds (c.in_ok-options.options ++ one_if (follower_option form) c.in_ok-follower.follower) (needed_options w r ++ form_option a (option_map (export_of (exporter e)) (post_return_of w r)) (option_map (export_of (exporter e)) (callback_of w r)))) called all in
    subst (λ os. NameOptions w ds os (lift_options w r)) (sym c.in_ok-push_follower.ensures) said

pub returns-in_err-follower-clause-extends : goal.returns-in_err-follower-clause-extends
returns-in_err-follower-clause-extends c = extends_then c.args.root.now.items c.needed_options.new.root.items c.alias_if.new.root.items c.in_ok-options.ensures.extends c.alias_if.ensures.extends

pub returns-in_err-push_follower-clause-extends : goal.returns-in_err-push_follower-clause-extends
returns-in_err-push_follower-clause-extends c = extends_then c.args.root.now.items c.needed_options.new.root.items c.alias_if.new.root.items c.in_ok-options.ensures.extends c.in_ok-follower.ensures.extends

pub returns-clause-extends : goal.returns-clause-extends
returns-clause-extends c = extends_then c.args.root.now.items c.needed_options.new.root.items c.alias_if.new.root.items c.in_ok-options.ensures.extends c.in_ok-follower.ensures.extends
