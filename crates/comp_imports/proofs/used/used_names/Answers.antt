use Rattle.std.proofs.Common.{◌≡◌, ◌||◌, ◌&&◌, ◌∷◌, ℕ, Bool, List, is_some, subst}
use Rattle.std.specs.List.{list_any}
use Rattle.std.specs.Map.{lookup}
use Rattle.std.specs.Str.{bytes_eq}
use Rattle.comp_lists.specs.Found.{found}
use Rattle.wit_data.specs.declared.functions.Function.{Function}
use Rattle.world_values.specs.Items.{functions_of}
use Rattle.comp_links.specs.Roles.{is_used_of}
use Rattle.comp_imports.specs.Interfaces.{is_same_function}
use Rattle.comp_imports.proofs.UsedFunctions.{names_step}
use Rattle.comp_imports.proofs.used.used_names.Goals as goal

pub loop-name-preserved : goal.loop-name-preserved
loop-name-preserved c =
    let p = is_used_of c.args.world.now c.args.interface in
    let name : List ℕ = c.in-Some.name.now in
    let whole : List ℕ → Bool = λ text. list_any (λ f. bytes_eq text f.0 && p f.0) (functions_of c.args.world.now.resolve c.args.interface) in
    let before : (text : List ℕ) → (is_some (found text c.loop-name.used) || list_any (λ f. bytes_eq text f.0 && p f.0) ((name, c.in-Some.field-0-1.now) ∷ c.next.new.self)) ≡ whole text =
    subst (λ (es : List (List ℕ × Function)). (text : List ℕ) → (is_some (found text c.loop-name.used) || list_any (λ f. bytes_eq text f.0 && p f.0) es) ≡ whole text) c.in-Some.ensures.steps c.loop-name.invariant.2 in (
      tt,
      tt,
      names_step p c.loop-name.used c.add_if_used.new.used name (is_some (lookup (is_same_function (record { interface = c.args.interface; name = name })) c.args.uses.now)) c.in-Some.field-0-1.now c.next.new.self whole
          (c.requires.uses.each (record { interface = c.args.interface; name = name })) c.in_ok-add_if_used.ensures before,
    )
