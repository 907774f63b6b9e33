use Rattle.std.proofs.Common.{◌∙◌, List, sym, subst}
use Rattle.std.specs.List.{AllByRecursion}
use Rattle.wit_data.specs.declared.ids.TypeId.{TypeId}
use Rattle.nested_components.specs.Planning.{HasName}
use Rattle.nested_components.proofs.ForeignTypes.{all_have_names}
use Rattle.nested_components.proofs.OwnResources.{own_have_names}
use Rattle.nested_components.proofs.plan.plan_imports.Goals as goal

pub choose_type_names-requires : goal.choose_type_names-requires
choose_type_names-requires c =
    let types = c.args.resolve.now.types in
    record {
      named = subst (λ (ids : List TypeId). AllByRecursion (HasName types) ids) (sym c.as_slice.ensures)
          (all_have_names types c.args.interface c.args.types.now c.args.functions.now c.requires.sound.back c.requires.home c.in_ok-ids.ids c.in_ok-ids.ensures);
    }

pub choose_type_names-requires-2 : goal.choose_type_names-requires-2
choose_type_names-requires-2 c =
    let types = c.args.resolve.now.types in
    record {
      named = subst (λ (ids : List TypeId). AllByRecursion (HasName types) ids) (sym (c.as_slice-2.ensures ∙ c.in_ok-own.ensures)) (own_have_names types c.args.interface c.args.types.now c.requires.home.titled);
    }
