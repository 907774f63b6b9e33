use Rattle.std.proofs.Common.{◌≡◌, ◌∙◌, ap₂, List, ℕ, [], true, is_some, subst, sym, slice_index_or}
use Rattle.std.specs.List.{AllByRecursion}
use Rattle.std.specs.Map.{lookup}
use Rattle.wit_data.specs.declared.functions.Function.{Function}
use Rattle.wit_data.specs.declared.ids.InterfaceId.{InterfaceId}
use Rattle.wit_data.specs.declared.ids.TypeId.{TypeId}
use Rattle.world_values.specs.Items.{functions_of}
use Rattle.type_scopes.specs.Foreign.{met_in_all, with_each}
use Rattle.type_scopes.specs.Interfaces.{used_among}
use Rattle.type_scopes.specs.contracts.outer_type.OuterTypePartialEq.TheImpl as same_type
use Rattle.type_scopes.specs.declared.outer_type.OuterType.{OuterType}
use Rattle.comp_links.specs.Lists.{needed_types}
use Rattle.comp_imports.specs.Interfaces.{IsOfferable}
use Rattle.comp_imports.proofs.ListedFunctions.{functions_at}
use Rattle.comp_imports.proofs.OuterTypes.{all_offerable, all_offered}
use Rattle.comp_imports.proofs.TypeNeeds.{met_earlier, needed_present}
use Rattle.comp_imports.proofs.interface_types.outer_types.Goals as goal

pub foreign_types-requires-clause-types : goal.foreign_types-requires-clause-types
foreign_types-requires-clause-types c = needed_present c.args.root.now.world.now c.requires.valid c.args.interface c.requires.imported c.args.needed.now c.requires.needed

pub add_outer_types-requires-clause-offerable : goal.add_outer_types-requires-clause-offerable
add_outer_types-requires-clause-offerable c =
    let w = c.args.root.now.world.now in
    let here : InterfaceId = c.args.interface in
    let fs : List (List ℕ × Function) = (slice_index_or c.as_slice.result.now c.args.interface.index c.index-as_slice-interface.result).functions in
    let same : fs ≡ functions_of w.resolve here = functions_at w.resolve here c.as_slice.result.now c.index-as_slice-interface.result c.as_slice.ensures c.requires.present in
    let met : c.in_ok-met.met ≡ with_each [] (met_in_all w.resolve.types here (needed_types w here) (used_among c.args.used.now (functions_of w.resolve here))) =
    c.in_ok-met.ensures ∙ ap₂ (λ (ts : List TypeId) (es : List (List ℕ × Function)). with_each [] (met_in_all w.resolve.types here ts (used_among c.args.used.now es))) c.requires.needed same in
    subst (AllByRecursion (λ (e : OuterType × Unit {0}). IsOfferable w c.args.root.now.instances e.0)) (sym met)
    (all_offerable w c.args.root.now.instances here (met_in_all w.resolve.types here (needed_types w here) (used_among c.args.used.now (functions_of w.resolve here))) c.requires.earlier (met_earlier w c.requires.valid here c.args.used.now c.requires.imported c.requires.used c.requires.functions))

pub returns-clause-offered : goal.returns-clause-offered
returns-clause-offered c =
    let w = c.args.root.now.world.now in
    let here : InterfaceId = c.args.interface in
    let fs : List (List ℕ × Function) = (slice_index_or c.as_slice.result.now c.args.interface.index c.index-as_slice-interface.result).functions in
    let same : fs ≡ functions_of w.resolve here = functions_at w.resolve here c.as_slice.result.now c.index-as_slice-interface.result c.as_slice.ensures c.requires.present in
    let met : c.in_ok-met.met ≡ with_each [] (met_in_all w.resolve.types here (needed_types w here) (used_among c.args.used.now (functions_of w.resolve here))) =
    c.in_ok-met.ensures ∙ ap₂ (λ (ts : List TypeId) (es : List (List ℕ × Function)). with_each [] (met_in_all w.resolve.types here ts (used_among c.args.used.now es))) c.requires.needed same in
    let table : List (OuterType × ℕ) = c.in_ok-table.table in
    record {
      offered = c.in_ok-table.ensures.offered;
      all = all_offered w (met_in_all w.resolve.types here (needed_types w here) (used_among c.args.used.now (functions_of w.resolve here))) table
          (subst (AllByRecursion (λ (e : OuterType × Unit {0}). is_some (lookup (same_type.eq-value.it e.0) table) ≡ true)) met c.in_ok-table.ensures.all);
    }
