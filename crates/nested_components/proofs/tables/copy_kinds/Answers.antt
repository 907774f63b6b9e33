use Rattle.std.proofs.Common.{◌≡◌, ◌∙◌, ap, sym, subst, ◌++◌, None}
use Rattle.std.specs.Map.{lookup}
use Rattle.wit_data.specs.declared.types.TypeDefKind.{TypeDefKind}
use Rattle.wit_data.specs.contracts.types.TypeDefKindPartialEq.TheImpl as same_kind
use Rattle.nested_components.proofs.Copying.{kind_absent}
use Rattle.nested_components.proofs.tables.copy_kinds.Goals as goal

pub insert-requires : goal.insert-requires
insert-requires c =
    subst (λ (k : TypeDefKind). lookup (same_kind.eq-value.it k) c.loop-kind.copy ≡ None) (sym c.in_ok-try_clone.ensures)
    (kind_absent c.loop-kind.copy c.next.new.self c.args.table.now c.in-Some.kind.now c.in-Some.index.now (ap (λ es. c.loop-kind.copy ++ es) (sym c.in-Some.ensures.steps) ∙ c.loop-kind.invariant.2) c.iter-kind-items.ensures.unique)
