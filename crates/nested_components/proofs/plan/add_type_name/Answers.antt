use Rattle.std.proofs.Common.{◌≡◌, ℕ, List, None, sym, subst}
use Rattle.std.specs.Map.{lookup}
use Rattle.std.specs.Str.{bytes_eq}
use Rattle.nested_terms.specs.Naming.{type_import_name}
use Rattle.nested_components.proofs.Naming.{free_absent}
use Rattle.nested_components.proofs.plan.add_type_name.Goals as goal

pub insert-requires : goal.insert-requires
insert-requires c =
    subst (λ (n : List ℕ). lookup (bytes_eq n) c.args.taken.now ≡ None) (sym c.in_ok-key.ensures) (free_absent c.args.taken.now (type_import_name c.name_of.result.now) c.in_ok-name.name c.in_ok-name.ensures)
