use Rattle.std.proofs.Common.{◌≡◌, ◌<◌, length, true, Some}
use Rattle.std.specs.List.{AllByRecursion}
use Rattle.wit_data.specs.declared.types.Type.TheVariants.{Id}
use Rattle.foreign_types.specs.Foreign.{is_covered, type_passes}
use Rattle.foreign_types.specs.Walking.{IsWalk}
use Rattle.foreign_types.proofs.Walking.{EntriesTo}
use Rattle.foreign_types.proofs.interface.meet_listed.Given as goal

abbrev pub invariant-loop-id : goal.invariant-loop-id
invariant-loop-id l =
    goal.iterator-loop-id.can_next l.id-iterator ×
    goal.iterator-loop-id.is_finite l.id-iterator ×
    record {
      right : IsWalk l.types l.here l.walk;
      so_far : EntriesTo l.types (λ ids t. is_covered l.types l.here ids (Some (Id t.1)) ≡ true) (λ t test. type_passes test l.types t.1) l.listed l.id-iterator l.fn.walk.listed l.walk.listed;
      present : AllByRecursion (λ t. t.1.index < length l.types) l.id-iterator;
    }
