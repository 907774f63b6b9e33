use Rattle.std.proofs.Common.{◌≡◌, ℕ, List, sym, subst, true, Some}
use Rattle.std.specs.List.{AllByRecursion}
use Rattle.wit_data.specs.declared.ids.TypeId.{TypeId}
use Rattle.wit_data.specs.declared.types.Type.TheVariants.{Id}
use Rattle.wit_data.specs.declared.types.TypeDef.{TypeDef}
use Rattle.foreign_types.specs.Foreign.{is_covered, AreForeignTypes}
use Rattle.foreign_types.specs.Walking.{Lists, ListedPass}
use Rattle.foreign_types.proofs.Walking.{all_foreign}
use Rattle.foreign_types.proofs.interface.all_foreign_types.Goals as goal

pub returns : goal.returns
returns c =
    let types = c.args.resolve.now.types in
    let here = c.args.interface in
    let named : List (List ℕ × TypeId) = c.args.types.now in
    let first = c.new-walk.result in
    let mid = c.meet_listed.new.walk in
    let last = c.meet_functions.new.walk in
    let listed = c.in_ok-meet_listed.ensures in
    let functions = c.in_ok-meet_functions.ensures in
    subst (AreForeignTypes types here named c.args.functions.now) (sym c.into_listed.ensures)
    (all_foreign types here c.requires.sound.back named c.args.functions.now first.listed mid.listed last c.new-walk.ensures.listed
    (subst (λ (ts : List TypeDef). AllByRecursion (λ (t : List ℕ × TypeId). is_covered ts here mid.listed (Some (Id t.1)) ≡ true) named) c.as_slice.ensures listed.covered)
    (subst (λ (ts : List TypeDef). Lists ts first.listed mid.listed (ListedPass ts named)) c.as_slice.ensures listed.lists) functions.right functions.covered functions.lists)
