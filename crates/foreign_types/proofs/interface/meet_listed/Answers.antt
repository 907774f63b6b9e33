use Rattle.std.proofs.Common.{◌≡◌, ◌∙◌, ◌<◌, ℕ, List, length, sym, subst, true, Some}
use Rattle.std.specs.List.{AllByRecursion}
use Rattle.wit_data.specs.declared.ids.TypeId.{TypeId}
use Rattle.wit_data.specs.declared.types.Type.TheVariants.{Id}
use Rattle.foreign_types.specs.Foreign.{is_covered, type_passes}
use Rattle.foreign_types.proofs.Covering.{covered_more}
use Rattle.foreign_types.proofs.Walking.{EntriesTo, entries_none, entries_more}
use Rattle.foreign_types.proofs.interface.meet_listed.Goals as goal

pub loop-id-init : goal.loop-id-init
loop-id-init c =
    let types = c.args.types.now in
    let here = c.args.here in
    let all : c.into_iter-id-iterator.result ≡ c.args.listed.now = c.into_iter-id-iterator.ensures.into_iter_gives ∙ c.iter-id-items.ensures.rest in (
      tt,
      tt,
      record {
        right = c.requires.right;
        so_far = subst (λ (es : List (List ℕ × TypeId)). EntriesTo types (λ ids (t : List ℕ × TypeId). is_covered types here ids (Some (Id t.1)) ≡ true) (λ t test. type_passes test types t.1) c.args.listed.now es c.args.walk.now.listed c.args.walk.now.listed) (sym all)
            (entries_none types (λ ids (t : List ℕ × TypeId). is_covered types here ids (Some (Id t.1)) ≡ true) (λ t test. type_passes test types t.1) c.args.listed.now c.args.walk.now.listed);
        present = subst (λ (es : List (List ℕ × TypeId)). AllByRecursion (λ t. t.1.index < length types) es) (sym all) c.requires.present;
      },
    )

pub loop-id-preserved : goal.loop-id-preserved
loop-id-preserved c =
    let types = c.args.types.now in
    let here = c.args.here in
    let t : List ℕ × TypeId = (c.in-Some.field-0-0.now, c.in-Some.id.now) in
    let i = c.loop-id.invariant.2 in
    let of = c.in_ok-meet_type.ensures in (
      tt,
      tt,
      record {
        right = of.right;
        so_far = entries_more types (λ ids (t : List ℕ × TypeId). is_covered types here ids (Some (Id t.1)) ≡ true) (λ t test. type_passes test types t.1) c.args.listed.now c.args.walk.now.listed
            (λ ids more x h. covered_more types here c.requires.back ids more (Some (Id x.1)) h) c.loop-id.walk.listed c.meet_type.new.walk.listed t c.next.new.self
            (subst (λ (es : List (List ℕ × TypeId)). EntriesTo types (λ ids (t : List ℕ × TypeId). is_covered types here ids (Some (Id t.1)) ≡ true) (λ t test. type_passes test types t.1) c.args.listed.now es c.args.walk.now.listed c.loop-id.walk.listed) c.in-Some.ensures.steps i.so_far)
            of.covered of.lists;
        present = (subst (λ (es : List (List ℕ × TypeId)). AllByRecursion (λ t. t.1.index < length types) es) c.in-Some.ensures.steps i.present).1;
      },
    )
