use Rattle.std.proofs.Common.{◌≡◌, ◌∷◌, ◌++◌, ◌∙◌, [], map, sym, refl}
use Rattle.std.proofs.lemmas.List.{map_push}
use Rattle.core_bytes.specs.Renaming.{part_view}
use Rattle.core_bytes.proofs.Parts.{part_start, part_step, part_bad, part_end}
use Rattle.core_bytes.proofs.part.read_parts.Goals as goal

pub loop-rest-init : goal.loop-rest-init
loop-rest-init c = rw c.new-parts.ensures.items (part_start _ _ refl)

pub loop-rest-preserved : goal.loop-rest-preserved
loop-rest-preserved c =
    let e : map part_view c.push.new.self.items ≡ map part_view c.loop-rest.parts.items ++ part_view c.in-Some.part ∷ [] = rw c.in_ok-push.ensures.items (map_push _ c.loop-rest.parts.items c.in-Some.part) in
    rw e (part_step _ _ _ _ _ (sym c.in-Some.ensures.value) c.in-Some.ensures.shorter c.loop-rest.invariant)

pub returns-in_default : goal.returns-in_default
returns-in_default c = part_bad _ _ _ (sym c.in_default.ensures.value) (sym c.is_empty.ensures ∙ c.loop-rest-test.true) c.loop-rest.invariant

pub returns : goal.returns
returns c = part_end _ _ _ (sym c.is_empty.ensures ∙ c.loop-rest-test.false) c.loop-rest.invariant
