use Rattle.std.proofs.Common.{◌≡◌, ◌++◌, ◌∷◌, [], ◌-◌, ◌≤◌, ◌∙◌, ℕ, List, length, take, drop, true, nat_eq, map, sym, refl, arith}
use Rattle.std.proofs.lemmas.Grind.{common_steps}
use Rattle.std.specs.List.{starts_with}
use Rattle.std.proofs.lemmas.List.{map_push, length-drop}
use Rattle.core_sections.specs.Sections.{view, preamble}
use Rattle.core_sections.proofs.Loop.{starts, continues}
use Rattle.core_sections.proofs.sections.sections_of.Goals as goal

pub loop-rest-init : goal.loop-rest-init
loop-rest-init c =
    let bytes : List ℕ = c.args.bytes.now in
    let long : 8 ≤ length bytes = grind (arith, c.if-not-starts_with.ensures.bound) in
    let all : take (length bytes - 8) (drop 8 bytes) ≡ drop 8 bytes = grind (arith, common_steps) in
    let same : starts_with nat_eq bytes preamble ≡ true = sym c.starts_with.ensures.value ∙ c.if-not-starts_with.false in
    rw (c.new-sections.ensures.items, all) (starts bytes (drop 8 bytes) same refl (omega (arith, length-drop 8 bytes)))

pub loop-rest-preserved : goal.loop-rest-preserved
loop-rest-preserved c =
    let e : map view c.push.new.self.items ≡ map view c.loop-rest.sections.items ++ view c.in-Some.section ∷ [] = rw c.in_ok-push.ensures.items (map_push _ c.loop-rest.sections.items c.in-Some.section) in
    rw e (continues _ _ _ _ _ (sym c.in-Some.ensures.value) c.in-Some.ensures.shorter c.loop-rest.invariant)
