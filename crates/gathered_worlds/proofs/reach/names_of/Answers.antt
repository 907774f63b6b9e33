use Rattle.std.proofs.Common.{◌∷◌, ℕ, List, subst}
use Rattle.record_merge.specs.declared.bindgen.Bindgen.{Bindgen}
use Rattle.world_values.specs.declared.gathered.GatheredAdapter.{GatheredAdapter}
use Rattle.gathered_worlds.specs.Arguments.{Adapters}
use Rattle.gathered_worlds.proofs.Names.{NamesSoFar, is_new}
use Rattle.gathered_worlds.proofs.reach.names_of.Goals as goal

pub add_name-requires : goal.add_name-requires
add_name-requires c =
    let all = c.args.adapters.now in
    let names = c.loop-name.names in
    let entry : List ℕ × GatheredAdapter Bindgen = (c.in-Some.name.now, c.in-Some.field-0-1.now) in
    let before : NamesSoFar all (entry ∷ c.next.new.self) names = subst (λ (rest : Adapters). NamesSoFar all rest names) c.in-Some.ensures.steps c.loop-name.invariant.2 in
    is_new all c.next.new.self entry.0 entry.1 names before c.loop-name.invariant.3
