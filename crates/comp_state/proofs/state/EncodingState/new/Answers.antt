use Rattle.std.proofs.Common.{sym, subst, None}
use Rattle.comp_state.specs.Tables.{IsEncoding}
use Rattle.comp_state.specs.declared.state.Step.TheVariants.{Started}
use Rattle.comp_state.proofs.Growth.{encoding-start}
use Rattle.comp_state.proofs.state.EncodingState.new.Goals as goal

pub invariant_of-result : goal.invariant_of-result
invariant_of-result c =
    let root = c.new.result in
    subst (λ w. IsEncoding w.now root.met root.items.defs root.maps root.instances Started c.new-2.result None) (sym c.new.ensures.world)
    (subst (λ n. IsEncoding c.args.world.now n root.items.defs root.maps root.instances Started c.new-2.result None) (sym c.new.ensures.met)
    (encoding-start c.args.world.now _ root.items root.maps root.instances c.new-2.result c.requires))
