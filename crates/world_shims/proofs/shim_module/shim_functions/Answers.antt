use Rattle.std.proofs.Common.{subst}
use Rattle.world_shims.proofs.Listing.{ListedSoFar, one_more}
use Rattle.world_shims.proofs.shim_module.shim_functions.Goals as goal

pub loop-shim-preserved : goal.loop-shim-preserved
loop-shim-preserved c =
    let types = c.loop-shim.types in
    let functions = c.loop-shim.functions.items in
    let before = subst (ListedSoFar c.args.shims.now types functions) c.in-Some.ensures.steps c.loop-shim.invariant.2 in (
      tt,
      tt,
      one_more c.args.shims.now types c.add_function.new.types functions c.add_function.new.functions.items c.in-Some.shim.now c.next.new.self before
          c.in_ok-add_function.ensures.types c.in_ok-add_function.ensures.functions c.in_ok-add_function.ensures.room,
    )
