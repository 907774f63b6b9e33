use Rattle.std.proofs.Common.{◌++◌, ◌∷◌, [], refl, Ok, Err}
use Rattle.command_line.specs.Events.{events_of_put}
use Rattle.command_line.specs.declared.store.Event.TheVariants.{Put}
use Rattle.command_line.proofs.FilesRead.{two_happened}
use Rattle.command_line.proofs.Supplying.{not_put, put_none}
use Rattle.command_line.proofs.making.make.Goals as goal

pub returns-in_err-component-clause-made : goal.returns-in_err-component-clause-made
returns-in_err-component-clause-made g c =
    let made = c.in_err-component.ensures.composed in
    (made.0, made.1, put_none g.L.Lower c.args.lower c.args.arguments made.0 c.in_err-component.field-0.0 c.from_residual.result c.from_residual.ensures.1 made.2)

pub returns-in-Ok-clause-made : goal.returns-in-Ok-clause-made
returns-in-Ok-clause-made g c =
    let made = c.in_ok-component.ensures.composed in
    let put = Put c.as_str.result.now c.as_slice.result.now ∷ [] in (
      made.0 ++ put,
      two_happened (g.S.Store.events c.args.store.now) (g.S.Store.events c.component_of.new.store) (g.S.Store.events c.put.new.self) made.0 put made.1 c.in-Ok.ensures.event,
      record { reads = made.0; puts = put; in_order = refl; component = Ok c.in_ok-component.component; composed = made.2; is_put = (c.as_str.ensures, c.as_slice.ensures, refl) },
    )

pub returns-in-Err-clause-made : goal.returns-in-Err-clause-made
returns-in-Err-clause-made g c =
    let made = c.in_ok-component.ensures.composed in
    let put = events_of_put c.as_str.result.now c.as_slice.result.now (Err c.in-Err.fault) in (
      made.0 ++ put,
      two_happened (g.S.Store.events c.args.store.now) (g.S.Store.events c.component_of.new.store) (g.S.Store.events c.put.new.self) made.0 put made.1 c.in-Err.ensures.event,
      record {
        reads = made.0;
        puts = put;
        in_order = refl;
        component = Ok c.in_ok-component.component;
        composed = made.2;
        is_put = not_put c.args.arguments.out _ _ c.in_ok-component.component c.in-Err.fault c.put_fault.result c.as_str.ensures c.as_slice.ensures c.put_fault.ensures;
      },
    )
