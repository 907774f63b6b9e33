use Rattle.std.proofs.Common.{◌++◌, ◌∷◌, [], refl, Ok, Err}
use Rattle.command_line.specs.Events.{events_of_put}
use Rattle.command_line.specs.declared.store.Event.TheVariants.{Put}
use Rattle.command_line.proofs.FilesRead.{two_happened}
use Rattle.command_line.proofs.Recorded.{none_put}
use Rattle.command_line.proofs.Supplying.{not_put}
use Rattle.command_line.proofs.recording.put_recorded.Goals as goal

pub returns-in_err-made-clause-recorded : goal.returns-in_err-made-clause-recorded
returns-in_err-made-clause-recorded g c =
    let read = c.in_err-made.ensures.read in
    (read.0, read.1, none_put c.args.out c.args.file read.0 c.in_err-made.field-0.0 c.from_residual.result c.from_residual.ensures.1 read.2)

pub returns-in-Ok-clause-recorded : goal.returns-in-Ok-clause-recorded
returns-in-Ok-clause-recorded g c =
    let read = c.in_ok-made.ensures.read in
    let put = Put c.as_str.result.now c.as_slice.result.now ∷ [] in (
      read.0 ++ put,
      two_happened (g.S.Store.events c.args.store.now) (g.S.Store.events c.recorded_file.new.store) (g.S.Store.events c.put.new.self) read.0 put read.1 c.in-Ok.ensures.event,
      record { reads = read.0; puts = put; in_order = refl; recorded = Ok c.in_ok-made.made; made = read.2; is_put = (c.as_str.ensures, c.as_slice.ensures, refl) },
    )

pub returns-in-Err-clause-recorded : goal.returns-in-Err-clause-recorded
returns-in-Err-clause-recorded g c =
    let read = c.in_ok-made.ensures.read in
    let put = events_of_put c.as_str.result.now c.as_slice.result.now (Err c.in-Err.fault) in (
      read.0 ++ put,
      two_happened (g.S.Store.events c.args.store.now) (g.S.Store.events c.recorded_file.new.store) (g.S.Store.events c.put.new.self) read.0 put read.1 c.in-Err.ensures.event,
      record {
        reads = read.0;
        puts = put;
        in_order = refl;
        recorded = Ok c.in_ok-made.made;
        made = read.2;
        is_put = not_put c.args.out _ _ c.in_ok-made.made c.in-Err.fault c.put_fault.result c.as_str.ensures c.as_slice.ensures c.put_fault.ensures;
      },
    )
