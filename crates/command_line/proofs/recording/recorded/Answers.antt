use Rattle.std.proofs.Common.{refl}
use Rattle.command_line.proofs.Recorded.{one_recorded, none_recorded}
use Rattle.command_line.proofs.recording.recorded.Goals as goal

pub returns-in-Ok : goal.returns-in-Ok
returns-in-Ok g c =
    one_recorded c.new.result c.args.given.items c.in-Ok.made.items c.from_vec.result c.new.ensures c.from_vec.ensures c.in-Ok.ensures.ok (c.in-Ok.ensures.refused refl) (c.in-Ok.ensures.one_encoding refl)

pub returns-in-Err : goal.returns-in-Err
returns-in-Err g c =
    none_recorded c.new.result c.args.given.items c.in-Err.fault c.recording_fault.result c.new.ensures c.recording_fault.ensures c.in-Err.ensures.cause
