use Rattle.comp_read.proofs.Whole.{found, refused}
use Rattle.comp_read.proofs.component.read_component.Goals as goal

pub returns : goal.returns
returns c = record {
  ok = found c.args.bytes.now c.component.result c.component.ensures;
  cause = refused c.args.bytes.now c.component.result c.component.ensures;
}
