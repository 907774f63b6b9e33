use Rattle.package_syntax.proofs.Whole.{found, refused}
use Rattle.package_syntax.proofs.sections.read_sections.Goals as goal

pub returns : goal.returns
returns c = record {
  ok = found c.args.bytes.now c.package.result c.package.ensures;
  cause = refused c.args.bytes.now c.package.result c.package.ensures;
  exact = c.package.ensures;
}
