use Rattle.link_laws.proofs.Ordered.{modules_of}
use Rattle.link_laws.proofs.Runs.{composed, links}
use Rattle.link_laws.proofs.laws.built_lists_link.Goals as goal

pub returns : goal.returns
returns c = λ n w ds valid apart built. (modules_of w n.debug_names built.generated, composed n w ds built, links n w ds valid apart built)
