use Rattle.core_bytes.proofs.KeptSections as kept_sections
use Rattle.core_bytes.proofs.laws.other_sections_kept.Goals as goal

pub returns : goal.returns
returns c = kept_sections.other_sections_kept
