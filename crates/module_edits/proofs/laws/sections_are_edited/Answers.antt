use Rattle.module_edits.proofs.EditedSections as edited_sections
use Rattle.module_edits.proofs.laws.sections_are_edited.Goals as goal

pub returns : goal.returns
returns c = edited_sections.sections_edited
