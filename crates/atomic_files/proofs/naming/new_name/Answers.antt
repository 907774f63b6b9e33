use Rattle.atomic_files.proofs.Folders.{named}
use Rattle.atomic_files.proofs.naming.new_name.Goals as goal

pub returns : goal.returns
returns c = named _ _ c.args.name.now c.args.number c.in_ok-new.ensures.ok c.folder-folder.ensures
