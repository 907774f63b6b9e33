use Rattle.std.proofs.Common.{map}
use Rattle.core_sections.specs.Sections.{view}
use Rattle.adapter_fitting.proofs.Limited.{realloc_written}
use Rattle.adapter_fitting.proofs.main_realloc.put_with_realloc.Goals as goal

pub returns : goal.returns
returns c =
    realloc_written c.args.out.now.items c.put_realloc_at.new.out.items c.put_realloc_at.result c.in_ok-new.new c.args.indices (map view c.args.sections.now) c.in_ok-new.ensures c.put_realloc_at.ensures
