use Rattle.std.proofs.Common.{ℕ, List, [], map}
use Rattle.byte_encoding.specs.Written.{Writes}
use Rattle.core_sections.specs.Sections.{view}
use Rattle.module_edits.specs.Additions.{with_function}
use Rattle.adapter_fitting.specs.MainRealloc.{realloc_name, function_export, realloc_function}
use Rattle.adapter_fitting.proofs.Limited.{with_buffer}
use Rattle.adapter_fitting.proofs.main_realloc.put_realloc_at.Goals as goal

pub returns : goal.returns
returns c =
    with_buffer (λ (e : List ℕ). Writes c.args.out.now.items c.put_with_export.new.out.items c.put_with_export.result (with_function [] c.args.indices.first (realloc_function c.args.indices e) (map view c.args.sections.now)))
    c.as_slice.result.now c.put_realloc_export.new.out.items c.new-export.result.items (function_export realloc_name c.args.indices.index).bytes c.as_slice.ensures.value c.in_ok-put_realloc_export.ensures.0 c.new-export.ensures.items c.put_with_export.ensures
