use Rattle.std.proofs.Common.{◌≡◌, ◌++◌, map, string_bytes, take, drop, get_or, Some, []}
use Rattle.std.specs.List.{flat_map}
use Rattle.byte_encoding.specs.Encoding.{Fits}
use Rattle.comp_bytes.specs.Spaces.{ordinal}
use Rattle.comp_bytes.specs.declared.space.Space.{Space}
use Rattle.comp_lines.specs.Lines.{made, scope_lines}
use Rattle.comp_lines.proofs.listing.put_scope.Given as goal

abbrev pub invariant-loop-item : goal.invariant-loop-item
invariant-loop-item g l = record {
  printed : map string_bytes l.out.items ++ scope_lines g.T.Listed.space g.T.Listed.lines (take l.item-index l.items) (drop l.item-index l.items) ≡ map string_bytes l.fn.out.items ++ scope_lines g.T.Listed.space g.T.Listed.lines [] l.items;
  counted : (s : Space) → get_or l.counters (ordinal s) 0 ≡ made g.T.Listed.space (Some s) (take l.item-index l.items);
  fits : Fits (flat_map g.T.Listed.counts (take l.item-index l.items));
}
