use Rattle.std.proofs.Common.{◌≡◌, ◌++◌, take}
use Rattle.std.specs.List.{flat_map}
use Rattle.byte_encoding.specs.Encoding.{Fits}
use Rattle.byte_encoding.proofs.number.put_each.Given as goal

abbrev pub invariant-loop-item : goal.invariant-loop-item
invariant-loop-item g l =
    (l.out.items ≡ l.fn.out.items ++ flat_map (λ x. (g.T.Encode.encoding x).bytes) (take l.item-index l.items)) × Fits (flat_map (λ x. (g.T.Encode.encoding x).counts) (take l.item-index l.items))
