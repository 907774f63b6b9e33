use Rattle.std.proofs.Common.{ap, sym, refl, Some}
use Rattle.wit_data.specs.declared.types.Type.TheVariants.{Id}
use Rattle.comp_trees.specs.DefinedTrees.{OfValues}
use Rattle.wit_types.proofs.Growing.{denotes_as}
use Rattle.wit_types.proofs.Permitting.{same_tree}
use Rattle.wit_types.proofs.calls.record_type_index.Goals as goal

pub record_type-requires-clause-denotes : goal.record_type-requires-clause-denotes
record_type-requires-clause-denotes g c =
    let s = g.E.ValtypeEncoder.setting c.args.encoder.now in
    denotes_as c.requires.denotes refl (ap OfValues (sym (same_tree s s.types (Some (Id c.args.id)) refl)))
