use Rattle.comp_lines.proofs.items.put_instantiate.Goals as goal

pub returns : goal.returns
returns g c = rw c.as_slice.ensures at c.put_with_each.ensures
