use Rattle.std.proofs.Common.{refl}
use Rattle.record_imports.proofs.Groups.{put_known, put_new, lacks}
use Rattle.record_imports.proofs.grouping.put_field.Goals as goal

pub add_field-requires-clause-below : goal.add_field-requires-clause-below
add_field-requires-clause-below c =
    (lacks _ _ _ _ _ _ c.in-Some.ensures c.requires.indexed refl c.requires.absent).0

pub add_field-requires-clause-absent : goal.add_field-requires-clause-absent
add_field-requires-clause-absent c =
    (lacks _ _ _ _ _ _ c.in-Some.ensures c.requires.indexed refl c.requires.absent).1

pub returns-in-Some-clause-put : goal.returns-in-Some-clause-put
returns-in-Some-clause-put c =
    (put_known c.add_field.result _ _ _ _ _ _ _ c.in-Some.ensures c.requires.indexed refl c.add_field.ensures.positions c.add_field.ensures.groups).0

pub returns-in-Some-clause-indexed : goal.returns-in-Some-clause-indexed
returns-in-Some-clause-indexed c =
    (put_known c.add_field.result _ _ _ _ _ _ _ c.in-Some.ensures c.requires.indexed refl c.add_field.ensures.positions c.add_field.ensures.groups).1

pub returns-in-None-clause-put : goal.returns-in-None-clause-put
returns-in-None-clause-put c =
    (put_new c.add_group.result _ _ _ _ _ _ _ c.in-None.ensures c.requires.indexed refl refl c.add_group.ensures.positions c.add_group.ensures.groups).0

pub returns-in-None-clause-indexed : goal.returns-in-None-clause-indexed
returns-in-None-clause-indexed c =
    (put_new c.add_group.result _ _ _ _ _ _ _ c.in-None.ensures c.requires.indexed refl refl c.add_group.ensures.positions c.add_group.ensures.groups).1
