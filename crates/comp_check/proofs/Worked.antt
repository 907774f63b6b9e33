-- Examples of faults, worked out.
use Rattle.std.proofs.Common.{ℕ, [], ◌∷◌, None, inl, inr, refl, arith}
use Rattle.comp_bytes.specs.References.{own}
use Rattle.comp_bytes.specs.declared.space.Space.TheVariants as spaces
use Rattle.comp_bytes.specs.declared.types.TypeDef.TheVariants as types
use Rattle.comp_bytes.specs.declared.types.Alias.TheVariants as aliases
use Rattle.comp_bytes.specs.declared.types.Member.TheVariants as members
use Rattle.comp_bytes.specs.declared.def.Item.{Item}
use Rattle.comp_bytes.specs.declared.def.Item.TheVariants as items
use Rattle.comp_bytes.specs.declared.def.Def.{Def}
use Rattle.comp_bytes.specs.declared.def.Def.TheVariants as defs
use Rattle.comp_check.specs.Indexes.{IsIndexFault}

a_type : Def
a_type = defs.Item (items.Type (types.Resource None))

-- a type of the scope that is so many scopes outward
outward : ℕ → ℕ → Item
outward count index = items.Alias (aliases.Outer count index)

-- After a nested component of one item, on line 3, an alias names type 1: the only type is 0.
after_component : IsIndexFault (a_type ∷ defs.Component (outward 1 0 ∷ []) ∷ defs.Item (outward 0 1) ∷ []) 3 spaces.Type 1
unfolding a_type outward
after_component = record {
  before = a_type ∷ defs.Component (outward 1 0 ∷ []) ∷ [];
  within = 0;
  fault =
      record {
        faulty = defs.Item (outward 0 1);
        after = [];
        parts = refl;
        fault = (refl, inl (record { reference = own spaces.Type 1; named = (0, omega arith, refl); missing = (refl, refl, omega arith) }));
      };
  line_is = refl;
}

-- In that component, on line 2, an alias counts two scopes outward: only the component around it exists.
no_scope : IsIndexFault (a_type ∷ defs.Component (outward 2 0 ∷ []) ∷ []) 2 spaces.Component 2
unfolding a_type outward
no_scope = record {
  before = a_type ∷ [];
  within = 1;
  fault =
      record {
        faulty = defs.Component (outward 2 0 ∷ []);
        after = [];
        parts = refl;
        fault = (
          [],
          record {
            faulty = outward 2 0;
            after = [];
            parts = refl;
            fault = inl (record { reference = record { outward = 2; space = spaces.Type; index = 0 }; named = (0, omega arith, refl); missing = (refl, refl) });
          },
          refl,
        );
      };
  line_is = refl;
}

-- A member of an instance type counts as the definition of that type: on line 1, the first member names its own scope,
-- which has no item yet.
in_member : IsIndexFault (a_type ∷ defs.Item (items.InstanceType (record { members = members.Alias (aliases.Outer 0 0) ∷ [] })) ∷ []) 1 spaces.Type 0
unfolding a_type
in_member = record {
  before = a_type ∷ [];
  within = 0;
  fault =
      record {
        faulty = defs.Item (items.InstanceType (record { members = members.Alias (aliases.Outer 0 0) ∷ [] }));
        after = [];
        parts = refl;
        fault = (
          refl,
          inr (
            [],
            record {
              faulty = members.Alias (aliases.Outer 0 0);
              after = [];
              parts = refl;
              fault = record { reference = own spaces.Type 0; named = (0, omega arith, refl); missing = (refl, refl, omega arith) };
            },
          ),
        );
      };
  line_is = refl;
}
