-- What instance types copy: each type as it is declared, and once more where it is exported.
-- Component model, binary format: `instancetype`, `instancedecl`.
use Rattle.std.specs.Prelude.{ℕ, List, [], ◌∷◌, ◌++◌, slice_get}
use Rattle.comp_bytes.specs.declared.types.Alias.{Alias}
use Rattle.comp_bytes.specs.declared.types.Alias.TheVariants as aliases
use Rattle.comp_bytes.specs.declared.types.Description.{Description}
use Rattle.comp_bytes.specs.declared.types.Description.TheVariants as descriptions
use Rattle.comp_bytes.specs.declared.types.Member.{Member}
use Rattle.comp_bytes.specs.declared.types.Member.TheVariants as members
use Rattle.package_copies.specs.declared.instances.Inside.{Inside}
use Rattle.package_copies.specs.Weights.{sum, text_weight, entry_weight, type_weight}

abbrev pub nothing : Inside
nothing = record { scope = []; copies = 0; content = 0 }

abbrev pub with_entry : Inside → ℕ → Inside
with_entry i weight = record { scope = i.scope ++ weight ∷ []; copies = sum i.copies weight; content = i.content }

abbrev pub with_exported : Inside → ℕ → Inside
with_exported i weight = record { scope = i.scope; copies = sum i.copies weight; content = sum i.content weight }

abbrev pub alias_step : List ℕ → Inside → Alias → Inside
alias_step outer i (aliases.Outer count index) = with_entry i (entry_weight (slice_get outer index))
alias_step outer i (aliases.Export kind instance name) = i
alias_step outer i (aliases.CoreExport kind instance name) = i

-- from now on, a use of an exported type copies its name
abbrev pub export_step : Inside → List ℕ → Description → Inside
export_step i name (descriptions.TypeEqual index) = with_entry (with_exported i (entry_weight (slice_get i.scope index))) (text_weight name)
export_step i name descriptions.SubResource = with_entry (with_exported i 1) (text_weight name)
export_step i name (descriptions.Func index) = with_exported i (entry_weight (slice_get i.scope index))
export_step i name (descriptions.Instance index) = i

abbrev pub member_step : List ℕ → Inside → Member → Inside
member_step outer i (members.Type t) = with_entry i (type_weight i.scope t)
member_step outer i (members.Alias a) = alias_step outer i a
member_step outer i (members.Export n d) = export_step i n.name d

abbrev pub members_after : List ℕ → List Member → Inside → Inside
members_after outer [] i = i
members_after outer (m ∷ ms) i = members_after outer ms (member_step outer i m)
