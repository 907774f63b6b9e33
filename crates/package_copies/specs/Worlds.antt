-- What the declarations of a world copy: each type as it is declared, and what is imported or
-- exported once more. Component model, binary format: `componentdecl`, `importdecl`, `exportdecl`.
use Rattle.std.specs.Prelude.{◌+◌, ◌*◌, ℕ, suc, min, nat_lt, List, [], ◌∷◌, ◌++◌, slice_get, Option, Some, None, if◌then◌else◌}
use Rattle.comp_bytes.specs.declared.types.Alias.{Alias}
use Rattle.comp_bytes.specs.declared.types.Alias.TheVariants as aliases
use Rattle.comp_bytes.specs.declared.types.Description.{Description}
use Rattle.comp_bytes.specs.declared.types.Description.TheVariants as descriptions
use Rattle.package_syntax.specs.declared.syntax.Declaration.{Declaration}
use Rattle.package_syntax.specs.declared.syntax.Declaration.TheVariants as declarations
use Rattle.package_copies.specs.declared.instances.Inside.{Inside}
use Rattle.package_copies.specs.declared.worlds.Counted.{Counted}
use Rattle.package_copies.specs.Weights.{sum, text_weight, entry_weight, type_weight}
use Rattle.package_copies.specs.Instances.{members_after, nothing}

-- how much a package of this length may copy: 64 for each byte, and 65,536 more
abbrev pub allowed : ℕ → ℕ
allowed n = min n 67108864 * 64 + 65536

abbrev pub start : Counted
start = record { scope = []; copies = 0 }

abbrev pub with_copies : Counted → ℕ → Counted
with_copies c weight = record { scope = c.scope; copies = sum c.copies weight }

abbrev pub with_type : Counted → ℕ → Counted
with_type c weight = record { scope = c.scope ++ weight ∷ []; copies = sum c.copies weight }

-- a type of which a use copies the name
abbrev pub with_name : Counted → List ℕ → Counted
with_name c name = with_type c (text_weight name)

abbrev pub instance_step : Counted → Inside → Counted
instance_step c i = record { scope = c.scope ++ i.content ∷ []; copies = sum c.copies i.copies }

abbrev pub alias_step : Counted → Alias → Counted
alias_step c (aliases.Export kind instance name) = with_name c name
alias_step c (aliases.Outer count index) = c
alias_step c (aliases.CoreExport kind instance name) = c

abbrev pub used : Counted → ℕ → Counted
used c index = with_copies c (entry_weight (slice_get c.scope index))

abbrev pub import_step : Counted → List ℕ → Description → Counted
import_step c name (descriptions.Func index) = used c index
import_step c name (descriptions.TypeEqual index) = with_name (used c index) name
import_step c name descriptions.SubResource = with_name c name
import_step c name (descriptions.Instance index) = used c index

abbrev pub export_step : Counted → Description → Counted
export_step c (descriptions.Func index) = used c index
export_step c (descriptions.TypeEqual index) = c
export_step c descriptions.SubResource = c
export_step c (descriptions.Instance index) = used c index

abbrev pub declaration_step : Counted → Declaration → Counted
declaration_step c (declarations.Type t) = with_type c (type_weight c.scope t)
declaration_step c (declarations.InstanceType t) = instance_step c (members_after c.scope t.members nothing)
declaration_step c (declarations.Alias a) = alias_step c a
declaration_step c (declarations.Import n d) = import_step c n.name d
declaration_step c (declarations.Export n d) = export_step c d

-- whether more is copied than the limit after a declaration; if not, what follows decides
abbrev pub over_or : ℕ → ℕ → Counted → Option ℕ → Option ℕ
over_or limit n c later = if nat_lt limit c.copies then Some n else later

-- the first of these declarations, whose first has this position, with which more is copied than the limit
abbrev pub first_over : ℕ → ℕ → List Declaration → Counted → Option ℕ
first_over limit n [] c = None
first_over limit n (d ∷ ds) c = over_or limit n (declaration_step c d) (first_over limit (suc n) ds (declaration_step c d))
