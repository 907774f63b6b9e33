-- The faults of a check, and the cause of each. Component model, binary format; explainer: names.
use Rattle.std.specs.Prelude.{ℕ, List}
use Rattle.comp_bytes.specs.Scopes.{Scoped}
use Rattle.comp_bytes.specs.declared.def.Def.{Def}
use Rattle.comp_read.specs.Causes.{IsRefusal}
use Rattle.comp_read.specs.declared.fault.ReadFault.{ReadFault}
use Rattle.comp_read.specs.declared.fault.ReadFault.TheVariants as reads
use Rattle.comp_names.specs.Names.{NamesOk, IsNameFault}
use Rattle.comp_names.specs.declared.fault.NameFault.{NameFault}
use Rattle.comp_names.specs.declared.fault.NameFault.TheVariants as names
use Rattle.comp_check.specs.declared.fault.IndexFault.{IndexFault}
use Rattle.comp_check.specs.declared.fault.CheckFault.{CheckFault}
use Rattle.comp_check.specs.declared.fault.CheckFault.TheVariants as checks
use Rattle.comp_check.specs.Indexes.{IsIndexFault}

-- a fault of reading, as one of the check
abbrev pub of_read : ReadFault → CheckFault
of_read reads.Memory = checks.Memory
of_read (reads.Grammar place) = checks.Grammar place

abbrev pub of_index : IndexFault → CheckFault
of_index f = checks.Index f.definition f.space f.index

abbrev pub of_name : NameFault → CheckFault
of_name names.Memory = checks.Memory
of_name (names.Twice name) = checks.NameTwice name
of_name (names.Form name) = checks.NameForm name

-- Why bytes are not read.
abbrev pub IsUnread : List ℕ → CheckFault → Type 0
IsUnread bytes checks.Memory = Unit {0}
IsUnread bytes (checks.Grammar place) = IsRefusal bytes (reads.Grammar place)
IsUnread bytes _ = ⊥

-- The conditions for definitions of a component: each index names an earlier item of its space, names are distinct
-- in their lists, and those of imports and exports are well formed.
abbrev pub IsRight : List Def → Type 0
IsRight ds = Scoped ds × NamesOk ds

-- Why definitions are not accepted. Out of memory is always allowed.
abbrev pub IsUnchecked : List Def → CheckFault → Type 0
IsUnchecked ds checks.Memory = Unit {0}
IsUnchecked ds (checks.Index definition space index) = IsIndexFault ds definition space index
IsUnchecked ds (checks.NameTwice name) = IsNameFault ds (names.Twice name)
IsUnchecked ds (checks.NameForm name) = IsNameFault ds (names.Form name)
IsUnchecked ds _ = ⊥
