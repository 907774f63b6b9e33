-- The instances from which a fixup module imports, and their names. (The names are this project's own.)
use Rattle.std.specs.Prelude.{ℕ, Bool, List, nat_eq, codes}
use Rattle.std.specs.Ordering.{on, eq_of_both}
use Rattle.std.specs.Str.{bytes_eq}
use Rattle.fixup_modules.specs.declared.instances.ImportedInstance.{ImportedInstance}
use Rattle.fixup_modules.specs.declared.instances.ImportedInstance.TheVariants as instances

-- the name of the argument that is the instance
abbrev pub instance_name : ImportedInstance → List ℕ
instance_name instances.Shim = codes "shim"
instance_name instances.Main = codes "main"
instance_name instances.Actual = codes "actual"
instance_name (instances.Adapter name) = name

abbrev pub instance_kind : ImportedInstance → ℕ
instance_kind instances.Shim = 0
instance_kind instances.Main = 1
instance_kind instances.Actual = 2
instance_kind (instances.Adapter name) = 3

-- the same instance: an adapter may have the name of another one
abbrev pub is_same_instance : ImportedInstance → ImportedInstance → Bool
is_same_instance = eq_of_both (on instance_kind nat_eq) (on instance_name bytes_eq)
