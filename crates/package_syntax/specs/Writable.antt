-- What every value of the program has, and a list of mere numbers may lack: its texts are UTF-8, and its indices are
-- below 2 ^ 32. Core standard, binary format: values (integers, names).
use Rattle.std.specs.Prelude.{List}
use Rattle.std.specs.List.{AllByRecursion}
use Rattle.std.specs.Str.{IsUtf8}
use Rattle.part_readers.specs.Writable.{IsTypeDef, IsInstanceType, IsAlias, IsExternName, IsDescription}
use Rattle.package_syntax.specs.declared.syntax.Declaration.{Declaration}
use Rattle.package_syntax.specs.declared.syntax.Declaration.TheVariants as declarations
use Rattle.package_syntax.specs.declared.syntax.WorldType.{WorldType}
use Rattle.package_syntax.specs.declared.syntax.Section.{Section}
use Rattle.package_syntax.specs.declared.syntax.Section.TheVariants as sections

abbrev pub IsDeclaration : Declaration → Type 0
IsDeclaration (declarations.Type t) = IsTypeDef t
IsDeclaration (declarations.InstanceType t) = IsInstanceType t
IsDeclaration (declarations.Alias a) = IsAlias a
IsDeclaration (declarations.Import name description) = IsExternName name × IsDescription description
IsDeclaration (declarations.Export name description) = IsExternName name × IsDescription description

abbrev pub IsWorldType : WorldType → Type 0
IsWorldType w = AllByRecursion IsDeclaration w.declarations × IsExternName w.id

abbrev pub IsSection : Section → Type 0
IsSection (sections.Custom name contents) = IsUtf8 name
IsSection (sections.World w) = IsWorldType w
IsSection (sections.Export name) = IsExternName name

-- sections that a program can hold
abbrev pub IsWritable : List Section → Type 0
IsWritable ss = AllByRecursion IsSection ss
