-- Warnings as text: a line each, of the code and the path, each name of it in quotes. (This project's own.)
use Rattle.std.specs.Prelude.{ℕ, List, ◌++◌, codes}
use Rattle.std.specs.List.{flat_map}
use Rattle.comp_lines.specs.Texts.{quoted}
use Rattle.name_warnings.specs.declared.warning.Warning.{Warning}
use Rattle.name_warnings.specs.declared.warning.WarningKind.{WarningKind}
use Rattle.name_warnings.specs.declared.warning.WarningKind.TheVariants as kinds

abbrev pub code : WarningKind → List ℕ
code kinds.NotKebab = codes "L1 NotKebab"
code kinds.NameTwice = codes "L2 NameTwice"
code kinds.NameCase = codes "L3 NameCase"
code kinds.ResourceValue = codes "L4 ResourceValue"
code kinds.BorrowResult = codes "L5 BorrowResult"
code kinds.ConstructorResult = codes "L6 ConstructorResult"
code kinds.MethodSelf = codes "L7 MethodSelf"
code kinds.UnnamedType = codes "L8 UnnamedType"
code kinds.CharStream = codes "L9 CharStream"
code kinds.NoRecord = codes "L10 NoRecord"
code kinds.FieldMissing = codes "L11 FieldMissing"
code kinds.PostReturnAlone = codes "L12 PostReturnAlone"

-- a name of a path
abbrev pub place : List ℕ → List ℕ
place name = codes " " ++ quoted name

abbrev pub line : Warning → List ℕ
line w = code w.kind ++ (flat_map place w.path ++ codes "\n")

abbrev pub shown : List Warning → List ℕ
shown ws = flat_map line ws
