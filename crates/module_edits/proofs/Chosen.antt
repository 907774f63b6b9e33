-- A section of code or of imports that can be read, or not.
use Rattle.std.proofs.Common.{ℕ, ◌≡◌, List, [], Option, Some, None, Result, subst}
use Rattle.byte_encoding.specs.Encoding.{raw}
use Rattle.byte_encoding.specs.Written.{Writes}
use Rattle.byte_encoding.specs.declared.fault.BuildFault.{BuildFault}
use Rattle.core_parts.specs.declared.exports.ExportedIndex.{ExportedIndex}
use Rattle.core_parts.specs.Imports.{Parts}
use Rattle.module_edits.specs.Additions.{Added, code_of}
use Rattle.module_edits.specs.Renaming.{Renamed, imports_of}

pub unread : (old new : List ℕ) (r : Result Unit BuildFault) (es : List ExportedIndex) (first : ℕ) (f : Added) (contents : List ℕ) (read : Option (List (List ℕ))) → None ≡ read
    → Writes old new r (raw contents) → Writes old new r (code_of es first f contents read)
unread old new r es first f contents read e w = subst (λ (o : Option (List (List ℕ))). Writes old new r (code_of es first f contents o)) e w

pub read : (old new : List ℕ) (r : Result Unit BuildFault) (es : List ExportedIndex) (first : ℕ) (f : Added) (contents : List ℕ) (given : Option (List (List ℕ))) (bs : List (List ℕ)) → Some bs ≡ given
    → Writes old new r (code_of es first f [] (Some bs)) → Writes old new r (code_of es first f contents given)
read old new r es first f contents given bs e w = subst (λ (o : Option (List (List ℕ))). Writes old new r (code_of es first f contents o)) e w

-- ---- the same of a section of imports

pub unread_imports : (old new : List ℕ) (r : Result Unit BuildFault) (n : Renamed) (contents : List ℕ) (given : Option (List Parts)) → None ≡ given
    → Writes old new r (raw contents) → Writes old new r (imports_of n contents given)
unread_imports old new r n contents given e w = subst (λ (o : Option (List Parts)). Writes old new r (imports_of n contents o)) e w

pub read_imports : (old new : List ℕ) (r : Result Unit BuildFault) (n : Renamed) (contents : List ℕ) (given : Option (List Parts)) (is : List Parts) → Some is ≡ given
    → Writes old new r (imports_of n [] (Some is)) → Writes old new r (imports_of n contents given)
read_imports old new r n contents given is e w = subst (λ (o : Option (List Parts)). Writes old new r (imports_of n contents o)) e w
