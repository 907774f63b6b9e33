-- What is written by whether the parts could be read.
use Rattle.std.proofs.Common.{◌≡◌, ℕ, List, Option, Some, None, Result, subst}
use Rattle.byte_encoding.specs.Encoding.{raw}
use Rattle.byte_encoding.specs.Written.{Writes}
use Rattle.byte_encoding.specs.declared.fault.BuildFault.{BuildFault}
use Rattle.core_sections.specs.Sections.{Piece}
use Rattle.core_bytes.specs.Renaming.{Part, renamed, by_parts}

pub unread : (old new : List ℕ) (r : Result Unit BuildFault) (bytes name : List ℕ) (ps : List Piece) (o : Option (List Part)) → None ≡ o → Writes old new r (raw bytes) → Writes old new r (by_parts bytes name ps o)
unread old new r bytes name ps o e w = subst (λ (o : Option (List Part)). Writes old new r (by_parts bytes name ps o)) e w

pub read : (old new : List ℕ) (r : Result Unit BuildFault) (bytes name : List ℕ) (ps : List Piece) (o : Option (List Part)) (parts : List Part) → Some parts ≡ o → Writes old new r (renamed name ps parts) → Writes old new r (by_parts bytes name ps o)
read old new r bytes name ps o parts e w = subst (λ (o : Option (List Part)). Writes old new r (by_parts bytes name ps o)) e w
