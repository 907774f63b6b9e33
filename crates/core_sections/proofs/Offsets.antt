-- The offset of a section: the size of the preamble and of the sections before it.
use Rattle.std.proofs.Common.{◌≡◌, ℕ, ◌+◌, List, [], ◌∷◌, ◌++◌, length, Ok, refl, ap, arith}
use Rattle.std.specs.List.{flat_map}
use Rattle.std.proofs.lemmas.List.{length-append}
use Rattle.std.proofs.lemmas.List.Concat.{flat_map-cons}
use Rattle.core_sections.specs.Sections.{Piece, preamble, pieces_of}
use Rattle.core_sections.proofs.Modules.{module_takes}

-- how many bytes these sections have
abbrev pub size_of : List Piece → ℕ
size_of [] = 0
size_of (p ∷ ps) = length p.whole + size_of ps

length-pieces : (ps : List Piece) → length (flat_map (λ p. p.whole) ps) ≡ size_of ps
length-pieces [] = refl
length-pieces (p ∷ ps) =
    let f = λ (q : Piece). q.whole in
    omega (arith, ap length (flat_map-cons f p ps), length-append p.whole (flat_map f ps), length-pieces ps)

pub all_before : (bytes : List ℕ) (ps : List Piece) → pieces_of bytes ≡ Ok ps → 8 + size_of ps ≡ length bytes
all_before bytes ps e =
    let m = module_takes bytes ps e in
    omega (arith, ap length m.encoded, length-append preamble (flat_map (λ (q : Piece). q.whole) ps), length-pieces ps)
