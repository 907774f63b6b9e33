-- Bodies that are written one after the other, as a loop does.
use Rattle.std.proofs.Common.{◌≡◌, ℕ, zero, suc, ◌<◌, ◌≤◌, ◌+◌, Bool, Bor, List, [], ◌∷◌, ◌++◌, length, map, drop, get_or, refl, sym, ap, subst, ◌∙◌, arith}
use Rattle.std.proofs.lemmas.List.{length-map}
use Rattle.byte_encoding.specs.Encoding.{Encoding, Fits, each, named}
use Rattle.byte_encoding.specs.Written.{Refused}
use Rattle.byte_encoding.specs.declared.fault.BuildFault.{BuildFault}
use Rattle.byte_encoding.specs.declared.fault.BuildFault.TheVariants as builds
use Rattle.core_parts.specs.Functions.{is_exported}
use Rattle.core_parts.specs.declared.exports.ExportedIndex.{ExportedIndex}
use Rattle.core_parts.specs.Imports.{parts_view}
use Rattle.core_parts.specs.declared.imports.ImportParts.{ImportParts}
use Rattle.module_edits.specs.Additions.{entered_if, bodies_from}
use Rattle.module_edits.proofs.Remaining.{Remains, all_remains, next_at, none_of, next_written, none_left}

-- what the slices hold
abbrev pub held : List (Bor (List ℕ)) → List (List ℕ)
held bs = map (λ b. b.now) bs

-- what is left to be written at this place
abbrev pub left : List ExportedIndex → List ℕ → ℕ → List (Bor (List ℕ)) → ℕ → List (List ℕ)
left es call first bs place = bodies_from es call (first + place) (held (drop place bs))

pub bodies_start : (es : List ExportedIndex) (call : List ℕ) (first : ℕ) (bs : List (Bor (List ℕ))) (old : List ℕ) → Remains old old (each named (left es call first bs 0)) (each named (bodies_from es call first (held bs)))
bodies_start es call first bs old = let same : first + 0 ≡ first = omega arith in subst (λ (k : ℕ). Remains old old (each named (bodies_from es call k (held bs))) (each named (bodies_from es call first (held bs)))) (sym same) (all_remains old _)

next_left : (es : List ExportedIndex) (call : List ℕ) (first : ℕ) (bs : List (Bor (List ℕ))) (place : ℕ) (d : Bor (List ℕ)) → place < length bs
    → left es call first bs place ≡ entered_if (is_exported es (first + place)) call (get_or bs place d).now ∷ left es call first bs (place + 1)
next_left es call first bs place d lt =
    let same : first + place + 1 ≡ first + (place + 1) = omega arith in
    ap (bodies_from es call (first + place)) (next_at (λ (x : Bor (List ℕ)). x.now) bs place d lt) ∙ ap (λ k. entered_if (is_exported es (first + place)) call (get_or bs place d).now ∷ bodies_from es call k (held (drop (place + 1) bs))) same

pub body_written : (es : List ExportedIndex) (call : List ℕ) (first : ℕ) (bs : List (Bor (List ℕ))) (place : ℕ) (d : Bor (List ℕ)) (calls : Bool) (old mid new : List ℕ) → place < length bs → calls ≡ is_exported es (first + place)
    → Remains old mid (each named (left es call first bs place)) (each named (bodies_from es call first (held bs))) → (new ≡ mid ++ (named (entered_if calls call (get_or bs place d).now)).bytes) × Fits (named (entered_if calls call (get_or bs place d).now)).counts
    → Remains old new (each named (left es call first bs (place + 1))) (each named (bodies_from es call first (held bs)))
body_written es call first bs place d calls old mid new lt same r w =
    let given = subst (λ (t : Bool). (new ≡ mid ++ (named (entered_if t call (get_or bs place d).now)).bytes) × Fits (named (entered_if t call (get_or bs place d).now)).counts) same w in
    next_written named old mid new (entered_if (is_exported es (first + place)) call (get_or bs place d).now) (left es call first bs place) (left es call first bs (place + 1)) _ (next_left es call first bs place d lt) r given.0 given.1

pub bodies_end : (es : List ExportedIndex) (call : List ℕ) (first : ℕ) (bs : List (Bor (List ℕ))) (place : ℕ) (old new : List ℕ) → length bs ≤ place
    → Remains old new (each named (left es call first bs place)) (each named (bodies_from es call first (held bs))) → (new ≡ old ++ (each named (bodies_from es call first (held bs))).bytes) × Fits (each named (bodies_from es call first (held bs))).counts
bodies_end es call first bs place old new le r = none_left named old new (left es call first bs place) _ (ap (bodies_from es call (first + place)) (none_of (λ (x : Bor (List ℕ)). x.now) bs place le)) r

pub held_length : (bs : List (Bor (List ℕ))) → length (map (λ b. b.now) bs) ≡ length bs
held_length bs = length-map bs (λ b. b.now)

pub no_counts : (counts : List ℕ) (e : BuildFault) → Refused [] e → Refused counts e
no_counts counts builds.Memory r = tt
no_counts counts (builds.TooMany n) r = absurd (omega (arith, r.1.1))

pub parts_length : (is : List ImportParts) → length (map parts_view is) ≡ length is
parts_length is = length-map is parts_view
