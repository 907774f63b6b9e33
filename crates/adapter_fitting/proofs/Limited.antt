-- Indices that are checked before what has them is written.
use Rattle.std.proofs.Common.{◌≡◌, ℕ, List, [], ◌∷◌, ◌++◌, Result, Ok, Err, ap, subst, ◌∙◌}
use Rattle.byte_encoding.specs.Encoding.{Encoding, Fits, ◌⊕◌}
use Rattle.byte_encoding.specs.Written.{Writes}
use Rattle.byte_encoding.specs.declared.fault.BuildFault.{BuildFault}
use Rattle.byte_encoding.proofs.Pieces.{fits_append, refused_right}
use Rattle.core_sections.specs.Sections.{Piece}
use Rattle.core_parts.specs.declared.exports.ExportedIndex.{ExportedIndex}
use Rattle.module_edits.specs.Additions.{with_function}
use Rattle.adapter_fitting.specs.declared.checks.NewIndices.{NewIndices}
use Rattle.adapter_fitting.specs.declared.indices.Indices.{Indices}
use Rattle.adapter_fitting.specs.declared.indices.StackIndices.{StackIndices}
use Rattle.adapter_fitting.specs.Allocation.{allocation}
use Rattle.adapter_fitting.specs.Fitting.{limited, limits_of, added_at, stack_function, stacked}
use Rattle.adapter_fitting.specs.MainRealloc.{realloc_name, function_export, realloc_function, with_realloc}

limited_first : (counts : List ℕ) (e : Encoding) (old new : List ℕ) (r : Result Unit BuildFault) → Fits counts → Writes old new r e → Writes old new r (limited counts ⊕ e)
limited_first counts e old new (Ok x) f w = (w.0, fits_append counts e.counts f w.1)
limited_first counts e old new (Err d) f w = refused_right d counts e.counts w

pub stack_written : (old new : List ℕ) (r : Result Unit BuildFault) (es : List ExportedIndex) (n : NewIndices) (realloc : ℕ) (x : StackIndices) (ps : List Piece) → (n ≡ added_at x.indices) × Fits (limits_of x.indices)
    → (realloc ≡ x.realloc) × Fits (x.realloc ∷ []) → Writes old new r (with_function es n.first (stack_function n (allocation realloc x.globals).bytes) ps) → Writes old new r (stacked es x ps)
stack_written old new r es n realloc x ps i a w =
    limited_first (limits_of x.indices ++ x.realloc ∷ []) _ old new r (fits_append (limits_of x.indices) (x.realloc ∷ []) i.1 a.1)
    (subst (λ (m : NewIndices). Writes old new r (with_function es m.first (stack_function m (allocation x.realloc x.globals).bytes) ps)) i.0
    (subst (λ (k : ℕ). Writes old new r (with_function es n.first (stack_function n (allocation k x.globals).bytes) ps)) a.0 w))

pub realloc_written : (old new : List ℕ) (r : Result Unit BuildFault) (n : NewIndices) (x : Indices) (ps : List Piece) → (n ≡ added_at x) × Fits (limits_of x)
    → Writes old new r (with_function [] n.first (realloc_function n (function_export realloc_name n.index).bytes) ps) → Writes old new r (with_realloc x ps)
realloc_written old new r n x ps i w =
    limited_first (limits_of x) _ old new r i.1 (subst (λ (m : NewIndices). Writes old new r (with_function [] m.first (realloc_function m (function_export realloc_name m.index).bytes) ps)) i.0 w)

-- a function that was made in a buffer
pub with_buffer : (P : List ℕ → Type 0) (slice buffer start whole : List ℕ) → slice ≡ buffer → buffer ≡ start ++ whole → start ≡ [] → P slice → P whole
with_buffer P slice buffer start whole a b e p = subst P (a ∙ b ∙ ap (λ (l : List ℕ). l ++ whole) e) p
