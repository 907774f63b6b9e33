-- What has its size in front is read to its end.
use Rattle.std.proofs.Common.{◌≡◌, ℕ, List, [], ◌∷◌, Option, Some, None, ap, sym, ◌∙◌}
use Rattle.std.proofs.lemmas.List.{append-nil}
use Rattle.byte_encoding.specs.Encoding.{Encoding, sized}
use Rattle.byte_encoding.proofs.Readers.{Read, Reader, Reads, read_then, name_from, name_reads}

-- a value with nothing after it
abbrev pub ended : {A B : Type 0} → (A → B) → Read A → Option B
ended make None = None
ended make (Some p) = elim p.1 [ [] ↦ Some (make p.0) | b ∷ bs ↦ None ]

-- a reader of all bytes
abbrev pub whole_from : {A B : Type 0} → (A → B) → Reader A → List ℕ → Option B
whole_from make r bs = ended make (r bs)

pub whole : {A B : Type 0} {f : A → Encoding} {r : Reader A} → Reads f r → (make : A → B) (x : A) → whole_from make r (f x).bytes ≡ Some (make x)
whole {A} {B} {f} {r} h make x = ap (λ l. ended make (r l)) (sym (append-nil (f x).bytes)) ∙ ap (λ o. ended make o) (h.again x [])

abbrev pub with_rest : {A : Type 0} → Option A → List ℕ → Read A
with_rest None rest = None
with_rest (Some x) rest = Some (x, rest)

abbrev pub sized_from : {A : Type 0} → (List ℕ → Option A) → Reader A
sized_from r bs = read_then (name_from bs) (λ contents rest. with_rest (r contents) rest)

pub sized_reads : {A : Type 0} {f : A → Encoding} (r : List ℕ → Option A) → ((x : A) → r (f x).bytes ≡ Some x) → Reads (λ x. sized (f x)) (sized_from r)
sized_reads {A} {f} r h = record {
  again = λ x rest.
      ap (λ o. read_then o (λ contents rest. with_rest (r contents) rest)) (name_reads.again (f x).bytes rest)
      ∙ ap (λ o. with_rest o rest) (h x);
}
