-- Worked examples: three methods whose names become one, and two functions that are free already.
use Rattle.std.proofs.Common.{◌≡◌, ℕ, zero, suc, ◌<◌, true, List, [], ◌∷◌, refl, None, arith}
use Rattle.std.specs.Fmt.{digits}
use Rattle.std.specs.Prelude.{codes}
use Rattle.wit_data.specs.declared.functions.Function.{Function}
use Rattle.wit_data.specs.declared.functions.FunctionKind.TheVariants as kinds
use Rattle.nested_terms.specs.Naming.{plain_import_name, numbered, is_taken, AreNames}

abbrev method : List ℕ → Function
method name = record { name = name; kind = kinds.Method (record { index = 0 }); params = []; result = None }

abbrev one : List ℕ
one = codes "import-method-a-b-c-d"

abbrev methods : List Function
methods = method (codes "[method]a.b-c-d") ∷ method (codes "[method]a-b.c-d") ∷ method (codes "[method]a-b-c.d") ∷ []

none_fewer : (n : ℕ) → n < 0 → is_taken [] (numbered n one) ≡ true
none_fewer n l = absurd (omega (arith, l))

one_fewer : (n : ℕ) → n < 1 → is_taken (one ∷ []) (numbered n one) ≡ true
one_fewer zero l = refl
one_fewer (suc n) l = absurd (omega (arith, l))

two_fewer : (n : ℕ) → n < 2 → is_taken (one ∷ codes "import-method-a-b-c-d0" ∷ []) (numbered n one) ≡ true
unfolding digits
two_fewer zero l = refl
two_fewer (suc zero) l = refl
two_fewer (suc (suc n)) l = absurd (omega (arith, l))

numbered_twice : AreNames methods (one ∷ codes "import-method-a-b-c-d0" ∷ codes "import-method-a-b-c-d01" ∷ [])
unfolding digits
numbered_twice = (
  record { count = 0; few = omega arith; same = refl; is_free = refl; fewer = none_fewer },
  (record { count = 1; few = omega arith; same = refl; is_free = refl; fewer = one_fewer }, (record { count = 2; few = omega arith; same = refl; is_free = refl; fewer = two_fewer }, tt)),
)

abbrev free : List ℕ → Function
free name = record { name = name; kind = kinds.Freestanding; params = []; result = None }

free_name : plain_import_name (free (codes "f")) ≡ codes "import-func-f"
free_name = refl

constructor_name : plain_import_name (record { name = codes "[constructor]r"; kind = kinds.«Constructor» (record { index = 0 }); params = []; result = None }) ≡ codes "import-constructor-r"
constructor_name = refl

static_name : plain_import_name (record { name = codes "[static]r.f"; kind = kinds.Static (record { index = 0 }); params = []; result = None }) ≡ codes "import-static-r-f"
static_name = refl
