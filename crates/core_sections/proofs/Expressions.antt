-- Going over a constant expression one instruction after the other, as a loop does.
use Rattle.std.proofs.Common.{◌≡◌, ℕ, suc, ◌-◌, ◌+◌, ◌<◌, ◌==◌, List, Option, Some, if◌then◌else◌, sym, ap, ◌∙◌, arith}
use Rattle.core_sections.specs.Reading.{◌>>=◌}
use Rattle.core_sections.specs.Contents.{byte_at}
use Rattle.core_sections.specs.Constants.{after_instruction, after_fewer}

pub one_step : (len i : ℕ) (rest : List ℕ) (total : Option (List ℕ)) → i < len → after_fewer (len - i) rest ≡ total
    → (byte_at rest >>= λ b. if b.0 == 0x0b then Some b.1 else (after_instruction b.0 b.1 >>= after_fewer (len - (i + 1)))) ≡ total
one_step len i rest total lt so_far =
    let k : len - i ≡ suc (len - (i + 1)) = omega arith in
    ap (λ n. after_fewer n rest) (sym k) ∙ so_far
