-- The value of JSON that bytes encode, as `from_slice` returns it.
use Rattle.std.proofs.Common.{◌≡◌, ℕ, Bool, true, false, cond, List, Option, Some, None, Ok, Err, refl, ap, ◌∙◌}
use Rattle.std.specs.Prelude.{ok_or}
use Rattle.std.specs.Str.{IsUtf8, is_utf8}
use Rattle.std.proofs.lemmas.Str.{is_utf8-from_IsUtf8, IsUtf8-from_is_utf8}
use Rattle.serde_json.specs.Data.{Data}
use Rattle.serde_json.specs.Read.{read}
use Rattle.json_paths.specs.declared.fault.Failure.TheVariants as failures
use Rattle.json_paths.specs.declared.fault.Refusal.TheVariants as refusals
use Rattle.json_paths.specs.Reading.{data_of}

pub is_data : (bytes : List ℕ) (d : Data) → IsUtf8 bytes → read bytes ≡ Some d → data_of bytes ≡ Ok d
is_data bytes d text h = ap (λ b. ok_or (cond b (read bytes) None) (failures.Refused refusals.Json)) (is_utf8-from_IsUtf8 bytes text) ∙ ap (λ o. ok_or o (failures.Refused refusals.Json)) h

no_data_by : (b : Bool) (o : Option Data) → (b ≡ true → o ≡ None) → ok_or (cond b o None) (failures.Refused refusals.Json) ≡ Err (failures.Refused refusals.Json)
no_data_by true o h = ap (λ o. ok_or o (failures.Refused refusals.Json)) (h refl)
no_data_by false o h = refl

pub is_no_data : (bytes : List ℕ) → (IsUtf8 bytes → read bytes ≡ None) → data_of bytes ≡ Err (failures.Refused refusals.Json)
is_no_data bytes h = no_data_by (is_utf8 bytes) (read bytes) (λ e. h (IsUtf8-from_is_utf8 bytes e))
