-- What was taken out of an object is what is required of it.
use Rattle.std.proofs.Common.{◌≡◌, List, ℕ, Option, ok_or, ap}
use Rattle.serde_json.specs.Data.{Data}
use Rattle.serde_json.specs.Find.{get}
use Rattle.json_paths.specs.Reading.{at_member, required}

pub required_taken : (key : List ℕ) (d : Data) (member : Option Data) → member ≡ get key d → ok_or member (at_member key) ≡ required key d
unfolding required
required_taken key d member taken = ap (λ found. ok_or found (at_member key)) taken
