-- The arguments of a role, which follow its kind in one array, and the values that many kinds take.
use Rattle.std.specs.Prelude.{ℕ, List, codes, Option, Some, None, ok_or, option_and_then, Result, Ok, Err, if◌then◌else◌}
use Rattle.std.specs.Str.{bytes_eq}
use Rattle.serde_json.specs.Data.{Data, Items, no_items, item}
use Rattle.serde_json.specs.Find.{as_array}
use Rattle.standard_kinds.specs.declared.kinds.StringEncoding.{StringEncoding}
use Rattle.standard_kinds.specs.declared.kinds.StringEncoding.TheVariants as encodings
use Rattle.wit_data.specs.declared.functions.AbiVariant.{AbiVariant}
use Rattle.wit_data.specs.declared.functions.AbiVariant.TheVariants as abis
use Rattle.json_paths.specs.declared.fault.Failure.{Failure}
use Rattle.json_paths.specs.Faults.{◌>>=◌}
use Rattle.json_paths.specs.Reading.{under, here, text_of}
use Rattle.record_sides.specs.declared.sides.Side.{Side}
use Rattle.record_sides.specs.declared.sides.Side.TheVariants as sides

-- ---- their number

abbrev pub none_of : Items → Option Data
none_of no_items = None
none_of (item k no_items) = Some k
none_of (item k (item a as')) = None

abbrev pub one_of : Items → Option Data
one_of no_items = None
one_of (item k no_items) = None
one_of (item k (item a no_items)) = Some a
one_of (item k (item a (item b as'))) = None

abbrev pub two_of : Items → Option (Data × Data)
two_of no_items = None
two_of (item k no_items) = None
two_of (item k (item a no_items)) = None
two_of (item k (item a (item b no_items))) = Some (a, b)
two_of (item k (item a (item b (item c as')))) = None

abbrev pub three_of : Items → Option (Data × Data × Data)
three_of no_items = None
three_of (item k no_items) = None
three_of (item k (item a no_items)) = None
three_of (item k (item a (item b no_items))) = None
three_of (item k (item a (item b (item c no_items)))) = Some (a, b, c)
three_of (item k (item a (item b (item c (item d as'))))) = None

abbrev pub first_of : Items → Option Data
first_of no_items = None
first_of (item d ds) = Some d

-- the name of the kind
unfoldable pub kind_of : Data → Result (List ℕ) Failure
kind_of d = do
  kind ← ok_or (option_and_then first_of (as_array d)) here
  under (codes "0") (text_of kind)

-- the kind alone
unfoldable pub no_argument : Data → Result Data Failure
no_argument d = ok_or (option_and_then none_of (as_array d)) here

unfoldable pub one_argument : Data → Result Data Failure
one_argument d = ok_or (option_and_then one_of (as_array d)) here

unfoldable pub two_arguments : Data → Result (Data × Data) Failure
two_arguments d = ok_or (option_and_then two_of (as_array d)) here

unfoldable pub three_arguments : Data → Result (Data × Data × Data) Failure
three_arguments d = ok_or (option_and_then three_of (as_array d)) here

-- ---- their values

abbrev pub encoding_from : List ℕ → Result StringEncoding Failure
encoding_from s =
    if bytes_eq s (codes "utf8") then Ok encodings.UTF8
    else if bytes_eq s (codes "utf16") then Ok encodings.UTF16
    else if bytes_eq s (codes "compact") then Ok encodings.CompactUTF16
    else Err here

unfoldable pub encoding_of : Data → Result StringEncoding Failure
encoding_of d = do
  s ← text_of d
  encoding_from s

abbrev pub import_abi_from : List ℕ → Result AbiVariant Failure
import_abi_from s =
    if bytes_eq s (codes "sync") then Ok abis.GuestImport
    else if bytes_eq s (codes "async") then Ok abis.GuestImportAsync
    else Err here

unfoldable pub import_abi_of : Data → Result AbiVariant Failure
import_abi_of d = do
  s ← text_of d
  import_abi_from s

abbrev pub export_abi_from : List ℕ → Result AbiVariant Failure
export_abi_from s =
    if bytes_eq s (codes "sync") then Ok abis.GuestExport
    else if bytes_eq s (codes "async") then Ok abis.GuestExportAsync
    else if bytes_eq s (codes "stackful") then Ok abis.GuestExportAsyncStackful
    else Err here

unfoldable pub export_abi_of : Data → Result AbiVariant Failure
export_abi_of d = do
  s ← text_of d
  export_abi_from s

abbrev pub abi_of : Side → Data → Result AbiVariant Failure
abi_of sides.Import d = import_abi_of d
abi_of sides.Export d = export_abi_of d
