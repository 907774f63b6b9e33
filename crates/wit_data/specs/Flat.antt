-- The core values of a type (Canonical ABI: `flatten_type`, `join`).
use Rattle.std.specs.Prelude.{List, [], ◌∷◌, Option}
use Rattle.std.specs.List.{flat_map}
use Rattle.wit_data.specs.declared.types.Type.{«Type» as Ty}
use Rattle.standard_kinds.specs.declared.kinds.Primitive.{Primitive as Prim}
use Rattle.standard_kinds.specs.declared.kinds.Primitive.TheVariants as prims
use Rattle.wit_data.specs.declared.types.TypeDefKind.{TypeDefKind}
use Rattle.wit_data.specs.declared.types.TypeDefKind.TheVariants as kinds
use Rattle.wit_data.specs.declared.types.TypeDef.{TypeDef}
use Rattle.wit_data.specs.declared.signatures.WasmType.{WasmType}
use Rattle.wit_data.specs.declared.signatures.WasmType.TheVariants.{I32, I64, F32, F64}
use Rattle.wit_data.specs.declared.flattening.Shape.{Shape}
use Rattle.wit_data.specs.declared.flattening.Shape.TheVariants.{Single, Pair, Product, Sum}
use Rattle.wit_data.specs.Values.{Making, value}

abbrev pub flat_primitive : Prim → List WasmType
flat_primitive prims.S64 = I64 ∷ []
flat_primitive prims.U64 = I64 ∷ []
flat_primitive prims.F32 = F32 ∷ []
flat_primitive prims.F64 = F64 ∷ []
flat_primitive prims.«String» = I32 ∷ I32 ∷ []
flat_primitive _ = I32 ∷ []

-- a core value that holds either
abbrev pub join : WasmType → WasmType → WasmType
join I32 I32 = I32
join I32 F32 = I32
join F32 I32 = I32
join F32 F32 = F32
join F64 F64 = F64
join _ _ = I64

-- index by index; the longest has the length of the result
abbrev pub join_lists : List WasmType → List WasmType → List WasmType
join_lists [] bs = bs
join_lists (a ∷ more) [] = a ∷ more
join_lists (a ∷ more) (b ∷ bs) = join a b ∷ join_lists more bs

abbrev pub joined : List WasmType → List (List WasmType) → List WasmType
joined so_far [] = so_far
joined so_far (f ∷ fs) = joined (join_lists so_far f) fs

abbrev pub shape : TypeDefKind → Shape
shape (kinds.Record fields) = Product
shape (kinds.Variant cases) = Sum
shape (kinds.Enum names) = Single
shape (kinds.Flags names) = Single
shape (kinds.Tuple types) = Product
shape (kinds.«Option» t) = Sum
shape (kinds.«Result» r) = Sum
shape (kinds.«List» t) = Pair
shape (kinds.Own id) = Single
shape (kinds.Borrow id) = Single
shape kinds.Resource = Single
shape (kinds.Stream t) = Single
shape (kinds.Future t) = Single
shape (kinds.Alias t) = Product

abbrev pub flat_shape : Shape → List (List WasmType) → List WasmType
flat_shape Single fs = I32 ∷ []
flat_shape Pair fs = I32 ∷ I32 ∷ []
flat_shape Product fs = flat_map (λ f. f) fs
flat_shape Sum fs = I32 ∷ joined [] fs

abbrev pub flattening : Making (List WasmType)
flattening = record { absent = []; simple = flat_primitive; made = λ n kind fs. flat_shape (shape kind) fs }

abbrev pub flat : List TypeDef → Option Ty → List WasmType
flat types part = value flattening types part
