-- Types in a record. A type is the list of its nodes, each after its parts (component model, WIT: `ty`).
use Rattle.std.specs.Prelude.{ℕ, List, [], ◌∷◌, codes, length, map, reverse, replicate, Bool, true, false}
use Rattle.serde_json.specs.Data.{Data, null, boolean, string, array}
use Rattle.serde_json.specs.View.{view, items_of}
use Rattle.standard_kinds.specs.declared.kinds.Primitive.{Primitive}
use Rattle.standard_kinds.specs.declared.kinds.Primitive.TheVariants as primitives
use Rattle.record_values.specs.declared.types.Case.{Case}
use Rattle.record_values.specs.declared.types.Node.{Node}
use Rattle.record_values.specs.declared.types.Node.TheVariants as nodes
use Rattle.record_texts.specs.declared.types.Stack.{Stack as Written}
use Rattle.record_texts.specs.Names.{Indices, pair, only, type_name_data}

abbrev pub primitive_name : Primitive → List ℕ
primitive_name primitives.«Bool» = codes "bool"
primitive_name primitives.S8 = codes "s8"
primitive_name primitives.U8 = codes "u8"
primitive_name primitives.S16 = codes "s16"
primitive_name primitives.U16 = codes "u16"
primitive_name primitives.S32 = codes "s32"
primitive_name primitives.U32 = codes "u32"
primitive_name primitives.S64 = codes "s64"
primitive_name primitives.U64 = codes "u64"
primitive_name primitives.F32 = codes "f32"
primitive_name primitives.F64 = codes "f64"
primitive_name primitives.Char = codes "char"
primitive_name primitives.«String» = codes "string"
primitive_name primitives.ErrorContext = codes "error-context"

-- of each part that a node may have, whether it is there
abbrev pub parts_of : Node → List Bool
parts_of nodes.«List» = true ∷ []
parts_of nodes.«Option» = true ∷ []
parts_of (nodes.Result has_ok has_err) = has_ok ∷ has_err ∷ []
parts_of (nodes.Tuple arity) = replicate arity true
parts_of (nodes.Record fields) = replicate (length fields) true
parts_of (nodes.Variant cases) = map (λ c. c.has_type) cases
parts_of (nodes.Stream has_item) = has_item ∷ []
parts_of (nodes.Future has_item) = has_item ∷ []
parts_of node = []

-- values of types, the last one first
abbrev pub Stack : Type 0
Stack = List Data

abbrev pub stack_view : Written → Stack
stack_view s = reverse (map view s.values.items)

abbrev pub top : Stack → Data
top [] = null
top (d ∷ ds) = d

abbrev pub rest : Stack → Stack
rest [] = []
rest (d ∷ ds) = ds

-- parts, each that is there from the stack, and null in the place of each other one: the last comes first
abbrev pub parts_before : List Bool → Stack → List Data → Stack × List Data
parts_before [] s ps = (s, ps)
parts_before (true ∷ fs) s ps = parts_before fs (rest s) (top s ∷ ps)
parts_before (false ∷ fs) s ps = parts_before fs s (null ∷ ps)

abbrev pub named_parts : List (List ℕ) → List Data → List Data
named_parts [] ps = []
named_parts (name ∷ names) ps = pair (string name) (top ps) ∷ named_parts names (rest ps)

abbrev pub texts : List (List ℕ) → Data
texts ts = array (items_of (map string ts))

-- a type, of these parts
abbrev pub node_data : Indices → Node → List Data → Data
node_data is (nodes.Primitive p) ps = string (primitive_name p)
node_data is nodes.«List» ps = only (codes "list") (top ps)
node_data is nodes.«Option» ps = only (codes "option") (top ps)
node_data is (nodes.Result has_ok has_err) ps = only (codes "result") (array (items_of ps))
node_data is (nodes.Tuple arity) ps = only (codes "tuple") (array (items_of ps))
node_data is (nodes.Record fields) ps = only (codes "record") (array (items_of (named_parts fields ps)))
node_data is (nodes.Variant cases) ps = only (codes "variant") (array (items_of (named_parts (map (λ c. c.name) cases) ps)))
node_data is (nodes.Enum labels) ps = only (codes "enum") (texts labels)
node_data is (nodes.Flags labels) ps = only (codes "flags") (texts labels)
node_data is (nodes.Own t) ps = only (codes "own") (type_name_data is t)
node_data is (nodes.Borrow t) ps = only (codes "borrow") (type_name_data is t)
node_data is (nodes.Stream has_item) ps = only (codes "stream") (top ps)
node_data is (nodes.Future has_item) ps = only (codes "future") (top ps)
node_data is (nodes.Named t) ps = only (codes "ref") (type_name_data is t)
node_data is nodes.Resource ps = only (codes "resource") (boolean true)

abbrev pub with_parts : Indices → Node → Stack × List Data → Stack
with_parts is node (s, ps) = node_data is node ps ∷ s

abbrev pub with_node : Indices → Stack → Node → Stack
with_node is s node = with_parts is node (parts_before (reverse (parts_of node)) s [])

abbrev pub stack_after : Indices → Stack → List Node → Stack
stack_after is s [] = s
stack_after is s (node ∷ ns) = stack_after is (with_node is s node) ns

abbrev pub type_data : Indices → List Node → Data
type_data is ns = top (stack_after is [] ns)
