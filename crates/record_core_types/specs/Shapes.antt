-- The type that a table of types has for a function.
use Rattle.core_sections.specs.declared.entries.FuncType.{FuncType}
use Rattle.record_core_types.specs.declared.intrinsics.Shape.{Shape}
use Rattle.record_core_types.specs.Asked.{function}

abbrev pub shape_type : Shape → FuncType
shape_type s = function s.params.now s.results.now
