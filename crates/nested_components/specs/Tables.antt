-- The tables of a scope without the types of functions.
use Rattle.std.specs.Prelude.{[]}
use Rattle.wit_types.specs.declared.maps.TypeEncodingMaps.{TypeEncodingMaps}

abbrev pub types_alone : TypeEncodingMaps → TypeEncodingMaps
types_alone maps = record maps { func_type_map = [] }
