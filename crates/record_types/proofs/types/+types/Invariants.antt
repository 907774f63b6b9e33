use Rattle.std.proofs.Common.{◌≡◌, ◌+◌, ◌*◌, [], drop}
use Rattle.serde_json.specs.View.{items_view}
use Rattle.record_types.specs.Scopes.{names_in}
use Rattle.record_types.specs.Sizes.{nothing}
use Rattle.record_types.specs.Types.{type_of, tuple_from, fields_from, cases_from}
use Rattle.record_types.proofs.types.+types.Given as goal

abbrev pub decreases-read_type : goal.decreases-read_type
decreases-read_type l = 8 * l.levels

abbrev pub decreases-read_part : goal.decreases-read_part
decreases-read_part l = 8 * l.levels + 1

abbrev pub decreases-read_field : goal.decreases-read_field
decreases-read_field l = 8 * l.levels + 2

abbrev pub decreases-read_case : goal.decreases-read_case
decreases-read_case l = 8 * l.levels + 2

abbrev pub decreases-read_parts : goal.decreases-read_parts
decreases-read_parts l = 8 * l.levels + 3

abbrev pub decreases-read_fields : goal.decreases-read_fields
decreases-read_fields l = 8 * l.levels + 3

abbrev pub decreases-read_cases : goal.decreases-read_cases
decreases-read_cases l = 8 * l.levels + 3

abbrev pub decreases-read_holding : goal.decreases-read_holding
decreases-read_holding l = 8 * l.levels + 4

abbrev pub decreases-read_carrying : goal.decreases-read_carrying
decreases-read_carrying l = 8 * l.levels + 4

abbrev pub decreases-read_result : goal.decreases-read_result
decreases-read_result l = 8 * l.levels + 4

abbrev pub decreases-read_tuple : goal.decreases-read_tuple
decreases-read_tuple l = 8 * l.levels + 4

abbrev pub decreases-read_record : goal.decreases-read_record
decreases-read_record l = 8 * l.levels + 4

abbrev pub decreases-read_variant : goal.decreases-read_variant
decreases-read_variant l = 8 * l.levels + 4

abbrev pub decreases-read_kind : goal.decreases-read_kind
decreases-read_kind l = 8 * l.levels + 5

abbrev pub decreases-read_member : goal.decreases-read_member
decreases-read_member l = 8 * l.levels + 6

abbrev pub decreases-read_compound : goal.decreases-read_compound
decreases-read_compound l = 8 * l.levels + 7

abbrev pub invariant-read_parts-loop-index : goal.invariant-read_parts-loop-index
invariant-read_parts-loop-index l =
    tuple_from (type_of l.levels (names_in l.scope)) l.index (items_view (drop l.index l.values)) l.size l.nodes
    ≡ tuple_from (type_of l.levels (names_in l.scope)) 0 (items_view l.values) nothing l.fn.nodes

abbrev pub invariant-read_fields-loop-index : goal.invariant-read_fields-loop-index
invariant-read_fields-loop-index l =
    fields_from (type_of l.levels (names_in l.scope)) l.index (items_view (drop l.index l.values)) l.names l.parts l.nodes
    ≡ fields_from (type_of l.levels (names_in l.scope)) 0 (items_view l.values) [] nothing l.fn.nodes

abbrev pub invariant-read_cases-loop-index : goal.invariant-read_cases-loop-index
invariant-read_cases-loop-index l =
    cases_from (type_of l.levels (names_in l.scope)) l.index (items_view (drop l.index l.values)) l.cases l.parts l.nodes
    ≡ cases_from (type_of l.levels (names_in l.scope)) 0 (items_view l.values) [] nothing l.fn.nodes
