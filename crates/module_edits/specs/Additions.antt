-- A core module with one more function, its last, which each exported function calls before all that it does.
-- Core standard, binary format: modules, type section, function section, export section, code section, instructions.
use Rattle.std.specs.Prelude.{ℕ, ◌+◌, ◌-◌, ◌^◌, ◌==◌, Bool, List, [], ◌∷◌, ◌++◌, length, take, Option, Some, None, option_map, if◌then◌else◌}
use Rattle.byte_encoding.specs.Encoding.{Encoding, ◌⊕◌, raw, octet, number, quantity, each, named, sized}
use Rattle.core_sections.specs.Numbers.{leb_at}
use Rattle.core_sections.specs.Sections.{Body, custom, coded, Piece, preamble}
use Rattle.core_parts.specs.Functions.{is_exported, bodies_of, instructions_of}
use Rattle.core_parts.specs.declared.exports.ExportedIndex.{ExportedIndex}
use Rattle.module_edits.specs.declared.additions.NewFunction.{NewFunction}

-- The function that is added: the entries of its type and of its export, the indices of its type
-- and of itself, and its body without its size.
pub record Added : Type 0 where
  pub func_type : List ℕ
  pub type_index : ℕ
  pub index : ℕ
  pub body : List ℕ
  pub export : Option (List ℕ)

abbrev pub added_view : NewFunction → Added
added_view f = record { func_type = f.func_type.now; type_index = f.type_index; index = f.index; body = f.body.now; export = option_map (λ e. e.now) f.export }

-- ---- a list with one more entry at its end; what has no count in front stays as it is

abbrev pub one_more_of : List ℕ → Encoding → Option (ℕ × List ℕ) → Encoding
one_more_of contents entry None = raw contents
one_more_of contents entry (Some n) = quantity (n.0 + 1) ⊕ raw n.1 ⊕ entry

abbrev pub one_more : List ℕ → Encoding → Encoding
one_more contents entry = one_more_of contents entry (leb_at (2 ^ 32) contents)

-- ---- bodies

-- a body whose instructions have this one in front; what has no locals in front stays as it is
abbrev pub entered_of : List ℕ → List ℕ → Option (List ℕ) → List ℕ
entered_of call body None = body
entered_of call body (Some code) = take (length body - length code) body ++ call ++ code

abbrev pub entered : List ℕ → List ℕ → List ℕ
entered call body = entered_of call body (instructions_of body)

abbrev pub entered_if : Bool → List ℕ → List ℕ → List ℕ
entered_if calls call body = if calls then entered call body else body

-- the bodies of the functions from an index on: those of exported functions have this instruction in front
abbrev pub bodies_from : List ExportedIndex → List ℕ → ℕ → List (List ℕ) → List (List ℕ)
bodies_from es call index [] = []
bodies_from es call index (b ∷ bs) = entered_if (is_exported es index) call b ∷ bodies_from es call (index + 1) bs

-- `call`
abbrev pub call_of : ℕ → List ℕ
call_of function = (octet 0x10 ⊕ number function).bytes

-- the contents of the section of code
abbrev pub code_of : List ExportedIndex → ℕ → Added → List ℕ → Option (List (List ℕ)) → Encoding
code_of es first f contents None = raw contents
code_of es first f contents (Some bs) = quantity (length bs + 1) ⊕ each named (bodies_from es (call_of f.index) first bs) ⊕ named f.body

-- ---- sections

-- what a section of this id holds, after its size
abbrev pub with_id : ℕ → Encoding → Encoding
with_id id s = octet id ⊕ sized s

-- the section of exports, where the function is exported
abbrev pub with_export : Option (List ℕ) → List ℕ → List ℕ → Encoding
with_export None whole contents = raw whole
with_export (Some entry) whole contents = with_id 7 (one_more contents (raw entry))

-- the section of types, functions, exports or code, or any other, which stays as it is
abbrev pub edited_section : List ExportedIndex → ℕ → Added → List ℕ → ℕ → List ℕ → Encoding
edited_section es first f whole id contents =
    if id == 1 then with_id 1 (one_more contents (raw f.func_type))
    else if id == 3 then with_id 3 (one_more contents (number f.type_index))
    else if id == 7 then with_export f.export whole contents
    else if id == 10 then with_id 10 (code_of es first f contents (bodies_of contents))
    else raw whole

abbrev pub edited_body : List ExportedIndex → ℕ → Added → List ℕ → Body → Encoding
edited_body es first f whole (custom name bytes) = raw whole
edited_body es first f whole (coded id contents) = edited_section es first f whole id contents

abbrev pub edited : List ExportedIndex → ℕ → Added → Piece → Encoding
edited es first f p = edited_body es first f p.whole p.body

-- The module of these sections, whose exports are these, with the function; `first` is the index of
-- the first function that isn't imported.
abbrev pub with_function : List ExportedIndex → ℕ → Added → List Piece → Encoding
with_function es first f ps = raw preamble ⊕ each (edited es first f) ps
