-- Links as text: a line each, or a graph in the language of Mermaid or of Graphviz. (The lines are
-- this project's own; the graphs are in the languages of these programs.)
use Rattle.std.specs.Prelude.{ℕ, ◌==◌, List, [], ◌∷◌, ◌++◌, codes, if◌then◌else◌}
use Rattle.std.specs.List.{flat_map}
use Rattle.hex.specs.Hex.{encode_lower}
use Rattle.comp_lines.specs.Texts.{quoted}
use Rattle.found_links.specs.declared.forms.Form.{Form}
use Rattle.found_links.specs.declared.forms.Form.TheVariants as forms
use Rattle.found_links.specs.declared.link.Link.{Link}

-- ---- lines

abbrev pub text_line : Link → List ℕ
text_line l = (l.user ++ l.name) ++ codes " = " ++ (l.source ++ l.how) ++ codes "\n"

-- ---- Mermaid

-- a character that has a meaning in a label is written as an entity
abbrev pub entity : ℕ → List ℕ
entity b =
    if b == 0x22 then codes "#quot;"
    else (if b == 0x23 then codes "#35;"
    else (if b == 0x26 then codes "#amp;"
    else (if b == 0x3c then codes "#lt;"
    else (if b == 0x3e then codes "#gt;" else b ∷ []))))

abbrev pub entities : List ℕ → List ℕ
entities text = flat_map entity text

-- a node: its name is made of the digits of its text, so that equal texts are one node
abbrev pub mermaid_node : List ℕ → List ℕ
mermaid_node text = (codes "n" ++ encode_lower text) ++ codes "[\"" ++ entities text ++ codes "\"]"

abbrev pub mermaid_edge : Link → List ℕ
mermaid_edge l = codes " -->|\" " ++ entities l.name ++ entities l.how ++ codes "\"| "

abbrev pub mermaid_line : Link → List ℕ
mermaid_line l = codes "\n  " ++ mermaid_node l.user ++ mermaid_edge l ++ mermaid_node l.source

-- ---- Graphviz

abbrev pub dot_line : Link → List ℕ
dot_line l = (codes "\n  " ++ quoted l.user) ++ (codes " -> " ++ quoted l.source) ++ (codes " [label=" ++ quoted (l.name ++ l.how)) ++ codes "];"

-- ---- all forms

abbrev pub line : Form → Link → List ℕ
line forms.Text l = text_line l
line forms.Mermaid l = mermaid_line l
line forms.Dot l = dot_line l

abbrev pub beginning : Form → List ℕ
beginning forms.Text = []
beginning forms.Mermaid = codes "flowchart LR"
beginning forms.Dot = codes "digraph links {\n  rankdir=LR;"

abbrev pub end : Form → List ℕ
end forms.Text = []
end forms.Mermaid = codes "\n"
end forms.Dot = codes "\n}\n"

-- The text of links.
abbrev pub shown : Form → List Link → List ℕ
shown form links = beginning form ++ flat_map (line form) links ++ end form
