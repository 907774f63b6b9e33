-- The names of new files. (The program's own.)
use Rattle.std.specs.Prelude.{ℕ, ◌==◌, List, [], ◌∷◌, ◌++◌, codes, if◌then◌else◌}
use Rattle.std.specs.List.{list_any}
use Rattle.std.specs.Fmt.{decimal}

-- the folder of a name: all up to its last slash, and with it; where there is no slash, nothing
abbrev pub folder : List ℕ → List ℕ
folder [] = []
folder (b ∷ rest) = if list_any (λ c. c == 47) (b ∷ rest) then b ∷ folder rest else []

-- the name of a new file in the same folder
abbrev pub new_name : List ℕ → ℕ → List ℕ
new_name name number = folder name ++ (codes ".component_new-" ++ (decimal number ++ codes ".part"))
