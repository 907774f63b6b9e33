use Rattle.type_scopes.proofs.interface.encode_interface_type.Given as goal

abbrev pub ghosts-encode_placed : goal.ghosts-encode_placed
ghosts-encode_placed g a = record { surroundings = g.place.surroundings; origin = g.place.origin }
