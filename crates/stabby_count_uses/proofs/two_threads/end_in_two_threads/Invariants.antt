use Rattle.stabby_count_uses.proofs.two_threads.end_in_two_threads.Given as goal

abbrev pub ghosts-end_single : goal.ghosts-end_single
ghosts-end_single g a = record { name = a.blank.name; parts = a.blank.parts }
