use Rattle.stabby_count_uses.proofs.two_threads.lend_to_two_threads.Given as goal

abbrev pub ghosts-lend_single : goal.ghosts-lend_single
ghosts-lend_single g a = record { name = a.blank.name; parts = a.blank.parts }
