use Rattle.library_tests.proofs.record_bytes.found.Given as goal

abbrev pub ghosts-find_with : goal.ghosts-find_with
ghosts-find_with a = record { name = a.blank.name; parts = a.blank.parts }
