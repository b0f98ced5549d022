use Rattle.sinew_io.proofs.reading.read_up_to.Given as goal

abbrev pub ghosts-read_from_blank : goal.ghosts-read_from_blank
ghosts-read_from_blank g a = record { name = a.blank.name; parts = a.blank.parts }
