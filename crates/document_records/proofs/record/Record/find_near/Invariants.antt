use Rattle.document_records.proofs.record.Record.find_near.Given as goal

abbrev pub ghosts-find_near_with : goal.ghosts-find_near_with
ghosts-find_near_with a = record { name = a.blank.name; parts = a.blank.parts }
