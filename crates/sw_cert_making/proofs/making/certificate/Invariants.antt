use Rattle.sw_cert_making.proofs.making.certificate.Given as goal

abbrev pub ghosts-lines_of : goal.ghosts-lines_of
ghosts-lines_of a = record { name = a.blank.name; parts = a.blank.parts }
