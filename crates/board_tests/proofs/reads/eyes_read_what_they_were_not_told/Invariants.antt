use Rattle.board_tests.proofs.reads.eyes_read_what_they_were_not_told.Given as goal

-- the board that was just made
abbrev pub ghosts-reads : goal.ghosts-reads
ghosts-reads g a = record { book = a.board }
