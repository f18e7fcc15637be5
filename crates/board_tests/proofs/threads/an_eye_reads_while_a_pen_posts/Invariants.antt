use Rattle.board_tests.proofs.threads.an_eye_reads_while_a_pen_posts.Given as goal

-- the board that was just made
abbrev pub ghosts-beside : goal.ghosts-beside
ghosts-beside g a = record { book = a.board }
