use Rattle.board_speed.proofs.main.Given as goal

-- the board that was just made
abbrev pub ghosts-last_count : goal.ghosts-last_count
ghosts-last_count g a = record { book = a.board }
