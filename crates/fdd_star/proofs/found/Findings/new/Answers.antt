use Rattle.fdd_star.proofs.found.Findings.new.Goals as goal

pub returns : goal.returns
returns c = λ k. record { visits = c.new.ensures k }
