use Rattle.bench.proofs.trial.TrialDisplay.fmt.Goals as goal

pub returns-clause-writes : goal.returns-clause-writes
returns-clause-writes g c = rw (← c.as_str.ensures.value, ← c.as_str-2.ensures.value) c.write.ensures.writes
