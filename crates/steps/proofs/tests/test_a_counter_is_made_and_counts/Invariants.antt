use Rattle.steps.proofs.tests.test_a_counter_is_made_and_counts.Given as goal

abbrev pub ghosts-tried_twice : goal.ghosts-tried_twice
ghosts-tried_twice g a = record { name = a.blank.name; parts = a.blank.parts }
