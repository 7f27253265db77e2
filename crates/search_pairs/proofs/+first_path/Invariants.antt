use Rattle.search_pairs.proofs.+first_path.Given as goal

-- the links to come fall
abbrev pub decreases-first_path : goal.decreases-first_path
decreases-first_path l = l.more
