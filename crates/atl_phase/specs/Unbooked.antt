-- The bound on the books of a phase that changes none of their amounts.
use Rattle.atl_phase.specs.Meaning.{BookBound}

-- the bound 0 for each amount of the books
abbrev pub moves_nothing : BookBound
moves_nothing e t = 0
