-- What a prepared problem holds. Assumes nothing.
use Rattle.preparing.specs.declared.prepared.Prepared.{Prepared}
use Rattle.preparing.specs.Renumbered.{Ranks, Holds, Carries}
use Rattle.preparing.specs.Layouts.{LaysOut}
use Rattle.preparing.specs.Posed.{Posed, matrix_of, ranks_of, rows_of, tiling_of}

-- its ranks, the tiling, the figures and the tables laid out, all in the new numbering
abbrev pub Prepares : {C V : Type 0} → Posed C V → Prepared C V → Type 0
Prepares p x =
    Ranks (matrix_of p).rows (ranks_of p) x.ranking × Holds (tiling_of p) x.tables
    × Carries (matrix_of p) (rows_of p) p.equations.coefficients p.equations.rhs p.start x.figures × LaysOut (tiling_of p) x.layout
