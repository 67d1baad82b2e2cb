-- The pattern that a lent matrix holds. Assumes nothing.
use Rattle.matrix.specs.declared.pattern.Matrix.{Matrix}
use Rattle.matrix.specs.Patterns.{Pattern}

-- the pattern that a lent matrix holds
abbrev pub pattern_of : Matrix → Pattern
pattern_of m = record { rows = m.rows; entries = m.entries; starts = m.starts.now; columns = m.columns.now }
