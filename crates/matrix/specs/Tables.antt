-- The numbers of the tables, and the check of a table's length. Assumes nothing.
use Rattle.std.specs.Prelude.{ℕ, not, Option, ◌==◌}
use Rattle.checks.specs.declared.Check.TheVariants.{Length}
use Rattle.checks.specs.declared.Layer.{Layer}
use Rattle.checks.specs.declared.Fault.{Fault}
use Rattle.checks.specs.Verdicts.{fault_if}
use Rattle.matrix.specs.declared.tables.Table.{Table}
use Rattle.matrix.specs.declared.tables.Table.TheVariants.{RowStarts, Columns, Seed, TileTable, Marks, Ranks, RowsByRank, Spare, Schedule, ScheduleStarts, WaitWords, Coefficients, RightHandSide, Vector, NewRowStarts, NewColumns, NewTileTable, NewCoefficients, NewRightHandSide, NewVector}

-- the number of each table
abbrev pub table_number : Table → ℕ
table_number RowStarts = 1
table_number Columns = 2
table_number Seed = 3
table_number TileTable = 4
table_number Marks = 5
table_number Ranks = 6
table_number RowsByRank = 7
table_number Spare = 8
table_number Schedule = 9
table_number ScheduleStarts = 10
table_number WaitWords = 11
table_number Coefficients = 12
table_number RightHandSide = 13
table_number Vector = 14
table_number NewRowStarts = 21
table_number NewColumns = 22
table_number NewTileTable = 24
table_number NewCoefficients = 32
table_number NewRightHandSide = 33
table_number NewVector = 34

-- a table has not the length that is wanted
abbrev pub length_fault : Layer → Table → ℕ → ℕ → Option Fault
length_fault layer t length wanted = fault_if layer Length (table_number t) (not (length == wanted))
