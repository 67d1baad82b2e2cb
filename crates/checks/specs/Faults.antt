-- The number of each check, the printed word of each layer, and the printed line of a fault. Assumes nothing.
use Rattle.std.specs.Prelude.{ℕ, List, ◌++◌, codes, decimal}
use Rattle.checks.specs.declared.Check.{Check}
use Rattle.checks.specs.declared.Check.TheVariants.{Size, Length, RowStart, Column, Row, Seed, Rank, Tile, Lawful, ScheduleStart, Schedule, WaitWord, Coefficient, RightHandSide, Vector, NoSuchTile, TileDone, TileWaiting, FileLength, FileFormat}
use Rattle.checks.specs.declared.Layer.{Layer}
use Rattle.checks.specs.declared.Layer.TheVariants.{File, Matrix, Plan, Run}
use Rattle.checks.specs.declared.Fault.{Fault}

-- the number of each check
abbrev pub number_of : Check → ℕ
number_of Size = 1
number_of Length = 2
number_of RowStart = 3
number_of Column = 4
number_of Row = 5
number_of Seed = 6
number_of Rank = 7
number_of Tile = 8
number_of Lawful = 9
number_of ScheduleStart = 10
number_of Schedule = 11
number_of WaitWord = 12
number_of Coefficient = 13
number_of RightHandSide = 14
number_of Vector = 15
number_of NoSuchTile = 16
number_of TileDone = 17
number_of TileWaiting = 18
number_of FileLength = 19
number_of FileFormat = 20

-- the printed word of each layer
abbrev pub word_of : Layer → List ℕ
word_of File = codes "file"
word_of Matrix = codes "matrix"
word_of Plan = codes "plan"
word_of Run = codes "run"

-- the line that a refused case prints
abbrev pub line_of : Fault → List ℕ
line_of f = codes "refused " ++ (decimal (number_of f.check) ++ (codes " place " ++ (decimal f.place ++ (codes " in " ++ word_of f.layer))))
