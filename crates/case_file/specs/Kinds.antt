-- The kinds: the number that a file gives each, and the bytes that its elements take. Assumes nothing.
use Rattle.std.specs.Prelude.{ℕ, cond, Some, None, Option, ◌==◌}
use Rattle.case_file.specs.declared.kinds.Kind.{Kind}
use Rattle.case_file.specs.declared.kinds.Kind.TheVariants.{Doubles, Minutes}

-- the number of each kind
abbrev pub kind_number : Kind → ℕ
kind_number Doubles = 1
kind_number Minutes = 2

-- the kind that has a number
abbrev pub kind_numbered : ℕ → Option Kind
kind_numbered n = cond (n == kind_number Doubles) (Some Doubles) (cond (n == kind_number Minutes) (Some Minutes) None)

-- the bytes that one coefficient or value takes
abbrev pub width_of : Kind → ℕ
width_of Doubles = 8
width_of Minutes = 4
