use Rattle.std.proofs.Common.{◌≡◌, ℕ, ◌<◌, false}
use Rattle.growing.specs.Verdicts.{bad_seed}
use Rattle.growing.proofs.checking.check_seed.Given as goal

abbrev pub invariant-loop-row : goal.invariant-loop-row
invariant-loop-row l = (k : ℕ) → k < l.row → bad_seed l.tiles l.seed k ≡ false
