use Rattle.std.proofs.Common.{sym, ap, ◌∙◌}
use Rattle.growing.specs.Directions.{best_of}
use Rattle.growing.proofs.direction.Direction.best.Goals as goal

pub returns-in-Down : goal.returns-in-Down
returns-in-Down c = c.min.ensures ∙ ap (λ d. best_of d c.args.a c.args.b) (sym c.in-Down.is)

pub returns-in-Up : goal.returns-in-Up
returns-in-Up c = c.max.ensures ∙ ap (λ d. best_of d c.args.a c.args.b) (sym c.in-Up.is)
