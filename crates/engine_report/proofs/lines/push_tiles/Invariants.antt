use Rattle.std.proofs.Common.{◌≡◌, ◌++◌, drop, string_bytes}
use Rattle.listing.specs.Lines.{numbered}
use Rattle.engine_report.specs.Lines.{tile_line}
use Rattle.engine_report.proofs.lines.push_tiles.Given as goal

-- what is written and what is still to come are the whole text
abbrev pub invariant-loop-number : goal.invariant-loop-number
invariant-loop-number l = string_bytes l.text ++ numbered tile_line l.number (drop l.number l.tiles) ≡ string_bytes l.initial.text ++ numbered tile_line 0 l.tiles
