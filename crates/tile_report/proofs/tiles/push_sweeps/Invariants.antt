use Rattle.std.proofs.Common.{◌≡◌, ◌*◌, ◌≤◌, ◌++◌, drop, length, string_bytes}
use Rattle.std.specs.Slice.Iter.{chunks_exact_rest, chunks_exact_size}
use Rattle.tile_report.specs.Tiles.{sweeps_text}
use Rattle.tile_report.proofs.tiles.push_sweeps.Given as goal

-- the sweeps so far are listed, the others left
abbrev pub invariant-loop-sweep : goal.invariant-loop-sweep
invariant-loop-sweep l =
    (string_bytes l.text ≡ string_bytes l.initial.text ++ sweeps_text l.rows l.table l.sweep-iterator.count)
    × (l.sweep-iterator.count * l.rows ≤ length l.table)
    × (chunks_exact_rest l.sweep-iterator.iter ≡ drop (l.sweep-iterator.count * l.rows) l.table)
    × (chunks_exact_size l.sweep-iterator.iter ≡ l.rows)
