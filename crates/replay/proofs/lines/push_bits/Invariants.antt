use Rattle.std.proofs.Common.{◌≡◌, ◌*◌, ◌++◌, take, string_bytes}
use Rattle.std.specs.List.{flat_map}
use Rattle.replay.specs.Traces.{value_text}
use Rattle.replay.proofs.lines.push_bits.Given as goal

abbrev pub invariant-loop-value : goal.invariant-loop-value
invariant-loop-value g l = string_bytes l.text ≡ string_bytes l.initial.text ++ flat_map (value_text (2 * g.K.Filed.width) g.K.Filed.printed) (take l.value-index l.values)
