use Rattle.growing.proofs.Orders.{one_way, never_falls, never_cross, never_ahead, tiles_stay}
use Rattle.growing.proofs.order_stands.Goals as goal

pub returns : goal.returns
returns c = record { one_way = one_way; never_falls = never_falls; never_cross = never_cross; never_ahead = never_ahead; tiles_stay = tiles_stay }
