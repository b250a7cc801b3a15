-- The widths of a flag and of a base keep the laws of a width.
-- Assumes nothing.
use lib.Dec.{lit≤}
use Rattle.std.specs.Prelude.{refl, ◌≤◌}
use Rattle.codes.specs.Codes.{IsWidth}

pub width_1 : IsWidth 1
width_1 = record { whole = refl; small = lit≤ tt }

pub width_2 : IsWidth 2
width_2 = record { whole = refl; small = lit≤ tt }

pub narrow_1 : 1 ≤ 2
narrow_1 = lit≤ tt

pub narrow_2 : 2 ≤ 2
narrow_2 = lit≤ tt
