-- What a plan says: the numbers of a stream.
-- Assumes nothing.
use Rattle.std.specs.Prelude.{◌≡◌, ℕ}
use Rattle.lanes.specs.Lanes.{lane, padding, steps}
use Rattle.lanes.specs.declared.inner.shapes.Plan.{Plan}

-- the numbers of a stream
pub record Planned (w len c f : ℕ) (p : Plan) : Type 0 where
  pub lane : p.lane ≡ lane w len c f
  pub padding : p.padding ≡ padding w len c f
  pub steps : p.steps ≡ steps w len c f
