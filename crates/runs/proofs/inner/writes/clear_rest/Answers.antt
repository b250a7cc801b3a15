-- The byte in which `at` stands, where it is not its first character. Assumes nothing.
use mathlib.Core.Path.{◌≡◌, ap, ◌∙◌}
use Prim.Native.Nat.{ℕ, ◌/◌, ◌%◌}
use native.Mathlib.Nat.{le_of_eq, mod-lt}
use native.Mathlib.Omega.{arith}
use Rattle.codes.specs.Codes.{per}
use Rattle.codes.proofs.MadeLaws.{made_none}
use Rattle.codes.proofs.WidthLaws.{per_pos}
use Rattle.runs.proofs.RoomLaws.{up-part, up-full}
use Rattle.runs.proofs.SeqLaws.{made-rest}
use Rattle.runs.proofs.inner.writes.clear_rest.Given.{Over}
use Rattle.runs.proofs.inner.writes.clear_rest.Goals.{After-count-b, After-count-k}
use Rattle.runs.proofs.inner.writes.clear_rest.Goals as goal

-- where it stands in its byte
module _ (g : Over) (c : After-count-k g) where
  k_is : c.count-k.result ≡ c.args.at % per g.W.Width.BITS
  k_is = c.count-k.ensures ∙ c.within_byte.ensures ∙ ap (λ (x : ℕ). x % per g.W.Width.BITS) c.new.ensures

-- and which byte it is
module _ (g : Over) (c : After-count-b g) where
  b_is : c.count-b.result ≡ c.args.at / per g.W.Width.BITS
  b_is = c.count-b.ensures ∙ c.byte_of.ensures ∙ ap (λ (x : ℕ). x / per g.W.Width.BITS) c.new-then-k-gt0.ensures

pub join_above-requires : goal.join_above-requires
join_above-requires g c =
    let W = g.W.Width.divides in
    let at = c.args.at in
    let some = c.if-k-gt0.true in (
      omega (
        arith,
        b_is g (goal.at.join_above-requires g c).After-count-b,
        c.requires,
        up-part W at (omega (arith, k_is g (goal.at.join_above-requires g c).After-count-k)),
      ),
      omega (arith, k_is g (goal.at.join_above-requires g c).After-count-k, mod-lt at (per_pos W)),
    )

pub returns-then-k-gt0 : goal.returns-then-k-gt0
returns-then-k-gt0 g c =
    made-rest g.W.Width.divides c.args.at (k_is g (goal.at.returns-then-k-gt0 g c).After-count-k) (b_is g (goal.at.returns-then-k-gt0 g c).After-count-b) c.if-k-gt0.true
    (λ i. (c.slice_known-then-k-gt0-1.given i).fits) c.join_above.ensures

pub returns-else-k-gt0 : goal.returns-else-k-gt0
returns-else-k-gt0 g c =
    made_none (le_of_eq (up-full g.W.Width.divides c.args.at (omega (arith, k_is g (goal.at.returns-else-k-gt0 g c).After-count-k))))
