-- One run from the byte of `at` to that of the last letter, and all else stays. Assumes nothing.
use mathlib.Core.Path.{◌≡◌, sym, ap, ◌∙◌, subst}
use Prim.Native.Nat.{ℕ, ◌+◌, ◌*◌, ◌/◌, ◌≤◌, ◌<◌}
use native.Mathlib.Omega.{arith}
use lib.ListN.{length, get_or}
use Rattle.codes.specs.Codes.{IsWidth, per, up}
use Rattle.runs.proofs.FreshLaws.{made-splice}
use Rattle.runs.proofs.RoomLaws.{div-up}
use Rattle.runs.proofs.inner.writes.fill_few.Given.{Over}
use Rattle.runs.proofs.inner.writes.fill_few.Goals.{After-count-last}
use Rattle.runs.proofs.inner.writes.fill_few.Goals as goal

-- what is known once the bytes are
module _ (g : Over) (c : After-count-last g) where
  abbrev W : IsWidth g.W.Width.BITS
  W = g.W.Width.divides

  abbrev end : ℕ
  end = c.args.at + length c.args.letters.now

  bytes : (j : ℕ) → get_or c.args.buffer.now j 0 < 256
  bytes j = (c.slice_known-1.given j).fits

  first_is : c.count-first.result ≡ c.args.at / per g.W.Width.BITS
  first_is = c.count-first.ensures ∙ c.byte_of.ensures ∙ ap (λ (x : ℕ). x / per g.W.Width.BITS) c.new.ensures

  last_is : c.count-last.result ≡ up g.W.Width.BITS end
  last_is = c.count-last.ensures ∙ c.bytes_as.ensures ∙ ap (up g.W.Width.BITS) c.new-2.ensures

pub edge_run-requires : goal.edge_run-requires
edge_run-requires g c = (
  omega (
    arith,
    first_is g (goal.at.edge_run-requires g c).After-count-last,
    last_is g (goal.at.edge_run-requires g c).After-count-last,
    div-up (W g (goal.at.edge_run-requires g c).After-count-last) c.args.at (end g (goal.at.edge_run-requires g c).After-count-last) (omega arith),
  ),
  omega (arith, last_is g (goal.at.edge_run-requires g c).After-count-last, c.requires.letters_in_bounds),
  c.requires.buffer_len_bound,
)

pub returns : goal.returns
returns g c =
    made-splice (W g (goal.at.returns g c).After-count-last) _ _ _ _ (bytes g (goal.at.returns g c).After-count-last) c.edge_run.ensures (first_is g (goal.at.returns g c).After-count-last)
    (subst (λ (x : ℕ). c.args.stop ≤ x * per g.W.Width.BITS) (sym (last_is g (goal.at.returns g c).After-count-last)) c.requires.letters_bound.1)
