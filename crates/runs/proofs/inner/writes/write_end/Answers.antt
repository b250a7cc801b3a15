-- The zeros behind what was cleared make it whole. Assumes nothing.
use mathlib.Core.List.{[]}
use mathlib.Core.Path.{◌≡◌, refl, sym, ap, ◌∙◌}
use Prim.Native.Nat.{ℕ, ◌+◌, ◌*◌}
use native.Mathlib.Nat.{add-zero, le_refl}
use lib.ListN.{length}
use Rattle.codes.specs.Codes.{per, up, trailing}
use Rattle.codes.proofs.MadeLaws.{made_at}
use Rattle.runs.specs.Runs.{spliced}
use Rattle.runs.proofs.FreshLaws.{made-splice}
use Rattle.runs.proofs.WrittenLaws.{made-written}
use Rattle.runs.proofs.inner.writes.write_end.Given.{Over}
use Rattle.runs.proofs.inner.writes.write_end.Goals.{After-count-from}
use Rattle.runs.proofs.inner.writes.write_end.Goals as goal

from_is : (g : Over) (c : After-count-from g) → c.count-from.result ≡ up g.W.Width.BITS c.args.at
from_is g c = c.count-from.ensures ∙ c.bytes_as.ensures ∙ ap (up g.W.Width.BITS) c.new.ensures

pub returns : goal.returns
returns g c =
    let a = c.args in
    let w = g.W.Width.BITS in
    let W = g.W.Width.divides in
    let end : up w a.at ≡ up w (a.at + length {A = ℕ} []) = ap (up w) (sym (add-zero a.at)) in
    made-written W a.buffer.now a.at [] (made_at trailing c.zero_run.ensures (from_is g (goal.at.returns g c).After-count-from ∙ end))
    (made-splice W _ _ _ _ (λ j. (c.slice_known-1.given j).fits) c.clear_rest.ensures refl (le_refl _) ∙ ap (λ (x : ℕ). spliced w a.buffer.now a.at [] (x * per w)) end)
