-- The same test with no sum that could wrap. Assumes nothing.
use mathlib.Core.Path.{◌≡◌, ap, ◌∙◌}
use Prim.Native.Nat.{◌+◌, ◌-◌}
use native.Mathlib.Omega.{arith}
use Rattle.codes.specs.Codes.{up, trailing}
use Rattle.codes.proofs.WidthLaws.{ltb-eq}
use Rattle.stores.proofs.inner.outcomes.no_room.Goals as goal

pub returns : goal.returns
returns g c =
    let a = c.args in
    let e : c.count.result ≡ up g.W.Width.BITS a.n = c.count.ensures ∙ c.bytes_as.ensures ∙ ap (up g.W.Width.BITS) c.new.ensures in
    ltb-eq (a.size - trailing) c.count.result a.size (up g.W.Width.BITS a.n + trailing) (λ l. omega arith) (λ l. omega arith)
