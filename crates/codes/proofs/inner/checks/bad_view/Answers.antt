-- The same test with no sum that could wrap. Assumes nothing.
use mathlib.Core.Path.{◌≡◌, sym, ap, ◌∙◌}
use Prim.Native.Nat.{ℕ, ◌+◌, ◌-◌, ◌*◌, ◌<◌}
use native.Mathlib.Nat.{mul-lt-mul_of_pos_right}
use native.Mathlib.Omega.{arith}
use borrow.Author.Tests.{lt-ltb}
use Rattle.codes.specs.Codes.{per, trailing}
use Rattle.codes.proofs.WidthLaws.{per_pos, less_trailing, ltb-eq}
use Rattle.codes.proofs.inner.checks.bad_view.Given.{Over}
use Rattle.codes.proofs.inner.checks.bad_view.Goals.{After-count-room}
use Rattle.codes.proofs.inner.checks.bad_view.Goals as goal

pub returns-then-n-lt-TRAILING : goal.returns-then-n-lt-TRAILING
returns-then-n-lt-TRAILING g c =
    let a = c.args in
    let h : a.n * per g.W.Width.BITS < trailing * per g.W.Width.BITS = mul-lt-mul_of_pos_right c.if-n-lt-TRAILING.true (per_pos g.W.Width.divides) in
    sym (lt-ltb (a.n * per g.W.Width.BITS) (a.offset.0 + a.len.0 + trailing * per g.W.Width.BITS) (omega arith))

-- the room is counted in characters
room : (g : Over) (c : After-count-room g) → c.count-room.result ≡ (c.args.n - trailing) * per g.W.Width.BITS
room g c = c.count-room.ensures ∙ c.chars_in.ensures ∙ ap (λ (x : ℕ). x * per g.W.Width.BITS) c.new.ensures

pub returns-then-room-o : goal.returns-then-room-o
returns-then-room-o g c =
    let a = c.args in
    let h = less_trailing a.n (per g.W.Width.BITS) (omega arith) in
    sym (lt-ltb (a.n * per g.W.Width.BITS) (a.offset.0 + a.len.0 + trailing * per g.W.Width.BITS) (omega (arith, room g (goal.at.returns-then-room-o g c).After-count-room)))

pub returns : goal.returns
returns g c =
    let a = c.args in
    let h = less_trailing a.n (per g.W.Width.BITS) (omega arith) in
    let e = room g (goal.at.returns g c).After-count-room in
    ltb-eq (c.count-room.result - c.count-o.result) c.count.result (a.n * per g.W.Width.BITS) (a.offset.0 + a.len.0 + trailing * per g.W.Width.BITS) (λ l. omega arith) (λ l. omega arith)
