-- The tests are the definition's, in its order. Assumes nothing.
use mathlib.Core.Bool.{Bool, false}
use mathlib.Core.Path.{◌≡◌, sym, ap, ◌∙◌}
use Prim.Native.Nat.{ℕ, ◌+◌, ◌≤◌}
use native.Mathlib.Omega.{arith}
use borrow.Author.Tests.{ltb-false}
use Rattle.codes.specs.Codes.{up, trailing}
use Rattle.codes.specs.Refusals.{too_long, bad_store}
use Rattle.stores.specs.Stores.{no_store}
use Rattle.runs.proofs.RoomLaws.{room_chars}
use Rattle.stores.proofs.inner.outcomes.letters_outcome.Given.{Over}
use Rattle.stores.proofs.inner.outcomes.letters_outcome.Goals.{After-no_room, Else-bad_store, Else-too_long}
use Rattle.stores.proofs.inner.outcomes.letters_outcome.Goals as goal

-- the tests that are passed
short : (g : Over) (c : Else-too_long g) → (too_long c.args.size).0 ≡ false
short g c = sym c.too_long.ensures ∙ c.if-too_long.false

sound : (g : Over) (c : Else-bad_store g) → let a = c.args in (bad_store g.W.Width.BITS a.size a.len.0).0 ≡ false
sound g c = sym c.bad_store.ensures ∙ c.if-bad_store.false

pub returns-then-too_long : goal.returns-then-too_long
returns-then-too_long g c = rw (sym c.too_long.ensures ∙ c.if-too_long.true)

pub returns-then-bad_store : goal.returns-then-bad_store
returns-then-bad_store g c = rw (short g (goal.at.returns-then-bad_store g c).Else-too_long, sym c.bad_store.ensures ∙ c.if-bad_store.true)

pub overflow_add-count : goal.overflow_add-count
overflow_add-count g c =
    let a = c.args in
    let l : up g.W.Width.BITS a.len.0 + trailing ≤ a.size = ltb-false _ _ (sound g (goal.at.overflow_add-count g c).Else-bad_store) in
    omega (arith, room_chars g.W.Width.divides a.len.0 a.size (omega arith) (ltb-false _ _ (short g (goal.at.overflow_add-count g c).Else-too_long)))

pub no_room-requires : goal.no_room-requires
no_room-requires g c =
    let l : up g.W.Width.BITS c.args.len.0 + trailing ≤ c.args.size = ltb-false _ _ (sound g (goal.at.no_room-requires g c).Else-bad_store) in omega arith

-- the last test
full : (g : Over) (c : After-no_room g) (b : Bool) → c.no_room.result ≡ b
    → let a = c.args in (no_store g.W.Width.BITS a.size (a.len.0 + a.count)).0 ≡ b
full g c b e =
    let a = c.args in
    ap (λ (x : ℕ). (no_store g.W.Width.BITS a.size (x + a.count)).0) (sym c.count.ensures) ∙ sym c.no_room.ensures ∙ e

pub returns-then-no_room : goal.returns-then-no_room
returns-then-no_room g c =
    rw (short g (goal.at.returns-then-no_room g c).Else-too_long, sound g (goal.at.returns-then-no_room g c).Else-bad_store, full g (goal.at.returns-then-no_room g c).After-no_room _ c.if-no_room.true)

pub returns : goal.returns
returns g c =
    rw (short g (goal.at.returns g c).Else-too_long, sound g (goal.at.returns g c).Else-bad_store, full g (goal.at.returns g c).After-no_room _ c.if-no_room.false)
