-- The tests are the definition's, in its order. Assumes nothing.
use mathlib.Core.Bool.{Bool, false}
use mathlib.Core.Path.{◌≡◌, sym, ap, ap₂, ◌∙◌}
use Prim.Native.Nat.{ℕ, ◌+◌, ◌*◌, ◌^◌, ◌≤◌}
use native.Mathlib.Nat.{mod-lt}
use native.Mathlib.Omega.{arith}
use borrow.Author.Tests.{ltb-false}
use Rattle.codes.specs.Codes.{per, up, trailing}
use Rattle.codes.specs.Refusals.{too_long, bad_store, bad_view}
use Rattle.runs.specs.Runs.{seq_start}
use Rattle.stores.specs.Stores.{no_store}
use Rattle.codes.proofs.WidthLaws.{per_pos, per-le, chars-bound}
use Rattle.stores.proofs.inner.outcomes.seq_outcome.Given.{Over}
use Rattle.stores.proofs.inner.outcomes.seq_outcome.Goals.{After-no_room, Else-bad_store, Else-bad_view, Else-too_long, Else-too_long-2}
use Rattle.stores.proofs.inner.outcomes.seq_outcome.Goals as goal

-- the tests that are passed
short : (g : Over) (c : Else-too_long g) → (too_long c.args.size).0 ≡ false
short g c = sym c.too_long.ensures ∙ c.if-too_long.false

view_short : (g : Over) (c : Else-too_long-2 g) → (too_long c.args.bytes).0 ≡ false
view_short g c = sym c.too_long-2.ensures ∙ c.if-too_long-2.false

sound : (g : Over) (c : Else-bad_store g) → let a = c.args in (bad_store g.W.Width.BITS a.size a.len.0).0 ≡ false
sound g c = sym c.bad_store.ensures ∙ c.if-bad_store.false

held : (g : Over) (c : Else-bad_view g) → let a = c.args in (bad_view g.W.Width.BITS a.bytes a.offset.0 a.count.0).0 ≡ false
held g c = sym c.bad_view.ensures ∙ c.if-bad_view.false

pub returns-then-too_long : goal.returns-then-too_long
returns-then-too_long g c = rw (sym c.too_long.ensures ∙ c.if-too_long.true)

pub returns-then-too_long-2 : goal.returns-then-too_long-2
returns-then-too_long-2 g c = rw (short g (goal.at.returns-then-too_long-2 g c).Else-too_long, sym c.too_long-2.ensures ∙ c.if-too_long-2.true)

pub returns-then-bad_store : goal.returns-then-bad_store
returns-then-bad_store g c =
    rw (short g (goal.at.returns-then-bad_store g c).Else-too_long, view_short g (goal.at.returns-then-bad_store g c).Else-too_long-2, sym c.bad_store.ensures ∙ c.if-bad_store.true)

pub bad_view-requires : goal.bad_view-requires
bad_view-requires g c =
    ltb-false _ _ (view_short g (goal.at.bad_view-requires g c).Else-too_long-2)

pub returns-then-bad_view : goal.returns-then-bad_view
returns-then-bad_view g c =
    rw (
      short g (goal.at.returns-then-bad_view g c).Else-too_long,
      view_short g (goal.at.returns-then-bad_view g c).Else-too_long-2,
      sound g (goal.at.returns-then-bad_view g c).Else-bad_store,
      sym c.bad_view.ensures ∙ c.if-bad_view.true,
    )

pub seq_start-requires : goal.seq_start-requires
seq_start-requires g c =
    let h : c.args.size ≤ 2 ^ 28 = ltb-false _ _ (short g (goal.at.seq_start-requires g c).Else-too_long) in
    let l : up g.W.Width.BITS c.args.len.0 + trailing ≤ c.args.size = ltb-false _ _ (sound g (goal.at.seq_start-requires g c).Else-bad_store) in omega arith

pub overflow_add-seq_start : goal.overflow_add-seq_start
overflow_add-seq_start g c =
    let a = c.args in
    let h : a.size ≤ 2 ^ 28 = ltb-false _ _ (short g (goal.at.overflow_add-seq_start g c).Else-too_long) in
    let l : up g.W.Width.BITS a.len.0 + trailing ≤ a.size = ltb-false _ _ (sound g (goal.at.overflow_add-seq_start g c).Else-bad_store) in
    let v : a.offset.0 + a.count.0 + trailing * per g.W.Width.BITS ≤ a.bytes * per g.W.Width.BITS = ltb-false _ _ (held g (goal.at.overflow_add-seq_start g c).Else-bad_view) in
    let few = chars-bound g.W.Width.divides a.bytes (ltb-false _ _ (view_short g (goal.at.overflow_add-seq_start g c).Else-too_long-2)) in
    let long = chars-bound g.W.Width.divides (up g.W.Width.BITS a.len.0) (omega arith) in
    omega (arith, c.seq_start.ensures, c.count.ensures, few, long, mod-lt a.offset.0 (per_pos g.W.Width.divides), per-le g.W.Width.divides)

pub no_room-requires : goal.no_room-requires
no_room-requires g c =
    let l : up g.W.Width.BITS c.args.len.0 + trailing ≤ c.args.size = ltb-false _ _ (sound g (goal.at.no_room-requires g c).Else-bad_store) in omega arith

-- the last test
full : (g : Over) (c : After-no_room g) (b : Bool) → c.no_room.result ≡ b
    → let a = c.args in
    (no_store g.W.Width.BITS a.size (seq_start g.W.Width.BITS a.len.0 a.offset.0 + a.count.0)).0 ≡ b
full g c b e =
    let a = c.args in
    ap (λ (x : ℕ). (no_store g.W.Width.BITS a.size x).0) (sym (ap₂ ◌+◌ c.seq_start.ensures c.count.ensures)) ∙ sym c.no_room.ensures ∙ e

pub returns-then-no_room : goal.returns-then-no_room
returns-then-no_room g c =
    rw (
      short g (goal.at.returns-then-no_room g c).Else-too_long,
      view_short g (goal.at.returns-then-no_room g c).Else-too_long-2,
      sound g (goal.at.returns-then-no_room g c).Else-bad_store,
      held g (goal.at.returns-then-no_room g c).Else-bad_view,
      full g (goal.at.returns-then-no_room g c).After-no_room _ c.if-no_room.true,
    )

pub returns : goal.returns
returns g c =
    rw (
      short g (goal.at.returns g c).Else-too_long,
      view_short g (goal.at.returns g c).Else-too_long-2,
      sound g (goal.at.returns g c).Else-bad_store,
      held g (goal.at.returns g c).Else-bad_view,
      full g (goal.at.returns g c).After-no_room _ c.if-no_room.false,
    )
