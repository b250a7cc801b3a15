use mathlib.Core.Path.{◌≡◌, refl, ap, subst}
use Prim.Native.Nat.{ℕ, ◌*◌, ◌/◌}
use native.Mathlib.Omega.{arith}
use lib.ListN.{length}
use Rattle.codes.specs.Words.{chars_of}
use Rattle.codes.proofs.PackedLaws.{up-bits}
use Rattle.codes.proofs.TabLaws.{Below-of}
use Rattle.fields.proofs.LoadLaws.{Bits, view_bits}
use Rattle.forms.proofs.TrackLaws.{Packing, packing_turn, packing_end}
use Rattle.forms.proofs.inner.tracks.pack_view.Given.{Over}
use Rattle.forms.proofs.inner.tracks.pack_view.Goals.{After-BITS-w}
use Rattle.forms.proofs.inner.tracks.pack_view.Goals as goal

view : (g : Over) (c : After-BITS-w g) → Bits c.BITS-w.result (length c.args.bytes.now) c.args.offset c.args.len
view g c = rw c.BITS-w.ensures (view_bits g.W.Width.divides _ _ _ c.requires.len_value)

pub overflow_mul-p : goal.overflow_mul-p
overflow_mul-p g c = let h = view g (goal.at.overflow_mul-p g c).After-BITS-w in omega (arith, h.room, h.few)

pub overflow_mul-bits : goal.overflow_mul-bits
overflow_mul-bits g c = let h = view g (goal.at.overflow_mul-bits g c).After-BITS-w in omega (arith, h.room, h.few)

pub loop-i-init : goal.loop-i-init
unfolding chars_of
loop-i-init g c = refl

pub overflow_add-p : goal.overflow_add-p
overflow_add-p g c = let h = view g (goal.at.overflow_add-p g c).After-BITS-w in omega (arith, h.room, h.few)

pub bits_at-requires : goal.bits_at-requires
bits_at-requires g c = let h = view g (goal.at.bits_at-requires g c).After-BITS-w in (omega arith, omega (arith, h.room))

pub put_bytes-requires : goal.put_bytes-requires
put_bytes-requires g c = omega (arith, c.loop-i.auto.out, c.requires.len_in_bounds, up-bits g.W.Width.divides c.args.len, ap (λ (w : ℕ). w * c.args.len) c.BITS-w.ensures)

pub loop-i-preserved : goal.loop-i-preserved
loop-i-preserved g c = packing_turn _ _ _ _ _ _ c.loop-i.i c.loop-i.invariant c.bits_at.result _ (rw c.BITS-w.ensures at c.loop-i-test.true) (rw c.BITS-w.ensures at c.bits_at.ensures) c.put_bytes.ensures

pub bits_at-requires-2 : goal.bits_at-requires-2
bits_at-requires-2 g c = let h = view g (goal.at.bits_at-requires-2 g c).After-BITS-w in (omega arith, omega (arith, h.room))

pub put_bytes-requires-2 : goal.put_bytes-requires-2
put_bytes-requires-2 g c = omega (arith, c.loop-i.auto.out, c.requires.len_in_bounds, up-bits g.W.Width.divides c.args.len, ap (λ (w : ℕ). w * c.args.len) c.BITS-w.ensures)

pub overflow_mul-i : goal.overflow_mul-i
overflow_mul-i g c = let h = view g (goal.at.overflow_mul-i g c).After-BITS-w in omega (arith, h.room, h.few)

pub overflow_mul-i-in-loop-i : goal.overflow_mul-i-in-loop-i
overflow_mul-i-in-loop-i g c = let h = view g (goal.at.overflow_mul-i-in-loop-i g c).After-BITS-w in omega (arith, h.room, h.few)

pub overflow_mul-whole : goal.overflow_mul-whole
overflow_mul-whole g c = let h = view g (goal.at.overflow_mul-whole g c).After-BITS-w in omega (arith, h.room, h.few)

pub overflow_add-p-2 : goal.overflow_add-p-2
overflow_add-p-2 g c = let h = view g (goal.at.overflow_add-p-2 g c).After-BITS-w in omega (arith, h.room, h.few)

pub overflow_mul-whole-2 : goal.overflow_mul-whole-2
overflow_mul-whole-2 g c = let h = view g (goal.at.overflow_mul-whole-2 g c).After-BITS-w in omega (arith, h.room, h.few)

pub returns : goal.returns
returns g c =
    let a = c.args in
    let l = c.loop-i in
    let whole = g.W.Width.BITS * a.len / 64 in
    let e : l.i ≡ whole = omega (arith, ap (λ (w : ℕ). w * a.len) c.BITS-w.ensures) in
    let bytes = Below-of 8 a.bytes.now (λ j. omega (arith, c.type_inv.bytes j)) in
    packing_end _ _ _ _ _ _ whole (subst (λ i. Packing g.W.Width.BITS a.bytes.now a.offset a.len a.out.now i l.out) e l.invariant) g.W.Width.divides bytes refl c.bits_at-2.result _ _ (rw c.BITS-w.ensures at c.bits_at-2.ensures) refl
    (rw c.BITS-w.ensures at c.put_bytes-2.ensures)
