-- The character stands at its bit place; before the delay and past the end there is none. Assumes nothing.
use mathlib.Core.List.{List}
use mathlib.Core.Path.{refl, ◌∙◌}
use Prim.Native.Nat.{ℕ, ◌+◌, ◌-◌, ◌*◌, ◌/◌, ◌^◌, ◌≤◌, ◌<◌}
use native.Mathlib.Nat.{le_of_lt}
use native.Mathlib.Omega.{arith}
use lib.ListN.{length}
use Rattle.codes.specs.Codes.{chars}
use Rattle.codes.proofs.TabLaws.{Below-of}
use Rattle.fields.proofs.LoadLaws.{Bits, view_bits, view_word}
use Rattle.lanes.proofs.LaneLaws.{lane_char-early, lane_char-late, char_past, char_within, field-small, lane_place}
use Rattle.lanes.proofs.inner.eight.lane_char.Given.{Over}
use Rattle.lanes.proofs.inner.eight.lane_char.Goals.{Start}
use Rattle.lanes.proofs.inner.eight.lane_char.Goals as goal

module _ (g : Over) (s : Start g) where
  abbrev cs : List ℕ
  cs = chars g.W.Width.BITS s.args.bytes.now s.args.offset s.args.len

  bits : Bits g.W.Width.BITS (length s.args.bytes.now) s.args.offset s.args.len
  bits = view_bits g.W.Width.divides (length s.args.bytes.now) s.args.offset s.args.len s.requires.len_value

  -- which character it is, and where its first bit stands
  abbrev i : ℕ
  i = s.args.l * s.args.n + (s.args.j - s.args.d)

  few : (s.args.l * s.args.n ≤ 2 ^ 32) × (i ≤ 2 ^ 34)
  few = lane_place s.args.n s.args.j s.args.d s.args.l s.requires.n_bound.0 s.requires.n_bound.1 s.requires.n_bound.2

  abbrev at : ℕ
  at = g.W.Width.BITS * (s.args.offset + i)

  place : i < s.args.len → (at / 8 + 40 ≤ length s.args.bytes.now) × (at < 2 ^ 31)
  place h = view_word g.W.Width.BITS (length s.args.bytes.now) s.args.offset s.args.len i at bits (le_of_lt h) refl

pub returns-then-j-d : goal.returns-then-j-d
returns-then-j-d g c = lane_char-early (cs g (goal.at.returns-then-j-d g c).Start) c.args.n c.args.d c.args.j c.args.l c.if-j-d.true

pub overflow_mul-i : goal.overflow_mul-i
overflow_mul-i g c = omega (arith, (few g (goal.at.overflow_mul-i g c).Start).0)

pub overflow_add-i : goal.overflow_add-i
overflow_add-i g c = omega (arith, (few g (goal.at.overflow_add-i g c).Start).1)

pub returns-then-len-i : goal.returns-then-len-i
returns-then-len-i g c =
    let a = c.args in
    char_past g.W.Width.divides a.bytes.now (Below-of 8 c.args.bytes.now (λ i. omega (arith, c.type_inv.bytes i))) a.offset a.len (i g (goal.at.returns-then-len-i g c).Start)
    c.if-len-i.true ∙ lane_char-late (cs g (goal.at.returns-then-len-i g c).Start) a.n a.d a.j a.l c.if-j-d.false

pub overflow_add-offset : goal.overflow_add-offset
overflow_add-offset g c = omega (arith, (bits g (goal.at.overflow_add-offset g c).Start).short)

pub overflow_mul-w : goal.overflow_mul-w
overflow_mul-w g c = rw c.BITS-w.ensures (omega (arith, (place g (goal.at.overflow_mul-w g c).Start c.if-len-i.false).1))

pub bits_at-requires : goal.bits_at-requires
bits_at-requires g c = rw c.BITS-w.ensures ((omega (arith, g.W.Width.divides.small), omega (arith, (place g (goal.at.bits_at-requires g c).Start c.if-len-i.false).0)))

pub narrow-requires : goal.narrow-requires
narrow-requires g c = rw (c.bits_at.ensures, c.BITS-w.ensures) (field-small g.W.Width.divides _)

pub returns : goal.returns
returns g c =
    let a = c.args in
    c.narrow.ensures ∙ (rw c.BITS-w.ensures at c.bits_at.ensures)
    ∙ char_within g.W.Width.divides a.bytes.now (Below-of 8 c.args.bytes.now (λ i. omega (arith, c.type_inv.bytes i))) a.offset a.len (i g (goal.at.returns g c).Start) c.if-len-i.false
    ∙ lane_char-late (cs g (goal.at.returns g c).Start) a.n a.d a.j a.l c.if-j-d.false
