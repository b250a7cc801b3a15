-- The whole words of the reversed view, the bytes behind them, and the run of zeros. Assumes nothing.
use mathlib.Core.Path.{◌≡◌, sym, ap, ◌∙◌}
use Prim.Native.Nat.{ℕ, ◌+◌, ◌*◌, ◌/◌}
use native.Mathlib.Nat.{mul-div_cancel_left}
use native.Mathlib.Omega.{arith}
use lib.ListN.{length}
use Rattle.codes.proofs.MadeLaws.{made-to, made-on}
use Rattle.codes.proofs.TabLaws.{Below-of}
use Rattle.codes.proofs.WidthLaws.{width_pos}
use Rattle.writes.proofs.ReverseLaws.{bytes-of_bits, flipped-written}
use Rattle.fields.proofs.LoadLaws.{Bits, view_bits}
use Rattle.writes.proofs.inner.reverse.write_flipped.Given.{Over}
use Rattle.writes.proofs.inner.reverse.write_flipped.Goals.{Start}
use Rattle.writes.proofs.inner.reverse.write_flipped.Goals as goal

module _ (g : Over) (s : Start g) where
  room : Bits g.W.Width.BITS (length s.args.bytes.now) s.args.o s.args.len
  room = view_bits g.W.Width.divides (length s.args.bytes.now) s.args.o s.args.len s.requires.len_value

  -- the bits are those of whole characters
  same : g.W.Width.BITS * s.args.len / g.W.Width.BITS ≡ s.args.len
  same = mul-div_cancel_left s.args.len (width_pos g.W.Width.divides)

  -- and take the bytes that are used
  used : s.args.used ≡ (g.W.Width.BITS * s.args.len + 7) / 8
  used = s.requires.used_value.0 ∙ sym (bytes-of_bits g.W.Width.divides s.args.len)

pub overflow_mul-p : goal.overflow_mul-p
overflow_mul-p g c = let h = room g (goal.at.overflow_mul-p g c).Start in record { fits = rw c.BITS-w.ensures (omega (arith, h.room, h.few)) }

pub overflow_mul-bits : goal.overflow_mul-bits
overflow_mul-bits g c = let h = room g (goal.at.overflow_mul-bits g c).Start in record { fits = rw c.BITS-w.ensures (omega (arith, h.room, h.few)) }

pub flip_words-requires : goal.flip_words-requires
flip_words-requires g c =
    let h = room g (goal.at.flip_words-requires g c).Start in
    rw c.BITS-w.ensures (record { bits_value = ap (λ (n : ℕ). g.W.Width.BITS * n) (same g (goal.at.flip_words-requires g c).Start); bits_bound = (omega (arith, h.room, h.few), h.room, omega (arith, used g (goal.at.flip_words-requires g c).Start, c.requires.used_value.1)) })

pub flip_rest-requires : goal.flip_rest-requires
flip_rest-requires g c =
    let h = room g (goal.at.flip_rest-requires g c).Start in
    rw c.BITS-w.ensures (record { bits_value = ap (λ (n : ℕ). g.W.Width.BITS * n) (same g (goal.at.flip_rest-requires g c).Start); bits_bound = (omega (arith, h.room, h.few), h.room, omega (arith, used g (goal.at.flip_rest-requires g c).Start, c.requires.used_value.1)) })

pub returns : goal.returns
returns g c =
    let a = c.args in
    let h = c.requires.used_value in
    flipped-written g.W.Width.divides a.bytes.now (Below-of 8 a.bytes.now (λ i. omega (arith, c.shared_slice_known-1.given i))) a.o a.len a.used h.0 h.1
    (made-to (made-on (rw c.BITS-w.ensures at c.flip_words.ensures) (rw c.BITS-w.ensures at c.flip_rest.ensures) (omega arith) (omega arith)) (sym (used g (goal.at.returns g c).Start)))
    c.zero_run.ensures
