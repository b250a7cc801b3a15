use Rattle.std.specs.Prelude.{Ok}
use mathlib.Core.Path.{◌≡◌, refl, sym, ap, ◌∙◌, subst}
use Prim.Native.Nat.{ℕ, ◌+◌, ◌*◌, ◌/◌, ◌^◌, ◌<◌, ◌≤◌}
use native.Mathlib.Nat.{add-zero, min-le_left, min-le_right}
use native.Mathlib.Omega.{arith}
use lib.ListN.{length}
use borrow.Author.Count.{below_more}
use Rattle.codes.proofs.TabLaws.{Below-of}
use Rattle.codes.proofs.WordLaws.{Below}
use Rattle.fields.proofs.LoadLaws.{Bits, view_word}
use Rattle.order.specs.Order.{pair_outcome}
use Rattle.order.proofs.FindLaws.{Stands, stands-whole, stands-short, stands-bits, found_at, found_none}
use Rattle.order.proofs.OrderLaws.{pair_bits, pair_cut}
use Rattle.order.proofs.inner.find.find_at.Given.{Over}
use Rattle.order.proofs.inner.find.find_at.Goals.{Else-tl-pl, In-places, Then-low_bits-ne0, Else-pl-count}
use Rattle.order.proofs.inner.find.find_at.Goals as goal

pub returns-then-tl-pl : goal.returns-then-tl-pl
returns-then-tl-pl g c =
    let a = c.args in
    found_none g.W.Width.BITS a.t.now a.to a.tl a.p.now a.po a.pl (λ j st. omega (arith, st.0))

-- the two views
module _ (g : Over) (c : Else-tl-pl g) where
  bits : let a = c.args in Bits g.W.Width.BITS (length a.t.now) a.to a.tl × Bits g.W.Width.BITS (length a.p.now) a.po a.pl
  bits =
      let a = c.args in
      pair_bits g.W.Width.divides (length a.t.now) a.to a.tl (length a.p.now) a.po a.pl c.requires

  text : Below 8 c.args.t.now
  text = Below-of 8 c.args.t.now (λ i. omega (arith, c.shared_slice_known-1.given i))

  pattern : Below 8 c.args.p.now
  pattern = Below-of 8 c.args.p.now (λ i. omega (arith, c.shared_slice_known-2-1.given i))

  -- where the pattern's first bits stand, and those of the text at a place
  head : let a = c.args in (g.W.Width.BITS * a.po / 8 + 40 ≤ length a.p.now) × (g.W.Width.BITS * a.po < 2 ^ 31)
  head =
      let a = c.args in
      view_word g.W.Width.BITS (length a.p.now) a.po a.pl 0 (g.W.Width.BITS * a.po) bits.1 (omega arith) (ap (λ (k : ℕ). g.W.Width.BITS * k) (sym (add-zero a.po)))

  place : (k : ℕ) → k ≤ c.args.tl → let a = c.args in (g.W.Width.BITS * (a.to + k) / 8 + 40 ≤ length a.t.now) × (g.W.Width.BITS * (a.to + k) < 2 ^ 31)
  place k h =
      let a = c.args in
      view_word g.W.Width.BITS (length a.t.now) a.to a.tl k (g.W.Width.BITS * (a.to + k)) bits.0 h refl

pub overflow_add-count : goal.overflow_add-count
overflow_add-count g c = record { fits = omega (arith, (bits g c).0.short) }

pub overflow_mul-w : goal.overflow_mul-w
overflow_mul-w g c = record { fits = rw c.BITS-w.ensures (omega (arith, (bits g c).1.room, (bits g c).1.few)) }

pub overflow_mul-w-2 : goal.overflow_mul-w-2
overflow_mul-w-2 g c = record { fits = rw c.BITS-w.ensures (omega (arith, (head g (goal.at.overflow_mul-w-2 g c).Else-tl-pl).1)) }

pub peek-head-requires : goal.peek-head-requires
peek-head-requires g c = rw c.BITS-w.ensures (omega (arith, (head g (goal.at.peek-head-requires g c).Else-tl-pl).0))

-- the text at this place, as long as the pattern
module _ (g : Over) (c : In-places g) where
  abbrev at : ℕ
  at = c.places.at

  cut : let a = c.args in pair_outcome g.W.Width.BITS a.t.now (a.to + at) a.pl a.p.now a.po a.pl ≡ Ok tt
  cut =
      let a = c.args in
      pair_cut g.W.Width.BITS (length a.t.now) a.to a.tl (length a.p.now) a.po a.pl at a.pl c.requires (omega arith)

  near : at ≤ c.args.tl
  near = omega arith

  sum : c.args.to + at < 2 ^ 32
  sum = omega (arith, near, (bits g (goal.at.In-places g c).Else-tl-pl).0.short)

pub overflow_add-to : goal.overflow_add-to
overflow_add-to g c = record { fits = omega (arith, sum g c) }

pub overflow_mul-w-in-places : goal.overflow_mul-w-in-places
overflow_mul-w-in-places g c = record { fits = rw c.BITS-w.ensures (omega (arith, (place g (goal.at.overflow_mul-w-in-places g c).Else-tl-pl (at g c) (near g c)).1)) }

pub peek-requires : goal.peek-requires
peek-requires g c = rw c.BITS-w.ensures (omega (arith, (place g (goal.at.peek-requires g c).Else-tl-pl (at g c) (near g c)).0))

pub low_bits-requires : goal.low_bits-requires
low_bits-requires g c =
    let a = c.args in
    omega (arith, c.smaller-bits.ensures, min-le_right (c.BITS-w.result * a.pl) 56)

-- the pattern does not stand where its first bits do not
unlike : (g : Over) (c : Then-low_bits-ne0 g) → let a = c.args in Stands g.W.Width.BITS a.t.now a.to a.tl a.p.now a.po a.pl c.places.at → ⊥
unlike g c st =
    let a = c.args in
    let v = (goal.at.Then-low_bits-ne0 g c).Else-tl-pl in
    let m = (rw c.BITS-w.ensures at c.smaller-bits.ensures) in
    c.if-low_bits-ne0.true
    (c.low_bits.ensures
    ∙ stands-bits g.W.Width.BITS a.t.now a.to a.tl a.p.now a.po a.pl g.W.Width.divides (text g v) (pattern g v) c.places.at _ _ _ (rw c.BITS-w.ensures at c.peek.ensures) (rw c.BITS-w.ensures at c.peek-head.ensures)
    (omega (arith, m, min-le_left (g.W.Width.BITS * a.pl) 56)) (omega (arith, m, min-le_right (g.W.Width.BITS * a.pl) 56)) st)

pub places-preserved-then-low_bits-ne0 : goal.places-preserved-then-low_bits-ne0
places-preserved-then-low_bits-ne0 g c =
    below_more _ _ c.places.invariant (unlike g (goal.at.places-preserved-then-low_bits-ne0 g c).Then-low_bits-ne0)

pub overflow_add-to-in-places : goal.overflow_add-to-in-places
overflow_add-to-in-places g c = record { fits = omega (arith, sum g (goal.at.overflow_add-to-in-places g c).In-places) }

pub compare_views-c-requires : goal.compare_views-c-requires
compare_views-c-requires g c = cut g (goal.at.compare_views-c-requires g c).In-places

-- nor where less than the pattern is common
short : (g : Over) (c : Else-pl-count g) → let a = c.args in Stands g.W.Width.BITS a.t.now a.to a.tl a.p.now a.po a.pl c.places.at → ⊥
short g c =
    let a = c.args in
    stands-short g.W.Width.BITS a.t.now a.to a.tl a.p.now a.po a.pl c.places.at (subst (λ (n : ℕ). n < a.pl) (c.compare_views-c.ensures.common) (subst (λ (n : ℕ). n < a.pl) c.count.ensures c.if-pl-count.false))

pub places-preserved : goal.places-preserved
places-preserved g c = below_more _ _ c.places.invariant (short g (goal.at.places-preserved g c).Else-pl-count)

pub returns : goal.returns
returns g c =
    let a = c.args in
    found_none g.W.Width.BITS a.t.now a.to a.tl a.p.now a.po a.pl (λ j st. c.places.invariant j (omega (arith, st.0)) st)

pub returns-then-pl-count : goal.returns-then-pl-count
returns-then-pl-count g c =
    let a = c.args in
    let at = c.places.at in
    let whole = subst (λ (n : ℕ). a.pl ≤ n) c.compare_views-c.ensures.common (subst (λ (n : ℕ). a.pl ≤ n) c.count.ensures c.if-pl-count.true) in
    found_at g.W.Width.BITS a.t.now a.to a.tl a.p.now a.po a.pl at (stands-whole g.W.Width.BITS a.t.now a.to a.tl a.p.now a.po a.pl at (omega arith) whole) c.places.invariant
