-- The byte, shifted down. Assumes nothing.
use mathlib.Core.Path.{◌≡◌, ap, ap₂, ◌∙◌}
use Prim.Native.Nat.{ℕ, ◌-◌, ◌*◌, ◌/◌, ◌%◌, ◌^◌, ◌≤◌}
use native.Mathlib.Omega.{arith}
use lib.ListN.{length}
use Rattle.codes.specs.Codes.{per}
use Rattle.runs.specs.Bytes.{letters_word}
use Rattle.runs.proofs.JoinLaws.{bits_fit}
use Rattle.runs.proofs.inner.edges.last_letters.Given.{Over}
use Rattle.runs.proofs.inner.edges.last_letters.Goals.{After-count-c}
use Rattle.runs.proofs.inner.edges.last_letters.Goals as goal

-- C8, as the code has it
module _ (g : Over) (c : After-count-c g) where
  count_is : c.count-c.result ≡ per g.W.Width.BITS
  count_is = c.count-c.ensures ∙ c.per_byte.ensures

  -- the shift stays within a byte
  shift : g.W.Width.BITS * (c.count-c.result - c.args.n) ≤ 8
  shift = bits_fit g.W.Width.divides (c.count-c.result - c.args.n) (omega (arith, count_is))

pub overflow_sub-letters : goal.overflow_sub-letters
overflow_sub-letters g c = omega (arith, count_is g c, c.requires)

pub whole_byte-requires : goal.whole_byte-requires
whole_byte-requires g c = (c.requires.0, omega (arith, count_is g c, c.requires))

pub overflow_sub-result : goal.overflow_sub-result
overflow_sub-result g c = omega (arith, count_is g (goal.at.overflow_sub-result g c).After-count-c, c.requires.2)

pub overflow_mul-result : goal.overflow_mul-result
overflow_mul-result g c = rw c.BITS.ensures (omega (arith, shift g (goal.at.overflow_mul-result g c).After-count-c))

pub overflow_shr-result : goal.overflow_shr-result
overflow_shr-result g c = rw c.BITS.ensures (omega (arith, shift g (goal.at.overflow_shr-result g c).After-count-c))

pub returns : goal.returns
returns g c =
    let a = c.args in
    let e = ap (λ (p : ℕ). letters_word g.W.Width.BITS (per g.W.Width.BITS) a.letters.now (length a.letters.now - p)) (count_is g (goal.at.returns g c).After-count-c) in
    rw c.BITS.ensures (ap₂ (λ (x p : ℕ). x / 2 ^ (g.W.Width.BITS * (p - a.n)) % 2 ^ 8) (c.whole_byte.ensures ∙ e) (count_is g (goal.at.returns g c).After-count-c))
