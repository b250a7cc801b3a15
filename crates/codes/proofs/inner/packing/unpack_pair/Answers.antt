-- The letters of a pair are those of its low half and then those of its high half. Assumes nothing.
use mathlib.Core.Path.{◌≡◌, sym, ap, ap₂, ◌∙◌}
use mathlib.Core.List.{List, map, ◌++◌, map-append}
use Prim.Native.Nat.{ℕ, ◌+◌, ◌-◌, ◌*◌, ◌^◌}
use native.Mathlib.Omega.{arith}
use lib.ListN.{length-map, drop}
use Rattle.codes.specs.Codes.{letter}
use Rattle.codes.specs.Words.{chars_of}
use Rattle.codes.proofs.Turns.{written_on}
use Rattle.codes.proofs.WordLaws.{chars_of-pair, chars_of-low, length-chars_of}
use Rattle.codes.proofs.inner.packing.unpack_pair.Goals as goal

pub returns-then-k-le32 : goal.returns-then-k-le32
returns-then-k-le32 c =
    let a = c.args in
    c.unpack.ensures
    ∙ ap (λ (l : List ℕ). map letter l ++ drop a.k a.out.now) (sym (chars_of-low 2 32 a.k a.low a.high (omega arith) c.ranges.low.fits))

pub returns-else-k-le32 : goal.returns-else-k-le32
returns-else-k-le32 c =
    let a = c.args in
    let m : ℕ = a.k - 32 in
    let k : 32 + m ≡ a.k = omega arith in
    let low : List ℕ = chars_of 2 32 a.low in
    let high : List ℕ = chars_of 2 m a.high in
    let one = c.unpack-else-k-le32 in
    let two = c.unpack-else-k-le32-2 in
    written_on 32 m (map letter low) (map letter high) a.out.now one.new.out two.new.out
    (length-map low letter ∙ length-chars_of 2 32 a.low) one.ensures two.ensures
    ∙ ap₂ (λ (p q : List ℕ). p ++ q)
    (sym (map-append letter low high)
    ∙ ap (map letter) (sym (chars_of-pair 2 32 m a.low a.high c.ranges.low.fits) ∙ ap (λ (n : ℕ). chars_of 2 n (a.high * 2 ^ 64 + a.low)) k))
    (ap (λ (n : ℕ). drop n a.out.now) k)
