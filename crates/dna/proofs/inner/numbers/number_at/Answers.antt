use mathlib.Core.List.{List}
use mathlib.Core.Path.{◌≡◌, sym, ap, ◌∙◌}
use Prim.Native.Nat.{ℕ, ◌+◌, ◌-◌, ◌*◌, ◌^◌, ◌<◌}
use native.Mathlib.Omega.{arith}
use lib.ListN.{length, get_or, take, drop}
use lib.Seq.{drop-length}
use Rattle.codes.specs.Words.{word}
use Rattle.dna.specs.Numbers.{number_at}
use Rattle.dna.proofs.NumberLaws.{length-ordered, length_part, number_turn, Below-part, number_small}
use Rattle.dna.proofs.inner.numbers.number_at.Invariants.{part}
use Rattle.dna.proofs.inner.numbers.number_at.Goals.{In-loop-j, Start}
use Rattle.dna.proofs.inner.numbers.number_at.Goals as goal

long : (s : Start) → length (part s.args.big s.args.k s.args.file.now s.args.at) ≡ s.args.k
long s =
    length-ordered s.args.big (take s.args.k (drop s.args.at s.args.file.now)) ∙ length_part s.args.file.now s.args.at s.args.k s.requires.1

pub loop-j-init : goal.loop-j-init
unfolding word
loop-j-init c =
    let a = c.args in
    sym (ap (word 8) (ap (λ (n : ℕ). drop n (part a.big a.k a.file.now a.at)) (sym (long (goal.at.loop-j-init c).Start)) ∙ drop-length (part a.big a.k a.file.now a.at)))

-- one turn: the bytes from j - 1 on, and their number is a machine word's
module _ (c : In-loop-j) where
  abbrev l : List ℕ
  l = part c.args.big c.args.k c.args.file.now c.args.at

  turn : c.loop-j.value * 256 + get_or l (c.loop-j.j - 1) 0 ≡ word 8 (drop (c.loop-j.j - 1) l)
  turn =
      ap (λ (x : ℕ). x * 256 + get_or l (c.loop-j.j - 1) 0) c.loop-j.invariant
      ∙ number_turn l c.loop-j.j (omega arith) (omega (arith, long (goal.at.In-loop-j c).Start))

  room : word 8 (drop (c.loop-j.j - 1) l) < 2 ^ (8 * 8)
  room =
      number_small l (Below-part c.args.big c.args.k c.args.file.now c.args.at (λ i. (c.type_inv.file i).fits))
      (c.loop-j.j - 1) 8 (omega (arith, long (goal.at.In-loop-j c).Start, c.requires.0))

pub overflow_mul-value : goal.overflow_mul-value
overflow_mul-value c = omega (arith, turn c, room c)

pub byte_of-requires : goal.byte_of-requires
byte_of-requires c = (omega arith, c.requires.1)

pub overflow_add-value : goal.overflow_add-value
overflow_add-value c = omega (arith, c.byte_of.ensures, turn (goal.at.overflow_add-value c).In-loop-j, room (goal.at.overflow_add-value c).In-loop-j)

pub loop-j-preserved : goal.loop-j-preserved
loop-j-preserved c = ap (λ (x : ℕ). c.loop-j.value * 256 + x) c.byte_of.ensures ∙ turn (goal.at.loop-j-preserved c).In-loop-j

pub returns : goal.returns
unfolding number_at
returns c =
    let a = c.args in
    let e : c.loop-j.j ≡ 0 = omega arith in
    c.loop-j.invariant ∙ ap (λ (n : ℕ). word 8 (drop n (part a.big a.k a.file.now a.at))) e
