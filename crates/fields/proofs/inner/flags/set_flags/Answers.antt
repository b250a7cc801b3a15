use mathlib.Core.Path.{◌≡◌, refl, ap, ap₂, ◌∙◌}
use Prim.Native.Nat.{ℕ, ◌+◌, ◌*◌, ◌/◌, ◌%◌}
use native.Mathlib.Omega.{arith}
use Rattle.codes.specs.Codes.{chars}
use Rattle.fields.specs.Flags.{sum, set_flags}
use Rattle.fields.proofs.FlagLaws.{flags_more, flags_few}
use Rattle.fields.proofs.inner.flags.set_flags.Goals as goal

pub loop-i-init : goal.loop-i-init
unfolding chars sum
loop-i-init c = refl

pub overflow_add-sum : goal.overflow_add-sum
overflow_add-sum c =
    let a = c.args in
    let done = 64 * c.loop-i.i in
    omega (arith, c.loop-i.invariant, c.set_in_word-sum.ensures, flags_few a.bytes.now a.first done, flags_few a.bytes.now (a.first + done) 64)

pub loop-i-preserved : goal.loop-i-preserved
loop-i-preserved c =
    let a = c.args in
    let done = 64 * c.loop-i.i in
    let more : done + 64 ≡ 64 * (c.loop-i.i + 1) = omega arith in
    ap₂ (λ (x y : ℕ). x + y) c.loop-i.invariant c.set_in_word-sum.ensures ∙ flags_more a.bytes.now a.first done 64
    ∙ ap (λ (n : ℕ). set_flags (chars 1 a.bytes.now a.first n)) more

pub overflow_add-result : goal.overflow_add-result
overflow_add-result c =
    let a = c.args in
    let done = 64 * (a.n / 64) in
    let i : c.loop-i.i ≡ a.n / 64 = omega arith in
    omega (arith, rw i at c.loop-i.invariant, c.set_in_word.ensures, flags_few a.bytes.now a.first done, flags_few a.bytes.now (a.first + done) (a.n % 64))

pub returns : goal.returns
returns c =
    let a = c.args in
    let done = 64 * (a.n / 64) in
    let i : c.loop-i.i ≡ a.n / 64 = omega arith in
    let all : done + a.n % 64 ≡ a.n = omega arith in
    ap₂ (λ (x y : ℕ). x + y) (rw i at c.loop-i.invariant) c.set_in_word.ensures ∙ flags_more a.bytes.now a.first done (a.n % 64)
    ∙ ap (λ (n : ℕ). set_flags (chars 1 a.bytes.now a.first n)) all
