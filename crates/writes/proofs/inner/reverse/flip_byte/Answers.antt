-- The entry of eight bits, shifted down where fewer are left. Assumes nothing.
use mathlib.Core.Path.{◌≡◌, sym, ap, ◌∙◌}
use Prim.Native.Nat.{ℕ, ◌-◌, ◌/◌, ◌%◌, ◌^◌}
use native.Mathlib.Nat.{div-one}
use native.Mathlib.Omega.{arith}
use lib.ListN.{get_or}
use lib.Pow.{shr-shr}
use Rattle.codes.specs.Words.{word}
use Rattle.writes.proofs.inner.reverse.flip_byte.Goals as goal

pub returns-then-left-lt8 : goal.returns-then-left-lt8
returns-then-left-lt8 c =
    let a = c.args in
    let v = word 8 a.bytes.now / 2 ^ a.p in
    let none : a.left - 8 ≡ 0 = omega arith in
    ap (λ (b : ℕ). get_or a.table.now b 0 / 2 ^ (8 - a.left)) (c.byte_at-b.ensures ∙ sym (ap (λ (n : ℕ). v / 2 ^ n % 2 ^ 8) none ∙ ap (λ (y : ℕ). y % 2 ^ 8) (div-one v)))

pub returns : goal.returns
returns c =
    let a = c.args in
    let s = word 8 a.bytes.now in
    let none : 8 - a.left ≡ 0 = omega arith in
    ap (λ (b : ℕ). get_or a.table.now b 0) (c.byte_at-b-2.ensures ∙ ap (λ (y : ℕ). y % 2 ^ 8) (sym (shr-shr s a.p (a.left - 8))))
    ∙ sym (ap (λ (n : ℕ). get_or a.table.now (s / 2 ^ a.p / 2 ^ (a.left - 8) % 2 ^ 8) 0 / 2 ^ n) none ∙ div-one (get_or a.table.now (s / 2 ^ a.p / 2 ^ (a.left - 8) % 2 ^ 8) 0))
