use mathlib.Core.Path.{◌≡◌, sym, ap, ◌∙◌, subst}
use Prim.Native.Nat.{ℕ, ◌+◌, ◌*◌, ◌/◌, ◌%◌, ◌^◌, ◌≤◌, ◌<◌}
use native.Mathlib.Nat.{mod-lt, lt_of_lt_of_le}
use native.Mathlib.Omega.{arith}
use lib.ListN.{length}
use lib.Pow.{pow_pos, pow_mono}
use Rattle.codes.specs.Made.{Made}
use Rattle.codes.specs.Words.{word}
use Rattle.codes.proofs.MadeLaws.{made_none, made-to}
use Rattle.codes.proofs.TabLaws.{Below-of}
use Rattle.codes.proofs.WordLaws.{Below}
use Rattle.fields.proofs.LoadLaws.{loaded_byte}
use Rattle.dna.proofs.ReadLaws.{held, held_byte, loaded_some, read_held, cleared_held, held_turn, held_all}
use Rattle.dna.proofs.WriteLaws.{low_flags, flag-bits, put_sets}
use Rattle.dna.proofs.inner.reading.read_dna.Goals.{At-loop-i}
use Rattle.dna.proofs.inner.reading.read_dna.Goals as goal

file_fit : (c : At-loop-i) → Below 8 c.args.file.now
file_fit c = Below-of 8 c.args.file.now (λ i. omega (arith, c.type_inv.file i))

flags_fit : (c : At-loop-i) → Below 8 c.args.flags.now
flags_fit c = Below-of 8 c.args.flags.now (λ i. omega (arith, c.type_inv.flags i))

pub loop-i-init : goal.loop-i-init
loop-i-init c = made_none (omega arith)

pub loop-i-preserved : goal.loop-i-preserved
loop-i-preserved c =
    let a = c.args in
    let at = 8 * c.loop-i.i in
    let done = 32 * c.loop-i.i in
    let place : 4 * at ≡ done = omega arith in
    let fits : at + 8 ≤ length a.bases.now = omega (arith, c.requires.trailing_in_bounds.0) in
    let pairs : (j : ℕ) → j < 32 → c.three_under.result / 2 ^ (2 * j) % 4 ≡ held a.file.now a.flags.now a.d a.n (done + j) =
    λ j h.
    read_held a.file.now a.flags.now a.d a.n done at 8 c.load64-x.result c.exchange.result place (omega arith)
    (loaded_byte a.file.now (file_fit (goal.at.loop-i-preserved c).At-loop-i) (a.d + at) c.load64-x.result c.load64-x.ensures) c.exchange.ensures (c.peek-f.result % 2 ^ 32) c.three_under.result
    c.three_under.ensures j h (omega arith)
    (flag-bits a.flags.now (flags_fit (goal.at.loop-i-preserved c).At-loop-i) done 32 (c.peek-f.result % 2 ^ 32) j (low_flags a.flags.now done c.peek-f.result c.peek-f.ensures) h) in
    let turn = held_turn a.file.now a.flags.now a.d a.n done at 8 c.three_under.result place fits pairs c.loop-i.invariant in
    made-to (subst (Made (held_byte a.file.now a.flags.now a.d a.n) 0 (at + 8) a.bases.now) (sym c.store64.ensures) turn) (omega arith)

pub three_under-y-requires : goal.three_under-y-requires
three_under-y-requires c =
    let a = c.args in
    let left = a.n % 32 in
    let small : 2 ^ left ≤ 2 ^ 32 = pow_mono {j = 32} (omega arith) in
    subst (λ (f : ℕ). f < 2 ^ 32) (sym c.bits_at-f.ensures) (lt_of_lt_of_le (mod-lt (word 8 a.flags.now / 2 ^ (32 * (a.n / 32))) (pow_pos left)) small)

pub returns : goal.returns
returns c =
    let l = c.loop-i in
    let a = c.args in
    let at = 8 * (a.n / 32) in
    let done = 32 * (a.n / 32) in
    let left = a.n % 32 in
    let k = (left + 3) / 4 in
    let y = c.three_under-y.result in
    let place : 4 * at ≡ done = omega arith in
    let fits : at + k ≤ length a.bases.now = omega (arith, c.requires.trailing_in_bounds.0) in
    let pairs : (j : ℕ) → j < left → y / 2 ^ (2 * j) % 4 ≡ held a.file.now a.flags.now a.d a.n (done + j) =
    λ j h.
    read_held a.file.now a.flags.now a.d a.n done at k c.number_at-x.result c.exchange-2.result place (omega arith)
    (loaded_some a.file.now (file_fit (goal.at.returns c).At-loop-i) (a.d + at) k c.number_at-x.result c.number_at-x.ensures) c.exchange-2.ensures c.bits_at-f.result y
    c.three_under-y.ensures j (omega arith)
    (omega arith) (flag-bits a.flags.now (flags_fit (goal.at.returns c).At-loop-i) done left c.bits_at-f.result j c.bits_at-f.ensures h) in
    let clear = cleared_held a.file.now a.flags.now a.d a.n done left y (omega arith) pairs in
    let turn =
    held_turn a.file.now a.flags.now a.d a.n done at k c.low_bits.result place fits
    (λ j h. ap (λ (v : ℕ). v / 2 ^ (2 * j) % 4) c.low_bits.ensures ∙ clear j) (made-to l.invariant (omega arith)) in
    let out = c.put_bytes.ensures ∙ put_sets k c.low_bits.result at l.bases (omega (arith, l.invariant.long)) in
    held_all a.file.now a.flags.now a.d a.n (at + k) (omega arith) c.requires.trailing_in_bounds.0
    (subst (Made (held_byte a.file.now a.flags.now a.d a.n) 0 (at + k) a.bases.now) (sym out) turn) c.zero_run.ensures
