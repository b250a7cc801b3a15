use mathlib.Core.Path.{refl, sym, ◌∙◌, subst}
use Prim.Native.Nat.{ℕ, ◌+◌, ◌-◌, ◌*◌, ◌/◌, ◌%◌, ◌^◌, ◌≤◌, ◌<◌}
use native.Mathlib.Nat.{mod-lt}
use native.Mathlib.Omega.{arith}
use lib.ListN.{length}
use lib.Pow.{pow_pos}
use Rattle.codes.specs.Made.{Made}
use Rattle.codes.specs.Words.{word}
use Rattle.codes.proofs.MadeLaws.{made_none, made-to}
use Rattle.codes.proofs.TabLaws.{Below-of}
use Rattle.codes.specs.Widths.{width_1, width_2}
use Rattle.codes.proofs.WordLaws.{Below}
use Rattle.fields.proofs.LoadLaws.{Bits, view_bits}
use Rattle.dna.proofs.WriteLaws.{dna_byte, dna-turn, dna-all, turn_placed, last_placed, put_sets, low_flags, filled-lt}
use Rattle.dna.proofs.inner.writing.write_dna.Goals.{After-bits_at, At-loop-i, Start}
use Rattle.dna.proofs.inner.writing.write_dna.Goals as goal

view2 : (c : Start) → Bits 2 (length c.args.bases.now) c.args.ao c.args.len
view2 c = view_bits width_2 _ _ _ c.requires.len_value

view1 : (c : Start) → Bits 1 (length c.args.flags.now) c.args.bo c.args.len
view1 c = view_bits width_1 _ _ _ c.requires.len_value_2

-- what is read at a base of the view lies within the bytes
place2 : (c : Start) (done : ℕ) → done ≤ c.args.len → let a = c.args in (2 * (a.ao + done) / 8 + 9 ≤ length a.bases.now) × (a.ao + done < 2 ^ 32)
place2 c done l = let h = view2 c in (omega (arith, h.room), omega (arith, h.short))

place1 : (c : Start) (done : ℕ) → done ≤ c.args.len → let a = c.args in ((a.bo + done) / 8 + 9 ≤ length a.flags.now) × (a.bo + done < 2 ^ 32)
place1 c done l = let h = view1 c in (omega (arith, h.room), omega (arith, h.short))

bases_fit : (c : At-loop-i) → Below 8 c.args.bases.now
bases_fit c = Below-of 8 c.args.bases.now (λ i. omega (arith, c.type_inv.bases i))

flags_fit : (c : At-loop-i) → Below 8 c.args.flags.now
flags_fit c = Below-of 8 c.args.flags.now (λ i. omega (arith, c.type_inv.flags i))

pub loop-i-init : goal.loop-i-init
loop-i-init c = made_none (omega arith)

pub overflow_add-ao : goal.overflow_add-ao
overflow_add-ao c = omega (arith, place2 (goal.at.overflow_add-ao c).Start (32 * c.loop-i.i) (omega arith))

pub overflow_mul-ao : goal.overflow_mul-ao
overflow_mul-ao c = omega (arith, place2 (goal.at.overflow_mul-ao c).Start (32 * c.loop-i.i) (omega arith))

pub bits_at-x-requires : goal.bits_at-x-requires
bits_at-x-requires c = (omega arith, (place2 (goal.at.bits_at-x-requires c).Start (32 * c.loop-i.i) (omega arith)).0)

pub overflow_add-bo : goal.overflow_add-bo
overflow_add-bo c = omega (arith, place1 (goal.at.overflow_add-bo c).Start (32 * c.loop-i.i) (omega arith))

pub peek-f-requires : goal.peek-f-requires
peek-f-requires c = omega (arith, (place1 (goal.at.peek-f-requires c).Start (32 * c.loop-i.i) (omega arith)).0)

pub loop-i-preserved : goal.loop-i-preserved
loop-i-preserved c =
    let a = c.args in
    let done = 32 * c.loop-i.i in
    let to = a.at + 8 * c.loop-i.i in
    let room : to + 8 ≤ length a.out.now = omega (arith, c.requires.len_in_bounds) in
    let turn =
    dna-turn a.bases.now a.flags.now a.ao a.bo a.len a.at done to 8 c.bits_at-x.result (c.peek-f.result % 2 ^ 32) c.t_under.result c.exchange.result
    c.t_under.ensures c.exchange.ensures (omega arith) (omega arith) room
    (turn_placed a.bases.now a.flags.now a.ao a.bo a.len (bases_fit (goal.at.loop-i-preserved c).At-loop-i) (flags_fit (goal.at.loop-i-preserved c).At-loop-i) done
    c.bits_at-x.result (c.peek-f.result % 2 ^ 32) c.bits_at-x.ensures
    (low_flags a.flags.now (a.bo + done) c.peek-f.result c.peek-f.ensures) (omega arith))
    c.loop-i.invariant in
    made-to (subst (Made (λ j. dna_byte a.bases.now a.flags.now a.ao a.bo a.len (j - a.at)) a.at (to + 8) a.out.now) (sym c.store64.ensures) turn) (omega arith)

pub overflow_add-ao-2 : goal.overflow_add-ao-2
overflow_add-ao-2 c = omega (arith, place2 (goal.at.overflow_add-ao-2 c).Start (32 * (c.args.len / 32)) (omega arith))

pub overflow_mul-ao-2 : goal.overflow_mul-ao-2
overflow_mul-ao-2 c = omega (arith, place2 (goal.at.overflow_mul-ao-2 c).Start (32 * (c.args.len / 32)) (omega arith))

pub bits_at-x-requires-2 : goal.bits_at-x-requires-2
bits_at-x-requires-2 c = (omega arith, (place2 (goal.at.bits_at-x-requires-2 c).Start (32 * (c.args.len / 32)) (omega arith)).0)

pub overflow_add-bo-2 : goal.overflow_add-bo-2
overflow_add-bo-2 c = omega (arith, place1 (goal.at.overflow_add-bo-2 c).Start (32 * (c.args.len / 32)) (omega arith))

pub bits_at-requires : goal.bits_at-requires
bits_at-requires c = (omega arith, (place1 (goal.at.bits_at-requires c).Start (32 * (c.args.len / 32)) (omega arith)).0)

-- the last flags fit their count
last_flags : (c : After-bits_at)
    → c.bits_at.result < 2 ^ (c.args.len % 32)
last_flags c =
    let a = c.args in
    let left = a.len % 32 in
    subst (λ (y : ℕ). y < 2 ^ left) (sym c.bits_at.ensures) (mod-lt (word 8 a.flags.now / 2 ^ (a.bo + 32 * (a.len / 32))) (pow_pos left))

pub t_under-requires-2 : goal.t_under-requires-2
t_under-requires-2 c = filled-lt c.bits_at.result _ _ (omega arith) (last_flags c) refl

pub returns : goal.returns
returns c =
    let l = c.loop-i in
    let a = c.args in
    let done = 32 * (a.len / 32) in
    let to = a.at + 8 * (a.len / 32) in
    let left = a.len % 32 in
    let k = (left + 3) / 4 in
    let f = dna_byte a.bases.now a.flags.now a.ao a.bo a.len in
    let small : left < 32 = omega arith in
    let fits : to + k ≤ length a.out.now = omega (arith, c.requires.len_in_bounds) in
    let turn =
    dna-turn a.bases.now a.flags.now a.ao a.bo a.len a.at done to k c.bits_at-x-2.result _ c.t_under-2.result c.exchange-2.result
    c.t_under-2.ensures c.exchange-2.ensures (omega arith) (omega arith) fits
    (last_placed a.bases.now a.flags.now a.ao a.bo a.len (bases_fit (goal.at.returns c).At-loop-i) (flags_fit (goal.at.returns c).At-loop-i) done left c.bits_at-x-2.result
    c.bits_at.result _ c.bits_at-x-2.ensures
    c.bits_at.ensures (omega arith) small refl)
    (made-to l.invariant (omega arith)) in
    let out = c.put_bytes.ensures ∙ put_sets k c.exchange-2.result to l.out (omega (arith, l.invariant.long)) in
    dna-all a.bases.now a.flags.now a.ao a.bo a.len a.at c.requires.len_in_bounds
    (made-to (subst (Made (λ j. f (j - a.at)) a.at (to + k) a.out.now) (sym out) turn) (omega arith))
