-- Each step goes byte by byte, and the rule of a byte is tested at all 256. Assumes nothing.
use mathlib.Core.List.{map}
use mathlib.Core.Path.{◌≡◌, refl, sym}
use Prim.Native.Nat.{ℕ, ◌+◌, ◌*◌, ◌/◌, ◌%◌, ◌^◌, ◌<◌}
use native.Mathlib.Omega.{arith}
use lib.Bits.{bit_and, bit_or, bit_xor}
use lib.Dec.{lit<}
use Rattle.codes.specs.Codes.{tab, strict, flag, code}
use Rattle.codes.specs.Words.{word, chars_of}
use Rattle.codes.proofs.Net.{rep}
use Rattle.runs.proofs.BytewiseLaws.{Small, and_under, each-self, each-rep, each_word, each_and, each_or, each_xor, each-add, each-shl, each-shr, each-as}
use Rattle.runs.proofs.inner.whole.flags_in.Goals as goal

-- what the code makes of x before the sum, with the mask of the bits that tell a letter
abbrev tees : ℕ → ℕ
tees x = bit_and (bit_and x 0x0404_0404_0404_0404 / 2 ^ 2) (bit_xor (bit_and x 0x0202_0202_0202_0202 / 2 ^ 1) 0x0101_0101_0101_0101)

abbrev others : ℕ → ℕ → ℕ
others mask x = bit_xor (bit_xor (bit_or (bit_and x mask) (tees x)) 0x4141_4141_4141_4141) (tees x * 2 ^ 4 % 2 ^ 64)

-- and what it makes of a byte
abbrev tee : ℕ → ℕ
tee b = bit_and (bit_and b 0x04 / 2 ^ 2) (bit_xor (bit_and b 0x02 / 2 ^ 1) 0x01)

abbrev other : ℕ → ℕ → ℕ
other mask b = bit_xor (bit_xor (bit_or (bit_and b (mask % 2 ^ 8)) (tee b)) 0x41) (tee b * 2 ^ 4)

abbrev summed : ℕ → ℕ → ℕ
summed mask b = bit_and (other mask b) 0x7f + 0x7f

abbrev rule : ℕ → ℕ → ℕ
rule mask b = bit_and (bit_or (summed mask b) (other mask b)) 0x80 / 2 ^ 7

pub overflow_add-result : goal.overflow_add-result
overflow_add-result c = record { fits = rw (and_under 0x7f7f_7f7f_7f7f_7f7f) (omega arith) }

-- the mask has eight equal bytes, no sum leaves its byte, and no bit does in the last shift: all of it is tested, as the rule is
flagged : {x : ℕ} (mask : ℕ) → x < 2 ^ 64 → mask ≡ rep 8 (mask % 2 ^ 8) 8 → Small (summed mask)
    → tab 256 (λ b. rule mask b * 2 ^ 7) ≡ tab 256 (λ b. bit_and (bit_or (summed mask b) (other mask b)) 0x80)
    → tab 256 (rule mask) ≡ tab 256 (code 1)
    → bit_and (bit_or (bit_and (others mask x) 0x7f7f_7f7f_7f7f_7f7f + 0x7f7f_7f7f_7f7f_7f7f) (others mask x)) 0x8080_8080_8080_8080 / 2 ^ 7 ≡ word 8 (map (code 1) (chars_of 8 8 x))
unfolding rep tab
flagged mask fits alike small last test =
    let x = each-self fits in
    let t =
    each_and (each-shr (each_and x (each-rep 0x04 (lit< tt))) 2 refl)
    (each_xor (each-shr (each_and x (each-rep 0x02 (lit< tt))) 1 refl) (each-rep 0x01 (lit< tt))) in
    let f = each_xor (each_xor (each_or (each_and x (each_word mask alike)) t) (each-rep 0x41 (lit< tt))) (each-shl t 4 refl) in
    let n = each_or (each-add (each_and f (each-rep 0x7f (lit< tt))) (each-rep 0x7f (lit< tt)) small) f in
    each-as (each-shr (each_and n (each-rep 0x80 (lit< tt))) 7 (sym last)) (code 1) test

pub returns : goal.returns
unfolding rep tab code flag strict
returns c = flagged _ c.ranges.x.fits (cc) (cc) (cc) (cc)
