-- The starred examples of the rules, proved of the definitions themselves: one list under one statement.
-- Assumes nothing.
use Rattle.std.specs.Prelude.{Ok, Err}
use mathlib.Core.List.{List, [], ◌∷◌, map}
use mathlib.Core.Path.{◌≡◌, refl}
use Prim.Native.Nat.{ℕ}
use lib.IntN.{ℤ, pos, negsuc}
use Rattle.codes.specs.Codes.{lossy, complement, flag, strict, tab}
use Rattle.codes.specs.Refusals.{answer, first, bad_word, view_tests}
use Rattle.codes.specs.Words.{word, chars_of, flip, pack, packed}
use Rattle.codes.specs.declared.refusals.Refusal.TheVariants.{BadWord, BadView}
use Rattle.forms.specs.Forms.{stored}
use Rattle.forms.specs.Numbers.{spelt}
use Rattle.stores.specs.Stores.{span, push_seq}
use Rattle.lanes.specs.Lanes.{lane, padding, steps}
use Rattle.streams.specs.Streams.{shaped}
use Rattle.order.specs.Order.{compare, common, order_number}

-- the codes of text
abbrev codes : List ℕ → List ℕ
codes = map lossy

-- what comparing two texts gives
abbrev against : List ℕ → List ℕ → ℤ × ℕ
against xs ys = (order_number (compare (codes xs) (codes ys)), common (codes xs) (codes ys))

pub starred :
    -- the lossy word of ACTG, and of ACGT
    (word 2 (codes (65 ∷ 67 ∷ 84 ∷ 71 ∷ [])) ≡ 228)
    × (word 2 (codes (65 ∷ 67 ∷ 71 ∷ 84 ∷ [])) ≡ 180)
    -- revcomp of word 4, length 2; lengths 0 and 33
    × (answer (first (bad_word 1 32 2 ∷ [])) (flip 2 (complement 2) 2 4) 0 ≡ answer (Ok tt) 11 0)
    × (answer (first (bad_word 1 32 0 ∷ [])) (flip 2 (complement 2) 0 4) 0 ≡ answer (Err BadWord) 0 0)
    × (answer (first (bad_word 1 32 33 ∷ [])) (flip 2 (complement 2) 33 4) 0 ≡ answer (Err BadWord) 0 0)
    -- rev of 1, length 3
    × (answer (first (bad_word 1 64 3 ∷ [])) (flip 1 (complement 1) 3 1) 0 ≡ answer (Ok tt) 4 0)
    -- AC against ACT, T against G, empty against empty
    × (against (65 ∷ 67 ∷ []) (65 ∷ 67 ∷ 84 ∷ []) ≡ (negsuc 0, 2))
    × (against (84 ∷ []) (71 ∷ []) ≡ (negsuc 0, 0))
    × (against [] [] ≡ (pos 0, 0))
    -- width 2, 49 bytes: offset 1 length 3, offset 2 length 3
    × (first (view_tests 2 49 1 3) ≡ Ok tt)
    × (first (view_tests 2 49 2 3) ≡ Err BadView)
    -- length 3, push_seq of a view with in-byte offset 1, length 2, at width 2 and at width 1: start, end, and the new length
    × (span 2 3 (push_seq [] 1 2) ≡ (5, 7, 7))
    × (span 1 3 (push_seq [] 1 2) ≡ (9, 11, 11))
    -- length 10, c = 3, f = 1, width 2
    × (shaped 2 10 3 1 ≡ answer (Ok tt) (4, 6, 24) (0, 0, 0))
    -- the stored form of ACGTN
    × (stored (codes (65 ∷ 67 ∷ 71 ∷ 84 ∷ 78 ∷ [])) (map flag (65 ∷ 67 ∷ 71 ∷ 84 ∷ 78 ∷ [])) ≡ 0x01 ∷ 0x05 ∷ 0xb4 ∷ 0x03 ∷ 0x10 ∷ [])
unfolding word chars_of flip compare common lane padding steps shaped stored spelt packed pack tab flag strict
starred = (refl, refl, refl, refl, refl, refl, refl, refl, refl, refl, refl, refl, refl, refl, refl)
