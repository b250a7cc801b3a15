-- The laws of one view: what an accepted view has room for, that normalising keeps its characters, the answers of `got`, and what an accepted slice has.
-- Assumes nothing.
use Rattle.codes.proofs.AnswerLaws.{told_by}
use Rattle.codes.proofs.RefusalLaws.{Told}
use Rattle.fields.specs.Answers.{numbers_say}
use Rattle.std.specs.Prelude.{Ok}
use mathlib.Core.List.{List, [], ◌∷◌, ◌++◌}
use mathlib.Core.Path.{◌≡◌, refl, sym, ap, ◌∙◌, subst}
use Prim.Native.Nat.{ℕ, ◌+◌, ◌-◌, ◌*◌, ◌/◌, ◌%◌, ◌^◌, ◌≤◌, ◌<◌}
use native.Mathlib.Nat.{le_of_mul-le-mul_right, div-lt_iff_lt-mul, le-div_iff_mul-le, div-mul-le_self, add_assoc, div-add-mod', mul-add-div_right, mul-add-mod_self_right}
use native.Mathlib.Omega.{arith}
use lib.Dec.{ltb, leb}
use lib.ListN.{length, get_or, drop, length-drop}
use lib.Seq.{length-take-le, get_or-take, get_or-drop}
use borrow.Author.Tests.{ltb-false, leb-false}
use Rattle.codes.specs.Codes.{per, up, trailing, IsWidth, char_at, chars}
use Rattle.codes.specs.Refusals.{first, bad_index, bad_end, bad_start, view_tests}
use Rattle.codes.proofs.CharLaws.{chars-ext}
use Rattle.codes.proofs.OutcomeLaws.{passed, first_both}
use Rattle.codes.proofs.Viewed.{view_passed}
use Rattle.codes.proofs.WidthLaws.{per_pos, up-hi, up-mono, up-whole, less_trailing, chars-bound}
use Rattle.fields.specs.Fields.{slice_tests}
use Rattle.fields.specs.Spans.{Span, normal_part}

-- an accepted view of n bytes: they are not too many, and reach 48 beyond the characters
pub record Room (w n o len : ℕ) : Type 0 where
  pub small : n ≤ 2 ^ 28
  pub fits : o + len + trailing * per w ≤ n * per w

pub view_accepted : (w n o len : ℕ) → first (view_tests w n o len) ≡ Ok tt → Room w n o len
view_accepted w n o len e =
    let p = view_passed w n o len e in
    record { small = ltb-false (2 ^ 28) n p.0; fits = ltb-false (n * per w) (o + len + trailing * per w) p.1 }

module _ {w : ℕ} (W : IsWidth w) {n o len : ℕ} (room : Room w n o len) where
  -- its sums fit a machine word
  pub room_sum : o + len ≤ 2 ^ 31
  room_sum = omega (arith, chars-bound W n room.small, room.fits)

  pub room_pad : trailing ≤ n
  room_pad = le_of_mul-le-mul_right {m = trailing} {n = n} {k = per w} (omega (arith, room.fits)) (per_pos W)

  -- each character stands in the bytes
  pub room_char : (i : ℕ) → i < len → (o + i) / per w < n
  room_char i h = (div-lt_iff_lt-mul (per_pos W)).1 (omega (arith, room.fits))

  -- and the normalised part is within them
  pub room_end : up w (o + len) + trailing ≤ n
  room_end =
      let fits : o + len ≤ (n - trailing) * per w = omega (arith, room.fits, less_trailing n (per w) room_pad) in
      let h : up w (o + len) ≤ n - trailing = subst (λ (x : ℕ). up w (o + len) ≤ x) (up-whole W (n - trailing)) (up-mono W (o + len) ((n - trailing) * per w) fits) in
      omega (arith, room_pad)

  pub room_start : o / per w ≤ up w (o + len) + trailing
  room_start = let h : o / per w ≤ up w (o + len) = (le-div_iff_mul-le (per_pos W)).1 (omega (arith, div-mul-le_self o (per w))) in omega arith

-- what normalising hands back has so many bytes, and keeps the characters
module _ {w : ℕ} (W : IsWidth w) (s : Span) (o len : ℕ) (room : Room w (length s.bytes) o len) where
  abbrev bs : List ℕ
  bs = s.bytes

  normal-char : (i : ℕ) → i < len → char_at w (normal_part w s o len).bytes (o % per w + i) ≡ char_at w bs (o + i)
  unfolding char_at
  normal-char i h =
      ap (λ (x : ℕ). x / 2 ^ (w * ((o % per w + i) % per w)) % 2 ^ w)
      (get_or-take (up w (o + len) + trailing - o / per w) (drop (o / per w) bs) ((o % per w + i) / per w) 0 within
      ∙ get_or-drop (o / per w) bs ((o % per w + i) / per w) 0
      ∙ ap (λ (b : ℕ). get_or bs b 0) byte)
      ∙ ap (λ (k : ℕ). get_or bs ((o + i) / per w) 0 / 2 ^ (w * k) % 2 ^ w) digit
    where
      split : o / per w * per w + (o % per w + i) ≡ o + i
      split = sym (add_assoc (o / per w * per w) (o % per w) i) ∙ ap (λ (x : ℕ). x + i) (div-add-mod' o (per w))

      byte : o / per w + (o % per w + i) / per w ≡ (o + i) / per w
      byte = sym (mul-add-div_right (per_pos W) (o / per w) (o % per w + i)) ∙ ap (λ (x : ℕ). x / per w) split

      digit : (o % per w + i) % per w ≡ (o + i) % per w
      digit = sym (mul-add-mod_self_right (o / per w) (per w) (o % per w + i)) ∙ ap (λ (x : ℕ). x % per w) split

      within : (o % per w + i) / per w < up w (o + len) + trailing - o / per w
      within =
          let h : (o + i) / per w < up w (o + len) = (div-lt_iff_lt-mul (per_pos W)).1 (omega (arith, up-hi W (o + len))) in
          omega (arith, byte)

  pub normal-length : length (normal_part w s o len).bytes ≡ up w (o + len) + trailing - o / per w
  normal-length = length-take-le (up w (o + len) + trailing - o / per w) (drop (o / per w) bs) (rw length-drop (omega (arith, room_end W room)))

  pub normal-chars : chars w (normal_part w s o len).bytes (o % per w) len ≡ chars w s.bytes o len
  normal-chars = chars-ext w (normal_part w s o len).bytes bs (o % per w) o len normal-char

-- an index that is accepted
pub record Within (w n o len i : ℕ) : Type 0 where
  pub room : Room w n o len
  pub below : i < len

pub index_within : (w n o len i : ℕ) → first (view_tests w n o len ++ bad_index len i ∷ []) ≡ Ok tt → Within w n o len i
index_within w n o len i e =
    let b = first_both (view_tests w n o len) (bad_index len i ∷ []) e in
    record { room = view_accepted w n o len b.0; below = leb-false len i (passed (leb len i) _ _ b.1).0 }

-- a slice that is accepted
pub record Cut (w n o len start end : ℕ) : Type 0 where
  pub room : Room w n o len
  pub ends : end ≤ len
  pub starts : start ≤ end

pub slice_cut : (w n o len start end : ℕ) → first (slice_tests w n o len start end) ≡ Ok tt → Cut w n o len start end
slice_cut w n o len start end e =
    let b = first_both (view_tests w n o len) (bad_end len end ∷ bad_start start end ∷ []) e in
    let p = passed (ltb len end) _ _ b.1 in
    let q = passed (ltb end start) _ _ p.1 in
    record { room = view_accepted w n o len b.0; ends = ltb-false len end p.0; starts = ltb-false end start q.0 }

-- the numbers of a part can be made again from what they say
pub numbers_told : Told numbers_say
numbers_told = told_by (λ n. (n.offset.0, n.len.0)) _ (λ v. record { offset = record { 0 = v.0 }; len = record { 0 = v.1 } }) (λ n. refl)
