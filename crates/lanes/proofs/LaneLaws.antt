-- The laws of lanes: which sizes a stream that is not refused has, and which character a lane gets.
-- Assumes nothing.
use Rattle.std.specs.Prelude.{Ok}
use mathlib.Core.List.{List, [], ◌∷◌}
use mathlib.Core.Path.{◌≡◌, refl, sym, ◌∙◌}
use Prim.Native.Nat.{ℕ, ◌+◌, ◌-◌, ◌*◌, ◌/◌, ◌%◌, ◌^◌, ◌≤◌, ◌<◌}
use native.Mathlib.Nat.{mul-le-mul, mod-lt, lt_of_lt_of_le}
use native.Mathlib.Omega.{arith}
use lib.ListN.{length, get_or, get_or-eq_default}
use lib.Pow.{pow_pos, pow_mono}
use borrow.Author.Tests.{lt-ltb, le-ltb}
use Rattle.codes.specs.Codes.{IsWidth, chars}
use Rattle.codes.specs.Refusals.{first, view_tests}
use Rattle.codes.specs.Words.{word}
use Rattle.codes.proofs.CharLaws.{length-chars, get_or-chars}
use Rattle.codes.proofs.FieldLaws.{char_at-is}
use Rattle.codes.proofs.WidthLaws.{below_or}
use Rattle.codes.proofs.WordLaws.{Below}
use Rattle.codes.proofs.OutcomeLaws.{first_both}
use Rattle.codes.proofs.TestLaws.{first_behind, first_none}
use Rattle.fields.proofs.LoadLaws.{view_bits}
use Rattle.lanes.specs.Lanes.{lane, steps, bad_shape, bad_delays, lane_char, stream_tests}
use Rattle.lanes.proofs.ShapeLaws.{Shaped, shaped-is, steps-none, steps-some}

-- the tests of a stream, one by one
pub record Open (w : ℕ) (bs : List ℕ) (o len c f d e : ℕ) : Type 0 where
  pub view : first (view_tests w (length bs) o len) ≡ Ok tt
  pub shape : first (bad_shape c f ∷ []) ≡ Ok tt
  pub delays : first (bad_delays d e ∷ []) ≡ Ok tt

pub stream_open : (w : ℕ) (bs : List ℕ) (o len c f d e : ℕ) → first (stream_tests w bs o len c f d e) ≡ Ok tt → Open w bs o len c f d e
stream_open w bs o len c f d e h =
    let a = first_both (view_tests w (length bs) o len) (bad_shape c f ∷ bad_delays d e ∷ []) h in
    let b = first_both (bad_shape c f ∷ []) (bad_delays d e ∷ []) a.1 in
    record { view = a.0; shape = b.0; delays = b.1 }

-- the plain stream is not refused where one with delays is not
pub stream_plain : (w : ℕ) (bs : List ℕ) (o len c f d e : ℕ) → Open w bs o len c f d e → first (stream_tests w bs o len c f 0 0) ≡ Ok tt
stream_plain w bs o len c f d e h = sym (first_behind (view_tests w (length bs) o len) (bad_shape c f ∷ bad_delays 0 0 ∷ []) h.view 2 ((first_none (bad_shape c f ∷ []) h.shape).0, (refl, tt)))

-- lanes and steps of a stream over a view
pub record Sized (w len c f : ℕ) : Type 0 where
  pub shape : Shaped w len c f
  pub lane-few : lane w len c f ≤ 2 ^ 29
  pub steps-few : steps w len c f ≤ 2 ^ 32

pub stream_sizes : {w : ℕ} → IsWidth w → (n o len c f : ℕ) → first (view_tests w n o len) ≡ Ok tt → first (bad_shape c f ∷ []) ≡ Ok tt → Sized w len c f
stream_sizes {w} W n o len c f v h =
    let b = view_bits W n o len v in
    let s = shaped-is W len c f h in
    let l : lane w len c f ≤ 2 ^ 29 = omega (arith, b.short, s.lane-high) in
    record {
      shape = s;
      lane-few = l;
      steps-few = below_or len c (λ g. omega (arith, steps-none w len c f g)) (λ g. omega (arith, steps-some w len c f s.low g, s.high));
    }

-- a character that a lane gets: none before the delay, none past the end
module _ (cs : List ℕ) (n d j l : ℕ) where
  pub lane_char-early : j < d → 0 ≡ lane_char cs n d j l
  lane_char-early h = rw (lt-ltb j d h)

  pub lane_char-late : d ≤ j → get_or cs (l * n + (j - d)) 0 ≡ lane_char cs n d j l
  lane_char-late h = rw (le-ltb j d h)

module _ {w : ℕ} (W : IsWidth w) (bs : List ℕ) (bytes : Below 8 bs) (o len : ℕ) where
  pub char_past : (i : ℕ) → len ≤ i → 0 ≡ get_or (chars w bs o len) i 0
  char_past i h = sym (get_or-eq_default (chars w bs o len) 0 (rw (length-chars w bs o len) h))

  pub char_within : (i : ℕ) → i < len → word 8 bs / 2 ^ (w * (o + i)) % 2 ^ w ≡ get_or (chars w bs o len) i 0
  char_within i h = sym (get_or-chars w bs o len i h ∙ char_at-is W bs bytes (o + i))

pub field-small : {w : ℕ} → IsWidth w → (x : ℕ) → x % 2 ^ w < 16
field-small {w} W x = lt_of_lt_of_le (mod-lt x (pow_pos w)) (pow_mono {j = 4} W.small)

-- where a lane's character stands
pub lane_place : (n j d l : ℕ) → n ≤ 2 ^ 29 → j ≤ 2 ^ 33 → l < 8 → (l * n ≤ 2 ^ 32) × (l * n + (j - d) ≤ 2 ^ 34)
lane_place n j d l h g m =
    let p : l * n ≤ 8 * 2 ^ 29 = mul-le-mul {n₂ = 8} (omega arith) h in
    (omega arith, omega arith)
