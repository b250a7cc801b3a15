-- What holds where writing is not refused.
-- Assumes nothing.
use Rattle.std.specs.Prelude.{Ok}
use mathlib.Core.Bool.{true, false}
use mathlib.Core.Path.{◌≡◌, sym, ap, ◌∙◌}
use Prim.Native.Nat.{ℕ, ◌+◌, ◌*◌, ◌^◌, ◌≤◌, ◌<◌}
use lib.Dec.{ltb, leb, eqb}
use borrow.Author.Tests.{ltb-false, eq-eqb, ne_eqb, le-leb, lt-leb, eqb-true, leb-true, not-false}
use Rattle.codes.specs.Codes.{per, trailing}
use Rattle.codes.specs.Refusals.{first, view_tests}
use Rattle.codes.proofs.TestLaws.{first_at, first_none}
use Rattle.codes.proofs.RefusalLaws.{both}
use Rattle.forms.specs.Forms.{bad_tracks, form_size, write_tests}

pub tracks_differ : (m n : ℕ) → (m ≡ n → ⊥) → (bad_tracks m n).0 ≡ true
tracks_differ m n h = rw (ne_eqb m n h)

pub tracks_long : (m n : ℕ) → m ≡ n → 2 ^ 29 < m → (bad_tracks m n).0 ≡ true
tracks_long m n e h = rw (eq-eqb m n e, lt-leb m (2 ^ 29) h)

pub tracks_right : (m n : ℕ) → m ≡ n → m ≤ 2 ^ 29 → (bad_tracks m n).0 ≡ false
tracks_right m n e h = rw (eq-eqb m n e, le-leb m (2 ^ 29) h)

tracks_of : (m n : ℕ) → (bad_tracks m n).0 ≡ false → (m ≡ n) × (m ≤ 2 ^ 29)
tracks_of m n e = let t = both (eqb m n) (leb m (2 ^ 29)) (not-false _ e) in (eqb-true m n t.0, leb-true m (2 ^ 29) t.1)

-- what holds where writing is not refused
pub record Writable (m ao al n bo bl room : ℕ) : Type 0 where
  pub base_view : first (view_tests 2 m ao al) ≡ Ok tt
  pub flag-view : first (view_tests 1 n bo al) ≡ Ok tt
  pub same : al ≡ bl
  pub few : al ≤ 2 ^ 29
  pub fits : form_size al ≤ room

pub write_done : (m ao al n bo bl room : ℕ) → first (write_tests m ao al n bo bl room) ≡ Ok tt → Writable m ao al n bo bl room
write_done m ao al n bo bl room e =
    let h = first_none (write_tests m ao al n bo bl room) e in
    let t = tracks_of al bl h.1.1.1.1.0 in
    record {
      base_view = sym (first_at 2 (view_tests 2 m ao al) (h.0, (h.1.1.0, tt)));
      flag-view = sym (first_at 2 (view_tests 1 n bo al) (h.1.0, (ap (λ (x : ℕ). ltb (n * per 1) (bo + x + trailing * per 1)) t.0 ∙ h.1.1.1.0, tt)));
      same = t.0;
      few = t.1;
      fits = ltb-false room (form_size al) h.1.1.1.1.1.0;
    }
