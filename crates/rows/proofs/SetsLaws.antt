-- Texts put into a buffer, one after another.
-- Assumes nothing.
use mathlib.Core.List.{List, ◌++◌}
use mathlib.Core.Path.{◌≡◌, ap, ap₂, ◌∙◌}
use Prim.Native.Nat.{ℕ}
use native.Mathlib.Omega.{arith}
use lib.ListN.{length, length-append}
use lib.Seq.{sets, length-sets}
use Rattle.fields.proofs.WriteLaws.{sets-append}
use Rattle.rows.specs.Columns.{Put}

-- one after another
pub put_then : {l a b l' l'' : List ℕ} {at m n : ℕ} → Put l at a l' m → Put l' m b l'' n → Put l at (a ++ b) l'' n
put_then {l} {a} {b} {l'} {l''} {at} {m} {n} p q =
    record {
      behind = omega (arith, length-append a b, p.behind, q.behind);
      bytes = q.bytes ∙ ap₂ (λ (x : List ℕ) (k : ℕ). sets x k b) p.bytes p.behind ∙ sets-append a b l at;
    }

pub put_length : {l a l' : List ℕ} {at m : ℕ} → Put l at a l' m → length l' ≡ length l
put_length {l} {a} {l'} {at} {m} p = ap length p.bytes ∙ length-sets l at a
