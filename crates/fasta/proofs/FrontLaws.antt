-- Bytes stored at the front stand before the rest.
-- Assumes nothing.
use Rattle.std.proofs.Common.{◌≡◌, ℕ, ◌≤◌, List, ◌++◌, length, drop, ap, ◌∙◌, zero-add, arith}
use lib.Seq.{sets-eq}
use Rattle.rows.specs.Columns.{Put}
use Rattle.fasta.specs.Buffers.{onto}

pub put_place : {l vs l' : List ℕ} {n : ℕ} → Put l 0 vs l' n → n ≡ length vs
put_place {l} {vs} {l'} {n} p = p.behind ∙ zero-add (length vs)

pub put_onto : {l vs l' : List ℕ} {n : ℕ} → Put l 0 vs l' n → length vs ≤ length l → l' ≡ onto vs l
put_onto {l} {vs} {l'} {n} p h = p.bytes ∙ sets-eq vs l 0 (omega arith) ∙ ap (λ (k : ℕ). vs ++ drop k l) (zero-add (length vs))
