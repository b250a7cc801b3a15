-- The end of the input: the last row and the total are what the report still says.
-- Assumes nothing.
use Rattle.std.proofs.Common.{◌≡◌, ℕ, suc, ◌+◌, ◌^◌, ◌<◌, List, [], ◌++◌, sym, refl, ap, ◌∙◌, subst, ap₂, append-nil, arith}
use Rattle.fasta.specs.Report.{records, rows, row, total_of}
use Rattle.fasta.specs.Records.{opened, ordinal, closed}
use Rattle.fasta.specs.Steps.{ending}
use Rattle.fasta.specs.declared.reader.Record.{Record}
use Rattle.fasta.specs.declared.reader.Reader.{Reader}
use Rattle.fasta.proofs.Rest.{State, start, start_held, header, fresh, within, within_held, rest, records_before}
use Rattle.fasta.proofs.Meaning.{Holds, Reads}
use Rattle.fasta.proofs.HoldLaws.{holds_none}
use Rattle.fasta.proofs.KeptLaws.{row_held}

rest_fresh : (i : ℕ) (ls : List ℕ) → rest (fresh i ls) [] ≡ row (suc i) ls ++ total_of (suc i)
unfolding rest total_of
rest_fresh i ls = refl

rest_within : (i : ℕ) (ls : List ℕ) → rest (within i ls) [] ≡ rest (fresh i ls) []
unfolding rest
rest_within i ls = ap (λ (x : List ℕ). rows i (records x [])) (append-nil ls)

rest_header : (i : ℕ) → rest (header i) [] ≡ rest (fresh i []) []
unfolding rest
rest_header i = refl

rest_start : rest start [] ≡ total_of 0
unfolding rest total_of
rest_start = refl

module _ (bases flags : List ℕ) where
  rest_closed : (k : Record) (i : ℕ) (ls : List ℕ) → Holds k bases flags i ls → i + 1 < 2 ^ 64 → rest (fresh i ls) [] ≡ closed k bases flags
  unfolding closed
  rest_closed k i ls h l =
      let w : ordinal k ≡ suc i = omega (arith, h.number) in
      rest_fresh i ls ∙ ap₂ (λ (x y : List ℕ). x ++ y) (row_held k bases flags i ls h w) (ap total_of (sym w))

  at_end_lem : (s s₀ : State) (written : List ℕ) → s ≡ s₀ → (records_before s₀ + 1 < 2 ^ 64 → rest s₀ [] ≡ written) → records_before s + 1 < 2 ^ 64 → rest s [] ≡ written
  at_end_lem s s₀ written e f = subst (λ (x : State). records_before x + 1 < 2 ^ 64 → rest x [] ≡ written) (sym e) f

  -- a CR that is held changes nothing
  pub ending-says : (reader : Reader) (s : State) → Reads reader bases flags s → records_before s + 1 < 2 ^ 64 → rest s [] ≡ ending reader bases flags
  unfolding rest
  ending-says Reader.Start s e = at_end_lem s start (total_of 0) e (λ l. rest_start)
  ending-says Reader.StartHeld s e = at_end_lem s start_held (total_of 0) e (λ l. rest_start)
  ending-says (Reader.Header i) s e = at_end_lem s (header i) (closed (opened i) bases flags) e (λ l. rest_header i ∙ rest_closed (opened i) i [] (holds_none i bases flags) l)
  ending-says (Reader.Fresh k) s m = at_end_lem s (fresh m.0 m.1) (closed k bases flags) m.2 (λ l. rest_closed k m.0 m.1 m.3 l)
  ending-says (Reader.Within k) s m = at_end_lem s (within m.0 m.1) (closed k bases flags) m.2 (λ l. rest_within m.0 m.1 ∙ rest_closed k m.0 m.1 m.3 l)
  ending-says (Reader.WithinHeld k) s m = at_end_lem s (within_held m.0 m.1) (closed k bases flags) m.2 (λ l. rest_within m.0 m.1 ∙ rest_closed k m.0 m.1 m.3 l)
  ending-says Reader.Ended s e = λ l. ap (λ (x : State). rest x []) e
