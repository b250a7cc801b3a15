-- Steps before any header, in a header line and after the report: what the state leads to is what the step does.
-- Assumes nothing.
use Rattle.std.proofs.Common.{◌≡◌, ℕ, ◌<◌, Bool, true, false, not, eqb, List, [], ◌∷◌, length, get_or, take, sym, refl, subst, eqb-true}
use borrow.Author.Tests.{eqb-false}
use Rattle.codes.specs.Codes.{pick}
use Rattle.fasta.specs.Records.{opened}
use Rattle.fasta.specs.Steps.{Move, move, line_end, ends_line, line_used, refusing, begun, begun_held, in_header}
use Rattle.fasta.specs.declared.reader.Reader.{Reader}
use Rattle.fasta.proofs.Rest.{State, start, start_held, header, fresh, ended}
use Rattle.fasta.proofs.Meaning.{From, Onward}
use Rattle.fasta.proofs.HoldLaws.{holds_none}
use Rattle.fasta.proofs.LeadLaws.{leads_blank, leads_open, leads_refused, leads_start_held, leads_held_blank, leads_held_refused, leads_ended, leads_header, leads_header_end}
use Rattle.fasta.proofs.LineLaws.{line_plain, line_taken, line_taken_lem, first_taken, goes_first}

pub from_one : (s₀ : State) (taken : List ℕ) (m : Move) (bases flags : List ℕ) → From s₀ taken m bases flags → (s : State) → s ≡ s₀ → From s taken m bases flags
from_one s₀ taken m bases flags f s e = subst (λ (x : State). From x taken m bases flags) (sym e) f

-- a reader that stands for one state, by what the bytes are that it takes
pub goes : (part bases flags : List ℕ) (s₀ : State) (m : Move) (taken : List ℕ) → take m.used part ≡ taken → From s₀ taken m bases flags
    → (s : State) → s ≡ s₀ → From s (take m.used part) m bases flags
goes part bases flags s₀ m taken e f = from_one s₀ (take m.used part) m bases flags (subst (λ (x : List ℕ). From s₀ x m bases flags) (sym e) f)

module _ (part bases flags : List ℕ) where
  -- before any header
  module _ (h : 0 < length part) where
    pub begun-onward : Onward Reader.Start bases flags (take (begun part).used part) (begun part) bases flags
    unfolding begun
    begun-onward =
        cases (eqb (get_or part 0 0) 10) refl (eqb (get_or part 0 0) 13) refl (eqb (get_or part 0 0) 62) refl
      where
        cases : (t : Bool) → eqb (get_or part 0 0) 10 ≡ t → (u : Bool) → eqb (get_or part 0 0) 13 ≡ u → (v : Bool) → eqb (get_or part 0 0) 62 ≡ v
            → (let m : Move = pick t (move Reader.Start 1 []) (pick u (move Reader.StartHeld 1 []) (pick v (move (Reader.Header 0) 1 []) refusing)) in
            Onward Reader.Start bases flags (take m.used part) m bases flags)
        cases true e u f v g = goes part bases flags start (move Reader.Start 1 []) (10 ∷ []) (first_taken part h 10 (eqb-true _ 10 e)) (λ l. (start, refl, leads_blank))
        cases false e true f v g = goes part bases flags start (move Reader.StartHeld 1 []) (13 ∷ []) (first_taken part h 13 (eqb-true _ 13 f)) (λ l. (start_held, refl, leads_start_held))
        cases false e false f true g = goes part bases flags start (move (Reader.Header 0) 1 []) (62 ∷ []) (first_taken part h 62 (eqb-true _ 62 g)) (λ l. (header 0, refl, leads_open))
        cases false e false f false g =
            goes part bases flags start refusing (get_or part 0 0 ∷ []) (first_taken part h (get_or part 0 0) refl)
            (λ l. (ended, refl, leads_refused (get_or part 0 0) (eqb-false _ 10 e) (eqb-false _ 13 f) (eqb-false _ 62 g)))

    pub begun_held-onward : Onward Reader.StartHeld bases flags (take (begun_held part).used part) (begun_held part) bases flags
    unfolding begun_held
    begun_held-onward =
        rw (goes_first part h) (cases (eqb (get_or part 0 0) 10) refl)
      where
        cases : (t : Bool) → eqb (get_or part 0 0) 10 ≡ t
            → (let m : Move = pick (not t) refusing (move Reader.Start 1 []) in Onward Reader.StartHeld bases flags (take m.used part) m bases flags)
        cases true e = goes part bases flags start_held (move Reader.Start 1 []) (10 ∷ []) (first_taken part h 10 (eqb-true _ 10 e)) (λ l. (start, refl, leads_held_blank))
        cases false e =
            goes part bases flags start_held refusing (get_or part 0 0 ∷ []) (first_taken part h (get_or part 0 0) refl) (λ l. (ended, refl, leads_held_refused (get_or part 0 0) (eqb-false _ 10 e)))

  -- after the report
  pub ended_onward : Onward Reader.Ended bases flags (take (length part) part) (move Reader.Ended (length part) []) bases flags
  ended_onward = from_one ended (take (length part) part) (move Reader.Ended (length part) []) bases flags (λ l. (ended, refl, leads_ended (take (length part) part)))

  -- in a header line
  pub header_onward : (i : ℕ) → Onward (Reader.Header i) bases flags (take (in_header i part).used part) (in_header i part) bases flags
  unfolding in_header
  header_onward i =
      cases (ends_line part) refl
    where
      cases : (t : Bool) → ends_line part ≡ t
          → Onward (Reader.Header i) bases flags (take (line_used part) part) (move (pick t (Reader.Fresh (opened i)) (Reader.Header i)) (line_used part) []) bases flags
      cases true e =
          goes part bases flags (header i) (move (Reader.Fresh (opened i)) (line_used part) []) (line_taken part true) (line_taken_lem part true e)
          (λ l. (fresh i [], (i, [], refl, holds_none i bases flags), leads_header_end i (take (line_end part) part) (line_plain part)))
      cases false e =
          goes part bases flags (header i) (move (Reader.Header i) (line_used part) []) (line_taken part false) (line_taken_lem part false e)
          (λ l. (header i, refl, leads_header i (take (line_end part) part) (line_plain part)))
