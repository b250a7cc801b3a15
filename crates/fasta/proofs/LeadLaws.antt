-- From state to state: what each piece of the input leads to, and what the report says of it.
-- Assumes nothing.
use Rattle.std.proofs.Common.{◌≡◌, ℕ, suc, ◌<◌, List, [], ◌∷◌, ◌++◌, length, get_or, sym, refl, ap, ◌∙◌, append_assoc, arith}
use Rattle.fasta.specs.Report.{content, row, refused_text}
use Rattle.fasta.proofs.Rest.{State, start, start_held, header, fresh, within, within_held, ended, rest, records_before, Leads}
use Rattle.fasta.proofs.RestLaws.{Without, start-blank, start-header, start-letter, start-return, held_blank, held_letter, header_run, header_end}
use Rattle.fasta.proofs.RestLaws.{within_run, within_before, within_end, held_end, fresh_header}

pub leads_none : (s : State) → Leads s [] [] s
leads_none s = record { says = λ more. refl; counts = omega arith }

pub leads_blank : Leads start (10 ∷ []) [] start
leads_blank = record { says = start-blank; counts = omega arith }

pub leads_open : Leads start (62 ∷ []) [] (header 0)
leads_open = record { says = start-header; counts = omega arith }

pub leads_refused : (b : ℕ) → (b ≡ 10 → ⊥) → (b ≡ 13 → ⊥) → (b ≡ 62 → ⊥) → Leads start (b ∷ []) (refused_text ++ (10 ∷ [])) ended
leads_refused b h r l = record { says = λ more. start-letter b more h r l; counts = omega arith }

pub leads_start_held : Leads start (13 ∷ []) [] start_held
leads_start_held = record { says = start-return; counts = omega arith }

pub leads_held_blank : Leads start_held (10 ∷ []) [] start
leads_held_blank = record { says = held_blank; counts = omega arith }

pub leads_held_refused : (b : ℕ) → (b ≡ 10 → ⊥) → Leads start_held (b ∷ []) (refused_text ++ (10 ∷ [])) ended
leads_held_refused b h = record { says = λ more. held_letter b more h; counts = omega arith }

pub leads_ended : (xs : List ℕ) → Leads ended xs [] ended
unfolding rest
leads_ended xs = record { says = λ more. refl; counts = omega arith }

pub leads_next : (i : ℕ) (ls : List ℕ) → Leads (fresh i ls) (62 ∷ []) (row (suc i) ls) (header (suc i))
leads_next i ls = record { says = fresh_header i ls; counts = omega arith }

module _ (i : ℕ) (xs : List ℕ) (p : Without 10 xs) where
  pub leads_header : Leads (header i) xs [] (header i)
  leads_header = record { says = λ more. header_run i xs more p; counts = omega arith }

  pub leads_header_end : Leads (header i) (xs ++ (10 ∷ [])) [] (fresh i [])
  leads_header_end =
      record {
        says = λ more. ap (rest (header i)) (append_assoc xs (10 ∷ []) more) ∙ header_end i xs more p;
        counts = omega arith;
      }

  pub leads_within : (ls : List ℕ) → content xs ≡ xs → Leads (within i ls) xs [] (within i (ls ++ content xs))
  leads_within ls e =
      record {
        says = λ more. within_run i ls xs p more e ∙ ap (λ (l : List ℕ). rest (within i (ls ++ l)) more) (sym e);
        counts = omega arith;
      }

  pub leads_within_held : (ls : List ℕ) → Leads (within i ls) (xs ++ (13 ∷ [])) [] (within_held i (ls ++ xs))
  unfolding rest
  leads_within_held ls =
      record {
        says = λ more. ap (rest (within i ls)) (append_assoc xs (13 ∷ []) more) ∙ within_before i ls xs p 13 more (λ e. omega arith);
        counts = omega arith;
      }

  pub leads_within_end : (ls : List ℕ) → Leads (within i ls) (xs ++ (10 ∷ [])) [] (fresh i (ls ++ content xs))
  leads_within_end ls =
      record {
        says = λ more. ap (rest (within i ls)) (append_assoc xs (10 ∷ []) more) ∙ within_end i ls xs p more;
        counts = omega arith;
      }

-- after a CR
pub leads_held_end : (i : ℕ) (ls : List ℕ) → Leads (within_held i ls) (10 ∷ []) [] (fresh i ls)
leads_held_end i ls = record { says = held_end i ls; counts = omega arith }

-- a state of which the report says what it says of another, by the first byte
pub leads_as : (s₀ s₁ s' : State) (xs written : List ℕ) → 0 < length xs → records_before s₁ ≡ records_before s₀
    → ((bs : List ℕ) → rest s₀ (get_or xs 0 0 ∷ bs) ≡ rest s₁ (get_or xs 0 0 ∷ bs)) → Leads s₁ xs written s' → Leads s₀ xs written s'
leads_as s₀ s₁ s' [] written h n e l = absurd (omega arith)
leads_as s₀ s₁ s' (b ∷ xs) written h n e l = record { says = λ more. e (xs ++ more) ∙ l.says more; counts = omega (arith, l.counts) }
