-- Steps in a record: within a line, at the start of one, and after a CR that is held.
-- Assumes nothing.
use Rattle.std.proofs.Common.{◌≡◌, ℕ, suc, ◌<◌, Bool, true, false, not, eqb, List, [], ◌∷◌, ◌++◌, length, get_or, take, sym, refl, ap, ◌∙◌, subst, arith, length-take, get_or-take, eqb-true}
use borrow.Author.Tests.{eqb-false}
use Rattle.codes.specs.Codes.{pick}
use Rattle.stores.specs.Stores.{push_ascii, after}
use Rattle.fasta.specs.Report.{is_header}
use Rattle.fasta.specs.Records.{lengthened, ordinal, row_from}
use Rattle.fasta.specs.Steps.{Move, move, ends_line, line_letters, ends_in_return, line_used, in_line, in_line_held, at_line}
use Rattle.fasta.specs.Buffers.{line_track, held_track, track_after}
use Rattle.fasta.specs.declared.reader.Record.{Record}
use Rattle.fasta.specs.declared.reader.Reader.{Reader}
use Rattle.fasta.proofs.Rest.{State, header, fresh, within, within_held, rest, records_before, Leads}
use Rattle.fasta.proofs.Meaning.{Sized, Holds, From, Onward}
use Rattle.fasta.proofs.HoldLaws.{push_length, lengthens}
use Rattle.fasta.proofs.RestLaws.{held_more, fresh_letters}
use Rattle.fasta.proofs.LeadLaws.{leads_next, leads_within, leads_within_held, leads_within_end, leads_held_end, leads_as}
use Rattle.fasta.proofs.LineLaws.{line_plain, letters_plain, line_returns, line_same, line_taken, line_taken_lem, first_taken, goes_first, header_first}
use Rattle.fasta.proofs.BoundLaws.{line_bounded}
use Rattle.fasta.proofs.KeptLaws.{row_held}
use Rattle.fasta.proofs.HeadSteps.{from_one, goes}

module _ (part bases flags : List ℕ) where
  -- in a record, within a line
  module _ (size : Sized bases flags) (k : Record) where
    letters : List ℕ
    letters = line_letters part

    -- the record and its tracks after the letters
    abbrev longer : Record
    longer = lengthened k (length letters)

    abbrev bases' : List ℕ
    bases' = line_track 2 k part bases

    abbrev flags' : List ℕ
    flags' = line_track 1 k part flags

    grown : (i : ℕ) (ls : List ℕ) → Holds k bases flags i ls → Holds longer bases' flags' i (ls ++ letters)
    unfolding line_track letters
    grown i ls h = lengthens k bases flags letters size i ls h

    pub line_onward : Onward (Reader.Within k) bases flags (take (in_line k part).used part) (in_line k part) bases' flags'
    unfolding in_line letters
    line_onward =
        cases (ends_line part) refl (ends_in_return part) refl
      where
        cases : (t : Bool) → ends_line part ≡ t → (u : Bool) → ends_in_return part ≡ u
            → (let m : Move = move (pick t (Reader.Fresh longer) (pick u (Reader.WithinHeld longer) (Reader.Within longer))) (line_used part) [] in
            Onward (Reader.Within k) bases flags (take (line_used part) part) m bases' flags')
        cases true e u f s m =
            goes part bases' flags' (within m.0 m.1) (move (Reader.Fresh longer) (line_used part) []) (line_taken part true) (line_taken_lem part true e)
            (λ l. (fresh m.0 (m.1 ++ letters), (m.0, m.1 ++ letters, refl, grown m.0 m.1 m.3), leads_within_end m.0 (line_taken part false) (line_plain part) m.1))
            s m.2
        cases false e true f s m =
            goes part bases' flags' (within m.0 m.1) (move (Reader.WithinHeld longer) (line_used part) []) (letters ++ (13 ∷ [])) (line_taken_lem part false e ∙ line_returns part f)
            (λ l. (within_held m.0 (m.1 ++ letters), (m.0, m.1 ++ letters, refl, grown m.0 m.1 m.3), leads_within_held m.0 letters (letters_plain part) m.1))
            s m.2
        cases false e false f s m =
            goes part bases' flags' (within m.0 m.1) (move (Reader.Within longer) (line_used part) []) (line_taken part false) (line_taken_lem part false e)
            (λ l. (within m.0 (m.1 ++ letters), (m.0, m.1 ++ letters, refl, grown m.0 m.1 m.3), leads_within m.0 (line_taken part false) (line_plain part) m.1 (line_same part f)))
            s m.2

    -- from a state of which the report says, by the first byte, what it says within a line
    line_as : 0 < length part → (s₀ : State) (i : ℕ) (ls : List ℕ) → i ≡ records_before s₀ → Holds k bases flags i ls
        → ((bs : List ℕ) → rest s₀ (get_or part 0 0 ∷ bs) ≡ rest (within i ls) (get_or part 0 0 ∷ bs))
        → (s : State) → s ≡ s₀ → From s (take (in_line k part).used part) (in_line k part) bases' flags'
    line_as h s₀ i ls n holds e =
        let m : Move = in_line k part in
        let u : 0 < m.used = (line_bounded part k).some h in
        let first : get_or part 0 0 ≡ get_or (take m.used part) 0 0 = sym (get_or-take m.used part 0 0 u) in
        from_one s₀ (take m.used part) m bases' flags'
        (λ l.
        let g = line_onward (within i ls) (i, ls, refl, holds) (omega arith) in (
          g.0,
          g.1,
          leads_as s₀ (within i ls) g.0 (take m.used part) m.written (omega (arith, length-take m.used part)) n
              (subst (λ (b : ℕ). (bs : List ℕ) → rest s₀ (b ∷ bs) ≡ rest (within i ls) (b ∷ bs)) first e) g.2,
        ))

    -- and at the start of one
    line_letters_lem : 0 < length part → is_header part ≡ false → Onward (Reader.Fresh k) bases flags (take (in_line k part).used part) (in_line k part) bases' flags'
    line_letters_lem h e s j =
        line_as h (fresh j.0 j.1) j.0 j.1 refl j.3
        (λ bs. fresh_letters j.0 (get_or part 0 0) j.1 bs (eqb-false (get_or part 0 0) 62 (sym (header_first part h) ∙ e))) s j.2

    line_next : 0 < length part → is_header part ≡ true → Onward (Reader.Fresh k) bases flags (take 1 part) (move (Reader.Header (ordinal k)) 1 (row_from k bases flags)) bases flags
    line_next h e s j =
        goes part bases flags (fresh j.0 j.1) (move (Reader.Header (ordinal k)) 1 (row_from k bases flags)) (62 ∷ [])
        (first_taken part h 62 (eqb-true (get_or part 0 0) 62 (sym (header_first part h) ∙ e)))
        (λ l.
        let w : ordinal k ≡ suc j.0 = omega (arith, j.3.number) in (
          header (suc j.0),
          ap header (sym w),
          subst (λ (x : List ℕ). Leads (fresh j.0 j.1) (62 ∷ []) x (header (suc j.0))) (row_held k bases flags j.0 j.1 j.3 w) (leads_next j.0 j.1),
        ))
        s j.2

    pub fresh_onward : 0 < length part
        → let x : Reader = Reader.Fresh k in Onward x bases flags (take (at_line k part bases flags).used part) (at_line k part bases flags) (track_after 2 x part bases) (track_after 1 x part flags)
    unfolding at_line track_after
    fresh_onward h =
        cases (is_header part) refl
      where
        cases : (t : Bool) → is_header part ≡ t
            → (let m : Move = pick t (move (Reader.Header (ordinal k)) 1 (row_from k bases flags)) (in_line k part) in
            Onward (Reader.Fresh k) bases flags (take m.used part) m (pick t bases bases') (pick t flags flags'))
        cases true e = line_next h e
        cases false e = line_letters_lem h e

-- in a record, within a line, after a CR
module _ (part bases flags : List ℕ) (size : Sized bases flags) (k : Record) (h : 0 < length part) where
  -- the record and its tracks with the CR
  abbrev returned : Record
  returned = lengthened k 1

  abbrev bases'' : List ℕ
  bases'' = after 2 bases k.count (push_ascii (13 ∷ []))

  abbrev flags'' : List ℕ
  flags'' = after 1 flags k.count (push_ascii (13 ∷ []))

  size'' : Sized bases'' flags''
  size'' = record { bases = push_length 2 bases k.count (13 ∷ []) ∙ size.bases; flags = push_length 1 flags k.count (13 ∷ []) ∙ size.flags }

  held_letters : (get_or part 0 0 ≡ 10 → ⊥)
      → Onward (Reader.WithinHeld k) bases flags (take (in_line returned part).used part) (in_line returned part) (line_track 2 returned part bases'') (line_track 1 returned part flags'')
  held_letters n s j =
      line_as part bases'' flags'' size'' returned h (within_held j.0 j.1) j.0 (j.1 ++ (13 ∷ [])) refl
      (lengthens k bases flags (13 ∷ []) size j.0 j.1 j.3) (λ bs. held_more j.0 j.1 (get_or part 0 0) bs n) s j.2

  held_end : get_or part 0 0 ≡ 10 → Onward (Reader.WithinHeld k) bases flags (take 1 part) (move (Reader.Fresh k) 1 []) bases flags
  held_end e s j =
      goes part bases flags (within_held j.0 j.1) (move (Reader.Fresh k) 1 []) (10 ∷ []) (first_taken part h 10 e)
      (λ l. (fresh j.0 j.1, (j.0, j.1, refl, j.3), leads_held_end j.0 j.1))
      s j.2

  pub held_onward : Onward (Reader.WithinHeld k) bases flags (take (in_line_held k part).used part) (in_line_held k part) (held_track 2 k part bases) (held_track 1 k part flags)
  unfolding in_line_held held_track
  held_onward =
      rw (goes_first part h) (cases (eqb (get_or part 0 0) 10) refl)
    where
      cases : (t : Bool) → eqb (get_or part 0 0) 10 ≡ t
          → (let m : Move = pick (not t) (in_line returned part) (move (Reader.Fresh k) 1 []) in
          Onward (Reader.WithinHeld k) bases flags (take m.used part) m (pick (not t) (line_track 2 returned part bases'') bases) (pick (not t) (line_track 1 returned part flags'') flags))
      cases true e = held_end (eqb-true (get_or part 0 0) 10 e)
      cases false e = held_letters (eqb-false (get_or part 0 0) 10 e)
