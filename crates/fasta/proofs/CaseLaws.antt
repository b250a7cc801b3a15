-- The clauses of a call's contract, met on each of its ways out.
-- Assumes nothing.
use Rattle.std.proofs.Common.{◌≡◌, ℕ, ◌<◌, ◌≤◌, Bool, true, false, List, [], ◌∷◌, ◌++◌, length, get_or, sym, refl, ap, ◌∙◌, subst, ap₂, arith, le-ltb, lt-ltb, eq-eqb, ne_eqb}
use Rattle.codes.specs.Codes.{pick}
use Rattle.fasta.specs.Report.{is_header, row_of, total_of}
use Rattle.rows.specs.Columns.{Put}
use Rattle.fasta.specs.Records.{lengthened, ordinal, ambiguous_in, strand_in, row_from, closed, marked}
use Rattle.fasta.specs.Steps.{Move, move, stepped, seen, goes_on, in_line, in_line_held, at_line, moved, next, ending, last_lines}
use Rattle.fasta.specs.Buffers.{onto, line_track, track_after, other_after, end_marked, other_at_end}
use Rattle.fasta.specs.declared.reader.Record.{Record}
use Rattle.fasta.specs.declared.reader.Reader.{Reader}
use Rattle.fasta.specs.declared.reader.Stepped.{Stepped}
use Rattle.fasta.proofs.BoundLaws.{row_from-length, seen_all}
use Rattle.fasta.proofs.BufferLaws.{track_none, other_none}
use Rattle.fasta.proofs.LineLaws.{header_first}
use Rattle.fasta.proofs.RowLaws.{put_as}
use Rattle.rows.proofs.SetsLaws.{put_then}
use Rattle.fasta.proofs.FrontLaws.{put_place, put_onto}

next_some : (reader : Reader) (part bases flags : List ℕ) → 0 < length part → next reader part bases flags ≡ moved reader part bases flags
unfolding next
next_some reader [] bases flags h = absurd (omega arith)
next_some reader (b ∷ bs) bases flags h = refl

-- what a move and the buffers after it are to the clauses of a step
abbrev pub Clauses : Move → List ℕ → List ℕ → List ℕ → List ℕ → Stepped → List ℕ → List ℕ → List ℕ → List ℕ → Type 0
Clauses m bs fs os out r bases' flags' other' out' = (r ≡ stepped m) × ((bases' ≡ bs) × ((flags' ≡ fs) × ((other' ≡ os) × (out' ≡ onto m.written out))))

module _ (part bases flags other out : List ℕ) (r : Stepped) (bases' flags' other' out' : List ℕ) where
  -- a step that looks at p
  abbrev pub Seeing : Reader → List ℕ → Type 0
  Seeing reader p = Clauses (next reader p bases flags) (track_after 2 reader p bases) (track_after 1 reader p flags) (other_after reader p bases other) out r bases' flags' other' out'

  abbrev pub Moving : Reader → Type 0
  Moving x = Clauses (moved x part bases flags) (track_after 2 x part bases) (track_after 1 x part flags) (other_after x part bases other) out r bases' flags' other' out'

  -- with bytes to read and room to write, it is what is done in its state
  pub in_state : (reader x : Reader) → reader ≡ x → 0 < length part → 96 ≤ length out → Moving x → Seeing reader (seen part out)
  in_state reader x e h m f =
      subst (λ (y : Reader). Seeing y (seen part out)) (sym e)
      (subst (Seeing x) (sym (seen_all part out m))
      (subst (λ (v : Move). Clauses v (track_after 2 x part bases) (track_after 1 x part flags) (other_after x part bases other) out r bases' flags' other' out')
      (sym (next_some x part bases flags h)) f))

-- with nothing to look at, all stays
pub idle : (reader : Reader) (part bases flags other out : List ℕ) → seen part out ≡ []
    → Seeing part bases flags other out (record { reader = reader; used = 0; wrote = 0 }) bases flags other out reader (seen part out)
unfolding next
idle reader part bases flags other out e =
    subst (Seeing part bases flags other out (record { reader = reader; used = 0; wrote = 0 }) bases flags other out reader) (sym e)
    (refl, (sym (track_none 2 reader bases), (sym (track_none 1 reader flags), (sym (other_none reader bases other), refl))))

-- after a CR nothing is written
pub held_writes : (k : Record) (part : List ℕ) → [] ≡ (in_line_held k part).written
unfolding in_line in_line_held
held_writes k part =
    cases (goes_on part)
  where
    cases : (t : Bool) → [] ≡ (pick t (in_line (lengthened k 1) part) (move (Reader.Fresh k) 1 [])).written
    cases true = refl
    cases false = refl

-- in a record, at the start of a line
module _ (k : Record) (part bases flags other out : List ℕ) where
  abbrev AtLine : Stepped → List ℕ → List ℕ → List ℕ → List ℕ → Type 0
  AtLine r bases' flags' other' out' =
      let x : Reader = Reader.Fresh k in
      Clauses (at_line k part bases flags) (track_after 2 x part bases) (track_after 1 x part flags) (other_after x part bases other) out r bases' flags' other' out'

  row_put : (i n : ℕ) (out' : List ℕ) → i ≡ ordinal k → Put out 0 (row_of i k.count (ambiguous_in k flags) (strand_in k bases)) out' n → Put out 0 (row_from k bases flags) out' n
  unfolding row_from
  row_put i n out' e p = put_as (ap (λ (x : ℕ). row_of x k.count (ambiguous_in k flags) (strand_in k bases)) e) p

  module _ (h : 0 < length part) where
    pub closes : (i n : ℕ) (other' out' : List ℕ) → get_or part 0 0 ≡ 62 → 96 ≤ length out → i ≡ ordinal k
        → Put out 0 (row_of i k.count (ambiguous_in k flags) (strand_in k bases)) out' n → other' ≡ marked k bases other
        → AtLine (record { reader = Reader.Header i; used = 1; wrote = n }) bases flags other' out'
    unfolding at_line track_after other_after
    closes i n other' out' b m e p o =
        let t : is_header part ≡ true = header_first part h ∙ eq-eqb (get_or part 0 0) 62 b in
        let q : Put out 0 (row_from k bases flags) out' n = row_put i n out' e p in
        rw t (
          ap₂ (λ (x y : ℕ). record { reader = Reader.Header x; used = 1; wrote = y }) e (put_place q),
          (refl, (refl, (o, put_onto q (omega (arith, row_from-length k bases flags))))),
        )

    pub goes_on_lem : (r : Stepped) (bases' flags' : List ℕ) → (get_or part 0 0 ≡ 62 → ⊥)
        → (r ≡ stepped (in_line k part)) × ((bases' ≡ line_track 2 k part bases) × (flags' ≡ line_track 1 k part flags))
        → AtLine r bases' flags' other out
    unfolding at_line track_after other_after in_line
    goes_on_lem r bases' flags' b f =
        let t : is_header part ≡ false = header_first part h ∙ ne_eqb (get_or part 0 0) 62 b in
        rw t (f.0, (f.1.0, (f.1.1, (refl, refl))))

-- the end of the input
module _ (k : Record) (bases flags out : List ℕ) where
  pub closed-put : (i m n : ℕ) (out'' out' : List ℕ) → i ≡ ordinal k
      → Put out 0 (row_of i k.count (ambiguous_in k flags) (strand_in k bases)) out'' m → Put out'' m (total_of i) out' n → Put out 0 (closed k bases flags) out' n
  unfolding closed row_from
  closed-put i m n out'' out' e p q =
      subst (λ (x : ℕ). Put out 0 (row_of x k.count (ambiguous_in k flags) (strand_in k bases) ++ total_of x) out' n) e (put_then p q)

module _ (bases flags other out : List ℕ) (r : ℕ) (other' out' : List ℕ) where
  abbrev pub Ending : Reader → Type 0
  Ending reader = (r ≡ length (last_lines reader bases flags out)) × ((other' ≡ other_at_end reader bases other out) × (out' ≡ onto (last_lines reader bases flags out) out))

  abbrev pub Closing : Reader → Type 0
  Closing x = (r ≡ length (ending x bases flags)) × ((other' ≡ end_marked x bases other) × (out' ≡ onto (ending x bases flags) out))

  pub ends_in : (reader x : Reader) → reader ≡ x → 96 ≤ length out → Closing x → Ending reader
  unfolding last_lines other_at_end
  ends_in reader x e m f = subst Ending (sym e) (rw (le-ltb (length out) 96 m) f)

pub ends_none : (reader : Reader) (bases flags other out : List ℕ) → length out < 96 → Ending bases flags other out 0 other out reader
unfolding last_lines other_at_end
ends_none reader bases flags other out h = rw (lt-ltb (length out) 96 h) (refl, (refl, refl))
