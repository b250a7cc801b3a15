-- A step with nothing to look at changes nothing, and any other takes a byte: as many steps as the part has bytes are enough for a feed. What
-- a feed takes and writes stays within the part and the text.
-- Assumes nothing.
use Rattle.std.proofs.Common.{◌≡◌, ℕ, zero, suc, ◌+◌, ◌-◌, ◌<◌, ◌≤◌, Bool, true, false, ◌⊎◌, List, [], ◌∷◌, ◌++◌, length, take, drop, sym, refl, ap, ◌∙◌, subst, inl, inr, ⊎_elim, append-nil, add-zero, add-suc, arith, length-append, length-drop, take-append-drop, length-take, take_at, ltb-false}
use Rattle.codes.specs.Codes.{pick}
use Rattle.fasta.specs.Report.{heading}
use Rattle.fasta.specs.Steps.{Move, move, stepped, too_short, next, started, ending, last_lines}
use Rattle.fasta.specs.Feeds.{Way, ahead, further, along, feeding, fed, behind, Leaves, at_end}
use Rattle.fasta.specs.declared.reader.Reader.{Reader}
use Rattle.fasta.specs.declared.reader.Stepped.{Stepped}
use Rattle.fasta.specs.declared.feeds.Fed.{Fed}
use Rattle.fasta.proofs.BoundLaws.{next_bounded, ending-length, seen-empty}
use Rattle.fasta.proofs.BufferLaws.{track_none, other_none}

module _ (part out : List ℕ) where
  -- no more is taken than the part has, and no more written than there is room for
  pub record Within (w : Way) : Type 0 where
    pub used : w.done.used ≤ length part
    pub wrote : length w.done.written ≤ length out

  further-idle : (w : Way) → ahead part out w ≡ [] → further part out w ≡ w
  unfolding further next
  further-idle w e = simp (e, add-zero, append-nil, track_none, other_none)

  further-moves : (w : Way) → (w.done.used < (further part out w).done.used) ⊎ (ahead part out w ≡ [])
  unfolding further
  further-moves w =
      cases (ahead part out w)
    where
      cases : (p : List ℕ) → (w.done.used < w.done.used + (next w.done.reader p w.bases w.flags).used) ⊎ (p ≡ [])
      cases [] = inr refl
      cases (b ∷ bs) = inl (omega (arith, (next_bounded w.done.reader (b ∷ bs) w.bases w.flags).some (omega arith)))

  pub further-within : (w : Way) → Within w → Within (further part out w)
  unfolding further next
  further-within w h =
      let c = cases (too_short (drop (length w.done.written) out)) refl in
      record { used = c.0; wrote = c.1 }
    where
      cases : (t : Bool) → too_short (drop (length w.done.written) out) ≡ t
          → (let m : Move = next w.done.reader (pick t [] (drop w.done.used part)) w.bases w.flags in
          (w.done.used + m.used ≤ length part) × (length (w.done.written ++ m.written) ≤ length out))
      cases true e = (omega (arith, h.used), omega (arith, h.wrote, length-append w.done.written []))
      cases false e =
          let b = next_bounded w.done.reader (drop w.done.used part) w.bases w.flags in
          let n = length-append w.done.written (next w.done.reader (drop w.done.used part) w.bases w.flags).written in (
            omega (arith, h.used, b.used, length-drop w.done.used part),
            omega (arith, h.wrote, b.wrote, n, ltb-false (length (drop (length w.done.written) out)) 96 e, length-drop (length w.done.written) out),
          )

  module _ (w : Way) where
    along-within : Within w → (n : ℕ) → Within (along n part out w)
    unfolding along
    along-within h zero = h
    along-within h (suc n) = further-within (along n part out w) (along-within h n)

    along-stays : (k m : ℕ) → ahead part out (along k part out w) ≡ [] → along (k + m) part out w ≡ along k part out w
    unfolding along
    along-stays k zero e = ap (λ (n : ℕ). along n part out w) (add-zero k)
    along-stays k (suc m) e =
        ap (λ (n : ℕ). along n part out w) (add-suc k m) ∙ ap (further part out) (along-stays k m e) ∙ further-idle (along k part out w) e

    -- a feed is over where its next step has nothing to look at
    pub along-over : (k : ℕ) → k ≤ length part → ahead part out (along k part out w) ≡ [] → along k part out w ≡ along (length part) part out w
    along-over k h e = let n : k + (length part - k) ≡ length part = omega arith in sym (along-stays k (length part - k) e) ∙ ap (λ (n : ℕ). along n part out w) n

    -- and as many steps as the part has bytes come there
    along-far : (n : ℕ) → (n ≤ (along n part out w).done.used) ⊎ (ahead part out (along n part out w) ≡ [])
    unfolding along
    along-far zero = inl (omega arith)
    along-far (suc n) =
        let v : Way = along n part out w in
        let far : (suc n ≤ (further part out v).done.used) ⊎ (ahead part out v ≡ []) =
        ⊎_elim (λ h. ⊎_elim (λ m. inl (omega arith)) inr (further-moves v)) inr (along-far n) in
        ⊎_elim inl (λ e. inr (ap (ahead part out) (further-idle v e) ∙ e)) far

    along_done : ahead part out (along (length part) part out w) ≡ []
    along_done =
        let v : Way = along (length part) part out w in
        ⊎_elim (λ h. seen-empty (drop v.done.used part) (drop (length v.done.written) out) (omega (arith, length-drop v.done.used part))) (λ e. e) (along-far (length part))

-- bytes written behind the first `filled`
module _ (filled : ℕ) (written text : List ℕ) (h : length written ≤ length (drop filled text)) where
  pub behind_length : length (behind filled written text) ≡ length text
  behind_length =
      omega (
        arith,
        length-append (take filled text ++ written) (drop (filled + length written) text),
        length-append (take filled text) written,
        length-take filled text,
        length-drop filled text,
        length-drop (filled + length written) text,
      )

  module _ (l : filled ≤ length text) where
    pub front_length : length (take filled text ++ written) ≡ filled + length written
    front_length = omega (arith, length-append (take filled text) written, length-take filled text)

    pub behind_front : take (filled + length written) (behind filled written text) ≡ take filled text ++ written
    behind_front = take_at (take filled text ++ written) (drop (filled + length written) text) (filled + length written) front_length

pub behind_none : (filled : ℕ) (text : List ℕ) → behind filled [] text ≡ text
behind_none filled text = simp (append-nil, add-zero, take-append-drop)

abbrev pub way : Reader → ℕ → List ℕ → List ℕ → List ℕ → List ℕ → Way
way state used written bases flags other = record { done = move state used written; bases = bases; flags = flags; other = other }

module _ (reader : Reader) (part bases flags other out : List ℕ) where
  pub first_within : Within part out (way reader 0 [] bases flags other)
  first_within = record { used = omega arith; wrote = omega arith }

  pub feeding-within : Within part out (feeding reader part bases flags other out)
  feeding-within = along-within part out (way reader 0 [] bases flags other) first_within (length part)

  -- a feed is over where the part is used up or the text is full
  pub feeding-over : ahead part out (feeding reader part bases flags other out) ≡ []
  feeding-over = along_done part out (way reader 0 [] bases flags other)

pub last_fits : (reader : Reader) (bases flags out : List ℕ) → length (last_lines reader bases flags out) ≤ length out
unfolding last_lines
last_fits reader bases flags out =
    cases (too_short out) refl
  where
    cases : (t : Bool) → too_short out ≡ t → length (pick t [] (ending reader bases flags)) ≤ length out
    cases true e = omega arith
    cases false e = omega (arith, ending-length reader bases flags, ltb-false (length out) 96 e)

-- the numbers that the calls answer stay within what was lent
pub start-bounded : (out : List ℕ) (r : Stepped) → r ≡ stepped (started out) → r.wrote ≤ length out
unfolding started
start-bounded out r e =
    subst (λ (x : Stepped). x.wrote ≤ length out) (sym e) (cases (too_short out) refl)
  where
    cases : (t : Bool) → too_short out ≡ t → length (pick t [] heading) ≤ length out
    cases true e = omega arith
    cases false e = omega (arith, ltb-false (length out) 96 e)

module _ (reader : Reader) (bases flags text : List ℕ) (filled : ℕ) (l : filled ≤ length text) where
  pub feed_bounded : (part other : List ℕ) {r : Fed} {bases' flags' other' text' : List ℕ}
      → Leaves part text filled (feeding reader part bases flags other (drop filled text)) r bases' flags' other' text' → (r.used ≤ length part) × (r.filled ≤ length text)
  feed_bounded part other s =
      let b : Within part (drop filled text) (feeding reader part bases flags other (drop filled text)) = feeding-within reader part bases flags other (drop filled text) in
      rw s.says (b.used, omega (arith, b.wrote, length-drop filled text))

  pub end_bounded : {r : Fed} → r ≡ fed filled true (at_end reader bases flags (drop filled text)) → (r.used ≡ 0) × (r.filled ≤ length text)
  end_bounded e = rw e (refl, omega (arith, last_fits reader bases flags (drop filled text), length-drop filled text))
