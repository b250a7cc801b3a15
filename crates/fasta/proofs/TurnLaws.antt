-- Where the loop of a feed stands after each of its turns: so many steps along the feed's way, and what they wrote behind the bytes in use.
-- What the end of the input leaves is got the same way.
-- Assumes nothing.
use Rattle.std.proofs.Common.{◌≡◌, ℕ, suc, ◌+◌, ◌-◌, ◌<◌, ◌≤◌, true, false, ltb, List, [], ◌++◌, length, take, drop, sym, refl, ap, ◌∙◌, subst, ap₂, append_assoc, add-zero, arith, length-append, length-drop, take-append-drop, length-take-le, take_all, ltb-false}
use Rattle.codes.specs.Codes.{pick}
use Rattle.codes.proofs.Turns.{written_on}
use Rattle.fasta.specs.Steps.{Move, stepped, too_short, seen, next, last_lines}
use Rattle.fasta.specs.Buffers.{onto, track_after, other_after, other_at_end}
use Rattle.fasta.specs.Feeds.{Way, ahead, further, along, then_after, fed, behind, Leaves, at_end}
use Rattle.fasta.specs.declared.reader.Reader.{Reader}
use Rattle.fasta.specs.declared.reader.Stepped.{Stepped}
use Rattle.fasta.specs.declared.feeds.Then.{Then}
use Rattle.fasta.specs.declared.feeds.Fed.{Fed}
use Rattle.fasta.proofs.BoundLaws.{answer-bounded}
use Rattle.fasta.proofs.FeedLaws.{way, Within, first_within, further-within, along-over, behind_length, front_length, behind_none}

rest_is : (n : ℕ) (xs : List ℕ) → take (length xs - n) (drop n xs) ≡ drop n xs
rest_is n xs = take_all (length xs - n) (drop n xs) (omega (arith, length-drop n xs))

-- where the loop stands of a feed that was lent a text with `filled` bytes in use: so many steps from w on
pub record Stands (part lent : List ℕ) (filled : ℕ) (w : Way) (bases flags other text : List ℕ) (state : Reader) (used end : ℕ) : Type 0 where
  pub steps : ℕ
  pub written : List ℕ
  pub few : steps ≤ used
  pub come : along steps part (drop filled lent) w ≡ way state used written bases flags other
  pub within : Within part (drop filled lent) (way state used written bases flags other)
  pub filling : end ≡ filled + length written
  pub text-is : text ≡ behind filled written lent

-- before the first step
pub stands-first : (part lent : List ℕ) (filled : ℕ) (reader : Reader) (bases flags other : List ℕ)
    → Stands part lent filled (way reader 0 [] bases flags other) bases flags other lent reader 0 filled
unfolding along
stands-first part lent filled reader bases flags other = record {
  steps = 0;
  written = [];
  few = omega arith;
  come = refl;
  within = first_within reader part bases flags other (drop filled lent);
  filling = sym (add-zero filled);
  text-is = sym (behind_none filled lent);
}

module _ {part lent : List ℕ} {filled : ℕ} {w : Way} {bases flags other text : List ℕ} {state : Reader} {used end : ℕ} (s : Stands part lent filled w bases flags other text state used end) where
  abbrev here : Way
  here = way state used s.written bases flags other

  pub stands-length : length text ≡ length lent
  stands-length = ap length s.text-is ∙ behind_length filled s.written lent s.within.wrote

  stands-left : length (drop end text) ≡ length (drop (length s.written) (drop filled lent))
  stands-left = omega (arith, length-drop end text, length-drop (length s.written) (drop filled lent), length-drop filled lent, stands-length, s.filling)

  -- a step, which is lent the rest of the part and of the text
  module _ (l : used < length part) (room : end + 96 ≤ length text) where
    abbrev lent_part : List ℕ
    lent_part = take (length part - used) (drop used part)

    abbrev lent_out : List ℕ
    lent_out = take (length text - end) (drop end text)

    stands-ahead : seen lent_part lent_out ≡ ahead part (drop filled lent) here
    stands-ahead = ap₂ (λ (n : ℕ) (p : List ℕ). pick (ltb n 96) [] p) (ap length (rest_is end text) ∙ stands-left) (rest_is used part)

    abbrev m : Move
    m = next state (seen lent_part lent_out) bases flags

    -- what `step` ensures
    abbrev Steps : Stepped → List ℕ → List ℕ → List ℕ → List ℕ → Type 0
    Steps r bases' flags' other' out' =
        (r ≡ stepped m)
        × ((bases' ≡ track_after 2 state (seen lent_part lent_out) bases)
        × ((flags' ≡ track_after 1 state (seen lent_part lent_out) flags)
        × ((other' ≡ other_after state (seen lent_part lent_out) bases other) × (out' ≡ onto m.written lent_out))))

    module _ {r : Stepped} {bases' flags' other' out' : List ℕ} (c : Steps r bases' flags' other' out') where
      pub stands-bounded : (0 < r.used) × (used + r.used ≤ length part) × (end + r.wrote ≤ length lent)
      stands-bounded =
          let a = ap length (rest_is used part) ∙ length-drop used part in
          let b = ap length (rest_is end text) ∙ length-drop end text in
          let n = answer-bounded state lent_part bases flags lent_out r c.0 (omega arith) (omega arith) in
          (n.0, omega (arith, n.1), omega (arith, n.2, stands-length))

      come_further : further part (drop filled lent) here ≡ way r.reader (used + r.used) (s.written ++ m.written) bases' flags' other'
      unfolding further
      come_further = rw (← stands-ahead, c.0, c.1.0, c.1.1.0, c.1.1.1.0)

      end_further : end + r.wrote ≡ filled + length (s.written ++ m.written)
      end_further = omega (arith, s.filling, ap (λ (x : Stepped). x.wrote) c.0, length-append s.written m.written)

      text-further : take end text ++ (out' ++ drop (length text - end) (drop end text)) ≡ behind filled (s.written ++ m.written) lent
      text-further =
          let a = front_length filled s.written lent s.within.wrote (omega (arith, stands-length, s.filling)) ∙ sym s.filling in
          let b = s.text-is ∙ ap (λ (n : ℕ). (take filled lent ++ s.written) ++ drop n lent) (sym s.filling) in
          written_on end (length m.written) (take filled lent ++ s.written) m.written lent text out' a b c.1.1.1.1
          ∙ ap₂ (λ (l : List ℕ) (n : ℕ). l ++ drop n lent) (append_assoc (take filled lent) s.written m.written) (ap (λ (x : Stepped). end + x.wrote) (sym c.0) ∙ end_further)

      pub stands-further :
          Stands part lent filled w bases' flags' other' (take end text ++ (out' ++ drop (length text - end) (drop end text))) r.reader (used + r.used) (end + r.wrote)
      unfolding along
      stands-further = record {
        steps = suc s.steps;
        written = s.written ++ m.written;
        few = omega (arith, s.few, stands-bounded.0);
        come = ap (further part (drop filled lent)) s.come ∙ come_further;
        within = subst (Within part (drop filled lent)) come_further (further-within part (drop filled lent) here s.within);
        filling = end_further;
        text-is = text-further;
      }

  -- the end, with nothing more to look at
  pub stands-over : (then' : Then) → then' ≡ then_after state (ltb used (length part)) → seen (drop used part) (drop end text) ≡ []
      → Leaves part lent filled (along (length part) part (drop filled lent) w) (record { reader = state; used = used; filled = end; then = then' }) bases flags other text
  stands-over then' e o =
      let a : ahead part (drop filled lent) (along s.steps part (drop filled lent) w) ≡ [] =
      ap (ahead part (drop filled lent)) s.come ∙ ap (λ (n : ℕ). pick (ltb n 96) [] (drop used part)) (sym stands-left) ∙ o in
      subst (λ (v : Way). Leaves part lent filled v (record { reader = state; used = used; filled = end; then = then' }) bases flags other text)
      (sym s.come ∙ along-over part (drop filled lent) w s.steps (omega (arith, s.few, s.within.used)) a)
      (record {
        says = ap₂ (λ (n : ℕ) (t : Then). record { reader = state; used = used; filled = n; then = t }) s.filling e;
        bases = refl;
        flags = refl;
        other = refl;
        text = s.text-is;
      })

-- the end of the input, in a text with `filled` bytes in use
module _ (reader : Reader) (bases flags other text : List ℕ) (filled : ℕ) where
  abbrev Ends : Fed → List ℕ → List ℕ → Type 0
  Ends r other' text' =
      (r ≡ fed filled true (at_end reader bases flags (drop filled text)))
      × ((other' ≡ other_at_end reader bases other (drop filled text)) × (text' ≡ behind filled (at_end reader bases flags (drop filled text)).written text))

  pub end_full : too_short (drop filled text) ≡ true → (then' : Then) → then' ≡ then_after reader true
      → Ends (record { reader = reader; used = 0; filled = filled; then = then' }) other text
  unfolding last_lines other_at_end
  end_full e then' t = rw e (
    ap₂ (λ (n : ℕ) (x : Then). record { reader = reader; used = 0; filled = n; then = x }) (sym (add-zero filled)) t,
    (refl, sym (behind_none filled text)),
  )

  abbrev lent_end : List ℕ
  lent_end = take (length text - filled) (drop filled text)

  pub end_wrote : too_short (drop filled text) ≡ false → (n : ℕ) (other' out' : List ℕ)
      → (n ≡ length (last_lines reader bases flags lent_end)) × ((other' ≡ other_at_end reader bases other lent_end) × (out' ≡ onto (last_lines reader bases flags lent_end) lent_end))
      → Ends (record { reader = Reader.Ended; used = 0; filled = filled + n; then = Then.Stop }) other' (take filled text ++ (out' ++ drop (length text - filled) (drop filled text)))
  end_wrote e n other' out' c =
      let q : lent_end ≡ drop filled text = rest_is filled text in
      let l : filled ≤ length text = omega (arith, ltb-false (length (drop filled text)) 96 e, length-drop filled text) in
      let last : List ℕ = last_lines reader bases flags lent_end in (
        rw e (ap (λ (k : ℕ). record { reader = Reader.Ended; used = 0; filled = filled + k; then = Then.Stop }) (c.0 ∙ ap (λ (x : List ℕ). length (last_lines reader bases flags x)) q)),
        (
          c.1.0 ∙ ap (other_at_end reader bases other) q,
          written_on filled (length last) (take filled text) last text text out' (length-take-le filled text l) (sym (take-append-drop filled text)) c.1.1
              ∙ ap (λ (x : List ℕ). behind filled (last_lines reader bases flags x) text) q,
        ),
      )
