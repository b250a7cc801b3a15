-- Lines that end in LF and lines that end in CR LF count alike: a text in which any choice of its LFs have gained a CR, each an LF that no CR stands
-- before, has the report that it had.
-- Assumes nothing.
use Rattle.std.proofs.Common.{◌≡◌, ℕ, Bool, true, false, eqb, List, [], ◌∷◌, ◌++◌, map, sym, refl, ap, ◌∙◌, arith, eqb-true}
use Rattle.fasta.specs.Report.{heading, longer, lines, content, table, report}
use Rattle.fasta.proofs.ContentLaws.{content-after}

-- the second text is the first, in which some LFs that no CR stands before have gained one; the number is the byte before them
pub data Gained : ℕ → List ℕ → List ℕ → Type 0 where
  end : {a : ℕ} → Gained a [] []
  kept : {a b : ℕ} {s t : List ℕ} → Gained b s t → Gained a (b ∷ s) (b ∷ t)
  gained : {a : ℕ} {s t : List ℕ} → (a ≡ 13 → ⊥) → Gained 10 s t → Gained a (10 ∷ s) (13 ∷ 10 ∷ t)

-- what two such texts share: the contents of their lines, and with the byte before them too
record Shared (a : ℕ) (s t : List ℕ) : Type 0 where
  after : map content (longer a (lines t)) ≡ map content (longer a (lines s))
  alone : (a ≡ 13 → ⊥) → map content (lines t) ≡ map content (lines s)

content-longer : (a b : ℕ) (L : List (List ℕ)) → map content (longer a (longer b L)) ≡ longer a (map content (longer b L))
unfolding content
content-longer a b [] = refl
content-longer a b (l ∷ L) = refl

shared_kept : {a b : ℕ} {s t : List ℕ} → Shared b s t → Shared a (b ∷ s) (b ∷ t)
unfolding lines content
shared_kept {a} {b} {s} {t} h =
    cases (eqb b 10) refl
  where
    cases : (x : Bool) → eqb b 10 ≡ x → Shared a (b ∷ s) (b ∷ t)
    cases true e =
        let f : map content (lines t) ≡ map content (lines s) = h.alone (λ z. omega (arith, eqb-true b 10 e)) in
        record { after = rw e (ap (λ (L : List (List ℕ)). content (a ∷ []) ∷ L) f); alone = λ z. rw e (ap (λ (L : List (List ℕ)). [] ∷ L) f) }
    cases false e =
        record { after = rw e (content-longer a b (lines t) ∙ ap (longer a) h.after ∙ sym (content-longer a b (lines s))); alone = λ z. rw e h.after }

shared : {a : ℕ} {s t : List ℕ} → Gained a s t → Shared a s t
unfolding lines content
shared end = record { after = refl; alone = λ h. refl }
shared (kept g) = shared_kept (shared g)
shared {a} (gained {s} {t} h g) =
    let e : map content (lines t) ≡ map content (lines s) = (shared g).alone (λ z. omega arith) in
    record { after = ap (λ (L : List (List ℕ)). (a ∷ []) ∷ L) e ∙ ap (λ (l : List ℕ). l ∷ map content (lines s)) (sym (content-after a [] h)); alone = λ z. ap (λ (L : List (List ℕ)). [] ∷ L) e }

-- a text begins as a line does
pub line_ends : {s t : List ℕ} → Gained 10 s t → report t ≡ report s
unfolding report
line_ends g = ap (λ (L : List (List ℕ)). heading ++ table L) ((shared g).alone (λ z. omega arith))
