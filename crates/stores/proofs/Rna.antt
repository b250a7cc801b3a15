-- RNA: calls whose letters have U answer and leave what they do with T for U, and give one history. Assumes nothing.
use mathlib.Core.List.{List, [], ◌∷◌, map}
use mathlib.Core.Path.{◌≡◌, refl, ap, ap₂, ◌∙◌}
use Prim.Native.Nat.{ℕ}
use lib.ListN.{length, length-map}
use Rattle.codes.specs.Codes.{with_t}
use Rattle.codes.specs.Refusals.{Test, Answer, first, if_done}
use Rattle.codes.proofs.RnaLaws.{codes_with_t}
use Rattle.stores.specs.History.{Store, step, run, chars_after, history}
use Rattle.stores.specs.Stores.{Call, clear, push_ascii, push_seq, overwrite, cut, tests, outcome, Edit, still, from, over, deed, edit, buffer_after, span, old_length, answered, after}

-- a call, with T for U in its letters
abbrev pub call_with_t : Call → Call
call_with_t clear = clear
call_with_t (push_ascii ls) = push_ascii (map with_t ls)
call_with_t (push_seq bs o n) = push_seq bs o n
call_with_t (overwrite at ls) = overwrite at (map with_t ls)
call_with_t (cut n) = cut n

call_with_t_cases : (P : Call → Call → Type 0) → ((c : Call) → P c c) → ((ls : List ℕ) → P (push_ascii ls) (push_ascii (map with_t ls)))
    → ((at : ℕ) (ls : List ℕ) → P (overwrite at ls) (overwrite at (map with_t ls))) → (c : Call) → P c (call_with_t c)
call_with_t_cases P same push put clear = same clear
call_with_t_cases P same push put (push_ascii ls) = push ls
call_with_t_cases P same push put (push_seq bs o n) = same (push_seq bs o n)
call_with_t_cases P same push put (overwrite at ls) = put at ls
call_with_t_cases P same push put (cut n) = same (cut n)

pub tests-with_t : (w m len : ℕ) (c : Call) → tests w m len (call_with_t c) ≡ tests w m len c
tests-with_t w m len = call_with_t_cases (λ (c d : Call). tests w m len d ≡ tests w m len c) (λ c. refl) (λ ls. rw (length-map ls with_t)) (λ at ls. rw (length-map ls with_t))

pub deed-with_t : (w len : ℕ) (c : Call) → deed w len (call_with_t c) ≡ deed w len c
deed-with_t w len = call_with_t_cases (λ (c d : Call). deed w len d ≡ deed w len c) (λ c. refl) pushed (λ at ls. ap (over at) (codes_with_t w ls))
  where
    pushed : (ls : List ℕ) → deed w len (push_ascii (map with_t ls)) ≡ deed w len (push_ascii ls)
    pushed [] = refl
    pushed (l ∷ ls) = ap (from len) (codes_with_t w (l ∷ ls))

pub span-with_t : (w len : ℕ) (c : Call) → span w len (call_with_t c) ≡ span w len c
span-with_t w len = call_with_t_cases (λ (c d : Call). span w len d ≡ span w len c) (λ c. refl) (λ ls. rw (length-map ls with_t)) (λ at ls. refl)

pub old_length-with_t : (len : ℕ) (c : Call) → old_length len (call_with_t c) ≡ old_length len c
old_length-with_t len = call_with_t_cases (λ (c d : Call). old_length len d ≡ old_length len c) (λ c. refl) (λ ls. refl) (λ at ls. refl)

edit-with_t : (w m len : ℕ) (c : Call) → edit w m len (call_with_t c) ≡ edit w m len c
unfolding outcome
edit-with_t w m len c = ap₂ (λ (ts : List Test) (e : Edit). if_done (first ts) e still) (tests-with_t w m len c) (deed-with_t w len c)

-- what a call answers
pub answered-with_t : (w m len : ℕ) (c : Call) → answered w m len (call_with_t c) ≡ answered w m len c
unfolding outcome answered
answered-with_t w m len c = rw (tests-with_t w m len c, span-with_t w len c, old_length-with_t len c)

-- and what it leaves
pub after-with_t : (w : ℕ) (bs : List ℕ) (len : ℕ) (c : Call) → after w bs len (call_with_t c) ≡ after w bs len c
unfolding after
after-with_t w bs len c = ap (buffer_after w bs) (edit-with_t w (length bs) len c)

step_with_t : (w : ℕ) (s : Store) (c : Call) → step w s (call_with_t c) ≡ step w s c
step_with_t w s c =
    ap₂ (λ (b : List ℕ) (a : Answer (ℕ × ℕ × ℕ)). record { bytes = b; len = a.values.2 })
    (after-with_t w s.bytes s.len c)
    (answered-with_t w (length s.bytes) s.len c)

pub run-with_t : (w : ℕ) (s : Store) (cs : List Call) → run w s (map call_with_t cs) ≡ run w s cs
run-with_t w s [] = refl
run-with_t w s (c ∷ cs) = ap (λ (t : Store). run w t (map call_with_t cs)) (step_with_t w s c) ∙ run-with_t w (step w s c) cs

pub history-with_t : (w m : ℕ) (h : List ℕ) (cs : List Call) → history w m h (map call_with_t cs) ≡ history w m h cs
history-with_t w m h [] = refl
history-with_t w m h (c ∷ cs) =
    ap (λ (e : Edit). history w m (chars_after h e) (map call_with_t cs)) (edit-with_t w m (length h) c)
    ∙ history-with_t w m (chars_after h (edit w m (length h) c)) cs
