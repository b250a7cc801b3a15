-- The laws of bytes of letters alone: a word of letters is made of the words of its two halves.
-- Assumes nothing.
use mathlib.Core.List.{List}
use mathlib.Core.Path.{◌≡◌, sym, ap, ap₂, ◌∙◌}
use Prim.Native.Nat.{ℕ, ◌+◌, ◌*◌, ◌^◌, ◌<◌}
use native.Mathlib.Nat.{add_assoc, add_comm, add-zero, zero-mul, zero-add}
use lib.ListN.{get_or}
use Rattle.codes.specs.Codes.{IsWidth, tab, code}
use Rattle.codes.specs.Words.{word}
use Rattle.codes.proofs.CodeLaws.{code_lt}
use Rattle.codes.proofs.TabLaws.{length-tab, tab-ext, tab-append}
use Rattle.codes.proofs.WordLaws.{word-append}
use Rattle.runs.specs.Bytes.{letters_word}
use Rattle.runs.proofs.FreshLaws.{word-tab_lt}

module _ (w : ℕ) (ls : List ℕ) where
  pub letters_one : (i : ℕ) → letters_word w 1 ls i ≡ code w (get_or ls i 0)
  unfolding letters_word tab word
  letters_one i = rw (zero-mul, zero-add, add-zero)

  -- a word of two halves
  pub letters_two : (m i lo hi : ℕ) → lo ≡ letters_word w m ls i → hi ≡ letters_word w m ls (i + m) → lo + hi * 2 ^ (w * m) ≡ letters_word w (m + m) ls i
  unfolding letters_word
  letters_two m i lo hi p q =
      let f : ℕ → ℕ = λ k. code w (get_or ls (i + k) 0) in
      add_comm lo (hi * 2 ^ (w * m))
      ∙ ap₂ (λ (a b : ℕ). a * 2 ^ (w * m) + b) (q
      ∙ ap (word w) (tab-ext m (λ k. code w (get_or ls (i + m + k) 0)) (λ k. f (m + k)) (λ k h. ap (λ (x : ℕ). code w (get_or ls x 0)) (add_assoc i m k)))) p
      ∙ sym (ap (word w) (tab-append m m f) ∙ word-append w (tab m f) (tab m (λ k. f (m + k))) ∙ ap (λ (e : ℕ). word w (tab m (λ k. f (m + k))) * 2 ^ (w * e) + word w (tab m f)) (length-tab m f))

pub letters_lt : {w : ℕ} → IsWidth w → (n : ℕ) (ls : List ℕ) (i : ℕ) → letters_word w n ls i < 2 ^ (w * n)
unfolding letters_word
letters_lt {w} W n ls i = word-tab_lt w n (λ k. code w (get_or ls (i + k) 0)) (λ k. code_lt W (get_or ls (i + k) 0))
